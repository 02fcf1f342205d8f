-- Whatever names vote is the vote by the rules: a name that is taken is taken in the machine too, or a hidden transaction may have it.
use Rattle.qs_world_lawful.proofs.Words.{◌≡◌, ◌⊎◌, inl, inr, ℕ, Bool, true, false, List, [], ◌∷◌, Option, Some, None, Less, Equal, refl, sym, ap, subst, ◌∙◌, not, ◌&&◌, ◌||◌, is_none, is_some, if◌then◌else◌, unwrap_or, filter, list_all, list_any, lookup, is_at, same_tid, tid_cmp, Tid, same_bytes-self, same_bytes-true, same_tid-true, same_tid-self, at_exact, tid_itself, IsBelow, IsRising, BookValue, find_transaction, bound_names, TransactionValue, changes_vote, vote_of, names_no, TableValue}
use Rattle.qs_world_lawful.proofs.Words.{has_changes, is_change_of, nothing_held, share_of, File, Op, Put, Append, Del, Get, Listing, Note, Notes, Bind, Find, Timer, Left, Window, Title, Keep, Fetch, Lend, Extra, ServerKind, Share, Vote, HoldsDoubts, doubted, has_name, is_bind, Holds, HoldsTable, is_seen, of_seen, or-true, and_from, false≢true}
use Rattle.std.specs.List.{AllByRecursion}
use Rattle.qs_base.specs.Order.{same_bytes}
use Rattle.qs_book_machine.specs.Clauses.{is_name}
use Rattle.qs_book_machine.specs.Nodes.{is_doubt}
use Rattle.qs_ops.specs.Files.{file_text}
use Rattle.qs_ops.specs.Server.{names_vote}
use Rattle.qs_ops.specs.Table.{changes_name, is_claim, is_taken, least_taken, least_taken_in}
use Rattle.qs_ops.specs.declared.vote.Reason.TheVariants as reasons
use Rattle.qs_ops.specs.declared.vote.Vote.TheVariants as votes
use Rattle.qs_node_step.specs.State.{NodeValue}
use Rattle.qs_world_lawful.proofs.Tables.{own_share}
use Rattle.qs_world_lawful.proofs.Taken.{IsLeast, least, none_taken}
use Rattle.qs_world_lawful.proofs.VoteRules.{IsRight, frame, right, same_changes}

-- ---- each share is found under its transaction

below_apart : (t u : Tid) → tid_cmp t u ≡ Less → is_at (tid_cmp u) t ≡ false
below_apart t u less = by (is_at (tid_cmp u) t) refl
  where
    no : Less ≡ Equal → ⊥
    no e = cc e

    by : (b : Bool) → is_at (tid_cmp u) t ≡ b → b ≡ false
    by false is = refl
    by true is = absurd (no (sym less ∙ subst (λ (w : Tid). tid_cmp t w ≡ Equal) (sym (at_exact u t is)) (tid_itself t)))

abbrev IsFoundIn : List (Tid × Share) → Tid × Share → Type 0
IsFoundIn es e = lookup (is_at (tid_cmp e.0)) es ≡ Some e.1

found_later : (e : Tid × Share) (es fs : List (Tid × Share)) → IsBelow tid_cmp e.0 fs → AllByRecursion (IsFoundIn es) fs → AllByRecursion (IsFoundIn (e ∷ es)) fs
found_later e es [] below all = tt
found_later e es (f ∷ fs) below all = (rw (below_apart e.0 f.0 below.0) all.0, found_later e es fs below.1 all.1)

all_found : (es : List (Tid × Share)) → IsRising tid_cmp es → AllByRecursion (IsFoundIn es) es
all_found [] rising = tt
all_found (e ∷ es) rising = (rw (tid_itself e.0) refl, found_later e es es rising.0 (all_found es rising.1))

-- ---- a change of a name, where all that is pending binds

among : (name : List ℕ) (ops : List Op) → list_all is_bind ops ≡ true → list_any (is_change_of name) ops ≡ true → has_name name (bound_names ops) ≡ true
among name [] all is = is
among name (op ∷ ops) all is = by op all is (among name ops)
  where
    turn : (n : List ℕ) → same_bytes n name ≡ true → same_bytes name n ≡ true
    turn n e = subst (λ (w : List ℕ). same_bytes w n ≡ true) (same_bytes-true n name e) (same_bytes-self n)

    by : (o : Op) → (is_bind o && list_all is_bind ops) ≡ true → (is_change_of name o || list_any (is_change_of name) ops) ≡ true → (list_all is_bind ops ≡ true → list_any (is_change_of name) ops ≡ true → has_name name (bound_names ops) ≡ true)
        → has_name name (bound_names (o ∷ ops)) ≡ true
    by (Bind n text) a i more = of (same_bytes n name) refl i
      where
        of : (b : Bool) → same_bytes n name ≡ b → (b || list_any (is_change_of name) ops) ≡ true → (same_bytes name n || has_name name (bound_names ops)) ≡ true
        of true e j = rw (turn n e) refl
        of false e j = rw (more a j) (or-true (same_bytes name n))
    by (Put n text) a i more = absurd (false≢true a)
    by (Append n text) a i more = absurd (false≢true a)
    by (Del n) a i more = absurd (false≢true a)
    by (Get n) a i more = absurd (false≢true a)
    by Listing a i more = absurd (false≢true a)
    by (Note text) a i more = absurd (false≢true a)
    by Notes a i more = absurd (false≢true a)
    by (Find n) a i more = absurd (false≢true a)
    by (Timer n ticks) a i more = absurd (false≢true a)
    by (Left n) a i more = absurd (false≢true a)
    by (Window n text) a i more = absurd (false≢true a)
    by (Title n) a i more = absurd (false≢true a)
    by (Keep n text) a i more = absurd (false≢true a)
    by (Fetch n) a i more = absurd (false≢true a)
    by (Lend client) a i more = absurd (false≢true a)
    by (Extra code text) a i more = absurd (false≢true a)

-- a name in doubt for another is doubtful
doubt_found : (me t : Tid) (name : List ℕ) (doubts : List (Tid × List (List ℕ))) → same_tid me t ≡ false → has_name name (doubted doubts t) ≡ true → list_any (is_doubt me name) doubts ≡ true
doubt_found me t name [] other has = absurd (false≢true has)
doubt_found me t name (e ∷ es) other has = by (is_at (tid_cmp t) e.0) refl (doubt_found me t name es other)
  where
    turned : (u : Tid) → t ≡ u → same_tid u me ≡ false
    turned u is = of (same_tid u me) refl
      where
        of : (b : Bool) → same_tid u me ≡ b → b ≡ false
        of false e = refl
        of true e = absurd (false≢true (sym other ∙ subst (λ (w : Tid). same_tid me w ≡ true) (sym (same_tid-true u me e) ∙ sym is) (same_tid-self me)))

    by : (b : Bool) → is_at (tid_cmp t) e.0 ≡ b → (has_name name (doubted es t) ≡ true → list_any (is_doubt me name) es ≡ true) → list_any (is_doubt me name) (e ∷ es) ≡ true
    by true is more = rw (turned e.0 (at_exact t e.0 is), rw is at has) refl
    by false is more = rw (more (rw is at has)) (or-true (is_doubt me name e))

-- ---- what is taken at names, and in the machine

module _ (seen : Tid → Bool) (doubts : List (Tid × List (List ℕ))) (kept held : TableValue) (t : HoldsTable seen kept held) (d : HoldsDoubts seen doubts held) (me : Tid) where
  abbrev claim_in : List ℕ → List (Tid × Share) → Bool
  claim_in name es = list_any (is_claim me name) es

  fewer : (name : List ℕ) (es : List (Tid × Share)) → claim_in name (filter (of_seen seen) es) ≡ true → claim_in name es ≡ true
  fewer name [] is = is
  fewer name (e ∷ es) is = by (seen e.0) refl (fewer name es)
    where
      either : (a b c : Bool) → (a || b) ≡ true → (b ≡ true → c ≡ true) → (a || c) ≡ true
      either true b c e f = refl
      either false b c e f = f e

      by : (b : Bool) → seen e.0 ≡ b → (claim_in name (filter (of_seen seen) es) ≡ true → claim_in name es ≡ true) → claim_in name (e ∷ es) ≡ true
      by true has more = either (is_claim me name e) (claim_in name (filter (of_seen seen) es)) (claim_in name es) (rw has at is) more
      by false has more = rw (more (rw has at is)) (or-true (is_claim me name e))

  pub taken_more : (name : List ℕ) → is_taken kept me name ≡ true → is_taken held me name ≡ true
  taken_more name is = of (is_some (file_text kept.contents name)) refl is
    where
      bound_too : is_some (file_text kept.contents name) ≡ is_some (file_text held.contents name)
      bound_too = ap (λ (c : List File). is_some (file_text c name)) t.contents

      of : (b : Bool) → is_some (file_text kept.contents name) ≡ b → (b || claim_in name kept.shares) ≡ true → is_taken held me name ≡ true
      of true has e = ap (λ (b : Bool). b || claim_in name held.shares) (sym bound_too ∙ has)
      of false has e = ap (λ (b : Bool). is_some (file_text held.contents name) || b) (fewer name held.shares (sym (ap (claim_in name) t.shares) ∙ e)) ∙ or-true (is_some (file_text held.contents name))

  -- a claim that the machine does not see is a doubt of it
  claimed : (name : List ℕ) (es : List (Tid × Share)) → AllByRecursion (IsFoundIn held.shares) es → claim_in name es ≡ true → (claim_in name (filter (of_seen seen) es) ≡ true) ⊎ (list_any (is_doubt me name) doubts ≡ true)
  claimed name [] all is = absurd (false≢true is)
  claimed name (e ∷ es) all is = by (is_claim me name e) refl (seen e.0) refl (claimed name es all.1)
    where
      clause_parts : (a b c : Bool) → (not a && (b && c)) ≡ true → (a ≡ false) × (c ≡ true)
      clause_parts false true true e = (refl, refl)
      clause_parts true b c e = absurd (false≢true e)
      clause_parts false false c e = absurd (false≢true e)
      clause_parts false true false e = absurd (false≢true e)

      hidden_doubt : is_claim me name e ≡ true → seen e.0 ≡ false → list_any (is_doubt me name) doubts ≡ true
      hidden_doubt has hid =
          let p = clause_parts (same_tid me e.0) e.1.voted (changes_name name e.1) has in
          doubt_found me e.0 name doubts p.0 (d.hidden e.0 hid name (among name (share_of held e.0).changes (d.binds e.0)
          (subst (λ (s : Share). changes_name name s ≡ true) (sym (ap (λ (o : Option Share). unwrap_or o nothing_held) all.0)) p.1)))

      by : (a : Bool) → is_claim me name e ≡ a → (b : Bool) → seen e.0 ≡ b
          → (claim_in name es ≡ true → (claim_in name (filter (of_seen seen) es) ≡ true) ⊎ (list_any (is_doubt me name) doubts ≡ true))
          → (claim_in name (filter (of_seen seen) (e ∷ es)) ≡ true) ⊎ (list_any (is_doubt me name) doubts ≡ true)
      by true has false hid more = inr (hidden_doubt has hid)
      by true has true sees more = inl (rw sees (rw has refl))
      by false has false hid more = of (more (rw has at is))
        where
          of : (claim_in name (filter (of_seen seen) es) ≡ true) ⊎ (list_any (is_doubt me name) doubts ≡ true) → (claim_in name (filter (of_seen seen) (e ∷ es)) ≡ true) ⊎ (list_any (is_doubt me name) doubts ≡ true)
          of (inl more_is) = inl (rw hid more_is)
          of (inr in_doubt) = inr in_doubt
      by false has true sees more = of (more (rw has at is))
        where
          of : (claim_in name (filter (of_seen seen) es) ≡ true) ⊎ (list_any (is_doubt me name) doubts ≡ true) → (claim_in name (filter (of_seen seen) (e ∷ es)) ≡ true) ⊎ (list_any (is_doubt me name) doubts ≡ true)
          of (inl more_is) = inl (rw sees (rw more_is (or-true (is_claim me name e))))
          of (inr in_doubt) = inr in_doubt

  pub taken_or_doubt : (name : List ℕ) → is_taken held me name ≡ true → (is_taken kept me name ≡ true) ⊎ (list_any (is_doubt me name) doubts ≡ true)
  taken_or_doubt name is = of (is_some (file_text held.contents name)) refl is
    where
      of : (b : Bool) → is_some (file_text held.contents name) ≡ b → (b || claim_in name held.shares) ≡ true → (is_taken kept me name ≡ true) ⊎ (list_any (is_doubt me name) doubts ≡ true)
      of true has e = inl (ap (λ (b : Bool). b || claim_in name kept.shares) (ap (λ (c : List File). is_some (file_text c name)) t.contents ∙ has))
      of false has e = by (claimed name held.shares (all_found held.shares t.rising) e)
        where
          by : (claim_in name (filter (of_seen seen) held.shares) ≡ true) ⊎ (list_any (is_doubt me name) doubts ≡ true) → (is_taken kept me name ≡ true) ⊎ (list_any (is_doubt me name) doubts ≡ true)
          by (inl c) = inl (ap (λ (b : Bool). is_some (file_text kept.contents name) || b) (ap (claim_in name) t.shares ∙ c) ∙ or-true (is_some (file_text kept.contents name)))
          by (inr c) = inr c

-- ---- the vote

module _ (stamp : ℕ) (book : BookValue) (node : NodeValue) (h : Holds stamp book node) (tid : Tid) (tx : TransactionValue) (found : find_transaction book tid ≡ Some tx) where
  abbrev held : TableValue
  held = node.servers.names.table

  abbrev kept : TableValue
  kept = h.state.names

  abbrev seen : Tid → Bool
  seen = is_seen book node.setting.node names_no

  abbrev changes : List Op
  changes = (share_of held tid).changes

  abbrev IsNamesRight : Vote → Type 0
  IsNamesRight ballot = IsRight stamp book node h tid tx found names_no ballot

  pub names_right : (free : ℕ) → IsNamesRight (vote_of node.servers.names tid free (frame stamp book node h tid tx found))
  names_right free = by (has_changes held tid) refl
    where
      some : has_changes held tid ≡ true → seen tid ≡ true → has_changes kept tid ≡ true
      some is mine = same_changes stamp book node h tid tx found names_no kept held h.servers.names mine ∙ is

      own_least : seen tid ≡ true → least_taken kept tid ≡ least_taken_in kept tid changes
      own_least mine = ap (λ (s : Share). least_taken_in kept tid s.changes) (own_share seen kept held h.servers.names tid mine)

      named : has_changes held tid ≡ true → (name : List ℕ) → IsLeast kept held tid (taken_more seen h.state.doubts kept held h.servers.names h.servers.doubts tid) name changes → seen tid ≡ true
          → (has_changes kept tid && (is_name name (least_taken kept tid) || (changes_name name (share_of kept tid) && list_any (is_doubt tid name) h.state.doubts))) ≡ true
      named is name l mine = and_from _ _ (some is mine) (of (taken_or_doubt seen h.state.doubts kept held h.servers.names h.servers.doubts tid name l.taken))
        where
          of : (is_taken kept tid name ≡ true) ⊎ (list_any (is_doubt tid name) h.state.doubts ≡ true)
              → (is_name name (least_taken kept tid) || (changes_name name (share_of kept tid) && list_any (is_doubt tid name) h.state.doubts)) ≡ true
          of (inl taken) = ap (λ (b : Bool). b || (changes_name name (share_of kept tid) && list_any (is_doubt tid name) h.state.doubts)) (ap (is_name name) (own_least mine ∙ l.same taken) ∙ same_bytes-self name)
          of (inr doubt) = ap (λ (b : Bool). is_name name (least_taken kept tid) || b) (and_from _ _ (ap (changes_name name) (own_share seen kept held h.servers.names tid mine) ∙ l.binds) doubt) ∙ or-true (is_name name (least_taken kept tid))

      of : has_changes held tid ≡ true → (o : Option (List ℕ)) → least_taken held tid ≡ o → IsNamesRight (names_vote o)
      of is None none = right stamp book node h tid tx found names_no votes.Volatile refl
          (λ mine. and_from _ _ (some is mine) (ap is_none (own_least mine ∙ none_taken kept held tid (taken_more seen h.state.doubts kept held h.servers.names h.servers.doubts tid) changes none)))
      of is (Some name) least_is = right stamp book node h tid tx found names_no (votes.Abort (reasons.Taken name)) refl
          (named is name (least kept held tid (taken_more seen h.state.doubts kept held h.servers.names h.servers.doubts tid) changes name least_is))

      by : (b : Bool) → has_changes held tid ≡ b → IsNamesRight (if b then changes_vote node.servers.names.kind held tid free (frame stamp book node h tid tx found) else votes.ReadOnly)
      by false is = right stamp book node h tid tx found names_no votes.ReadOnly refl (λ mine. ap not (same_changes stamp book node h tid tx found names_no kept held h.servers.names mine ∙ is))
      by true is = subst (λ (k : ServerKind). IsNamesRight (changes_vote k held tid free (frame stamp book node h tid tx found))) (sym h.servers.kinds.names) (of is (least_taken held tid) refl)
