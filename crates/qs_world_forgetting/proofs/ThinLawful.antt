-- A restart that finds nothing of what is over is lawful where one that finds all is.
use Rattle.std.proofs.Common.{◌≡◌, ◌∙◌, ℕ, Bool, true, false, List, [], ◌∷◌, refl, sym, ap, subst, Option, Some, None}
use Rattle.std.specs.Prelude.{not, ◌&&◌, ◌||◌, nat_lt, if◌then◌else◌}
use Rattle.std.specs.List.{filter, list_any, list_all}
use Rattle.std.proofs.lemmas.Bool.{and_from, not-true, not_from_false}
use Rattle.qs_base.specs.Order.{same_tid}
use Rattle.qs_base.specs.declared.identifiers.Tid.{Tid}
use Rattle.qs_base.proofs.Same.{same_tid-self, same_tid-true}
use Rattle.qs_base_lemmas.proofs.Tests.{and_first, and_last}
use Rattle.qs_book_journal.specs.declared.entry.Found.{Found}
use Rattle.qs_book_machine.specs.Restart.{member_at, is_among, is_on_record, is_new_vote, was_applied, is_found_vote, is_same_vote, votes_once, is_found_as, may_be_lost, is_kept, is_found_commit, broken_restart}
use Rattle.qs_book_machine.specs.Transaction.{TransactionValue, has_learnt}
use Rattle.qs_book_machine.specs.Book.{BookValue, find_transaction}
use Rattle.qs_book_machine.specs.Nodes.{NodeValue, is_recoverable}
use Rattle.qs_book_machine.specs.declared.state.OnRecord.{OnRecord}
use Rattle.qs_book_machine.specs.declared.state.Voter.{Voter}
use Rattle.qs_restart_state.proofs.Lists.{any_filtered, none_within}

clauses : Bool → Bool → Bool → Bool → Option ℕ
clauses a b c d = if not a then Some 110 else if not b then Some 111 else if not c then Some 112 else if not d then Some 113 else None

all_hold : (a b c d : Bool) → clauses a b c d ≡ None → (a ≡ true) × (b ≡ true) × (c ≡ true) × (d ≡ true)
unfolding clauses
all_hold true true true true h = (refl, refl, refl, refl)
all_hold true true true false h = absurd (cc h)
all_hold true true false d h = absurd (cc h)
all_hold true false c d h = absurd (cc h)
all_hold false b c d h = absurd (cc h)

none_broken : (a b c d : Bool) → a ≡ true → b ≡ true → c ≡ true → d ≡ true → clauses a b c d ≡ None
unfolding clauses
none_broken true true true true p q r s = refl
none_broken true true true false p q r s = absurd (cc s)
none_broken true true false d p q r s = absurd (cc r)
none_broken true false c d p q r s = absurd (cc q)
none_broken false b c d p q r s = absurd (cc p)

-- ---- a restart that finds less: nothing of what is over

module _ (here : ℕ) (book : BookValue) (node : NodeValue) (over : Tid → Bool) (pend : List Found) (done fewer : List Tid)
    (same : filter (λ (t : Tid). not (over t)) fewer ≡ filter (λ (t : Tid). not (over t)) done)
    (within : (t : Tid) → is_among fewer t ≡ true → is_among done t ≡ true)
    (nobody : list_all (λ (entry : Voter × OnRecord). not (over entry.0.tid)) node.records ≡ true) where
  abbrev is_left : Found → Bool
  is_left found = not (over found.tid)

  abbrev left : List Found
  left = filter is_left pend

  far : (t u : Tid) → over t ≡ false → over u ≡ true → same_tid t u ≡ false
  far t u off on = by (same_tid t u) refl
    where
      by : (b : Bool) → same_tid t u ≡ b → b ≡ false
      by false is = refl
      by true is = absurd (let clash : false ≡ true = sym off ∙ (ap over (same_tid-true t u is) ∙ on) in cc clash)

  among_same : (t : Tid) → over t ≡ false → is_among fewer t ≡ is_among done t
  among_same t off = sym (any_filtered (same_tid t) over fewer (λ u on. far t u off on)) ∙ (ap (list_any (same_tid t)) same ∙ any_filtered (same_tid t) over done (λ u on. far t u off on))

  -- 111
  applied_same : (found : Found) → over found.tid ≡ false → (o : Option TransactionValue) → was_applied here node fewer o found ≡ was_applied here node done o found
  applied_same found off None = refl
  applied_same found off (Some tx) = ap (λ (b : Bool). b && (has_learnt tx (member_at here found.server.0) || is_among node.committed found.tid)) (among_same found.tid off)

  vote_same : (found : Found) → over found.tid ≡ false → is_found_vote here book node fewer found ≡ is_found_vote here book node done found
  vote_same found off = ap (λ (b : Bool). is_recoverable found.server.0 && (is_on_record node found || (is_new_vote here node (find_transaction book found.tid) found || b))) (applied_same found off (find_transaction book found.tid))

  votes_left : (founds : List Found) → list_all (is_found_vote here book node done) founds ≡ true → list_all (is_found_vote here book node fewer) (filter is_left founds) ≡ true
  votes_left [] h = refl
  votes_left (f ∷ founds) h = by (over f.tid) refl (and_first (is_found_vote here book node done f) _ h) (votes_left founds (and_last (is_found_vote here book node done f) _ h))
    where
      skip : over f.tid ≡ true → filter is_left (f ∷ founds) ≡ filter is_left founds
      skip is = rw is refl

      take : over f.tid ≡ false → filter is_left (f ∷ founds) ≡ f ∷ filter is_left founds
      take is = rw is refl

      by : (b : Bool) → over f.tid ≡ b → is_found_vote here book node done f ≡ true → list_all (is_found_vote here book node fewer) (filter is_left founds) ≡ true → list_all (is_found_vote here book node fewer) (filter is_left (f ∷ founds)) ≡ true
      by true is its more = subst (λ (l : List Found). list_all (is_found_vote here book node fewer) l ≡ true) (sym (skip is)) more
      by false is its more = subst (λ (l : List Found). list_all (is_found_vote here book node fewer) l ≡ true) (sym (take is)) (and_from (is_found_vote here book node fewer f) _ (vote_same f is ∙ its) more)

  once_left : (founds : List Found) → votes_once founds ≡ true → votes_once (filter is_left founds) ≡ true
  once_left [] h = refl
  once_left (f ∷ founds) h = by (over f.tid) refl (none_within (is_same_vote f) is_left founds (not-true _ (and_first (not (list_any (is_same_vote f) founds)) _ h))) (once_left founds (and_last (not (list_any (is_same_vote f) founds)) _ h))
    where
      skip : over f.tid ≡ true → filter is_left (f ∷ founds) ≡ filter is_left founds
      skip is = rw is refl

      take : over f.tid ≡ false → filter is_left (f ∷ founds) ≡ f ∷ filter is_left founds
      take is = rw is refl

      by : (b : Bool) → over f.tid ≡ b → list_any (is_same_vote f) (filter is_left founds) ≡ false → votes_once (filter is_left founds) ≡ true → votes_once (filter is_left (f ∷ founds)) ≡ true
      by true is none more = subst (λ (l : List Found). votes_once l ≡ true) (sym (skip is)) more
      by false is none more = subst (λ (l : List Found). votes_once l ≡ true) (sym (take is)) (and_from (not (list_any (is_same_vote f) (filter is_left founds))) _ (not_from_false _ none) more)

  -- 112
  found_same : (at : Voter) (covers : ℕ) → over at.tid ≡ false → list_any (is_found_as at covers) left ≡ list_any (is_found_as at covers) pend
  found_same at covers off = any_filtered (is_found_as at covers) (λ (f : Found). over f.tid) pend (λ f on. none (same_tid f.tid at.tid) _ (flipped f on))
    where
      none : (a b : Bool) → a ≡ false → (a && b) ≡ false
      none true b h = absurd (cc h)
      none false b h = refl

      flipped : (f : Found) → over f.tid ≡ true → same_tid f.tid at.tid ≡ false
      flipped f on = by (same_tid f.tid at.tid) refl
        where
          by : (b : Bool) → same_tid f.tid at.tid ≡ b → b ≡ false
          by false is = refl
          by true is = absurd (let clash : true ≡ false = sym on ∙ (ap over (same_tid-true f.tid at.tid is) ∙ off) in cc clash)

  kept_same : (entry : Voter × OnRecord) → over entry.0.tid ≡ false → is_kept here book left fewer entry ≡ is_kept here book pend done entry
  kept_same entry off =
      ap (λ (b : Bool). may_be_lost here entry.0.tid (find_transaction book entry.0.tid) || (b || list_any (is_found_as entry.0 entry.1.covers) left)) (among_same entry.0.tid off)
      ∙ ap (λ (b : Bool). may_be_lost here entry.0.tid (find_transaction book entry.0.tid) || (is_among done entry.0.tid || b)) (found_same entry.0 entry.1.covers off)

  kept_left : (entries : List (Voter × OnRecord)) → list_all (λ (entry : Voter × OnRecord). not (over entry.0.tid)) entries ≡ true → list_all (is_kept here book pend done) entries ≡ true → list_all (is_kept here book left fewer) entries ≡ true
  kept_left [] n h = refl
  kept_left (entry ∷ entries) n h =
      and_from (is_kept here book left fewer entry) _ (kept_same entry (not-true _ (and_first (not (over entry.0.tid)) _ n)) ∙ and_first (is_kept here book pend done entry) _ h)
      (kept_left entries (and_last (not (over entry.0.tid)) _ n) (and_last (is_kept here book pend done entry) _ h))

  -- 113
  one_of : (tids : List Tid) (t : Tid) → list_all (is_found_commit here book node) tids ≡ true → is_among tids t ≡ true → is_found_commit here book node t ≡ true
  one_of [] t h is = absurd (cc is)
  one_of (u ∷ tids) t h is = by (same_tid t u) refl is (and_first (is_found_commit here book node u) _ h) (λ more. one_of tids t (and_last (is_found_commit here book node u) _ h) more)
    where
      by : (b : Bool) → same_tid t u ≡ b → (same_tid t u || is_among tids t) ≡ true → is_found_commit here book node u ≡ true → (is_among tids t ≡ true → is_found_commit here book node t ≡ true) → is_found_commit here book node t ≡ true
      by true near e its more = ap (is_found_commit here book node) (same_tid-true t u near) ∙ its
      by false off e its more = more (sym (ap (λ (b : Bool). b || is_among tids t) off) ∙ e)

  all_of : (tids : List Tid) → ((t : Tid) → is_among tids t ≡ true → is_found_commit here book node t ≡ true) → list_all (is_found_commit here book node) tids ≡ true
  all_of [] h = refl
  all_of (u ∷ tids) h = and_from (is_found_commit here book node u) _ (h u (ap (λ (b : Bool). b || is_among tids u) (same_tid-self u))) (all_of tids (λ t is. h t (last (same_tid t u) (is_among tids t) is)))
    where
      last : (a b : Bool) → b ≡ true → (a || b) ≡ true
      last true b h = refl
      last false b h = h

  -- a restart that finds all is lawful: then so is one that finds less
  pub thin_lawful : (inc : ℕ) → broken_restart here book node inc pend done ≡ None → broken_restart here book node inc left fewer ≡ None
  unfolding clauses
  thin_lawful inc h =
      let a : Bool = nat_lt node.inc inc in
      let b : Bool = list_all (is_found_vote here book node done) pend && votes_once pend in
      let p = all_hold (nat_lt node.inc inc) (list_all (is_found_vote here book node done) pend && votes_once pend) (list_all (is_kept here book pend done) node.records) (list_all (is_found_commit here book node) done) h in
      none_broken (nat_lt node.inc inc) (list_all (is_found_vote here book node fewer) left && votes_once left) (list_all (is_kept here book left fewer) node.records) (list_all (is_found_commit here book node) fewer)
      p.0
      (and_from (list_all (is_found_vote here book node fewer) left) (votes_once left) (votes_left pend (and_first (list_all (is_found_vote here book node done) pend) _ p.1)) (once_left pend (and_last (list_all (is_found_vote here book node done) pend) _ p.1)))
      (kept_left node.records nobody p.2)
      (all_of fewer (λ t is. one_of done t p.3 (within t is)))
