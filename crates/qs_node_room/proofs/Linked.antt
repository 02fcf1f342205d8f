-- What a log keeps, and what it says, for each transaction and after each record.
use Rattle.std.proofs.Common.{◌≡◌, ℕ, ◌+◌, ◌-◌, ◌≤◌, ◌==◌, arith, Bool, true, false, not, List, [], ◌∷◌, length, suc, Option, Some, None, refl, sym, ap, subst, ◌∙◌, fold, if◌then◌else◌}
use Rattle.std.proofs.lemmas.Bool.Decides.{nat_tests}
use Rattle.std.specs.Prelude.{◌&&◌, ◌||◌, nat_le}
use Rattle.std.specs.List.{filter, list_all, list_any}
use Rattle.std.specs.BTreeMap.{insert_entry, is_at}
use Rattle.qs_base.specs.Order.{tid_cmp, same_tid}
use Rattle.qs_base.specs.declared.identifiers.NodeNo.{NodeNo}
use Rattle.qs_base.specs.declared.identifiers.Tid.{Tid}
use Rattle.qs_base.proofs.Same.{same_tid-true, same_tid-self}
use Rattle.qs_record.specs.declared.record.Record.{Record}
use Rattle.qs_record.specs.declared.record.Record.TheVariants as records
use Rattle.qs_restart.specs.Recovery.{Prepared, Recovery, Untold, commit_of, ended, found_prepare, found_record, is_in_doubt, is_of, is_untold_of, is_vote_of, mark_committed, names_transaction, nothing_said, prepare_of, recovery}
use Rattle.qs_restart.specs.Recovery as restart
use Rattle.qs_node_room.specs.Kept.{Kept, kept_at, own_bytes, with_first, with_list, without, after_record, kept_after, kept_of}
use Rattle.qs_node_room.specs.Fits.{IsEnough}
use Rattle.qs_node_room.specs.Opens.{is_short}
use Rattle.qs_book_laws.proofs.Rising.{IsRising}
use Rattle.qs_node_room.proofs.Agreeing.{first_other, first_rises, list_other, list_own, list_rises, put_own, remove_other, remove_own, remove_rising}
use Rattle.qs_node_room.proofs.Opened.{has_list, other_at}
use Rattle.qs_node_room.proofs.Lists.{all_less, all_more, any_left, any_less, any_mapped, any_more, any_out, both_of}

-- two tests for a transaction do not pass at once
alone : (s t q : Tid) → same_tid t q ≡ false → same_tid s q ≡ true → same_tid s t ≡ false
alone s t q other is = by (same_tid s t) refl
  where
    by : (b : Bool) → same_tid s t ≡ b → same_tid s t ≡ false
    by false has = has
    by true has = absurd (let one : s ≡ q = same_tid-true s q is in let two : s ≡ t = same_tid-true s t has in let bad : same_tid t q ≡ true = subst (λ (x : Tid). same_tid x q ≡ true) two is in cc (bad, other))

-- ---- the link

abbrev pub is_marked_of : Tid → Prepared → Bool
is_marked_of t vote = is_of t vote && vote.committed

abbrev pub untold_at : Tid → Recovery → Bool
untold_at t said = list_any (is_untold_of t) said.untold

abbrev pub voted_at : Tid → Recovery → Bool
voted_at t said = list_any (is_of t) said.prepared

module _ (keep extra : ℕ) (enough : IsEnough keep extra) where
  abbrev pub Link : Bool → Bool → Option ℕ → Type 0
  Link true d o = (left : ℕ) × (o ≡ Some left) × (41 + extra + 15 ≤ left)
  Link false true o = o ≡ Some keep
  Link false false o = o ≡ None

  pub record Linked (said : Recovery) (kept : Kept) : Type 0 where
    pub rising : IsRising tid_cmp kept
    pub each : (t : Tid) → Link (untold_at t said) (voted_at t said) (kept_at t kept)
    pub marked : (t : Tid) → untold_at t said ≡ false → list_any (is_marked_of t) said.prepared ≡ false
    pub lists : list_all has_list said.untold ≡ true

  -- one transaction changes, and no other
  spread : (t : Tid) (said new : Recovery) (es fs : Kept) → Linked said es → Link (untold_at t new) (voted_at t new) (kept_at t fs)
      → ((q : Tid) → same_tid t q ≡ false → (untold_at q new ≡ untold_at q said) × (voted_at q new ≡ voted_at q said) × (kept_at q fs ≡ kept_at q es)) → (q : Tid) → Link (untold_at q new) (voted_at q new) (kept_at q fs)
  spread t said new es fs l own others q = by (same_tid t q) refl
    where
      by : (b : Bool) → same_tid t q ≡ b → Link (untold_at q new) (voted_at q new) (kept_at q fs)
      by true is = subst (λ (x : Tid). Link (untold_at x new) (voted_at x new) (kept_at x fs)) (same_tid-true t q is) own
      by false is = let o = others q is in subst (λ (b : Bool). Link b (voted_at q new) (kept_at q fs)) (sym o.0) (subst (λ (b : Bool). Link (untold_at q said) b (kept_at q fs)) (sym o.1) (subst (λ (x : Option ℕ). Link (untold_at q said) (voted_at q said) x) (sym o.2) (l.each q)))

  -- ---- a vote

  prepare_linked : (vote : Prepared) (said : Recovery) (es : Kept) → vote.committed ≡ false → Linked said es → Linked (found_prepare vote said) (with_first keep vote.tid es)
  prepare_linked vote said es fresh l = record {
    rising = first_rises keep vote.tid es l.rising;
    each = spread vote.tid said (found_prepare vote said) es (with_first keep vote.tid es) l own (λ q other. (refl, voted q other, first_other keep vote.tid q es (other_at vote.tid q other)));
    marked = λ q none. any_more (is_marked_of q) left (vote ∷ []) ∙ rw (any_less (is_marked_of q) test said.prepared (l.marked q none), fresh) (no_more (is_of q vote));
    lists = l.lists;
  }
    where
      test : Prepared → Bool
      test other = not (is_vote_of vote.tid vote.server other)

      left : List Prepared
      left = filter test said.prepared

      no_more : (b : Bool) → ((b && false) || false) ≡ false
      no_more true = refl
      no_more false = refl

      or_false : (b : Bool) → (b || false) ≡ b
      or_false true = refl
      or_false false = refl

      or_true : (b : Bool) → (b || (true || false)) ≡ true
      or_true true = refl
      or_true false = refl

      passes : (q : Tid) → same_tid vote.tid q ≡ false → (other : Prepared) → is_of q other ≡ true → test other ≡ true
      passes q apart other is = let no_vote : same_tid other.tid vote.tid ≡ false = alone other.tid vote.tid q apart is in rw no_vote refl

      voted : (q : Tid) → same_tid vote.tid q ≡ false → voted_at q (found_prepare vote said) ≡ voted_at q said
      voted q apart = any_more (is_of q) left (vote ∷ []) ∙ rw (apart, any_left (is_of q) test (passes q apart) said.prepared) (or_false (voted_at q said))

      now : voted_at vote.tid (found_prepare vote said) ≡ true
      now = any_more (is_of vote.tid) left (vote ∷ []) ∙ rw (same_tid-self vote.tid) (or_true (list_any (is_of vote.tid) left))

      first_is : (o : Option ℕ) → kept_at vote.tid es ≡ o → with_first keep vote.tid es ≡ elim o [ None ↦ insert_entry tid_cmp es vote.tid keep | Some old ↦ es ]
      first_is o is = ap (λ (x : Option ℕ). elim x [ None ↦ insert_entry tid_cmp es vote.tid keep | Some old ↦ es ]) is

      found : (o : Option ℕ) → kept_at vote.tid es ≡ o → (u v : Bool) → untold_at vote.tid said ≡ u → voted_at vote.tid said ≡ v → Link u v o → Link (untold_at vote.tid said) true (kept_at vote.tid (with_first keep vote.tid es))
      found (Some n) is true v u_is v_is link = rw u_is (let s : (left : ℕ) × (Some n ≡ Some left) × (41 + extra + 15 ≤ left) = link in (s.0, ap (kept_at vote.tid) (first_is (Some n) is) ∙ (is ∙ s.1), s.2))
      found None is true v u_is v_is link = absurd (let s : (left : ℕ) × (None ≡ Some left) × (41 + extra + 15 ≤ left) = link in let bad : None ≡ Some s.0 = s.1 in cc bad)
      found (Some n) is false true u_is v_is link = rw u_is (ap (kept_at vote.tid) (first_is (Some n) is) ∙ (is ∙ link))
      found (Some n) is false false u_is v_is link = absurd (cc link)
      found None is false true u_is v_is link = absurd (cc link)
      found None is false false u_is v_is link = rw u_is (ap (kept_at vote.tid) (first_is None is) ∙ put_own vote.tid keep es)

      own : Link (untold_at vote.tid said) (voted_at vote.tid (found_prepare vote said)) (kept_at vote.tid (with_first keep vote.tid es))
      own = rw now (found (kept_at vote.tid es) refl (untold_at vote.tid said) (voted_at vote.tid said) refl refl (l.each vote.tid))

  -- ---- an end

  end_linked : (t : Tid) (said : Recovery) (es : Kept) → Linked said es → Linked (ended t said) (without t es)
  end_linked t said es l = record {
    rising = remove_rising (is_at (tid_cmp t)) es l.rising;
    each = spread t said (ended t said) es (without t es) l own (λ q other. (untold_q q other, voted_q q other, remove_other t q es (other_at t q other)));
    marked = λ q none. marks q (same_tid t q) refl none;
    lists = all_less has_list (λ commit. not (is_untold_of t commit)) said.untold l.lists;
  }
    where
      stays : (b : Bool) → b ≡ false → not b ≡ true
      stays b is = rw is refl

      goes : (b : Bool) → b ≡ true → not b ≡ false
      goes b is = rw is refl

      untold_q : (q : Tid) → same_tid t q ≡ false → untold_at q (ended t said) ≡ untold_at q said
      untold_q q apart = any_left (is_untold_of q) (λ commit. not (is_untold_of t commit)) (λ commit is. stays (is_untold_of t commit) (alone commit.tid t q apart is)) said.untold

      voted_q : (q : Tid) → same_tid t q ≡ false → voted_at q (ended t said) ≡ voted_at q said
      voted_q q apart = any_left (is_of q) (λ vote. not (is_of t vote)) (λ vote is. stays (is_of t vote) (alone vote.tid t q apart is)) said.prepared

      own : Link (untold_at t (ended t said)) (voted_at t (ended t said)) (kept_at t (without t es))
      own = rw (any_out (is_untold_of t) (λ commit. not (is_untold_of t commit)) (λ commit is. goes (is_untold_of t commit) is) said.untold, any_out (is_of t) (λ vote. not (is_of t vote)) (λ vote is. goes (is_of t vote) is) said.prepared) (remove_own t es l.rising)

      marks : (q : Tid) (b : Bool) → same_tid t q ≡ b → untold_at q (ended t said) ≡ false → list_any (is_marked_of q) (ended t said).prepared ≡ false
      marks q false apart none = any_less (is_marked_of q) (λ vote. not (is_of t vote)) said.prepared (l.marked q (sym (untold_q q apart) ∙ none))
      marks q true same none = any_out (is_marked_of q) (λ vote. not (is_of t vote)) (λ vote is. goes (is_of t vote) (subst (λ (x : Tid). is_of x vote ≡ true) (sym (same_tid-true t q same)) (both_of (is_of q vote) vote.committed is).0)) said.prepared

  -- ---- a Commit that tells nodes

  list_linked : (t : Tid) (node : NodeNo) (nodes : List NodeNo) (said : Recovery) (es : Kept) → nat_le (length (node ∷ nodes)) 16 ≡ true → Linked said es → Linked (restart.with_list t (node ∷ nodes) said) (with_list (keep - own_bytes extra (records.Commit t (node ∷ nodes))) t es)
  list_linked t node nodes said es short l = record {
    rising = list_rises left t es l.rising;
    each = spread t said new es (with_list left t es) l own (λ q other. (untold_q q other, voted_q q, list_other left t q es (other_at t q other)));
    marked = λ q none. marks q (same_tid t q) refl none;
    lists = all_more has_list said.untold commit l.lists (nonzero (length nodes));
  }
    where
      new : Recovery
      new = restart.with_list t (node ∷ nodes) said

      commit : Untold
      commit = record { tid = t; told = node ∷ nodes }

      left : ℕ
      left = keep - own_bytes extra (records.Commit t (node ∷ nodes))

      nonzero : (n : ℕ) → not (suc n == 0) ≡ true
      nonzero n = grind (arith, nat_tests)

      few : (n : ℕ) → nat_le n 16 ≡ true → n ≤ 16
      few n is = grind (arith, nat_tests)

      leaves : (k e n : ℕ) → (41 + e + 31) + (41 + e + 15) ≤ k → n ≤ 16 → 41 + e + 15 ≤ k - (41 + e + (15 + n))
      leaves k e n h low = grind (arith)

      or_false : (b : Bool) → (b || (false || false)) ≡ b
      or_false true = refl
      or_false false = refl

      or_true : (b : Bool) → (b || (true || false)) ≡ true
      or_true true = refl
      or_true false = refl

      untold_q : (q : Tid) → same_tid t q ≡ false → untold_at q new ≡ untold_at q said
      untold_q q apart = any_more (is_untold_of q) said.untold (commit ∷ []) ∙ rw apart (or_false (untold_at q said))

      told : untold_at t new ≡ true
      told = any_more (is_untold_of t) said.untold (commit ∷ []) ∙ rw (same_tid-self t) (or_true (untold_at t said))

      same_vote : (q : Tid) (vote : Prepared) → is_of q (mark_committed t vote) ≡ is_of q vote
      same_vote q vote = by (is_of t vote)
        where
          by : (b : Bool) → is_of q (if b then record vote { committed = true } else vote) ≡ is_of q vote
          by true = refl
          by false = refl

      voted_q : (q : Tid) → voted_at q new ≡ voted_at q said
      voted_q q = any_mapped (is_of q) (mark_committed t) (same_vote q) said.prepared

      own : Link (untold_at t new) (voted_at t new) (kept_at t (with_list left t es))
      own = rw told (left, list_own left t es, leaves keep extra (length (node ∷ nodes)) enough (few (length (node ∷ nodes)) short))

      same_mark : (q : Tid) → same_tid t q ≡ false → (vote : Prepared) → is_marked_of q (mark_committed t vote) ≡ is_marked_of q vote
      same_mark q apart vote = by (is_of t vote) refl (is_of q vote) refl
        where
          by : (b : Bool) → is_of t vote ≡ b → (c : Bool) → is_of q vote ≡ c → is_marked_of q (if b then record vote { committed = true } else vote) ≡ is_marked_of q vote
          by false is c has = refl
          by true is false has = rw has refl
          by true is true has = absurd (let no_vote : same_tid vote.tid t ≡ false = alone vote.tid t q apart has in cc (is, no_vote))

      marks : (q : Tid) (b : Bool) → same_tid t q ≡ b → untold_at q new ≡ false → list_any (is_marked_of q) new.prepared ≡ false
      marks q true same none = absurd (let there : untold_at q new ≡ true = subst (λ (x : Tid). untold_at x new ≡ true) (same_tid-true t q same) told in cc (there, none))
      marks q false apart none = any_mapped (is_marked_of q) (mark_committed t) (same_mark q apart) said.prepared ∙ l.marked q (sym (untold_q q apart) ∙ none)

  -- ---- a log

  -- only votes and Commits count
  alike : (said new : Recovery) (es : Kept) → new.prepared ≡ said.prepared → new.untold ≡ said.untold → Linked said es → Linked new es
  alike said new es p u l = record {
    rising = l.rising;
    each = λ t. subst (λ (x : List Untold). Link (list_any (is_untold_of t) x) (voted_at t new) (kept_at t es)) (sym u) (subst (λ (x : List Prepared). Link (untold_at t said) (list_any (is_of t) x) (kept_at t es)) (sym p) (l.each t));
    marked = λ t none. subst (λ (x : List Prepared). list_any (is_marked_of t) x ≡ false) (sym p) (l.marked t (subst (λ (x : List Untold). list_any (is_untold_of t) x ≡ false) u none));
    lists = subst (λ (x : List Untold). list_all has_list x ≡ true) (sym u) l.lists;
  }

  one_linked : (rec : Record) (said : Recovery) (es : Kept) → is_short rec ≡ true → Linked said es → Linked (found_record said rec) (after_record keep extra es rec)
  one_linked (records.Prepare tid server covers changes) said es short l = prepare_linked (record { tid = tid; server = server; covers = covers; changes = changes; committed = false }) said es refl l
  one_linked (records.Commit tid []) said es short l = end_linked tid _ es (alike said _ es refl refl l)
  one_linked (records.Commit tid (node ∷ nodes)) said es short l = list_linked tid node nodes _ es short (alike said _ es refl refl l)
  one_linked (records.Aborted tid) said es short l = end_linked tid said es l
  one_linked (records.End tid) said es short l = end_linked tid said es l

  all_linked : (log : List Record) (said : Recovery) (es : Kept) → list_all is_short log ≡ true → Linked said es → Linked (fold found_record said log) (kept_after keep extra es log)
  all_linked [] said es short l = l
  all_linked (rec ∷ log) said es short l = let s = both_of (is_short rec) (list_all is_short log) short in all_linked log (found_record said rec) (after_record keep extra es rec) s.1 (one_linked rec said es s.0 l)

  pub log_linked : (log : List Record) → list_all is_short log ≡ true → Linked (recovery log) (kept_of keep extra log)
  log_linked log short = all_linked log nothing_said [] short (record { rising = tt; each = λ t. refl; marked = λ t none. refl; lists = refl })
