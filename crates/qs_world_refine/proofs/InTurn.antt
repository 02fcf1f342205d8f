-- Records that come in turn say of a transaction the same in two orders: as they came, and those that must be forced first.
use Rattle.qs_world_refine.proofs.Words.{◌≡◌, ℕ, ◌==◌, ◌&&◌, ◌||◌, not, Bool, true, false, List, [], ◌∷◌, ◌++◌, fold, refl, sym, ap, subst, ◌∙◌, arith, if◌then◌else◌, filter, list_all, list_any, flat_map, eqb-true, or_parts, nat_tests, filter-append, list_any-append, same_tid, NodeNo, Tid, Record, Prepared, Untold, Recovery, found_record, names_transaction, is_vote_of, is_untold_of, mark_committed, is_forced, is_loose_of, is_forced_of, are_in_turn, names_node, node_no, is_record_of, is_in_doubt}
use Rattle.qs_world_refine.proofs.Words.{list_of, server_no, is_of_other, or-false, false-or, or_assoc}
use Rattle.std.proofs.lemmas.Grind.{flat_map-append}
use Rattle.qs_record.specs.declared.record.Record.TheVariants as records
use Rattle.qs_world_refine.proofs.Alike.{SameFound, found_on}
use Rattle.qs_world_refine.proofs.Doubts.{is_doubt_at, none_of, doubts_marked, any_last}
use Rattle.qs_world_refine.proofs.Frames.{same_record}
use Rattle.qs_world_refine.proofs.LogEnds.{doubt_ended, untold_ended}
use Rattle.qs_world_refine.proofs.LogFrames.{record_apart}
use Rattle.qs_world_refine.proofs.Same.{tid_same}
use Rattle.qs_world_refine.proofs.SoundKnown.{same_is}
use Rattle.qs_world_refine.proofs.SoundParts.{and_both}
use Rattle.qs_world_refine.proofs.StartLogs.{says_on}
use Rattle.qs_world_refine.proofs.Voting.{put_there}

module _ (tid : Tid) where
  -- ---- records of other transactions

  all_others : (recs : List Record) → list_any (is_record_of tid) recs ≡ false → list_all (is_of_other tid) recs ≡ true
  all_others [] none = refl
  all_others (rec ∷ recs) none = let both = or_parts (is_record_of tid rec) (list_any (is_record_of tid) recs) none in rw both.0 (all_others recs both.1)

  pub others_say : (recs : List Record) (r : Recovery) → list_any (is_record_of tid) recs ≡ false → SameFound tid r (fold found_record r recs)
  others_say recs r none = says_on tid recs r (all_others recs none)

  neither : (recs : List Record) → list_any (is_loose_of tid) recs ≡ false → list_any (is_forced_of tid) recs ≡ false → list_any (is_record_of tid) recs ≡ false
  neither [] a b = refl
  neither (rec ∷ recs) a b =
      let first = or_parts (is_loose_of tid rec) (list_any (is_loose_of tid) recs) a in
      let last = or_parts (is_forced_of tid rec) (list_any (is_forced_of tid) recs) b in
      by (is_record_of tid rec) (is_forced rec) first.0 last.0 (neither recs first.1 last.1)
    where
      by : (c d : Bool) → (c && not d) ≡ false → (c && d) ≡ false → list_any (is_record_of tid) recs ≡ false → (c || list_any (is_record_of tid) recs) ≡ false
      by true true x y more = absurd (cc (y))
      by true false x y more = absurd (cc (x))
      by false d x y more = more

  -- ---- once a record that need not be forced came last, the transaction is ended

  pub record IsEnded (said : Recovery) : Type 0 where
    pub prepared : (k : ℕ) → is_in_doubt tid k said ≡ false
    pub unended : list_any (is_untold_of tid) said.untold ≡ false
    pub named : (m : ℕ) → names_node (list_of tid said) (node_no m) ≡ false

  -- nothing is left to tell
  no_list : (commits : List Untold) → filter (is_untold_of tid) (filter (λ c. not (is_untold_of tid c)) commits) ≡ []
  no_list [] = refl
  no_list (c ∷ commits) = by (is_untold_of tid c) refl (no_list commits)
    where
      by : (b : Bool) → is_untold_of tid c ≡ b → filter (is_untold_of tid) (filter (λ c. not (is_untold_of tid c)) commits) ≡ []
          → filter (is_untold_of tid) (if not b then c ∷ filter (λ c. not (is_untold_of tid c)) commits else filter (λ c. not (is_untold_of tid c)) commits) ≡ []
      by true is more = more
      by false is more = rw is more

  ended_now : (r : Recovery) → IsEnded (Rattle.qs_restart.specs.Recovery.ended tid r)
  ended_now r = record {
    prepared = λ k. doubt_ended tid k r.prepared;
    unended = untold_ended tid r.untold;
    named = λ m. ap (λ (l : List Untold). names_node (flat_map (λ (commit : Untold). commit.told) l) (node_no m)) (no_list r.untold);
  }

  loose_ends : (rec : Record) (r : Recovery) → is_loose_of tid rec ≡ true → IsEnded (found_record r rec)
  loose_ends (records.Prepare u server covers changes) r is = absurd (let both = and_both (same_tid tid u) false is in let never = both.1 in cc (never))
  loose_ends (records.Commit u told) r is = absurd (let both = and_both (same_tid tid u) false is in let never = both.1 in cc (never))
  loose_ends (records.Aborted u) r is = subst (λ (t : Tid). IsEnded (found_record r (records.Aborted t))) (same_is tid u (and_both (same_tid tid u) true is).0) (ended_now r)
  loose_ends (records.End u) r is = subst (λ (t : Tid). IsEnded (found_record r (records.End t))) (same_is tid u (and_both (same_tid tid u) true is).0) (ended_now r)

  ended_as : (r s : Recovery) → SameFound tid r s → IsEnded r → IsEnded s
  ended_as r s same e = record { prepared = λ k. same.prepared k ∙ e.prepared k; unended = same.unended ∙ e.unended; named = λ m. same.named m ∙ e.named m }

  pub last_ends : (recs : List Record) (r : Recovery) → list_any (is_loose_of tid) recs ≡ true → are_in_turn tid recs ≡ true → IsEnded (fold found_record r recs)
  last_ends [] r some turn = absurd (cc (some))
  last_ends (rec ∷ rest) r some turn = by (list_any (is_loose_of tid) rest) refl (λ more. last_ends rest (found_record r rec) more turns.1)
    where
      turns : ((not (is_loose_of tid rec) || not (list_any (is_forced_of tid) rest)) ≡ true) × (are_in_turn tid rest ≡ true)
      turns = and_both (not (is_loose_of tid rec) || not (list_any (is_forced_of tid) rest)) (are_in_turn tid rest) turn

      first : (a b : Bool) → b ≡ false → (a || b) ≡ true → a ≡ true
      first true b off is = refl
      first false b off is = absurd (cc (off, is))

      none : (a b : Bool) → a ≡ true → (not a || not b) ≡ true → b ≡ false
      none true true is so = absurd (cc (so))
      none true false is so = refl
      none false b is so = absurd (cc (is))

      by : (b : Bool) → list_any (is_loose_of tid) rest ≡ b → (list_any (is_loose_of tid) rest ≡ true → IsEnded (fold found_record (found_record r rec) rest)) → IsEnded (fold found_record (found_record r rec) rest)
      by true is more = more is
      by false is more =
          let here : is_loose_of tid rec ≡ true = first (is_loose_of tid rec) (list_any (is_loose_of tid) rest) is some in
          let forced : list_any (is_forced_of tid) rest ≡ false = none (is_loose_of tid rec) (list_any (is_forced_of tid) rest) here turns.0 in
          ended_as (found_record r rec) (fold found_record (found_record r rec) rest) (others_say rest (found_record r rec) (neither rest is forced)) (loose_ends rec r here)

  -- ---- which Commits a log has

  abbrev pub is_commit : Record → Bool
  is_commit (records.Prepare u server covers changes) = false
  is_commit (records.Commit u told) = names_transaction u && same_tid tid u
  is_commit (records.Aborted u) = false
  is_commit (records.End u) = false

  committed_one : (rec : Record) (r : Recovery) → list_any (same_tid tid) (found_record r rec).committed ≡ (list_any (same_tid tid) r.committed || is_commit rec)
  committed_one (records.Prepare u server covers changes) r = false-or (list_any (same_tid tid) r.committed)
  committed_one (records.Aborted u) r = false-or (list_any (same_tid tid) r.committed)
  committed_one (records.End u) r = false-or (list_any (same_tid tid) r.committed)
  committed_one (records.Commit u told) r = kept told ∙ (list_any-append (same_tid tid) r.committed (if names_transaction u then u ∷ [] else []) ∙ ap (λ (b : Bool). list_any (same_tid tid) r.committed || b) (by (names_transaction u) (same_tid tid u)))
    where
      kept : (told : List NodeNo) → list_any (same_tid tid) (found_record r (records.Commit u told)).committed ≡ list_any (same_tid tid) (r.committed ++ (if names_transaction u then u ∷ [] else []))
      kept [] = refl
      kept (first ∷ others) = refl

      by : (a b : Bool) → list_any (same_tid tid) (if a then u ∷ [] else []) ≡ (a && same_tid tid u)
      by true b = or-false (same_tid tid u)
      by false b = refl

  pub committed_all : (recs : List Record) (r : Recovery) → list_any (same_tid tid) (fold found_record r recs).committed ≡ (list_any (same_tid tid) r.committed || list_any is_commit recs)
  committed_all [] r = false-or (list_any (same_tid tid) r.committed)
  committed_all (rec ∷ recs) r = committed_all recs (found_record r rec) ∙ (ap (λ (b : Bool). b || list_any is_commit recs) (committed_one rec r) ∙ or_assoc (list_any (same_tid tid) r.committed) (is_commit rec) (list_any is_commit recs))

  -- ---- from logs that say the same a record that must be forced leads to such

  prepare_same : (server : Rattle.qs_base.specs.declared.identifiers.ServerNo.ServerNo) (covers : ℕ) (changes : List Rattle.qs_ops.specs.declared.operation.Op.Op) (r s : Recovery) → SameFound tid r s → SameFound tid (found_record r (records.Prepare tid server covers changes)) (found_record s (records.Prepare tid server covers changes))
  prepare_same server covers changes r s same = record { prepared = λ k. by k (k == server.0) refl; committed = same.committed; unended = same.unended; named = same.named }
    where
      vote : Prepared
      vote = record { tid = tid; server = server; covers = covers; changes = changes; committed = false }

      itself : (k : ℕ) → k ≡ server.0 → is_doubt_at tid k vote ≡ true
      itself k is = rw is (grind (arith, nat_tests))

      not_it : (k : ℕ) → (k == server.0) ≡ false → is_vote_of tid (server_no k) vote ≡ false
      not_it k is = grind (arith, nat_tests, is)

      other : (k : ℕ) → (k == server.0) ≡ false → (v : Prepared) → is_vote_of tid (server_no k) v ≡ true → is_vote_of tid (server_no server.0) v ≡ false
      other k is v its = grind (arith, nat_tests, is, its)

      by : (k : ℕ) (b : Bool) → (k == server.0) ≡ b → is_in_doubt tid k (found_record s (records.Prepare tid server covers changes)) ≡ is_in_doubt tid k (found_record r (records.Prepare tid server covers changes))
      by k true is = any_last {A = Prepared} (is_doubt_at tid k) vote (itself k (eqb-true k server.0 is)) (filter (λ other. not (is_vote_of tid server other)) s.prepared)
          ∙ sym (any_last {A = Prepared} (is_doubt_at tid k) vote (itself k (eqb-true k server.0 is)) (filter (λ other. not (is_vote_of tid server other)) r.prepared))
      by k false is = put_there tid tid server.0 k s.prepared vote (not_it k is) (other k is) ∙ (same.prepared k ∙ sym (put_there tid tid server.0 k r.prepared vote (not_it k is) (other k is)))

  commit_same : (told : List NodeNo) (r s : Recovery) → SameFound tid r s → SameFound tid (found_record r (records.Commit tid told)) (found_record s (records.Commit tid told))
  commit_same [] r s same = record {
    prepared = λ k. doubt_ended tid k s.prepared ∙ sym (doubt_ended tid k r.prepared);
    committed = committed_one (records.Commit tid []) s ∙ (ap (λ (b : Bool). b || is_commit (records.Commit tid [])) same.committed ∙ sym (committed_one (records.Commit tid []) r));
    unended = untold_ended tid s.untold ∙ sym (untold_ended tid r.untold);
    named = λ m. ap (λ (l : List Untold). names_node (flat_map (λ (commit : Untold). commit.told) l) (node_no m)) (no_list s.untold ∙ sym (no_list r.untold));
  }
  commit_same (first ∷ others) r s same = record {
    prepared = λ k. none_of tid k (Rattle.std.specs.Prelude.map (mark_committed tid) s.prepared) (doubts_marked tid s.prepared) ∙ sym (none_of tid k (Rattle.std.specs.Prelude.map (mark_committed tid) r.prepared) (doubts_marked tid r.prepared));
    committed = committed_one (records.Commit tid (first ∷ others)) s ∙ (ap (λ (b : Bool). b || is_commit (records.Commit tid (first ∷ others))) same.committed ∙ sym (committed_one (records.Commit tid (first ∷ others)) r));
    unended = any_last {A = Untold} (is_untold_of tid) now (tid_same tid) s.untold ∙ sym (any_last {A = Untold} (is_untold_of tid) now (tid_same tid) r.untold);
    named = λ m. names_last s.untold m ∙ (ap (λ (b : Bool). b || list_any (Rattle.qs_engage.specs.Nodes.same_node (node_no m)) (told_last)) (same.named m) ∙ sym (names_last r.untold m));
  }
    where
      now : Untold
      now = record { tid = tid; told = first ∷ others }

      told_last : List NodeNo
      told_last = flat_map (λ (commit : Untold). commit.told) (filter (is_untold_of tid) (now ∷ []))

      names_last : (commits : List Untold) (m : ℕ) → names_node (flat_map (λ (commit : Untold). commit.told) (filter (is_untold_of tid) (commits ++ now ∷ []))) (node_no m)
          ≡ (names_node (flat_map (λ (commit : Untold). commit.told) (filter (is_untold_of tid) commits)) (node_no m) || list_any (Rattle.qs_engage.specs.Nodes.same_node (node_no m)) told_last)
      names_last commits m = ap (λ (l : List Untold). names_node (flat_map (λ (commit : Untold). commit.told) l) (node_no m)) (filter-append (is_untold_of tid) commits (now ∷ []))
          ∙ (ap (λ (l : List NodeNo). names_node l (node_no m)) (flat_map-append (λ (commit : Untold). commit.told) (filter (is_untold_of tid) commits) (filter (is_untold_of tid) (now ∷ [])))
          ∙ list_any-append (Rattle.qs_engage.specs.Nodes.same_node (node_no m)) (flat_map (λ (commit : Untold). commit.told) (filter (is_untold_of tid) commits)) told_last)

  turned : (t u : Tid) → same_tid t u ≡ false → (r s : Recovery) (rec : Record) → Rattle.qs_world_refine.proofs.LogFrames.record_tid rec ≡ u → SameFound t r s → SameFound t (found_record r rec) (found_record s rec)
  turned t u apart r s rec is same =
      let off : same_tid t (Rattle.qs_world_refine.proofs.LogFrames.record_tid rec) ≡ false = rw is apart in
      found_on t (found_record r rec) r (found_record s rec) (back t r (found_record r rec) (record_apart t rec r off)) (found_on t r s (found_record s rec) same (record_apart t rec s off))
    where
      back : (t : Tid) (a b : Recovery) → SameFound t a b → SameFound t b a
      back t a b same = record { prepared = λ k. sym (same.prepared k); committed = sym same.committed; unended = sym same.unended; named = λ m. sym (same.named m) }

  forced_same : (rec : Record) (r s : Recovery) → is_forced rec ≡ true → SameFound tid r s → SameFound tid (found_record r rec) (found_record s rec)
  forced_same (records.Prepare u server covers changes) r s is same = by (same_tid tid u) refl
    where
      by : (b : Bool) → same_tid tid u ≡ b → SameFound tid (found_record r (records.Prepare u server covers changes)) (found_record s (records.Prepare u server covers changes))
      by true its = subst (λ (t : Tid). SameFound tid (found_record r (records.Prepare t server covers changes)) (found_record s (records.Prepare t server covers changes))) (same_is tid u its) (prepare_same server covers changes r s same)
      by false apart = turned tid u apart r s (records.Prepare u server covers changes) refl same
  forced_same (records.Commit u told) r s is same = by (same_tid tid u) refl
    where
      by : (b : Bool) → same_tid tid u ≡ b → SameFound tid (found_record r (records.Commit u told)) (found_record s (records.Commit u told))
      by true its = subst (λ (t : Tid). SameFound tid (found_record r (records.Commit t told)) (found_record s (records.Commit t told))) (same_is tid u its) (commit_same told r s same)
      by false apart = turned tid u apart r s (records.Commit u told) refl same
  forced_same (records.Aborted u) r s is same = absurd (cc (is))
  forced_same (records.End u) r s is same = absurd (cc (is))

  -- where the transaction has none that need not be forced, these may be left out
  pub forced_say : (recs : List Record) (r s : Recovery) → list_any (is_loose_of tid) recs ≡ false → SameFound tid r s → SameFound tid (fold found_record r (filter is_forced recs)) (fold found_record s recs)
  forced_say [] r s none same = same
  forced_say (rec ∷ recs) r s none same = by (is_forced rec) refl (or_parts (is_loose_of tid rec) (list_any (is_loose_of tid) recs) none).0 (λ r s. forced_say recs r s (or_parts (is_loose_of tid rec) (list_any (is_loose_of tid) recs) none).1)
    where
      left : (b c : Bool) → c ≡ false → (b && not c) ≡ false → b ≡ false
      left true c is so = absurd (cc (is, so))
      left false c is so = refl

      by : (b : Bool) → is_forced rec ≡ b → is_loose_of tid rec ≡ false → ((r s : Recovery) → SameFound tid r s → SameFound tid (fold found_record r (filter is_forced recs)) (fold found_record s recs))
          → SameFound tid (fold found_record r (if b then rec ∷ filter is_forced recs else filter is_forced recs)) (fold found_record (found_record s rec) recs)
      by true is off more = more (found_record r rec) (found_record s rec) (forced_same rec r s is same)
      by false is off more = more r (found_record s rec) (found_on tid r s (found_record s rec) same (record_apart tid rec s (rw (same_record rec) at (left (is_record_of tid rec) (is_forced rec) is off))))
