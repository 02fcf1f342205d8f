-- A vote that the log has, or whose Commit it has, it has with more records too, but where one of these ends its transaction without a Commit; and so it has a vote whose Prepare is among them.
use Rattle.qs_world_runs.proofs.Words.{◌≡◌, inl, inr, ℕ, ◌==◌, ◌&&◌, ◌||◌, not, Bool, true, false, List, [], ◌∷◌, ◌++◌, refl, sym, ap, subst, ◌∙◌, fold, map, arith, nat_le, nat_tests, filter, list_any, same_tid-true, same_tid-self, same_tid, NodeNo, ServerNo, Tid, is_among, Voter, Op, Record, Prepared, Recovery, found_record, mark_committed, names_transaction, is_aborted_of, is_end_of, is_found_in, of_votes, to_votes, is_prepare_at, and_parts, eqb-true, or_parts, eqb-self}
use Rattle.qs_book_machine.specs.Nodes as machine
use Rattle.qs_record.specs.declared.record.Record.TheVariants as made
use Rattle.qs_restart.specs.Recovery.{ended, found_commit, is_of, is_vote_of}
use Rattle.qs_world_lawful.proofs.LogRecords.{among_last, among_more, any_append, any_filter, found_is, is_found}
use Rattle.qs_world_runs.specs.OnRecord.{IsInLog}
use Rattle.std.proofs.lemmas.Bool.{not_from_false}

-- the Commits of a log stay
pub committed_one : (tid : Tid) (rec : Record) (log : Recovery) → is_among log.committed tid ≡ true → is_among (found_record log rec).committed tid ≡ true
committed_one tid (made.Prepare t server covers changes) log is = is
committed_one tid (made.Commit t []) log is = among_more log.committed _ tid is
committed_one tid (made.Commit t (node ∷ told)) log is = among_more log.committed _ tid is
committed_one tid (made.Aborted t) log is = is
committed_one tid (made.End t) log is = is

pub committed_all : (tid : Tid) (records : List Record) (log : Recovery) → is_among log.committed tid ≡ true → is_among (fold found_record log records).committed tid ≡ true
committed_all tid [] log is = is
committed_all tid (rec ∷ records) log is = committed_all tid records (found_record log rec) (committed_one tid rec log is)

module _ (tid : Tid) (s : ℕ) (named : names_transaction tid ≡ true) where
  abbrev at : Voter
  at = machine.voter tid s

  -- a Commit of it
  commit_has : (told : List NodeNo) (log : Recovery) → is_among (found_commit tid told log).committed tid ≡ true
  commit_has [] log = rw named (among_last log.committed tid)
  commit_has (node ∷ told) log = rw named (among_last log.committed tid)

  one_more : (votes : List Prepared) (vote : Prepared) → is_found at 0 vote ≡ true → list_any (is_found at 0) (votes ++ vote ∷ []) ≡ true
  one_more votes vote is = any_append (is_found at 0) votes (vote ∷ []) (inr (rw is refl))

  least : (n : ℕ) → nat_le 0 n ≡ true
  least n = grind (arith, nat_tests)

  -- its Prepare
  pub put_has : (t : Tid) (server : ServerNo) (covers : ℕ) (changes : List Op) (log : Recovery) → is_prepare_at tid s (made.Prepare t server covers changes) ≡ true → IsInLog (found_record log (made.Prepare t server covers changes)) at
  put_has t server covers changes log is = inr (of_votes at 0 (found_record log (made.Prepare t server covers changes)) (one_more (filter (λ other. not (is_vote_of t server other)) log.prepared) (record { tid = t; server = server; covers = covers; changes = changes; committed = false }) found))
    where
      found : is_found at 0 (record { tid = t; server = server; covers = covers; changes = changes; committed = false }) ≡ true
      found = let p = and_parts (same_tid t tid) (server.0 == s) is in rw (subst (λ (x : Tid). names_transaction x ≡ true) (sym (same_tid-true t tid p.0)) named, p.0, p.1, least covers) refl

  marked_found : (t : Tid) (votes : List Prepared) → is_found_in at 0 (map (mark_committed t) votes) ≡ is_found_in at 0 votes
  marked_found t [] = refl
  marked_found t (vote ∷ votes) = by (is_of t vote) refl (marked_found t votes)
    where
      by : (b : Bool) → is_of t vote ≡ b → is_found_in at 0 (map (mark_committed t) votes) ≡ is_found_in at 0 votes → is_found_in at 0 (map (mark_committed t) (vote ∷ votes)) ≡ is_found_in at 0 (vote ∷ votes)
      by true is more = rw is (ap (λ (b : Bool). is_found at 0 vote || b) more)
      by false is more = rw is (ap (λ (b : Bool). is_found at 0 vote || b) more)

  -- what ends another transaction leaves it
  ended_has : (t : Tid) (log : Recovery) → same_tid tid t ≡ false → is_found_in at 0 log.prepared ≡ true → is_found_in at 0 (ended t log).prepared ≡ true
  ended_has t log far found = any_filter (is_found at 0) (λ vote. not (is_of t vote)) passes log.prepared found
    where
      passes : (vote : Prepared) → is_found at 0 vote ≡ true → not (is_of t vote) ≡ true
      passes vote is = not_from_false (same_tid vote.tid t) (subst (λ (x : Tid). same_tid x t ≡ false) (sym (found_is at 0 vote is).0) far)

  prepare_has : (t : Tid) (server : ServerNo) (covers : ℕ) (changes : List Op) (log : Recovery) → is_prepare_at tid s (made.Prepare t server covers changes) ≡ false → is_found_in at 0 log.prepared ≡ true → IsInLog (found_record log (made.Prepare t server covers changes)) at
  prepare_has t server covers changes log far found = inr (of_votes at 0 (found_record log (made.Prepare t server covers changes)) (any_append (is_found at 0) (filter (λ other. not (is_vote_of t server other)) log.prepared) _ (inl (any_filter (is_found at 0) (λ other. not (is_vote_of t server other)) passes log.prepared found))))
    where
      passes : (vote : Prepared) → is_found at 0 vote ≡ true → not (is_vote_of t server vote) ≡ true
      passes vote is = by (is_vote_of t server vote) refl
        where
          its : (vote.tid ≡ tid) × ((vote.server.0 == s) ≡ true)
          its = found_is at 0 vote is

          by : (b : Bool) → is_vote_of t server vote ≡ b → not b ≡ true
          by false e = refl
          by true e = let p = and_parts (same_tid vote.tid t) (vote.server.0 == server.0) e in
              let same : tid ≡ t = sym its.0 ∙ same_tid-true vote.tid t p.0 in
              let number : server.0 ≡ s = sym (eqb-true vote.server.0 server.0 p.1) ∙ eqb-true vote.server.0 s its.1 in
              let own : (same_tid t tid && (server.0 == s)) ≡ true = rw (subst (λ (x : Tid). same_tid t x ≡ true) (sym same) (same_tid-self t), subst (λ (k : ℕ). (server.0 == k) ≡ true) number (eqb-self server.0)) refl in
              absurd (cc (own, far))

  -- one record more
  found_one : (rec : Record) (log : Recovery) → is_aborted_of tid rec ≡ false → is_end_of tid rec ≡ false → is_found_in at 0 log.prepared ≡ true → IsInLog (found_record log rec) at
  found_one (made.Prepare t server covers changes) log stands unended found = by (is_prepare_at tid s (made.Prepare t server covers changes)) refl
    where
      by : (b : Bool) → is_prepare_at tid s (made.Prepare t server covers changes) ≡ b → IsInLog (found_record log (made.Prepare t server covers changes)) at
      by true its = put_has t server covers changes log its
      by false far = prepare_has t server covers changes log far found
  found_one (made.Commit t told) log stands unended found = by (same_tid tid t) refl
    where
      far_has : (told : List NodeNo) → same_tid tid t ≡ false → is_found_in at 0 (found_commit t told log).prepared ≡ true
      far_has [] far = ended_has t log far found
      far_has (node ∷ told) far = marked_found t log.prepared ∙ found

      by : (b : Bool) → same_tid tid t ≡ b → IsInLog (found_commit t told log) at
      by true same = inl (subst (λ (x : Tid). is_among (found_commit x told log).committed tid ≡ true) (same_tid-true tid t same) (commit_has told log))
      by false far = inr (of_votes at 0 (found_commit t told log) (far_has told far))
  found_one (made.Aborted t) log stands unended found = inr (of_votes at 0 (ended t log) (ended_has t log stands found))
  found_one (made.End t) log stands unended found = inr (of_votes at 0 (ended t log) (ended_has t log unended found))

  has_one : (rec : Record) (log : Recovery) → is_aborted_of tid rec ≡ false → is_end_of tid rec ≡ false → IsInLog log at → IsInLog (found_record log rec) at
  has_one rec log stands unended (inl among) = inl (committed_one tid rec log among)
  has_one rec log stands unended (inr found) = found_one rec log stands unended (to_votes at 0 log found)

  -- some more
  pub has_all : (records : List Record) (log : Recovery) → list_any (is_aborted_of tid) records ≡ false → list_any (is_end_of tid) records ≡ false → IsInLog log at → IsInLog (fold found_record log records) at
  has_all [] log stands unended has = has
  has_all (rec ∷ records) log stands unended has =
      let a = or_parts (is_aborted_of tid rec) (list_any (is_aborted_of tid) records) stands in
      let e = or_parts (is_end_of tid rec) (list_any (is_end_of tid) records) unended in
      has_all records (found_record log rec) a.1 e.1 (has_one rec log a.0 e.0 has)

  -- its Prepare among them
  put_one : (rec : Record) (log : Recovery) → is_prepare_at tid s rec ≡ true → IsInLog (found_record log rec) at
  put_one (made.Prepare t server covers changes) log is = put_has t server covers changes log is
  put_one (made.Commit t told) log is = absurd (cc is)
  put_one (made.Aborted t) log is = absurd (cc is)
  put_one (made.End t) log is = absurd (cc is)

  pub put_all : (records : List Record) (log : Recovery) → list_any (is_aborted_of tid) records ≡ false → list_any (is_end_of tid) records ≡ false → list_any (is_prepare_at tid s) records ≡ true → IsInLog (fold found_record log records) at
  put_all [] log stands unended put = absurd (cc put)
  put_all (rec ∷ records) log stands unended put = by (is_prepare_at tid s rec) refl put (put_all records (found_record log rec))
    where
      a : (is_aborted_of tid rec ≡ false) × (list_any (is_aborted_of tid) records ≡ false)
      a = or_parts (is_aborted_of tid rec) (list_any (is_aborted_of tid) records) stands

      e : (is_end_of tid rec ≡ false) × (list_any (is_end_of tid) records ≡ false)
      e = or_parts (is_end_of tid rec) (list_any (is_end_of tid) records) unended

      by : (b : Bool) → is_prepare_at tid s rec ≡ b → (b || list_any (is_prepare_at tid s) records) ≡ true
          → (list_any (is_aborted_of tid) records ≡ false → list_any (is_end_of tid) records ≡ false → list_any (is_prepare_at tid s) records ≡ true → IsInLog (fold found_record (found_record log rec) records) at)
          → IsInLog (fold found_record (found_record log rec) records) at
      by true now is more = has_all records (found_record log rec) a.1 e.1 (put_one rec log now)
      by false far is more = more a.1 e.1 is
