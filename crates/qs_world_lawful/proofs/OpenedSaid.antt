-- As a world begins the machine has of each log what it says: what is on record, what is committed, contents and changes.
use Rattle.qs_world_lawful.proofs.Words.{◌≡◌, ◌⊎◌, inl, inr, ℕ, ◌<◌, ◌==◌, ◌&&◌, ◌||◌, not, Bool, true, false, List, [], ◌∷◌, map, flat_map, Option, Some, None, refl, sym, ap, subst, ◌∙◌, arith, is_some, nat_le, nat_tests, option_map, list_any, same_tid, same_tid-self, same_tid-true, Tid, BookValue, cell_of_transaction, find_transaction, record_of, voter, put_of, is_among, TransactionValue, OnRecord, no_table, Prepared, Recovery, is_in_doubt, is_untold_of, names_transaction}
use Rattle.qs_world_lawful.proofs.Words.{IsOpening, Opening, doubt_at, HoldsLogged, IsCommitMade, IsMarked, IsRecordSafe, StandsIn, Every, IsApplied, IsVoteLogged, HoldsSaid, IsApart, IsAsRecorded, IsRecorded, eqb-self, some_same, or_left, or_right, and_parts, eqb-true, not-true}
use Rattle.qs_book_laws.proofs.Reopens.{restarted_is}
use Rattle.qs_book_machine.specs.Nodes as machine
use Rattle.qs_book_machine.specs.Opening.{keep_pending, note_of}
use Rattle.qs_ops.specs.Servers.{audit_no, files_no}
use Rattle.qs_world.specs.Openings.{is_doubt}
use Rattle.qs_world_lawful.specs.Said.{IsUndone}
use Rattle.qs_world_lawful.proofs.FoundMembers.{every_two}
use Rattle.qs_world_lawful.proofs.FoundOnce.{found_once}
use Rattle.qs_world_lawful.proofs.LogFrames.{every_on}
use Rattle.qs_world_lawful.proofs.LogRecords.{is_found, is_found_in, of_votes}
use Rattle.qs_world_lawful.proofs.OpenedCommits.{put_among}
use Rattle.qs_world_lawful.proofs.OpenedContents.{audit_opened, files_opened}
use Rattle.qs_world_lawful.proofs.OpenedVotes.{as_pending, last_as}
use Rattle.qs_world_lawful.proofs.OpenedFresh.{aborted, book, done_committed, doubtful, far_of, log, marked, one, says, stands, state}
use Rattle.qs_world_lawful.proofs.OpenedRecords.{all_put, doubt_found, doubts_once, record_for}
use Rattle.qs_world_lawful.proofs.Reopened.{doubt_is}

module _ (o : Opening) (opens : IsOpening o) (n : ℕ) (low : n < o.size) where
  abbrev now : BookValue
  now = book o opens

  abbrev its : machine.NodeValue
  its = state o opens n low

  abbrev its_log : Recovery
  its_log = log o opens n low

  -- on record is what stands in doubt
  record_is : (tid : Tid) (s : ℕ) → record_of its tid s ≡ option_map record_for (option_map as_pending (doubt_at its_log.prepared tid s))
  record_is tid s = all_put tid s (one o opens n low).pending None [] refl ∙ ap (option_map record_for) (last_as tid s its_log.prepared None)

  once : Every (λ (v : Prepared). is_in_doubt v ≡ true → doubt_at its_log.prepared v.tid v.server.0 ≡ Some v) its_log.prepared
  once = doubts_once its_log.prepared (λ tid s. None) (found_once (o.logs n))

  -- a vote is committed there, or in doubt
  in_doubt_or : (v : Prepared) → is_doubt its_log v ≡ true → (v.committed ≡ true) ⊎ (is_in_doubt v ≡ true)
  in_doubt_or v is = of v.committed (names_transaction v.tid) refl refl is
    where
      of : (b c : Bool) → v.committed ≡ b → names_transaction v.tid ≡ c → (b || (c && (not (list_any (is_untold_of v.tid) its_log.untold) && not (list_any (same_tid v.tid) its_log.committed)))) ≡ true → (v.committed ≡ true) ⊎ (is_in_doubt v ≡ true)
      of true c p q h = inl p
      of false true p q h = inr (rw (p, q) refl)
      of false false p q h = absurd (cc h)

  committed_some : (tid : Tid) → is_among its_log.committed tid ≡ true → is_some (find_transaction now tid) ≡ true
  committed_some tid among = by (find_transaction now tid) refl
    where
      by : (p : Option TransactionValue) → find_transaction now tid ≡ p → is_some (find_transaction now tid) ≡ true
      by (Some tx) is = ap is_some is
      by None is = absurd (cc (sym (ap cell_of_transaction is) ∙ done_committed o opens n low tid among))

  -- of each vote all that is known of it
  record KnowsVote (v : Prepared) : Type 0 where
    doubt : is_doubt its_log v ≡ true
    mark : IsMarked its_log v
    there : is_in_doubt v ≡ true → is_some (find_transaction now v.tid) ≡ true
    last : is_in_doubt v ≡ true → doubt_at its_log.prepared v.tid v.server.0 ≡ Some v

  known : Every KnowsVote its_log.prepared
  known = every_two (λ (v : Prepared). (is_doubt its_log v ≡ true) × IsMarked its_log v) (λ (v : Prepared). (is_in_doubt v ≡ true → is_some (find_transaction now v.tid) ≡ true) × (is_in_doubt v ≡ true → doubt_at its_log.prepared v.tid v.server.0 ≡ Some v)) KnowsVote (λ v a b. record { doubt = a.0; mark = a.1; there = b.0; last = b.1 }) its_log.prepared
      (every_two (λ (v : Prepared). is_doubt its_log v ≡ true) (IsMarked its_log) (λ (v : Prepared). (is_doubt its_log v ≡ true) × IsMarked its_log v) (λ v a b. (a, b)) its_log.prepared (doubtful o opens n low) (marked o opens n low))
      (every_two (λ (v : Prepared). is_in_doubt v ≡ true → is_some (find_transaction now v.tid) ≡ true) (λ (v : Prepared). is_in_doubt v ≡ true → doubt_at its_log.prepared v.tid v.server.0 ≡ Some v)
      (λ (v : Prepared). (is_in_doubt v ≡ true → is_some (find_transaction now v.tid) ≡ true) × (is_in_doubt v ≡ true → doubt_at its_log.prepared v.tid v.server.0 ≡ Some v)) (λ v a b. (a, b)) its_log.prepared (stands o opens n low) once)

  stands_in : (v : Prepared) → KnowsVote v → StandsIn now v
  stands_in v k = of (in_doubt_or v k.doubt)
    where
      of : (v.committed ≡ true) ⊎ (is_in_doubt v ≡ true) → StandsIn now v
      of (inl is) = committed_some v.tid (k.mark is)
      of (inr is) = k.there is

  vote_logged : (v : Prepared) → KnowsVote v → IsVoteLogged n now its its_log v
  vote_logged v k = of (in_doubt_or v k.doubt)
    where
      of : (v.committed ≡ true) ⊎ (is_in_doubt v ≡ true) → IsVoteLogged n now its its_log v
      of (inr is) = inl (ap (λ (p : Option OnRecord). elim p [ None ↦ false | Some rec ↦ rec.covers == v.covers ]) (record_is v.tid v.server.0 ∙ ap (λ (d : Option Prepared). option_map record_for (option_map as_pending d)) (k.last is)) ∙ eqb-self v.covers)
      of (inl is) = inr (applied (find_transaction now v.tid) refl)
        where
          applied : (p : Option TransactionValue) → find_transaction now v.tid ≡ p → IsApplied n now its its_log v
          applied (Some tx) found = record { tx = tx; found = found; has_commit = k.mark is; learnt = inr (put_among v.tid its_log.committed [] (inr (k.mark is))) }
          applied None none = absurd (cc (sym (ap is_some none) ∙ committed_some v.tid (k.mark is)))

  -- what is on record was found in doubt
  from_doubt : (tid : Tid) (s : ℕ) (rec : OnRecord) → record_of its tid s ≡ Some rec → (v : Prepared) × (doubt_at its_log.prepared tid s ≡ Some v) × (rec ≡ record_for (as_pending v))
  from_doubt tid s rec is = by (doubt_at its_log.prepared tid s) refl (sym (record_is tid s) ∙ is)
    where
      same : {x y : OnRecord} → Some x ≡ Some y → y ≡ x
      same e = cc e

      by : (d : Option Prepared) → doubt_at its_log.prepared tid s ≡ d → option_map record_for (option_map as_pending d) ≡ Some rec → (v : Prepared) × (doubt_at its_log.prepared tid s ≡ Some v) × (rec ≡ record_for (as_pending v))
      by None at e = absurd (cc e)
      by (Some v) at e = (v, at, same e)

  record DoubtAt (tid : Tid) (s : ℕ) (v : Prepared) : Type 0 where
    tid_is : v.tid ≡ tid
    server_is : v.server.0 ≡ s
    doubt : is_in_doubt v ≡ true
    far : is_among its_log.committed tid ≡ false

  doubt_of : (tid : Tid) (s : ℕ) (v : Prepared) → doubt_at its_log.prepared tid s ≡ Some v → DoubtAt tid s v
  doubt_of tid s v at =
      let p = doubt_is (λ (x : Prepared). is_doubt its_log x ≡ true) tid s its_log.prepared (doubtful o opens n low) v at in
      let q = and_parts (is_in_doubt v) _ p.1 in
      let r = and_parts (same_tid v.tid tid) (v.server.0 == s) q.1 in
      record {
        tid_is = same_tid-true v.tid tid r.0;
        server_is = eqb-true v.server.0 s r.1;
        doubt = q.0;
        far = subst (λ (t : Tid). is_among its_log.committed t ≡ false) (same_tid-true v.tid tid r.0) (far_of o opens n low v p.0 (not-true v.committed (and_parts (names_transaction v.tid) _ q.0).1));
      }

  kept_safe : (tid : Tid) (server : ℕ) (rec : OnRecord) → record_of its tid server ≡ Some rec → IsRecordSafe now its_log (voter tid server) rec.covers
  kept_safe tid server rec is =
      let p = from_doubt tid server rec is in
      inr (inr (of_votes (voter tid server) rec.covers its_log (found (doubt_found tid server (is_found (voter tid server) rec.covers) p.0 (passes p.0 p.2 (doubt_of tid server p.0 p.1)) its_log.prepared None p.1))))
    where
      found : {v : Prepared} → (None ≡ Some v) ⊎ (list_any (is_found (voter tid server) rec.covers) its_log.prepared ≡ true) → is_found_in (voter tid server) rec.covers its_log.prepared ≡ true
      found (inl e) = absurd (cc e)
      found (inr e) = e

      same_le : (a b c d : ℕ) → a ≡ b → c ≡ d → ((a == b) && nat_le d c) ≡ true
      same_le a b c d p q = grind (arith, nat_tests, p, q)

      passes : (v : Prepared) → rec ≡ record_for (as_pending v) → DoubtAt tid server v → is_found (voter tid server) rec.covers v ≡ true
      passes v e d = rw ((and_parts (names_transaction v.tid) _ d.doubt).0, subst (λ (t : Tid). same_tid v.tid t ≡ true) d.tid_is (same_tid-self v.tid)) (same_le v.server.0 server v.covers rec.covers d.server_is (sym (ap (λ (r : OnRecord). r.covers) e)))

  all_made : (tids : List Tid) → ((tid : Tid) → is_among tids tid ≡ true → is_among its_log.committed tid ≡ true) → Every (IsCommitMade now its) tids
  all_made [] within = tt
  all_made (t ∷ tids) within = (inl (put_among t its_log.committed [] (inr (within t (or_left (same_tid t t) (is_among tids t) (same_tid-self t))))), all_made tids (λ u is. within u (or_right (same_tid u t) (is_among tids u) is)))

  pub log_held : HoldsLogged n now its its_log
  log_held = record {
    kinds = (says o opens n low).kinds;
    stands = every_on KnowsVote (StandsIn now) stands_in its_log.prepared known;
    votes = every_on KnowsVote (IsVoteLogged n now its its_log) vote_logged its_log.prepared known;
    marked = marked o opens n low;
    kept = kept_safe;
    commits = all_made its_log.committed (λ tid is. is);
  }

  -- ---- contents and changes

  recorded : (v : Prepared) → KnowsVote v → IsAsRecorded n now its v
  recorded v k clear rec is = of (in_doubt_or v k.doubt)
    where
      p : (u : Prepared) × (doubt_at its_log.prepared v.tid v.server.0 ≡ Some u) × (rec ≡ record_for (as_pending u))
      p = from_doubt v.tid v.server.0 rec is

      of : (v.committed ≡ true) ⊎ (is_in_doubt v ≡ true) → IsRecorded n now (Some rec) v
      of (inl c) = absurd (cc ((doubt_of v.tid v.server.0 p.0 p.1).far, k.mark c))
      of (inr d) = subst (λ (r : OnRecord). IsRecorded n now (Some r) v) (sym (p.2 ∙ ap (λ (u : Prepared). record_for (as_pending u)) (some_same (sym p.1 ∙ k.last d)))) (record { changes = λ clean. refl; count = λ files. refl })

  undone : (v : Prepared) → KnowsVote v → IsUndone n now v
  undone v k home names clear committed = cc (sym committed ∙ aborted o opens n low v k.doubt doubt (k.there doubt) (ap (λ (m : ℕ). record { 0 = m }) home))
    where
      doubt : is_in_doubt v ≡ true
      doubt = rw (names, clear) refl

  pub said_held : HoldsSaid n now its its_log
  said_held = record {
    files = record {
      contents = (restarted_is no_table (map put_of (one o opens n low).files) (flat_map (keep_pending files_no) (one o opens n low).pending)).0 ∙ (files_opened its_log.files (says o opens n low).files).0;
      notes = (restarted_is no_table (map put_of (one o opens n low).files) (flat_map (keep_pending files_no) (one o opens n low).pending)).1 ∙ (files_opened its_log.files (says o opens n low).files).1;
    };
    audit = record {
      contents = (restarted_is no_table (map note_of (one o opens n low).audit) (flat_map (keep_pending audit_no) (one o opens n low).pending)).0 ∙ (audit_opened its_log.audit (says o opens n low).audit).0;
      notes = (restarted_is no_table (map note_of (one o opens n low).audit) (flat_map (keep_pending audit_no) (one o opens n low).pending)).1 ∙ (audit_opened its_log.audit (says o opens n low).audit).1;
    };
    recorded = every_on KnowsVote (IsAsRecorded n now its) recorded its_log.prepared known;
    apart = every_on KnowsVote (IsApart its_log) (λ v k names clear. far_of o opens n low v k.doubt clear) its_log.prepared known;
    gone = λ tid server kept among. none tid server among (record_of its tid server) refl;
    undone = every_on KnowsVote (IsUndone n now) undone its_log.prepared known;
  }
    where
      none : (tid : Tid) (server : ℕ) → is_among its_log.committed tid ≡ true → (p : Option OnRecord) → record_of its tid server ≡ p → record_of its tid server ≡ None
      none tid server among None is = is
      none tid server among (Some rec) is = let q = from_doubt tid server rec is in absurd (cc ((doubt_of tid server q.0 q.1).far, among))
