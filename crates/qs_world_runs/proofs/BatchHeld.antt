-- Where each record of a batch fits what the machine had before its step, the machine has after the crash what the log says with the batch.
use Rattle.qs_world_runs.proofs.Words.{◌≡◌, ◌⊎◌, inl, inr, ℕ, ◌==◌, ◌&&◌, ◌||◌, ◌++◌, not, Bool, true, false, List, [], Option, Some, None, fold, refl, sym, ap, subst, ◌∙◌, if◌then◌else◌, is_some, fold-append, is_at, lookup, slice_get, Tid, CrashCause, Found, voter_exact, changed_at_here, BookValue, cell_of_transaction, crossed_in, find_transaction, effect, pending_at, record_of, voter, voter_cmp, commits_found, is_among, record_at, TransactionValue, is_commit, is_crossed, is_empty, has_vote}
use Rattle.qs_world_runs.proofs.Words.{OnRecord, Voter, Cell, applied, Op, Record, Prepared, Recovery, found_record, names_transaction, nothing_said, recovery, stopped_host, entry_of, Host, Lasts, HasCommitted, HoldsLogged, StandsIn, Every, IsCommitLogged, IsVoteLogged, found_votes, HoldsDown, HoldsSaid, IsApart, IsMadeBy, every_among, every_two, every_on, of_votes, FitCut, KeptVotes, lt-ltb, and_right}
use Rattle.std.proofs.Common.{flat_map}
use Rattle.qs_book_journal.specs.declared.entry.Act.TheVariants as acts
use Rattle.qs_book_machine.specs.Book.{crash_node}
use Rattle.qs_book_machine.specs.Nodes as machine
use Rattle.qs_book_machine.specs.Restart.{changes_at, could_vote, is_new_vote, is_on_record, member_at, vote_as_stopped, voter_of}
use Rattle.qs_book_machine.specs.Transaction.{is_before, was_committed, was_in_commit}
use Rattle.qs_book_machine.specs.declared.transaction.Cell.TheVariants as cells
use Rattle.qs_ops.specs.Servers.{audit_no, files_no}
use Rattle.qs_ops.specs.declared.vote.Vote.TheVariants as votes
use Rattle.qs_world_lawful.specs.Logged.{IsCommitMade}
use Rattle.qs_world_lawful.specs.Logs.{HoldsStopped, IsCutVote, IsRecordKept, found_of}
use Rattle.qs_world_lawful.specs.Said.{HoldsLeft, IsRecorded, IsToBeRecorded, book_found}
use Rattle.qs_world_lawful.proofs.FoundOnce.{found_once}
use Rattle.qs_world_lawful.proofs.RestoredRecords.{all_of_found, found_of_all}
use Rattle.qs_world_runs.specs.CutVotes.{IsMarkedBefore}
use Rattle.qs_world_runs.proofs.BatchGoes.{Goes, IsEither, IsKeptIn, NewVote, OldVote}
use Rattle.qs_world_runs.proofs.BatchVotes.{among_all}
use Rattle.qs_world_runs.proofs.BatchWhole.{goes}
use Rattle.qs_world_runs.proofs.CommitsApplied.{IsSame, every_self, same_applied}
use Rattle.qs_world_runs.proofs.CutCould.{due_votes_cut}
use Rattle.qs_world_runs.proofs.FoundRecords.{LeavesAt, each_on_record, found_then, is_new, others_then, record_then}

between : (a b c : Bool) → b ≡ false → (a && (b && c)) ≡ false
between true true c e = absurd (cc e)
between true false c e = refl
between false b c e = refl

module _ (n : ℕ) (book : BookValue) (state : machine.NodeValue) (there : slice_get book.nodes n ≡ Some state) (lasts : Lasts book) (marks : (tid : Tid) (tx : TransactionValue) → find_transaction book tid ≡ Some tx → IsMarkedBefore book.place tx)
    (stamp : ℕ) (cause : CrashCause) (base records : List Record) (logged : HoldsLogged n book state (recovery base)) (said : HoldsSaid n book state (recovery base)) (fit : FitCut n book state (recovery base).committed [] records)
    (settled_votes : KeptVotes n book (recovery (base ++ records))) (settled_commits : Every (IsCommitLogged n book state) (recovery (base ++ records)).committed) where
  abbrev first : Recovery
  first = recovery base

  abbrev log : Recovery
  log = recovery (base ++ records)

  whole : log ≡ fold found_record first records
  whole = fold-append found_record nothing_said base records

  goes_so : Goes n book state there first log
  goes_so = goes n book state there lasts base records logged said fit settled_votes settled_commits

  -- ---- after the crash

  abbrev now : BookValue
  now = effect book (entry_of n stamp (acts.Crash cause))

  abbrev state_now : machine.NodeValue
  state_now = crash_node book.place state

  there_now : slice_get now.nodes n ≡ Some state_now
  there_now = changed_at_here (crash_node book.place) book.nodes n state there

  among_log : (tid : Tid) → is_among first.committed tid ≡ true → is_among log.committed tid ≡ true
  among_log tid is = subst (λ (r : Recovery). is_among r.committed tid ≡ true) (sym whole) (among_all tid records first is)

  -- what stood on record or was applied is not new
  old_is : (v : Prepared) → OldVote n book state there first v → is_new n now state_now (found_of v) ≡ false
  old_is v old = by old.logged
    where
      by : IsVoteLogged n book state first v → is_new n now state_now (found_of v) ≡ false
      by (inl on) = of (find_transaction book v.tid)
        where
          of : (o : Option TransactionValue) → is_new_vote n state_now o (found_of v) ≡ false
          of None = refl
          of (Some tx) = rw on refl
      by (inr done) = ap (λ (o : Option TransactionValue). is_new_vote n state_now o (found_of v)) done.found ∙ clear
        where
          committed : IsCommitMade book state v.tid → HasCommitted book v.tid
          committed (inl opening) = (lasts.nodes (record { 0 = n }) state there).committed v.tid opening
          committed (inr is) = is

          cell : done.tx.cell ≡ cells.Commit
          cell = ap (λ (o : Option Cell). elim o [ None ↦ cells.Commit | Some c ↦ c ]) (sym (ap cell_of_transaction done.found) ∙ committed (every_among (IsCommitMade book state) first.committed v.tid logged.commits done.has_commit))

          before : (o : Option ℕ) → done.tx.decided ≡ o → (is_commit done.tx.cell && (not (is_some o) || is_before book.place o)) ≡ true
          before None e = rw cell refl
          before (Some p) e = rw cell (lt-ltb p book.place (lasts.past v.tid done.tx p done.found e))

          past : was_committed book.place done.tx ≡ true
          past = before done.tx.decided refl

          in_commit : was_in_commit book.place done.tx ≡ false
          in_commit = and_right (is_before book.place done.tx.asked) (not (was_committed book.place done.tx)) (ap not past)

          clear : (not (is_on_record state_now (found_of v)) && could_vote n state_now done.tx (found_of v)) ≡ false
          clear = and_right (not (is_on_record state_now (found_of v))) (could_vote n state_now done.tx (found_of v)) (between (has_vote v.server.0 votes.Recoverable) (was_in_commit book.place done.tx) _ in_commit)

  -- and the batch's own votes are
  module _ (v : Prepared) (new : NewVote n book state there first v) where
    cut : IsCutVote n now state_now v
    cut = due_votes_cut n stamp cause book state v new.own.due.tx new.own.due.found (marks v.tid new.own.due.tx new.own.due.found) new.own.due.due new.own.keeps (by (is_crossed new.own.due.tx (member_at n v.server.0)) refl)
      where
        by : (b : Bool) → is_crossed new.own.due.tx (member_at n v.server.0) ≡ b → (b || not (is_empty (pending_at state v.tid v.server.0))) ≡ true
        by true is = refl
        by false is = ap (λ (ops : List Op). not (is_empty ops)) (new.own.of.pending (ap (λ (o : Option TransactionValue). crossed_in o (member_at n v.server.0)) new.own.due.found ∙ is)) ∙ ap not new.own.of.has

    off_record : is_on_record state_now (found_of v) ≡ false
    off_record = by (record_of state v.tid v.server.0) refl
      where
        by : (o : Option OnRecord) → record_of state v.tid v.server.0 ≡ o → is_on_record state_now (found_of v) ≡ false
        by None is = ap (λ (o : Option OnRecord). elim o [ None ↦ false | Some rec ↦ rec.covers == v.covers ]) is
        by (Some rec) is = ap (λ (o : Option OnRecord). elim o [ None ↦ false | Some rec ↦ rec.covers == v.covers ]) is ∙ new.own.of.beyond.apart rec is

    new_is : is_new n now state_now (found_of v) ≡ true
    new_is = ap (λ (o : Option TransactionValue). is_new_vote n state_now o (found_of v)) cut.found ∙ rw (off_record, cut.could) refl

  -- ---- what is on record then

  abbrev mid : BookValue
  mid = book_found n now log

  abbrev Then : Prepared → Type 0
  Then v = names_transaction v.tid ≡ true → record_at n mid v.tid v.server.0 ≡ record_then n now state_now (found_of v)

  all_then : Every Then log.prepared
  all_then = all_of_found (λ (f : Found). record_at n mid f.tid f.server.0 ≡ record_then n now state_now f) log.prepared (found_then n now state_now there_now (found_votes log) (found_once (base ++ records)))

  recorded : (v : Prepared) → IsEither n book state there first v → Then v → IsApart log v → IsToBeRecorded n now log v
  recorded v (inr new) then_is apart names clear = subst (λ (o : Option OnRecord). IsRecorded n now o v) (sym (then_is names ∙ ap (λ (b : Bool). if b then Some (vote_as_stopped n now state_now (found_of v)) else record_of state v.tid v.server.0) (new_is v new)))
      (record { changes = new.own.of.pending; count = new.own.of.count })
  recorded v (inl old) then_is apart names clear = by old.logged
    where
      then_old : record_at n mid v.tid v.server.0 ≡ record_of state v.tid v.server.0
      then_old = then_is names ∙ ap (λ (b : Bool). if b then Some (vote_as_stopped n now state_now (found_of v)) else record_of state v.tid v.server.0) (old_is v old)

      on : (o : Option OnRecord) → record_of state v.tid v.server.0 ≡ o → is_on_record state (found_of v) ≡ true → IsRecorded n now (record_at n mid v.tid v.server.0) v
      on None none e = absurd (cc (sym (ap (λ (o : Option OnRecord). elim o [ None ↦ false | Some rec ↦ rec.covers == v.covers ]) none) ∙ e))
      on (Some rec) is e = let k : IsRecorded n book (Some rec) v = old.recorded clear rec is in subst (λ (o : Option OnRecord). IsRecorded n now o v) (sym (then_old ∙ is)) (record { changes = k.changes; count = k.count })

      by : IsVoteLogged n book state first v → IsRecorded n now (record_at n mid v.tid v.server.0) v
      by (inl e) = on (record_of state v.tid v.server.0) refl e
      by (inr done) = absurd (let is : is_among log.committed v.tid ≡ true = among_log v.tid done.has_commit in let far : is_among log.committed v.tid ≡ false = apart names clear in cc (is, far))

  -- of what is committed in the log nothing is new
  same_committed : (tid : Tid) → is_among log.committed tid ≡ true → IsSame n mid book tid
  same_committed tid among server = others_then n now state_now there_now (found_votes log) tid server (found_of_all (LeavesAt n now state_now (voter tid server)) log (every_two (IsEither n book state there first) (IsApart log) (λ (v : Prepared). LeavesAt n now state_now (voter tid server) (found_of v)) leaves log.prepared goes_so.votes settled_votes.apart))
      ∙ sym (ap (λ (o : Option machine.NodeValue). elim o [ None ↦ None | Some node ↦ record_of node tid server ]) there)
    where
      leaves : (v : Prepared) → IsEither n book state there first v → IsApart log v → LeavesAt n now state_now (voter tid server) (found_of v)
      leaves v (inl old) apart = inl (old_is v old)
      leaves v (inr new) apart = inr (by (is_at (voter_cmp (voter tid server)) (voter_of (found_of v))) refl)
        where
          named : names_transaction v.tid ≡ true
          named = lasts.named v.tid (ap is_some new.own.due.found)

          by : (b : Bool) → is_at (voter_cmp (voter tid server)) (voter_of (found_of v)) ≡ b → is_at (voter_cmp (voter tid server)) (voter_of (found_of v)) ≡ false
          by false e = e
          by true e = absurd (let same : tid ≡ v.tid = ap (λ (x : Voter). x.tid) (voter_exact (voter tid server) (voter_of (found_of v)) e) in let far : is_among log.committed v.tid ≡ false = apart named new.doubt in let near : is_among log.committed v.tid ≡ true = subst (λ (t : Tid). is_among log.committed t ≡ true) same among in cc (far, near))

  applied_then : (server : ℕ) → flat_map (changes_at n mid server) (commits_found n mid log.committed) ≡ flat_map (changes_at n book server) (commits_found n book log.committed)
  applied_then server = same_applied n mid book server log.committed (every_self (IsSame n mid book) log.committed same_committed)

  left : HoldsLeft n now state_now log
  left = record {
    files = subst (λ (ops : List Op). IsMadeBy (applied state.files ops) log.files) (sym (applied_then files_no)) goes_so.applies.files;
    audit = subst (λ (ops : List Op). IsMadeBy (applied state.audit ops) log.audit) (sym (applied_then audit_no)) goes_so.applies.audit;
    recorded = every_two (λ (v : Prepared). IsEither n book state there first v × Then v) (IsApart log) (IsToBeRecorded n now log) (λ v a b. recorded v a.0 a.1 b) log.prepared
        (every_two (IsEither n book state there first) Then (λ (v : Prepared). IsEither n book state there first v × Then v) (λ v a b. (a, b)) log.prepared goes_so.votes all_then) settled_votes.apart;
    apart = settled_votes.apart;
    undone = settled_votes.undone;
  }

  -- ---- votes, and what is on record

  stands_then : (v : Prepared) → IsEither n book state there first v → StandsIn now v
  stands_then v (inl old) = old.stands
  stands_then v (inr new) = ap is_some new.own.due.found

  all_stand : Every (StandsIn now) log.prepared
  all_stand = every_on (IsEither n book state there first) (StandsIn now) stands_then log.prepared goes_so.votes

  vote_then : (v : Prepared) → IsEither n book state there first v → IsVoteLogged n now state_now log v ⊎ IsCutVote n now state_now v
  vote_then v (inr new) = inr (cut v new)
  vote_then v (inl old) = inl (by old.logged)
    where
      by : IsVoteLogged n book state first v → IsVoteLogged n now state_now log v
      by (inl on) = inl on
      by (inr done) = inr (record { tx = done.tx; found = done.found; has_commit = among_log v.tid done.has_commit; learnt = done.learnt })

  kept_then : (at : Voter) (rec : OnRecord) → lookup (is_at (voter_cmp at)) state.records ≡ Some rec → IsRecordKept n now log (at, rec)
  kept_then at rec is = by (goes_so.kept at.tid at.server.0 rec is)
    where
      by : IsKeptIn n book state there first log at.tid at.server.0 rec.covers → IsRecordKept n now log (at, rec)
      by (inl lost) = inl lost
      by (inr (inl among)) = inr (inl among)
      by (inr (inr found)) = inr (inr (of_votes (voter at.tid at.server.0) rec.covers log found))

  stopped : HoldsStopped n now state_now log
  stopped = record {
    kinds = settled_votes.kinds;
    votes = every_on (IsEither n book state there first) (λ (v : Prepared). IsVoteLogged n now state_now log v ⊎ IsCutVote n now state_now v) vote_then log.prepared goes_so.votes;
    kept = each_on_record (IsRecordKept n now log) state.records (lasts.nodes (record { 0 = n }) state there).tidy kept_then;
    commits = settled_commits;
  }

  pub down_then : (host : Host) → HoldsDown n now state_now (stopped_host stamp (base ++ records) host)
  down_then host = record { log = stopped; stands = all_stand; marked = settled_votes.marked; left = left; nothing_waits = refl }
