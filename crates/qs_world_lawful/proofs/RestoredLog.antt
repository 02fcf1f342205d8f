-- After a restart the log of the node says what the machine has on record, and the node that begins knows its log.
use Rattle.qs_world_lawful.proofs.Words.{◌≡◌, ◌⊎◌, inl, inr, ℕ, ◌==◌, ◌||◌, Bool, true, false, List, [], ◌∷◌, Option, Some, None, fold, refl, sym, ap, subst, ◌∙◌, if◌then◌else◌, is_some, slice_get, list_any, lookup, is_at, member_cmp, same_tid, same_tid-self, NodeNo, Tid, Found, voter_exact, changed_at_here, IsRising, put_rises, BookValue, cell_of_transaction, crossed_in, find_transaction, is_recoverable, record_of, voter, voter_cmp, is_among, is_found_as, is_new_vote, is_on_record}
use Rattle.qs_world_lawful.proofs.Words.{may_be_lost, member_at, new_votes, record_at, reopened, votes_once, with_votes, without_records, TransactionValue, has_learnt, is_open, OnRecord, Voter, Cell, TableValue, apply_change, apply_note, Prepared, Recovery, is_in_doubt, names_transaction, HoldsLogged, IsCommitMade, IsRecordSafe, StandsIn, Every, IsCutVote, IsRecordKept, IsVoteLogged, found_of, found_votes, HoldsSaid, IsAsRecorded, IsRecorded, IsToBeRecorded, and_parts, eqb-true, or_left, or_right}
use Rattle.qs_world_lawful.proofs.Words.{eqb-self}
use Rattle.qs_book_laws.proofs.Found.{forgot_others}
use Rattle.qs_book_laws.proofs.FoundOnly.{found_stays, least, none_stays_none, recorded_was}
use Rattle.qs_book_laws.proofs.Reopens.{restarted_is}
use Rattle.qs_book_laws.proofs.Rising.{voter_total}
use Rattle.qs_book_machine.specs.Nodes as machine
use Rattle.qs_book_machine.specs.Restart.{is_found}
use Rattle.qs_book_machine.specs.Transaction.{is_abort}
use Rattle.qs_book_machine.specs.declared.transaction.Cell.TheVariants as cells
use Rattle.qs_ops.specs.Servers.{audit_no, extra_no, files_no}
use Rattle.qs_world_lawful.specs.Said.{IsUndone}
use Rattle.qs_world_lawful.proofs.FoundMembers.{every_two}
use Rattle.qs_world_lawful.proofs.LogFrames.{every_on}
use Rattle.qs_world_lawful.proofs.RestartGoes.{Goes, IsElsewhere}
use Rattle.qs_world_lawful.proofs.Restored.{learnt_new, new_state, state_found, with_found}
use Rattle.qs_world_lawful.proofs.RestoredRecords.{all_of_found, forgot_done, forgot_was, found_of_all, new_votes_are, on_record_all, record_was}
use Rattle.qs_world_lawful.proofs.RestoredServers.{SameNode, same_forgot, same_then, same_votes}
use Rattle.qs_world_lawful.proofs.RestoredTid.{InDoubt, Restarts, in_doubt, aborted_stays, done_committed, goes, new, open_aborted, sorted}

every_lookup : (P : Voter × OnRecord → Type 0) (es : List (Voter × OnRecord)) → Every P es → (at : Voter) (rec : OnRecord) → lookup (is_at (voter_cmp at)) es ≡ Some rec → P (at, rec)
every_lookup P [] all at rec is = absurd (cc is)
every_lookup P (e ∷ es) all at rec is = by (is_at (voter_cmp at) e.0) refl is (every_lookup P es all.1 at rec)
  where
    by : (b : Bool) → is_at (voter_cmp at) e.0 ≡ b → (if b then Some e.1 else lookup (is_at (voter_cmp at)) es) ≡ Some rec → (lookup (is_at (voter_cmp at)) es ≡ Some rec → P (at, rec)) → P (at, rec)
    by true same has more = subst (λ (v : Voter). P (v, rec)) (sym (voter_exact at e.0 same)) (subst (λ (x : OnRecord). P (e.0, x)) (ap (λ (o : Option OnRecord). elim o [ None ↦ e.1 | Some x ↦ x ]) has) all.0)
    by false far has more = more has

each_found : (fs : List Found) → Every (λ (f : Found). is_found fs (voter f.tid f.server.0) ≡ true) fs
each_found [] = tt
each_found (f ∷ fs) = (
  rw (same_tid-self f.tid, eqb-self f.server.0, least f.covers) refl,
  every_on (λ (g : Found). is_found fs (voter g.tid g.server.0) ≡ true) (λ (g : Found). is_found (f ∷ fs) (voter g.tid g.server.0) ≡ true)
      (λ g is. or_right (is_found_as (voter g.tid g.server.0) 0 f) (is_found fs (voter g.tid g.server.0)) is) fs (each_found fs),
)

module _ (book : BookValue) (here : NodeNo) (stamp inc : ℕ) (log : Recovery) (state : machine.NodeValue) (r : Restarts book here inc log state) (once : votes_once (found_votes log) ≡ true) where
  abbrev now : BookValue
  now = new book here stamp inc log state r

  abbrev found : machine.NodeValue
  found = state_found book here.0 stamp inc log state r.there

  abbrev mid : BookValue
  mid = with_found book here.0 stamp inc log state r.there

  abbrev pub reborn : machine.NodeValue
  reborn = new_state book here.0 stamp inc log state r.there

  named : (v : Prepared) → StandsIn book v → names_transaction v.tid ≡ true
  named v stands = r.lasts.named v.tid stands

  -- ---- what is found is on record, or was applied

  abbrev Applied : Found → Type 0
  Applied f = (tx : TransactionValue) × (find_transaction book f.tid ≡ Some tx) × ((is_among log.committed f.tid ≡ true) × ((has_learnt tx (member_at here.0 f.server.0) ≡ true) ⊎ (is_among state.committed f.tid ≡ true)))

  abbrev OnFound : Found → Type 0
  OnFound f = (is_on_record found f ≡ true) ⊎ Applied f

  ok : (v : Prepared) → IsVoteLogged here.0 book state log v ⊎ IsCutVote here.0 book state v → ((is_on_record state (found_of v) ≡ true) ⊎ (is_new_vote here.0 state (find_transaction book v.tid) (found_of v) ≡ true)) ⊎ Applied (found_of v)
  ok v (inl (inl on)) = inl (inl on)
  ok v (inl (inr applied)) = inr (applied.tx, applied.found, (applied.has_commit, applied.learnt))
  ok v (inr cut) = by (is_on_record state (found_of v)) refl
    where
      by : (b : Bool) → is_on_record state (found_of v) ≡ b → ((is_on_record state (found_of v) ≡ true) ⊎ (is_new_vote here.0 state (find_transaction book v.tid) (found_of v) ≡ true)) ⊎ Applied (found_of v)
      by true on = inl (inl on)
      by false off = inl (inr (ap (λ (o : Option TransactionValue). is_new_vote here.0 state o (found_of v)) cut.found ∙ rw (off, cut.could) refl))

  on_found : Every (λ (v : Prepared). names_transaction v.tid ≡ true → OnFound (found_of v)) log.prepared
  on_found = all_of_found OnFound log.prepared (subst (λ (votes : List (Voter × OnRecord)). Every (λ (f : Found). (is_on_record (with_votes votes state) f ≡ true) ⊎ Applied f) (found_votes log)) (sym (new_votes_are here.0 book state (found_votes log) r.there))
      (on_record_all here.0 book state Applied (found_votes log) state once (found_of_all (λ (f : Found). record_of state f.tid f.server.0 ≡ record_of state f.tid f.server.0) log (every_on (StandsIn book) (λ (v : Prepared). record_of state v.tid v.server.0 ≡ record_of state v.tid v.server.0) (λ v s. refl) log.prepared r.stands))
      (found_of_all (λ (f : Found). ((is_on_record state f ≡ true) ⊎ (is_new_vote here.0 state (find_transaction book f.tid) f ≡ true)) ⊎ Applied f) log
      (every_on (λ (v : Prepared). IsVoteLogged here.0 book state log v ⊎ IsCutVote here.0 book state v) (λ (v : Prepared). ((is_on_record state (found_of v) ≡ true) ⊎ (is_new_vote here.0 state (find_transaction book v.tid) (found_of v) ≡ true)) ⊎ Applied (found_of v)) ok log.prepared r.stopped.votes))))

  -- each vote of the log is found, so that the restart leaves it on record
  all_found : Every (λ (v : Prepared). names_transaction v.tid ≡ true → is_found (found_votes log) (voter v.tid v.server.0) ≡ true) log.prepared
  all_found = all_of_found (λ (f : Found). is_found (found_votes log) (voter f.tid f.server.0) ≡ true) log.prepared (each_found (found_votes log))

  abbrev kept_then : machine.NodeValue
  kept_then = fold without_records found log.committed

  there_found : slice_get mid.nodes here.0 ≡ Some found
  there_found = changed_at_here (with_votes (new_votes here.0 book (found_votes log))) book.nodes here.0 state r.there

  record_is : (tid : Tid) (s : ℕ) → record_at here.0 mid tid s ≡ record_of found tid s
  record_is tid s = ap (λ (o : Option machine.NodeValue). elim o [ None ↦ None | Some node ↦ record_of node tid s ]) there_found

  on_some : (o : Option OnRecord) (covers : ℕ) → (elim o [ None ↦ false | Some rec ↦ rec.covers == covers ]) ≡ true → is_some o ≡ true
  on_some None covers e = absurd (cc e)
  on_some (Some rec) covers e = refl

  same_committed : reborn.committed ≡ state.committed
  same_committed = (same_then state found (fold without_records found log.committed) (same_votes (new_votes here.0 book (found_votes log)) state) (same_forgot log.committed found)).committed

  vote_logged : (v : Prepared) → is_recoverable v.server.0 ≡ true → StandsIn book v → (names_transaction v.tid ≡ true → OnFound (found_of v)) → (names_transaction v.tid ≡ true → is_found (found_votes log) (voter v.tid v.server.0) ≡ true) → IsVoteLogged here.0 now reborn log v
  vote_logged v kept stands on is_there = by (is_among log.committed v.tid) refl (on (named v stands))
    where
      applied : is_among log.committed v.tid ≡ true → (later : TransactionValue) → find_transaction now v.tid ≡ Some later → (has_learnt later (member_at here.0 v.server.0) ≡ true) ⊎ (is_among reborn.committed v.tid ≡ true) → IsVoteLogged here.0 now reborn log v
      applied among later at learnt = inr (record { tx = later; found = at; has_commit = among; learnt = learnt })

      by : (b : Bool) → is_among log.committed v.tid ≡ b → OnFound (found_of v) → IsVoteLogged here.0 now reborn log v
      by false far (inl is) = inl (ap (λ (o : Option OnRecord). elim o [ None ↦ false | Some rec ↦ rec.covers == v.covers ]) (found_stays (found_votes log) kept_then v.tid v.server.0 (is_there (named v stands)) ∙ forgot_others log.committed v.tid v.server.0 found far) ∙ is)
      by false far (inr a) = absurd (cc (sym far ∙ a.2.0))
      by true among (inr a) =
          let p = goes book here stamp inc log state r v.tid a.0 a.1 in
          applied among p.0 p.1 (of p.2 a.2.1)
        where
          of : {later : TransactionValue} → Goes here.0 (IsElsewhere here.0 inc) book.place v.tid a.0 later → (has_learnt a.0 (member_at here.0 v.server.0) ≡ true) ⊎ (is_among state.committed v.tid ≡ true) → (has_learnt later (member_at here.0 v.server.0) ≡ true) ⊎ (is_among reborn.committed v.tid ≡ true)
          of g (inl is) = inl (g.learnt (member_at here.0 v.server.0) is)
          of g (inr is) = inr (ap (λ (tids : List Tid). is_among tids v.tid) same_committed ∙ is)
      by true among (inl is) = at (find_transaction book v.tid) refl
        where
          at : (o : Option TransactionValue) → find_transaction book v.tid ≡ o → IsVoteLogged here.0 now reborn log v
          at None none = absurd (cc (sym (ap is_some none) ∙ stands))
          at (Some tx) had =
              let p = goes book here stamp inc log state r v.tid tx had in
              applied among p.0 p.1 (inl (learnt_new book here.0 stamp inc log state r.there r.stopped.kinds (sorted book here stamp inc log state r) v.tid v.server.0 p.0 kept among (ap is_some (record_is v.tid v.server.0) ∙ on_some (record_of found v.tid v.server.0) v.covers is) p.1))

  -- ---- what is on record is safe

  rising_state : IsRising voter_cmp state.records
  rising_state = (r.lasts.nodes here state r.there).tidy

  votes_rise : (votes : List (Voter × OnRecord)) (v : machine.NodeValue) → IsRising voter_cmp v.records → IsRising voter_cmp (with_votes votes v).records
  votes_rise [] v rising = rising
  votes_rise (vote ∷ votes) v rising = votes_rise votes _ (put_rises voter_cmp voter_total vote.0 vote.1 v.records rising)

  rising_found : IsRising voter_cmp found.records
  rising_found = votes_rise (new_votes here.0 book (found_votes log)) state rising_state

  safe : (tid : Tid) (server : ℕ) (rec : OnRecord) → record_of reborn tid server ≡ Some rec → IsRecordSafe now log (voter tid server) rec.covers
  safe tid server rec is = by (record_was here.0 book state (found_votes log) state (voter tid server) rec (subst (λ (votes : List (Voter × OnRecord)). record_of (with_votes votes state) tid server ≡ Some rec) (new_votes_are here.0 book state (found_votes log) r.there) (forgot_was log.committed found (voter tid server) rec rising_found (recorded_was (found_votes log) kept_then tid server rec is).0)))
    where
      abort_is : (c : Cell) → is_abort c ≡ true → c ≡ cells.Abort
      abort_is cells.Abort e = refl
      abort_is cells.Open e = absurd (cc e)
      abort_is cells.Commit e = absurd (cc e)

      lost : (o : Option TransactionValue) → find_transaction book tid ≡ o → may_be_lost here.0 tid o ≡ true → IsRecordSafe now log (voter tid server) rec.covers
      lost None none e = absurd (cc e)
      lost (Some tx) had e = cell (is_abort tx.cell) refl
        where
          cell : (b : Bool) → is_abort tx.cell ≡ b → IsRecordSafe now log (voter tid server) rec.covers
          cell true a = inl (aborted_stays book here stamp inc log state r tid (ap cell_of_transaction had ∙ ap Some (abort_is tx.cell a)))
          cell false a = among (is_among log.committed tid) refl
            where
              two : (is_open tx.cell ≡ true) × ((tid.home.0 == here.0) ≡ true)
              two = and_parts (is_open tx.cell) (tid.home.0 == here.0) (rw a at e)

              among : (b : Bool) → is_among log.committed tid ≡ b → IsRecordSafe now log (voter tid server) rec.covers
              among true f = inr (inl f)
              among false f = inl (open_aborted book here stamp inc log state r tid tx had (ap (λ (x : ℕ). record { 0 = x }) (eqb-true tid.home.0 here.0 two.1)) two.0 f)

      kept : IsRecordKept here.0 book log (voter tid server, rec) → IsRecordSafe now log (voter tid server) rec.covers
      kept (inl e) = lost (find_transaction book tid) refl e
      kept (inr (inl e)) = inr (inl e)
      kept (inr (inr e)) = inr (inr e)

      by : (lookup (is_at (voter_cmp (voter tid server))) state.records ≡ Some rec) ⊎ (list_any (is_found_as (voter tid server) rec.covers) (found_votes log) ≡ true) → IsRecordSafe now log (voter tid server) rec.covers
      by (inl had) = kept (every_lookup (IsRecordKept here.0 book log) state.records r.stopped.kept (voter tid server) rec had)
      by (inr e) = inr (inr e)

  -- ---- the log and the machine

  pub stands_now : Every (StandsIn now) log.prepared
  stands_now = every_on (StandsIn book) (StandsIn now) one log.prepared r.stands
    where
      one : (v : Prepared) → StandsIn book v → StandsIn now v
      one v stands = by (find_transaction book v.tid) refl
        where
          by : (o : Option TransactionValue) → find_transaction book v.tid ≡ o → StandsIn now v
          by None none = absurd (cc (sym (ap is_some none) ∙ stands))
          by (Some tx) had = ap is_some (goes book here stamp inc log state r v.tid tx had).1

  all_done : (tids : List Tid) → ((tid : Tid) → is_among tids tid ≡ true → is_among log.committed tid ≡ true) → Every (IsCommitMade now reborn) tids
  all_done [] within = tt
  all_done (t ∷ tids) within = (inr (done_committed book here stamp inc log state r t (within t (or_left (same_tid t t) (is_among tids t) (same_tid-self t)))), all_done tids (λ u is. within u (or_right (same_tid u t) (is_among tids u) is)))

  both_of : Every (λ (v : Prepared). (is_recoverable v.server.0 ≡ true) × StandsIn book v) log.prepared
  both_of = every_two (λ (v : Prepared). is_recoverable v.server.0 ≡ true) (StandsIn book) (λ (v : Prepared). (is_recoverable v.server.0 ≡ true) × StandsIn book v) (λ v a b. (a, b)) log.prepared r.stopped.kinds r.stands

  pub log_held : HoldsLogged here.0 now reborn log
  log_held = record {
    kinds = r.stopped.kinds;
    stands = stands_now;
    votes = every_two (λ (v : Prepared). (is_recoverable v.server.0 ≡ true) × StandsIn book v) (λ (v : Prepared). (names_transaction v.tid ≡ true → OnFound (found_of v)) × (names_transaction v.tid ≡ true → is_found (found_votes log) (voter v.tid v.server.0) ≡ true)) (IsVoteLogged here.0 now reborn log) (λ v both on. vote_logged v both.0 both.1 on.0 on.1) log.prepared both_of
        (every_two (λ (v : Prepared). names_transaction v.tid ≡ true → OnFound (found_of v)) (λ (v : Prepared). names_transaction v.tid ≡ true → is_found (found_votes log) (voter v.tid v.server.0) ≡ true)
        (λ (v : Prepared). (names_transaction v.tid ≡ true → OnFound (found_of v)) × (names_transaction v.tid ≡ true → is_found (found_votes log) (voter v.tid v.server.0) ≡ true)) (λ v on is. (on, is)) log.prepared on_found all_found);
    marked = r.marked;
    kept = safe;
    commits = all_done log.committed (λ tid is. is);
  }

  -- ---- contents and changes

  same_node_then : SameNode state (fold without_records found log.committed)
  same_node_then = same_then state found (fold without_records found log.committed) (same_votes (new_votes here.0 book (found_votes log)) state) (same_forgot log.committed found)

  recorded_now : (v : Prepared) → is_recoverable v.server.0 ≡ true → StandsIn book v → IsToBeRecorded here.0 book log v → IsAsRecorded here.0 now reborn v
  recorded_now v kept stands to_be clear rec is = by (is_among log.committed v.tid) refl
    where
      crossed_still : crossed_in (find_transaction now v.tid) (member_at here.0 v.server.0) ≡ false → crossed_in (find_transaction book v.tid) (member_at here.0 v.server.0) ≡ false
      crossed_still clean = at (find_transaction book v.tid) refl
        where
          at : (o : Option TransactionValue) → find_transaction book v.tid ≡ o → crossed_in (find_transaction book v.tid) (member_at here.0 v.server.0) ≡ false
          at None none = rw none refl
          at (Some tx) had =
              let p = goes book here stamp inc log state r v.tid tx had in
              ap (λ (o : Option TransactionValue). crossed_in o (member_at here.0 v.server.0)) had ∙ (ap (λ crossed. is_some (lookup (is_at (member_cmp (member_at here.0 v.server.0))) crossed)) (sym p.2.crossed) ∙ (sym (ap (λ (o : Option TransactionValue). crossed_in o (member_at here.0 v.server.0)) p.1) ∙ clean))

      same_record : is_among log.committed v.tid ≡ false → record_at here.0 mid v.tid v.server.0 ≡ Some rec
      same_record far = record_is v.tid v.server.0 ∙ (sym (forgot_others log.committed v.tid v.server.0 found far) ∙ (recorded_was (found_votes log) kept_then v.tid v.server.0 rec is).0)

      by : (b : Bool) → is_among log.committed v.tid ≡ b → IsRecorded here.0 now (Some rec) v
      by true among = absurd (cc (sym (forgot_done log.committed v.tid v.server.0 found kept rising_found among) ∙ (recorded_was (found_votes log) kept_then v.tid v.server.0 rec is).0))
      by false far =
          let h : IsRecorded here.0 book (Some rec) v = subst (λ (o : Option OnRecord). IsRecorded here.0 book o v) (same_record far) (to_be (named v stands) clear) in
          record { changes = λ clean. h.changes (crossed_still clean); count = h.count }

  undone : (v : Prepared) → (is_in_doubt v ≡ true → InDoubt book here stamp inc log state r v.tid) → IsUndone here.0 now v
  undone v doubt home names clear committed = cc (sym committed ∙ (doubt (rw (names, clear) refl)).away (ap (λ (x : ℕ). record { 0 = x }) home))

  -- a server that keeps contents keeps its votes in a log
  recoverable : (a b c : Bool) → (a || b) ≡ true → (a || (b || c)) ≡ true
  recoverable true b c e = refl
  recoverable false true c e = refl
  recoverable false false c e = absurd (cc e)

  pub said_held : HoldsSaid here.0 now reborn log
  said_held = record {
    files = record {
      contents = (restarted_is (fold without_records found log.committed).files (reopened here.0 inc (found_votes log) log.committed mid).files (reopened here.0 inc (found_votes log) log.committed mid).files_kept).0 ∙ (ap (λ (t : TableValue). fold apply_change t.contents (reopened here.0 inc (found_votes log) log.committed mid).files) same_node_then.files ∙ r.left.files.contents);
      notes = (restarted_is (fold without_records found log.committed).files (reopened here.0 inc (found_votes log) log.committed mid).files (reopened here.0 inc (found_votes log) log.committed mid).files_kept).1 ∙ (ap (λ (t : TableValue). fold apply_note t.notes (reopened here.0 inc (found_votes log) log.committed mid).files) same_node_then.files ∙ r.left.files.notes);
    };
    audit = record {
      contents = (restarted_is (fold without_records found log.committed).audit (reopened here.0 inc (found_votes log) log.committed mid).audit (reopened here.0 inc (found_votes log) log.committed mid).audit_kept).0 ∙ (ap (λ (t : TableValue). fold apply_change t.contents (reopened here.0 inc (found_votes log) log.committed mid).audit) same_node_then.audit ∙ r.left.audit.contents);
      notes = (restarted_is (fold without_records found log.committed).audit (reopened here.0 inc (found_votes log) log.committed mid).audit (reopened here.0 inc (found_votes log) log.committed mid).audit_kept).1 ∙ (ap (λ (t : TableValue). fold apply_note t.notes (reopened here.0 inc (found_votes log) log.committed mid).audit) same_node_then.audit ∙ r.left.audit.notes);
    };
    recorded = every_two (λ (v : Prepared). (is_recoverable v.server.0 ≡ true) × StandsIn book v) (IsToBeRecorded here.0 book log) (IsAsRecorded here.0 now reborn) (λ v all to_be. recorded_now v all.0 all.1 to_be) log.prepared both_of r.left.recorded;
    apart = r.left.apart;
    gone = λ tid server kept among. none_stays_none (found_votes log) kept_then tid server (forgot_done log.committed tid server found (recoverable (server == files_no) (server == audit_no) (server == extra_no) kept) rising_found among);
    undone = every_on (λ (v : Prepared). is_in_doubt v ≡ true → InDoubt book here stamp inc log state r v.tid) (IsUndone here.0 now) undone log.prepared (in_doubt book here stamp inc log state r);
  }
