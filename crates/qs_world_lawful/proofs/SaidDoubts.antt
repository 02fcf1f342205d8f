-- Which votes a log has in doubt: of a transaction that its node does not know as prepared, only those of what is aborted; where it has one in doubt
-- all of the transaction are; and of what is committed at its home none is.
use Rattle.qs_world_lawful.proofs.Words.{◌≡◌, ◌⊎◌, inl, inr, ℕ, Bool, true, false, List, ◌++◌, Option, Some, None, refl, sym, ap, subst, ◌∙◌, list_any, ◌==◌, slice_get, same_tid-true, Outcome, Tid, BookValue, cell_of_transaction, find_transaction, is_among, is_on_record, TransactionValue, is_open, OnRecord, Cell, Record, Prepared, Recovery, names_transaction, recovery, Manager, Participant, face_of, Holds, HoldsTid, Lasts, HasAborted, HasCommitted, HoldsHost, HoldsLogged, IsCommitMade, IsKnown}
use Rattle.qs_world_lawful.proofs.Words.{IsMarked, IsPrepared, IsRecordSafe, Every, IsVoteLogged, found_of, HasNodeFacts, IsApart, AreInDoubt, both_ways}
use Rattle.qs_base.specs.declared.identifiers.Outcome.TheVariants as outcomes
use Rattle.qs_book_machine.specs.Nodes as machine
use Rattle.qs_book_machine.specs.declared.transaction.Cell.TheVariants as cells
use Rattle.qs_restart.specs.Recovery.{is_of}
use Rattle.qs_node_step.specs.State.{NodeValue}
use Rattle.qs_tm.specs.Manager as tm
use Rattle.qs_world_lawful.specs.Said.{IsUndone}
use Rattle.qs_world_lawful.specs.Saying.{AreCommitted}
use Rattle.qs_world_lawful.specs.SayingSteps.{is_doubt_of}
use Rattle.qs_world_lawful.proofs.Clauses.{of_tid}
use Rattle.qs_world_lawful.proofs.FoundMembers.{every_among, every_two}
use Rattle.qs_world_lawful.proofs.LogFrames.{every_on}
use Rattle.qs_world_lawful.proofs.LogLearning.{any_of}
use Rattle.qs_world_lawful.proofs.LogRecords.{found_is, is_found, to_votes}
use Rattle.qs_world_lawful.proofs.Truths.{left_true, node_is, not_true, right_true, same_self}

-- ---- of what is committed, or aborted

cells_apart : (o : Option TransactionValue) → cell_of_transaction o ≡ Some cells.Abort → cell_of_transaction o ≡ Some cells.Commit → ⊥
cells_apart o a c = cc (sym a ∙ c)

pub not_both : (book : BookValue) (tid : Tid) → HasAborted book tid → HasCommitted book tid → ⊥
not_both book tid a c = cells_apart (find_transaction book tid) a c

-- ---- a vote in doubt

its_tid : (tid : Tid) (vote : Prepared) → is_of tid vote ≡ true → vote.tid ≡ tid
its_tid tid vote is = same_tid-true vote.tid tid is

-- of a transaction that is not known as prepared a log has nothing in doubt
pub none_in_doubt : (manager : Manager) (log : Recovery) → Every (IsKnown manager) log.prepared → (tid : Tid) → names_transaction tid ≡ true → (IsPrepared (tm.part_of tid manager) → ⊥) → AreCommitted tid log
none_in_doubt manager log knows tid named unprepared = every_on (IsKnown manager) (λ (vote : Prepared). is_of tid vote ≡ true → vote.committed ≡ true) one log.prepared knows
  where
    one : (vote : Prepared) → IsKnown manager vote → is_of tid vote ≡ true → vote.committed ≡ true
    one vote known is = by vote.committed refl
      where
        by : (b : Bool) → vote.committed ≡ b → b ≡ true
        by true e = refl
        by false e = absurd (unprepared (subst (λ (t : Tid). IsPrepared (tm.part_of t manager)) (its_tid tid vote is) (known (ap names_transaction (its_tid tid vote is) ∙ named) e)))

module _ (here : ℕ) (book : BookValue) (state : machine.NodeValue) (manager : Manager) (all disk : Recovery) (logged : HoldsLogged here book state all) (on_disk : HoldsLogged here book state disk) (alike : all.committed ≡ disk.committed) (knows : Every (IsKnown manager) all.prepared) where
  -- on the disk: it is known as prepared, or aborted
  pub doubt_known : (vote : Prepared) → IsVoteLogged here book state disk vote → IsApart disk vote → names_transaction vote.tid ≡ true → vote.committed ≡ false → HasAborted book vote.tid ⊎ IsPrepared (tm.part_of vote.tid manager)
  doubt_known vote (inr applied) apart named open_still = absurd (both_ways (is_among disk.committed vote.tid) (apart named open_still) applied.has_commit)
  doubt_known vote (inl recorded) apart named open_still = by (machine.record_of state vote.tid vote.server.0) refl recorded
    where
      unlisted : is_among all.committed vote.tid ≡ true → ⊥
      unlisted is = both_ways (is_among disk.committed vote.tid) (apart named open_still) (ap (λ (ts : List Tid). is_among ts vote.tid) (sym alike) ∙ is)

      found : (covers : ℕ) (x : Prepared) → is_found (machine.voter vote.tid vote.server.0) covers x ≡ true → IsKnown manager x → IsMarked all x → IsPrepared (tm.part_of vote.tid manager)
      found covers x at known marked = on x.committed refl
        where
          same : x.tid ≡ vote.tid
          same = (found_is (machine.voter vote.tid vote.server.0) covers x at).0

          on : (b : Bool) → x.committed ≡ b → IsPrepared (tm.part_of vote.tid manager)
          on true is_marked = absurd (unlisted (subst (λ (t : Tid). is_among all.committed t ≡ true) same (marked is_marked)))
          on false is_open = subst (λ (t : Tid). IsPrepared (tm.part_of t manager)) same (known (left_true (names_transaction x.tid) _ at) is_open)

      safe : (covers : ℕ) → IsRecordSafe book all (machine.voter vote.tid vote.server.0) covers → HasAborted book vote.tid ⊎ IsPrepared (tm.part_of vote.tid manager)
      safe covers (inl gone) = inl gone
      safe covers (inr (inl done)) = absurd (unlisted done)
      safe covers (inr (inr is)) =
          let at = any_of (λ x. IsKnown manager x × IsMarked all x) (is_found (machine.voter vote.tid vote.server.0) covers) all.prepared (to_votes (machine.voter vote.tid vote.server.0) covers all is)
          (every_two (IsKnown manager) (IsMarked all) (λ x. IsKnown manager x × IsMarked all x) (λ x a b. (a, b)) all.prepared knows logged.marked) in
          inr (found covers at.0 at.1 at.2.0 at.2.1)

      by : (o : Option OnRecord) → machine.record_of state vote.tid vote.server.0 ≡ o → is_on_record state (found_of vote) ≡ true → HasAborted book vote.tid ⊎ IsPrepared (tm.part_of vote.tid manager)
      by None is h = absurd (no_record (machine.record_of state vote.tid vote.server.0) is h)
        where
          no_record : (o : Option OnRecord) → o ≡ None → (elim o [ None ↦ false | Some rec ↦ rec.covers == vote.covers ]) ≡ true → ⊥
          no_record None e h = cc h
          no_record (Some rec) e h = cc e
      by (Some rec) is h = safe rec.covers (logged.kept vote.tid vote.server.0 rec is)

  -- of a transaction that is not known as prepared, and not aborted, the disk has nothing in doubt
  pub none_on_disk : (tid : Tid) → names_transaction tid ≡ true → (IsPrepared (tm.part_of tid manager) → ⊥) → (HasAborted book tid → ⊥) → Every (IsApart disk) disk.prepared → AreCommitted tid disk
  none_on_disk tid named unprepared open_still apart = every_two (IsVoteLogged here book state disk) (IsApart disk) (λ (vote : Prepared). is_of tid vote ≡ true → vote.committed ≡ true) one disk.prepared on_disk.votes apart
    where
      one : (vote : Prepared) → IsVoteLogged here book state disk vote → IsApart disk vote → is_of tid vote ≡ true → vote.committed ≡ true
      one vote logged_so apart_so is = by vote.committed refl
        where
          never : HasAborted book vote.tid ⊎ IsPrepared (tm.part_of vote.tid manager) → ⊥
          never (inl gone) = open_still (subst (HasAborted book) (its_tid tid vote is) gone)
          never (inr known) = unprepared (subst (λ (t : Tid). IsPrepared (tm.part_of t manager)) (its_tid tid vote is) known)

          by : (b : Bool) → vote.committed ≡ b → b ≡ true
          by true e = refl
          by false e = absurd (never (doubt_known vote logged_so apart_so (ap names_transaction (its_tid tid vote is) ∙ named) e))

-- ---- all of a transaction are in doubt

module _ (here : ℕ) (book : BookValue) (state : machine.NodeValue) (log : Recovery) (tid : Tid) (marked : Every (IsMarked log) log.prepared) where
  -- where the log has no Commit of it
  pub all_in_doubt : (is_among log.committed tid ≡ true → ⊥) → AreInDoubt tid log
  all_in_doubt uncommitted = every_on (IsMarked log) (λ (vote : Prepared). is_of tid vote ≡ true → vote.committed ≡ false) one log.prepared marked
    where
      one : (vote : Prepared) → IsMarked log vote → is_of tid vote ≡ true → vote.committed ≡ false
      one vote mark is = by vote.committed refl
        where
          by : (b : Bool) → vote.committed ≡ b → b ≡ false
          by false e = refl
          by true e = absurd (uncommitted (subst (λ (t : Tid). is_among log.committed t ≡ true) (same_tid-true vote.tid tid is) (mark e)))

  -- where one is
  pub doubt_of_all : names_transaction tid ≡ true → Every (IsApart log) log.prepared → list_any (is_doubt_of tid) log.prepared ≡ true → AreInDoubt tid log
  doubt_of_all named apart some =
      let one : (vote : Prepared) × (is_doubt_of tid vote ≡ true) × IsApart log vote = any_of (IsApart log) (is_doubt_of tid) log.prepared some apart in
      let same : one.0.tid ≡ tid = same_tid-true one.0.tid tid (left_true (is_of tid one.0) _ one.1) in
      all_in_doubt (λ is. both_ways (is_among log.committed one.0.tid) (one.2 (ap names_transaction same ∙ named) (not_true one.0.committed (right_true (is_of tid one.0) _ one.1))) (subst (λ (t : Tid). is_among log.committed t ≡ true) (sym same) is))

  -- where the machine has not committed it
  pub uncommitted_in_doubt : Lasts book → slice_get book.nodes here ≡ Some state → Every (IsCommitMade book state) log.committed → (HasCommitted book tid → ⊥) → AreInDoubt tid log
  uncommitted_in_doubt lasts there commits open_still = all_in_doubt (λ is. open_still (done (every_among (IsCommitMade book state) log.committed tid commits is)))
    where
      done : IsCommitMade book state tid → HasCommitted book tid
      done (inl among) = (lasts.nodes (record { 0 = here }) state there).committed tid among
      done (inr committed) = committed

-- ---- between steps: what is in doubt at its home is not committed

module _ (stamp n : ℕ) (book : BookValue) (node : NodeValue) (holds : Holds stamp book node) (facts : HasNodeFacts node) (at : node.setting.node.0 ≡ n) (disk waiting : List Record) (host : HoldsHost n book node.manager disk waiting) where
  abbrev all_said : Recovery
  all_said = recovery (disk ++ waiting)

  -- what a home has prepared is not committed
  open_at_home : (tid : Tid) → tid.home.0 ≡ n → HasCommitted book tid → IsPrepared (tm.part_of tid node.manager) → ⊥
  open_at_home tid home done prepared = of (tm.part_of tid node.manager) refl prepared
    where
      decided : (part : Participant) → tm.part_of tid node.manager ≡ Some part → part.log.prepared ≡ true → (o : Option Outcome) → part.outcome ≡ o → ⊥
      decided part known is (Some outcomes.Commit) o = (host.knows.parts tid part known).undone is o
      decided part known is (Some outcomes.Abort) o = not_both book tid ((host.knows.parts tid part known).aborted is o) done
      decided part known is None o = by (find_transaction book tid) refl
        where
          at_node : tid.home ≡ node.setting.node
          at_node = node_is tid.home node.setting.node (home ∙ sym at)

          home_is : part.engage.home ≡ true
          home_is = (facts.parts tid part known).homed ∙ (ap (λ (k : ℕ). tid.home.0 == k) (at ∙ sym home) ∙ same_self tid.home.0)

          opened : (c : Cell) → is_open c ≡ true → Some c ≡ Some cells.Commit → ⊥
          opened cells.Open e c = cc c
          opened cells.Commit e c = cc e
          opened cells.Abort e c = cc e

          by : (o : Option TransactionValue) → find_transaction book tid ≡ o → ⊥
          by None e = none (ap cell_of_transaction e)
            where
              none : cell_of_transaction (find_transaction book tid) ≡ None → ⊥
              none e = cc (sym e ∙ done)
          by (Some tx) e =
              let its : HoldsTid node.setting.node node.setting.inc tid tx (face_of node tid) = of_tid stamp book node holds tid tx e in
              opened tx.cell ((its.home at_node ((facts.parts tid part known).began home_is o)).undecided part known o) (sym (ap cell_of_transaction e) ∙ done)

      of : (o : Option Participant) → tm.part_of tid node.manager ≡ o → IsPrepared o → ⊥
      of None e p = p
      of (Some part) e p = decided part e p part.outcome refl

  pub undone_all : Every (IsUndone n book) all_said.prepared
  undone_all = every_on (IsKnown node.manager) (IsUndone n book) (λ vote known home named open_still done. open_at_home vote.tid home done (known named open_still)) all_said.prepared host.knows.votes

  pub undone_disk : Every (IsApart (recovery disk)) (recovery disk).prepared → Every (IsUndone n book) (recovery disk).prepared
  undone_disk apart = every_two (IsVoteLogged n book host.state (recovery disk)) (IsApart (recovery disk)) (IsUndone n book)
      (λ vote logged apart_so home named open_still done. by vote home done (doubt_known n book host.state node.manager all_said (recovery disk) host.all host.on_disk host.alike host.knows.votes vote logged apart_so named open_still))
      (recovery disk).prepared host.on_disk.votes apart
    where
      by : (vote : Prepared) → vote.tid.home.0 ≡ n → HasCommitted book vote.tid → HasAborted book vote.tid ⊎ IsPrepared (tm.part_of vote.tid node.manager) → ⊥
      by vote home done (inl gone) = not_both book vote.tid gone done
      by vote home done (inr known) = open_at_home vote.tid home done known
