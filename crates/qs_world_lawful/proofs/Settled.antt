-- A transaction is settled: its votes, then what is ready, refused and forgotten. The rules as wholes, and all that are due.
use Rattle.qs_world_lawful.proofs.Words.{◌≡◌, ℕ, Bool, true, false, List, [], ◌∷◌, Option, Some, None, refl, fold, is_some, slice_get, if◌then◌else◌, ClientNo, NodeNo, Tid, release_of, listed, BookValue, find_transaction, TransactionValue, Cause, decide_commit, answer_superior, due_tids, forget_rule, is_quiet, may_answer, pass_rule, ready_rule, refusal_goes_to, refuse_elsewhere, refuse_rule, say_yes, send_refusal, settle, settle_tid, try, Work, doings_of, here, with_manager, told_with_own}
use Rattle.qs_world_lawful.proofs.Words.{needs_pass, Participant, HoldsWork, book_at, HasCause, MayCommit, MayDecide, MaySettle, AtEach}
use Rattle.qs_base.specs.declared.identifiers.Outcome.TheVariants as outcomes
use Rattle.qs_engage.specs.Engage as engage
use Rattle.qs_engage.specs.Engage.{is_passive}
use Rattle.qs_ops.specs.declared.answer.Cause.TheVariants as causes
use Rattle.qs_packet.specs.declared.message.Message.TheVariants as messages
use Rattle.qs_node_step.specs.Deciding.{decide}
use Rattle.qs_tm.specs.Manager as tm
use Rattle.qs_tm.specs.Participant as participant
use Rattle.qs_tm.specs.Participant.{all_agree}
use Rattle.qs_world_lawful.proofs.Asking.{by_send}
use Rattle.qs_world_lawful.proofs.Bare.{by_bare}
use Rattle.qs_world_lawful.proofs.DecidingByRules.{by_abort, by_commit}
use Rattle.qs_world_lawful.proofs.Engaging.{by_engaged}
use Rattle.qs_world_lawful.proofs.FilesHeld.{files_held}
use Rattle.qs_world_lawful.proofs.LearningAll.{stands}
use Rattle.qs_world_lawful.proofs.PassingAll.{by_pass_rule}
use Rattle.qs_world_lawful.proofs.ReadAlone.{by_forget_rule}
use Rattle.qs_world_lawful.proofs.Stages.{by_fold, by_undecided}

module _ (stamp : ℕ) (before : BookValue) (tid : Tid) where
  -- ---- a home decides

  module _ (work : Work) (h : HoldsWork stamp before work) (part : Participant) (known : tm.part_of tid work.node.manager ≡ Some part) (unknown : part.outcome ≡ None) where
    in_machine : (tx : TransactionValue) × (find_transaction (book_at stamp before work) tid ≡ Some tx)
    in_machine = stands stamp (book_at stamp before work) work.node tid part h.holds known

    slot : MayDecide stamp before work tid → (client : ClientNo) → in_machine.0.owner ≡ Some client → is_some (slice_get (book_at stamp before work).owners client.0) ≡ true
    slot d client owns = d.owner in_machine.0 client in_machine.1 owns

    -- for a cause that the machine finds
    pub aborted : MayDecide stamp before work tid → (cause : Cause) → HasCause stamp before work tid cause → HoldsWork stamp before (decide tid outcomes.Abort (Some cause) work)
    aborted d cause has = by_abort stamp before work tid part in_machine.0 h (files_held stamp before work h) known in_machine.1 d.home d.inc unknown (slot d) cause (has h.holds.state in_machine.0 h.holds.there in_machine.1)

    -- what is unanimous is committed, or its Commit finds no room
    committed : MayCommit stamp before work tid → HoldsWork stamp before (decide_commit tid work)
    committed c = by (tm.need_past tid work.room work.node.manager) refl
      where
        by : (o : Option ℕ) → tm.need_past tid work.room work.node.manager ≡ o → HoldsWork stamp before (elim o [ None ↦ decide tid outcomes.Commit None work | Some need ↦ decide tid outcomes.Abort (Some (causes.Room need work.room)) work ])
        by None is = by_commit stamp before work tid part in_machine.0 h (files_held stamp before work h) known in_machine.1 c.decides.home c.decides.inc unknown (slot c.decides) (c.agreed in_machine.0 in_machine.1)
        by (Some need) is = aborted c.decides (causes.Room need work.room) (c.room need is)

    -- ---- elsewhere the superior is answered

    answered : HoldsWork stamp before (answer_superior tid part work)
    answered = by (release_of part.engage)
      where
        by : (o : Option (NodeNo × ℕ)) → HoldsWork stamp before (elim o [ None ↦ work | Some superior ↦ say_yes tid part superior work ])
        by None = h
        by (Some superior) = by_send stamp before (with_manager (tm.released tid) work) superior.0 (messages.VotedYes tid superior.1 (listed (told_with_own (here work) part)))
            (by_engaged stamp before work h tid engage.released (λ e other. refl))

    pub by_ready : (part.engage.home ≡ true → may_answer tid part work ≡ true → is_quiet (doings_of tid work) ≡ true → MayCommit stamp before work tid) → HoldsWork stamp before (ready_rule tid part work)
    by_ready given = by (may_answer tid part work) refl
      where
        quiet : may_answer tid part work ≡ true → part.engage.home ≡ true → (b : Bool) → is_quiet (doings_of tid work) ≡ b → HoldsWork stamp before (if b then decide_commit tid work else work)
        quiet is home true still = committed (given home is still)
        quiet is home false still = h

        of : may_answer tid part work ≡ true → (b : Bool) → part.engage.home ≡ b → HoldsWork stamp before (if b then (if is_quiet (doings_of tid work) then decide_commit tid work else work) else answer_superior tid part work)
        of is true home = quiet is home (is_quiet (doings_of tid work)) refl
        of is false home = answered

        by : (b : Bool) → may_answer tid part work ≡ b → HoldsWork stamp before (if b then (if part.engage.home then (if is_quiet (doings_of tid work) then decide_commit tid work else work) else answer_superior tid part work) else work)
        by true is = of is part.engage.home refl
        by false is = h

    -- ---- causes are sent on, and at the home the first decides

    sent_on : (to : NodeNo) (cs : List Cause) (w : Work) → HoldsWork stamp before w → HoldsWork stamp before (fold (send_refusal tid to) w cs)
    sent_on to [] w k = k
    sent_on to (c ∷ cs) w k = sent_on to cs (send_refusal tid to w c) (by_send stamp before w to (messages.VotedAbort tid c) k)

    pub by_refuse : ((cause : Cause) (more : List Cause) → part.engage.home ≡ true → part.causes ≡ cause ∷ more → MayDecide stamp before work tid × HasCause stamp before work tid cause) → HoldsWork stamp before (refuse_rule tid part work)
    by_refuse given = by part.engage.home refl
      where
        first : part.engage.home ≡ true → (cs : List Cause) → part.causes ≡ cs → HoldsWork stamp before (elim cs [ [] ↦ work | cause ∷ more ↦ decide tid outcomes.Abort (Some cause) work ])
        first home [] is = h
        first home (cause ∷ more) is = let its = given cause more home is in aborted its.0 cause its.1

        by : (b : Bool) → part.engage.home ≡ b → HoldsWork stamp before (if b then elim part.causes [ [] ↦ work | cause ∷ more ↦ decide tid outcomes.Abort (Some cause) work ] else refuse_elsewhere tid part work)
        by true home = first home part.causes refl
        by false home = sent_on (refusal_goes_to tid part) part.causes (with_manager (tm.take_causes tid) work) (by_bare stamp before work tid participant.take_causes (λ p. refl) h)

  -- ---- all four

  pub by_settle_tid : (work : Work) → HoldsWork stamp before work → MaySettle stamp before work tid → HoldsWork stamp before (settle_tid work tid)
  by_settle_tid work h given = forgotten
    where
      passed : HoldsWork stamp before (try tid pass_rule work)
      passed = by_undecided stamp before work h tid (pass_rule tid) (λ part known unknown. by_pass_rule stamp before tid work h part known (given.passes part known))

      made_ready : HoldsWork stamp before (try tid ready_rule (try tid pass_rule work))
      made_ready = by_undecided stamp before (try tid pass_rule work) passed tid (ready_rule tid) (λ part known unknown. by_ready (try tid pass_rule work) passed part known unknown (given.commits part known unknown))

      refused : HoldsWork stamp before (try tid refuse_rule (try tid ready_rule (try tid pass_rule work)))
      refused = by_undecided stamp before (try tid ready_rule (try tid pass_rule work)) made_ready tid (refuse_rule tid) (λ part known unknown. by_refuse (try tid ready_rule (try tid pass_rule work)) made_ready part known unknown (λ cause more. given.aborts part cause more known unknown))

      forgotten : HoldsWork stamp before (try tid forget_rule (try tid refuse_rule (try tid ready_rule (try tid pass_rule work))))
      forgotten = by_undecided stamp before (try tid refuse_rule (try tid ready_rule (try tid pass_rule work))) refused tid (forget_rule tid)
          (λ part known unknown. by_forget_rule stamp before tid (try tid refuse_rule (try tid ready_rule (try tid pass_rule work))) refused part known unknown (given.forgets part known))

-- all transactions to which something may be due
pub by_settle : (stamp : ℕ) (before : BookValue) (work : Work) → HoldsWork stamp before work → AtEach (MaySettle stamp before) settle_tid work (due_tids work) → HoldsWork stamp before (settle work)
by_settle stamp before work h given = by_fold stamp before (MaySettle stamp before) settle_tid (λ w tid k may. by_settle_tid stamp before tid w k may) (due_tids work) work h given
