-- Decisions: what the home records, whom it tells, and how the servers of a node learn how a transaction ends.
use Rattle.std.specs.Prelude.{List, [], ◌∷◌, ◌++◌, fold, Option, Some, None}
use Rattle.qs_base.specs.declared.identifiers.Outcome.{Outcome}
use Rattle.qs_base.specs.declared.identifiers.Outcome.TheVariants as outcomes
use Rattle.qs_base.specs.declared.identifiers.ServerNo.{ServerNo}
use Rattle.qs_base.specs.declared.identifiers.Tid.{Tid}
use Rattle.qs_ops.specs.Server.{after_notice}
use Rattle.qs_ops.specs.declared.answer.Cause.{Cause}
use Rattle.qs_ops.specs.declared.answer.Cause.TheVariants as causes
use Rattle.qs_ops.specs.declared.vote.Notice.{Notice}
use Rattle.qs_ops.specs.declared.vote.Notice.TheVariants as notices
use Rattle.qs_book_journal.specs.declared.entry.Act.TheVariants as acts
use Rattle.qs_packet.specs.declared.message.Message.TheVariants as messages
use Rattle.qs_tm.specs.Manager as tm
use Rattle.qs_tm.specs.Participant.{learners, servers_due}
use Rattle.qs_tm.specs.declared.manager.Decision.{Decision}
use Rattle.qs_tm.specs.declared.participant.Due.TheVariants as dues
use Rattle.qs_node_step.specs.State.{Work, with_manager, with_kept, change_server}
use Rattle.qs_node_step.specs.Bringing.{member_here, enter, send_each, log_if}

-- ---- notices

abbrev pub notice_of : Outcome → Notice
notice_of outcomes.Commit = notices.Commit
notice_of outcomes.Abort = notices.Abort

abbrev pub notify : Tid → Notice → ServerNo → Work → Work
notify tid notice server work =
    with_manager (tm.settled tid server) (change_server server (λ value. after_notice value tid notice) work)

-- an immediate server is told that the transaction ends
abbrev pub end_member : Tid → Work → ServerNo → Work
end_member tid work server = enter (acts.Ending tid (member_here work server)) (notify tid notices.Ending server work)

abbrev pub due_endings : Tid → Work → List ServerNo
due_endings tid work = tm.told_of tid [] (servers_due dues.Ending) work.node.manager

abbrev pub end_members : Tid → Work → Work
end_members tid work = fold (end_member tid) work (due_endings tid work)

-- a server learns the outcome
abbrev pub learn_member : Tid → Outcome → Work → ServerNo → Work
learn_member tid outcome work server = enter (acts.Learn tid (member_here work server) outcome) (notify tid (notice_of outcome) server work)

abbrev pub learners_at : Tid → Work → List ServerNo
learners_at tid work = tm.told_of tid [] learners work.node.manager

abbrev pub learn_members : Tid → Outcome → Work → Work
learn_members tid outcome work = fold (learn_member tid outcome) work (learners_at tid work)

-- on abort immediate servers get their endings first
abbrev pub give_notices : Tid → Outcome → Work → Work
give_notices tid outcomes.Commit work = learn_members tid outcomes.Commit work
give_notices tid outcomes.Abort work = learn_members tid outcomes.Abort (end_members tid work)

-- ---- the decision

-- for the owner it is kept through restarts
abbrev pub keep_outcome : Tid → Outcome → Option Cause → Work → Work
keep_outcome tid outcome cause work =
    with_kept (λ kept. record kept { outcomes = kept.outcomes ++ record { tid = tid; outcome = outcome; cause = cause } ∷ [] }) work

abbrev pub decide_as : Tid → Outcome → Option Cause → Decision → Work → Work
decide_as tid outcome cause made work =
    send_each made.tell (messages.Tell tid outcome)
    (give_notices tid outcome
    (enter (acts.Decide tid outcome cause)
    (keep_outcome tid outcome cause
    (log_if made.rec (with_manager (tm.decide tid outcome) work)))))

-- a commit is recorded and forced where the home's log has a Prepare or a node is to be told; an abort ends a Prepare
-- Event: Commit, or Commit_unlogged where no record is written, then Tell for each node that is to be told; Abort, then
-- Tell_abort for each, and Abort_logged once its record is on the disk.
abbrev pub decide : Tid → Outcome → Option Cause → Work → Work
decide tid outcome cause work = decide_as tid outcome cause (tm.decision tid outcome work.node.manager) work

-- where the Commit finds no room, and nothing is kept for it, the home aborts
abbrev pub decide_commit : Tid → Work → Work
decide_commit tid work = elim (tm.need_past tid work.room work.node.manager) [
  | None ↦ decide tid outcomes.Commit None work
  | Some need ↦ decide tid outcomes.Abort (Some (causes.Room need work.room)) work
]
