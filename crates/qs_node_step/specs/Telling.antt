-- The outcome: how it is told, taken in, acknowledged, told on, and forgotten at the home.
use Rattle.std.specs.Prelude.{Bool, true, false, not, List, [], Option, Some, None, if◌then◌else◌}
use Rattle.std.specs.List.{list_any}
use Rattle.qs_base.specs.declared.identifiers.NodeNo.{NodeNo}
use Rattle.qs_base.specs.declared.identifiers.Outcome.{Outcome}
use Rattle.qs_base.specs.declared.identifiers.Outcome.TheVariants as outcomes
use Rattle.qs_base.specs.declared.identifiers.Tid.{Tid}
use Rattle.qs_engage.specs.Nodes.{listed, same_node}
use Rattle.qs_ipc.specs.Ipc as ipc
use Rattle.qs_ipc.specs.Ipc.{IpcValue}
use Rattle.qs_packet.specs.declared.message.Message.TheVariants as messages
use Rattle.qs_record.specs.declared.record.Record.{Record}
use Rattle.qs_record.specs.declared.record.Record.TheVariants as records
use Rattle.qs_tm.specs.Manager as tm
use Rattle.qs_tm.specs.Outcomes.{named_by}
use Rattle.qs_tm.specs.Participant.{is_undecided}
use Rattle.qs_tm.specs.declared.participant.Participant.{Participant}
use Rattle.qs_node_step.specs.State.{Work, here, part_of, with_manager, with_queues}
use Rattle.qs_node_step.specs.Bringing.{send, send_each, log, log_if}
use Rattle.qs_node_step.specs.Deciding.{give_notices}

-- ---- it is told to another node than the home

-- the nodes that a Told names: on abort all whom this one drew in, the home left out
abbrev pub names_of : Tid → Outcome → Participant → List NodeNo
names_of tid outcomes.Commit part = []
names_of tid outcomes.Abort part = listed (named_by tid.home part)

abbrev pub names_at : Tid → Outcome → Work → List NodeNo
names_at tid outcome work = tm.told_of tid [] (names_of tid outcome) work.node.manager

-- a commit ends a Prepare by a Commit, which is forced; an abort by Aborted, which is not
abbrev pub end_record : Tid → Outcome → Record
end_record tid outcomes.Commit = records.Commit tid []
end_record tid outcomes.Abort = records.Aborted tid

abbrev pub record_learnt : Tid → Outcome → Participant → Option Record
record_learnt tid outcome part = if part.log.prepared then Some (end_record tid outcome) else None

-- its servers learn it, the Commit first on the disk, the Aborted whenever
-- Event: Learn, or Acknowledge where the node is not involved; Learn_abort, and Abort_logged once its record is on the disk.
abbrev pub learn : Tid → Outcome → Participant → Work → Work
learn tid outcome part work =
    log_if (record_learnt tid outcome part) (give_notices tid outcome (with_manager (tm.took_outcome tid outcome) work))

-- a node that knows nothing of the transaction keeps an abort
-- Event: Learn_abort.
abbrev pub learn_unknown : Tid → Outcome → Work → Work
learn_unknown tid outcomes.Commit work = work
learn_unknown tid outcomes.Abort work = with_manager (tm.keep_abort tid) work

-- Event: as above; where the outcome is known Acknowledge, or none.
abbrev pub take_outcome : Tid → Outcome → Work → Work
take_outcome tid outcome work = elim (part_of tid work) [
  | None ↦ learn_unknown tid outcome work
  | Some part ↦ if is_undecided part then learn tid outcome part work else work
]

-- a Tell comes, and Told is answered
abbrev pub tell_came : NodeNo → Tid → Outcome → Work → Work
tell_came peer tid outcome work =
    if same_node tid.home (here work) then work
    else send peer (messages.Told tid (names_at tid outcome work)) (take_outcome tid outcome work)

-- ---- it was taken in: a Told comes to the home

-- what was served of it counts no more; nothing changes while a request of it waits
abbrev pub drop_counts : Tid → IpcValue → IpcValue
drop_counts tid queues = if ipc.waits tid queues then queues else ipc.forget tid queues

-- it is unknown from now on
abbrev pub forget : Tid → Work → Work
forget tid work = with_queues (drop_counts tid) (with_manager (tm.forget tid) work)

-- once all that were to be told a commit took it in
-- Event: End, once the record is on the disk.
abbrev pub end_told : Bool → Tid → Work → Work
end_told false tid work = work
end_told true tid work = forget tid (log (records.End tid) work)

-- Event: Take_told.
abbrev pub take_told : NodeNo → Tid → Work → Work
take_told peer tid work =
    end_told (tm.all_acknowledged tid peer work.node.manager) tid (with_manager (tm.acknowledged tid peer) work)

-- those that a Told on abort names and that were not told are told too
-- Event: Take_names for each name, then Tell_abort for each new one.
abbrev pub take_names : Tid → List NodeNo → Work → Work
take_names tid further work =
    send_each (listed (tm.new_names tid further work.node.manager)) (messages.Tell tid outcomes.Abort)
    (with_manager (tm.take_names tid further) work)

-- a home that knows nothing of a transaction keeps that it is aborted, and that this node was told
abbrev pub keep_abort_told : Tid → NodeNo → Work → Work
keep_abort_told tid peer work = with_manager (λ manager. tm.add_tell tid peer (tm.keep_abort tid manager)) work

abbrev pub is_other_node : Tid → NodeNo → Bool
is_other_node tid node = not (same_node tid.home node)

abbrev pub told_unknown : NodeNo → Tid → List NodeNo → Work → Work
told_unknown peer tid further work =
    if list_any (is_other_node tid) further then take_names tid further (keep_abort_told tid peer work) else work

abbrev pub told_known : NodeNo → Tid → List NodeNo → Option Outcome → Work → Work
told_known peer tid further None work = work
told_known peer tid further (Some outcomes.Commit) work = take_told peer tid work
told_known peer tid further (Some outcomes.Abort) work = take_names tid further work

abbrev pub told_at_home : NodeNo → Tid → List NodeNo → Work → Work
told_at_home peer tid further work = elim (part_of tid work) [
  | None ↦ told_unknown peer tid further work
  | Some part ↦ told_known peer tid further part.outcome work
]

abbrev pub told_came : NodeNo → Tid → List NodeNo → Work → Work
told_came peer tid further work = if same_node tid.home (here work) then told_at_home peer tid further work else work
