-- What a node does when another one restarted, and in its own first step.
use Rattle.std.specs.Prelude.{ℕ, Bool, true, false, not, ◌&&◌, ◌||◌, List, fold, map, Some, None, is_some, nat_lt, if◌then◌else◌}
use Rattle.qs_base.specs.declared.identifiers.NodeNo.{NodeNo}
use Rattle.qs_base.specs.declared.identifiers.Outcome.{Outcome}
use Rattle.qs_base.specs.declared.identifiers.Outcome.TheVariants as outcomes
use Rattle.qs_base.specs.declared.identifiers.Tid.{Tid}
use Rattle.qs_engage.specs.Nodes.{listed, same_node}
use Rattle.qs_ipc.specs.Ipc as ipc
use Rattle.qs_ops.specs.declared.answer.Cause.TheVariants as causes
use Rattle.qs_packet.specs.declared.message.Message.TheVariants as messages
use Rattle.qs_tm.specs.Manager as tm
use Rattle.qs_tm.specs.Outcomes.{named_by, is_abort, is_told_again}
use Rattle.qs_tm.specs.Participant.{is_owed_by, answered_to}
use Rattle.qs_tm.specs.declared.participant.Participant.{Participant}
use Rattle.qs_node_step.specs.State.{Work, part_of, with_node, with_manager, with_queues}
use Rattle.qs_node_step.specs.Bringing.{send, send_each, log_if}
use Rattle.qs_node_step.specs.Asking.{block}
use Rattle.qs_node_step.specs.Deciding.{give_notices}
use Rattle.qs_node_step.specs.Telling.{record_learnt}

-- ---- another node restarted: what waits here for its dead incarnation is served, and its reply goes nowhere; and each
-- transaction that has to do with it is looked at

-- Event: Notice makes the cause where a request is not covered; where only a reply is missing, none.
abbrev pub find_gone : NodeNo → ℕ → Tid → Participant → Work → Work
find_gone peer old tid part work = if is_owed_by peer part then block tid (causes.Gone peer old) work else work

-- it is to be told, or answers to a node: else it waits for nobody's word, and is kept for the names that it was told alone
abbrev pub awaits_word : Participant → Bool
awaits_word part = part.involved || is_some part.engage.superior

-- the home restarted after the transaction began, or the node that this one answers to, or answered to last
abbrev pub is_orphaned_by : NodeNo → ℕ → Tid → Participant → Bool
is_orphaned_by peer new tid part = awaits_word part && ((same_node tid.home peer && nat_lt tid.inc new) || answered_to peer part)

-- Event: Inquire where the node is involved, else Inquire_lost or Inquire_home.
abbrev pub inquire : NodeNo → ℕ → Tid → Participant → Work → Work
inquire peer new tid part work =
    if not part.engage.home && is_orphaned_by peer new tid part then send tid.home (messages.Inquire tid) work else work

-- the home tells it again: of a commit where it did not take it in, of an abort in any case
-- Event: Tell, or Tell_abort.
abbrev pub tell_again : NodeNo → Tid → Outcome → Participant → Work → Work
tell_again peer tid outcome part work = if is_told_again peer part then send peer (messages.Tell tid outcome) work else work

-- a node that keeps an abort tells a home that restarted whom it drew in
-- Event: Name_again.
abbrev pub name_again : NodeNo → Tid → Participant → Work → Work
name_again peer tid part work =
    if is_abort part.outcome && same_node tid.home peer then send peer (messages.Told tid (listed (named_by tid.home part))) work
    else work

abbrev pub notice_decided : NodeNo → Tid → Outcome → Participant → Work → Work
notice_decided peer tid outcome part work =
    if part.engage.home then tell_again peer tid outcome part work else name_again peer tid part work

abbrev pub notice_part : NodeNo → ℕ → ℕ → Tid → Participant → Work → Work
notice_part peer old new tid part work = elim part.outcome [
  | None ↦ inquire peer new tid part (find_gone peer old tid part work)
  | Some outcome ↦ notice_decided peer tid outcome part work
]

-- the number of its last request begins anew
abbrev pub notice_tid : NodeNo → ℕ → ℕ → Work → Tid → Work
notice_tid peer old new work tid = elim (part_of tid work) [
  | None ↦ work
  | Some part ↦ notice_part peer old new tid part (with_manager (tm.restarted tid peer) work)
]

abbrev pub peer_restarted : NodeNo → ℕ → ℕ → Work → Work
peer_restarted peer old new work =
    fold (notice_tid peer old new) (with_queues (ipc.mark_queues peer) work) (tm.concerned peer work.node.manager)

-- ---- the first step of an incarnation

-- a home that found a Prepare and no Commit has aborted; one that found a Commit with a list tells it
-- Event: Learn_abort_home, and Abort_logged once its record is on the disk; Tell for each node of the list.
abbrev pub resume_home : Tid → Participant → Outcome → Work → Work
resume_home tid part outcomes.Commit work = send_each (listed part.tell) (messages.Tell tid outcomes.Commit) work
resume_home tid part outcomes.Abort work = log_if (record_learnt tid outcomes.Abort part) (give_notices tid outcomes.Abort work)

-- elsewhere a Prepare is in doubt
-- Event: Inquire.
abbrev pub resume_part : Tid → Participant → Work → Work
resume_part tid part work = elim part.outcome [
  | None ↦ send tid.home (messages.Inquire tid) work
  | Some outcome ↦ resume_home tid part outcome work
]

abbrev pub resume_tid : Work → Tid → Work
resume_tid work tid = elim (part_of tid work) [ None ↦ work | Some part ↦ resume_part tid part work ]

-- the transactions that the node knows
abbrev pub known_tids : Work → List Tid
known_tids work = map (λ (entry : Tid × Participant). entry.0) work.node.manager.known

abbrev pub begin_incarnation : Work → Work
begin_incarnation work =
    if work.node.is_first then fold resume_tid (with_node (λ node. record node { is_first = false }) work) (known_tids work) else work
