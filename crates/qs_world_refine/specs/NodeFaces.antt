-- The face of a node for one transaction, read off what the node keeps.
use Rattle.std.specs.Prelude.{ℕ, ◌-◌, ◌==◌, Bool, false, not, ◌&&◌, ◌||◌, length, Option, Some, None, is_some, unwrap_or, if◌then◌else◌, true}
use Rattle.std.specs.List.{filter, list_any}
use Rattle.qs_base.specs.Order.{same_tid}
use Rattle.qs_base.specs.declared.identifiers.NodeNo.{NodeNo}
use Rattle.qs_base.specs.declared.identifiers.Outcome.{Outcome}
use Rattle.qs_base.specs.declared.identifiers.Outcome.TheVariants as outcomes
use Rattle.qs_base.specs.declared.identifiers.Tid.{Tid}
use Rattle.qs_engage.specs.Engage.{peer_of}
use Rattle.qs_engage.specs.Nodes.{same_node, has_node}
use Rattle.qs_ipc.specs.Ipc.{queue_at}
use Rattle.qs_ipc.specs.Queue.{count_of}
use Rattle.qs_tm.specs.Manager as tm
use Rattle.qs_tm.specs.Participant.{new_participant, member_of}
use Rattle.qs_tm.specs.declared.members.MemberPart.{MemberPart}
use Rattle.qs_tm.specs.declared.participant.Participant.{Participant}
use Rattle.qs_node_step.specs.Answering.{was_committed}
use Rattle.qs_node_kept.specs.Loans.{is_standing_loan}
use Rattle.qs_node_step.specs.State.{NodeValue}
use Rattle.qs_world_agree.specs.World as machine
use Rattle.qs_world_refine.specs.Faces.{Face}
use Rattle.qs_world_refine.specs.Links.{node_no}
use Rattle.qs_world_refine.specs.Sights.{server_no}

-- a node that learnt commit and is not involved has only acknowledged it
abbrev pub outcome_seen : Option Outcome → Bool → machine.Outcome
outcome_seen None is_told = machine.Open
outcome_seen (Some outcomes.Commit) is_told = if is_told then machine.Committed else machine.Open
outcome_seen (Some outcomes.Abort) is_told = machine.Aborted

abbrev pub outcome_of : Participant → machine.Outcome
outcome_of part = outcome_seen part.outcome (part.engage.home || part.involved)

abbrev pub uncast_of : MemberPart → ℕ
uncast_of member = elim member.vote [ None ↦ member.served | Some cast ↦ member.served - cast.covers ]

abbrev pub superior_no : Option NodeNo → ℕ
superior_no None = 0
superior_no (Some m) = m.0

-- the place where it began, and no later one of that node
abbrev pub began_here : NodeValue → Tid → Bool
began_here node tid = same_node tid.home node.setting.node && (tid.inc == node.setting.inc)

-- where it began, what is kept for the owner counts too; later on the log alone does
abbrev pub is_past_commit : NodeValue → Tid → Bool
is_past_commit node tid = if began_here node tid then was_committed tid node else list_any (same_tid tid) node.committed

-- a home that knows nothing of it any more, or knows nothing yet
abbrev pub unknown_at_home : NodeValue → Tid → Participant
unknown_at_home node tid = record (new_participant true) { outcome = if is_past_commit node tid then Some outcomes.Commit else None }

abbrev pub unknown : NodeValue → Tid → Participant
unknown node tid = if same_node tid.home node.setting.node then unknown_at_home node tid else new_participant false

-- what is kept of it, or what knowing nothing comes to
abbrev pub part_at : NodeValue → Tid → Participant
part_at node tid = unwrap_or (tm.part_of tid node.manager) (unknown node tid)

abbrev pub waiting_at : NodeValue → Tid → ℕ → ℕ
waiting_at node tid s = count_of tid (queue_at node.queues (server_no s)).waiting

abbrev pub loans_at : NodeValue → Tid → ℕ
loans_at node tid = length (filter (is_standing_loan tid node.setting.inc) node.kept.now.loans)

abbrev pub face : NodeValue → Tid → Participant → Face
face node tid part = record {
  is_home = began_here node tid;
  on = if began_here node tid then not (is_some part.outcome) else is_some part.engage.superior;
  superior = superior_no part.engage.superior;
  last = λ m. (peer_of part.engage (node_no m)).last;
  sent = λ m. (peer_of part.engage (node_no m)).sent;
  covered = λ m. (peer_of part.engage (node_no m)).covered;
  waits = λ s. waiting_at node tid s;
  uncast = λ s. uncast_of (member_of part (server_no s));
  loans = loans_at node tid;
  asked = part.asked;
  blocked = part.blocked;
  involved = part.involved;
  told = λ m. has_node part.told (node_no m);
  outcome = outcome_of part;
  tell = λ m. has_node part.tell (node_no m);
  acknowledged = λ m. has_node part.acknowledged (node_no m);
}

abbrev pub face_at : NodeValue → Tid → Face
face_at node tid = face node tid (part_at node tid)
