-- What holds of one node and what it sends, in the middle of its steps too, whatever becomes of a transaction.
use Rattle.std.specs.Prelude.{◌≡◌, ◌⊎◌, ℕ, ◌<◌, ◌≤◌, ◌==◌, Bool, true, false, not, ◌&&◌, ◌||◌, [], ◌∷◌, Option, Some, None, is_some, nat_lt, nat_le}
use Rattle.std.specs.List.{list_all, list_any}
use Rattle.qs_base.specs.Order.{same_tid}
use Rattle.qs_base.specs.declared.identifiers.ClientNo.{ClientNo}
use Rattle.qs_base.specs.declared.identifiers.NodeNo.{NodeNo}
use Rattle.qs_base.specs.declared.identifiers.Outcome.{Outcome}
use Rattle.qs_base.specs.declared.identifiers.Outcome.TheVariants as outcomes
use Rattle.qs_base.specs.declared.identifiers.ServerNo.{ServerNo}
use Rattle.qs_base.specs.declared.identifiers.Tid.{Tid}
use Rattle.qs_engage.specs.Nodes.{same_node}
use Rattle.qs_ipc.specs.Ipc.{IpcValue}
use Rattle.qs_ipc.specs.Queue.{QueueValue}
use Rattle.qs_ipc.specs.declared.delivery.Delivery.{Delivery}
use Rattle.qs_node_kept.specs.declared.kept.KeptLabel.{KeptLabel}
use Rattle.qs_node_kept.specs.declared.kept.Decided.{Decided}
use Rattle.qs_node_kept.specs.declared.kept.Lent.{Lent}
use Rattle.qs_record.specs.declared.record.Record.{Record}
use Rattle.qs_restart.specs.Recovery.{names_transaction}
use Rattle.qs_node_step.specs.Answering.{kept_outcome, was_committed}
use Rattle.qs_node_step.specs.Bringing.{is_other}
use Rattle.qs_node_step.specs.State.{NodeValue, Work}
use Rattle.qs_node_step.specs.declared.event.Effects.{Effects}
use Rattle.qs_node_step.specs.declared.event.Sending.{Sending}
use Rattle.qs_node_step.specs.declared.setting.Setting.{Setting}
use Rattle.qs_node_step.specs.declared.state.OpenCommand.{OpenCommand}
use Rattle.qs_tm.specs.Manager as tm
use Rattle.qs_tm.specs.declared.participant.Participant.{Participant}
use Rattle.qs_world_refine.specs.Begun.{fits, fits_record, may_command}
use Rattle.qs_world_refine.specs.NodeFaces.{began_here}
use Rattle.qs_world_refine.specs.PassLaws.{HasKinds}
use Rattle.qs_world_refine.specs.Sound.{where_so, same_flag, in_order, keeps_owned}

-- what stays while a node does its step: its setting, how many transactions it has begun, which transactions may be known, which have begun, and whom it knows
pub record Stage : Type 0 where
  pub setting : Setting
  pub count : ℕ
  pub past : Tid → Bool
  pub begun : Tid → Bool
  pub met : NodeNo → Bool

-- ---- what it keeps of transactions

-- who is asked or answers to someone has begun; and it answers to one that the node knows
abbrev pub is_tidy_superior : Stage → Tid → Option NodeNo → Bool
is_tidy_superior c tid None = true
is_tidy_superior c tid (Some superior) = c.begun tid && c.met superior

abbrev pub is_tidy_part : Stage → Tid × Participant → Bool
is_tidy_part c entry =
    (c.past entry.0 && same_flag entry.1.engage.home (same_node entry.0.home c.setting.node))
    && (where_so entry.1.asked (c.begun entry.0) && is_tidy_superior c entry.0 entry.1.engage.superior)

-- ---- what waits: each server has one queue

abbrev pub is_other_server : ServerNo → ServerNo × QueueValue → Bool
is_other_server server entry = not (server.0 == entry.0.0)

abbrev pub are_servers_apart : IpcValue → Bool
are_servers_apart [] = true
are_servers_apart (entry ∷ rest) = list_all (is_other_server entry.0) rest && are_servers_apart rest

abbrev pub is_begun_delivery : Stage → Delivery → Bool
is_begun_delivery c delivery = c.begun delivery.tid

abbrev pub is_begun_queue : Stage → ServerNo × QueueValue → Bool
is_begun_queue c entry = list_all (is_begun_delivery c) entry.1.waiting

-- ---- what is kept for clients

-- a label that has an owner is of a transaction that began here
abbrev pub is_tidy_label : Stage → KeptLabel → Bool
is_tidy_label c begun = elim begun.tid [ None ↦ true | Some tid ↦ c.begun tid && where_so (is_some begun.owner) (same_node tid.home c.setting.node) ]

abbrev pub is_tidy_loan : Stage → Lent → Bool
is_tidy_loan c loan = c.begun loan.tid && nat_le loan.inc c.setting.inc

abbrev pub is_tidy_outcome : Stage → Decided → Bool
is_tidy_outcome c decided = c.past decided.tid && same_node decided.tid.home c.setting.node

-- what began here in this incarnation is known, or committed
abbrev pub KeepsPasts : NodeValue → Type 0
KeepsPasts node = (t : Tid) → began_here node t ≡ true → names_transaction t ≡ true → t.seq ≤ node.manager.begun → (tm.knows t node.manager || was_committed t node) ≡ true

-- decided, and where that is a commit, so the log says
abbrev pub is_settled : Option Outcome → Bool → Bool
is_settled None logged = false
is_settled (Some outcomes.Commit) logged = logged
is_settled (Some outcomes.Abort) logged = true

-- what began here in an earlier incarnation was taken up from the log as that
abbrev pub KeepsEarlier : NodeValue → Type 0
KeepsEarlier node = (t : Tid) (part : Participant) → tm.part_of t node.manager ≡ Some part → same_node t.home node.setting.node ≡ true → began_here node t ≡ false → is_settled part.outcome (list_any (same_tid t) node.committed) ≡ true

pub record IsCrossed (node : NodeValue) : Type 0 where
  pub owned : keeps_owned node ≡ true
  pub commits : (t : Tid) (part : Participant) → tm.part_of t node.manager ≡ Some part → began_here node t ≡ true → part.outcome ≡ Some outcomes.Commit → was_committed t node ≡ true
  pub fresh : (t : Tid) (part : Participant) → tm.part_of t node.manager ≡ Some part → part.outcome ≡ None → kept_outcome t node ≡ None  -- what is not decided has no outcome that is kept
  pub pasts : KeepsPasts node
  pub earlier : KeepsEarlier node

-- ---- commands, servers, and the node

abbrev pub is_tidy_command : Stage → ClientNo × OpenCommand → Bool
is_tidy_command c entry = may_command c.setting.nodes entry.1.line.command

pub record IsTidyNode (c : Stage) (node : NodeValue) : Type 0 where
  pub setting : node.setting ≡ c.setting
  pub own : node.manager.node ≡ c.setting.node
  pub inc : node.manager.inc ≡ c.setting.inc
  pub count : node.manager.begun ≡ c.count
  pub ordered : in_order node.manager.known ≡ true
  pub known : list_all (is_tidy_part c) node.manager.known ≡ true
  pub apart : are_servers_apart node.queues ≡ true
  pub waiting : list_all (is_begun_queue c) node.queues ≡ true
  pub labels : list_all (is_tidy_label c) node.kept.now.labels ≡ true
  pub loans : list_all (is_tidy_loan c) node.kept.now.loans ≡ true
  pub outcomes : list_all (is_tidy_outcome c) node.kept.now.outcomes ≡ true
  pub commands : list_all (is_tidy_command c) node.commands ≡ true
  pub kinds : HasKinds node
  pub committed : list_all c.past node.committed ≡ true  -- the transactions of its log's Commits
  pub crossed : IsCrossed node

-- ---- what it sends, and the records that it appends

abbrev pub is_tidy_sending : Stage → Sending → Bool
is_tidy_sending c sending = is_other c.setting sending.to && fits c.past c.begun c.setting.nodes c.setting.node sending.to sending.message

abbrev pub is_tidy_record : Stage → Record → Bool
is_tidy_record c rec = fits_record c.past c.setting.node rec

pub record IsTidyOut (c : Stage) (out : Effects) : Type 0 where
  pub messages : list_all (is_tidy_sending c) out.messages ≡ true
  pub records : list_all (is_tidy_record c) out.records ≡ true

-- in the middle of a step
pub record IsTidy (c : Stage) (work : Work) : Type 0 where
  pub node : IsTidyNode c work.node
  pub begun : work.node.is_first ≡ false
  pub out : IsTidyOut c work.out

-- what the stage has to give: what has begun may be known, and its home is in the run; what began at this node has one of the numbers that it gave
pub record IsStage (c : Stage) : Type 0 where
  pub inside : (tid : Tid) → c.begun tid ≡ true → (c.past tid ≡ true) × (nat_lt tid.home.0 c.setting.nodes ≡ true)
  pub own : (tid : Tid) → c.past tid ≡ true → same_node tid.home c.setting.node ≡ true → (names_transaction tid ≡ true) × ((tid.inc < c.setting.inc) ⊎ ((tid.inc ≡ c.setting.inc) × (tid.seq ≤ c.count)))
