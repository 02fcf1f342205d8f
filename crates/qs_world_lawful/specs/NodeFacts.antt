-- What holds of a node by itself, as it comes to a step and at each stage of one: nothing here speaks of the machine.
use Rattle.std.specs.Prelude.{◌≡◌, ℕ, ◌-◌, ◌≤◌, ◌<◌, ⊤, true, false, List, [], ◌∷◌, length, Some, None, nat_le, nat_lt, if◌then◌else◌}
use Rattle.std.specs.List.{find, list_any}
use Rattle.qs_base.specs.Order.{tid_cmp}
use Rattle.qs_base.specs.declared.identifiers.ClientNo.{ClientNo}
use Rattle.qs_base.specs.declared.identifiers.Member.{Member}
use Rattle.qs_base.specs.declared.identifiers.NodeNo.{NodeNo}
use Rattle.qs_base.specs.declared.identifiers.Tid.{Tid}
use Rattle.qs_engage.specs.Engage.{peer_of}
use Rattle.qs_engage.specs.Nodes.{same_node}
use Rattle.qs_engage.specs.declared.engage.Engage.{Engage}
use Rattle.qs_ipc.specs.Queue.{is_for}
use Rattle.qs_book_journal.specs.declared.script_line.Command.TheVariants as commands
use Rattle.qs_node_kept.specs.Keeping.{has_label, is_outcome_of}
use Rattle.qs_node_kept.specs.declared.kept.KeptLabel.{KeptLabel}
use Rattle.qs_node_kept.specs.declared.kept.Kept.{Kept}
use Rattle.qs_book_laws.proofs.Rising.{IsRising}
use Rattle.qs_ops.specs.declared.operation.Op.{Op}
use Rattle.qs_node_step.specs.Requests.{local_count}
use Rattle.qs_node_step.specs.State.{NodeValue}
use Rattle.qs_node_step.specs.declared.event.Event.{Event}
use Rattle.qs_node_step.specs.declared.event.Event.TheVariants as events
use Rattle.qs_node_step.specs.declared.setting.Setting.{Setting}
use Rattle.qs_node_step.specs.declared.state.OpenCommand.{OpenCommand}
use Rattle.qs_tm.specs.Manager as tm
use Rattle.qs_tm.specs.Participant.{is_answered_by}
use Rattle.qs_tm.specs.declared.manager.Manager.{Manager}
use Rattle.qs_tm.specs.declared.participant.Outstanding.{Outstanding}
use Rattle.qs_tm.specs.declared.participant.Participant.{Participant}
use Rattle.qs_world.specs.Moves.{client_count}
use Rattle.qs_world.specs.Openings.{is_age, is_audit}
use Rattle.qs_world_lawful.specs.Logs.{Every}

-- ---- its setting

pub record IsSetIn (setting : Setting) : Type 0 where
  pub small : nat_le setting.nodes 16 ≡ true
  pub audit : is_audit setting.nodes setting.audit ≡ true
  pub age : is_age setting.age ≡ true

-- ---- what it keeps of a transaction

-- no two requests wait under one number at one member
abbrev pub AreApart : List Outstanding → Type 0
AreApart [] = ⊤
AreApart (request ∷ rest) = (list_any (is_answered_by request.member request.number) rest ≡ false) × AreApart rest

-- how many requests went to that node; the engagement does not count those to servers here
abbrev pub given_to : NodeNo → ℕ → Engage → NodeNo → ℕ
given_to here local engage to = if same_node to here then local else (peer_of engage to).sent

-- what waits has one of the numbers that were given
pub record AreNumbered (here : NodeNo) (local : ℕ) (engage : Engage) (waiting : List Outstanding) : Type 0 where
  pub apart : AreApart waiting
  pub given : Every (λ (request : Outstanding). request.number ≤ given_to here local engage request.member.node) waiting

pub record IsPart (setting : Setting) (local : ℕ) (tid : Tid) (part : Participant) : Type 0 where
  pub homed : part.engage.home ≡ same_node tid.home setting.node  -- engaged as a home exactly at its home's node
  pub slots : length part.engage.peers ≡ 16
  pub logged : part.log.prepared ≡ true → part.log.unended ≡ true
  pub began : part.engage.home ≡ true → part.outcome ≡ None → tid.inc ≡ setting.inc  -- what a home has not decided began since the node started
  pub numbered : AreNumbered setting.node local part.engage part.waiting

-- ---- labels, and what a client here owns

-- what a client here began, and was not told the end of, runs here
pub record IsRunning (manager : Manager) (tid : Tid) : Type 0 where
  pub part : Participant
  pub known : tm.part_of tid manager ≡ Some part
  pub undecided : part.outcome ≡ None

pub record AreLabels (setting : Setting) (manager : Manager) (kept : Kept) : Type 0 where
  pub homed : (label : List ℕ) (begun : KeptLabel) (tid : Tid) (client : ClientNo) → find (has_label label) kept.labels ≡ Some begun → begun.tid ≡ Some tid → begun.owner ≡ Some client → tid.home ≡ setting.node
  pub runs : (label : List ℕ) (begun : KeptLabel) (tid : Tid) (client : ClientNo) → find (has_label label) kept.labels ≡ Some begun → begun.tid ≡ Some tid → begun.owner ≡ Some client → find (is_outcome_of tid) kept.outcomes ≡ None → IsRunning manager tid

-- ---- commands that are open

-- a request goes to a server of the run that has such operations
abbrev pub FitsRun : Setting → OpenCommand → Type 0
FitsRun setting command = (member : Member) (op : Op) → command.line.command ≡ commands.Request member op → (is_for member.server op ≡ true) × (nat_lt member.node.0 setting.nodes ≡ true)

pub record IsCommand (setting : Setting) (client : ClientNo) (command : OpenCommand) : Type 0 where
  pub small : nat_lt client.0 client_count ≡ true
  pub fits : FitsRun setting command

-- ---- all of it

-- the manager is of its node, and counts room as the setting says
pub record IsOf (setting : Setting) (manager : Manager) : Type 0 where
  pub at : manager.node ≡ setting.node
  pub in_inc : manager.inc ≡ setting.inc
  pub extra : manager.extra ≡ setting.extra
  pub keep : manager.keep ≡ setting.keep

pub record HasFacts (own : Setting) (manager : Manager) (kept : Kept) (open_commands : List (ClientNo × OpenCommand)) (local : Tid → ℕ) : Type 0 where
  pub setting : IsSetIn own
  pub room : IsOf own manager
  pub rising : IsRising tid_cmp manager.known  -- each transaction is known once
  pub parts : (tid : Tid) (part : Participant) → tm.part_of tid manager ≡ Some part → IsPart own (local tid) tid part
  pub labels : AreLabels own manager kept
  pub commands : Every (λ (entry : ClientNo × OpenCommand). IsCommand own entry.0 entry.1) open_commands

-- how many requests of each transaction went to servers here
abbrev pub locals_of : NodeValue → Tid → ℕ
locals_of node tid = local_count tid node

abbrev pub HasNodeFacts : NodeValue → Type 0
HasNodeFacts node = HasFacts node.setting node.manager node.kept.now node.commands (locals_of node)

-- ---- as a step and an incarnation begin

-- a command that comes fits the run
abbrev pub FitsEvent : Setting → Event → Type 0
FitsEvent setting (events.Command client line label command) = (nat_lt client.0 client_count ≡ true) × ((member : Member) (op : Op) → command ≡ commands.Request member op → (is_for member.server op ≡ true) × (nat_lt member.node.0 setting.nodes ≡ true))
FitsEvent setting event = ⊤

-- what a client owns under a label began at this node
abbrev pub AreHomed : NodeNo → Kept → Type 0
AreHomed node kept = (label : List ℕ) (begun : KeptLabel) (tid : Tid) (client : ClientNo) → find (has_label label) kept.labels ≡ Some begun → begun.tid ≡ Some tid → begun.owner ≡ Some client → tid.home ≡ node

-- ---- ages, between steps

-- the home aborts what is that old in the step in which it becomes so
pub record IsYoung (node : NodeValue) (part : Participant) : Type 0 where
  pub begun : part.begun_at ≤ node.manager.ticks
  pub age : (age : ℕ) → node.setting.age ≡ Some age → node.manager.ticks - part.begun_at < age

abbrev pub AreYoung : NodeValue → Type 0
AreYoung node = (tid : Tid) (part : Participant) → tm.part_of tid node.manager ≡ Some part → part.engage.home ≡ true → part.outcome ≡ None → IsYoung node part
