-- What a node has in hand is said as scripts say it, at each turn of a step: an owner speaks of what it begins, and others of what they are lent.
use Rattle.std.specs.Prelude.{◌≡◌, ◌⊎◌, ℕ, Bool, true, List, [], Option, None, Some}
use Rattle.qs_base.specs.declared.identifiers.ClientNo.{ClientNo}
use Rattle.qs_base.specs.declared.identifiers.Member.{Member}
use Rattle.qs_base.specs.declared.identifiers.NodeNo.{NodeNo}
use Rattle.qs_base.specs.declared.identifiers.Tid.{Tid}
use Rattle.qs_ops.specs.declared.operation.Op.{Op}
use Rattle.qs_book_journal.specs.declared.script_line.Command.TheVariants as commands
use Rattle.qs_book_journal.specs.declared.script_line.ScriptLine.{ScriptLine}
use Rattle.qs_book_laws.proofs.Rising.{IsRising}
use Rattle.qs_node_kept.specs.declared.kept.KeptLabel.{KeptLabel}
use Rattle.qs_node_step.specs.Serving.{label_at}
use Rattle.qs_node_step.specs.State.{NodeValue, Work, client_cmp}
use Rattle.qs_node_step.specs.Step.{is_owner}
use Rattle.qs_node_step.specs.declared.event.Event.{Event}
use Rattle.qs_node_step.specs.declared.state.Issued.{Issued}
use Rattle.qs_node_step.specs.declared.state.OpenCommand.{OpenCommand}
use Rattle.qs_world_course.specs.Clients.{in_hand_of}
use Rattle.qs_world_walk.specs.May.{IsRequest, command_of}
use Rattle.qs_world_walk.specs.Stage.{Stage}
use Rattle.qs_world_walk.specs.Walked.{AtTurns}
use Rattle.qs_world_said.specs.Knows.{KnowsIssued, MaySay}

-- which clients sit at the node, and which of them begins what is under a label
pub record Owns : Type 0 where
  pub sits : ClientNo → Bool
  pub begins : List ℕ → Option ClientNo

-- a begin is of its own client, and of a label that the node has not met
abbrev pub IsToBegin : Owns → NodeValue → ClientNo → ScriptLine → Type 0
IsToBegin own node client line = (line.command ≡ commands.Begin) × ((own.begins line.label ≡ Some client) × (label_at line.label node ≡ None))

pub record IsSaidAs (own : Owns) (node : NodeValue) (client : ClientNo) (line : ScriptLine) : Type 0 where
  pub sits : own.sits client ≡ true
  pub named : line.label ≡ [] → ⊥
  pub says : MaySay (is_owner client (own.begins line.label)) line.command ⊎ IsToBegin own node client line

-- of the node: each client has one command at most in hand, labels have their owners, and what is issued is a request of its owner or on a loan
pub record HoldsHands (own : Owns) (node : NodeValue) : Type 0 where
  pub apart : IsRising client_cmp node.commands
  pub owners : (label : List ℕ) (begun : KeptLabel) → label_at label node ≡ Some begun → begun.owner ≡ own.begins label
  pub hands : (client : ClientNo) (command : OpenCommand) → in_hand_of client node.commands ≡ Some command → IsSaidAs own node client command.line
  pub issued : (client : ClientNo) (command : OpenCommand) (issued : Issued) → in_hand_of client node.commands ≡ Some command → command.issued ≡ Some issued → KnowsIssued node client command issued

-- a line that comes is said so, and the label of a request that comes is of no client here, or the node has met it
pub record ComesAs (own : Owns) (node : NodeValue) (event : Event) : Type 0 where
  pub lines : (line : ScriptLine) → event ≡ command_of line → IsSaidAs own node line.client line
  pub requests : (peer : NodeNo) (tid : Tid) (label : List ℕ) (member : Member) (number : ℕ) (op : Op) → IsRequest event peer tid label member number op → (own.begins label ≡ None) ⊎ ((begun : KeptLabel) × (label_at label node ≡ Some begun))

abbrev pub HandsStay : Type 0
HandsStay = (own : Owns) (node : NodeValue) (event : Event) (free : ℕ) → ComesAs own node event → HoldsHands own node → AtTurns (λ (stage : Stage) (work : Work). HoldsHands own work.node) node event free
