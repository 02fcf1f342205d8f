-- Clients and what the machine has of them: their lines come in order, each node has the line in hand that its client handed to it, and
-- what is still to be begun has a fresh label.
use Rattle.std.specs.Prelude.{◌≡◌, ⊤, ℕ, true, List, drop, Option, Some, None, nat_lt, slice_get}
use Rattle.std.specs.Map.{lookup}
use Rattle.std.specs.BTreeMap.{is_at}
use Rattle.qs_book_journal.specs.declared.script_line.ScriptLine.{ScriptLine}
use Rattle.qs_book_machine.specs.Book.{BookValue}
use Rattle.qs_book_machine.specs.Clauses.{is_fresh}
use Rattle.qs_book_machine.specs.declared.state.Owner.{Owner}
use Rattle.qs_node_step.specs.State.{client_cmp}
use Rattle.qs_node_step.specs.declared.state.OpenCommand.{OpenCommand}
use Rattle.qs_world.specs.Moves.{client_count}
use Rattle.qs_world.specs.Openings.{all_below, are_apart, are_rising, labels_begun}
use Rattle.qs_world.specs.World.{Client, Opening, World}
use Rattle.qs_world_lawful.specs.Logs.{Every}

-- what is left of a script
pub record IsRest (whole left : List ScriptLine) : Type 0 where
  pub done : ℕ
  pub rest : left ≡ drop done whole

-- the lines that are left stand behind the last that was answered
pub record AreBehind (book : BookValue) (k : ℕ) (lines : List ScriptLine) : Type 0 where
  pub owner : Owner
  pub there : slice_get book.owners k ≡ Some owner
  pub rise : are_rising owner.line lines ≡ true

-- a label that no transaction has
abbrev pub IsFresh : BookValue → List ℕ → Type 0
IsFresh book label = is_fresh book.labels label ≡ true

-- what the node has in hand is the client's first line, where it was handed to it and is not answered
abbrev pub IsInHand : Client → Option OpenCommand → Type 0
IsInHand client None = ⊤
IsInHand client (Some command) = (client.is_handed ≡ true) × (slice_get client.lines 0 ≡ Some command.line)

pub record HoldsClient (o : Opening) (book : BookValue) (world : World) (k : ℕ) : Type 0 where
  pub at : (world.clients k).at ≡ (o.clients k).0
  pub rest : IsRest (o.clients k).1 (world.clients k).lines
  pub behind : AreBehind book k (world.clients k).lines
  pub fresh : Every (IsFresh book) (labels_begun (world.clients k).lines)
  pub in_hand : (n : ℕ) → nat_lt n world.size ≡ true → world.channels.up n ≡ true → (command : OpenCommand) → lookup (is_at (client_cmp (record { 0 = k }))) (world.hosts n).node.commands ≡ Some command
      → ((world.clients k).at ≡ n) × IsInHand (world.clients k) (Some command)

-- the labels that are still to be begun, of all clients
abbrev pub labels_left : World → List (List ℕ)
labels_left world = all_below client_count (λ k. labels_begun (world.clients k).lines)

pub record HoldsScripts (o : Opening) (book : BookValue) (world : World) : Type 0 where
  pub clients : (k : ℕ) → nat_lt k client_count ≡ true → HoldsClient o book world k
  pub apart : are_apart (labels_left world) ≡ true
