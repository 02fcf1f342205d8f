-- What a cell carries through crashes: what it tells, the commands that are not answered, and the lines that stop the node.
use Rattle.std.specs.Prelude.{ℕ, ◌==◌, Bool, not, List, fold, map}
use Rattle.std.specs.List.{list_any}
use Rattle.std.specs.Map.{remove_entry}
use Rattle.std.specs.BTreeMap.{insert_entry, is_at}
use Rattle.qs_base.specs.declared.identifiers.ClientNo.{ClientNo}
use Rattle.qs_book_journal.specs.declared.script_line.ScriptLine.{ScriptLine}
use Rattle.qs_node_step.specs.State.{client_cmp}
use Rattle.qs_node_step.specs.declared.event.ClientAnswer.{ClientAnswer}
use Rattle.qs_cell_chronicle.specs.Chronicle.{Told}
use Rattle.qs_cell_chronicle.specs.declared.carried.Carried.{Carried}
use Rattle.qs_cell_chronicle.specs.declared.carried.HeldCommand.{HeldCommand}
use Rattle.qs_cell_chronicle.specs.declared.points.Watched.{Watched}

-- the commands that were taken and are not answered, by client
abbrev pub Commands : Type 0
Commands = List (ClientNo × HeldCommand)

-- what is seen of it
pub record Seen : Type 0 where
  pub told : Told
  pub commands : Commands
  pub crashes : List ℕ  -- the numbers of the events that a crash stands in place of
  pub points : List Watched

abbrev pub seen : Carried → Seen
seen carried = record {
  told = carried.chronicle.told;
  commands = carried.commands;
  crashes = carried.crashes;
  points = carried.points.items;
}

-- ---- commands

-- a command comes to the node's incarnation
abbrev pub in_hand : ℕ → ScriptLine → Commands → Commands
in_hand inc line commands = insert_entry client_cmp commands line.client (record { line = line; inc = inc })

abbrev pub without : Commands → ClientAnswer → Commands
without commands said = remove_entry (is_at (client_cmp said.client)) commands

abbrev pub answered : List ClientAnswer → Commands → Commands
answered answers commands = fold without commands answers

-- a command that came to an earlier incarnation is taken again
abbrev pub is_due_again : ℕ → HeldCommand → Bool
is_due_again inc held = not (held.inc == inc)

-- the script stops the node in place of the event with that number
abbrev pub is_replaced : ℕ → List ℕ → Bool
is_replaced number crashes = list_any (λ planned. planned == number) crashes
