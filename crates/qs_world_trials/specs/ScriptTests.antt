-- Whether the history of a run keeps to the scripts of its clients, entry by entry, where each stop of a node has a line of its own.
use Rattle.std.specs.Prelude.{ℕ, Bool, List, [], map, is_none}
use Rattle.std.specs.List.{flat_map}
use Rattle.qs_book_journal.specs.declared.script_line.ScriptLine.{ScriptLine}
use Rattle.qs_book_conformance.specs.Conforming.{first_misfit}
use Rattle.qs_book_script.specs.declared.script.FaultLine.{FaultLine}
use Rattle.qs_book_script.specs.declared.script.Planned.TheVariants as plans
use Rattle.qs_book_script.specs.declared.script.Script.{Script}
use Rattle.qs_book_script.specs.declared.script.Seat.{Seat}
use Rattle.qs_world.specs.Driven.{up_to}
use Rattle.qs_world.specs.Histories.{book_of}
use Rattle.qs_world.specs.Moves.{node_no}
use Rattle.qs_world.specs.World.{Opening, World}

abbrev seat_of : Opening → ℕ → Seat
seat_of o k = record { client = record { 0 = k }; node = node_no (o.clients k).0 }

abbrev lines_of : Opening → ℕ → List ScriptLine
lines_of o k = (o.clients k).1

abbrev stop_line : ℕ → FaultLine
stop_line n = record { line = 0; fault = plans.Crash (node_no n) 1 }

-- so many clients, and a line for one stop of each node
abbrev pub script_of : Opening → ℕ → Script
script_of o clients = record {
  seats = map (seat_of o) (up_to clients);
  quotas = [];
  audit = (o.settings 0).audit;
  faults = map stop_line (up_to o.size);
  lines = flat_map (lines_of o) (up_to clients);
  count = 0;
}

abbrev pub keeps_to_script : Opening → ℕ → World → Bool
keeps_to_script o clients world = is_none (first_misfit (script_of o clients) (book_of o) world.journal)
