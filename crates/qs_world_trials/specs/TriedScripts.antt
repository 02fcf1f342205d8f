-- That histories of whole runs keep to the scripts of their clients.
use Rattle.std.specs.Prelude.{◌≡◌, ℕ, ◌==◌, Bool, true, false, List, Some, drop, if◌then◌else◌}
use Rattle.std.specs.Global.{Global}
use Rattle.std.specs.List.{list_all}
use Rattle.qs_book_journal.specs.declared.script_line.ScriptLine.{ScriptLine}
use Rattle.qs_world.specs.Driven.{rounds}
use Rattle.qs_world.specs.DrivenRuns.{late, late_world, taken, taken_world}
use Rattle.qs_world.specs.Faults.{both, cut_run, places_from}
use Rattle.qs_world.specs.Moves.{node_no}
use Rattle.qs_world.specs.World.{Opening, start}
use Rattle.qs_world_lawful.specs.Tried.{rich}
use Rattle.qs_world_trials.specs.NotedCuts.{cut_away, cut_here, found_votes, noting_away, noting_here}
use Rattle.qs_world_trials.specs.ScriptTests.{keeps_to_script}
use Rattle.qs_world_trials.specs.SmallRuns.{SmallRun, asked_early, borrowed_again, cut_as_served, cut_as_voted, in_doubt, opens_as, stopped_alone, told_one, world_of}

abbrev pub keeps : Global → SmallRun → Bool
keeps alloc run = keeps_to_script (opens_as alloc run) 3 (world_of alloc run)

-- cut off in each of so many steps from one on, with the batch kept or lost
abbrev pub keeps_cut : Opening → Bool → ℕ → ℕ → Bool
keeps_cut o is_kept first count = list_all (λ (place : ℕ). keeps_to_script o 1 (cut_run o 1 is_kept place)) (places_from first count)

-- the script of another run: client 0 has one line less
abbrev shorter : Opening → ℕ → ℕ × List ScriptLine
shorter o k = if k == 0 then ((o.clients 0).0, drop 1 (o.clients 0).1) else o.clients k

abbrev pub with_less : Opening → Opening
with_less o = record o { clients = shorter o }

-- notes go to node 0
abbrev pub with_notes_here : Opening → Opening
with_notes_here o = record o { settings = λ n. record (o.settings n) { audit = Some (node_no 0) } }

-- client 1 sits elsewhere
abbrev elsewhere : Opening → ℕ → ℕ × List ScriptLine
elsewhere o k = if k == 1 then (0, (o.clients 1).1) else o.clients k

abbrev pub with_other_seats : Opening → Opening
with_other_seats o = record o { clients = elsewhere o }

pub record TriedScripts (alloc : Global) : Type 0 where
  pub late_join : keeps_to_script (late alloc) 2 (late_world alloc) ≡ true
  pub taken_name : keeps_to_script (taken alloc) 2 (taken_world alloc) ≡ true
  pub conflicts : keeps_to_script (rich alloc) 3 (rounds 3 12 (start (rich alloc))) ≡ true
  pub kept : keeps_cut (both alloc) true 0 90 ≡ true
  pub lost : keeps_cut (both alloc) false 0 90 ≡ true
  pub served : keeps alloc cut_as_served ≡ true
  pub voted : keeps alloc cut_as_voted ≡ true
  pub asked : keeps alloc asked_early ≡ true
  pub borrowed : keeps alloc borrowed_again ≡ true
  pub told : keeps alloc told_one ≡ true
  pub stopped : keeps alloc stopped_alone ≡ true
  pub doubt : keeps alloc in_doubt ≡ true
  pub noted_here : keeps_to_script (noting_here alloc) 1 (cut_here alloc) ≡ true
  pub noted_away : keeps_to_script (noting_away alloc) 1 (cut_away alloc) ≡ true
  pub found_here : found_votes (cut_here alloc) ≡ 2
  pub found_away : found_votes (cut_away alloc) ≡ 1

-- and not to other scripts
pub record FailsScripts (alloc : Global) : Type 0 where
  pub lines : keeps_to_script (with_less (late alloc)) 2 (late_world alloc) ≡ false
  pub seats : keeps_to_script (with_other_seats (late alloc)) 2 (late_world alloc) ≡ false
  pub clients : keeps_to_script (late alloc) 1 (late_world alloc) ≡ false
  pub notes : keeps_to_script (with_notes_here (noting_away alloc)) 1 (cut_away alloc) ≡ false
