-- Runs in which a node is cut off and restarts, at each of many places: their histories are lawful, and their scripts end.
use Rattle.std.specs.Prelude.{◌≡◌, ℕ, ◌==◌, Bool, true, false, ◌&&◌, List, [], ◌∷◌, take, drop, fold, codes, Option, Some, None, zero, suc, if◌then◌else◌}
use Rattle.std.specs.List.{list_all}
use Rattle.qs_book_journal.specs.declared.script_line.Command.TheVariants as commands
use Rattle.qs_book_journal.specs.declared.script_line.ScriptLine.{ScriptLine}
use Rattle.std.specs.Global.{Global}
use Rattle.qs_world.specs.World.{World, Opening, start}
use Rattle.qs_world.specs.Scenes.{setting_of}
use Rattle.qs_world.specs.Driven.{Stage, Know, Take, up_to, make, rounds_of, rounds, rise, cut, first_fault}
use Rattle.qs_world.specs.DrivenRuns.{said, put_at, late}

abbrev pub is_none : {A : Type 0} → Option A → Bool
is_none None = true
is_none (Some x) = false

-- a client was answered to its last line, or waits to take a loan
abbrev pub is_at_end : List ScriptLine → Bool
is_at_end [] = true
is_at_end (line ∷ lines) = elim line.command [
  | commands.Begin ↦ false
  | commands.Commit ↦ false
  | commands.Abort ↦ false
  | commands.Take ↦ true
  | commands.Yield ↦ false
  | commands.Request member op ↦ false
]

abbrev pub is_finished : ℕ → World → Bool
is_finished clients world = list_all (λ (k : ℕ). is_at_end (world.clients k).lines) (up_to clients)

-- the step of a stage is cut off, with its batch kept or not, and its node restarts
abbrev pub cut_stage : Bool → World → Stage → World
cut_stage is_kept world (Know n m) = world
cut_stage is_kept world (Take n source) = rise n (cut n source is_kept world)

abbrev pub cut_next : Bool → World → List Stage → World
cut_next is_kept world [] = world
cut_next is_kept world (stage ∷ stages) = cut_stage is_kept world stage

-- a run whose step after so many stages is cut off, and which goes on for nine rounds
abbrev pub cut_run : Opening → ℕ → Bool → ℕ → World
cut_run o clients is_kept place =
    rounds clients 9 (cut_next is_kept (fold make (start o) (take place (rounds_of o.size clients 9))) (drop place (rounds_of o.size clients 9)))

abbrev pub is_well_run : Opening → ℕ → World → Bool
is_well_run o clients world = is_none (first_fault o world) && is_finished clients world

abbrev pub is_well : Opening → ℕ → ℕ → Bool
is_well o clients place = is_well_run o clients (cut_run o clients true place) && is_well_run o clients (cut_run o clients false place)

abbrev pub places_from : ℕ → ℕ → List ℕ
places_from first zero = []
places_from first (suc more) = first ∷ places_from (suc first) more

-- so many places from one on
abbrev pub are_well : Opening → ℕ → ℕ → ℕ → Bool
are_well o clients first count = list_all (is_well o clients) (places_from first count)

-- ---- two nodes: a file is put at each, and committed

abbrev pub both_lines : ℕ → ℕ × List ScriptLine
both_lines k =
    if k == 0
    then (
      0,
      said 0 2 (codes "a") commands.Begin
          ∷ said 0 3 (codes "a") (put_at 0 (codes "f") (codes "x"))
          ∷ said 0 4 (codes "a") (put_at 1 (codes "g") (codes "y"))
          ∷ said 0 5 (codes "a") commands.Commit ∷ [],
    )
    else (0, [])

abbrev pub both : Global → Opening
both alloc = record { alloc = alloc; size = 2; settings = setting_of 2; logs = λ n. []; clients = both_lines }

-- cut off in any step of the first six rounds
pub record BothFaults (alloc : Global) : Type 0 where
  pub from_0 : are_well (both alloc) 1 0 10 ≡ true
  pub from_10 : are_well (both alloc) 1 10 10 ≡ true
  pub from_20 : are_well (both alloc) 1 20 10 ≡ true
  pub from_30 : are_well (both alloc) 1 30 10 ≡ true
  pub from_40 : are_well (both alloc) 1 40 10 ≡ true
  pub from_50 : are_well (both alloc) 1 50 10 ≡ true
  pub from_60 : are_well (both alloc) 1 60 10 ≡ true
  pub from_70 : are_well (both alloc) 1 70 10 ≡ true
  pub from_80 : are_well (both alloc) 1 80 10 ≡ true

-- ---- three nodes and a borrower that joins late: cut off in any step from the second round to the sixth

pub record LateFaults (alloc : Global) : Type 0 where
  pub from_64 : are_well (late alloc) 2 64 8 ≡ true
  pub from_72 : are_well (late alloc) 2 72 8 ≡ true
  pub from_80 : are_well (late alloc) 2 80 8 ≡ true
  pub from_88 : are_well (late alloc) 2 88 8 ≡ true
  pub from_96 : are_well (late alloc) 2 96 8 ≡ true
  pub from_104 : are_well (late alloc) 2 104 8 ≡ true
  pub from_112 : are_well (late alloc) 2 112 8 ≡ true
  pub from_120 : are_well (late alloc) 2 120 8 ≡ true
  pub from_128 : are_well (late alloc) 2 128 8 ≡ true
  pub from_136 : are_well (late alloc) 2 136 8 ≡ true
  pub from_144 : are_well (late alloc) 2 144 8 ≡ true
  pub from_152 : are_well (late alloc) 2 152 8 ≡ true
  pub from_160 : are_well (late alloc) 2 160 8 ≡ true
  pub from_168 : are_well (late alloc) 2 168 8 ≡ true
  pub from_176 : are_well (late alloc) 2 176 8 ≡ true
  pub from_184 : are_well (late alloc) 2 184 8 ≡ true
