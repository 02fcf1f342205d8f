-- Whole runs over which each node is sound after each stage, also where one is cut off and restarts.
use Rattle.std.specs.Prelude.{◌≡◌, ℕ, Bool, true, false, ◌&&◌, List, take, drop, fold, if◌then◌else◌}
use Rattle.std.specs.List.{list_all}
use Rattle.std.specs.Global.{Global}
use Rattle.qs_world.specs.World.{World, Opening, start}
use Rattle.qs_world.specs.Driven.{Stage, up_to, make, rounds_of}
use Rattle.qs_world.specs.DrivenRuns.{late, taken}
use Rattle.qs_world.specs.Faults.{both, cut_next, places_from}
use Rattle.qs_world_refine.specs.Sound.{is_sound_host, keeps_commits, keeps_owned, may_restart}

-- every node that runs is sound, may restart, and keeps what it committed and what its clients own
abbrev pub is_sound_node : World → ℕ → Bool
is_sound_node world n = if world.channels.up n then (is_sound_host (world.hosts n) && may_restart (world.hosts n)) && (keeps_commits (world.hosts n).node && keeps_owned (world.hosts n).node) else true

abbrev pub is_sound_world : World → Bool
is_sound_world world = list_all (is_sound_node world) (up_to world.size)

abbrev pub with_world : Bool → World → World × Bool
with_world so_far world = (world, so_far && is_sound_world world)

-- a world, and whether all so far was sound
abbrev pub sound_stage : World × Bool → Stage → World × Bool
sound_stage so_far stage = with_world so_far.1 (make so_far.0 stage)

abbrev pub sound_stages : List Stage → World → Bool
sound_stages stages world = (fold sound_stage (world, is_sound_world world) stages).1

abbrev pub sound_run : Opening → ℕ → ℕ → Bool
sound_run o clients count = sound_stages (rounds_of o.size clients count) (start o)

-- a run whose step after so many stages is cut off, and which goes on for four rounds
abbrev pub sound_cut : Opening → ℕ → Bool → ℕ → Bool
sound_cut o clients is_kept place =
    sound_stages (rounds_of o.size clients 4) (cut_next is_kept (fold make (start o) (take place (rounds_of o.size clients 9))) (drop place (rounds_of o.size clients 9)))

abbrev pub are_sound : Opening → ℕ → ℕ → ℕ → Bool
are_sound o clients first count = list_all (sound_cut o clients true) (places_from first count) && list_all (sound_cut o clients false) (places_from first count)

pub record SoundRuns (alloc : Global) : Type 0 where
  pub late_join : sound_run (late alloc) 2 12 ≡ true
  pub taken_name : sound_run (taken alloc) 2 12 ≡ true
  pub both_files : sound_run (both alloc) 1 8 ≡ true
  pub cut_from_20 : are_sound (both alloc) 1 20 12 ≡ true
  pub cut_from_32 : are_sound (both alloc) 1 32 12 ≡ true
  pub cut_from_44 : are_sound (both alloc) 1 44 12 ≡ true
