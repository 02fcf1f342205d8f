-- In the world of channels that shows a run of packets all is steady, so that a node does not know what begins there next; and another run may begin over the logs
-- that the run leaves, so that these name transactions.
use Rattle.std.proofs.Common.{◌≡◌, ◌∙◌, ap, refl, ℕ, ◌+◌, ◌<◌, Bool, true, List, arith}
use Rattle.qs_node_room.specs.Fits.{BeginsNew}
use Rattle.qs_node_room.specs.Opens.{are_named}
use Rattle.qs_node_step.specs.Restarts.{begin_incarnation}
use Rattle.qs_node_step.specs.State.{work_on}
use Rattle.qs_node_step.specs.declared.event.Event.{Event}
use Rattle.qs_restart.specs.Recovery.{recovery}
use Rattle.qs_world.proofs.Below.{each_is}
use Rattle.qs_world.specs.Openings.{IsOpening, are_unended}
use Rattle.qs_world.specs.World.{Opening}
use Rattle.qs_world_left.proofs.RunsLeave.{each_leaves_coherent}
use Rattle.qs_world_left.specs.Packets.{AreLeft}
use Rattle.qs_world_one.proofs.Named.{unended_named}
use Rattle.qs_world_one.proofs.RoomyAlone.{new_of}
use Rattle.qs_world_packets.proofs.OpensWithin.{opens_alike}
use Rattle.qs_world_packets.proofs.RunsGo.{each_run_shown}
use Rattle.qs_world_packets.specs.PacketLaws.{IsRunOf}
use Rattle.qs_world_packets.specs.PacketMoves.{Move}
use Rattle.qs_world_packets.specs.PacketRuns.{Run}
use Rattle.qs_world_packets.specs.PacketWorld.{PacketWorld, over, start, within}
use Rattle.qs_world_packets.specs.WorldShown.{run_moves}
use Rattle.qs_world_refine.proofs.SteadyBegins.{comes_new}
use Rattle.qs_world_rooms.specs.Packets.{EachRunBeginsNew, EachRunIsNamed}
use Rattle.qs_world_runs.proofs.JoinedOver.{each_run_joined}
use Rattle.qs_world_runs.proofs.RunsGoOn.{runs_go}
use Rattle.qs_world_runs.specs.AlongRun.{AlongRun}
use Rattle.qs_world_runs.specs.Joined.{Joined}

next : (n : ℕ) → n < n + 1
next n = omega arith

module _ (o : Opening) (moves : List Move) (world : PacketWorld) (opens : IsOpening o) (run : Run (start o) moves world) where
  r : IsRunOf o moves world
  r = each_run_shown o moves world opens run

  joined : Joined AlongRun (within o) (over world r.channels)
  joined = each_run_joined AlongRun runs_go (within o) (run_moves (start o) moves) (over world r.channels) (opens_alike o opens).opens r.run

  begins : (n free : ℕ) (event : Event) → n < world.size → world.network.up n ≡ true → BeginsNew event (begin_incarnation (work_on (world.hosts n).node free))
  begins n free event low up = new_of event _ (comes_new (over world r.channels) joined.shown.steady n free low (ap (λ (f : ℕ → Bool). f n) r.shown.shows.up ∙ up) event)

  left : AreLeft world (λ n. world.network.inc n + 1) (λ n. (world.hosts n).log)
  left = record { same = λ n low. refl; later = λ n low. next (world.network.inc n) }

  named : (n : ℕ) → n < world.size → are_named (recovery (world.hosts n).log) ≡ true
  named n low = unended_named (recovery (world.hosts n).log) (each_is world.size (λ k. are_unended (recovery (world.hosts k).log))
      (each_leaves_coherent o moves world o.alloc (λ k. world.network.inc k + 1) (λ k. (world.hosts k).log) opens run left).unended n low)

pub each_run_begins_new : EachRunBeginsNew
each_run_begins_new o moves world n free event opens run low up = begins o moves world opens run n free event low up

pub each_run_is_named : EachRunIsNamed
each_run_is_named o moves world n opens run low = named o moves world opens run n low
