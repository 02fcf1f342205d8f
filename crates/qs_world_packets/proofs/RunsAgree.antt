-- The laws of every run of the world of channels, on runs of packets.
use Rattle.std.proofs.Common.{◌≡◌, ℕ, Bool, true, ap, ◌∙◌}
use Rattle.qs_base.specs.declared.identifiers.Outcome.{Outcome}
use Rattle.qs_base.specs.declared.identifiers.Tid.{Tid}
use Rattle.qs_session_channels.specs.Channels.{Channels}
use Rattle.qs_world.specs.World.{Parcel}
use Rattle.qs_world_refine.specs.EveryRun as channelled
use Rattle.qs_world_refine.specs.WorldLaws as laws
use Rattle.qs_world_refine.proofs.EveryRunShown.{every_run_agrees, every_run_tells, every_run_tells_learners}
use Rattle.qs_world_packets.specs.PacketAgrees.{EachRunAgrees, EachRunTells, EachRunTellsLearners, IsReached, Knows}
use Rattle.qs_world_packets.specs.PacketWorld.{PacketWorld, over, start, within}
use Rattle.qs_world_packets.specs.WorldShown.{ShowsWorld, run_moves}
use Rattle.qs_world_packets.proofs.OpensWithin.{opens_alike}
use Rattle.qs_world_packets.proofs.RunsGo.{each_run_shown}

-- the world of channels that shows it is reached too
record ReachedBy (world : PacketWorld) : Type 0 where
  channels : Channels Parcel
  shown : ShowsWorld world channels
  reached : channelled.IsReached (over world channels)

reached_by : (world : PacketWorld) → IsReached world → ReachedBy world
reached_by world r =
    let v = each_run_shown r.opening r.moves world r.opens r.run in
    record {
      channels = v.channels;
      shown = v.shown;
      reached = record { opening = within r.opening; opens = (opens_alike r.opening r.opens).opens; moves = run_moves (start r.opening) r.moves; run = v.run };
    }

up_there : (world : PacketWorld) (c : Channels Parcel) (n : ℕ) → ShowsWorld world c → world.network.up n ≡ true → c.up n ≡ true
up_there world c n s up = ap (λ (f : ℕ → Bool). f n) s.shows.up ∙ up

knows_there : (tid : Tid) (world : PacketWorld) (c : Channels Parcel) (n : ℕ) (outcome : Outcome) → ShowsWorld world c → Knows tid world n outcome → laws.Knows tid (over world c) n outcome
knows_there tid world c n outcome s k = record { part = k.part; in_run = k.in_run; runs = up_there world c n s k.runs; known = k.known; decided = k.decided }

pub each_run_agrees : EachRunAgrees
each_run_agrees tid world n m r home commits aborts =
    let v = reached_by world r in
    every_run_agrees tid (over world v.channels) n m v.reached home (knows_there tid world v.channels n _ v.shown commits) (knows_there tid world v.channels m _ v.shown aborts)

pub each_run_tells : EachRunTells
each_run_tells tid world n r names home low other committed doubt =
    let v = reached_by world r in
    let told = every_run_tells tid (over world v.channels) n v.reached names home low other committed doubt in
    record { untold = told.0; named = told.1 }

pub each_run_tells_learners : EachRunTellsLearners
each_run_tells_learners tid world n r home other committed learns =
    let v = reached_by world r in
    let told = every_run_tells_learners tid (over world v.channels) n v.reached home other committed (learns_there v.channels v.shown) in
    record { untold = told.0; named = told.1 }
  where
    learns_there : (c : Channels Parcel) → ShowsWorld world c → laws.IsToLearn tid (over world c) n
    learns_there c s = record { part = learns.part; in_run = learns.in_run; runs = up_there world c n s learns.runs; known = learns.known; undecided = learns.undecided; involved = learns.involved }
