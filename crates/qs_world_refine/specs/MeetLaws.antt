-- A node gets to know a first incarnation of another: what the agreement machine has then, and that nothing else happens.
use Rattle.std.specs.Prelude.{◌≡◌, ℕ, true}
use Rattle.qs_base.specs.declared.identifiers.Tid.{Tid}
use Rattle.qs_world.specs.Moves.{Meet, may_move, moved}
use Rattle.qs_world.specs.World.{World}
use Rattle.qs_world_agree.specs.World as machine
use Rattle.qs_world_refine.specs.Begun.{has_begun}
use Rattle.qs_world_refine.specs.EachMove.{ShowsAll, AllGoes}
use Rattle.qs_world_refine.specs.MeetingLaws.{met_at}
use Rattle.qs_world_refine.specs.Places.{place}
use Rattle.qs_world_refine.specs.ShownWorlds.{IsShownWorld}

pub record MeetsAlone (tid : Tid) (world after : World) (n m first : ℕ) (w : machine.World) : Type 0 where
  pub goes : AllGoes tid after w
  pub alone : goes.next ≡ met_at w (place n (world.channels.inc n)) (place m first)

abbrev pub MeetGoesAlone : Type 0
MeetGoesAlone = (tid : Tid) (world : World) (n stamp m first : ℕ) (w : machine.World) → may_move world (Meet n stamp m first) ≡ true → IsShownWorld world → has_begun world tid ≡ true → ShowsAll tid world w
    → MeetsAlone tid world (moved (Meet n stamp m first) world) n m first w
