-- What all places hold of each transaction that has begun, with a world of the agreement machine that shows it.
use Rattle.std.specs.Prelude.{◌≡◌, true}
use Rattle.qs_base.specs.declared.identifiers.Tid.{Tid}
use Rattle.qs_world.specs.World.{Opening, World}
use Rattle.qs_world_agree.specs.World as machine
use Rattle.qs_world_refine.specs.Begun.{has_begun}
use Rattle.qs_world_refine.specs.EachMove.{ShowsAll}
use Rattle.qs_world_runs.specs.Joined.{book_in}
use Rattle.qs_world_runs.specs.Placed.{field_of, HoldsPlaced}

-- while it is undecided it is doomed there, or all places hold what they should
pub record PlacedOf (tid : Tid) (o : Opening) (world : World) : Type 0 where
  pub machine : machine.World
  pub shows : ShowsAll tid world machine
  pub placed : HoldsPlaced tid (book_in o world) (field_of world) machine

abbrev pub PlacesAt : Opening → World → Type 0
PlacesAt o world = (tid : Tid) → has_begun world tid ≡ true → PlacedOf tid o world
