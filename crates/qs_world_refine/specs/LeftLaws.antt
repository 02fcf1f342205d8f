-- The laws of a transaction of which nothing but logs speaks: the agreement machine begins over them, at an opening too.
use Rattle.std.specs.Prelude.{◌≡◌, ℕ, ◌<◌, ◌≤◌, true, false, List, ◌∷◌, ◌++◌, nat_lt}
use Rattle.qs_base.specs.declared.identifiers.Tid.{Tid}
use Rattle.qs_restart.specs.Recovery.{names_transaction}
use Rattle.qs_world.specs.Openings.{IsOpening}
use Rattle.qs_world.specs.World.{Opening, Parcel, World, start}
use Rattle.qs_world_agree.specs.Carry.{IsLawful}
use Rattle.qs_world_agree.specs.Origins as origins
use Rattle.qs_world_refine.specs.EachMove.{ShowsAll}
use Rattle.qs_world_refine.specs.Lefts.{IsLeft, reopening_seen}
use Rattle.qs_world_refine.specs.Messages.{IsForeign}
use Rattle.qs_world_refine.specs.RiseLaws.{ArePlaced}
use Rattle.qs_world_refine.specs.ShownWorlds.{AllShown}
use Rattle.qs_world_refine.specs.Shows.{scene_of, sight}
use Rattle.qs_world_refine.specs.Sights.{Sight, ShowsSight}
use Rattle.qs_world_refine.specs.Steadies.{IsSteadyWorld}

-- the machine over the logs shows it
abbrev pub LeftShown : Type 0
LeftShown = (tid : Tid) (x : Sight) → IsLeft tid x → ShowsSight tid x (origins.reopened (reopening_seen tid x))

-- and may begin so; so all its laws hold
abbrev pub LeftReopens : Type 0
LeftReopens = (tid : Tid) (x : Sight) → IsLeft tid x → origins.IsReopening (reopening_seen tid x)

abbrev pub LeftLawful : Type 0
LeftLawful = (tid : Tid) (x : Sight) → IsLeft tid x → IsLawful (origins.reopened (reopening_seen tid x))

abbrev pub LeftPlaced : Type 0
LeftPlaced = (tid : Tid) (x : Sight) → IsLeft tid x → ((k : ℕ) → k < x.size → 1 ≤ x.inc k) → ArePlaced (origins.reopened (reopening_seen tid x))

-- ---- as a world begins

-- each transaction of an earlier incarnation of its home, which the logs may name, is shown by it, with all that nodes know: in doubt, committed with a list still to be told, or
-- aborted, where the home's log has no Commit
abbrev pub OpeningLeft : Type 0
OpeningLeft = (tid : Tid) (o : Opening) → IsOpening o → names_transaction tid ≡ true → tid.home.0 < o.size → tid.inc < (o.settings tid.home.0).inc → IsLeft tid (sight tid (scene_of (start o)))

abbrev pub OpeningShown : Type 0
OpeningShown = (tid : Tid) (o : Opening) → IsOpening o → names_transaction tid ≡ true → tid.home.0 < o.size → tid.inc < (o.settings tid.home.0).inc
    → ShowsAll tid (start o) (origins.reopened (reopening_seen tid (sight tid (scene_of (start o)))))

-- so every transaction that has begun is shown as a world begins
abbrev pub StartAllShown : Type 0
StartAllShown = (o : Opening) → IsOpening o → AllShown (start o)

-- ---- a transaction whose home is not in the run: no message between nodes of the run is about it

abbrev pub OutsideForeign : Type 0
OutsideForeign = (tid : Tid) (world : World) (n m i j : ℕ) (parcel : Parcel) (before rest : List Parcel) → IsSteadyWorld world → nat_lt tid.home.0 world.size ≡ false → world.channels.posted n m i j ≡ before ++ parcel ∷ rest
    → IsForeign tid parcel.message
