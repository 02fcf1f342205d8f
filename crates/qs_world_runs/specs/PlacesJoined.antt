-- What all places hold goes on through a whole step of a world in which all stands together.
use Rattle.std.specs.Prelude.{◌≡◌, ◌⊎◌, ℕ, None}
use Rattle.qs_base.specs.declared.identifiers.Tid.{Tid}
use Rattle.qs_book_machine.specs.Book.{find_transaction}
use Rattle.qs_book_machine.specs.Lawful.{IsLawful}
use Rattle.qs_node_step.specs.declared.event.Event.{Event}
use Rattle.qs_world.specs.Moves.{Source, Step, moved}
use Rattle.qs_world.specs.World.{Opening, World}
use Rattle.qs_world_agree.specs.World as machine
use Rattle.qs_world_agree.specs.Doomed.{IsDoomed}
use Rattle.qs_world_agree.specs.Carry.{Leads}
use Rattle.qs_world_refine.specs.EachMove.{ShowsAll}
use Rattle.qs_world_runs.specs.Agrees.{MakesStep}
use Rattle.qs_world_runs.specs.Joined.{Joined, book_in}
use Rattle.qs_world_runs.specs.JoinedLaws.{entries_in}
use Rattle.qs_world_runs.specs.JoinedPlaces.{PlacedOf, PlacesAt}
use Rattle.qs_world_runs.specs.Placed.{HoldsPlaced, field_of}
use Rattle.qs_world_runs.specs.PlacesWhole.{StepsWell}

-- it was so placed, and the world of the agreement machine that showed it leads to w; or it begins
abbrev pub WasPlaced : Tid → Opening → World → machine.World → Type 0
WasPlaced tid o world w = ((p : PlacedOf tid o world) × Leads p.machine w) ⊎ (find_transaction (book_in o world) tid ≡ None)

abbrev pub WholeStepHolds : Type 0
WholeStepHolds = (tid : Tid) (o : Opening) (world : World) (n stamp free : ℕ) (source : Source) (event : Event) (w : machine.World) → Joined PlacesAt o world → MakesStep world n stamp source event
    → IsLawful (book_in o world) (entries_in world n stamp free event) → StepsWell (IsDoomed w) tid world n stamp free (book_in o world) source event
    → WasPlaced tid o world w → HoldsPlaced tid (book_in o (moved (Step n stamp free source) world)) (field_of (moved (Step n stamp free source) world)) w

abbrev pub WholeStepPlaces : Type 0
WholeStepPlaces = (tid : Tid) (o : Opening) (world : World) (n stamp free : ℕ) (source : Source) (event : Event) (w : machine.World) → Joined PlacesAt o world → MakesStep world n stamp source event
    → IsLawful (book_in o world) (entries_in world n stamp free event) → StepsWell (IsDoomed w) tid world n stamp free (book_in o world) source event
    → WasPlaced tid o world w → ShowsAll tid (moved (Step n stamp free source) world) w → PlacedOf tid o (moved (Step n stamp free source) world)
