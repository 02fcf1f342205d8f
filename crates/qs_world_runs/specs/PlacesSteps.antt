-- What all places hold of each transaction goes on through each step of a run, where it finds what it needs: of those that had begun, and of what begins in it.
use Rattle.std.specs.Prelude.{◌≡◌, ℕ, true, false, None}
use Rattle.qs_base.specs.declared.identifiers.Tid.{Tid}
use Rattle.qs_book_machine.specs.Book.{find_transaction}
use Rattle.qs_book_machine.specs.Lawful.{IsLawful}
use Rattle.qs_node_step.specs.declared.event.Event.{Event}
use Rattle.qs_world.specs.Moves.{Source, Step, moved}
use Rattle.qs_world.specs.World.{Opening, World}
use Rattle.qs_world_agree.specs.World as machine
use Rattle.qs_world_agree.specs.Carry.{Leads}
use Rattle.qs_world_agree.specs.Doomed.{IsDoomed}
use Rattle.qs_world_refine.specs.Begun.{has_begun}
use Rattle.qs_world_refine.specs.EachMove.{ShowsAll}
use Rattle.qs_world_runs.specs.Agrees.{MakesStep}
use Rattle.qs_world_runs.specs.Joined.{Joined, book_in}
use Rattle.qs_world_runs.specs.JoinedLaws.{IsStep, Keeps, entries_in}
use Rattle.qs_world_runs.specs.JoinedPlaces.{PlacesAt}
use Rattle.qs_world_runs.specs.PlacesWhole.{StepsWell}

-- ---- what had begun: a machine that shows it after the step, in which it is doomed where something was not found

pub record WholeFound (tid : Tid) (o : Opening) (world : World) (n stamp free : ℕ) (source : Source) (event : Event) (w : machine.World) : Type 0 where
  pub next : machine.World
  pub leads : Leads w next
  pub shows : ShowsAll tid (moved (Step n stamp free source) world) next
  pub finds : StepsWell (IsDoomed next) tid world n stamp free (book_in o world) source event

abbrev pub WholeFind : Type 0
WholeFind = (tid : Tid) (o : Opening) (world : World) (n stamp free : ℕ) (source : Source) (event : Event) (w : machine.World) → Joined PlacesAt o world → MakesStep world n stamp source event → IsLawful (book_in o world) (entries_in world n stamp free event)
    → has_begun world tid ≡ true → ShowsAll tid world w → WholeFound tid o world n stamp free source event w

-- ---- what begins in the step: nothing of it is issued, voted or served there

abbrev pub FreshFind : Type 0
FreshFind = (w : machine.World) (tid : Tid) (o : Opening) (world : World) (n stamp free : ℕ) (source : Source) (event : Event) → Joined PlacesAt o world → MakesStep world n stamp source event → IsLawful (book_in o world) (entries_in world n stamp free event)
    → tid.home.0 ≡ n → has_begun world tid ≡ false → find_transaction (book_in o world) tid ≡ None → StepsWell (IsDoomed w) tid world n stamp free (book_in o world) source event

-- ---- so each step keeps it

abbrev pub StepsKeepPlaces : Type 0
StepsKeepPlaces = Keeps PlacesAt IsStep PlacesAt
