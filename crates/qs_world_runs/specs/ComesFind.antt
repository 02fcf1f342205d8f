-- What comes in a step finds what it needs, or the transaction is doomed in a machine that shows it once that is done.
use Rattle.std.specs.Prelude.{◌≡◌, ℕ, ⊤, true, false, None}
use Rattle.qs_base.specs.declared.identifiers.Tid.{Tid}
use Rattle.qs_book_machine.specs.Book.{BookValue, find_transaction}
use Rattle.qs_node_step.specs.State.{Work}
use Rattle.qs_node_step.specs.Step.{with_command}
use Rattle.qs_node_step.specs.declared.event.Event.{Event}
use Rattle.qs_node_step.specs.declared.event.Event.TheVariants as events
use Rattle.qs_world.specs.Moves.{Source}
use Rattle.qs_world.specs.World.{Opening, World}
use Rattle.qs_world_agree.specs.World as machine
use Rattle.qs_world_agree.specs.Carry.{Leads}
use Rattle.qs_world_agree.specs.Doomed.{IsDoomed}
use Rattle.qs_world_walk.specs.Walked.{done_work}
use Rattle.qs_world_refine.specs.Begun.{has_begun}
use Rattle.qs_world_refine.specs.EachMove.{ShowsAll}
use Rattle.qs_world_refine.specs.MoveLaws.{taken_scene}
use Rattle.qs_world_refine.specs.ShownWorlds.{IsShownWorld}
use Rattle.qs_world_refine.specs.Shows.{scene_of}
use Rattle.qs_world_refine.specs.Stands as shown
use Rattle.qs_world_refine.proofs.EachEvent.{StepCame}
use Rattle.qs_world_lawful.specs.GivenStep.{first_work}
use Rattle.qs_world_runs.specs.Agrees.{MakesStep}
use Rattle.qs_world_runs.specs.Joined.{Joined, book_in}
use Rattle.qs_world_runs.specs.JoinedPlaces.{PlacesAt}
use Rattle.qs_world_runs.specs.Placed.{field_of}
use Rattle.qs_world_runs.specs.PlacesGo.{CommandsWell}
use Rattle.qs_world_runs.specs.PlacesWhole.{ComesWell}

-- ---- what a client's command issues finds what it needs: that is given, and of whatever else comes nothing is

abbrev pub CommandFinds : Type 0 → Tid → World → ℕ → ℕ → BookValue → Event → Work → Type 0
CommandFinds D t world n stamp before (events.Command client line label command) work = CommandsWell D t (field_of world) (world.channels.peer n) n stamp before client label command (with_command (record { client = client; line = line; label = label; command = command }) work)
CommandFinds D t world n stamp before (events.Received peer message) work = ⊤
CommandFinds D t world n stamp before events.ServeAll work = ⊤
CommandFinds D t world n stamp before (events.PeerRestarted peer old new) work = ⊤
CommandFinds D t world n stamp before events.Tick work = ⊤

-- in each machine that shows it once the command is obeyed, and that one leads to which shows it as the step begins
abbrev pub CommandsFind : Tid → World → ℕ → ℕ → ℕ → BookValue → Source → Event → machine.World → Type 0
CommandsFind t world n stamp free before source event w = (v u : machine.World) → Leads w v → shown.Stands t (scene_of world) n (first_work (world.hosts n).node free) v
    → Leads v u → shown.Stands t (taken_scene world n source) n (done_work (world.hosts n).node event free) u
    → CommandFinds (IsDoomed u) t world n stamp before event (first_work (world.hosts n).node free)

-- ---- so what comes does, or it is doomed in a machine that shows it then, and in each that it leads to

pub record ComesFound (t : Tid) (world : World) (n stamp free : ℕ) (before : BookValue) (source : Source) (event : Event) (w : machine.World) : Type 0 where
  pub came : StepCame t world n free source event w
  pub finds : ComesWell (IsDoomed came.came.after.next) t world n stamp before source event (first_work (world.hosts n).node free)

abbrev pub ComesFind : Type 0
ComesFind = (t : Tid) (world : World) (n stamp free : ℕ) (before : BookValue) (source : Source) (event : Event) (w : machine.World) → IsShownWorld world → MakesStep world n stamp source event
    → has_begun world t ≡ true → ShowsAll t world w → CommandsFind t world n stamp free before source event w → ComesFound t world n stamp free before source event w

-- what dooms it then dooms it later
abbrev pub ComesLater : Type 0
ComesLater = (w v : machine.World) (t : Tid) (world : World) (n stamp : ℕ) (before : BookValue) (source : Source) (event : Event) (work : Work) → Leads w v
    → ComesWell (IsDoomed w) t world n stamp before source event work → ComesWell (IsDoomed v) t world n stamp before source event work

-- ---- of what the reference machine does not have yet nothing comes but a command

abbrev pub ComesUnknown : Type 0
ComesUnknown = (w : machine.World) (t : Tid) (o : Opening) (world : World) (n stamp free : ℕ) (source : Source) (event : Event) → Joined PlacesAt o world → MakesStep world n stamp source event
    → find_transaction (book_in o world) t ≡ None → CommandFinds (IsDoomed w) t world n stamp (book_in o world) event (first_work (world.hosts n).node free)
    → ComesWell (IsDoomed w) t world n stamp (book_in o world) source event (first_work (world.hosts n).node free)

-- nor does a command issue anything of what has not begun
abbrev pub CommandsUnbegun : Type 0
CommandsUnbegun = (w : machine.World) (t : Tid) (world : World) (n stamp free : ℕ) (before : BookValue) (source : Source) (event : Event) → IsShownWorld world → MakesStep world n stamp source event → has_begun world t ≡ false
    → CommandFinds (IsDoomed w) t world n stamp before event (first_work (world.hosts n).node free)
