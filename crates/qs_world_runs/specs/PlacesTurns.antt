-- The turn of a transaction as a node settles, once its own votes are cast: the machine that shows it there, and what its commit is settled by.
use Rattle.std.specs.Prelude.{◌≡◌, ◌⊎◌, ℕ, ◌<◌, ◌==◌, true, false, List, ◌++◌, Some, None}
use Rattle.qs_base.specs.declared.identifiers.Tid.{Tid}
use Rattle.qs_book_journal.specs.declared.entry.Act.{Act}
use Rattle.qs_book_machine.specs.Book.{BookValue}
use Rattle.qs_node_step.specs.Settling.{due_tids, is_quiet, may_answer, pass_rule, settle_tid, try}
use Rattle.qs_node_step.specs.State.{NodeValue, Work, doings_of, work_on}
use Rattle.qs_node_step.specs.Step.{effects_of}
use Rattle.qs_node_step.specs.declared.event.Event.{Event}
use Rattle.qs_tm.specs.Manager as tm
use Rattle.qs_tm.specs.declared.participant.Participant.{Participant}
use Rattle.qs_world.specs.Moves.{Source, taken_by}
use Rattle.qs_world.specs.World.{Opening, World}
use Rattle.qs_world_agree.specs.World as machine
use Rattle.qs_world_agree.specs.Carry.{Leads}
use Rattle.qs_world_agree.specs.Doomed.{IsDoomed}
use Rattle.qs_world_walk.specs.Walked.{AtEach, done_work}
use Rattle.qs_world_refine.specs.Begun.{has_begun}
use Rattle.qs_world_refine.specs.EachMove.{ShowsAll}
use Rattle.qs_world_refine.specs.MoveLaws.{taken_scene}
use Rattle.qs_world_refine.specs.ShownWorlds.{IsShownWorld}
use Rattle.qs_world_refine.specs.Stands as shown
use Rattle.qs_world_lawful.specs.BesideStep.{HasCountRoom}
use Rattle.qs_world_lawful.specs.GivenStep.{first_work}
use Rattle.qs_world_lawful.specs.Standing.{Stands}
use Rattle.qs_world_runs.specs.Agrees.{MakesStep, nodes_in}
use Rattle.qs_world_runs.specs.Joined.{Joined, book_in}
use Rattle.qs_world_runs.specs.JoinedLaws.{CommitsSettled}
use Rattle.qs_world_runs.specs.JoinedPlaces.{PlacesAt}
use Rattle.qs_world_runs.specs.Placed.{field_of}
use Rattle.qs_world_runs.specs.PlacedActs.{OpenPlaced}
use Rattle.qs_world_runs.specs.PlacesAmid.{Here, PlacedAmid, book_amid}
use Rattle.qs_world_runs.specs.PlacesCommits.{IsBeside}
use Rattle.qs_world_runs.specs.PlacesEnds.{taken}
use Rattle.qs_world_runs.specs.PlacesGo.{HoldsOr, PassesWell}
use Rattle.qs_world_runs.specs.PlacesRules.{AreLawful, IsAmid}
use Rattle.qs_world_runs.specs.PlacesWhole.{ComesWell}

-- the transaction at its turn
abbrev pub passed : Work → Tid → Work
passed work tid = try tid pass_rule work

-- a machine shows it there, over what the world has once it took what came
pub record ShownAt (world : World) (n : ℕ) (source : Source) (tid : Tid) (w : machine.World) (work : Work) : Type 0 where
  pub now : machine.World
  pub leads : Leads w now
  pub stands : shown.Stands tid (taken_scene world n source) n work now

-- whatever machine shows it once what came is done leads to one that shows it at its turn
abbrev pub FollowsAtTurn : World → ℕ → ℕ → Source → Event → Work → Tid → Type 0
FollowsAtTurn world n free source event work tid = (u : machine.World) → shown.Stands tid (taken_scene world n source) n (done_work (world.hosts n).node event free) u → ShownAt world n source tid u (passed work tid)

abbrev pub TurnsFollow : Type 0
TurnsFollow = (world : World) (n free : ℕ) (source : Source) (event : Event) → AtEach (FollowsAtTurn world n free source event) settle_tid (done_work (world.hosts n).node event free) (due_tids (done_work (world.hosts n).node event free))

-- and so does whatever showed it before the step
abbrev pub ShownAtTurn : World → ℕ → Source → Work → Tid → Type 0
ShownAtTurn world n source work tid = has_begun world tid ≡ true → (w : machine.World) → ShowsAll tid world w → ShownAt world n source tid w (passed work tid)

abbrev pub TurnsShown : Type 0
TurnsShown = (world : World) (n stamp free : ℕ) (source : Source) (event : Event) → IsShownWorld world → MakesStep world n stamp source event
    → AtEach (ShownAtTurn world n source) settle_tid (done_work (world.hosts n).node event free) (due_tids (done_work (world.hosts n).node event free))

-- ---- commits may be shown at each turn from what stands there: all that was settled before it is lawful

abbrev pub SettledBy : ℕ → BookValue → ℕ → (ℕ → NodeValue) → ℕ → Work → Tid → Type 0
SettledBy stamp before size nodes n work tid = Stands stamp before size nodes n (passed work tid) → CommitsSettled stamp before work tid

abbrev pub TurnsSettle : Type 0
TurnsSettle = (o : Opening) (world : World) (n stamp free : ℕ) (source : Source) (event : Event) → Joined PlacesAt o world → MakesStep world n stamp source event
    → AtEach HasCountRoom settle_tid (done_work (world.hosts n).node event free) (due_tids (done_work (world.hosts n).node event free))
    → AtEach (SettledBy stamp (book_in o world) world.size (nodes_in world) n) settle_tid (done_work (world.hosts n).node event free) (due_tids (done_work (world.hosts n).node event free))
    → AtEach (CommitsSettled stamp (book_in o world)) settle_tid (done_work (world.hosts n).node event free) (due_tids (done_work (world.hosts n).node event free))

-- ---- the other nodes: what the step entered first leaves them, where one of them may still act after it

abbrev pub OthersBeside : Type 0
OthersBeside = (o : Opening) (world : World) (n stamp free : ℕ) (source : Source) (event : Event) → Joined PlacesAt o world → MakesStep world n stamp source event
    → (work : Work) (more : List Act) → (effects_of (world.hosts n).node event free).entries ≡ work.out.entries ++ more → AreLawful n stamp (book_in o world) work
    → (k : ℕ) → k < world.size → world.channels.up k ≡ true → (k == n) ≡ false → IsBeside (taken_scene world n source) (book_amid n stamp (book_in o world) work) k

-- ---- commits

-- its home is ready to commit it there
pub record IsReadyAt (work : Work) (tid : Tid) : Type 0 where
  pub part : Participant
  pub known : tm.part_of tid (passed work tid).node.manager ≡ Some part
  pub open_now : part.outcome ≡ None
  pub home : part.engage.home ≡ true
  pub may : may_answer tid part (passed work tid) ≡ true
  pub quiet : is_quiet (doings_of tid (passed work tid)) ≡ true

-- so it began before the step: what begins in it nobody asks to commit there
abbrev pub BeganAtTurn : Opening → World → ℕ → ℕ → Work → Tid → Type 0
BeganAtTurn o world n stamp work tid = Stands stamp (book_in o world) world.size (nodes_in world) n (passed work tid) → IsReadyAt work tid → has_begun world tid ≡ true

abbrev pub TurnsBegan : Type 0
TurnsBegan = (o : Opening) (world : World) (n stamp free : ℕ) (source : Source) (event : Event) → Joined PlacesAt o world → MakesStep world n stamp source event
    → AtEach (BeganAtTurn o world n stamp) settle_tid (done_work (world.hosts n).node event free) (due_tids (done_work (world.hosts n).node event free))

-- what all places held as the step began they hold there, or it is doomed in a machine that shows it there
pub record IsPlacedThere (o : Opening) (world : World) (n stamp : ℕ) (source : Source) (work : Work) (tid : Tid) (w : machine.World) : Type 0 where
  pub at : ShownAt world n source tid w (passed work tid)
  pub placed : AreLawful n stamp (book_in o world) (passed work tid) → IsDoomed at.now ⊎ Here tid (OpenPlaced tid (field_of world)) (book_in o world)
      → IsDoomed at.now ⊎ PlacedAmid tid (field_of (taken world n source)) ((taken_by world n source).peer n) n stamp (book_in o world) (passed work tid)

abbrev pub PlacedAtTurn : Opening → World → ℕ → ℕ → Source → Work → Tid → Type 0
PlacedAtTurn o world n stamp source work tid = IsReadyAt work tid → has_begun world tid ≡ true → (w : machine.World) → ShowsAll tid world w → IsPlacedThere o world n stamp source work tid w

-- then what a home commits is unanimous
abbrev pub PlacedSettles : Type 0
PlacedSettles = (o : Opening) (world : World) (n stamp free : ℕ) (source : Source) (event : Event) → Joined PlacesAt o world → MakesStep world n stamp source event
    → AtEach HasCountRoom settle_tid (done_work (world.hosts n).node event free) (due_tids (done_work (world.hosts n).node event free))
    → AtEach (PlacedAtTurn o world n stamp source) settle_tid (done_work (world.hosts n).node event free) (due_tids (done_work (world.hosts n).node event free))
    → AtEach (CommitsSettled stamp (book_in o world)) settle_tid (done_work (world.hosts n).node event free) (due_tids (done_work (world.hosts n).node event free))

-- ---- and what they hold as the step begins they hold there where what came and its own votes found what they need, or it is doomed: as for a whole step

abbrev pub GoesToTurn : World → ℕ → ℕ → ℕ → BookValue → Source → Event → Work → Tid → Type 0
GoesToTurn world n stamp free before source event work tid = (w : machine.World) → ComesWell (IsDoomed w) tid world n stamp before source event (first_work (world.hosts n).node free) → IsDoomed w ⊎ Here tid (OpenPlaced tid (field_of world)) before
    → PassesWell (IsDoomed w) tid (field_of (taken world n source)) ((taken_by world n source).peer n) n stamp before work
    → AreLawful n stamp before (passed work tid) → HoldsOr (IsDoomed w) tid (field_of (taken world n source)) ((taken_by world n source).peer n) n stamp before (passed work tid)

abbrev pub TurnsGo : Type 0
TurnsGo = (world : World) (n stamp free : ℕ) (before : BookValue) (source : Source) (event : Event) → IsShownWorld world → MakesStep world n stamp source event → IsAmid (field_of world) n stamp before (work_on (world.hosts n).node free)
    → AtEach (GoesToTurn world n stamp free before source event) settle_tid (done_work (world.hosts n).node event free) (due_tids (done_work (world.hosts n).node event free))

-- these found what they need, or it is doomed in a machine that shows it there
pub record IsFoundThere (o : Opening) (world : World) (n stamp free : ℕ) (source : Source) (event : Event) (work : Work) (tid : Tid) (w : machine.World) : Type 0 where
  pub at : ShownAt world n source tid w (passed work tid)
  pub comes : ComesWell (IsDoomed at.now) tid world n stamp (book_in o world) source event (first_work (world.hosts n).node free)
  pub passes : PassesWell (IsDoomed at.now) tid (field_of (taken world n source)) ((taken_by world n source).peer n) n stamp (book_in o world) work

abbrev pub FindsAtTurn : Opening → World → ℕ → ℕ → ℕ → Source → Event → Work → Tid → Type 0
FindsAtTurn o world n stamp free source event work tid = IsReadyAt work tid → has_begun world tid ≡ true → (w : machine.World) → ShowsAll tid world w → IsFoundThere o world n stamp free source event work tid w

abbrev pub FindsSettle : Type 0
FindsSettle = (o : Opening) (world : World) (n stamp free : ℕ) (source : Source) (event : Event) → Joined PlacesAt o world → MakesStep world n stamp source event
    → AtEach HasCountRoom settle_tid (done_work (world.hosts n).node event free) (due_tids (done_work (world.hosts n).node event free))
    → AtEach (FindsAtTurn o world n stamp free source event) settle_tid (done_work (world.hosts n).node event free) (due_tids (done_work (world.hosts n).node event free))
    → AtEach (CommitsSettled stamp (book_in o world)) settle_tid (done_work (world.hosts n).node event free) (due_tids (done_work (world.hosts n).node event free))
