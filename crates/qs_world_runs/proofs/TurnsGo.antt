-- What all places hold as a step begins they hold at the turn of the transaction, or it is doomed: what comes is done, others settle before it, and its own votes are cast.
use Rattle.qs_world_runs.proofs.Words.{◌≡◌, ◌⊎◌, inl, inr, ℕ, false, List, [], ◌∷◌, Some, arith, nat_tests, same_tid, Tid, BookValue, due_tids, pass_rule, settle_tid, try, Work, work_on, Event, Source, event_of, taken_by, Opening, World, IsDoomed, seen, AtEach, done_work, first_work, Every, book_in, Field, field_of, OpenPlaced, Here, taken, HoldsOr, AreLawful, IsAmid, ComesWell}
use Rattle.qs_node_step.specs.State.{NodeValue}
use Rattle.qs_world_agree.specs.World as machine
use Rattle.qs_world_runs.specs.PlacesGo.{Goes}
use Rattle.qs_world_runs.specs.PlacesTurns.{FindsAtTurn, FindsSettle, GoesToTurn, IsFoundThere, PlacedAtTurn, TurnsGo}
use Rattle.qs_world_runs.proofs.AgreesPasses.{HaveTurns, due_turns, stages_sound}
use Rattle.qs_world_runs.proofs.FieldBegins.{step_begins}
use Rattle.qs_world_runs.proofs.LeftOutcomes.{begin_leaves}
use Rattle.qs_world_runs.proofs.LeftSteps.{settle_leaves}
use Rattle.qs_world_runs.proofs.PlacedAmid.{lawful_then, left_on}
use Rattle.qs_world_runs.proofs.PlacedSettles.{placed_settles}
use Rattle.qs_world_runs.proofs.PlacesGo.{amid_on, extends_of, goes_itself, goes_left, goes_then}
use Rattle.qs_world_runs.proofs.PlacesJoined.{amid}
use Rattle.qs_world_runs.proofs.SettlesGo.{turn_goes}
use Rattle.qs_world_runs.proofs.StepsGo.{Comes}
use Rattle.qs_world_runs.proofs.StepsWhole.{whichever}

-- ---- each has one turn

abbrev AreApart : List Tid → Type 0
AreApart [] = Unit {0}
AreApart (tid ∷ tids) = Every (λ (u : Tid). same_tid u tid ≡ false) tids × AreApart tids

apart_turns : (work : Work) (tids : List Tid) → HaveTurns work tids → AreApart tids
apart_turns work [] turns = tt
apart_turns work (tid ∷ tids) turns = (turns.0.others, apart_turns work tids turns.1)

turned : (u tid : Tid) → same_tid u tid ≡ false → same_tid tid u ≡ false
turned u tid apart = grind (arith, nat_tests, apart)

module _ (world : World) (n stamp free : ℕ) (before : BookValue) (source : Source) (event : Event) where
  abbrev node : NodeValue
  node = (world.hosts n).node

  abbrev first : Work
  first = first_work node free

  abbrev done : Work
  done = done_work node event free

  abbrev base : Field
  base = field_of (taken world n source)

  abbrev knows : ℕ → ℕ
  knows = (taken_by world n source).peer n

  -- ---- from the step's beginning to a stage behind what came

  module _ (D : Type 0) (t : Tid) (comes : event_of world n stamp source ≡ Some event) (early : IsAmid (field_of world) n stamp before (work_on node free)) (well : ComesWell D t world n stamp before source event first) (placed : D ⊎ Here t (OpenPlaced t (field_of world)) before) where
    came : Comes D t world n stamp free before (taken_by world n source) done
    came = whichever D t world n stamp free before source event comes well

    reaches : (work : Work) → Goes D t base knows n stamp before done work → AreLawful n stamp before work → HoldsOr D t base knows n stamp before work
    reaches work g lawful = g.on lawful (amid_on D t base knows n stamp before first done came.extends done_lawful (came.amid now_amid)) (came.on done_lawful now_amid (begun placed))
      where
        done_lawful : AreLawful n stamp before done
        done_lawful = lawful_then t base knows n stamp before early.inv done work g.extends.more g.extends.entries lawful

        first_lawful : AreLawful n stamp before first
        first_lawful = lawful_then t base knows n stamp before early.inv first done came.extends.more came.extends.entries done_lawful

        now_amid : IsAmid (field_of world) n stamp before first
        now_amid = amid_on D t (field_of world) (world.channels.peer n) n stamp before (work_on node free) first (extends_of t (work_on node free) first (begin_leaves t (work_on node free))) first_lawful early

        begun : D ⊎ Here t (OpenPlaced t (field_of world)) before → HoldsOr D t (field_of world) (world.channels.peer n) n stamp before first
        begun (inl doomed) = inl doomed
        begun (inr old) = inr (left_on t (field_of world) (world.channels.peer n) n stamp before now_amid.inv (work_on node free) first (begin_leaves t (work_on node free)) first_lawful (step_begins t before world n stamp free old))

  -- ---- from turn to turn: what is settled leaves those behind it

  abbrev IsLeft : Work → Tid → Type 0
  IsLeft work t = (w : machine.World) → Goes (IsDoomed w) t base knows n stamp before done work

  behind : (work : Work) (tid : Tid) (tids : List Tid) → Every (λ (u : Tid). same_tid u tid ≡ false) tids → Every (IsLeft work) tids → Every (IsLeft (settle_tid work tid)) tids
  behind work tid [] apart left = tt
  behind work tid (u ∷ tids) apart left = (
    λ w. goes_then (IsDoomed w) u base knows n stamp before done work (settle_tid work tid) (left.0 w) (goes_left (IsDoomed w) u base knows n stamp before work (settle_tid work tid) (settle_leaves u tid (turned u tid apart.0) work)),
    behind work tid tids apart.1 left.1,
  )

  all_left : (tids : List Tid) → Every (IsLeft done) tids
  all_left [] = tt
  all_left (tid ∷ tids) = (λ w. goes_itself (IsDoomed w) tid base knows n stamp before done, all_left tids)

  turns : event_of world n stamp source ≡ Some event → IsAmid (field_of world) n stamp before (work_on node free) → (tids : List Tid) (work : Work) → AreApart tids → Every (IsLeft work) tids → AtEach (GoesToTurn world n stamp free before source event) settle_tid work tids
  turns comes early [] work apart left = tt
  turns comes early (tid ∷ tids) work apart left = (
    λ w well placed passes lawful. reaches (IsDoomed w) tid comes early well placed (try tid pass_rule work)
        (goes_then (IsDoomed w) tid base knows n stamp before done work (try tid pass_rule work) (left.0 w) (turn_goes (IsDoomed w) tid base knows n stamp before work passes)) lawful,
    turns comes early tids (settle_tid work tid) apart.1 (behind work tid tids apart.0 left.1),
  )

pub turns_go : TurnsGo
turns_go world n stamp free before source event is makes early =
    let done_at : Work = done_work (world.hosts n).node event free in
    turns world n stamp free before source event makes.comes early (due_tids done_at) done_at
    (apart_turns done_at (due_tids done_at) (due_turns done_at (seen done_at.node (stages_sound world n stamp free source event is makes).done).ordered)) (all_left world n stamp free before source event (due_tids done_at))

-- ---- so commits are settled where what came and the votes found what they need

found_placed : (o : Opening) (world : World) (n stamp free : ℕ) (source : Source) (event : Event) (tids : List Tid) (work : Work) → AtEach (GoesToTurn world n stamp free (book_in o world) source event) settle_tid work tids
    → AtEach (FindsAtTurn o world n stamp free source event) settle_tid work tids → AtEach (PlacedAtTurn o world n stamp source) settle_tid work tids
found_placed o world n stamp free source event [] work goes finds = tt
found_placed o world n stamp free source event (tid ∷ tids) work goes finds = (
  λ ready began w shows. let x : IsFoundThere o world n stamp free source event work tid w = finds.0 ready began w shows in
      record { at = x.at; placed = λ lawful old. goes.0 x.at.now x.comes old x.passes lawful },
  found_placed o world n stamp free source event tids (settle_tid work tid) goes.1 finds.1,
)

pub finds_settle : FindsSettle
finds_settle o world n stamp free source event j makes rooms finds =
    let done_at : Work = done_work (world.hosts n).node event free in
    placed_settles o world n stamp free source event j makes rooms
    (found_placed o world n stamp free source event (due_tids done_at) done_at (turns_go world n stamp free (book_in o world) source event j.shown makes (amid o world j n stamp free source event makes)) finds)
