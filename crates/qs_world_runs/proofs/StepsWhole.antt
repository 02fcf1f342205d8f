-- A whole step, from the world before it to the world after it.
use Rattle.qs_world_runs.proofs.Words.{◌≡◌, ◌⊎◌, inl, inr, ℕ, ◌==◌, ◌&&◌, nat_lt, Bool, true, false, Option, Some, None, refl, sym, subst, if◌then◌else◌, Tid, Channels, ScriptLine, BookValue, book_after, due_tids, settle, settle_tid, Work, work_on, effects_of, happen, step_work, tick, wait_on, waiting_clients, Event, Clock, Commanded, Handed, Noticed, Queues, Source, client_count, command_of, event_of, hand_next, step_with, taken_by, entries_of, next_line, next_parcel, Parcel, World, known_of}
use Rattle.qs_world_runs.proofs.Words.{IsDoomed, done_work, first_work, Field, field_of, OpenPlaced, Here, LeavesPlaces, PlacedAmid, AreInOrder, taken, HoldsOr, PassesWell, WaitsWell, AreLawful, IsAmid, ComesWell, some_same}
use Rattle.qs_book_machine.specs.Lawful.{IsLawful}
use Rattle.qs_node_step.specs.State.{NodeValue}
use Rattle.qs_node_step.specs.declared.event.Event.TheVariants as events
use Rattle.qs_world.specs.Moves.{has_begun, node_no}
use Rattle.qs_world_runs.specs.PlacesGo.{Goes}
use Rattle.qs_world_runs.specs.PlacesWhole.{StepPlaces, StepsWell}
use Rattle.qs_world_runs.proofs.CommandsGo.{command_goes_on, wait_goes_on}
use Rattle.qs_world_runs.proofs.FieldBegins.{step_begins}
use Rattle.qs_world_runs.proofs.FieldEnds.{step_ends}
use Rattle.qs_world_runs.proofs.LeftOutcomes.{begin_leaves, restarted_leaves}
use Rattle.qs_world_runs.proofs.PlacedAmid.{lawful_then, left_on}
use Rattle.qs_world_runs.proofs.PlacesGo.{amid_on, extends_of, goes_fold, goes_left, goes_then}
use Rattle.qs_world_runs.proofs.ServesGo.{serve_all_goes_on}
use Rattle.qs_world_runs.proofs.SettlesGo.{settle_goes_on}
use Rattle.qs_world_runs.proofs.StepsGo.{Comes, by_goes, parcel_comes, tick_leaves}

module _ (D : Type 0) (t : Tid) (world : World) (n stamp free : ℕ) (before : BookValue) where
  abbrev node : NodeValue
  node = (world.hosts n).node

  abbrev first : Work
  first = first_work node free

  abbrev C : Channels Parcel → Work → Type 0
  C c done = Comes D t world n stamp free before c done

  -- ---- what comes, by where it comes from

  commanded : (k : ℕ) (event : Event) → event_of world n stamp (Commanded k) ≡ Some event → ComesWell D t world n stamp before (Commanded k) event first → C world.channels (happen event first)
  commanded k event comes = by (nat_lt k client_count && ((world.clients k).at == n)) (next_line (world.clients k)) comes
    where
      by : (b : Bool) (o : Option ScriptLine) → (if b then elim o [ None ↦ None | Some line ↦ Some (command_of line) ] else None) ≡ Some event → ComesWell D t world n stamp before (Commanded k) event first → C world.channels (happen event first)
      by true (Some line) is = subst (λ (e : Event). ComesWell D t world n stamp before (Commanded k) e first → C world.channels (happen e first)) (some_same is)
          (λ well. by_goes D t world n stamp free before (happen (command_of line) first) (command_goes_on D t (field_of world) (world.channels.peer n) n stamp before line first well))
      by true None is = absurd (cc is)
      by false o is = absurd (cc is)

  handed_up : (m : ℕ) (event : Event) → event_of world n stamp (Handed m) ≡ Some event → ComesWell D t world n stamp before (Handed m) event first → C (taken_by world n (Handed m)) (happen event first)
  handed_up m event comes = by (next_parcel world n m) refl comes
    where
      late : (parcel : Parcel) → next_parcel world n m ≡ Some parcel → (b : Bool) → (if b then Some (events.Received (node_no m) parcel.message) else None) ≡ Some event → ComesWell D t world n stamp before (Handed m) event first → C (taken_by world n (Handed m)) (happen event first)
      late parcel next true is = subst (λ (e : Event). ComesWell D t world n stamp before (Handed m) e first → C (taken_by world n (Handed m)) (happen e first)) (some_same is)
          (λ well. subst (λ (o : Option Parcel). C (hand_next n m o world.channels) (happen (events.Received (node_no m) parcel.message) first)) (sym next) (parcel_comes D t world n stamp free before m parcel next well))
      late parcel next false is = absurd (cc is)

      by : (o : Option Parcel) → next_parcel world n m ≡ o → (elim o [ None ↦ None | Some parcel ↦ if nat_lt parcel.stamp stamp then Some (events.Received (node_no m) parcel.message) else None ]) ≡ Some event
          → ComesWell D t world n stamp before (Handed m) event first → C (taken_by world n (Handed m)) (happen event first)
      by None next is = absurd (cc is)
      by (Some parcel) next is = late parcel next (nat_lt parcel.stamp stamp) is

  noticed : (m new : ℕ) (event : Event) → event_of world n stamp (Noticed m new) ≡ Some event → ComesWell D t world n stamp before (Noticed m new) event first → C (taken_by world n (Noticed m new)) (happen event first)
  noticed m new event comes = by (nat_lt 0 (known_of world n m) && (nat_lt (known_of world n m) new && has_begun world stamp m new)) comes
    where
      restarted : Event
      restarted = events.PeerRestarted (node_no m) (known_of world n m) new

      leaves : LeavesPlaces t first (happen (events.PeerRestarted (node_no m) (known_of world n m) new) first)
      leaves = restarted_leaves t (node_no m) (known_of world n m) new first

      goes : ComesWell D t world n stamp before (Noticed m new) (events.PeerRestarted (node_no m) (known_of world n m) new) first → C (taken_by world n (Noticed m new)) (happen (events.PeerRestarted (node_no m) (known_of world n m) new) first)
      goes well = record {
        extends = extends_of t first (happen (events.PeerRestarted (node_no m) (known_of world n m) new) first) leaves;
        amid = λ is. record { inv = is.inv; here = is.here; in_run = is.in_run; up = is.up; inc = is.inc };
        on = λ lawful is old. then_on well lawful is old;
      }
        where
          New : Work → Type 0
          New work = HoldsOr D t (field_of (taken world n (Noticed m new))) ((taken_by world n (Noticed m new)).peer n) n stamp before work

          then_on : D ⊎ (PlacedAmid t (field_of world) (world.channels.peer n) n stamp before first → PlacedAmid t (field_of (taken world n (Noticed m new))) ((taken_by world n (Noticed m new)).peer n) n stamp before first)
              → AreLawful n stamp before (happen (events.PeerRestarted (node_no m) (known_of world n m) new) first) → IsAmid (field_of world) n stamp before first → HoldsOr D t (field_of world) (world.channels.peer n) n stamp before first
              → HoldsOr D t (field_of (taken world n (Noticed m new))) ((taken_by world n (Noticed m new)).peer n) n stamp before (happen (events.PeerRestarted (node_no m) (known_of world n m) new) first)
          then_on w lawful is (inl doomed) = inl doomed
          then_on (inl doomed) lawful is (inr placed) = inl doomed
          then_on (inr f) lawful is (inr placed) = inr (left_on t (field_of (taken world n (Noticed m new))) ((taken_by world n (Noticed m new)).peer n) n stamp before is.inv first (happen (events.PeerRestarted (node_no m) (known_of world n m) new) first) leaves lawful (f placed))

      by : (b : Bool) → (if b then Some (events.PeerRestarted (node_no m) (known_of world n m) new) else None) ≡ Some event → ComesWell D t world n stamp before (Noticed m new) event first → C (taken_by world n (Noticed m new)) (happen event first)
      by true is = subst (λ (e : Event). ComesWell D t world n stamp before (Noticed m new) e first → C (taken_by world n (Noticed m new)) (happen e first)) (some_same is) goes
      by false is = absurd (cc is)

  pub whichever : (source : Source) (event : Event) → event_of world n stamp source ≡ Some event → ComesWell D t world n stamp before source event first → C (taken_by world n source) (happen event first)
  whichever (Commanded k) event comes well = commanded k event comes well
  whichever (Handed m) event comes well = handed_up m event comes well
  whichever Queues event comes well = subst (λ (e : Event). ComesWell D t world n stamp before Queues e first → C world.channels (happen e first)) (some_same comes)
      (λ all. by_goes D t world n stamp free before (happen events.ServeAll first) (serve_all_goes_on D t (field_of world) (world.channels.peer n) n stamp before first all)) well
  whichever Clock event comes well = subst (λ (e : Event). C world.channels (happen e first)) (some_same comes)
      (by_goes D t world n stamp free before (happen events.Tick first) (goes_left D t (field_of world) (world.channels.peer n) n stamp before first (tick first) (tick_leaves t first)))
  whichever (Noticed m new) event comes well = noticed m new event comes well

  -- ---- the whole

  module _ (source : Source) (event : Event) (comes : event_of world n stamp source ≡ Some event) (order : AreInOrder (taken_by world n source) n) (early : IsAmid (field_of world) n stamp before (work_on node free)) (well : StepsWell D t world n stamp free before source event)
      (lawful : IsLawful before (entries_of n stamp (effects_of node event free).entries)) where
    abbrev base : Field
    base = field_of (taken world n source)

    abbrev knows : ℕ → ℕ
    knows = (taken_by world n source).peer n

    abbrev done : Work
    done = done_work node event free

    abbrev last : Work
    last = step_work node event free

    came : C (taken_by world n source) done
    came = whichever source event comes well.comes

    ends : Goes D t base knows n stamp before done last
    ends = goes_then D t base knows n stamp before done (settle done) last
        (goes_fold D t base knows n stamp before (λ (work : Work) (tid : Tid). tid ≡ t → PassesWell D t base knows n stamp before work) settle_tid (λ work tid passes. settle_goes_on D t base knows n stamp before tid work passes) (due_tids done) done well.settles)
        (goes_fold D t base knows n stamp before (WaitsWell D t base knows n stamp before) wait_on (λ work client waits. wait_goes_on D t base knows n stamp before work client waits) (waiting_clients (settle done)) (settle done) well.waits)

    done_lawful : AreLawful n stamp before done
    done_lawful = lawful_then t base knows n stamp before early.inv done last ends.extends.more ends.extends.entries lawful

    first_lawful : AreLawful n stamp before first
    first_lawful = lawful_then t base knows n stamp before early.inv first done came.extends.more came.extends.entries done_lawful

    amid : IsAmid (field_of world) n stamp before first
    amid = amid_on D t (field_of world) (world.channels.peer n) n stamp before (work_on node free) first (extends_of t (work_on node free) first (begin_leaves t (work_on node free))) first_lawful early

    begun : D ⊎ Here t (OpenPlaced t (field_of world)) before → HoldsOr D t (field_of world) (world.channels.peer n) n stamp before first
    begun (inl doomed) = inl doomed
    begun (inr placed) = inr (left_on t (field_of world) (world.channels.peer n) n stamp before amid.inv (work_on node free) first (begin_leaves t (work_on node free)) first_lawful (step_begins t before world n stamp free placed))

    after : HoldsOr D t base knows n stamp before last → D ⊎ Here t (OpenPlaced t (field_of (step_with world n stamp free source (Some event)))) (book_after before (entries_of n stamp (effects_of node event free).entries))
    after (inl doomed) = inl doomed
    after (inr placed) = inr (step_ends t before world n stamp source last order placed)

    pub whole : D ⊎ Here t (OpenPlaced t (field_of world)) before → D ⊎ Here t (OpenPlaced t (field_of (step_with world n stamp free source (Some event)))) (book_after before (entries_of n stamp (effects_of node event free).entries))
    whole placed = after (ends.on lawful (amid_on D t base knows n stamp before first done came.extends done_lawful (came.amid amid)) (came.on done_lawful amid (begun placed)))

pub step_places : StepPlaces
step_places w t world n stamp free before source event comes order early well lawful placed = whole (IsDoomed w) t world n stamp free before source event comes order early well lawful placed
