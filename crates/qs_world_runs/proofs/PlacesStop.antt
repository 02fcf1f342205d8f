-- What all places hold through a crash, between two steps or in one: it is doomed, or so placed as before.
use Rattle.qs_world_runs.proofs.Words.{◌≡◌, ◌⊎◌, inl, inr, ℕ, ◌+◌, ◌<◌, ◌==◌, ◌&&◌, ◌||◌, Bool, is_some, true, false, List, [], ◌∷◌, Option, Some, None, refl, sym, ap, subst, ◌∙◌, nat_lt, nat_le, if◌then◌else◌, eqb-true, Tid, CrashCause, Entry, BookValue, find_transaction, is_crash, TransactionValue, is_unanimous, Record, names_transaction, after_step, effects_of, Event, Cut, Move, Source, Stop, cut_log, cut_with, event_of, is_later, may_move, may_step, moved, stopped, stopped_host, entry_of}
use Rattle.qs_world_runs.proofs.Words.{Opening, World, Open, Committed, IsDoomed, doom_stays, AllGoes, ShowsAll, IsShown, IsShownWorld, StepMay, in_run, step_may, each_begun_shown, home_in_run, move_shown, node_stopped, Lasts, in_runs, held_at, Joined, book_in, nodes_in, WaitsAt, AreAwaited, AwaitedAt, AwaitedOf, HoldsAwaited, PlacedOf, LeavesNone, HoldsPlaced, field_of}
use Rattle.qs_book_journal.specs.declared.entry.Act.TheVariants as acts
use Rattle.qs_book_machine.specs.Transaction.{is_open}
use Rattle.qs_node_step.specs.State.{NodeValue}
use Rattle.qs_world.specs.Moves.{is_in_order}
use Rattle.qs_world_agree.specs.World as machine
use Rattle.qs_world_refine.specs.Begun.{has_begun}
use Rattle.qs_world_refine.specs.CutLaws.{CutsOff, StopsAlone}
use Rattle.qs_world_refine.specs.MoveLaws.{is_cut_with}
use Rattle.qs_world_refine.proofs.CutsAlone.{cut_goes_alone, stop_goes_alone}
use Rattle.qs_world_refine.proofs.CutsKept.{cut_goes_kept}
use Rattle.qs_world_refine.proofs.SoundParts.{and_both}
use Rattle.qs_world_lawful.specs.Holds.{Holds}
use Rattle.qs_world_runs.specs.StopLaws.{book_stopped}
use Rattle.qs_world_runs.proofs.ApartHere.{leaves_none}
use Rattle.qs_world_runs.specs.JoinedLaws.{CutsUnanimous}
use Rattle.qs_world_runs.proofs.JoinedParts.{book_on}
use Rattle.qs_world_runs.proofs.PlacesBegin.{begun_up}
use Rattle.qs_world_runs.proofs.StopsPlaced.{cut_holds, stop_holds}

module _ (o : Opening) (world : World) (j : Joined AwaitedAt o world) (n stamp : ℕ) (cause : CrashCause) (log : List Record) (n_in : n < world.size) (on : world.channels.up n ≡ true) (ordered : is_in_order world n stamp ≡ true) (shown : IsShownWorld (stopped world n stamp cause log)) where
  abbrev book : BookValue
  book = book_in o world

  abbrev after : World
  after = stopped world n stamp cause log

  abbrev entry : Entry
  entry = entry_of n stamp (acts.Crash cause)

  own : Holds stamp book (world.hosts n).node
  own = held_at n stamp book (world.hosts n).node (j.held.nodes n n_in).node ((j.held.nodes n n_in).runs on).still (j.held.order n stamp ordered)

  lasts : Lasts book
  lasts = in_runs o world.journal j.opens j.lawful

  -- what has begun elsewhere had begun before
  begun_away : (tid : Tid) → (tid.home.0 == n) ≡ false → has_begun after tid ≡ true → has_begun world tid ≡ true
  begun_away tid far has = picked (tid.home.0 == n) far has
    where
      k : ℕ
      k = tid.home.0

      picked : (b : Bool) → b ≡ false
          → (names_transaction tid && (nat_lt k world.size && (nat_lt tid.inc (if (if b then false else world.channels.up k) then world.channels.inc k else world.channels.inc k + 1)
          || ((tid.inc == (if (if b then false else world.channels.up k) then world.channels.inc k else world.channels.inc k + 1)) && nat_le tid.seq (if (if b then false else world.channels.up k) then (if b then stopped_host stamp log (world.hosts n) else world.hosts k).node.manager.begun else 0))))) ≡ true
          → has_begun world tid ≡ true
      picked false is so = so
      picked true is so = absurd (cc is)

  module _ (tid : Tid) (goes : has_begun world tid ≡ true → AwaitedOf tid o after) (begun : has_begun after tid ≡ true) where
    its : IsShown tid after
    its = shown.shown tid begun

    found_then : (tx : TransactionValue) → find_transaction (book_in o after) tid ≡ Some tx → find_transaction book tid ≡ Some tx
    found_then tx found = subst (λ (b : BookValue). find_transaction b tid ≡ Some tx) (book_on o world after (entry ∷ []) refl) found

    unbegun : has_begun world tid ≡ false → (b : Bool) → (tid.home.0 == n) ≡ b → (tx : TransactionValue) → find_transaction (book_in o after) tid ≡ Some tx → is_open tx.cell ≡ true → ⊥
    unbegun none false far tx found undecided = absurd (let was : has_begun world tid ≡ true = begun_away tid far begun in cc (none, was))
    unbegun none true near tx found undecided = absurd (let was : has_begun world tid ≡ true = begun_up book world lasts j.held tid (ap is_some (found_then tx found)) (home_in_run after shown tid begun) (ap world.channels.up at ∙ on) in cc (none, was))
      where
        at : tid.home.0 ≡ n
        at = eqb-true tid.home.0 n near

    pub crash_places : AwaitedOf tid o after
    crash_places = by (has_begun world tid) refl
      where
        by : (b : Bool) → has_begun world tid ≡ b → AwaitedOf tid o after
        by true was = goes was
        by false none = record {
          places = record { machine = its.machine; shows = its.shows; placed = λ tx found undecided. absurd (unbegun none (tid.home.0 == n) refl tx found undecided) };
          awaited = λ tx found undecided. absurd (unbegun none (tid.home.0 == n) refl tx found undecided);
        }

  placed_in : (tid : Tid) (w : machine.World) (goes : AllGoes tid after w) → HoldsPlaced tid (book_stopped book n stamp cause) (field_of after) goes.next → HoldsAwaited tid book (nodes_in world) w → AwaitedOf tid o after
  placed_in tid w goes holds awaited = record {
    places = record { machine = goes.next; shows = goes.shown; placed = subst (λ (b : BookValue). HoldsPlaced tid b (field_of after) goes.next) (sym (book_on o world after (entry ∷ []) refl)) holds };
    awaited = subst (λ (b : BookValue). HoldsAwaited tid b (nodes_in after) goes.next) (sym (book_on o world after (entry ∷ []) refl)) (λ tx found undecided. by tx (awaited tx found undecided));
  }
    where
      by : (tx : TransactionValue) → IsDoomed w ⊎ AreAwaited tid tx (nodes_in world) → IsDoomed goes.next ⊎ AreAwaited tid tx (nodes_in after)
      by tx (inl doomed) = inl (doom_stays w goes.next doomed goes.leads)
      by tx (inr await) = inr (λ k at member from_k away stands. subst (λ (node : NodeValue). WaitsAt tid member at.number node) (sym (node_stopped world n stamp cause log k)) (await k at member from_k away stands))

  -- where it is not engaged none that it issued stands, or it is doomed
  apart : (tid : Tid) (w : machine.World) → HoldsAwaited tid book (nodes_in world) w → (tx : TransactionValue) → find_transaction book tid ≡ Some tx → is_open tx.cell ≡ true → IsDoomed w ⊎ LeavesNone tid world n tx
  apart tid w awaited tx found undecided = by (awaited tx found undecided)
    where
      by : IsDoomed w ⊎ AreAwaited tid tx (nodes_in world) → IsDoomed w ⊎ LeavesNone tid world n tx
      by (inl doomed) = inl doomed
      by (inr await) = inr (leaves_none AwaitedAt o world n tid tx j n_in on stamp own found undecided (await n))

  -- with nothing of the step kept of it
  pub alone_places : (tid : Tid) → has_begun after tid ≡ true → ((w : machine.World) → has_begun world tid ≡ true → ShowsAll tid world w → StopsAlone tid world after n w) → AwaitedOf tid o after
  alone_places tid begun alone = crash_places tid (λ was. let a : AwaitedOf tid o world = j.places tid was in let p : PlacedOf tid o world = a.places in let goes : StopsAlone tid world after n p.machine = alone p.machine was p.shows in
      placed_in tid p.machine goes.goes (stop_holds tid book world n stamp cause log p.machine goes j.shown p.shows n_in on stamp own (apart tid p.machine a.awaited) p.placed) a.awaited) begun

  -- with a record of it kept
  pub kept_places : (tid : Tid) (leaves : NodeValue) → has_begun after tid ≡ true
      → ((w : machine.World) → has_begun world tid ≡ true → ShowsAll tid world w → (goes : CutsOff tid leaves after w) × (w.cell ≡ Open → goes.goes.next.cell ≡ Committed → (tx : TransactionValue) → find_transaction book tid ≡ Some tx → is_open tx.cell ≡ true → is_unanimous tx ≡ true))
      → AwaitedOf tid o after
  kept_places tid leaves begun kept = crash_places tid (λ was. let a : AwaitedOf tid o world = j.places tid was in let p : PlacedOf tid o world = a.places in let goes = kept p.machine was p.shows in
      placed_in tid p.machine goes.0.goes (cut_holds tid book world n stamp cause log p.machine leaves goes.0 j.shown p.shows n_in on stamp own (apart tid p.machine a.awaited) goes.1 p.placed) a.awaited) begun

module _ (o : Opening) (world : World) (j : Joined AwaitedAt o world) where
  ordered_so : (n stamp : ℕ) (source : Source) → may_step world n stamp source ≡ true → is_in_order world n stamp ≡ true
  ordered_so n stamp source may = (and_both (is_in_order world n stamp) _ (and_both (is_later world n stamp) _ (and_both (world.channels.up n) _ may).1).0).0

  pub stop_places : (n stamp : ℕ) (cause : CrashCause) → may_move world (Stop n stamp cause) ≡ true → AwaitedAt o (moved (Stop n stamp cause) world)
  stop_places n stamp cause may tid begun = alone_places o world j n stamp cause (world.hosts n).log (in_run world n stamp tests.1) tests.0 tests.1 (move_shown world (Stop n stamp cause) may j.shown (each_begun_shown world (Stop n stamp cause) may j.shown)) tid begun
      (λ w was shows. stop_goes_alone tid world n stamp cause w may j.shown was shows)
    where
      tests : (world.channels.up n ≡ true) × (is_in_order world n stamp ≡ true)
      tests = let runs = and_both (world.channels.up n) _ may in (runs.0, (and_both (is_in_order world n stamp) _ runs.1).0)

  pub cut_places : (n stamp free : ℕ) (source : Source) (is_kept : Bool) (cause : CrashCause) → may_move world (Cut n stamp free source is_kept cause) ≡ true
      → ((event : Event) → event_of world n stamp source ≡ Some event → CutsUnanimous o world n stamp free is_kept cause event)
      → AwaitedAt o (moved (Cut n stamp free source is_kept cause) world)
  cut_places n stamp free source is_kept cause may unanimous = by (event_of world n stamp source) refl
    where
      move : Move
      move = Cut n stamp free source is_kept cause

      its : StepMay world n source
      its = step_may world n stamp source (and_both (may_step world n stamp source) (is_crash cause) may).0

      ordered : is_in_order world n stamp ≡ true
      ordered = ordered_so n stamp source (and_both (may_step world n stamp source) (is_crash cause) may).0

      shown : IsShownWorld (moved move world)
      shown = move_shown world move may j.shown (each_begun_shown world move may j.shown)

      by : (e : Option Event) → event_of world n stamp source ≡ e → AwaitedAt o (moved move world)
      by None none = subst (λ (e : Option Event). AwaitedAt o (cut_with world n stamp free is_kept cause e)) (sym none) j.places
      by (Some event) comes = subst (λ (e : Option Event). AwaitedAt o (cut_with world n stamp free is_kept cause e)) (sym comes) (λ tid begun. of tid begun (is_cut_with tid is_kept world n free event) refl)
        where
          log : List Record
          log = cut_log (world.hosts n) is_kept (effects_of (world.hosts n).node event free)

          shown_so : IsShownWorld (stopped world n stamp cause log)
          shown_so = subst IsShownWorld (ap (cut_with world n stamp free is_kept cause) comes) shown

          of : (tid : Tid) → has_begun (stopped world n stamp cause log) tid ≡ true → (b : Bool) → is_cut_with tid is_kept world n free event ≡ b → AwaitedOf tid o (stopped world n stamp cause log)
          of tid begun false lost = alone_places o world j n stamp cause log its.low its.runs ordered shown_so tid begun
              (λ w was shows. subst (λ (v : World). StopsAlone tid world v n w) (ap (cut_with world n stamp free is_kept cause) comes) (cut_goes_alone tid world n stamp free source is_kept cause event w may j.shown was shows comes lost))
          of tid begun true kept = kept_places o world j n stamp cause log its.low its.runs ordered shown_so tid (after_step (world.hosts n).node event free) begun
              (λ w was shows. let goes : CutsOff tid (after_step (world.hosts n).node event free) (stopped world n stamp cause log) w = subst (λ (v : World). CutsOff tid (after_step (world.hosts n).node event free) v w) (ap (cut_with world n stamp free is_kept cause) comes) (cut_goes_kept tid world n stamp free source is_kept cause event w may j.shown was shows comes kept) in
              (goes, λ open_now committed tx found undecided. unanimous event comes tid w goes was shows open_now committed tx found undecided))
