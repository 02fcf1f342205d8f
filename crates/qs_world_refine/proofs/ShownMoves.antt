-- Where each transaction that has begun is shown, a move asks nothing, and all go on to be shown.
use Rattle.qs_world_refine.proofs.Words.{◌≡◌, ℕ, ◌<◌, ◌||◌, not, nat_lt, Bool, true, false, [], ◌∷◌, length, Option, Some, None, refl, sym, subst, arith, eqb-true, nat_tests, Tid, same_node, is_crash, Message, names_transaction, Source, Commanded, Handed, Queues, Clock, Noticed, Cut, Stop, Rise, event_of, may_step, moved, leads_on, may_be_known, inc_in, count_in, begun_among, fits, AllGoes, MessagesFit, node_no, IsShown, IsShownWorld, FitsMessage, begun, MachineMoves, MachineGives, GivesAt}
use Rattle.qs_world_refine.proofs.Words.{is_steady_parcel, are_two, IsSteady, same_Some}
use Rattle.qs_packet.specs.declared.message.Message.TheVariants as messages
use Rattle.qs_node_step.specs.declared.event.Event.{Event}
use Rattle.qs_node_step.specs.declared.event.Event.TheVariants as events
use Rattle.qs_world.specs.Moves.{Step, Meet}
use Rattle.qs_world.specs.World.{World}
use Rattle.qs_world_refine.specs.Begun.{has_begun}
use Rattle.qs_world_refine.specs.EachMove.{IsAbout}
use Rattle.qs_world_refine.specs.ShownWorlds.{ShownFit, ShownGives, ShownGoes, MoveShown, RunShown, ShownRunGoes}
use Rattle.qs_world_refine.proofs.BegunStays.{begun_stays}
use Rattle.qs_world_refine.proofs.EachMay.{all_get, from_client, from_node, from_notice}
use Rattle.qs_world_refine.proofs.EachMoveGoes.{each_move_goes, shown_fits}
use Rattle.qs_world_refine.proofs.Listing.{move_listed}
use Rattle.qs_world_refine.proofs.MoveGoes.{StepMay, step_may}
use Rattle.qs_world_refine.proofs.SoundParts.{and_both}
use Rattle.qs_world_refine.proofs.SteadyFrom.{begun_low, steady_gives}
use Rattle.qs_world_refine.proofs.SteadyRises.{move_steady}

-- ---- a message

-- what may be known of a home of the run has begun
known_begun : (world : World) (tid : Tid) → may_be_known world tid ≡ true → nat_lt tid.home.0 world.size ≡ true → has_begun world tid ≡ true
known_begun world tid is low = by (nat_lt tid.home.0 world.size) low (and_both (names_transaction tid) _ is).1
  where
    by : (a : Bool) → a ≡ true → (not a || begun_among world.size (inc_in world) (count_in world) tid) ≡ true → begun_among world.size (inc_in world) (count_in world) tid ≡ true
    by true on its = its
    by false off its = absurd (cc (off))

module _ (world : World) (is : IsShownWorld world) where
  pub steady : IsSteady world
  steady = steady_gives world is.steady is.listed

  pub home_in_run : (tid : Tid) → has_begun world tid ≡ true → tid.home.0 < world.size
  home_in_run tid begun = let low : nat_lt tid.home.0 world.size ≡ true = (and_both (nat_lt tid.home.0 world.size) _ (and_both (names_transaction tid) _ begun).1).0 in grind (arith, nat_tests, low)

  -- of which transaction it is
  module _ (n m free : ℕ) (two : are_two world.size m n ≡ true) where
    at_low : (tid : Tid) (k : ℕ) → same_node tid.home (node_no k) ≡ true → nat_lt k world.size ≡ true → nat_lt tid.home.0 world.size ≡ true
    at_low tid k same low = rw (eqb-true tid.home.0 k same) low

    m_low : nat_lt m world.size ≡ true
    m_low = (and_both (nat_lt m world.size) _ two).0

    n_low : nat_lt n world.size ≡ true
    n_low = (and_both (nat_lt n world.size) _ (and_both (nat_lt m world.size) _ two).1).0

    of_one : (message : Message) → fits (may_be_known world) (has_begun world) world.size (node_no m) (node_no n) message ≡ true
        → ((tid : Tid) → has_begun world tid ≡ true → IsAbout tid message → FitsMessage (node_no m) message (begun (world.hosts n).node free)) → FitsMessage (node_no m) message (begun (world.hosts n).node free)
    of_one messages.Hello its each = tt
    of_one (messages.Request tid label member number issuer op) its each = each tid (and_both (has_begun world tid) _ its).0 refl
    of_one (messages.Answered tid member number reply) its each = tt
    of_one (messages.AskVote tid) its each = tt
    of_one (messages.Covered tid up_to) its each = each tid its refl
    of_one (messages.VotedYes tid up_to told) its each = each tid (and_both (has_begun world tid) _ its).0 refl
    of_one (messages.VotedAbort tid cause) its each = tt
    of_one (messages.Tell tid outcome) its each = let both : (may_be_known world tid ≡ true) × (same_node tid.home (node_no m) ≡ true) = and_both (may_be_known world tid) _ its in each tid (known_begun world tid both.0 (at_low tid m both.1 m_low)) refl
    of_one (messages.Told tid further) its each = let both : (may_be_known world tid ≡ true) × (same_node tid.home (node_no n) ≡ true) = and_both (may_be_known world tid) _ its in each tid (known_begun world tid both.0 (at_low tid n both.1 n_low)) refl
    of_one (messages.Inquire tid) its each = tt

  pub messages_fit : MessagesFit world
  messages_fit n m free parcel n_in on found = of_one n m free both.0 parcel.message both.1
      (λ tid begun about. shown_fits tid world (is.shown tid begun).machine n m free parcel steady (home_in_run tid begun) (begun_low world tid begun) (is.shown tid begun).shows n_in on found about)
    where
      its : is_steady_parcel world m n parcel ≡ true
      its = all_get (is_steady_parcel world m n) (length (world.channels.handed m n (world.channels.peer n m) (world.channels.inc n))) (world.channels.posted m n (world.channels.peer n m) (world.channels.inc n)) parcel found (is.steady.posted m n (world.channels.peer n m) (world.channels.inc n))

      both : (are_two world.size m n ≡ true) × (fits (may_be_known world) (has_begun world) world.size (node_no m) (node_no n) parcel.message ≡ true)
      both = and_both (are_two world.size m n) _ its

  -- what fits is what the machine has
  fit_gives : (n m free : ℕ) (message : Message) → FitsMessage (node_no m) message (begun (world.hosts n).node free) → MachineGives (events.Received (node_no m) message) (begun (world.hosts n).node free)
  fit_gives n m free messages.Hello fit = tt
  fit_gives n m free (messages.Request tid label member number issuer op) fit = fit.1
  fit_gives n m free (messages.Answered tid member number reply) fit = tt
  fit_gives n m free (messages.AskVote tid) fit = tt
  fit_gives n m free (messages.Covered tid up_to) fit = fit.1
  fit_gives n m free (messages.VotedYes tid up_to told) fit = fit.1.1
  fit_gives n m free (messages.VotedAbort tid cause) fit = tt
  fit_gives n m free (messages.Tell tid outcome) fit = fit
  fit_gives n m free (messages.Told tid further) fit = tt
  fit_gives n m free (messages.Inquire tid) fit = tt

  pub event_gives : (n stamp free : ℕ) (source : Source) (event : Event) → n < world.size → world.channels.up n ≡ true → event_of world n stamp source ≡ Some event → MachineGives event (begun (world.hosts n).node free)
  event_gives n stamp free (Commanded k) event n_in on came = let from = from_client world n k event steady came in subst (λ (e : Event). MachineGives e (begun (world.hosts n).node free)) (sym from.is) tt
  event_gives n stamp free (Handed m) event n_in on came = let from = from_node world n stamp m event came in
      subst (λ (e : Event). MachineGives e (begun (world.hosts n).node free)) (sym from.is) (fit_gives n m free from.parcel.message (messages_fit n m free from.parcel n_in on from.found))
  event_gives n stamp free Queues event n_in on came = subst (λ (e : Event). MachineGives e (begun (world.hosts n).node free)) (same_Some events.ServeAll event came) tt
  event_gives n stamp free Clock event n_in on came = subst (λ (e : Event). MachineGives e (begun (world.hosts n).node free)) (same_Some events.Tick event came) tt
  event_gives n stamp free (Noticed m new) event n_in on came = let from = from_notice world n stamp m new event came in subst (λ (e : Event). MachineGives e (begun (world.hosts n).node free)) (sym from.is) tt

  source_gives : (n stamp free : ℕ) (source : Source) → n < world.size → world.channels.up n ≡ true → GivesAt world n free (event_of world n stamp source)
  source_gives n stamp free source n_in on = by (event_of world n stamp source) refl
    where
      by : (o : Option Event) → event_of world n stamp source ≡ o → GivesAt world n free o
      by None none = tt
      by (Some event) came = event_gives n stamp free source event n_in on came

pub shown_fit : ShownFit
shown_fit world is = messages_fit world is

pub shown_gives : ShownGives
shown_gives world (Step n stamp free source) may is = let its : StepMay world n source = step_may world n stamp source may in source_gives world is n stamp free source its.low its.runs
shown_gives world (Cut n stamp free source is_kept cause) may is = let its : StepMay world n source = step_may world n stamp source (and_both (may_step world n stamp source) (is_crash cause) may).0 in source_gives world is n stamp free source its.low its.runs
shown_gives world (Stop n stamp cause) may is = tt
shown_gives world (Rise n stamp inc) may is = tt
shown_gives world (Meet n stamp m inc) may is = tt

pub shown_goes : ShownGoes
shown_goes tid world move w may is begun shows = each_move_goes tid world move w may (steady world is) (messages_fit world is) (home_in_run world is tid begun) (begun_low world tid begun) shows

-- ---- the world after it

pub move_shown : MoveShown
move_shown world move may is begun = record {
  steady = move_steady world move may gives is.steady;
  listed = move_listed world move may gives is.steady is.listed;
  shown = λ tid has. by tid has (has_begun world tid) refl;
}
  where
    gives : MachineMoves world move
    gives = shown_gives world move may is

    by : (tid : Tid) → has_begun (moved move world) tid ≡ true → (b : Bool) → has_begun world tid ≡ b → IsShown tid (moved move world)
    by tid has true before = let goes : AllGoes tid (moved move world) (is.shown tid before).machine = shown_goes tid world move (is.shown tid before).machine may is before (is.shown tid before).shows in record { machine = goes.next; shows = goes.shown }
    by tid has false now = begun tid now has

pub run_shown : RunShown
run_shown [] old new each run is = subst IsShownWorld (sym run) is
run_shown (move ∷ moves) old new each run is = run_shown moves (moved move old) new each run.1 (move_shown old move run.0 is (each old move run.0 is))

pub shown_run_goes : ShownRunGoes
shown_run_goes tid [] old new w each run is begun shows = subst (λ (world : World). AllGoes tid world w) (sym run) (record { next = w; leads = record { events = []; run = refl }; shown = shows })
shown_run_goes tid (move ∷ moves) old new w each run is begun shows =
    let first = shown_goes tid old move w run.0 is begun shows in
    let rest = shown_run_goes tid moves (moved move old) new first.next each run.1 (move_shown old move run.0 is (each old move run.0 is)) (begun_stays tid old move run.0 (shown_gives old move run.0 is) is.steady begun) first.shown in
    record { next = rest.next; leads = leads_on w first.next rest.next first.leads rest.leads; shown = rest.shown }
