-- Those that begin in a move of a world in which all are shown are shown after it; and as a world begins all are shown.
use Rattle.qs_world_refine.proofs.Words.{◌≡◌, inl, inr, ℕ, ◌<◌, ◌==◌, ◌&&◌, ◌||◌, not, nat_lt, nat_le, Bool, true, false, Option, Some, None, refl, sym, subst, arith, nat_tests, NodeNo, Tid, recovery, names_transaction, opened_manager, recovered_of, Move, Cut, Stop, Rise, event_of, step_with, cut_with, moved, IsOpening, Opening, start, Begins, inc_in, count_in, may_be_known, IsUnbegun, ShowsAll, reopening_seen, node_no, IsShown, scene_of, sight, Stage}
use Rattle.qs_node_step.specs.declared.event.Event.{Event}
use Rattle.qs_world.specs.Moves.{Step, Meet}
use Rattle.qs_world.specs.World.{World}
use Rattle.qs_world_agree.specs.Origins as origins
use Rattle.qs_world_refine.specs.Begun.{has_begun}
use Rattle.qs_world_refine.specs.LeftLaws.{StartAllShown}
use Rattle.qs_world_refine.specs.ShownWorlds.{EachBegunShown}
use Rattle.qs_world_refine.proofs.EachBeginning.{each_begins}
use Rattle.qs_world_refine.proofs.LeftLogs.{log_said}
use Rattle.qs_world_refine.proofs.LeftOpenings.{opening_shows_all, placed}
use Rattle.qs_world_refine.proofs.SaidTidy.{IsSaidTidy}
use Rattle.qs_world_refine.proofs.ShownMoves.{shown_gives}
use Rattle.qs_world_refine.proofs.SoundParts.{and_both}
use Rattle.qs_world_refine.proofs.SteadyFrom.{steady_gives}
use Rattle.qs_world_refine.proofs.SteadyGrows.{begun_past}
use Rattle.qs_world_refine.proofs.TidyTaken.{opened_taken}

-- ---- a move

-- there are as many nodes after it
size_stays : (move : Move) (world : World) → (moved move world).size ≡ world.size
size_stays (Step n stamp free source) world = by (event_of world n stamp source)
  where
    by : (o : Option Event) → (step_with world n stamp free source o).size ≡ world.size
    by None = refl
    by (Some event) = refl
size_stays (Cut n stamp free source is_kept cause) world = by (event_of world n stamp source)
  where
    by : (o : Option Event) → (cut_with world n stamp free is_kept cause o).size ≡ world.size
    by None = refl
    by (Some event) = refl
size_stays (Stop n stamp cause) world = refl
size_stays (Rise n stamp inc) world = refl
size_stays (Meet n stamp m inc) world = refl

pub each_begun_shown : EachBegunShown
each_begun_shown world move may is tid off on = by (each_begins tid world move may (shown_gives world move may is) (steady_gives world is.steady is.listed) is.steady unbegun)
  where
    new : World
    new = moved move world

    tests : (names_transaction tid ≡ true) × ((nat_lt tid.home.0 (moved move world).size && (nat_lt tid.inc (inc_in (moved move world) tid.home.0) || ((tid.inc == inc_in (moved move world) tid.home.0) && nat_le tid.seq (count_in (moved move world) tid.home.0)))) ≡ true)
    tests = and_both (names_transaction tid) _ on

    low : nat_lt tid.home.0 world.size ≡ true
    low = subst (λ (s : ℕ). nat_lt tid.home.0 s ≡ true) (size_stays move world) (and_both (nat_lt tid.home.0 (moved move world).size) _ tests.1).0

    not_known : (a b c : Bool) → b ≡ true → c ≡ false → (a && (not b || c)) ≡ false
    not_known true b c in_run none = rw (in_run, none) refl
    not_known false b c in_run none = refl

    unbegun : IsUnbegun tid world
    unbegun = record { numbered = tests.0; home_in = grind (arith, nat_tests, low); unknown = not_known (names_transaction tid) (nat_lt tid.home.0 world.size) (has_begun world tid) low off }

    by : Begins IsUnbegun ShowsAll tid (moved move world) → IsShown tid (moved move world)
    by (inl still) = absurd (let known : may_be_known (moved move world) tid ≡ true = (begun_past (moved move world).size (inc_in (moved move world)) (count_in (moved move world)) tid on).0 in let none : may_be_known (moved move world) tid ≡ false = still.unknown in cc (known, none))
    by (inr opened) = record { machine = opened.2.0; shows = opened.2.2 }

-- ---- as a world begins

-- where no number is given, one that was is of an earlier incarnation
before : (i k s c : ℕ) → c ≡ 0 → nat_lt 0 s ≡ true → (nat_lt i k || ((i == k) && nat_le s c)) ≡ true → i < k
before i k s c zero some is = by (nat_lt i k) refl (i == k) (nat_le s c) (grind (arith, nat_tests, zero, some)) is
  where
    by : (a : Bool) → nat_lt i k ≡ a → (b d : Bool) → d ≡ false → (a || (b && d)) ≡ true → i < k
    by true less b d off so = grind (arith, nat_tests, less)
    by false no_less true d off so = absurd (cc (off, so))
    by false no_less false d off so = absurd (cc (so))

module _ (o : Opening) (opens : IsOpening o) (tid : Tid) (begun : has_begun (start o) tid ≡ true) where
  h : ℕ
  h = tid.home.0

  numbered : names_transaction tid ≡ true
  numbered = (and_both (names_transaction tid) _ begun).0

  its : (nat_lt tid.home.0 o.size ≡ true) × ((nat_lt tid.inc (o.settings tid.home.0).inc || ((tid.inc == (o.settings tid.home.0).inc) && nat_le tid.seq (count_in (start o) tid.home.0))) ≡ true)
  its = and_both (nat_lt tid.home.0 o.size) _ (and_both (names_transaction tid) _ begun).1

  home_in : tid.home.0 < o.size
  home_in = let low : nat_lt tid.home.0 o.size ≡ true = its.0 in grind (arith, nat_tests, low)

  -- no number is given yet
  none : (opened_manager o.alloc (o.settings tid.home.0) (recovered_of (o.logs tid.home.0))).begun ≡ 0
  none = (opened_taken stage o.alloc (recovery (o.logs tid.home.0)) (subst (λ (m : NodeNo). IsSaidTidy (λ (t : Tid). true) m (recovery (o.logs tid.home.0))) (sym place) (log_said o opens tid.home.0 home_in))).none
    where
      stage : Stage
      stage = record { setting = o.settings tid.home.0; count = 0; past = λ t. true; begun = λ t. true; met = λ m. true }

      place : (o.settings tid.home.0).node ≡ node_no tid.home.0
      place = placed o opens tid.home.0 home_in

  earlier : tid.inc < (o.settings tid.home.0).inc
  earlier = before tid.inc (o.settings tid.home.0).inc tid.seq (count_in (start o) tid.home.0) none numbered its.1

  pub started_shown : IsShown tid (start o)
  started_shown = record { machine = origins.reopened (reopening_seen tid (sight tid (scene_of (start o)))); shows = opening_shows_all tid o opens numbered home_in earlier }

pub start_all_shown : StartAllShown
start_all_shown o opens tid begun = started_shown o opens tid begun
