-- What has begun has begun after each move.
use Rattle.qs_world_refine.proofs.Words.{◌≡◌, ◌⊎◌, inl, inr, ℕ, ◌<◌, ◌==◌, ◌&&◌, not, nat_lt, true, Option, Some, None, refl, arith, nat_tests, Tid, is_crash, recovered_of, step_work, effects_of, Source, Cut, Stop, Rise, event_of, step_with, cut_with, cut_log, stopped, risen, is_later, is_in_order, may_step, known_of, inc_in, count_in, begun, IsSteadyWorld, MachineGives, GivesAt, IsTidy, not-true}
use Rattle.qs_node_step.specs.declared.event.Event.{Event}
use Rattle.qs_world.specs.Moves.{Step, Meet, met, has_begun as has_risen}
use Rattle.qs_world.specs.World.{World}
use Rattle.qs_world_refine.specs.Begun.{has_begun}
use Rattle.qs_world_refine.specs.ShownWorlds.{BegunStays}
use Rattle.qs_world_refine.proofs.MoveGoes.{in_run, later_in, StepMay, step_may}
use Rattle.qs_world_refine.proofs.SoundParts.{and_both}
use Rattle.qs_world_refine.proofs.SteadyGrows.{begun_rises, has_begun_on}
use Rattle.qs_world_refine.proofs.SteadyMays.{event_fits}
use Rattle.qs_world_refine.proofs.SteadyMeets.{meet_grows}
use Rattle.qs_world_refine.proofs.SteadyMoves.{in_stage, in_next, stop_grows}
use Rattle.qs_world_refine.proofs.SteadyRises.{grows}
use Rattle.qs_world_refine.proofs.SteadySteps.{c, d, bump, more, step_tidy}

step_stays : (tid : Tid) (world : World) (steady : IsSteadyWorld world) (n stamp free : ℕ) (source : Source) (event : Event) → event_of world n stamp source ≡ Some event → n < world.size → world.channels.up n ≡ true → MachineGives event (begun (world.hosts n).node free)
    → has_begun world tid ≡ true → has_begun (step_with world n stamp free source (Some event)) tid ≡ true
step_stays tid world steady n stamp free source event is low up gives its = by (step_tidy world steady n free low up event (event_fits world steady n free low up stamp source event is) gives)
  where
    by : (IsTidy (c world steady n free low up) (step_work (world.hosts n).node event free) ⊎ IsTidy (d world steady n free low up) (step_work (world.hosts n).node event free)) → has_begun (step_with world n stamp free source (Some event)) tid ≡ true
    by (inl t) = (in_stage world steady n stamp free source event is low up gives t).begun tid its
    by (inr t) = (in_next world steady n stamp free source event is low up gives t).begun tid (begun_rises world.size (inc_in world) (count_in world) (inc_in world) (bump n (count_in world)) (more world steady n free low up) tid its)

pub begun_stays : BegunStays
begun_stays tid world (Step n stamp free source) may gives steady its = by (event_of world n stamp source) refl gives
  where
    runs : StepMay world n source
    runs = step_may world n stamp source may

    by : (o : Option Event) → event_of world n stamp source ≡ o → GivesAt world n free o → has_begun (step_with world n stamp free source o) tid ≡ true
    by None none gives = its
    by (Some event) came gives = step_stays tid world steady n stamp free source event came runs.low runs.runs gives its
begun_stays tid world (Cut n stamp free source is_kept cause) may gives steady its = by (event_of world n stamp source)
  where
    runs : StepMay world n source
    runs = step_may world n stamp source (and_both (may_step world n stamp source) (is_crash cause) may).0

    by : (o : Option Event) → has_begun (cut_with world n stamp free is_kept cause o) tid ≡ true
    by None = its
    by (Some event) = has_begun_on world (cut_with world n stamp free is_kept cause (Some event)) (stop_grows world steady n stamp cause (cut_log (world.hosts n) is_kept (effects_of (world.hosts n).node event free)) runs.low runs.runs) tid its
begun_stays tid world (Stop n stamp cause) may gives steady its =
    let runs : (world.channels.up n ≡ true) × ((is_in_order world n stamp && is_crash cause) ≡ true) = and_both (world.channels.up n) _ may in
    has_begun_on world (stopped world n stamp cause (world.hosts n).log) (stop_grows world steady n stamp cause (world.hosts n).log (in_run world n stamp (and_both (is_in_order world n stamp) _ runs.1).0) runs.0) tid its
begun_stays tid world (Rise n stamp inc) may gives steady its =
    let rest : (not (world.channels.up n) ≡ true) × ((is_in_order world n stamp && nat_lt (world.channels.inc n) inc) ≡ true) = and_both (not (world.channels.up n)) _ may in
    let parts : (is_in_order world n stamp ≡ true) × (nat_lt (world.channels.inc n) inc ≡ true) = and_both (is_in_order world n stamp) _ rest.1 in
    has_begun_on world (risen world n stamp inc (recovered_of (world.hosts n).log)) (grows world steady n stamp inc (in_run world n stamp parts.0) (not-true (world.channels.up n) rest.0) (grind (arith, nat_tests, parts.1))) tid its
begun_stays tid world (Meet n stamp m inc) may gives steady its =
    let runs : (world.channels.up n ≡ true) × ((is_later world n stamp && ((not (m == n) && nat_lt m world.size) && ((known_of world n m == 0) && (nat_lt 0 inc && has_risen world stamp m inc)))) ≡ true) = and_both (world.channels.up n) _ may in
    let parts : (is_later world n stamp ≡ true) × (((not (m == n) && nat_lt m world.size) && ((known_of world n m == 0) && (nat_lt 0 inc && has_risen world stamp m inc))) ≡ true) = and_both (is_later world n stamp) _ runs.1 in
    let pair : ((not (m == n) && nat_lt m world.size) ≡ true) × (((known_of world n m == 0) && (nat_lt 0 inc && has_risen world stamp m inc)) ≡ true) = and_both (not (m == n) && nat_lt m world.size) _ parts.1 in
    let other : (not (m == n) ≡ true) × (nat_lt m world.size ≡ true) = and_both (not (m == n)) _ pair.0 in
    let some : nat_lt 0 inc ≡ true = (and_both (nat_lt 0 inc) _ (and_both (known_of world n m == 0) _ pair.1).1).0 in
    has_begun_on world (met world n stamp m inc) (meet_grows world steady n stamp m inc (later_in world n stamp parts.0) other.0 other.1 some) tid its
