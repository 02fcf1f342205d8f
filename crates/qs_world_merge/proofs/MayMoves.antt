-- Which moves a node may make where it has come to.
use Rattle.qs_world_merge.proofs.Words.{◌≡◌, ◌≢◌, ℕ, ◌==◌, ◌≤◌, ◌<◌, Bool, true, ap, ◌∙◌, arith, ◌&&◌, is_some, not, eq-eqb, nat_tests, is_crash, Source, event_of, is_in_order, is_later, may_serve, may_step, PacketWorld, HasStampsUpTo, is_after}
use Rattle.std.proofs.Common.{◌^◌, nat_lt}
use Rattle.std.specs.Prelude.{nat_le}
use Rattle.std.proofs.lemmas.Bool.{and_from, le-leb, lt-ltb}
use Rattle.qs_world.specs.Moves.{stamp_limit}
use Rattle.qs_world_merge.specs.Reaching.{EachMayCut, EachMayMeet, EachMayRise, EachMayStep, EachMayStop, EachMayTick, IsReady}
use Rattle.qs_world_merge.proofs.KeyOrder.{after_later}

module _ (size n stamp : ℕ) (world : PacketWorld) (low : HasStampsUpTo size n stamp world) (in_run : n < size) where
  in_order : (s : ℕ) → stamp ≤ s → s < 2 ^ 62 → is_in_order world n s ≡ true
  in_order s later below =
      and_from (nat_lt n world.size && nat_lt s stamp_limit) _ (and_from (nat_lt n world.size) (nat_lt s stamp_limit) (ap (λ (k : ℕ). nat_lt n k) low.size_is ∙ lt-ltb n size in_run) (lt-ltb s (2 ^ 62) below))
      (and_from (is_after world.last s n) (nat_le (world.hosts n).stamp s) (after_later world.last stamp s n low.last later) (le-leb (world.hosts n).stamp s (omega (arith, low.host, later))))

  is_next : (s : ℕ) → stamp < s → s < 2 ^ 62 → is_later world n s ≡ true
  is_next s later below = and_from (is_in_order world n s) (nat_lt (world.hosts n).stamp s) (in_order s (omega (arith, later)) below) (lt-ltb (world.hosts n).stamp s (omega (arith, low.host, later)))

steps : (size n stamp : ℕ) (world : PacketWorld) (s : ℕ) (source : Source) → HasStampsUpTo size n stamp world → IsReady size n stamp world s source → may_step world n s source ≡ true
steps size n stamp world s source low m =
    and_from (world.network.up n) _ m.up
    (and_from (is_later world n s) _ (is_next size n stamp world low m.in_run s m.later m.low)
    (and_from (is_some (event_of world n s source)) (may_serve (world.hosts n).node source) m.some m.serves))

pub may_steps : EachMayStep
may_steps size n stamp world s free source low m = steps size n stamp world s source low m

pub may_cuts : EachMayCut
may_cuts size n stamp world s free source is_kept cause low m crash = and_from (may_step world n s source) (is_crash cause) (steps size n stamp world s source low m) crash

pub may_stops : EachMayStop
may_stops size n stamp world s cause low in_run later below up crash = and_from (world.network.up n) _ up (and_from (is_in_order world n s) (is_crash cause) (in_order size n stamp world low in_run s later below) crash)

pub may_rises : EachMayRise
may_rises size n stamp world s inc low in_run later below down above =
    and_from (not (world.network.up n)) _ (ap (λ (b : Bool). not b) down) (and_from (is_in_order world n s) (nat_lt (world.network.inc n) inc) (in_order size n stamp world low in_run s later below) (lt-ltb (world.network.inc n) inc above))

not_same : (m n : ℕ) → m ≢ n → not (m == n) ≡ true
not_same m n other = grind (arith, nat_tests, other)

pub may_meets : EachMayMeet
may_meets size n stamp world s m p low in_run later below up also other unmet earlier =
    and_from (world.network.up n) _ up
    (and_from (is_later world n s) _ (is_next size n stamp world low in_run s later below)
    (and_from (not (m == n) && nat_lt m world.size) _ (and_from (not (m == n)) (nat_lt m world.size) (not_same m n other) (ap (λ (k : ℕ). nat_lt m k) low.size_is ∙ lt-ltb m size also))
    (and_from ((world.network.end n m).known == 0) (nat_lt p.stamp s) (eq-eqb (world.network.end n m).known 0 unmet) (lt-ltb p.stamp s earlier))))

pub may_ticks : EachMayTick
may_ticks size n stamp world s m low later up = and_from (world.network.up n) (nat_le (world.hosts n).stamp s) up (le-leb (world.hosts n).stamp s (omega (arith, low.host, later)))
