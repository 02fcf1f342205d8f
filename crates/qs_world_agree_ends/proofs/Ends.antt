-- The facts of this crate together, over every run.
use Rattle.std.proofs.Common.{◌≡◌, ℕ, ◌+◌, List, [], ◌∷◌, sym, subst, arith}
use Rattle.std.proofs.lemmas.Bool.Decides.{nat_tests}
use Rattle.qs_world_agree.specs.World.{World, Opening, IsOpening, start}
use Rattle.qs_world_agree.specs.Origins.{Origin, Begun, Found, IsOrigin, Reopening, IsReopening, reopened, first}
use Rattle.qs_world_agree.specs.Step.{Event, Step}
use Rattle.qs_world_agree.specs.Laws.{Run, IsReached}
use Rattle.qs_world_agree.proofs.Whole.{Inv}
use Rattle.qs_world_agree.proofs.Inv.{inv_step}
use Rattle.qs_world_agree.proofs.Reopened.{inv_first}
use Rattle.qs_world_agree_ends.specs.Moments.{engaged_by, said_by, engaged_from, said_from}
use Rattle.qs_world_agree_ends.proofs.Covers.{Covers}
use Rattle.qs_world_agree_ends.proofs.CoversTable.{covers_step}
use Rattle.qs_world_agree_ends.proofs.Tied.{Tied}
use Rattle.qs_world_agree_ends.proofs.TiedTable.{tied_step}
use Rattle.qs_world_agree_ends.proofs.GoesOn.{GoesOn}
use Rattle.qs_world_agree_ends.proofs.GoesOnTable.{goes_on_step}
use Rattle.qs_world_agree_ends.proofs.Order.{Order}
use Rattle.qs_world_agree_ends.proofs.OrderTable.{order_step}

pub record Ends (w : World) : Type 0 where
  pub inv : Inv w
  pub covers : (p q : ℕ) → Covers w p q
  pub tied : (k : ℕ) → Tied w k
  pub goes_on : (p q j : ℕ) → GoesOn w p q j

-- after one step
pub ends_step : (e : Event) (w v : World) → Ends w → Step e w v → Ends v
ends_step e w v i s = record {
  inv = inv_step e w v i.inv s;
  covers = λ p q. covers_step e w v p q i.inv.counts (i.covers p q) s;
  tied = λ k. tied_step e w v k i.inv.counts i.covers i.tied s;
  goes_on = λ p q j. goes_on_step e w v p q j i.inv.counts i.covers i.tied (i.goes_on p q j) s;
}

-- after a run
pub ends_run : (es : List Event) (w v : World) → Ends w → Run w es v → Ends v
ends_run [] w v i r = subst Ends (sym r) i
ends_run (e ∷ es) w v i r = ends_run es r.0 v (ends_step e w r.0 i r.1) r.2

-- where a run begins
tied_start : (o : Opening) (k : ℕ) → o.present (o.node o.home) ≡ o.home → Tied (start o) k
tied_start o k is = grind (arith, nat_tests)

ends_start : (o : Opening) → IsOpening o → Ends (start o)
ends_start o is = record {
  inv = inv_first (Begun o) is;
  covers = λ p q. grind (arith, nat_tests);
  tied = λ k. tied_start o k (is.up_present o.home is.home_up);
  goes_on = λ p q j. grind (arith, nat_tests);
}

ends_reopened : (o : Reopening) → IsReopening o → Ends (reopened o)
ends_reopened o is = record {
  inv = inv_first (Found o) is;
  covers = λ p q. grind (arith, nat_tests);
  tied = λ k. grind (arith, nat_tests);
  goes_on = λ p q j. grind (arith, nat_tests);
}

pub ends_first : (o : Origin) → IsOrigin o → Ends (first o)
ends_first (Begun o) is = ends_start o is
ends_first (Found o) is = ends_reopened o is

pub ends_reached : (w : World) → IsReached w → Ends w
ends_reached w r = ends_run r.events (first r.origin) w (ends_first r.origin r.begins) r.run

-- ---- the moments

-- the moment after so many more events
abbrev pub ended_at : ℕ → List Event → ℕ
ended_at now [] = now
ended_at now (e ∷ es) = ended_at (now + 1) es

pub order_run : (es : List Event) (w v : World) (now : ℕ) (since said : ℕ → ℕ) → Ends w → ((k : ℕ) → Order w now since said k) → Run w es v → (k : ℕ) → Order v (ended_at now es) (engaged_from now since es) (said_from now said es) k
order_run [] w v now since said i o r k = subst (λ (x : World). Order x now since said k) (sym r) (o k)
order_run (e ∷ es) w v now since said i o r k =
    order_run es r.0 v (now + 1) (engaged_by (now + 1) e since) (said_by (now + 1) e said) (ends_step e w r.0 i r.1)
    (λ j. order_step e w r.0 now since said j i.inv.counts i.covers i.tied o r.1) r.2 k

-- nobody was engaged yet
pub order_first : (o : Origin) → IsOrigin o → (k : ℕ) → Order (first o) 0 (λ q. 0) (λ q. 0) k
order_first (Begun o) is k = order_start o k
  where
    order_start : (o : Opening) (k : ℕ) → Order (start o) 0 (λ q. 0) (λ q. 0) k
    order_start o k = grind (arith, nat_tests)
order_first (Found o) is k = order_reopened o k
  where
    order_reopened : (o : Reopening) (k : ℕ) → Order (reopened o) 0 (λ q. 0) (λ q. 0) k
    order_reopened o k = grind (arith, nat_tests)

pub order_reached : (o : Origin) (es : List Event) (w : World) → IsOrigin o → Run (first o) es w → (k : ℕ) → Order w (ended_at 0 es) (engaged_from 0 (λ q. 0) es) (said_from 0 (λ q. 0) es) k
order_reached o es w is r k = order_run es (first o) w 0 (λ q. 0) (λ q. 0) (ends_first o is) (order_first o is) r k
