-- Who awaits word was engaged, and stands behind a place that does not.
use Rattle.std.proofs.Common.{◌≡◌, ◌≢◌, ◌⊎◌, ℕ, ◌+◌, ◌<◌, ◌≤◌, Bool, inl, inr, zero, suc, true, false, List, [], ◌∷◌, refl, sym, subst, ap, arith}
use Rattle.qs_world_agree.specs.World.{Outcome, Open, Committed, Aborted, World}
use Rattle.qs_world_agree.specs.Origins.{Origin, IsOrigin, first}
use Rattle.qs_world_agree.specs.Step.{Event}
use Rattle.qs_world_agree.specs.Laws.{Run}
use Rattle.qs_world_agree_ends.specs.Moments.{engaged_by, said_by, engaged_from, engaged_at, IsAfter, up_from, LeadsHome}
use Rattle.qs_world_agree_ends.specs.Waiting.{risen_by, risen_from, rose_in_doubt, InvolvedWasEngaged, AwaitsWord, IsBehind, AwaitsBehind}
use Rattle.qs_world_agree_ends.proofs.Ends.{Ends, ends_first, ends_step, order_first, order_reached}
use Rattle.qs_world_agree_ends.proofs.MomentLaws.{engagers_come_first, leads}
use Rattle.qs_world_agree_ends.proofs.Order.{Order}
use Rattle.qs_world_agree_ends.proofs.OrderTable.{order_step}
use Rattle.qs_world_agree_ends.proofs.Part.{Part}
use Rattle.qs_world_agree_ends.proofs.PartTable.{part_step}

-- over a run
part_run : (es : List Event) (w v : World) (now : ℕ) (since said : ℕ → ℕ) (risen : ℕ → Bool) → Ends w → ((k : ℕ) → Order w now since said k) → ((k : ℕ) → Part w since risen k) → Run w es v → (k : ℕ) → Part v (engaged_from now since es) (risen_from risen es) k
part_run [] w v now since said risen i o h r k = subst (λ (x : World). Part x since risen k) (sym r) (h k)
part_run (e ∷ es) w v now since said risen i o h r k =
    part_run es r.0 v (now + 1) (engaged_by (now + 1) e since) (said_by (now + 1) e said) (risen_by e risen) (ends_step e w r.0 i r.1)
    (λ j. order_step e w r.0 now since said j i.inv.counts i.covers i.tied o r.1)
    (λ j. part_step e w r.0 now since said risen j i.inv.servers i.tied o (h j) r.1) r.2 k

pub involved_was_engaged : InvolvedWasEngaged
involved_was_engaged o es w k is r part other =
    (part_run es (first o) w 0 (λ q. 0) (λ q. 0) (first o).involved (ends_first o is) (order_first o is) (λ j. record { part = λ on away. inr on }) r k).part part other

-- ---- who awaits word

is_open : (o : Outcome) → (o ≡ Open) ⊎ (o ≢ Open)
is_open Open = inl refl
is_open Committed = inr (λ e. cc)
is_open Aborted = inr (λ e. cc)

either : (b : Bool) → (b ≡ true) ⊎ (b ≡ false)
either true = inl refl
either false = inr refl

module _ (o : Origin) (es : List Event) (w : World) (is : IsOrigin o) (r : Run (first o) es w) where
  after : (k : ℕ) → 1 ≤ engaged_at es k → IsAfter es w k
  after k some = engagers_come_first o es w k is r some

  -- one place more
  further : (k : ℕ) → 1 ≤ engaged_at es k → AwaitsWord w k → IsBehind es w (w.engager k) → IsBehind es w k
  further k some awaits b = record { steps = suc b.steps; ends = b.ends; along = along; after = so }
    where
      along : (i : ℕ) → i < suc b.steps → AwaitsWord w (up_from w i k)
      along zero below = awaits
      along (suc i) below = b.along i (omega (arith, below))

      so : (i : ℕ) → i < suc b.steps → IsAfter es w (up_from w i k)
      so zero below = after k some
      so (suc i) below = b.after i (omega (arith, below))

  -- a place where it ends
  stop : (k : ℕ) → (k ≡ w.home) ⊎ ((w.up k ≡ false) ⊎ (w.outcome k ≢ Open)) → IsBehind es w k
  stop k ends = record { steps = 0; ends = ends; along = λ i below. absurd (omega (arith, below)); after = λ i below. absurd (omega (arith, below)) }

  -- up the engagers
  climb : (n k : ℕ) → up_from w n k ≡ w.home → ((i : ℕ) → i < n → 1 ≤ engaged_at es (up_from w i k)) → (w.involved k ≡ true) ⊎ (w.engaged k ≡ true) → IsBehind es w k
  climb zero k at along part = stop k (inl at)
  climb (suc n) k at along part =
      let some : 1 ≤ engaged_at es k = along zero (omega arith) in
      elim (either (w.up k)) [
        | inr down ↦ stop k (inr (inl down))
        | inl on ↦ elim (is_open (w.outcome k)) [
          | inr known ↦ stop k (inr (inr known))
          | inl unknown ↦
              let awaits : AwaitsWord w k = record { runs = on; away = (after k some).away; unknown = unknown; part = part } in
              further k some awaits (climb n (w.engager k) at (λ i below. along (suc i) (omega (arith, below))) (inl (after k some).involved))
        ]
      ]

  -- from who was engaged and awaits word
  pub behind : (k : ℕ) → 1 ≤ engaged_at es k → AwaitsWord w k → IsBehind es w k
  behind k some awaits = let l : LeadsHome es w k = leads o es w is r k some in climb l.steps k l.ends l.along awaits.part

pub awaits_behind : AwaitsBehind
awaits_behind o es w k is r awaits = by awaits.part
  where
    other : k ≢ w.home
    other at = awaits.away (ap w.node at)

    or_rose : (1 ≤ engaged_at es k) ⊎ (rose_in_doubt o es k ≡ true) → (rose_in_doubt o es k ≡ true) ⊎ IsBehind es w k
    or_rose (inl some) = inr (behind o es w is r k some awaits)
    or_rose (inr rose) = inl rose

    by : (w.involved k ≡ true) ⊎ (w.engaged k ≡ true) → (rose_in_doubt o es k ≡ true) ⊎ IsBehind es w k
    by (inl part) = or_rose (involved_was_engaged o es w k is r part other)
    by (inr on) = inr (behind o es w is r k ((order_reached o es w is r k).is_in on other) awaits)
