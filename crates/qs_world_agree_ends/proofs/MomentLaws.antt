-- Engagers come first, and lead to the home.
use Rattle.std.proofs.Common.{◌≡◌, ◌≢◌, ◌⊎◌, ℕ, ◌+◌, ◌<◌, ◌≤◌, Bool, inl, inr, zero, suc, true, false, List, [], ◌∷◌, length, refl, sym, subst, ap, ◌∙◌, arith}
use Rattle.std.proofs.lemmas.Bool.{cases_eq}
use Rattle.qs_world_agree.specs.World.{World}
use Rattle.qs_world_agree.specs.Origins.{Origin, IsOrigin, first}
use Rattle.qs_world_agree.specs.Step.{Event}
use Rattle.qs_world_agree.specs.Laws.{Run}
use Rattle.qs_world_agree_ends.specs.Moments.{engaged_at, yes_at, IsAfter, EngagersComeFirst, up_from, OwedComesLater, LeadsHome, EngagersLeadHome}
use Rattle.qs_world_agree_ends.proofs.Ends.{Ends, ends_first, ends_run, ended_at, order_reached}
use Rattle.qs_world_agree_ends.proofs.Order.{Order}

either : (b : Bool) → (b ≡ true) ⊎ (b ≡ false)
either true = inl refl
either false = inr refl

pub engagers_come_first : EngagersComeFirst
engagers_come_first o es w k is r some = record {
  away = h.away some;
  superior = h.superior some;
  known = subst (λ (m : ℕ). w.engager k ≤ w.peer k m) (sym (h.superior some)) ((i.covers (w.engager k) k).met (h.took some));
  took = h.took some;
  drew = drew;
  involved = (i.inv.involved (w.engager k) (w.node k)).sender drew;
  was = h.was some;
  engaged = λ on above. ((i.tied k).above on other above, h.earlier on other above);
  released = λ off away. released off away (either (w.engaged (w.engager k)));
  said = λ off. h.left some off;
}
  where
    i : Ends w
    i = ends_run es (first o) w (ends_first o is) r

    h : Order w (ended_at 0 es) (engaged_at es) (yes_at es) k
    h = order_reached o es w is r k

    other : k ≢ w.home
    other at = h.away some (ap w.node at)

    drew_by : (a b d e : ℕ) → 1 ≤ a → a ≤ b → b ≤ d → d ≤ e → 1 ≤ e
    drew_by a b d e x y z u = omega (arith, x, y, z, u)

    drew : 1 ≤ w.sent (w.engager k) (w.node k)
    drew = drew_by (w.last k (w.engager k)) (w.received k (w.engager k)) (w.posted (w.engager k) k) (w.sent (w.engager k) (w.node k)) (h.took some) (i.inv.counts.last_received k (w.engager k)) (i.inv.counts.received_posted k (w.engager k)) (i.inv.counts.posted_sent (w.engager k) k)

    released : w.engaged k ≡ false → w.engager k ≢ w.home → (w.engaged (w.engager k) ≡ true) ⊎ (w.engaged (w.engager k) ≡ false) → (w.engaged (w.engager k) ≡ true) ⊎ (yes_at es k < yes_at es (w.engager k))
    released off away (inl on) = inl on
    released off away (inr none) = inr (h.later some off away none)

-- moments are of the run
pub ended_length : (es : List Event) (now : ℕ) → ended_at now es ≡ now + length es
ended_length [] now = omega arith
ended_length (e ∷ es) now = let more : ended_at (now + 1) es ≡ now + 1 + length es = ended_length es (now + 1) in omega (arith, more)

pub owed_comes_later : OwedComesLater
owed_comes_later o es w p q j is r up above owed = (same, earlier (cases_eq (w.engager q) w.home), past)
  where
    i : Ends w
    i = ends_run es (first o) w (ends_first o is) r

    h : (k : ℕ) → Order w (ended_at 0 es) (engaged_at es) (yes_at es) k
    h = order_reached o es w is r

    node : w.node (w.engager q) ≡ w.node p
    node = sym ((i.tied q).superior owed.engaged owed.other) ∙ owed.superior

    same : w.engager q ≡ p
    same = sym (i.inv.counts.up_present (w.engager q) above) ∙ ap w.present node ∙ i.inv.counts.up_present p up

    some : 1 ≤ engaged_at es q
    some = (h q).is_in owed.engaged owed.other

    none : (n : ℕ) → (1 ≤ n → ⊥) → n ≡ 0
    none zero never = refl
    none (suc n) never = absurd (never (omega arith))

    earlier : (w.engager q ≡ w.home) ⊎ (w.engager q ≢ w.home) → engaged_at es p < engaged_at es q
    earlier (inl at) = let zero_at : engaged_at es w.home ≡ 0 = none (engaged_at es w.home) (λ one. (h w.home).away one refl) in subst (λ (k : ℕ). engaged_at es k < engaged_at es q) same (rw at (omega (arith, zero_at, some)))
    earlier (inr away) = subst (λ (k : ℕ). engaged_at es k < engaged_at es q) same ((h q).earlier owed.engaged owed.other away)

    past : engaged_at es q ≤ length es
    past = omega (arith, (h q).since_past, ended_length es 0)

module _ (o : Origin) (es : List Event) (w : World) (is : IsOrigin o) (r : Run (first o) es w) where
  -- at the home
  abbrev at_home : (k : ℕ) → k ≡ w.home → LeadsHome es w k
  at_home k at = record { steps = 0; ends = at; along = λ i below. absurd (omega (arith, below)); engaged = λ on i below. absurd (omega (arith, below)) }

  -- one engager more
  further : (k : ℕ) → 1 ≤ engaged_at es k → (l : LeadsHome es w (w.engager k)) → (w.engaged k ≡ true → (l.steps ≡ 0) ⊎ (w.engaged (w.engager k) ≡ true)) → LeadsHome es w k
  further k some l above = record { steps = suc l.steps; ends = l.ends; along = along; engaged = engaged }
    where
      along : (i : ℕ) → i < suc l.steps → 1 ≤ engaged_at es (up_from w i k)
      along zero below = some
      along (suc i) below = l.along i (omega (arith, below))

      engaged : w.engaged k ≡ true → (i : ℕ) → i < suc l.steps → w.engaged (up_from w i k) ≡ true
      engaged on zero below = on
      engaged on (suc i) below = elim (above on) [
        | inl none ↦ absurd (omega (arith, below, none))
        | inr up ↦ l.engaged up i (omega (arith, below))
      ]

  -- one step to the home
  last : (k : ℕ) → 1 ≤ engaged_at es k → w.engager k ≡ w.home → LeadsHome es w k
  last k some at = further k some (at_home (w.engager k) at) (λ on. inl refl)

  -- one step to a place that is engaged, or from one that is not
  under : (k : ℕ) → 1 ≤ engaged_at es k → LeadsHome es w (w.engager k) → w.engaged (w.engager k) ≡ true → LeadsHome es w k
  under k some l on = further k some l (λ was. inr on)

  beside : (k : ℕ) → 1 ≤ engaged_at es k → LeadsHome es w (w.engager k) → w.engaged k ≡ false → LeadsHome es w k
  beside k some l off = further k some l (λ on. absurd (cc (on, off)))

  after : (k : ℕ) → 1 ≤ engaged_at es k → IsAfter es w k
  after k some = engagers_come_first o es w k is r some

  -- from who is engaged, as moments go back
  engaged_leads : (n k : ℕ) → engaged_at es k ≤ n → 1 ≤ engaged_at es k → w.engaged k ≡ true → LeadsHome es w k
  engaged_leads zero k bound some on = absurd (omega (arith, bound, some))
  engaged_leads (suc n) k bound some on = elim (cases_eq (w.engager k) w.home) [
    | inl at ↦ last k some at
    | inr away ↦
        let e = (after k some).engaged on away in
        under k some (engaged_leads n (w.engager k) (omega (arith, bound, e.1)) ((after k some).was away) e.0) e.0
  ]

  -- from who is not, as moments go on
  later : (k : ℕ) → 1 ≤ engaged_at es k → w.engaged k ≡ false → w.engager k ≢ w.home → w.engaged (w.engager k) ≡ false → yes_at es k < yes_at es (w.engager k)
  later k some off away none = (order_reached o es w is r k).later some off away none

  past : (k : ℕ) → yes_at es k ≤ ended_at 0 es
  past k = (order_reached o es w is r k).said_past

  released_leads : (n k : ℕ) → ended_at 0 es ≤ yes_at es k + n → 1 ≤ engaged_at es k → w.engaged k ≡ false → LeadsHome es w k
  released_leads zero k bound some off = elim (cases_eq (w.engager k) w.home) [
    | inl at ↦ last k some at
    | inr away ↦ elim (either (w.engaged (w.engager k))) [
      | inl on ↦ under k some (engaged_leads (engaged_at es (w.engager k)) (w.engager k) (omega arith) ((after k some).was away) on) on
      | inr none ↦ absurd (omega (arith, bound, later k some off away none, past (w.engager k)))
    ]
  ]
  released_leads (suc n) k bound some off = elim (cases_eq (w.engager k) w.home) [
    | inl at ↦ last k some at
    | inr away ↦ elim (either (w.engaged (w.engager k))) [
      | inl on ↦ under k some (engaged_leads (engaged_at es (w.engager k)) (w.engager k) (omega arith) ((after k some).was away) on) on
      | inr none ↦ beside k some (released_leads n (w.engager k) (omega (arith, bound, later k some off away none)) ((after k some).was away) none) off
    ]
  ]

  pub leads : (k : ℕ) → 1 ≤ engaged_at es k → LeadsHome es w k
  leads k some = elim (either (w.engaged k)) [
    | inl on ↦ engaged_leads (engaged_at es k) k (omega arith) some on
    | inr off ↦ released_leads (ended_at 0 es) k (omega arith) some off
  ]

pub engagers_lead_home : EngagersLeadHome
engagers_lead_home o es w k is r some = leads o es w is r k some
