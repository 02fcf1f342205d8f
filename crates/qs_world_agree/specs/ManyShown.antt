-- Each act of the world of many transactions is a list of the machine's events for each of them. (An impl takes its laws from specs/, where no tactic runs, or from the proofs of a crate below.)
use Rattle.std.specs.Prelude.{◌≡◌, ◌⊎◌, ℕ, ◌==◌, Bool, true, false, [], ◌∷◌, refl, if◌then◌else◌}
use Rattle.std.proofs.Common.{inl, inr, ◌∙◌, sym, subst, ap}
use Rattle.std.proofs.lemmas.Bool.{eqb-true}
use Rattle.qs_world_agree.specs.World.{World, start, with_at}
use Rattle.qs_world_agree.specs.Origins.{Begun}
use Rattle.qs_world_agree.specs.Step.{Step}
use Rattle.qs_world_agree.specs.Carry.{Leads, IsLawful, Begins, GoesOn}
use Rattle.qs_world_agree.specs.Many.{Many, Act, Begin, Own, Common, opening, Does, unbegun, Shows}

either : (b : Bool) → (b ≡ true) ⊎ (b ≡ false)
either true = inl refl
either false = inr refl

abbrev fact : Bool → Type 0
fact true = Unit {0}
fact false = ⊥

clash : (b : Bool) → b ≡ true → b ≡ false → ⊥
clash b on off = subst (λ (x : Bool). fact x) (sym on ∙ off) tt

at_same : {A : Type 0} (f : ℕ → A) (n : ℕ) (x : A) (m : ℕ) → (m == n) ≡ true → with_at f n x m ≡ x
at_same f n x m is = ap (λ (b : Bool). if b then x else f m) is

at_other : {A : Type 0} (f : ℕ → A) (n : ℕ) (x : A) (m : ℕ) → (m == n) ≡ false → with_at f n x m ≡ f m
at_other f n x m other = ap (λ (b : Bool). if b then x else f m) other

stays : (w : World) → Leads w w
stays w = record { events = []; run = refl }

pub begins : (t : ℕ) (a : Act) (old new : Many) → unbegun t old → Does a old new → Begins unbegun Shows t new
begins t (Begin u h) old new none did = elim (either (t == u)) [
  | inl is ↦
      let shows : Shows t (record old { began = with_at old.began u true; of = with_at old.of u (start (opening old h)) }) (start (opening old h)) = (at_same old.began u true t is, at_same old.of u (start (opening old h)) t is) in
      inr (Begun (opening old h), did.1, (start (opening old h), stays (start (opening old h)), subst (λ (m : Many). Shows t m (start (opening old h))) (sym did.2) shows))
  | inr other ↦ inl (subst (λ (m : Many). unbegun t m) (sym did.2) (at_other old.began u true t other ∙ none))
]
begins t (Own u e) old new none did = inl (subst (λ (m : Many). unbegun t m) (sym did.1.3) none)
begins t Common old new none did = inl (ap (λ (f : ℕ → Bool). f t) did.0 ∙ none)

pub goes_on : (t : ℕ) (a : Act) (old new : Many) (w : World) → IsLawful w → Shows t old w → Does a old new → GoesOn Shows t new w
goes_on t (Begin u h) old new w is shown did = elim (either (t == u)) [
  | inl same ↦ absurd (clash (old.began t) shown.0 (ap old.began (eqb-true t u same) ∙ did.0))
  | inr other ↦
      let shows : Shows t (record old { began = with_at old.began u true; of = with_at old.of u (start (opening old h)) }) w = (at_other old.began u true t other ∙ shown.0, at_other old.of u (start (opening old h)) t other ∙ shown.1) in
      (w, stays w, subst (λ (m : Many). Shows t m w) (sym did.2) shows)
]
goes_on t (Own u e) old new w is shown did = elim (either (t == u)) [
  | inl same ↦
      let next : World = did.1.0 in
      let step : Step e w next = subst (λ (x : World). Step e x next) (ap old.of (sym (eqb-true t u same)) ∙ shown.1) did.1.1 in
      let shows : Shows t (record old { of = with_at old.of u next }) next = (shown.0, at_same old.of u next t same) in
      (next, record { events = e ∷ []; run = (next, step, refl) }, subst (λ (m : Many). Shows t m next) (sym did.1.3) shows)
  | inr other ↦
      let next : World = did.1.0 in
      let shows : Shows t (record old { of = with_at old.of u next }) w = (shown.0, at_other old.of u next t other ∙ shown.1) in
      (w, stays w, subst (λ (m : Many). Shows t m w) (sym did.1.3) shows)
]
goes_on t Common old new w is shown did =
    let leads : Leads (old.of t) (new.of t) = (did.1 t shown.0).0 in
    (new.of t, subst (λ (x : World). Leads x (new.of t)) shown.1 leads, (ap (λ (f : ℕ → Bool). f t) did.0 ∙ shown.0, refl))
