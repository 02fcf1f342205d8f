-- What becomes of moments as a run goes on.
use Rattle.std.proofs.Common.{◌≡◌, ◌⊎◌, ◌∙◌, ℕ, ◌+◌, ◌==◌, ◌<◌, Bool, inl, inr, true, false, List, [], ◌∷◌, ◌++◌, length, refl, sym, subst, ap, arith, if◌then◌else◌}
use Rattle.std.proofs.lemmas.Bool.{eqb-true}
use Rattle.qs_world_agree.specs.World.{with_at}
use Rattle.qs_world_agree.specs.Origins.{first}
use Rattle.qs_world_agree.specs.Step.{Event, Engage, Drop_engage, Yes, Yes_lost, Restart_in_doubt}
use Rattle.qs_world_agree.specs.Events.{Happens}
use Rattle.qs_world_agree_ends.specs.Moments.{engaged_by, said_by, engaged_from, said_from, EngagedGoesOn, SaidGoesOn}
use Rattle.qs_world_agree_ends.specs.Waiting.{risen_by, risen_from, RisenGoesOn}
use Rattle.qs_world_agree_ends.proofs.Ends.{ended_at}
use Rattle.qs_world_agree_ends.proofs.MomentLaws.{ended_length}

either : (b : Bool) → (b ≡ true) ⊎ (b ≡ false)
either true = inl refl
either false = inr refl

-- a function with the value at one place changed
changed : {A : Type 0} (f : ℕ → A) (n : ℕ) (x : A) (m : ℕ) → ((m ≡ n) × (with_at f n x m ≡ x)) ⊎ (with_at f n x m ≡ f m)
changed f n x m = elim (either (m == n)) [
  | inl is ↦ inl (eqb-true m n is, ap (λ (b : Bool). if b then x else f m) is)
  | inr other ↦ inr (ap (λ (b : Bool). if b then x else f m) other)
]

-- ---- one event

abbrev EngagesIt : Event → ℕ → Type 0
EngagesIt e k = (p : ℕ) × ((e ≡ Engage k p) ⊎ (e ≡ Drop_engage k p))

engaged_step : (e : Event) (now : ℕ) (since : ℕ → ℕ) (k : ℕ) → (engaged_by now e since k ≡ since k) ⊎ ((engaged_by now e since k ≡ now) × EngagesIt e k)
engaged_step (Engage q p) now since k = elim (changed since q now k) [
  | inl it ↦ inr (it.1, (p, inl (ap (λ (n : ℕ). Engage n p) (sym it.0))))
  | inr same ↦ inl same
]
engaged_step (Drop_engage q p) now since k = elim (changed since q now k) [
  | inl it ↦ inr (it.1, (p, inr (ap (λ (n : ℕ). Drop_engage n p) (sym it.0))))
  | inr same ↦ inl same
]
engaged_step e now since k = inl refl

abbrev SaysIt : Event → ℕ → Type 0
SaysIt e k = (e ≡ Yes k) ⊎ (e ≡ Yes_lost k)

said_step : (e : Event) (now : ℕ) (said : ℕ → ℕ) (k : ℕ) → (said_by now e said k ≡ said k) ⊎ ((said_by now e said k ≡ now) × SaysIt e k)
said_step (Yes q) now said k = elim (changed said q now k) [
  | inl it ↦ inr (it.1, inl (ap (λ (n : ℕ). Yes n) (sym it.0)))
  | inr same ↦ inl same
]
said_step (Yes_lost q) now said k = elim (changed said q now k) [
  | inl it ↦ inr (it.1, inr (ap (λ (n : ℕ). Yes_lost n) (sym it.0)))
  | inr same ↦ inl same
]
said_step e now said k = inl refl

risen_step : (e : Event) (risen : ℕ → Bool) (k : ℕ) → risen_by e risen k ≡ true → (risen k ≡ true) ⊎ ((s : ℕ) × (e ≡ Restart_in_doubt k s))
risen_step (Restart_in_doubt q s) risen k is = elim (changed risen q true k) [
  | inl it ↦ inr (s, ap (λ (n : ℕ). Restart_in_doubt n s) (sym it.0))
  | inr same ↦ inl (sym same ∙ is)
]
risen_step e risen k is = inl is

-- ---- more of them

abbrev EngagedIn : List Event → ℕ → Type 0
EngagedIn es k = (p : ℕ) × (Happens es (Engage k p) ⊎ Happens es (Drop_engage k p))

engaged_more : (es : List Event) (now : ℕ) (since : ℕ → ℕ) (k : ℕ) → (engaged_from now since es k ≡ since k) ⊎ ((now < engaged_from now since es k) × EngagedIn es k)
engaged_more [] now since k = inl refl
engaged_more (e ∷ es) now since k = elim (engaged_more es (now + 1) (engaged_by (now + 1) e since) k) [
  | inl same ↦ elim (engaged_step e (now + 1) since k) [
    | inl kept ↦ inl (same ∙ kept)
    | inr new ↦ inr (above (engaged_from (now + 1) (engaged_by (now + 1) e since) es k) (same ∙ new.0), at_once new.1)
  ]
  | inr later ↦ inr (more (engaged_from (now + 1) (engaged_by (now + 1) e since) es k) later.0, after later.1)
]
  where
    above : (moment : ℕ) → moment ≡ now + 1 → now < moment
    above moment is = omega (arith, is)

    more : (moment : ℕ) → now + 1 < moment → now < moment
    more moment less = omega (arith, less)

    at_once : EngagesIt e k → EngagedIn (e ∷ es) k
    at_once it = (it.0, elim it.1 [ inl is ↦ inl (inl is) | inr is ↦ inr (inl is) ])

    after : EngagedIn es k → EngagedIn (e ∷ es) k
    after it = (it.0, elim it.1 [ inl has ↦ inl (inr has) | inr has ↦ inr (inr has) ])

engaged_append : (es fs : List Event) (now : ℕ) (since : ℕ → ℕ) → engaged_from now since (es ++ fs) ≡ engaged_from (ended_at now es) (engaged_from now since es) fs
engaged_append [] fs now since = refl
engaged_append (e ∷ es) fs now since = engaged_append es fs (now + 1) (engaged_by (now + 1) e since)

abbrev SaidIn : List Event → ℕ → Type 0
SaidIn es k = Happens es (Yes k) ⊎ Happens es (Yes_lost k)

said_more : (es : List Event) (now : ℕ) (said : ℕ → ℕ) (k : ℕ) → (said_from now said es k ≡ said k) ⊎ ((now < said_from now said es k) × SaidIn es k)
said_more [] now said k = inl refl
said_more (e ∷ es) now said k = elim (said_more es (now + 1) (said_by (now + 1) e said) k) [
  | inl same ↦ elim (said_step e (now + 1) said k) [
    | inl kept ↦ inl (same ∙ kept)
    | inr new ↦ inr (above (said_from (now + 1) (said_by (now + 1) e said) es k) (same ∙ new.0), at_once new.1)
  ]
  | inr later ↦ inr (more (said_from (now + 1) (said_by (now + 1) e said) es k) later.0, after later.1)
]
  where
    above : (moment : ℕ) → moment ≡ now + 1 → now < moment
    above moment is = omega (arith, is)

    more : (moment : ℕ) → now + 1 < moment → now < moment
    more moment less = omega (arith, less)

    at_once : SaysIt e k → SaidIn (e ∷ es) k
    at_once it = elim it [ inl is ↦ inl (inl is) | inr is ↦ inr (inl is) ]

    after : SaidIn es k → SaidIn (e ∷ es) k
    after it = elim it [ inl has ↦ inl (inr has) | inr has ↦ inr (inr has) ]

said_append : (es fs : List Event) (now : ℕ) (said : ℕ → ℕ) → said_from now said (es ++ fs) ≡ said_from (ended_at now es) (said_from now said es) fs
said_append [] fs now said = refl
said_append (e ∷ es) fs now said = said_append es fs (now + 1) (said_by (now + 1) e said)

risen_more : (es : List Event) (risen : ℕ → Bool) (k : ℕ) → risen_from risen es k ≡ true → (risen k ≡ true) ⊎ ((s : ℕ) × Happens es (Restart_in_doubt k s))
risen_more [] risen k is = inl is
risen_more (e ∷ es) risen k is = elim (risen_more es (risen_by e risen) k is) [
  | inl before ↦ elim (risen_step e risen k before) [
    | inl kept ↦ inl kept
    | inr new ↦ inr (new.0, inl new.1)
  ]
  | inr later ↦ inr (later.0, inr later.1)
]

risen_append : (es fs : List Event) (risen : ℕ → Bool) → risen_from risen (es ++ fs) ≡ risen_from (risen_from risen es) fs
risen_append [] fs risen = refl
risen_append (e ∷ es) fs risen = risen_append es fs (risen_by e risen)

-- ---- from one moment of a run to a later one

-- the moments of the first part end with its length
ended : (es : List Event) → ended_at 0 es ≡ length es
ended es = let all : ended_at 0 es ≡ 0 + length es = ended_length es 0 in omega (arith, all)

pub engaged_goes_on : EngagedGoesOn
engaged_goes_on before after k =
    subst (λ (f : ℕ → ℕ). (f k ≡ engaged_from 0 (λ q. 0) before k) ⊎ ((length before < f k) × EngagedIn after k)) (sym (engaged_append before after 0 (λ q. 0)))
    (subst (λ (n : ℕ). (engaged_from (ended_at 0 before) (engaged_from 0 (λ q. 0) before) after k ≡ engaged_from 0 (λ q. 0) before k) ⊎ ((n < engaged_from (ended_at 0 before) (engaged_from 0 (λ q. 0) before) after k) × EngagedIn after k)) (ended before)
    (engaged_more after (ended_at 0 before) (engaged_from 0 (λ q. 0) before) k))

pub said_goes_on : SaidGoesOn
said_goes_on before after k =
    subst (λ (f : ℕ → ℕ). (f k ≡ said_from 0 (λ q. 0) before k) ⊎ ((length before < f k) × SaidIn after k)) (sym (said_append before after 0 (λ q. 0)))
    (subst (λ (n : ℕ). (said_from (ended_at 0 before) (said_from 0 (λ q. 0) before) after k ≡ said_from 0 (λ q. 0) before k) ⊎ ((n < said_from (ended_at 0 before) (said_from 0 (λ q. 0) before) after k) × SaidIn after k)) (ended before)
    (said_more after (ended_at 0 before) (said_from 0 (λ q. 0) before) k))

pub risen_goes_on : RisenGoesOn
risen_goes_on o before after k is = risen_more after (risen_from (first o).involved before) k (ap (λ (f : ℕ → Bool). f k) (sym (risen_append before after (first o).involved)) ∙ is)
