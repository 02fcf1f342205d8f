-- Visits one after the other, and rounds of them, whatever is visited.
use Rattle.std.specs.Prelude.{◌≡◌, ◌⊎◌, ℕ, zero, suc, Bool, false, ◌||◌, List, [], ◌∷◌}
use Rattle.rand_pcg.specs.Lcg.{Lcg}

-- what the visit of the actor at a place is, and whether anything was done in it
abbrev pub Visit : Type 0 → Type 1
Visit S = ℕ → S → S → Bool → Type 0

-- in the order of these places; something was done where it was in one of them
abbrev pub AllVisits : {S : Type 0} → Visit S → List ℕ → S → S → Bool → Type 0
AllVisits At [] old new did = (new ≡ old) × (did ≡ false)
AllVisits {S} At (place ∷ places) old new did =
    (mid : S) × ((first : Bool) × ((more : Bool) × (At place old mid first × (AllVisits At places mid new more × (did ≡ (first || more))))))

-- those before a place were visited, and this came of the visit there
abbrev pub VisitsUpTo : {S : Type 0} → Visit S → (ℕ → S → S → Type 0) → List ℕ → S → S → Type 0
VisitsUpTo At Comes [] old new = ⊥
VisitsUpTo {S} At Comes (place ∷ places) old new =
    Comes place old new ⊎ ((mid : S) × ((did : Bool) × (At place old mid did × VisitsUpTo At Comes places mid new)))

-- so many rounds of so many actors, in orders that are drawn so, one after the other
abbrev pub RoundsBy : {S : Type 0} → (ℕ → Lcg → List ℕ × Lcg) → (S → ℕ) → (List ℕ → S → S → Bool → Type 0) → Lcg → ℕ → S → S → Lcg → Type 0
RoundsBy draw count Is rng zero old new later = (new ≡ old) × (later ≡ rng)
RoundsBy {S} draw count Is rng (suc n) old new later =
    (mid : S) × ((quiet : Bool) × (Is (draw (count old) rng).0 old mid quiet × RoundsBy draw count Is (draw (count old) rng).1 n mid new later))
