-- The order in which the actors of a run are visited in a round: drawn anew for each round from the seed of the run.
use Rattle.std.specs.Prelude.{ℕ, zero, suc, ◌+◌, ◌-◌, ◌%◌, List, [], ◌∷◌, ◌++◌}
use Rattle.std.specs.List.{swap}
use Rattle.rand_pcg.specs.Lcg.{Lcg, started, increment_of}
use Rattle.rand_pcg.specs.Pcg.{multiplier_64, pcg32}

-- the generator of a seed, in its first stream
abbrev pub seeded : ℕ → Lcg
seeded seed = started 64 multiplier_64 seed (increment_of 64 0)

-- from place i down to place 1 each changes places with one that is drawn from it and those before it
unfoldable pub shuffled : ℕ → Lcg → List ℕ → List ℕ × Lcg
shuffled zero rng places = (places, rng)
shuffled (suc i) rng places = shuffled i (pcg32 rng).1 (swap places (suc i) ((pcg32 rng).0 % (suc i + 1)))

-- the places below a number, in order
abbrev pub places_below : ℕ → List ℕ
places_below zero = []
places_below (suc n) = places_below n ++ n ∷ []

-- the places of so many actors in the order of their visits, and the generator for the next round
abbrev pub drawn_order : ℕ → Lcg → List ℕ × Lcg
drawn_order count rng = shuffled (count - 1) rng (places_below count)
