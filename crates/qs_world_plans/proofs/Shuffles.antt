-- A shuffle goes on by one place, and is done at place 0.
use Rattle.std.proofs.Common.{◌≡◌, ℕ, suc, zero, ◌+◌, ◌%◌, List, refl}
use Rattle.std.specs.List.{swap}
use Rattle.rand_pcg.specs.Lcg.{Lcg}
use Rattle.rand_pcg.specs.Pcg.{pcg32}
use Rattle.qs_world_plans.specs.Order.{shuffled}

pub drawn_on : (k last : ℕ) (rng later : Lcg) (ps qs : List ℕ) → last ≡ suc k → later ≡ (pcg32 rng).1
    → qs ≡ swap ps last ((pcg32 rng).0 % (last + 1)) → shuffled k later qs ≡ shuffled last rng ps
unfolding shuffled
drawn_on k last rng later ps qs is_last stepped swapped = rw stepped (rw swapped (rw is_last refl))

pub ended : (k : ℕ) (rng : Lcg) (ps : List ℕ) → k ≡ zero → (ps, rng) ≡ shuffled k rng ps
unfolding shuffled
ended k rng ps is_zero = rw is_zero refl
