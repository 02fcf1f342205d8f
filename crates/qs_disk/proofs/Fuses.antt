-- What a call makes of a fuse.
use Rattle.std.proofs.Common.{◌≡◌, ◌≢◌, ◌<◌, ◌^◌, ℕ, Bool, true, ◌&&◌, Option, Some, None, List, inl, inr, refl, arith, rules}
use Rattle.std.proofs.lemmas.Bool.{or_cases}
use Rattle.std.proofs.lemmas.Bool.Decides.{nat_tests}
use Rattle.std.specs.Prelude.{nat_le, ◌==◌}
use Rattle.qs_disk.specs.Memory.{raised}
use Rattle.qs_disk.specs.Fuse.{FuseValue, GoesOn, Trips, is_planned, is_reached, after_call, mended, stops}
use Rattle.qs_disk.specs.FuseLaws.{any_weaken}

at_is_within : (a n : ℕ) → (n == raised a) ≡ true → (nat_le (raised a) n && nat_le n (raised a)) ≡ true
at_is_within a n at = grind (arith, nat_tests)

-- a call that is planned is reached
planned_reached : (plan : Option (List ℕ)) (calls : ℕ) → is_planned plan (raised calls) ≡ true → is_reached plan calls (raised calls) ≡ true
planned_reached None calls planned = planned
planned_reached (Some plan) calls planned = any_weaken (λ n. n == raised calls) (λ n. nat_le (raised calls) n && nat_le n (raised calls)) (λ n. at_is_within calls n) plan planned

stops_trips : (f : FuseValue) → stops f ≡ true → Trips f (after_call f)
stops_trips f here = elim (or_cases f.blown (is_planned f.plan (raised f.calls)) here) [
  | inl blown ↦ inl blown
  | inr planned ↦ inr (planned_reached f.plan f.calls planned)
]

unless_stopped : (f : FuseValue) → (after_call f).trips ≢ f.trips → stops f ≡ true
unless_stopped f other = grind arith

-- a read, a write or a sync
pub goes_by_call : (f : FuseValue) → f.calls < 2 ^ 64 → f.trips < 2 ^ 64 → GoesOn f (after_call f)
goes_by_call f calls trips = record {
  plan = refl;
  calls = omega arith;
  trips = grind arith;
  tripped = λ other. stops_trips f (unless_stopped f other);
  blown = stops_trips f;
}

-- a power cut
pub goes_mended : (f : FuseValue) → GoesOn f (mended f)
goes_mended f = record { plan = refl; calls = search rules; trips = search rules; tripped = λ other. absurd (other refl); blown = λ blown. absurd (search rules) }
