-- No call makes nothing of a fuse, and calls behind others are calls.
use Rattle.std.proofs.Common.{◌≡◌, ◌≢◌, ◌≤◌, ◌⊎◌, ℕ, Bool, true, ◌&&◌, Option, Some, None, List, [], ◌∷◌, inl, inr, refl, ◌∙◌, subst, arith, rules}
use Rattle.std.proofs.lemmas.Bool.{or_cases}
use Rattle.std.proofs.lemmas.Bool.Decides.{nat_tests}
use Rattle.std.specs.List.{list_any}
use Rattle.std.specs.Prelude.{nat_le}
use Rattle.qs_disk.specs.Memory.{raised}
use Rattle.qs_disk.specs.Fuse.{FuseValue, GoesOn, Trips, is_reached}

-- a weaker test
pub any_weaken : (p q : ℕ → Bool) → ((n : ℕ) → p n ≡ true → q n ≡ true) → (xs : List ℕ) → list_any p xs ≡ true → list_any q xs ≡ true
any_weaken p q weak [] any = any
any_weaken p q weak (x ∷ xs) any = elim (or_cases (p x) (list_any p xs) any) [
  | inl here ↦ let h = weak x here in grind arith
  | inr later ↦ let h = any_weaken p q weak xs later in grind arith
]

within_wider : (a b c d n : ℕ) → c ≤ a → b ≤ d → (nat_le (raised a) n && nat_le n b) ≡ true → (nat_le (raised c) n && nat_le n d) ≡ true
within_wider a b c d n from to within = grind (arith, nat_tests)

-- what was reached is reached in a longer stretch
wider : (plan : Option (List ℕ)) (a b c d : ℕ) → c ≤ a → b ≤ d → is_reached plan a b ≡ true → is_reached plan c d ≡ true
wider None a b c d from to reached = reached
wider (Some plan) a b c d from to reached =
    any_weaken (λ n. nat_le (raised a) n && nat_le n b) (λ n. nat_le (raised c) n && nat_le n d) (λ n. within_wider a b c d n from to) plan reached

-- no call
pub goes_nowhere : (f : FuseValue) → GoesOn f f
goes_nowhere f = record { plan = refl; calls = search rules; trips = search rules; tripped = λ other. absurd (other refl); blown = λ blown. inl blown }

trips_longer : (a b c : FuseValue) → GoesOn a b → GoesOn b c → Trips a b → Trips a c
trips_longer a b c first second (inl blown) = inl blown
trips_longer a b c first second (inr reached) = inr (wider a.plan a.calls b.calls a.calls c.calls (omega arith) second.calls reached)

trips_later : (a b c : FuseValue) → GoesOn a b → GoesOn b c → Trips b c → Trips a c
trips_later a b c first second (inl blown) = trips_longer a b c first second (first.blown blown)
trips_later a b c first second (inr reached) =
    inr (wider a.plan b.calls c.calls a.calls c.calls first.calls (omega arith) (subst (λ (plan : Option (List ℕ)). is_reached plan b.calls c.calls ≡ true) first.plan reached))

tripped_either : (a b c : ℕ) → c ≢ a → (b ≢ a) ⊎ (c ≢ b)
tripped_either a b c other = grind arith

-- calls behind others
pub goes_further : (a b c : FuseValue) → GoesOn a b → GoesOn b c → GoesOn a c
goes_further a b c first second = record {
  plan = second.plan ∙ first.plan;
  calls = omega arith;
  trips = omega arith;
  tripped = λ other. elim (tripped_either a.trips b.trips c.trips other) [
    | inl here ↦ trips_longer a b c first second (first.tripped here)
    | inr later ↦ trips_later a b c first second (second.tripped later)
  ];
  blown = λ blown. trips_later a b c first second (second.blown blown);
}
