-- A function of two nodes and two incarnations that is changed at one place has the new value there, and the old ones elsewhere.
use Rattle.std.proofs.Common.{◌≡◌, ◌≢◌, ◌⊎◌, ℕ, ◌==◌, arith, inl, inr, if◌then◌else◌}
use Rattle.std.proofs.lemmas.Bool.{cases_eq}
use Rattle.std.proofs.lemmas.Bool.Decides.{nat_tests}
use Rattle.qs_session_channels.specs.Channels.{with_at4}

pub spot : (a b h k n m i j : ℕ) → ((n ≡ a) × (m ≡ b) × (i ≡ h) × (j ≡ k)) ⊎ (((n ≡ a) × (m ≡ b) × (i ≡ h) × (j ≡ k)) → ⊥)
spot a b h k n m i j = by (cases_eq n a) (cases_eq m b) (cases_eq i h) (cases_eq j k)
  where
    by : (n ≡ a) ⊎ (n ≢ a) → (m ≡ b) ⊎ (m ≢ b) → (i ≡ h) ⊎ (i ≢ h) → (j ≡ k) ⊎ (j ≢ k) → ((n ≡ a) × (m ≡ b) × (i ≡ h) × (j ≡ k)) ⊎ (((n ≡ a) × (m ≡ b) × (i ≡ h) × (j ≡ k)) → ⊥)
    by (inl p) (inl q) (inl r) (inl s) = inl (p, q, r, s)
    by (inr p) q r s = inr (λ e. p e.0)
    by p (inr q) r s = inr (λ e. q e.1)
    by p q (inr r) s = inr (λ e. r e.2)
    by p q r (inr s) = inr (λ e. s e.3)

pub at_spot : {A : Type 0} → (f : ℕ → ℕ → ℕ → ℕ → A) (a b h k : ℕ) (x : A) → with_at4 f a b h k x a b h k ≡ x
at_spot f a b h k x = grind (arith, nat_tests)

pub off_spot : {A : Type 0} → (f : ℕ → ℕ → ℕ → ℕ → A) (a b h k : ℕ) (x : A) (n m i j : ℕ) → (((n ≡ a) × (m ≡ b) × (i ≡ h) × (j ≡ k)) → ⊥) → with_at4 f a b h k x n m i j ≡ f n m i j
off_spot f a b h k x n m i j other = grind (arith, nat_tests, other)
