-- The disks of no node of a run are as they were.
use Rattle.std.proofs.Common.{◌≡◌, ◌∙◌, ap, refl, subst, sym, ℕ, zero, suc, ◌+◌, ◌≤◌, List, [], ◌∷◌, ◌++◌, length, slice_get, arith}
use Rattle.std.proofs.lemmas.List.{length-append}
use Rattle.qs_top.specs.Disks.{AreOthers, OfThese}

-- the disks are left alone
pub others_same : {D : Type 0} (nodes : ℕ) (disks : List D) → AreOthers nodes disks disks
others_same nodes disks = record { count = refl; each = λ n low. refl }

behind_front : {D : Type 0} (front other rest : List D) (n : ℕ) → length other ≡ length front → length front ≤ n → slice_get (other ++ rest) n ≡ slice_get (front ++ rest) n
behind_front [] [] rest n same low = refl
behind_front [] (x ∷ other) rest n same low = absurd (cc same)
behind_front (x ∷ front) [] rest n same low = absurd (cc same)
behind_front (x ∷ front) (y ∷ other) rest zero same low = absurd (none (length front) low)
  where
    none : (k : ℕ) → suc k ≤ 0 → ⊥
    none k low = omega (arith, low)
behind_front (x ∷ front) (y ∷ other) rest (suc n) same low = behind_front front other rest n (less (length other) (length front) same) (lower (length front) n low)
  where
    less : (a b : ℕ) → suc a ≡ suc b → a ≡ b
    less a b is = omega (arith, is)

    lower : (a b : ℕ) → suc a ≤ suc b → a ≤ b
    lower a b is = omega (arith, is)

pub others_these : {D : Type 0} (nodes : ℕ) (P : List D → List D → Type 0) (old new : List D) → OfThese nodes P old new → AreOthers nodes old new
others_these {D} nodes P old new these = record {
  count = ap length these.new_is ∙ (length-append these.afters these.rest ∙ (ap (λ (k : ℕ). k + length these.rest) (these.count_after ∙ sym these.count) ∙ sym (ap length these.old_is ∙ length-append these.disks these.rest)));
  each = λ n low. ap (λ (l : List D). slice_get l n) these.new_is
      ∙ (behind_front these.disks these.afters these.rest n (these.count_after ∙ sym these.count) (subst (λ (k : ℕ). k ≤ n) (sym these.count) low) ∙ sym (ap (λ (l : List D). slice_get l n) these.old_is));
}
