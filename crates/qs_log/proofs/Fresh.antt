-- A disk of zeros has an empty log: no gate is open there.
use Rattle.std.proofs.Common.{◌≡◌, ◌≢◌, ◌∙◌, ◌==◌, ◌^◌, ap, refl, sym, ℕ, zero, suc, false, List, [], ◌∷◌, drop, get_or, length, replicate, take, Ok}
use Rattle.std.specs.Prelude.{⊤}
use Rattle.qs_log_batch.specs.Batch.{IsClosed, IsCounted}
use Rattle.qs_log.specs.Image.{IsLog, live_area}
use Rattle.qs_slot.proofs.SlotLemmas.{closed_in}
use Rattle.qs_slot.specs.Slot.{Closed, fresh_value, is_open, present_in, slot_in, slots_in, together}

abbrev AreZeros : List ℕ → Type 0
AreZeros [] = ⊤
AreZeros (x ∷ xs) = (x ≡ 0) × AreZeros xs

zeros : (n : ℕ) → AreZeros (replicate n 0)
zeros zero = tt
zeros (suc n) = (refl, zeros n)

dropped : (n : ℕ) (xs : List ℕ) → AreZeros xs → AreZeros (drop n xs)
dropped zero xs are = are
dropped (suc n) [] are = tt
dropped (suc n) (x ∷ xs) are = dropped n xs are.1

taken : (n : ℕ) (xs : List ℕ) → AreZeros xs → AreZeros (take n xs)
taken zero xs are = tt
taken (suc n) [] are = tt
taken (suc n) (x ∷ xs) are = (are.0, taken n xs are.1)

closed : (xs : List ℕ) → AreZeros xs → IsClosed xs
closed [] are = λ is. absurd (cc (is))
closed (x ∷ xs) are = λ is. absurd (none (sym are.0 ∙ is))
  where
    none : ◌≡◌ {A = ℕ} 0 1 → ⊥
    none same = cc (same)

counted : (format : ℕ) (area : List ℕ) → AreZeros area → IsCounted format area [] 0
counted format area are = record {
  batches = [];
  counted = record { used = []; rest = area; whole = refl; spelled = refl; ends = closed area are };
  records_are = refl;
  used_is = refl;
}

-- whatever the area, nothing is counted there
pub fresh_area : (format generation size : ℕ) → IsCounted format (live_area generation (replicate size 0)) [] 0
fresh_area format generation size =
    counted format (live_area generation (replicate size 0)) (taken _ (drop _ (replicate size 0)) (dropped _ (replicate size 0) (zeros size)))

-- ---- the slots

byte_at : (xs : List ℕ) (place : ℕ) → AreZeros xs → get_or xs place 0 ≡ 0
byte_at [] place are = refl
byte_at (x ∷ xs) zero are = are.0
byte_at (x ∷ xs) (suc place) are = byte_at xs place are.1

shut : (place size : ℕ) → slot_in (2 ^ 62) place (replicate size 0) ≡ Closed
shut place size = closed_in (2 ^ 62) place (replicate size 0) (ap (λ (byte : ℕ). byte == 1) (byte_at (replicate size 0) place (zeros size)))

pub fresh_log : (size : ℕ) → IsLog (present_in 0 fresh_value 0) [] 0 (replicate size 0)
fresh_log size = record {
  slots = rw (shut 0 size, shut 4096 size) refl;
  counted = fresh_area 1 0 size;
}
