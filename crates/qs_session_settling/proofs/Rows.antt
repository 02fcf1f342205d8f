-- Rows of passes: what they keep, what one of them makes, and rows of the swapped pair.
use Rattle.std.proofs.Common.{◌≡◌, Bool, ℕ, zero, suc, ◌+◌, true, false, refl, subst, sym, ap, ◌∙◌, arith, List, [], ◌∷◌, length}
use Rattle.std.proofs.lemmas.Bool.{and_from}
use Rattle.qs_session_settling.specs.Pairs.{Pair, Take, Send, Tick, Step, Left, Right, swapped, after}
use Rattle.qs_session_settling.specs.Passes.{of_left, of_right, takes_and_ticks, is_pass, Passes, QuietPasses}
use Rattle.qs_session_settling.specs.Consistent.{IsConsistent}
use Rattle.qs_session_settling.proofs.Staying
use Rattle.qs_session_settling.proofs.Stages.{IsOf, Keeps, Stage, Stays, staged, stays_after, keeps_after, mirrored, after_mirrored, right_mirrored, of_mirrored, by_left, by_right}

abbrev pub Row : {M : Type 0} → M → Bool → ℕ → Pair M → Pair M → Type 0
Row hello quiet zero old new = new ≡ old
Row {M} hello quiet (suc n) old new = (steps : List (Step M)) × (is_pass old steps ≡ true) × IsOf quiet steps × Row hello quiet n (after hello steps old) new

pub row_of : {M : Type 0} → (hello : M) (n : ℕ) (old new : Pair M) → Passes hello n old new → Row hello false n old new
row_of hello zero old new is = is
row_of hello (suc n) old new (steps, is, rest) = (steps, is, tt, row_of hello n (after hello steps old) new rest)

pub quiet_row : {M : Type 0} → (hello : M) (n : ℕ) (old new : Pair M) → QuietPasses hello n old new → Row hello true n old new
quiet_row hello zero old new is = is
quiet_row hello (suc n) old new (steps, is, none, rest) = (steps, is, none, quiet_row hello n (after hello steps old) new rest)

-- a quiet row is a row
pub louder : {M : Type 0} → (hello : M) (quiet : Bool) (n : ℕ) (old new : Pair M) → Row hello quiet n old new → Row hello false n old new
louder hello quiet zero old new is = is
louder hello quiet (suc n) old new (steps, is, of, rest) = (steps, is, tt, louder hello quiet n (after hello steps old) new rest)

-- a row of m + n passes is one of m and one of n
divided : {M : Type 0} → (hello : M) (quiet : Bool) (m n k : ℕ) (old new : Pair M) → k ≡ m + n → Row hello quiet k old new → (mid : Pair M) × Row hello quiet m old mid × Row hello quiet n mid new
divided hello quiet zero n k old new e row = (old, refl, subst (λ i. Row hello quiet i old new) (grind (arith, e)) row)
divided hello quiet (suc m) n zero old new e row = absurd (grind (arith, e))
divided hello quiet (suc m) n (suc k) old new e (steps, is, of, rest) = let p = divided hello quiet m n k (after hello steps old) new (grind (arith, e)) rest in (p.0, (steps, is, of, p.1), p.2)

pub parted : {M : Type 0} → (hello : M) (quiet : Bool) (m n : ℕ) (old new : Pair M) → Row hello quiet (m + n) old new → (mid : Pair M) × Row hello quiet m old mid × Row hello quiet n mid new
parted hello quiet m n old new row = divided hello quiet m n (m + n) old new refl row

-- and the other way round
pub joined : {M : Type 0} → (hello : M) (quiet : Bool) (m n k : ℕ) (old mid new : Pair M) → k ≡ m + n → Row hello quiet m old mid → Row hello quiet n mid new → Row hello quiet k old new
joined {M} hello quiet zero n k old mid new e row rest = subst (λ i. Row hello quiet i old new) (grind (arith, e)) (subst (λ (x : Pair M). Row hello quiet n x new) row rest)
joined hello quiet (suc m) n zero old mid new e row rest = absurd (grind (arith, e))
joined hello quiet (suc m) n (suc k) old mid new e (steps, is, of, row) rest = (steps, is, of, joined hello quiet m n k (after hello steps old) mid new (grind (arith, e)) row rest)

-- ---- what a row keeps

pub stays_row : {M : Type 0} → (hello : M) (quiet : Bool) (I : Pair M → Type 0) → Stays hello quiet I → (n : ℕ) (old new : Pair M) → Row hello quiet n old new → I old → I new
stays_row hello quiet I stays zero old new row is = subst I (sym row) is
stays_row hello quiet I stays (suc n) old new (steps, pass, of, rest) is = stays_row hello quiet I stays n (after hello steps old) new rest (stays_after hello quiet I stays steps of old is)

pub keeps_row : {M : Type 0} → (hello : M) (quiet : Bool) (I P : Pair M → Type 0) → Stays hello quiet I → Keeps hello quiet I P → (n : ℕ) (old new : Pair M) → Row hello quiet n old new → I old → P old → P new
keeps_row hello quiet I P stays k zero old new row is h = subst P (sym row) h
keeps_row hello quiet I P stays k (suc n) old new (steps, pass, of, rest) is h =
    keeps_row hello quiet I P stays k n (after hello steps old) new rest (stays_after hello quiet I stays steps of old is) (keeps_after hello quiet I P stays k steps of old is h)

pub consistent_on : {M : Type 0} → (hello : M) (quiet : Bool) → Stays hello quiet IsConsistent
consistent_on hello quiet step of pair is = Staying.stays hello step pair is

-- ---- a pass goes through a stage

pub staged_row : {M : Type 0} → (hello : M) (quiet : Bool) (I : Pair M → Type 0) (F : ℕ → Pair M → Type 0) (D : Pair M → Type 0) → Stays hello quiet I → Stage hello quiet I F D
    → (old new : Pair M) → Row hello quiet 1 old new → I old → F (length old.left.link) old → D new
staged_row hello quiet I F D stays s old new (steps, pass, of, end) is h =
    subst D (sym end) (staged hello quiet I F D stays s steps (length old.left.link) of old (by_right old steps pass) is h)

-- ---- the other way round

left_mirrored : {M : Type 0} → (n : ℕ) (steps : List (Step M)) → takes_and_ticks of_left n (mirrored steps) ≡ takes_and_ticks of_right n steps
left_mirrored n [] = refl
left_mirrored n (Left action ∷ steps) = left_mirrored n steps
left_mirrored zero (Right Take ∷ steps) = left_mirrored zero steps
left_mirrored (suc n) (Right Take ∷ steps) = left_mirrored n steps
left_mirrored n (Right (Send x stamp) ∷ steps) = left_mirrored n steps
left_mirrored zero (Right (Tick stamp) ∷ steps) = refl
left_mirrored (suc n) (Right (Tick stamp) ∷ steps) = left_mirrored (suc n) steps

pass_mirrored : {M : Type 0} → (old : Pair M) (steps : List (Step M)) → is_pass old steps ≡ true → is_pass (swapped old) (mirrored steps) ≡ true
pass_mirrored old steps is =
    and_from (takes_and_ticks of_left (length old.left.link) (mirrored steps)) (takes_and_ticks of_right (length old.right.link) (mirrored steps))
    (left_mirrored (length old.left.link) steps ∙ by_right old steps is) (right_mirrored (length old.right.link) steps ∙ by_left old steps is)

pub row_mirrored : {M : Type 0} → (hello : M) (quiet : Bool) (n : ℕ) (old new : Pair M) → Row hello quiet n old new → Row hello quiet n (swapped old) (swapped new)
row_mirrored hello quiet zero old new is = ap swapped is
row_mirrored {M} hello quiet (suc n) old new (steps, is, of, rest) =
    (mirrored steps, pass_mirrored old steps is, of_mirrored quiet steps of, subst (λ (x : Pair M). Row hello quiet n x (swapped new)) (sym (after_mirrored hello steps old)) (row_mirrored hello quiet n (after hello steps old) new rest))
