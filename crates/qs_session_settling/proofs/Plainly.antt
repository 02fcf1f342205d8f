-- Plain passes are passes.
use Rattle.std.proofs.Common.{◌≡◌, ℕ, zero, suc, true, refl, ◌∙◌, List, [], ◌∷◌, length}
use Rattle.std.proofs.lemmas.Bool.{and_from}
use Rattle.qs_session_settling.specs.Pairs.{Pair, Tick, Step, Left, Right, after}
use Rattle.qs_session_settling.specs.Passes.{of_left, of_right, takes_and_ticks, is_pass, sends_none, QuietPasses}
use Rattle.qs_session_settling.specs.Plain.{left_takes, right_takes, plain_pass, plainly}

left_own : {M : Type 0} → (n : ℕ) (steps : List (Step M)) → takes_and_ticks of_left n (left_takes n steps) ≡ takes_and_ticks of_left 0 steps
left_own zero steps = refl
left_own (suc n) steps = left_own n steps

left_other : {M : Type 0} → (k n : ℕ) (steps : List (Step M)) → takes_and_ticks of_left k (right_takes n steps) ≡ takes_and_ticks of_left k steps
left_other k zero steps = refl
left_other k (suc n) steps = left_other k n steps

right_own : {M : Type 0} → (n : ℕ) (steps : List (Step M)) → takes_and_ticks of_right n (right_takes n steps) ≡ takes_and_ticks of_right 0 steps
right_own zero steps = refl
right_own (suc n) steps = right_own n steps

right_other : {M : Type 0} → (k n : ℕ) (steps : List (Step M)) → takes_and_ticks of_right k (left_takes n steps) ≡ takes_and_ticks of_right k steps
right_other k zero steps = refl
right_other k (suc n) steps = right_other k n steps

none_left : {M : Type 0} → (n : ℕ) (steps : List (Step M)) → sends_none (left_takes n steps) ≡ sends_none steps
none_left zero steps = refl
none_left (suc n) steps = none_left n steps

none_right : {M : Type 0} → (n : ℕ) (steps : List (Step M)) → sends_none (right_takes n steps) ≡ sends_none steps
none_right zero steps = refl
none_right (suc n) steps = none_right n steps

pub plain_is : {M : Type 0} → (pair : Pair M) → is_pass pair (plain_pass pair) ≡ true
plain_is {M} pair = and_from (takes_and_ticks of_left n (plain_pass pair)) (takes_and_ticks of_right m (plain_pass pair)) (left_own n (right_takes m ends) ∙ left_other 0 m ends) (right_other m n (right_takes m ends) ∙ right_own m ends)
  where
    n : ℕ
    n = length pair.right.link

    m : ℕ
    m = length pair.left.link

    ends : List (Step M)
    ends = Left (Tick 0) ∷ Right (Tick 0) ∷ []

pub plain_none : {M : Type 0} → (pair : Pair M) → sends_none (plain_pass pair) ≡ true
plain_none pair = none_left (length pair.right.link) (right_takes (length pair.left.link) (Left (Tick 0) ∷ Right (Tick 0) ∷ [])) ∙ none_right (length pair.left.link) (Left (Tick 0) ∷ Right (Tick 0) ∷ [])

pub has_passes : {M : Type 0} → (hello : M) (n : ℕ) (pair : Pair M) → QuietPasses hello n pair (plainly hello n pair)
has_passes hello zero pair = refl
has_passes hello (suc n) pair = (plain_pass pair, plain_is pair, plain_none pair, has_passes hello n (after hello (plain_pass pair) pair))
