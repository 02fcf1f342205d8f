-- A server is to learn an outcome where it is due to one that votes, to a standard one or to a delayed one.
use Rattle.std.proofs.Common.{◌≡◌, ◌∙◌, arith, refl, ap, sym}
use Rattle.std.proofs.lemmas.Bool.Decides.{nat_tests}
use Rattle.std.specs.Prelude.{Bool, true, false, not, ◌||◌, ◌==◌, List, [], ◌∷◌, ◌++◌, length, cond}
use Rattle.std.specs.List.{list_any, filter}
use Rattle.qs_tm.specs.Members.{all_servers}
use Rattle.qs_tm.specs.Participant.{is_due_at, has_due, is_learning}
use Rattle.qs_tm.specs.declared.participant.Due.TheVariants as dues
use Rattle.qs_tm.specs.declared.participant.Participant.{Participant}

some_there : {A : Type 0} (x : A) (xs : List A) → not (length (x ∷ xs) == 0) ≡ true
some_there x xs = grind (arith, nat_tests)

some-append : {A : Type 0} (xs ys : List A) → not (length (xs ++ ys) == 0) ≡ (not (length xs == 0) || not (length ys == 0))
some-append [] ys = refl
some-append (x ∷ xs) ys = some_there x (xs ++ ys) ∙ ap (λ b. b || not (length ys == 0)) (sym (some_there x xs))

module _ {A : Type 0} (p : A → Bool) where
  some_at : (b : Bool) (x : A) (xs : List A) → not (length (filter p xs) == 0) ≡ list_any p xs → not (length (cond b (x ∷ filter p xs) (filter p xs)) == 0) ≡ (b || list_any p xs)
  some_at true x xs e = some_there x (filter p xs)
  some_at false x xs e = e

  some-filter : (xs : List A) → not (length (filter p xs) == 0) ≡ list_any p xs
  some-filter [] = refl
  some-filter (x ∷ xs) = some_at (p x) x xs (some-filter xs)

some-three : {A : Type 0} (p q r : A → Bool) (xs : List A)
    → not (length (filter p xs ++ filter q xs ++ filter r xs) == 0) ≡ ((list_any p xs || list_any q xs) || list_any r xs)
some-three p q r xs =
    rw (some-append (filter p xs ++ filter q xs) (filter r xs), some-append (filter p xs) (filter q xs), some-filter p xs, some-filter q xs, some-filter r xs)

pub learning_by_dues : (part : Participant) → is_learning part ≡ ((has_due dues.FirstTold part || has_due dues.ThenTold part) || has_due dues.LastTold part)
learning_by_dues part = some-three (is_due_at dues.FirstTold part) (is_due_at dues.ThenTold part) (is_due_at dues.LastTold part) all_servers
