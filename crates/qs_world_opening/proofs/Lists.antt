-- Lists with one more item: what holds of each, what passes a test for any, and what is found first.
use Rattle.std.proofs.Common.{◌≡◌, ◌∙◌, ◌++◌, Bool, true, false, List, [], ◌∷◌, Some, None, refl}
use Rattle.std.specs.Prelude.{find}
use Rattle.std.specs.List.{AllByRecursion, list_any}
use Rattle.std.proofs.lemmas.List.Folds.{list_any-append}

pub every_more : {X : Type 0} (P Q : X → Type 0) → ((x : X) → P x → Q x) → (xs : List X) → AllByRecursion P xs → AllByRecursion Q xs
every_more P Q more [] all = tt
every_more P Q more (x ∷ xs) all = (more x all.0, every_more P Q more xs all.1)

pub every_last : {X : Type 0} (P : X → Type 0) (xs : List X) (x : X) → AllByRecursion P xs → P x → AllByRecursion P (xs ++ x ∷ [])
every_last P [] x all one = (one, tt)
every_last P (y ∷ ys) x all one = (all.0, every_last P ys x all.1 one)

pub any_more : {X : Type 0} (p : X → Bool) (xs : List X) (x : X) → list_any p xs ≡ true → list_any p (xs ++ x ∷ []) ≡ true
any_more p xs x is = list_any-append p xs (x ∷ []) ∙ rw is refl

pub found_more : {X : Type 0} (p : X → Bool) (xs : List X) (x found : X) → find p xs ≡ Some found → find p (xs ++ x ∷ []) ≡ Some found
found_more p [] x found is = absurd (cc is)
found_more p (y ∷ ys) x found is = by (p y) refl (found_more p ys x found)
  where
    by : (b : Bool) → p y ≡ b → (find p ys ≡ Some found → find p (ys ++ x ∷ []) ≡ Some found) → find p (y ∷ (ys ++ x ∷ [])) ≡ Some found
    by true its more = rw its (rw its at is)
    by false its more = rw its (more (rw its at is))

-- none is found before the last
pub found_last : {X : Type 0} (p : X → Bool) (xs : List X) (x : X) → list_any p xs ≡ false → find p (xs ++ x ∷ []) ≡ find p (x ∷ [])
found_last p [] x none = refl
found_last p (y ∷ ys) x none = by (p y) refl (found_last p ys x)
  where
    by : (b : Bool) → p y ≡ b → (list_any p ys ≡ false → find p (ys ++ x ∷ []) ≡ find p (x ∷ [])) → find p (y ∷ (ys ++ x ∷ [])) ≡ find p (x ∷ [])
    by true its more = absurd (cc (rw its at none))
    by false its more = rw its (more (rw its at none))

pub found_any : {X : Type 0} (p : X → Bool) (xs : List X) → find p xs ≡ None → list_any p xs ≡ false
found_any p [] none = refl
found_any p (x ∷ xs) none = by (p x) refl (found_any p xs)
  where
    by : (b : Bool) → p x ≡ b → (find p xs ≡ None → list_any p xs ≡ false) → list_any p (x ∷ xs) ≡ false
    by true its more = absurd (cc (rw its at none))
    by false its more = rw its (more (rw its at none))

-- what fails at the last is found as before
pub found_same : {X : Type 0} (p : X → Bool) (xs : List X) (x : X) → p x ≡ false → find p (xs ++ x ∷ []) ≡ find p xs
found_same p [] x off = rw off refl
found_same p (y ∷ ys) x off = by (p y) refl (found_same p ys x off)
  where
    by : (b : Bool) → p y ≡ b → find p (ys ++ x ∷ []) ≡ find p ys → find p (y ∷ (ys ++ x ∷ [])) ≡ find p (y ∷ ys)
    by true its more = rw its refl
    by false its more = rw its more
