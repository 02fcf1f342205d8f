-- Lists that pass tests.
use Rattle.std.proofs.Common.{◌≡◌, ◌∙◌, Bool, true, false, List, [], ◌∷◌, refl, sym, ap, map}
use Rattle.std.specs.Prelude.{not, ◌||◌}
use Rattle.std.specs.List.{filter, list_any, list_all}
use Rattle.std.proofs.lemmas.Bool.{and_from, or_parts, or_from}
use Rattle.qs_base_lemmas.proofs.Tests.{and_first, and_last}
use Rattle.qs_restart_state.specs.Taken.{same_flag}

-- nothing passes
pub none_filtered : {A : Type 0} (p : A → Bool) (xs : List A) → list_any p xs ≡ false → filter p xs ≡ []
none_filtered p [] h = refl
none_filtered p (x ∷ xs) h = by (p x) refl (or_parts (p x) (list_any p xs) h).0 (none_filtered p xs (or_parts (p x) (list_any p xs) h).1)
  where
    by : (b : Bool) → p x ≡ b → p x ≡ false → filter p xs ≡ [] → filter p (x ∷ xs) ≡ []
    by true is n more = absurd (let clash : true ≡ false = sym is ∙ n in cc clash)
    by false is n more = rw is more

-- all pass, where none passes the other test
pub all_filtered : {A : Type 0} (p : A → Bool) (xs : List A) → list_any p xs ≡ false → filter (λ x. not (p x)) xs ≡ xs
all_filtered {A = A} p [] h = refl
all_filtered {A = A} p (x ∷ xs) h = by (p x) refl (or_parts (p x) (list_any p xs) h).0 (all_filtered p xs (or_parts (p x) (list_any p xs) h).1)
  where
    by : (b : Bool) → p x ≡ b → p x ≡ false → filter (λ y. not (p y)) xs ≡ xs → filter (λ y. not (p y)) (x ∷ xs) ≡ x ∷ xs
    by true is n more = absurd (let clash : true ≡ false = sym is ∙ n in cc clash)
    by false is n more = rw is (ap (λ (l : List A). x ∷ l) more)

-- two tests pass in either order
pub filters_swap : {A : Type 0} (p q : A → Bool) (xs : List A) → filter p (filter q xs) ≡ filter q (filter p xs)
filters_swap {A = A} p q [] = refl
filters_swap {A = A} p q (x ∷ xs) = by (p x) refl (q x) refl (filters_swap p q xs)
  where
    by : (b : Bool) → p x ≡ b → (c : Bool) → q x ≡ c → filter p (filter q xs) ≡ filter q (filter p xs) → filter p (filter q (x ∷ xs)) ≡ filter q (filter p (x ∷ xs))
    by true is true so more = rw (is, so, is) (ap (λ (l : List A). x ∷ l) more)
    by true is false so more = rw (is, so) more
    by false is true so more = rw (is, so, is) more
    by false is false so more = rw (is, so) more

-- what the one lets pass the other does
pub filter_within : {A : Type 0} (p q : A → Bool) (xs : List A) → ((x : A) → p x ≡ true → q x ≡ true) → filter p (filter q xs) ≡ filter p xs
filter_within {A = A} p q [] h = refl
filter_within {A = A} p q (x ∷ xs) h = by (p x) refl (q x) refl (filter_within p q xs h)
  where
    by : (b : Bool) → p x ≡ b → (c : Bool) → q x ≡ c → filter p (filter q xs) ≡ filter p xs → filter p (filter q (x ∷ xs)) ≡ filter p (x ∷ xs)
    by true is true so more = rw (so, is) (ap (λ (l : List A). x ∷ l) more)
    by true is false so more = absurd (let clash : false ≡ true = sym so ∙ h x is in cc clash)
    by false is true so more = rw (so, is) more
    by false is false so more = rw (so, is) more

-- a change that leaves the test
pub filter_mapped : {A : Type 0} (f : A → A) (q : A → Bool) (xs : List A) → ((x : A) → q (f x) ≡ q x) → filter q (map f xs) ≡ map f (filter q xs)
filter_mapped {A = A} f q [] h = refl
filter_mapped {A = A} f q (x ∷ xs) h = by (q x) refl (filter_mapped f q xs h)
  where
    by : (b : Bool) → q x ≡ b → filter q (map f xs) ≡ map f (filter q xs) → filter q (map f (x ∷ xs)) ≡ map f (filter q (x ∷ xs))
    by true is more = rw (h x, is) (ap (λ (l : List A). f x ∷ l) more)
    by false is more = rw (h x, is) more

-- those that are dropped do not pass
pub any_filtered : {A : Type 0} (p q : A → Bool) (xs : List A) → ((x : A) → q x ≡ true → p x ≡ false) → list_any p (filter (λ x. not (q x)) xs) ≡ list_any p xs
any_filtered p q [] h = refl
any_filtered p q (x ∷ xs) h = by (q x) refl (any_filtered p q xs h)
  where
    by : (b : Bool) → q x ≡ b → list_any p (filter (λ y. not (q y)) xs) ≡ list_any p xs → list_any p (filter (λ y. not (q y)) (x ∷ xs)) ≡ list_any p (x ∷ xs)
    by true is more = rw (is, h x is) more
    by false is more = rw is (ap (λ (b : Bool). p x || b) more)

-- nothing passes that is dropped
pub none_left : {A : Type 0} (p : A → Bool) (xs : List A) → list_any p (filter (λ x. not (p x)) xs) ≡ false
none_left p [] = refl
none_left p (x ∷ xs) = by (p x) refl (none_left p xs)
  where
    by : (b : Bool) → p x ≡ b → list_any p (filter (λ y. not (p y)) xs) ≡ false → list_any p (filter (λ y. not (p y)) (x ∷ xs)) ≡ false
    by true is more = rw is more
    by false is more = rw (is, is) more

pub any_mapped : {A : Type 0} (p : A → Bool) (f : A → A) (xs : List A) → ((x : A) → p (f x) ≡ p x) → list_any p (map f xs) ≡ list_any p xs
any_mapped p f [] h = refl
any_mapped p f (x ∷ xs) h = rw (h x, any_mapped p f xs h) refl

-- a test that nothing passes, nothing of a part of the list passes
pub none_within : {A : Type 0} (p q : A → Bool) (xs : List A) → list_any p xs ≡ false → list_any p (filter q xs) ≡ false
none_within p q [] h = refl
none_within p q (x ∷ xs) h = by (q x) refl (or_parts (p x) (list_any p xs) h) (none_within p q xs (or_parts (p x) (list_any p xs) h).1)
  where
    by : (b : Bool) → q x ≡ b → (p x ≡ false) × (list_any p xs ≡ false) → list_any p (filter q xs) ≡ false → list_any p (filter q (x ∷ xs)) ≡ false
    by true is n more = rw is (or_from (p x) (list_any p (filter q xs)) n.0 more)
    by false is n more = rw is more

-- a test that all pass, all of a part of the list pass
pub all_within : {A : Type 0} (p q : A → Bool) (xs : List A) → list_all p xs ≡ true → list_all p (filter q xs) ≡ true
all_within p q [] h = refl
all_within p q (x ∷ xs) h = by (q x) refl (all_within p q xs (and_last (p x) (list_all p xs) h))
  where
    by : (b : Bool) → q x ≡ b → list_all p (filter q xs) ≡ true → list_all p (filter q (x ∷ xs)) ≡ true
    by true is more = rw is (and_from (p x) (list_all p (filter q xs)) (and_first (p x) (list_all p xs) h) more)
    by false is more = rw is more

-- what passes the one test passes the other
pub all_more : {A : Type 0} (p q : A → Bool) (xs : List A) → ((x : A) → p x ≡ true → q x ≡ true) → list_all p xs ≡ true → list_all q xs ≡ true
all_more p q [] more h = refl
all_more p q (x ∷ xs) more h = and_from (q x) (list_all q xs) (more x (and_first (p x) (list_all p xs) h)) (all_more p q xs more (and_last (p x) (list_all p xs) h))

-- two tests that agree on all of a list
pub filter_same : {A : Type 0} (p q : A → Bool) (xs : List A) → list_all (λ x. same_flag (p x) (q x)) xs ≡ true → filter p xs ≡ filter q xs
filter_same p q [] h = refl
filter_same {A = A} p q (x ∷ xs) h = by (p x) refl (q x) refl (and_first (same_flag (p x) (q x)) _ h) (filter_same p q xs (and_last (same_flag (p x) (q x)) _ h))
  where
    by : (b : Bool) → p x ≡ b → (c : Bool) → q x ≡ c → same_flag (p x) (q x) ≡ true → filter p xs ≡ filter q xs → filter p (x ∷ xs) ≡ filter q (x ∷ xs)
    by true is true so e more = rw (is, so) (ap (λ (l : List A). x ∷ l) more)
    by false is false so e more = rw (is, so) more
    by true is false so e more = absurd (let clash : same_flag true false ≡ true = sym (ap (λ (a : Bool). same_flag a (q x)) is ∙ ap (λ (a : Bool). same_flag true a) so) ∙ e in cc clash)
    by false is true so e more = absurd (let clash : same_flag false true ≡ true = sym (ap (λ (a : Bool). same_flag a (q x)) is ∙ ap (λ (a : Bool). same_flag false a) so) ∙ e in cc clash)

pub filter_of_mapped : {A B : Type 0} (f : A → B) (q : B → Bool) (xs : List A) → filter q (map f xs) ≡ map f (filter (λ x. q (f x)) xs)
filter_of_mapped f q [] = refl
filter_of_mapped {A = A} {B = B} f q (x ∷ xs) = by (q (f x)) refl (filter_of_mapped f q xs)
  where
    by : (b : Bool) → q (f x) ≡ b → filter q (map f xs) ≡ map f (filter (λ y. q (f y)) xs) → filter q (map f (x ∷ xs)) ≡ map f (filter (λ y. q (f y)) (x ∷ xs))
    by true is more = rw is (ap (λ (l : List B). f x ∷ l) more)
    by false is more = rw is more
