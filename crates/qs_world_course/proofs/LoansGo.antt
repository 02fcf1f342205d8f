-- What a node keeps of loans and what the course has of them go together.
use Rattle.std.proofs.Common.{◌≡◌, ◌∙◌, ℕ, zero, suc, ◌+◌, ◌-◌, ◌==◌, Bool, true, false, List, [], ◌∷◌, ◌++◌, map, Option, Some, None, refl, sym, ap, subst, arith}
use Rattle.std.specs.Prelude.{not, ◌&&◌, is_some, slice_get, slice_set, if◌then◌else◌}
use Rattle.std.proofs.lemmas.Bool.Decides.{nat_tests}
use Rattle.std.proofs.lemmas.List.Elements.{filter-append}
use Rattle.qs_base.specs.declared.identifiers.ClientNo.{ClientNo}
use Rattle.qs_base.specs.declared.identifiers.Tid.{Tid}
use Rattle.qs_base.proofs.Same.{same_tid-self}
use Rattle.qs_base_lemmas.proofs.Tests.{and_false, eqb-self, some_none, some_same}
use Rattle.qs_node_kept.specs.Loans.{first_untaken, give_back, is_loan_of, is_taken, is_untaken, last_taken, take_first}
use Rattle.qs_node_kept.specs.declared.kept.Lent.{Lent}
use Rattle.qs_book_machine.specs.Book.{changed_at}
use Rattle.qs_book_conformance.specs.Effects.{gave_back, given_back}
use Rattle.qs_book_conformance.specs.declared.values.Loan.{Loan}
use Rattle.qs_world_course.specs.Loans.{AreTaken, HoldsBorrowing, loan_in, loan_of, loans_of, new_loan}
use Rattle.qs_world_course.specs.LoanLaws.{LoansGo, NextIsNext, PresentIsPresent, TakesGo, YieldsGo}

-- ---- of the first loan: it is one of these or not

pub its : (client : ClientNo) (tid : Tid) (x : Lent) (xs : List Lent) → is_loan_of client tid x ≡ true → loans_of client tid (x ∷ xs) ≡ x ∷ loans_of client tid xs
its client tid x xs is = rw is refl

pub not_its : (client : ClientNo) (tid : Tid) (x : Lent) (xs : List Lent) → is_loan_of client tid x ≡ false → loans_of client tid (x ∷ xs) ≡ loans_of client tid xs
not_its client tid x xs is = rw is refl

untaken_is : (client : ClientNo) (tid : Tid) (x : Lent) (a b : Bool) → is_loan_of client tid x ≡ a → x.taken ≡ b → is_untaken client tid x ≡ (a && not b)
untaken_is client tid x a b is t = rw (is, t) refl

taken_is : (client : ClientNo) (tid : Tid) (x : Lent) (a b : Bool) → is_loan_of client tid x ≡ a → x.taken ≡ b → is_taken client tid x ≡ (a && b)
taken_is client tid x a b is t = rw (is, t) refl

-- ---- the next one

abbrev NextAt : ClientNo → Tid → List Lent → ℕ → Type 0
NextAt client tid loans n = loan_in (first_untaken client tid loans) ≡ slice_get (map loan_of (loans_of client tid loans)) n

next_at : (client : ClientNo) (tid : Tid) (loans : List Lent) (n : ℕ) → AreTaken n (loans_of client tid loans) → NextAt client tid loans n
next_at client tid [] zero t = refl
next_at client tid [] (suc n) t = absurd t
next_at client tid (x ∷ xs) n t = by (λ (m : ℕ). next_at client tid xs m) (is_loan_of client tid x) refl
  where
    first : ((m : ℕ) → AreTaken m (loans_of client tid xs) → NextAt client tid xs m) → (m : ℕ) → (is_loan_of client tid x ≡ true) → AreTaken m (x ∷ loans_of client tid xs)
        → loan_in (first_untaken client tid (x ∷ xs)) ≡ slice_get (map loan_of (x ∷ loans_of client tid xs)) m
    first more zero is taken = rw (untaken_is client tid x true false is taken.0) refl
    first more (suc m) is taken = rw (untaken_is client tid x true true is taken.0) (more m taken.1)

    by : ((m : ℕ) → AreTaken m (loans_of client tid xs) → NextAt client tid xs m) → (b : Bool) → is_loan_of client tid x ≡ b → NextAt client tid (x ∷ xs) n
    by more true is = subst (λ (l : List Lent). loan_in (first_untaken client tid (x ∷ xs)) ≡ slice_get (map loan_of l) n) (sym (its client tid x xs is)) (first more n is (subst (AreTaken n) (its client tid x xs is) t))
    by more false is = subst (λ (l : List Lent). loan_in (first_untaken client tid (x ∷ xs)) ≡ slice_get (map loan_of l) n) (sym (not_its client tid x xs is))
        (rw (untaken_is client tid x false x.taken is refl) (more n (subst (AreTaken n) (not_its client tid x xs is) t)))

pub next_is_next : NextIsNext
next_is_next client tid loans b h = next_at client tid loans b.taken h.taken ∙ ap (λ (l : List Loan). slice_get l b.taken) (sym h.loans_are)

-- what is not taken is not given back
pub first_free : (client : ClientNo) (tid : Tid) (loans : List Lent) (n : ℕ) (loan : Lent) → AreTaken n (loans_of client tid loans) → first_untaken client tid loans ≡ Some loan → loan.yielded ≡ false
first_free client tid [] n loan t found = absurd (cc found)
first_free client tid (x ∷ xs) n loan t found = by (λ (m : ℕ). first_free client tid xs m loan) (is_loan_of client tid x) refl
  where
    first : ((m : ℕ) → AreTaken m (loans_of client tid xs) → first_untaken client tid xs ≡ Some loan → loan.yielded ≡ false) → (m : ℕ) → is_loan_of client tid x ≡ true → AreTaken m (x ∷ loans_of client tid xs) → loan.yielded ≡ false
    first more zero is taken = ap (λ (l : Lent). l.yielded) (sym (some_same (rw (untaken_is client tid x true false is taken.0) at found))) ∙ taken.1.0
    first more (suc m) is taken = more m taken.1 (rw (untaken_is client tid x true true is taken.0) at found)

    by : ((m : ℕ) → AreTaken m (loans_of client tid xs) → first_untaken client tid xs ≡ Some loan → loan.yielded ≡ false) → (b : Bool) → is_loan_of client tid x ≡ b → loan.yielded ≡ false
    by more true is = first more n is (subst (AreTaken n) (its client tid x xs is) t)
    by more false is = more n (subst (AreTaken n) (not_its client tid x xs is) t) (rw (untaken_is client tid x false x.taken is refl) at found)

-- ---- the present one

abbrev at_last : ℕ → List Loan → Option Loan
at_last zero loans = None
at_last (suc n) loans = slice_get loans n

abbrev PresentAt : ClientNo → Tid → List Lent → ℕ → Type 0
PresentAt client tid loans n = loan_in (last_taken client tid loans) ≡ at_last n (map loan_of (loans_of client tid loans))

-- one that is not taken is not the last that is
skips : (client : ClientNo) (tid : Tid) (x : Lent) (xs : List Lent) → is_taken client tid x ≡ false → last_taken client tid (x ∷ xs) ≡ last_taken client tid xs
skips client tid x xs is = by (last_taken client tid xs)
  where
    by : (o : Option Lent) → (elim o [ Some other ↦ Some other | None ↦ if is_taken client tid x then Some x else None ]) ≡ o
    by (Some other) = refl
    by None = rw is refl

keeps_last : (client : ClientNo) (tid : Tid) (x last : Lent) (xs : List Lent) → last_taken client tid xs ≡ Some last → last_taken client tid (x ∷ xs) ≡ Some last
keeps_last client tid x last xs is = by (last_taken client tid xs) is
  where
    by : (o : Option Lent) → o ≡ Some last → (elim o [ Some other ↦ Some other | None ↦ if is_taken client tid x then Some x else None ]) ≡ Some last
    by (Some other) e = e
    by None e = absurd (cc e)

is_the_last : (client : ClientNo) (tid : Tid) (x : Lent) (xs : List Lent) → is_taken client tid x ≡ true → last_taken client tid xs ≡ None → last_taken client tid (x ∷ xs) ≡ Some x
is_the_last client tid x xs taken is = by (last_taken client tid xs) is
  where
    by : (o : Option Lent) → o ≡ None → (elim o [ Some other ↦ Some other | None ↦ if is_taken client tid x then Some x else None ]) ≡ Some x
    by (Some other) e = absurd (cc e)
    by None e = rw taken refl

no_loan_in : (o : Option Lent) → loan_in o ≡ None → o ≡ None
no_loan_in None e = refl
no_loan_in (Some lent) e = absurd (cc e)

has_one : (n : ℕ) (loans : List Lent) → AreTaken (suc n) loans → slice_get (map loan_of loans) n ≡ None → ⊥
has_one n [] t e = absurd t
has_one zero (x ∷ xs) t e = absurd (cc e)
has_one (suc n) (x ∷ xs) t e = has_one n xs t.1 e

present_at : (client : ClientNo) (tid : Tid) (loans : List Lent) (n : ℕ) → AreTaken n (loans_of client tid loans) → PresentAt client tid loans n
present_at client tid [] zero t = refl
present_at client tid [] (suc n) t = absurd t
present_at client tid (x ∷ xs) n t = by (λ (m : ℕ). present_at client tid xs m) (is_loan_of client tid x) refl
  where
    some_left : (m : ℕ) (o : Option Lent) → last_taken client tid xs ≡ o → loan_in o ≡ slice_get (map loan_of (loans_of client tid xs)) m → AreTaken (suc m) (loans_of client tid xs)
        → loan_in (last_taken client tid (x ∷ xs)) ≡ slice_get (map loan_of (loans_of client tid xs)) m
    some_left m None is same taken = absurd (has_one m (loans_of client tid xs) taken (sym same))
    some_left m (Some last) is same taken = ap loan_in (keeps_last client tid x last xs is) ∙ same

    first : ((m : ℕ) → AreTaken m (loans_of client tid xs) → PresentAt client tid xs m) → (m : ℕ) → (is_loan_of client tid x ≡ true) → AreTaken m (x ∷ loans_of client tid xs)
        → loan_in (last_taken client tid (x ∷ xs)) ≡ at_last m (map loan_of (x ∷ loans_of client tid xs))
    first more zero is taken = ap loan_in (skips client tid x xs (taken_is client tid x true false is taken.0)) ∙ more zero taken.1.1
    first more (suc zero) is taken = ap loan_in (is_the_last client tid x xs (taken_is client tid x true true is taken.0) (no_loan_in (last_taken client tid xs) (more zero taken.1)))
    first more (suc (suc m)) is taken = some_left m (last_taken client tid xs) refl (more (suc m) taken.1) taken.1

    by : ((m : ℕ) → AreTaken m (loans_of client tid xs) → PresentAt client tid xs m) → (b : Bool) → is_loan_of client tid x ≡ b → PresentAt client tid (x ∷ xs) n
    by more true is = subst (λ (l : List Lent). loan_in (last_taken client tid (x ∷ xs)) ≡ at_last n (map loan_of l)) (sym (its client tid x xs is)) (first more n is (subst (AreTaken n) (its client tid x xs is) t))
    by more false is = subst (λ (l : List Lent). loan_in (last_taken client tid (x ∷ xs)) ≡ at_last n (map loan_of l)) (sym (not_its client tid x xs is))
        (ap loan_in (skips client tid x xs (taken_is client tid x false x.taken is refl)) ∙ more n (subst (AreTaken n) (not_its client tid x xs is) t))

last_of : (n : ℕ) (loans : List Loan) → at_last n loans ≡ (if n == 0 then None else slice_get loans (n - 1))
last_of zero loans = refl
last_of (suc n) loans = rw (not_zero n, less_one n) refl
  where
    not_zero : (n : ℕ) → (suc n == 0) ≡ false
    not_zero n = grind (arith, nat_tests)

    less_one : (n : ℕ) → suc n - 1 ≡ n
    less_one n = omega arith

pub present_is_present : PresentIsPresent
present_is_present client tid loans b h = present_at client tid loans b.taken h.taken ∙ (ap (at_last b.taken) (sym h.loans_are) ∙ last_of b.taken b.loans)

-- ---- a take

abbrev TakeAt : ClientNo → Tid → List Lent → ℕ → Type 0
TakeAt client tid loans n = (map loan_of (loans_of client tid (take_first client tid loans)) ≡ map loan_of (loans_of client tid loans)) × AreTaken (suc n) (loans_of client tid (take_first client tid loans))

take_at : (client : ClientNo) (tid : Tid) (loan : Lent) (loans : List Lent) (n : ℕ) → first_untaken client tid loans ≡ Some loan → AreTaken n (loans_of client tid loans) → TakeAt client tid loans n
take_at client tid loan [] n found t = absurd (cc found)
take_at client tid loan (x ∷ xs) n found t = by (λ (m : ℕ). take_at client tid loan xs m) (is_loan_of client tid x) refl
  where
    first : ((m : ℕ) → first_untaken client tid xs ≡ Some loan → AreTaken m (loans_of client tid xs) → TakeAt client tid xs m) → (m : ℕ) → (is_loan_of client tid x ≡ true) → AreTaken m (x ∷ loans_of client tid xs)
        → (map loan_of (loans_of client tid (take_first client tid (x ∷ xs))) ≡ map loan_of (x ∷ loans_of client tid xs)) × AreTaken (suc m) (loans_of client tid (take_first client tid (x ∷ xs)))
    first more zero is taken =
        let it : take_first client tid (x ∷ xs) ≡ record x { taken = true } ∷ xs = rw (untaken_is client tid x true false is taken.0) refl in
        let there : loans_of client tid (record x { taken = true } ∷ xs) ≡ record x { taken = true } ∷ loans_of client tid xs = its client tid (record x { taken = true }) xs is in
        subst (λ (l : List Lent). (map loan_of l ≡ map loan_of (x ∷ loans_of client tid xs)) × AreTaken 1 l) (sym (ap (loans_of client tid) it ∙ there)) (refl, (refl, taken.1.1))
    first more (suc m) is taken =
        let no : is_untaken client tid x ≡ false = untaken_is client tid x true true is taken.0 in
        let rest = more m (rw no at found) taken.1 in
        let it : take_first client tid (x ∷ xs) ≡ x ∷ take_first client tid xs = rw no refl in
        subst (λ (l : List Lent). (map loan_of l ≡ map loan_of (x ∷ loans_of client tid xs)) × AreTaken (suc (suc m)) l) (sym (ap (loans_of client tid) it ∙ its client tid x (take_first client tid xs) is))
        (ap (λ (l : List Loan). loan_of x ∷ l) rest.0, (taken.0, rest.1))

    by : ((m : ℕ) → first_untaken client tid xs ≡ Some loan → AreTaken m (loans_of client tid xs) → TakeAt client tid xs m) → (b : Bool) → is_loan_of client tid x ≡ b → TakeAt client tid (x ∷ xs) n
    by more true is = subst (λ (l : List Lent). (map loan_of (loans_of client tid (take_first client tid (x ∷ xs))) ≡ map loan_of l) × AreTaken (suc n) (loans_of client tid (take_first client tid (x ∷ xs)))) (sym (its client tid x xs is))
        (first more n is (subst (AreTaken n) (its client tid x xs is) t))
    by more false is =
        let no : is_untaken client tid x ≡ false = untaken_is client tid x false x.taken is refl in
        let rest = more n (rw no at found) (subst (AreTaken n) (not_its client tid x xs is) t) in
        let it : take_first client tid (x ∷ xs) ≡ x ∷ take_first client tid xs = rw no refl in
        subst (λ (l : List Lent). (map loan_of l ≡ map loan_of (loans_of client tid (x ∷ xs))) × AreTaken (suc n) l) (sym (ap (loans_of client tid) it ∙ not_its client tid x (take_first client tid xs) is))
        (subst (λ (l : List Lent). (map loan_of (loans_of client tid (take_first client tid xs)) ≡ map loan_of l) × AreTaken (suc n) (loans_of client tid (take_first client tid xs))) (sym (not_its client tid x xs is)) rest)

one_more : (n : ℕ) → suc n ≡ n + 1
one_more n = omega arith

pub takes_go : TakesGo
takes_go client tid loans b loan found h =
    let both = take_at client tid loan loans b.taken found h.taken in
    record { loans_are = h.loans_are ∙ sym both.0; taken = subst (λ (n : ℕ). AreTaken n (loans_of client tid (take_first client tid loans))) (one_more b.taken) both.1 }

-- ---- one more loan

new_is : (client : ClientNo) (tid : Tid) (inc : ℕ) → is_loan_of client tid (new_loan client tid inc) ≡ true
new_is client tid inc = rw (eqb-self client.0, same_tid-self tid) refl

map_last : (xs : List Lent) (x : Lent) → map loan_of (xs ++ x ∷ []) ≡ map loan_of xs ++ loan_of x ∷ []
map_last [] x = refl
map_last (y ∷ ys) x = ap (λ (l : List Loan). loan_of y ∷ l) (map_last ys x)

taken_more : (n : ℕ) (xs : List Lent) (x : Lent) → x.taken ≡ false → x.yielded ≡ false → AreTaken n xs → AreTaken n (xs ++ x ∷ [])
taken_more zero [] x is free t = (is, (free, tt))
taken_more (suc n) [] x is free t = absurd t
taken_more zero (y ∷ ys) x is free t = (t.0, (t.1.0, taken_more zero ys x is free t.1.1))
taken_more (suc n) (y ∷ ys) x is free t = (t.0, taken_more n ys x is free t.1)

pub loans_go : LoansGo
loans_go client tid loans b inc h =
    let there : loans_of client tid (loans ++ new_loan client tid inc ∷ []) ≡ loans_of client tid loans ++ new_loan client tid inc ∷ [] =
    filter-append (is_loan_of client tid) loans (new_loan client tid inc ∷ []) ∙ ap (λ (l : List Lent). loans_of client tid loans ++ l) (its client tid (new_loan client tid inc) [] (new_is client tid inc)) in
    record {
      loans_are = ap (λ (l : List Loan). l ++ record { inc = inc; given_back = false } ∷ []) h.loans_are ∙ sym (ap (map loan_of) there ∙ map_last (loans_of client tid loans) (new_loan client tid inc));
      taken = subst (AreTaken b.taken) (sym there) (taken_more b.taken (loans_of client tid loans) (new_loan client tid inc) refl refl h.taken);
    }

-- ---- a yield

changed_suc : (n : ℕ) (y : Loan) (l : List Loan) → changed_at (suc n) given_back (y ∷ l) ≡ y ∷ changed_at n given_back l
changed_suc n y l = by (slice_get l n)
  where
    by : (o : Option Loan) → (elim o [ None ↦ y ∷ l | Some x ↦ y ∷ slice_set l n (given_back x) ]) ≡ y ∷ (elim o [ None ↦ l | Some x ↦ slice_set l n (given_back x) ])
    by None = refl
    by (Some x) = refl

pub passes : (client : ClientNo) (tid : Tid) (x : Lent) (xs : List Lent) → (is_taken client tid x && not (is_some (last_taken client tid xs))) ≡ false → give_back client tid (x ∷ xs) ≡ x ∷ give_back client tid xs
passes client tid x xs e = rw e refl

pub gives : (client : ClientNo) (tid : Tid) (x : Lent) (xs : List Lent) → (is_taken client tid x && not (is_some (last_taken client tid xs))) ≡ true → give_back client tid (x ∷ xs) ≡ record x { yielded = true } ∷ xs
gives client tid x xs e = rw e refl

abbrev GiveAt : ClientNo → Tid → List Lent → ℕ → Type 0
GiveAt client tid loans n = (map loan_of (loans_of client tid (give_back client tid loans)) ≡ changed_at n given_back (map loan_of (loans_of client tid loans))) × AreTaken (suc n) (loans_of client tid (give_back client tid loans))

give_at : (client : ClientNo) (tid : Tid) (loans : List Lent) (n : ℕ) → AreTaken (suc n) (loans_of client tid loans) → GiveAt client tid loans n
give_at client tid [] n t = absurd t
give_at client tid (x ∷ xs) n t = by (λ (m : ℕ). give_at client tid xs m) (is_loan_of client tid x) refl
  where
    later_one : (m : ℕ) (o : Option Lent) → last_taken client tid xs ≡ o → loan_in o ≡ slice_get (map loan_of (loans_of client tid xs)) m → AreTaken (suc m) (loans_of client tid xs)
        → (is_taken client tid x && not (is_some (last_taken client tid xs))) ≡ false
    later_one m None is same taken = absurd (has_one m (loans_of client tid xs) taken (sym same))
    later_one m (Some last) is same taken = rw is (and_false (is_taken client tid x))

    first : ((m : ℕ) → AreTaken (suc m) (loans_of client tid xs) → GiveAt client tid xs m) → (m : ℕ) → (is_loan_of client tid x ≡ true) → AreTaken (suc m) (x ∷ loans_of client tid xs)
        → (map loan_of (loans_of client tid (give_back client tid (x ∷ xs))) ≡ changed_at m given_back (map loan_of (x ∷ loans_of client tid xs))) × AreTaken (suc m) (loans_of client tid (give_back client tid (x ∷ xs)))
    first more zero is taken =
        let none : last_taken client tid xs ≡ None = no_loan_in (last_taken client tid xs) (present_at client tid xs 0 taken.1) in
        let it : give_back client tid (x ∷ xs) ≡ record x { yielded = true } ∷ xs = gives client tid x xs (rw (taken_is client tid x true true is taken.0, none) refl) in
        subst (λ (l : List Lent). (map loan_of l ≡ changed_at 0 given_back (map loan_of (x ∷ loans_of client tid xs))) × AreTaken 1 l) (sym (ap (loans_of client tid) it ∙ its client tid (record x { yielded = true }) xs is))
        (refl, (taken.0, taken.1))
    first more (suc m) is taken =
        let it : give_back client tid (x ∷ xs) ≡ x ∷ give_back client tid xs = passes client tid x xs (later_one m (last_taken client tid xs) refl (present_at client tid xs (suc m) taken.1) taken.1) in
        let rest = more m taken.1 in
        subst (λ (l : List Lent). (map loan_of l ≡ changed_at (suc m) given_back (map loan_of (x ∷ loans_of client tid xs))) × AreTaken (suc (suc m)) l) (sym (ap (loans_of client tid) it ∙ its client tid x (give_back client tid xs) is))
        (ap (λ (l : List Loan). loan_of x ∷ l) rest.0 ∙ sym (changed_suc m (loan_of x) (map loan_of (loans_of client tid xs))), (taken.0, rest.1))

    by : ((m : ℕ) → AreTaken (suc m) (loans_of client tid xs) → GiveAt client tid xs m) → (b : Bool) → is_loan_of client tid x ≡ b → GiveAt client tid (x ∷ xs) n
    by more true is = subst (λ (l : List Lent). (map loan_of (loans_of client tid (give_back client tid (x ∷ xs))) ≡ changed_at n given_back (map loan_of l)) × AreTaken (suc n) (loans_of client tid (give_back client tid (x ∷ xs)))) (sym (its client tid x xs is))
        (first more n is (subst (AreTaken (suc n)) (its client tid x xs is) t))
    by more false is =
        let it : give_back client tid (x ∷ xs) ≡ x ∷ give_back client tid xs = passes client tid x xs (rw (taken_is client tid x false x.taken is refl) refl) in
        let rest = more n (subst (AreTaken (suc n)) (not_its client tid x xs is) t) in
        subst (λ (l : List Lent). (map loan_of l ≡ changed_at n given_back (map loan_of (loans_of client tid (x ∷ xs)))) × AreTaken (suc n) l) (sym (ap (loans_of client tid) it ∙ not_its client tid x (give_back client tid xs) is))
        (subst (λ (l : List Lent). (map loan_of (loans_of client tid (give_back client tid xs)) ≡ changed_at n given_back (map loan_of l)) × AreTaken (suc n) (loans_of client tid (give_back client tid xs))) (sym (not_its client tid x xs is)) rest)

pub yields_go : YieldsGo
yields_go client tid loans b loan found h = by b.taken refl
  where
    one_less : (n : ℕ) → suc n - 1 ≡ n
    one_less n = omega arith

    by : (n : ℕ) → b.taken ≡ n → HoldsBorrowing (loans_of client tid (give_back client tid loans)) (gave_back b)
    by zero is =
        let none : last_taken client tid loans ≡ None = no_loan_in (last_taken client tid loans) (present_at client tid loans 0 (subst (λ (m : ℕ). AreTaken m (loans_of client tid loans)) is h.taken)) in
        absurd (some_none loan (sym found ∙ none))
    by (suc n) is =
        let both = give_at client tid loans n (subst (λ (m : ℕ). AreTaken m (loans_of client tid loans)) is h.taken) in
        record {
          loans_are = ap (λ (l : List Loan). changed_at (b.taken - 1) given_back l) h.loans_are ∙ (ap (λ (m : ℕ). changed_at m given_back (map loan_of (loans_of client tid loans))) (ap (λ (m : ℕ). m - 1) is ∙ one_less n) ∙ sym both.0);
          taken = subst (λ (m : ℕ). AreTaken m (loans_of client tid (give_back client tid loans))) (sym is) both.1;
        }
