-- Taking and giving back change the loan at one place.
use Rattle.std.proofs.Common.{◌≡◌, ◌∙◌, ◌<◌, ◌≤◌, ℕ, zero, suc, ◌+◌, List, [], ◌∷◌, ◌++◌, get_or, take, slice_set, slice_index_or, length, refl, sym, ap, subst, arith}
use Rattle.std.specs.Prelude.{Bool, Option, Some, None, true, false, not, ◌&&◌, cond, nat_lt, is_some, if◌then◌else◌}
use Rattle.std.specs.List.{find, position, position_or_len}
use Rattle.std.proofs.lemmas.Bool.Decides.{nat_tests}
use Rattle.std.proofs.lemmas.List.{take_more, set-append_left, length-append, length-take-le}
use Rattle.std.proofs.lemmas.List.Quantifiers.{position-Some}
use Rattle.qs_base.specs.declared.identifiers.ClientNo.{ClientNo}
use Rattle.qs_base.specs.declared.identifiers.Tid.{Tid}
use Rattle.qs_node_kept.specs.declared.kept.Lent.{Lent}
use Rattle.qs_node_kept.specs.Loans.{is_untaken, is_taken, take_first, last_taken, give_back}
use Rattle.qs_node_kept.specs.Places.{TakesAt, TakesNone, Yields, later_taken}

-- ---- the first that was not taken

pub take_first_at : (client : ClientNo) (tid : Tid) (xs : List Lent) (i : ℕ) (r d : Lent) → i < length xs → is_untaken client tid (get_or xs i d) ≡ true
    → ((k : ℕ) → k < i → is_untaken client tid (get_or xs k d) ≡ false) → r ≡ get_or xs i d → slice_set xs i (record r { taken = true }) ≡ take_first client tid xs
take_first_at client tid [] i r d l is before e = absurd (omega arith)
take_first_at client tid (x ∷ xs) zero r d l is before e = rw is (ap (λ (q : Lent). record q { taken = true } ∷ xs) e)
take_first_at client tid (x ∷ xs) (suc i) r d l is before e =
    let first : is_untaken client tid x ≡ false = before 0 (omega arith) in
    rw first (ap (λ (l : List Lent). x ∷ l) (take_first_at client tid xs i r d (omega arith) is (λ k less. before (suc k) (omega arith)) e))

none_below : (a b : ℕ) → cond (nat_lt a b) (Some a) None ≡ None → b ≤ a
none_below a b h = grind (arith, nat_tests)

none_untaken : (client : ClientNo) (tid : Tid) (xs : List Lent) → length xs ≤ position_or_len (is_untaken client tid) xs → TakesNone client tid xs
none_untaken client tid [] long = record { first = refl; taken = refl }
none_untaken client tid (x ∷ xs) long = by (is_untaken client tid x) refl (none_untaken client tid xs) long
  where
    by : (b : Bool) → is_untaken client tid x ≡ b → (length xs ≤ position_or_len (is_untaken client tid) xs → TakesNone client tid xs)
        → suc (length xs) ≤ cond (not b) (1 + position_or_len (is_untaken client tid) xs) 0 → TakesNone client tid (x ∷ xs)
    by true is more l = absurd (omega arith)
    by false is more l =
        let rest = more (omega arith) in
        record { first = rw is rest.first; taken = rw is (ap (λ (l : List Lent). x ∷ l) rest.taken) }

pub takes_none : (client : ClientNo) (tid : Tid) (xs : List Lent) → position (is_untaken client tid) xs ≡ None → TakesNone client tid xs
takes_none client tid xs h = none_untaken client tid xs (none_below (position_or_len (is_untaken client tid) xs) (length xs) h)

-- a loan that stands nowhere
abbrev pub no_loan : Lent
no_loan = record { tid = record { home = record { 0 = 0 }; inc = 0; seq = 0 }; client = record { 0 = 0 }; inc = 0; taken = false; yielded = false }

first_at : (test : Lent → Bool) (xs : List Lent) (i : ℕ) → i < length xs → test (slice_index_or xs i no_loan) ≡ true
    → ((k : ℕ) → k < i → test (get_or xs k no_loan) ≡ false) → find test xs ≡ Some (slice_index_or xs i no_loan)
first_at test [] i within is before = absurd (omega arith)
first_at test (x ∷ xs) zero within is before = rw is refl
first_at test (x ∷ xs) (suc i) within is before =
    let first : test x ≡ false = before 0 (omega arith) in
    rw first (first_at test xs i (omega (arith, within)) is (λ k less. before (suc k) (omega (arith, less))))

pub takes_at : (client : ClientNo) (tid : Tid) (xs : List Lent) (i : ℕ) → position (is_untaken client tid) xs ≡ Some i
    → TakesAt client tid xs i (slice_index_or xs i no_loan)
takes_at client tid xs i h =
    let found = position-Some (is_untaken client tid) xs i no_loan h in
    record {
      within = found.0;
      first = first_at (is_untaken client tid) xs i found.0 found.1 found.2;
      taken = sym (take_first_at client tid xs i (slice_index_or xs i no_loan) no_loan found.0 found.1 found.2 refl);
    }

-- ---- the last that was taken

and-false : {A : Type 0} (b : Bool) (x y : A) → (if b && false then x else y) ≡ y
and-false true x y = refl
and-false false x y = refl

if-on : {A : Type 0} (b : Bool) (x y z : A) → y ≡ z → (if b then x else y) ≡ (if b then x else z)
if-on true x y z e = refl
if-on false x y z e = e

if-append : {A : Type 0} (b : Bool) (xs ys zs : List A) → (if b then xs ++ zs else ys ++ zs) ≡ (if b then xs else ys) ++ zs
if-append true xs ys zs = refl
if-append false xs ys zs = refl

last-taken : (client : ClientNo) (tid : Tid) (xs : List Lent) (y : Lent) → is_taken client tid y ≡ true → last_taken client tid (xs ++ y ∷ []) ≡ Some y
last-taken client tid [] y is = rw is refl
last-taken client tid (x ∷ xs) y is = rw (last-taken client tid xs y is) refl

last-other : (client : ClientNo) (tid : Tid) (xs : List Lent) (y : Lent) → is_taken client tid y ≡ false → last_taken client tid (xs ++ y ∷ []) ≡ last_taken client tid xs
last-other client tid [] y is = rw is refl
last-other client tid (x ∷ xs) y is = rw (last-other client tid xs y is) refl

given-taken : (client : ClientNo) (tid : Tid) (xs : List Lent) (y : Lent) → is_taken client tid y ≡ true
    → give_back client tid (xs ++ y ∷ []) ≡ slice_set (xs ++ y ∷ []) (length xs) (record y { yielded = true })
given-taken client tid [] y is = rw is refl
given-taken client tid (x ∷ xs) y is =
    rw (last-taken client tid xs y is)
    (and-false (is_taken client tid x) (record x { yielded = true } ∷ (xs ++ y ∷ [])) (x ∷ give_back client tid (xs ++ y ∷ []))
    ∙ ap (λ (l : List Lent). x ∷ l) (given-taken client tid xs y is))

given-other : (client : ClientNo) (tid : Tid) (xs : List Lent) (y : Lent) → is_taken client tid y ≡ false
    → give_back client tid (xs ++ y ∷ []) ≡ give_back client tid xs ++ y ∷ []
given-other client tid [] y is = rw is refl
given-other client tid (x ∷ xs) y is =
    rw (last-other client tid xs y is)
    (let b = is_taken client tid x && not (is_some (last_taken client tid xs)) in
    if-on b (record x { yielded = true } ∷ (xs ++ y ∷ [])) (x ∷ give_back client tid (xs ++ y ∷ [])) (x ∷ (give_back client tid xs ++ y ∷ []))
    (ap (λ (l : List Lent). x ∷ l) (given-other client tid xs y is))
    ∙ if-append b (record x { yielded = true } ∷ xs) (x ∷ give_back client tid xs) (y ∷ []))

still_there : (client : ClientNo) (tid : Tid) (xs : List Lent) (y : Lent) (last : Option (ℕ × Lent)) → is_taken client tid y ≡ false
    → Yields client tid xs last → Yields client tid (xs ++ y ∷ []) last
still_there client tid xs y None is h = record {
  last = last-other client tid xs y is ∙ h.last;
  given = given-other client tid xs y is ∙ ap (λ (l : List Lent). l ++ y ∷ []) h.given;
}
still_there client tid xs y (Some (i, loan)) is h = record {
  within = rw (length-append xs (y ∷ [])) (omega (arith, h.within));
  last = last-other client tid xs y is ∙ h.last;
  given = given-other client tid xs y is ∙ ap (λ (l : List Lent). l ++ y ∷ []) h.given
      ∙ sym (set-append_left xs (y ∷ []) i (record loan { yielded = true }) h.within);
}

yields_next : (client : ClientNo) (tid : Tid) (xs : List Lent) (y : Lent) (last : Option (ℕ × Lent)) (b : Bool) → is_taken client tid y ≡ b
    → Yields client tid xs last → Yields client tid (xs ++ y ∷ []) (if b then Some (length xs, y) else last)
yields_next client tid xs y last true is h = record {
  within = rw (length-append xs (y ∷ [])) (omega arith);
  last = last-taken client tid xs y is;
  given = given-taken client tid xs y is;
}
yields_next client tid xs y last false is h = still_there client tid xs y last is h

pub yields_more : (client : ClientNo) (tid : Tid) (xs : List Lent) (i : ℕ) (y : Lent) (last next : Option (ℕ × Lent)) → i < length xs → y ≡ get_or xs i no_loan
    → next ≡ later_taken client tid last i y → Yields client tid (take i xs) last → Yields client tid (take (i + 1) xs) next
yields_more client tid xs i y last next within e step h =
    let short : length (take i xs) ≡ i = length-take-le i xs (omega (arith, within)) in
    rw (step, take_more xs i no_loan within, ← e)
    (subst (λ (n : ℕ). Yields client tid (take i xs ++ y ∷ []) (if is_taken client tid y then Some (n, y) else last)) short
    (yields_next client tid (take i xs) y last (is_taken client tid y) refl h))
