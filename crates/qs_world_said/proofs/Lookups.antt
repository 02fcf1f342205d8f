-- Look-ups as lists are changed: of clients by number, of what is in hand, of labels and outcomes, and of loans.
use Rattle.std.proofs.Common.{◌≡◌, ◌∙◌, ℕ, ◌==◌, Bool, true, false, List, [], ◌∷◌, ◌++◌, Option, Some, None, inl, inr, refl, sym, ap, subst, arith}
use Rattle.std.specs.Prelude.{◌⊎◌, ◌&&◌, is_some, not, slice_get, slice_set, if◌then◌else◌}
use Rattle.std.proofs.lemmas.Bool.Decides.{nat_tests}
use Rattle.std.specs.BTreeMap.{is_at}
use Rattle.std.specs.Cmp.Lexicographic.{texts_ties}
use Rattle.std.specs.List.{find}
use Rattle.qs_base.specs.Order.{bytes_cmp, same_tid}
use Rattle.qs_base.specs.declared.identifiers.ClientNo.{ClientNo}
use Rattle.qs_base.specs.declared.identifiers.Tid.{Tid}
use Rattle.qs_base.proofs.Same.{same_bytes-true}
use Rattle.qs_base_lemmas.proofs.Tests.{and_first, eqb-self, some_same}
use Rattle.qs_book_laws.proofs.Maps.{changed_at_either}
use Rattle.qs_book_machine.specs.Book.{changed_at}
use Rattle.qs_book_journal.specs.declared.script_line.ScriptLine.{ScriptLine}
use Rattle.qs_book_conformance.specs.Course.{first_of}
use Rattle.qs_node_kept.specs.Keeping.{has_label}
use Rattle.qs_node_kept.specs.Loans.{give_back, is_loan_of, is_taken, is_untaken, last_taken, take_first}
use Rattle.qs_node_kept.specs.declared.kept.KeptLabel.{KeptLabel}
use Rattle.qs_node_kept.specs.declared.kept.Lent.{Lent}
use Rattle.qs_node_step.specs.State.{client_cmp}
use Rattle.qs_world_lawful.proofs.Answers.{client_exact}
use Rattle.qs_world_course.specs.Loans.{loans_of, new_loan}

-- ---- clients by number

pub same_number : (c d : ClientNo) → (c.0 == d.0) ≡ true → c ≡ d
same_number c d e = ap (λ (n : ℕ). record { 0 = n }) (same c.0 d.0 e)
  where
    same : (a b : ℕ) → (a == b) ≡ true → a ≡ b
    same a b is = grind (arith, nat_tests, is)

-- another client is at another place
pub far_at : (c d : ClientNo) → (c.0 == d.0) ≡ false → (x : ClientNo) → is_at (client_cmp d) x ≡ true → is_at (client_cmp c) x ≡ false
far_at c d far x at = subst (λ (y : ClientNo). is_at (client_cmp c) y ≡ false) (client_exact d x at) (by (is_at (client_cmp c) d) refl)
  where
    by : (b : Bool) → is_at (client_cmp c) d ≡ b → b ≡ false
    by false e = refl
    by true e = absurd (cc (sym (eqb-self c.0) ∙ (ap (λ (y : ClientNo). c.0 == y.0) (client_exact c d e) ∙ far)))

pub not_at : (c d : ClientNo) → (c.0 == d.0) ≡ false → is_at (client_cmp d) c ≡ false
not_at c d far = by (is_at (client_cmp d) c) refl
  where
    by : (b : Bool) → is_at (client_cmp d) c ≡ b → b ≡ false
    by false e = refl
    by true e = absurd (cc (sym (eqb-self c.0) ∙ (ap (λ (y : ClientNo). c.0 == y.0) (sym (client_exact d c e)) ∙ far)))

-- the others of a list of which one is changed
pub changed_far : {X : Type 0} (f : X → X) (xs : List X) (i j : ℕ) → (i == j) ≡ false → slice_get (changed_at i f xs) j ≡ slice_get xs j
changed_far {X} f xs i j far = by (slice_get xs i) refl
  where
    differ : j ≡ i → (i == j) ≡ false → ⊥
    differ e off = grind (arith, nat_tests)

    at : (v : X) → ((j ≡ i) × (slice_get xs j ≡ Some v) × (slice_get (changed_at i f xs) j ≡ Some (f v))) ⊎ (slice_get (changed_at i f xs) j ≡ slice_get xs j) → slice_get (changed_at i f xs) j ≡ slice_get xs j
    at v (inl is) = absurd (differ is.0 far)
    at v (inr is) = is

    by : (o : Option X) → slice_get xs i ≡ o → slice_get (changed_at i f xs) j ≡ slice_get xs j
    by None none = subst (λ (o : Option X). slice_get (elim o [ None ↦ xs | Some x ↦ slice_set xs i (f x) ]) j ≡ slice_get xs j) (sym none) refl
    by (Some v) there = at v (changed_at_either f xs i j v there)

-- ---- lines

pub first_left : (lines : List ScriptLine) (line : ScriptLine) → first_of lines ≡ Some line → (rest : List ScriptLine) × (lines ≡ line ∷ rest)
first_left [] line none = absurd (cc none)
first_left (x ∷ xs) line is = (xs, ap (λ (l : ScriptLine). l ∷ xs) (some_same is))

-- ---- what is found before one more, and what is found behind it

pub found_before : {X : Type 0} (p : X → Bool) (xs : List X) (x y : X) → find p xs ≡ Some y → find p (xs ++ x ∷ []) ≡ Some y
found_before p [] x y there = absurd (cc there)
found_before p (z ∷ zs) x y there = by (p z) refl (found_before p zs x y)
  where
    by : (b : Bool) → p z ≡ b → (find p zs ≡ Some y → find p (zs ++ x ∷ []) ≡ Some y) → find p (z ∷ (zs ++ x ∷ [])) ≡ Some y
    by true is more = rw is (rw is at there)
    by false is more = rw is (more (rw is at there))

pub exact_label : (n m : List ℕ) → is_at (bytes_cmp n) m ≡ true → n ≡ m
exact_label n m is = same_bytes-true n m (texts_ties n m ∙ is)

abbrev pub IsFoundOr : List ℕ → List KeptLabel → KeptLabel → KeptLabel → Type 0
IsFoundOr label xs y begun = (find (has_label label) xs ≡ Some begun) ⊎ ((y ≡ begun) × (label ≡ y.label))

pub find_last : (label : List ℕ) (xs : List KeptLabel) (y begun : KeptLabel) → find (has_label label) (xs ++ y ∷ []) ≡ Some begun → IsFoundOr label xs y begun
find_last label [] y begun found = by (has_label label y) refl
  where
    by : (b : Bool) → has_label label y ≡ b → IsFoundOr label [] y begun
    by true is = inr (some_same (rw is at found), exact_label label y.label is)
    by false is = absurd (cc (rw is at found))
find_last label (x ∷ xs) y begun found = by (has_label label x) refl (λ f. find_last label xs y begun f)
  where
    by : (b : Bool) → has_label label x ≡ b → (find (has_label label) (xs ++ y ∷ []) ≡ Some begun → IsFoundOr label xs y begun) → IsFoundOr label (x ∷ xs) y begun
    by true is rest = inl (rw is (rw is at found))
    by false is rest = later (rest (rw is at found))
      where
        later : IsFoundOr label xs y begun → IsFoundOr label (x ∷ xs) y begun
        later (inl there) = inl (rw is there)
        later (inr last) = inr last

-- ---- loans: those of another client, as one is taken, given back or made

pub of_other_client : (client other : ClientNo) (tid another : Tid) (loan : Lent) → (client.0 == other.0) ≡ false → is_loan_of client tid loan ≡ true → is_loan_of other another loan ≡ false
of_other_client client other tid another loan far is = by (loan.client.0 == other.0) refl
  where
    its : (loan.client.0 == client.0) ≡ true
    its = and_first (loan.client.0 == client.0) (same_tid loan.tid tid) is

    never : (a b c : ℕ) → (a == b) ≡ true → (a == c) ≡ true → (b == c) ≡ false → ⊥
    never a b c e f off = grind (arith, nat_tests)

    by : (b : Bool) → (loan.client.0 == other.0) ≡ b → is_loan_of other another loan ≡ false
    by true e = absurd (never loan.client.0 client.0 other.0 its e far)
    by false e = rw e refl

-- the last that is taken stays, where one is changed that is not its client's
module _ (client other : ClientNo) (tid another : Tid) (apart : (loan : Lent) → is_loan_of client tid loan ≡ true → is_loan_of other another loan ≡ false) where
  abbrev later : Lent → Bool → Option Lent → Option Lent
  later x taken o = elim o [ Some found ↦ Some found | None ↦ if taken then Some x else None ]

  not_taken : (x : Lent) → is_loan_of client tid x ≡ true → (b : Bool) → (is_loan_of other another x && b) ≡ false
  not_taken x is b = rw (apart x is) refl

  same_last : (x y : Lent) (xs : List Lent) → (is_taken other another x ≡ false) → (is_taken other another y ≡ false) → last_taken other another (y ∷ xs) ≡ last_taken other another (x ∷ xs)
  same_last x y xs e f = by (last_taken other another xs)
    where
      by : (o : Option Lent) → later y (is_taken other another y) o ≡ later x (is_taken other another x) o
      by (Some found) = refl
      by None = rw (e, f) refl

  pub last_takes : (xs : List Lent) → last_taken other another (take_first client tid xs) ≡ last_taken other another xs
  last_takes [] = refl
  last_takes (x ∷ xs) = by (is_untaken client tid x) refl (last_takes xs)
    where
      by : (b : Bool) → is_untaken client tid x ≡ b → last_taken other another (take_first client tid xs) ≡ last_taken other another xs → last_taken other another (take_first client tid (x ∷ xs)) ≡ last_taken other another (x ∷ xs)
      by true is rest =
          let it : take_first client tid (x ∷ xs) ≡ record x { taken = true } ∷ xs = rw is refl in
          let its : is_loan_of client tid x ≡ true = and_first (is_loan_of client tid x) (not x.taken) is in
          ap (last_taken other another) it ∙ same_last x (record x { taken = true }) xs (not_taken x its x.taken) (not_taken x its true)
      by false is rest =
          let it : take_first client tid (x ∷ xs) ≡ x ∷ take_first client tid xs = rw is refl in
          ap (last_taken other another) it ∙ ap (later x (is_taken other another x)) rest

  pub last_gives : (xs : List Lent) → last_taken other another (give_back client tid xs) ≡ last_taken other another xs
  last_gives [] = refl
  last_gives (x ∷ xs) = by (is_taken client tid x && not (is_some (last_taken client tid xs))) refl (last_gives xs)
    where
      by : (b : Bool) → (is_taken client tid x && not (is_some (last_taken client tid xs))) ≡ b → last_taken other another (give_back client tid xs) ≡ last_taken other another xs
          → last_taken other another (give_back client tid (x ∷ xs)) ≡ last_taken other another (x ∷ xs)
      by true is rest =
          let it : give_back client tid (x ∷ xs) ≡ record x { yielded = true } ∷ xs = rw is refl in
          let its : is_loan_of client tid x ≡ true = and_first (is_loan_of client tid x) x.taken (and_first (is_taken client tid x) (not (is_some (last_taken client tid xs))) is) in
          ap (last_taken other another) it ∙ same_last x (record x { yielded = true }) xs (not_taken x its x.taken) (not_taken x its x.taken)
      by false is rest =
          let it : give_back client tid (x ∷ xs) ≡ x ∷ give_back client tid xs = rw is refl in
          ap (last_taken other another) it ∙ ap (later x (is_taken other another x)) rest

-- a loan that is made is taken by none yet, and is of its client
pub last_stays : (client c : ClientNo) (tid t : Tid) (inc : ℕ) (loans : List Lent) → last_taken client tid (loans ++ new_loan c t inc ∷ []) ≡ last_taken client tid loans
last_stays client c tid t inc [] = by (is_loan_of client tid (new_loan c t inc)) refl
  where
    by : (b : Bool) → is_loan_of client tid (new_loan c t inc) ≡ b → last_taken client tid (new_loan c t inc ∷ []) ≡ None
    by true e = rw e refl
    by false e = rw e refl
last_stays client c tid t inc (x ∷ xs) = ap (λ (o : Option Lent). elim o [ Some other ↦ Some other | None ↦ if is_taken client tid x then Some x else None ]) (last_stays client c tid t inc xs)

pub lent_far : (client other : ClientNo) (tid another : Tid) (inc : ℕ) (loans : List Lent) → (client.0 == other.0) ≡ false → loans_of other another (loans ++ new_loan client tid inc ∷ []) ≡ loans_of other another loans
lent_far client other tid another inc [] far = rw far refl
lent_far client other tid another inc (x ∷ xs) far = by (is_loan_of other another x) refl (lent_far client other tid another inc xs far)
  where
    by : (b : Bool) → is_loan_of other another x ≡ b → loans_of other another (xs ++ new_loan client tid inc ∷ []) ≡ loans_of other another xs → loans_of other another (x ∷ (xs ++ new_loan client tid inc ∷ [])) ≡ loans_of other another (x ∷ xs)
    by true e more = rw e (ap (λ (l : List Lent). x ∷ l) more)
    by false e more = rw e more
