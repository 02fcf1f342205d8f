-- The loans of another client, or of another transaction, stay as one is taken or given back.
use Rattle.std.proofs.Common.{◌≡◌, ◌∙◌, Bool, true, false, List, [], ◌∷◌, refl, sym, ap}
use Rattle.std.specs.Prelude.{not, ◌&&◌, is_some}
use Rattle.qs_base_lemmas.proofs.Tests.{and_first}
use Rattle.qs_node_kept.specs.Loans.{give_back, is_loan_of, is_taken, is_untaken, last_taken, take_first}
use Rattle.qs_node_kept.specs.declared.kept.Lent.{Lent}
use Rattle.qs_world_course.specs.Loans.{loans_of}
use Rattle.qs_world_course.specs.LoanLaws.{OthersStay}
use Rattle.qs_world_course.proofs.LoansGo.{gives, its, not_its, passes}

pub others_stay : OthersStay
others_stay client other tid another loans apart = (takes loans, gives_other loans)
  where
    keeps : (x : Lent) (old new : List Lent) → loans_of other another new ≡ loans_of other another old → loans_of other another (x ∷ new) ≡ loans_of other another (x ∷ old)
    keeps x old new same = by (is_loan_of other another x) refl
      where
        by : (b : Bool) → is_loan_of other another x ≡ b → loans_of other another (x ∷ new) ≡ loans_of other another (x ∷ old)
        by true is = its other another x new is ∙ (ap (λ (l : List Lent). x ∷ l) same ∙ sym (its other another x old is))
        by false is = not_its other another x new is ∙ (same ∙ sym (not_its other another x old is))

    of_it : (x : Lent) (b : Bool) → (is_loan_of client tid x && b) ≡ true → is_loan_of other another x ≡ false
    of_it x b e = apart x (and_first (is_loan_of client tid x) b e)

    takes : (xs : List Lent) → loans_of other another (take_first client tid xs) ≡ loans_of other another xs
    takes [] = refl
    takes (x ∷ xs) = by (is_untaken client tid x) refl (takes xs)
      where
        by : (b : Bool) → is_untaken client tid x ≡ b → loans_of other another (take_first client tid xs) ≡ loans_of other another xs → loans_of other another (take_first client tid (x ∷ xs)) ≡ loans_of other another (x ∷ xs)
        by true is rest =
            let it : take_first client tid (x ∷ xs) ≡ record x { taken = true } ∷ xs = rw is refl in
            let no : is_loan_of other another x ≡ false = of_it x (not x.taken) is in
            ap (loans_of other another) it ∙ (not_its other another (record x { taken = true }) xs no ∙ sym (not_its other another x xs no))
        by false is rest =
            let it : take_first client tid (x ∷ xs) ≡ x ∷ take_first client tid xs = rw is refl in
            ap (loans_of other another) it ∙ keeps x xs (take_first client tid xs) rest

    gives_other : (xs : List Lent) → loans_of other another (give_back client tid xs) ≡ loans_of other another xs
    gives_other [] = refl
    gives_other (x ∷ xs) = by (is_taken client tid x && not (is_some (last_taken client tid xs))) refl (gives_other xs)
      where
        by : (b : Bool) → (is_taken client tid x && not (is_some (last_taken client tid xs))) ≡ b → loans_of other another (give_back client tid xs) ≡ loans_of other another xs
            → loans_of other another (give_back client tid (x ∷ xs)) ≡ loans_of other another (x ∷ xs)
        by true is rest =
            let no : is_loan_of other another x ≡ false = of_it x x.taken (and_first (is_loan_of client tid x && x.taken) (not (is_some (last_taken client tid xs))) is) in
            ap (loans_of other another) (gives client tid x xs is) ∙ (not_its other another (record x { yielded = true }) xs no ∙ sym (not_its other another x xs no))
        by false is rest = ap (loans_of other another) (passes client tid x xs is) ∙ keeps x xs (give_back client tid xs) rest
