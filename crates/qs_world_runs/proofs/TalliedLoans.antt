-- What is lent is of transactions of which numbers were given: a loan is made of one, is taken, and is given back.
use Rattle.qs_world_runs.proofs.Words.{◌≡◌, ◌⊎◌, inl, inr, ℕ, ◌==◌, ◌||◌, ◌&&◌, not, arith, Bool, true, false, List, [], ◌∷◌, ◌++◌, Option, Some, None, refl, sym, subst, ◌∙◌, if◌then◌else◌, nat_tests, list_any, is_some, same_tid, ClientNo, Tid, give_back, is_standing_loan, is_taken, last_taken, take_first, Lent, same_or_apart, clash, of_some, AreTallied, IsBare, IsTallied, Tally, or_parts, or_right, or_left}
use Rattle.qs_node_kept.specs.Loans.{is_untaken}
use Rattle.qs_world_lawful.proofs.Apart.{Apart}
use Rattle.std.proofs.lemmas.Bool.{or_from}

-- ---- loans that stand

any_last : (p : Lent → Bool) (loans : List Lent) (loan : Lent) → p loan ≡ false → list_any p loans ≡ false → list_any p (loans ++ loan ∷ []) ≡ false
any_last p [] loan new none = rw new refl
any_last p (first ∷ loans) loan new none = by (p first) (list_any p loans) refl none (any_last p loans loan new)
  where
    by : (a b : Bool) → list_any p loans ≡ b → (a || b) ≡ false → (list_any p loans ≡ false → list_any p (loans ++ loan ∷ []) ≡ false) → (a || list_any p (loans ++ loan ∷ [])) ≡ false
    by true b e none more = absurd (cc none)
    by false true e none more = absurd (cc none)
    by false false e none more = more e

module _ (k : Tid) (inc : ℕ) where
  taken_off : (client : ClientNo) (tid : Tid) (loans : List Lent) → list_any (is_standing_loan k inc) loans ≡ false → list_any (is_standing_loan k inc) (take_first client tid loans) ≡ false
  taken_off client tid [] none = refl
  taken_off client tid (loan ∷ loans) none = by (is_untaken client tid loan) (taken_off client tid loans (or_parts (is_standing_loan k inc loan) (list_any (is_standing_loan k inc) loans) none).1)
    where
      by : (b : Bool) → list_any (is_standing_loan k inc) (take_first client tid loans) ≡ false → list_any (is_standing_loan k inc) (if b then record loan { taken = true } ∷ loans else loan ∷ take_first client tid loans) ≡ false
      by true rest = none
      by false rest = or_from (is_standing_loan k inc loan) (list_any (is_standing_loan k inc) (take_first client tid loans)) (or_parts (is_standing_loan k inc loan) (list_any (is_standing_loan k inc) loans) none).0 rest

  given_off : (client : ClientNo) (tid : Tid) (loans : List Lent) → list_any (is_standing_loan k inc) loans ≡ false → list_any (is_standing_loan k inc) (give_back client tid loans) ≡ false
  given_off client tid [] none = refl
  given_off client tid (loan ∷ loans) none = by (is_taken client tid loan && not (is_some (last_taken client tid loans))) (given_off client tid loans (or_parts (is_standing_loan k inc loan) (list_any (is_standing_loan k inc) loans) none).1)
    where
      parts : (is_standing_loan k inc loan ≡ false) × (list_any (is_standing_loan k inc) loans ≡ false)
      parts = or_parts (is_standing_loan k inc loan) (list_any (is_standing_loan k inc) loans) none

      back : (a : Bool) → (a && (not true && (loan.inc == inc))) ≡ false
      back true = refl
      back false = refl

      by : (b : Bool) → list_any (is_standing_loan k inc) (give_back client tid loans) ≡ false → list_any (is_standing_loan k inc) (if b then record loan { yielded = true } ∷ loans else loan ∷ give_back client tid loans) ≡ false
      by true rest = or_from (is_standing_loan k inc (record loan { yielded = true })) (list_any (is_standing_loan k inc) loans) (back (same_tid k loan.tid)) parts.1
      by false rest = or_from (is_standing_loan k inc loan) (list_any (is_standing_loan k inc) (give_back client tid loans)) parts.0 rest

-- ---- the present loan of a client stands where it was not given back and is of this incarnation

and_left : (a b c : Bool) → ((a && b) && c) ≡ true → b ≡ true
and_left true true c is = refl
and_left true false c is = absurd (cc is)
and_left false b c is = absurd (cc is)

turned : (s t : Tid) → same_tid s t ≡ true → same_tid t s ≡ true
turned s t is = grind (arith, nat_tests, is)

pub present_stands : (client : ClientNo) (tid : Tid) (inc : ℕ) (loan : Lent) (loans : List Lent) → last_taken client tid loans ≡ Some loan → loan.yielded ≡ false → (loan.inc == inc) ≡ true → list_any (is_standing_loan tid inc) loans ≡ true
present_stands client tid inc loan [] found given now = absurd (cc found)
present_stands client tid inc loan (first ∷ loans) found given now = by (last_taken client tid loans) refl found (present_stands client tid inc loan loans)
  where
    stands : first ≡ loan → same_tid tid first.tid ≡ true → is_standing_loan tid inc first ≡ true
    stands it same = subst (λ (l : Lent). same_tid tid l.tid ≡ true → is_standing_loan tid inc l ≡ true) (sym it) (λ at. rw (at, given, now) refl) same

    picked : (b : Bool) → is_taken client tid first ≡ b → ◌≡◌ {A = Option Lent} (if b then Some first else None) (Some loan) → (is_standing_loan tid inc first || list_any (is_standing_loan tid inc) loans) ≡ true
    picked true is it = or_left (is_standing_loan tid inc first) (list_any (is_standing_loan tid inc) loans) (stands (of_some it) (turned first.tid tid (and_left (first.client.0 == client.0) (same_tid first.tid tid) first.taken is)))
    picked false is it = absurd (cc it)

    by : (o : Option Lent) → last_taken client tid loans ≡ o → last_taken client tid (first ∷ loans) ≡ Some loan
        → (last_taken client tid loans ≡ Some loan → loan.yielded ≡ false → (loan.inc == inc) ≡ true → list_any (is_standing_loan tid inc) loans ≡ true) → (is_standing_loan tid inc first || list_any (is_standing_loan tid inc) loans) ≡ true
    by None none it more = picked (is_taken client tid first) refl (rw none at it)
    by (Some other) is it more = or_right (is_standing_loan tid inc first) (list_any (is_standing_loan tid inc) loans) (more (is ∙ (rw is at it)) given now)

-- ---- what leaves all but loans

module _ (W : Tid → Type 0) where
  loans_tallied : (loans : List Lent) (t : Tally) → ((k : Tid) → IsBare k t → IsTallied k t ⊎ (list_any (is_standing_loan k t.inc) loans ≡ false)) → AreTallied W t → AreTallied W (record t { loans = loans })
  loans_tallied loans t off h = record { in_inc = h.in_inc; rising = h.rising; each = λ k. by k (h.each k); runs = λ k p known home runs. on k (h.runs k p known home runs); asked = h.asked; given = h.given; besides = λ k w. on k (h.besides k w) }
    where
      new : Tally
      new = record t { loans = loans }

      on : (k : Tid) → IsTallied k t → IsTallied k new
      on k it = record { began = it.began; numbers = it.numbers }

      by : (k : Tid) → IsTallied k t ⊎ IsBare k t → IsTallied k new ⊎ IsBare k new
      by k (inl it) = inl (on k it)
      by k (inr bare) = at (off k bare)
        where
          at : IsTallied k t ⊎ (list_any (is_standing_loan k t.inc) loans ≡ false) → IsTallied k new ⊎ IsBare k new
          at (inl it) = inl (on k it)
          at (inr none) = inr (record { waits = bare.waits; lent = none; none = bare.none })

  pub take_tallied : (client : ClientNo) (tid : Tid) (t : Tally) → AreTallied W t → AreTallied W (record t { loans = take_first client tid t.loans })
  take_tallied client tid t = loans_tallied (take_first client tid t.loans) t (λ k bare. inr (taken_off k t.inc client tid t.loans bare.lent))

  pub back_tallied : (client : ClientNo) (tid : Tid) (t : Tally) → AreTallied W t → AreTallied W (record t { loans = give_back client tid t.loans })
  back_tallied client tid t = loans_tallied (give_back client tid t.loans) t (λ k bare. inr (given_off k t.inc client tid t.loans bare.lent))

  pub lend_tallied : (loan : Lent) (t : Tally) → IsTallied loan.tid t → AreTallied W t → AreTallied W (record t { loans = t.loans ++ loan ∷ [] })
  lend_tallied loan t its = loans_tallied (t.loans ++ loan ∷ []) t (λ k bare. by k bare (same_or_apart loan.tid k))
    where
      other : (a b : Bool) → a ≡ false → (a && b) ≡ false
      other a b is = rw is refl

      by : (k : Tid) → IsBare k t → (loan.tid ≡ k) ⊎ Apart loan.tid k → IsTallied k t ⊎ (list_any (is_standing_loan k t.inc) (t.loans ++ loan ∷ []) ≡ false)
      by k bare (inl e) = inl (subst (λ (x : Tid). IsTallied x t) e its)
      by k bare (inr far) = inr (any_last (is_standing_loan k t.inc) t.loans loan (other (same_tid k loan.tid) (not loan.yielded && (loan.inc == t.inc)) far.of) bare.lent)

  -- of what is lent numbers were given
  pub lent_tallied : (tid : Tid) (t : Tally) → list_any (is_standing_loan tid t.inc) t.loans ≡ true → AreTallied W t → IsTallied tid t
  lent_tallied tid t lent h = by (h.each tid)
    where
      by : IsTallied tid t ⊎ IsBare tid t → IsTallied tid t
      by (inl it) = it
      by (inr bare) = absurd (clash (sym bare.lent ∙ lent))
