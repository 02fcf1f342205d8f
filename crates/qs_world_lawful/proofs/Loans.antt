-- Loans are counted by client and incarnation: one more that is made, one more that is given back.
use Rattle.qs_world_lawful.proofs.Words.{◌≡◌, ◌≢◌, ℕ, ◌==◌, Bool, true, false, List, [], ◌∷◌, ◌++◌, Option, Some, None, suc, refl, sym, ap, subst, ◌∙◌, length, not, ◌&&◌, is_some, if◌then◌else◌, filter, same_tid, ClientNo, Tid, same_tid-true, same_tid-self, last_taken, Lent, is_loan_in, is_loan_here, is_given_back, not-true, eqb-true, and_parts, and_false, eqb-self, some_same}
use Rattle.qs_node_kept.specs.Loans.{is_loan_of, is_taken, give_back}
use Rattle.qs_world_lawful.proofs.Faces.{filter_last, filter_more}
use Rattle.std.proofs.lemmas.Bool.{ne_eqb}

length_more : {A : Type 0} (xs : List A) (x : A) → length (xs ++ x ∷ []) ≡ suc (length xs)
length_more [] x = refl
length_more (y ∷ ys) x = ap suc (length_more ys x)

-- ---- a loan that is made

abbrev pub new_loan : Tid → ClientNo → ℕ → Lent
new_loan tid client inc = record { tid = tid; client = client; inc = inc; taken = false; yielded = false }

pub made_more : (tid : Tid) (client : ClientNo) (inc : ℕ) (loans : List Lent) → length (filter (is_loan_here client inc) (loans ++ new_loan tid client inc ∷ [])) ≡ suc (length (filter (is_loan_here client inc) loans))
made_more tid client inc loans = ap length (filter_last (is_loan_here client inc) loans (new_loan tid client inc) (rw (eqb-self client.0, eqb-self inc) refl)) ∙ length_more _ (new_loan tid client inc)

pub made_other : (tid : Tid) (client c : ClientNo) (inc : ℕ) (loans : List Lent) → client.0 ≢ c.0 → length (filter (is_loan_here c inc) (loans ++ new_loan tid client inc ∷ [])) ≡ length (filter (is_loan_here c inc) loans)
made_other tid client c inc loans far = ap length (filter_more (is_loan_here c inc) loans (new_loan tid client inc) (rw (ne_eqb client.0 c.0 far) refl))

pub made_back : (tid : Tid) (client c : ClientNo) (inc : ℕ) (loans : List Lent) → length (filter (is_given_back c inc) (loans ++ new_loan tid client inc ∷ [])) ≡ length (filter (is_given_back c inc) loans)
made_back tid client c inc loans = ap length (filter_more (is_given_back c inc) loans (new_loan tid client inc) (and_false (is_loan_here c inc (new_loan tid client inc))))

pub made_in : (tid : Tid) (client : ClientNo) (inc : ℕ) (loans : List Lent) → filter (is_loan_in tid) (loans ++ new_loan tid client inc ∷ []) ≡ filter (is_loan_in tid) loans ++ new_loan tid client inc ∷ []
made_in tid client inc loans = filter_last (is_loan_in tid) loans (new_loan tid client inc) (same_tid-self tid)

pub made_apart : (tid t : Tid) (client : ClientNo) (inc : ℕ) (loans : List Lent) → same_tid t tid ≡ false → filter (is_loan_in t) (loans ++ new_loan tid client inc ∷ []) ≡ filter (is_loan_in t) loans
made_apart tid t client inc loans far = filter_more (is_loan_in t) loans (new_loan tid client inc) far

-- ---- a loan that is given back

pub taken_of : (client : ClientNo) (tid : Tid) (loan : Lent) → is_taken client tid loan ≡ true → ((loan.client.0 == client.0) ≡ true) × (loan.tid ≡ tid)
taken_of client tid loan is =
    let of : is_loan_of client tid loan ≡ true = (and_parts (is_loan_of client tid loan) loan.taken is).0 in
    let parts = and_parts (loan.client.0 == client.0) (same_tid loan.tid tid) of in
    (parts.0, same_tid-true loan.tid tid parts.1)

-- the last one that was taken is the first loan, where no later one was
pub last_is : (client : ClientNo) (tid : Tid) (loan last : Lent) (loans : List Lent) → is_taken client tid loan ≡ true → is_some (last_taken client tid loans) ≡ false → last_taken client tid (loan ∷ loans) ≡ Some last → loan ≡ last
last_is client tid loan last loans taken none is = by (last_taken client tid loans) none is
  where
    by : (o : Option Lent) → is_some o ≡ false → (elim o [ Some other ↦ Some other | None ↦ if is_taken client tid loan then Some loan else None ]) ≡ Some last → loan ≡ last
    by None no_more e = some_same (rw taken at e)
    by (Some other) no_more e = absurd (cc no_more)

pub later_is : (client : ClientNo) (tid : Tid) (loan last : Lent) (loans : List Lent) → (is_taken client tid loan && not (is_some (last_taken client tid loans))) ≡ false → last_taken client tid (loan ∷ loans) ≡ Some last → last_taken client tid loans ≡ Some last
later_is client tid loan last loans not_this is = by (last_taken client tid loans) (is_taken client tid loan) refl not_this is
  where
    by : (o : Option Lent) (b : Bool) → is_taken client tid loan ≡ b → (b && not (is_some o)) ≡ false → (elim o [ Some other ↦ Some other | None ↦ if is_taken client tid loan then Some loan else None ]) ≡ Some last → o ≡ Some last
    by (Some other) b so out e = e
    by None true so out e = absurd (cc out)
    by None false so out e = absurd (cc (rw so at e))

module _ (client : ClientNo) (tid : Tid) (inc : ℕ) where
  -- of its transaction one more counts as given back
  pub back_more : (loans : List Lent) (last : Lent) → last_taken client tid loans ≡ Some last → last.yielded ≡ false → (last.inc == inc) ≡ true
      → length (filter (is_given_back client inc) (filter (is_loan_in tid) (give_back client tid loans))) ≡ suc (length (filter (is_given_back client inc) (filter (is_loan_in tid) loans)))
  back_more [] last is stands in_inc = absurd (cc is)
  back_more (loan ∷ loans) last is stands in_inc = by (is_taken client tid loan && not (is_some (last_taken client tid loans))) refl (back_more loans last)
    where
      own : same_tid tid loan.tid ≡ true → (loan.client.0 == client.0) ≡ true → (loan.inc == inc) ≡ true → loan.yielded ≡ false
          → length (filter (is_given_back client inc) (filter (is_loan_in tid) (record loan { yielded = true } ∷ loans))) ≡ suc (length (filter (is_given_back client inc) (filter (is_loan_in tid) (loan ∷ loans))))
      own p q r s = rw p (rw (q, r, s) refl)

      by : (b : Bool) → (is_taken client tid loan && not (is_some (last_taken client tid loans))) ≡ b
          → (last_taken client tid loans ≡ Some last → last.yielded ≡ false → (last.inc == inc) ≡ true → length (filter (is_given_back client inc) (filter (is_loan_in tid) (give_back client tid loans))) ≡ suc (length (filter (is_given_back client inc) (filter (is_loan_in tid) loans))))
          → length (filter (is_given_back client inc) (filter (is_loan_in tid) (give_back client tid (loan ∷ loans)))) ≡ suc (length (filter (is_given_back client inc) (filter (is_loan_in tid) (loan ∷ loans))))
      by true this more =
          let parts = and_parts (is_taken client tid loan) (not (is_some (last_taken client tid loans))) this in
          let it : loan ≡ last = last_is client tid loan last loans parts.0 (not-true _ parts.1) is in
          let of = taken_of client tid loan parts.0 in
          rw this (own (subst (λ (t : Tid). same_tid tid t ≡ true) (sym of.1) (same_tid-self tid)) of.0 (subst (λ (l : Lent). (l.inc == inc) ≡ true) (sym it) in_inc) (ap (λ (l : Lent). l.yielded) it ∙ stands))
      by false this more =
          let rest = more (later_is client tid loan last loans this is) stands in_inc in
          rw this (past (is_loan_in tid loan) refl (is_given_back client inc loan) refl rest)
        where
          past : (a : Bool) → is_loan_in tid loan ≡ a → (b : Bool) → is_given_back client inc loan ≡ b
              → length (filter (is_given_back client inc) (filter (is_loan_in tid) (give_back client tid loans))) ≡ suc (length (filter (is_given_back client inc) (filter (is_loan_in tid) loans)))
              → length (filter (is_given_back client inc) (filter (is_loan_in tid) (loan ∷ give_back client tid loans))) ≡ suc (length (filter (is_given_back client inc) (filter (is_loan_in tid) (loan ∷ loans))))
          past true p true q rest = rw p (rw q (ap suc rest))
          past true p false q rest = rw p (rw q rest)
          past false p b q rest = rw p rest

  -- what does not look at whether it is given back counts as before
  pub back_same : (p : Lent → Bool) → ((loan : Lent) → p (record loan { yielded = true }) ≡ p loan) → (t : Tid) (loans : List Lent)
      → length (filter p (filter (is_loan_in t) (give_back client tid loans))) ≡ length (filter p (filter (is_loan_in t) loans))
  back_same p blind t [] = refl
  back_same p blind t (loan ∷ loans) = by (is_taken client tid loan && not (is_some (last_taken client tid loans))) refl (back_same p blind t loans)
    where
      own : (a : Bool) → is_loan_in t loan ≡ a → length (filter p (filter (is_loan_in t) (record loan { yielded = true } ∷ loans))) ≡ length (filter p (filter (is_loan_in t) (loan ∷ loans)))
      own true q = rw q (rw (blind loan) (second (p loan) refl))
        where
          second : (b : Bool) → p loan ≡ b → length (if b then record loan { yielded = true } ∷ filter p (filter (is_loan_in t) loans) else filter p (filter (is_loan_in t) loans)) ≡ length (filter p (loan ∷ filter (is_loan_in t) loans))
          second true r = rw r refl
          second false r = rw r refl
      own false q = rw q refl

      past : (a : Bool) → is_loan_in t loan ≡ a → (b : Bool) → p loan ≡ b → length (filter p (filter (is_loan_in t) (give_back client tid loans))) ≡ length (filter p (filter (is_loan_in t) loans))
          → length (filter p (filter (is_loan_in t) (loan ∷ give_back client tid loans))) ≡ length (filter p (filter (is_loan_in t) (loan ∷ loans)))
      past true q true r rest = rw q (rw r (ap suc rest))
      past true q false r rest = rw q (rw r rest)
      past false q b r rest = rw q rest

      by : (b : Bool) → (is_taken client tid loan && not (is_some (last_taken client tid loans))) ≡ b → length (filter p (filter (is_loan_in t) (give_back client tid loans))) ≡ length (filter p (filter (is_loan_in t) loans))
          → length (filter p (filter (is_loan_in t) (give_back client tid (loan ∷ loans)))) ≡ length (filter p (filter (is_loan_in t) (loan ∷ loans)))
      by true this rest = rw this (own (is_loan_in t loan) refl)
      by false this rest = rw this (past (is_loan_in t loan) refl (p loan) refl rest)

  -- and of another client as many as before
  pub back_other : (c : ClientNo) → client.0 ≢ c.0 → (t : Tid) (loans : List Lent) → length (filter (is_given_back c inc) (filter (is_loan_in t) (give_back client tid loans))) ≡ length (filter (is_given_back c inc) (filter (is_loan_in t) loans))
  back_other c far t [] = refl
  back_other c far t (loan ∷ loans) = by (is_taken client tid loan && not (is_some (last_taken client tid loans))) refl (back_other c far t loans)
    where
      not_its : (loan.client.0 == client.0) ≡ true → (b : Bool) → (loan.client.0 == c.0) ≡ b → b ≡ false
      not_its of false is = refl
      not_its of true is = absurd (far (sym (eqb-true loan.client.0 client.0 of) ∙ eqb-true loan.client.0 c.0 is))

      own : (loan.client.0 == c.0) ≡ false → (a : Bool) → is_loan_in t loan ≡ a → length (filter (is_given_back c inc) (filter (is_loan_in t) (record loan { yielded = true } ∷ loans))) ≡ length (filter (is_given_back c inc) (filter (is_loan_in t) (loan ∷ loans)))
      own none true q = rw q (rw none refl)
      own none false q = rw q refl

      past : (a : Bool) → is_loan_in t loan ≡ a → (b : Bool) → is_given_back c inc loan ≡ b → length (filter (is_given_back c inc) (filter (is_loan_in t) (give_back client tid loans))) ≡ length (filter (is_given_back c inc) (filter (is_loan_in t) loans))
          → length (filter (is_given_back c inc) (filter (is_loan_in t) (loan ∷ give_back client tid loans))) ≡ length (filter (is_given_back c inc) (filter (is_loan_in t) (loan ∷ loans)))
      past true q true r rest = rw q (rw r (ap suc rest))
      past true q false r rest = rw q (rw r rest)
      past false q b r rest = rw q rest

      by : (b : Bool) → (is_taken client tid loan && not (is_some (last_taken client tid loans))) ≡ b → length (filter (is_given_back c inc) (filter (is_loan_in t) (give_back client tid loans))) ≡ length (filter (is_given_back c inc) (filter (is_loan_in t) loans))
          → length (filter (is_given_back c inc) (filter (is_loan_in t) (give_back client tid (loan ∷ loans)))) ≡ length (filter (is_given_back c inc) (filter (is_loan_in t) (loan ∷ loans)))
      by true this rest =
          let of = taken_of client tid loan (and_parts (is_taken client tid loan) (not (is_some (last_taken client tid loans))) this).0 in
          rw this (own (not_its of.0 (loan.client.0 == c.0) refl) (is_loan_in t loan) refl)
      by false this rest = rw this (past (is_loan_in t loan) refl (is_given_back c inc loan) refl rest)

  -- another transaction's loans are as before
  pub back_apart : (t : Tid) → same_tid t tid ≡ false → (loans : List Lent) → filter (is_loan_in t) (give_back client tid loans) ≡ filter (is_loan_in t) loans
  back_apart t far [] = refl
  back_apart t far (loan ∷ loans) = by (is_taken client tid loan && not (is_some (last_taken client tid loans))) refl (back_apart t far loans)
    where
      by : (b : Bool) → (is_taken client tid loan && not (is_some (last_taken client tid loans))) ≡ b → filter (is_loan_in t) (give_back client tid loans) ≡ filter (is_loan_in t) loans
          → filter (is_loan_in t) (give_back client tid (loan ∷ loans)) ≡ filter (is_loan_in t) (loan ∷ loans)
      by true this rest =
          let of = taken_of client tid loan (and_parts (is_taken client tid loan) (not (is_some (last_taken client tid loans))) this).0 in
          let out : is_loan_in t loan ≡ false = ap (same_tid t) of.1 ∙ far in
          rw this (rw out refl)
      by false this rest = rw this (past (is_loan_in t loan))
        where
          past : (a : Bool) → (if a then loan ∷ filter (is_loan_in t) (give_back client tid loans) else filter (is_loan_in t) (give_back client tid loans)) ≡ (if a then loan ∷ filter (is_loan_in t) loans else filter (is_loan_in t) loans)
          past true = ap (λ (ls : List Lent). loan ∷ ls) rest
          past false = rest
