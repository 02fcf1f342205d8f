-- A loan is made, and one is given back: the rules as a whole, but for the answer.
use Rattle.qs_tm.specs.Members as rules
use Rattle.qs_world_lawful.proofs.Words.{◌≡◌, ℕ, ◌+◌, ◌==◌, ◌≤◌, Bool, true, false, List, [], ◌∷◌, ◌++◌, Option, Some, None, suc, refl, sym, ap, subst, ◌∙◌, arith, length, nat_lt, nat_tests, unwrap_or, if◌then◌else◌, filter, lookup, is_at, ClientNo, Member, NodeNo, Tid, Act, TransactionValue, no_part, life, life_cmp, changed_value, made_part, yielded_part, is_loan_due, Part, BookValue, find_transaction, inc_at, with_transaction, loan_to, give_back_from, borrower_at, effect, last_taken, enter}
use Rattle.qs_world_lawful.proofs.Words.{make_loan, Work, with_kept, Lent, entry_of, at_server, face_of, is_loan_in, is_loan_here, is_given_back, Holds, HoldsTid, HoldsClients, HoldsWork, book_at, HoldsWaits, eqb-true, eqb-false, and_parts}
use Rattle.qs_book_journal.specs.declared.entry.Act.TheVariants as acts
use Rattle.qs_book_machine.specs.Transaction.{part_of, borrower, has_loan}
use Rattle.qs_book_machine.specs.Nodes as machine
use Rattle.qs_node_kept.specs.Loans.{give_back}
use Rattle.qs_node_step.specs.State.{NodeValue}
use Rattle.qs_node_kept.specs.Keeping.{with_now}
use Rattle.qs_world_lawful.proofs.Apart.{Apart}
use Rattle.qs_world_lawful.proofs.Clauses.{lawful_act, of_tid}
use Rattle.qs_world_lawful.proofs.Frames.{KeepsSeen, clients_on}
use Rattle.qs_world_lawful.proofs.Growing.{entered}
use Rattle.qs_world_lawful.proofs.Issuing.{most}
use Rattle.qs_world_lawful.proofs.LentTid.{changed, loan_tid, other_client, own_client}
use Rattle.qs_world_lawful.proofs.Loans.{new_loan, made_more, made_other, made_back, made_in, made_apart, back_more, back_same, back_other, back_apart}
use Rattle.qs_world_lawful.proofs.States.{state_itself}
use Rattle.qs_world_lawful.proofs.LentTid.{borrower_apart}
use Rattle.qs_world_lawful.proofs.Parts.{changed_part_apart}
use Rattle.qs_world_lawful.proofs.Steps.{one_changed, servers_still, tx_seen, same_owners, waits_of}

-- where one of a client's counts is not 0, the machine has its part
some_part : (of : Part → ℕ) → of no_part ≡ 0 → (tx : TransactionValue) (member : Member) (inc : ℕ) → nat_lt 0 (of (part_of tx member inc)) ≡ true → lookup (is_at (life_cmp (life member inc))) tx.parts ≡ Some (part_of tx member inc)
some_part of none tx member inc some = by (lookup (is_at (life_cmp (life member inc))) tx.parts) some
  where
    nothing : (n : ℕ) → n ≡ 0 → nat_lt 0 n ≡ true → ⊥
    nothing n e is = grind (arith, nat_tests, e, is)

    by : (o : Option Part) → nat_lt 0 (of (unwrap_or o no_part)) ≡ true → o ≡ Some (unwrap_or o no_part)
    by None is = absurd (nothing _ none is)
    by (Some p) is = refl

small_at : (client : ClientNo) (n : ℕ) → nat_lt client.0 224 ≡ true → borrower_at client n ≡ Some (borrower client (record { 0 = n }))
small_at client n small = rw small refl

module _ (stamp : ℕ) (before : BookValue) (work : Work) (tid : Tid) (client : ClientNo) (tx : TransactionValue) (h : HoldsWork stamp before work)
    (found : find_transaction (book_at stamp before work) tid ≡ Some tx) (small : nat_lt client.0 224 ≡ true) where
  abbrev node : NodeValue
  node = work.node

  abbrev here : NodeNo
  here = node.setting.node

  abbrev inc : ℕ
  inc = node.setting.inc

  abbrev book : BookValue
  book = book_at stamp before work

  abbrev its : Member
  its = borrower client here

  inc_is : inc_at book (record { 0 = here.0 }) ≡ inc
  inc_is = ap (λ (o : Option machine.NodeValue). elim o [ None ↦ 0 | Some s ↦ s.inc ]) h.holds.there ∙ h.holds.same.inc

  abbrev its_inc : ℕ
  its_inc = inc_at book (record { 0 = here.0 })

  -- the machine's transaction with the borrower's part changed
  abbrev with_its : (Part → Part) → TransactionValue → TransactionValue
  with_its g x = record x { parts = changed_value (is_at (life_cmp (life its its_inc))) g x.parts }

  -- ---- what both have in common: one transaction's part of the borrower changes, and the node's loans
  module _ (act : Act) (g : Part → Part) (aborts : (p : Part) → (g p).aborted ≡ p.aborted) (loans : List Lent)
      (does : effect book (entry_of here.0 stamp act) ≡ record (with_transaction tid (with_its g) book) { stamp = stamp; node = here.0; place = book.place + 1 }) where
    abbrev new : NodeValue
    new = record node { kept = with_now (λ k. record k { loans = loans }) node.kept }

    abbrev target : BookValue
    target = record (with_transaction tid (with_its g) book) { stamp = stamp; node = here.0; place = book.place + 1 }

    seen_on : KeepsSeen book target
    seen_on = tx_seen tid (with_its g) (λ x. refl) book target refl

    clients : HoldsClients target new
    clients = clients_on book target node new seen_on (same_owners book target refl) (record { setting = refl; at = refl; in_inc = refl }) (record { commands = refl; labels = refl; outcomes = refl }) h.holds.clients (λ t. refl)

    -- the counts of the borrower's loans go on together
    by_loans : ((t : Tid) → Apart tid t → filter (is_loan_in t) loans ≡ filter (is_loan_in t) node.kept.now.loans)
        → ((c : ClientNo) → nat_lt c.0 224 ≡ true → (part_of (changed here inc client g aborts tid tx (face_of node tid) loans) (borrower c here) inc).made ≡ length (filter (is_loan_here c inc) (filter (is_loan_in tid) loans)))
        → ((c : ClientNo) → nat_lt c.0 224 ≡ true → (part_of (changed here inc client g aborts tid tx (face_of node tid) loans) (borrower c here) inc).yielded ≡ length (filter (is_given_back c inc) (filter (is_loan_in tid) loans)))
        → Holds stamp (effect book (entry_of here.0 stamp act)) new
    by_loans others made yielded = subst (λ (b : BookValue). Holds stamp b new) (sym does)
        (one_changed stamp book target node new h.holds tid (with_its g) tx found refl h.holds.state (state_itself h.holds.state) h.holds.there refl refl refl
        (record { setting = refl; at = refl; in_inc = refl }) refl
        (λ t far. record { known = refl; local = refl; changes = refl; loans = others t far; waiting = λ s. refl })
        (subst (λ (i : ℕ). HoldsTid here inc tid (record tx { parts = changed_value (is_at (life_cmp (life its i))) g tx.parts }) (face_of new tid)) (sym inc_is)
        (loan_tid here inc client g aborts tid tx (face_of node tid) (filter (is_loan_in tid) loans) (of_tid stamp book node h.holds tid tx found) made yielded))
        clients
        (servers_still tid (with_its g) (λ x. refl) book target refl here h.holds.state node.servers h.holds.servers) (λ t far. refl)
        (subst (λ (i : ℕ). HoldsWaits here inc tid (record tx { parts = changed_value (is_at (life_cmp (life its i))) g tx.parts }) (face_of new tid).waiting new.servers) (sym inc_is) its_waits))
      where
        its_waits : HoldsWaits here inc tid (record tx { parts = changed_value (is_at (life_cmp (life its inc))) g tx.parts }) (face_of new tid).waiting new.servers
        its_waits =
            let k = waits_of stamp book node h.holds tid tx found in
            record {
              whole = k.whole;
              due = λ busy. ap (λ (p : Part). p.due) (changed_part_apart (life its inc) g tx.parts (at_server here rules.files_no) inc (borrower_apart client here inc rules.files_no refl)) ∙ k.due busy;
              within = k.within;
              once = k.once;
              fits = k.fits;
            }

  -- ---- a loan is made, where the client was asked to take it in this step

  abbrev its_loans : List Lent
  its_loans = (face_of node tid).loans

  held : HoldsTid here inc tid tx (face_of node tid)
  held = of_tid stamp book node h.holds tid tx found

  client_is : (c : ClientNo) → (client.0 == c.0) ≡ true → client ≡ c
  client_is c e = ap (λ (n : ℕ). record { 0 = n }) (eqb-true client.0 c.0 e)

  abbrev lent_tx : TransactionValue
  lent_tx = changed here inc client made_part (λ p. refl) tid tx (face_of node tid) []

  pub by_loan : is_loan_due tx its inc stamp ≡ true → HoldsWork stamp before (make_loan tid (Some client) work)
  by_loan due = entered stamp before work (make_loan tid (Some client) work) (acts.Loan tid client) h refl refl
      (lawful_act stamp book node h.holds (acts.Loan tid client) (λ state. refl) (rw (found, small_at client here.0 small) (allowed _ (ap (λ (i : ℕ). is_loan_due tx its i stamp) h.holds.same.inc ∙ due))))
      (by_loans (acts.Loan tid client) made_part (λ p. refl) (node.kept.now.loans ++ new_loan tid client inc ∷ [])
      (ap (λ (o : Option Member). record (loan_to its_inc tid o book) { stamp = stamp; node = here.0; place = book.place + 1 }) (small_at client here.0 small))
      (λ t far. made_apart tid t client inc node.kept.now.loans far.of) made yielded)
    where
      clause : ℕ → Option ℕ
      clause n = Some n

      allowed : (b : Bool) → b ≡ true → (if b then None else clause 85) ≡ None
      allowed b e = rw e refl

      there : lookup (is_at (life_cmp (life its inc))) tx.parts ≡ Some (part_of tx its inc)
      there = some_part (λ p. p.unmade) refl tx its inc (and_parts ((part_of tx its inc).step == stamp) (nat_lt 0 (part_of tx its inc).unmade) due).1

      one_more : (a b : ℕ) → a ≡ b → a + 1 ≡ suc b
      one_more a b e = grind (arith, e)

      made : (c : ClientNo) → nat_lt c.0 224 ≡ true → (part_of lent_tx (borrower c here) inc).made ≡ length (filter (is_loan_here c inc) (filter (is_loan_in tid) (node.kept.now.loans ++ new_loan tid client inc ∷ [])))
      made c fits = rw (made_in tid client inc node.kept.now.loans) (by (client.0 == c.0) refl)
        where
          by : (b : Bool) → (client.0 == c.0) ≡ b → (part_of lent_tx (borrower c here) inc).made ≡ length (filter (is_loan_here c inc) (filter (is_loan_in tid) node.kept.now.loans ++ new_loan tid client inc ∷ []))
          by true is = subst (λ (k : ClientNo). (part_of lent_tx (borrower k here) inc).made ≡ length (filter (is_loan_here k inc) (filter (is_loan_in tid) node.kept.now.loans ++ new_loan tid client inc ∷ []))) (client_is c is)
              (ap (λ (p : Part). p.made) (own_client here inc client made_part (λ p. refl) tid tx (face_of node tid) [] there)
              ∙ (one_more _ _ (held.made client small) ∙ sym (made_more tid client inc (filter (is_loan_in tid) node.kept.now.loans))))
          by false is = other_client here inc client made_part (λ p. refl) tid tx (face_of node tid) [] (λ p. p.made) c (eqb-false client.0 c.0 is)
              ∙ (held.made c fits ∙ sym (made_other tid client c inc (filter (is_loan_in tid) node.kept.now.loans) (eqb-false client.0 c.0 is)))

      yielded : (c : ClientNo) → nat_lt c.0 224 ≡ true → (part_of lent_tx (borrower c here) inc).yielded ≡ length (filter (is_given_back c inc) (filter (is_loan_in tid) (node.kept.now.loans ++ new_loan tid client inc ∷ [])))
      yielded c fits = rw (made_in tid client inc node.kept.now.loans) (by (client.0 == c.0) refl ∙ (held.yielded c fits ∙ sym (made_back tid client c inc (filter (is_loan_in tid) node.kept.now.loans))))
        where
          by : (b : Bool) → (client.0 == c.0) ≡ b → (part_of lent_tx (borrower c here) inc).yielded ≡ (part_of tx (borrower c here) inc).yielded
          by true is = subst (λ (k : ClientNo). (part_of lent_tx (borrower k here) inc).yielded ≡ (part_of tx (borrower k here) inc).yielded) (client_is c is)
              (ap (λ (p : Part). p.yielded) (own_client here inc client made_part (λ p. refl) tid tx (face_of node tid) [] there))
          by false is = other_client here inc client made_part (λ p. refl) tid tx (face_of node tid) [] (λ p. p.yielded) c (eqb-false client.0 c.0 is)

  -- ---- a loan is given back: the last one that was taken, made in this incarnation

  abbrev back_tx : TransactionValue
  back_tx = changed here inc client yielded_part (λ p. refl) tid tx (face_of node tid) []

  abbrev back_loans : List Lent
  back_loans = give_back client tid node.kept.now.loans

  pub by_give_back : (last : Lent) → last_taken client tid node.kept.now.loans ≡ Some last → last.yielded ≡ false → (last.inc == inc) ≡ true
      → HoldsWork stamp before (enter (acts.Yield tid client) (with_kept (λ kept. record kept { loans = give_back client tid kept.loans }) work))
  by_give_back last is stands in_inc = entered stamp before work (enter (acts.Yield tid client) (with_kept (λ kept. record kept { loans = give_back client tid kept.loans }) work)) (acts.Yield tid client) h refl refl
      (lawful_act stamp book node h.holds (acts.Yield tid client) (λ state. refl) (rw (found, small_at client here.0 small) (allowed _ (ap (λ (i : ℕ). has_loan tx its i) h.holds.same.inc ∙ has))))
      (by_loans (acts.Yield tid client) yielded_part (λ p. refl) back_loans
      (ap (λ (o : Option Member). record (give_back_from its_inc tid o book) { stamp = stamp; node = here.0; place = book.place + 1 }) (small_at client here.0 small))
      (λ t far. back_apart client tid inc t far.of node.kept.now.loans) made yielded)
    where
      clause : ℕ → Option ℕ
      clause n = Some n

      allowed : (b : Bool) → b ≡ true → (if b then None else clause 88) ≡ None
      allowed b e = rw e refl

      less : (a b x y z : ℕ) → a ≡ x → b ≡ y → suc x ≤ z → z ≡ y → nat_lt a b ≡ true
      less a b x y z p q r e = grind (arith, nat_tests, p, q, r, e)

      at_most : suc (length (filter (is_given_back client inc) its_loans)) ≤ length (filter (is_loan_here client inc) (filter (is_loan_in tid) back_loans))
      at_most = subst (λ (n : ℕ). n ≤ length (filter (is_loan_here client inc) (filter (is_loan_in tid) back_loans))) (back_more client tid inc node.kept.now.loans last is stands in_inc) (most client inc (filter (is_loan_in tid) back_loans))

      has : has_loan tx its inc ≡ true
      has = less _ _ _ _ _ (held.yielded client small) (held.made client small) at_most (back_same client tid inc (is_loan_here client inc) (λ l. refl) tid node.kept.now.loans)

      positive : (a b : ℕ) → nat_lt a b ≡ true → nat_lt 0 b ≡ true
      positive a b e = grind (arith, nat_tests, e)

      there : lookup (is_at (life_cmp (life its inc))) tx.parts ≡ Some (part_of tx its inc)
      there = some_part (λ p. p.made) refl tx its inc (positive (part_of tx its inc).yielded (part_of tx its inc).made has)

      one_more : (a b : ℕ) → a ≡ b → a + 1 ≡ suc b
      one_more a b e = grind (arith, e)

      made : (c : ClientNo) → nat_lt c.0 224 ≡ true → (part_of back_tx (borrower c here) inc).made ≡ length (filter (is_loan_here c inc) (filter (is_loan_in tid) back_loans))
      made c fits = by (client.0 == c.0) refl ∙ (held.made c fits ∙ sym (back_same client tid inc (is_loan_here c inc) (λ l. refl) tid node.kept.now.loans))
        where
          by : (b : Bool) → (client.0 == c.0) ≡ b → (part_of back_tx (borrower c here) inc).made ≡ (part_of tx (borrower c here) inc).made
          by true is = subst (λ (k : ClientNo). (part_of back_tx (borrower k here) inc).made ≡ (part_of tx (borrower k here) inc).made) (client_is c is)
              (ap (λ (p : Part). p.made) (own_client here inc client yielded_part (λ p. refl) tid tx (face_of node tid) [] there))
          by false is = other_client here inc client yielded_part (λ p. refl) tid tx (face_of node tid) [] (λ p. p.made) c (eqb-false client.0 c.0 is)

      yielded : (c : ClientNo) → nat_lt c.0 224 ≡ true → (part_of back_tx (borrower c here) inc).yielded ≡ length (filter (is_given_back c inc) (filter (is_loan_in tid) back_loans))
      yielded c fits = by (client.0 == c.0) refl
        where
          by : (b : Bool) → (client.0 == c.0) ≡ b → (part_of back_tx (borrower c here) inc).yielded ≡ length (filter (is_given_back c inc) (filter (is_loan_in tid) back_loans))
          by true so = subst (λ (k : ClientNo). (part_of back_tx (borrower k here) inc).yielded ≡ length (filter (is_given_back k inc) (filter (is_loan_in tid) back_loans))) (client_is c so)
              (ap (λ (p : Part). p.yielded) (own_client here inc client yielded_part (λ p. refl) tid tx (face_of node tid) [] there)
              ∙ (one_more _ _ (held.yielded client small) ∙ sym (back_more client tid inc node.kept.now.loans last is stands in_inc)))
          by false so = other_client here inc client yielded_part (λ p. refl) tid tx (face_of node tid) [] (λ p. p.yielded) c (eqb-false client.0 c.0 so)
              ∙ (held.yielded c fits ∙ sym (back_other client tid inc c (eqb-false client.0 c.0 so) tid node.kept.now.loans))
