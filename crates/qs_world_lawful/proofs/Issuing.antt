-- Clauses 20 and 21: a request that a client issues.
use Rattle.qs_world_lawful.proofs.Words.{◌≡◌, ◌≢◌, ℕ, ◌+◌, ◌==◌, ◌≤◌, ◌<◌, Bool, true, false, List, [], ◌∷◌, Option, Some, None, suc, refl, sym, ap, subst, ◌∙◌, arith, nat_lt, length, nat_tests, not, ◌&&◌, is_none, is_some, if◌then◌else◌, filter, list_any, ClientNo, Member, NodeNo, Tid, Op, TransactionValue, is_commit, is_open, sent_in, sent_on, learnt_abort, Cell, BookValue, find_transaction, link_to, broken, Lent, peer_of, same_node, Participant, client_server, local_count, entry_of, face_of}
use Rattle.qs_world_lawful.proofs.Words.{part_in, at_server, is_loan_here, is_given_back, Holds, next_to, eqb-true, eqb-false, eq-eqb, and_from, or_left, or_right, eqb-self, le_suc}
use Rattle.qs_base.specs.declared.identifiers.Outcome.TheVariants as outcomes
use Rattle.qs_book_journal.specs.declared.entry.Act.TheVariants as acts
use Rattle.qs_book_machine.specs.Transaction.{has_loan, borrower}
use Rattle.qs_book_machine.specs.declared.transaction.Cell.TheVariants as cells
use Rattle.qs_book_machine.specs.Clauses.{is_for, may_issue, is_owner_of}
use Rattle.qs_tm.specs.Manager as tm
use Rattle.qs_node_step.specs.State.{NodeValue}
use Rattle.qs_world_lawful.proofs.Clauses.{lawful_act, of_tid, open_held}

rise : (a b : ℕ) → a ≤ b → suc a ≤ suc b
rise a b h = grind (arith, h)

-- ---- more loans were made than given back, where one of them stands

pub most : (client : ClientNo) (inc : ℕ) (loans : List Lent) → length (filter (is_given_back client inc) loans) ≤ length (filter (is_loan_here client inc) loans)
most client inc [] = grind arith
most client inc (loan ∷ loans) = by (is_loan_here client inc loan) refl loan.yielded refl (most client inc loans)
  where
    by : (a : Bool) → is_loan_here client inc loan ≡ a → (b : Bool) → loan.yielded ≡ b → length (filter (is_given_back client inc) loans) ≤ length (filter (is_loan_here client inc) loans)
        → length (filter (is_given_back client inc) (loan ∷ loans)) ≤ length (filter (is_loan_here client inc) (loan ∷ loans))
    by true is true gave more = rw (is, gave) (rise _ _ more)
    by true is false gave more = rw (is, gave) (le_suc _ _ more)
    by false is b gave more = rw is more

fewer : (client : ClientNo) (inc : ℕ) (loans : List Lent) → list_any (λ (loan : Lent). is_loan_here client inc loan && not loan.yielded) loans ≡ true
    → length (filter (is_given_back client inc) loans) < length (filter (is_loan_here client inc) loans)
fewer client inc [] h = absurd (cc h)
fewer client inc (loan ∷ loans) h = by (is_loan_here client inc loan) refl loan.yielded refl (fewer client inc loans) (most client inc loans)
  where
    by : (a : Bool) → is_loan_here client inc loan ≡ a → (b : Bool) → loan.yielded ≡ b
        → (list_any (λ (l : Lent). is_loan_here client inc l && not l.yielded) loans ≡ true → length (filter (is_given_back client inc) loans) < length (filter (is_loan_here client inc) loans))
        → length (filter (is_given_back client inc) loans) ≤ length (filter (is_loan_here client inc) loans)
        → length (filter (is_given_back client inc) (loan ∷ loans)) < length (filter (is_loan_here client inc) (loan ∷ loans))
    by true is true gave more bound = rw (is, gave) (up _ _ (more (rw (is, gave) at h)))
      where
        up : (a b : ℕ) → a < b → suc a < suc b
        up a b less = grind (arith, less)
    by true is false gave more bound = rw (is, gave) (rise _ _ bound)
    by false is b gave more bound = rw is (more (rw is at h))

module _ (stamp : ℕ) (book : BookValue) (node : NodeValue) (h : Holds stamp book node) (tid : Tid) (tx : TransactionValue) (found : find_transaction book tid ≡ Some tx) where
  -- the numbers that the machine and the node give it
  pub number_is : (member : Member) → is_commit tx.cell ≡ false → next_to node tid member.node ≡ sent_in h.state.inc (sent_on tx (link_to node.setting.node.0 member)) + 1
  number_is member still = by (same_node member.node node.setting.node) refl
    where
      equal : (m n : NodeNo) → same_node m n ≡ true → m ≡ n
      equal m n is = ap (λ (k : ℕ). record { 0 = k }) (eqb-true m.0 n.0 is)

      by : (b : Bool) → same_node member.node node.setting.node ≡ b
          → (if b then local_count tid node + 1 else (peer_of (part_in (face_of node tid)).engage member.node).sent + 1) ≡ sent_in h.state.inc (sent_on tx (link_to node.setting.node.0 member)) + 1
      by true is =
          sym (ap (λ (inc : ℕ). sent_in inc (sent_on tx (record { from = node.setting.node; to = member.node })) + 1) h.same.inc
          ∙ (ap (λ (n : NodeNo). sent_in node.setting.inc (sent_on tx (record { from = node.setting.node; to = n })) + 1) (equal member.node node.setting.node is)
          ∙ ap (λ (n : ℕ). n + 1) (of_tid stamp book node h tid tx found).local))
      by false is =
          sym (ap (λ (inc : ℕ). sent_in inc (sent_on tx (record { from = node.setting.node; to = member.node })) + 1) h.same.inc
          ∙ ap (λ (n : ℕ). n + 1) ((of_tid stamp book node h tid tx found).sent (open_held stamp book node h tid tx found still) member.node (eqb-false member.node.0 node.setting.node.0 is)))

  -- 20 and 21, where the client may issue
  pub may_issue_as : (client : ClientNo) (member : Member) (op : Op) → is_commit tx.cell ≡ false → is_for op member ≡ true → nat_lt member.node.0 node.setting.nodes ≡ true
      → may_issue node.setting.node.0 h.state tid tx (at_server node.setting.node (client_server client)) ≡ true
      → broken book (entry_of node.setting.node.0 stamp (acts.Issue tid (at_server node.setting.node (client_server client)) member (next_to node tid member.node) op)) ≡ None
  may_issue_as client member op still fits in_run may =
      lawful_act stamp book node h (acts.Issue tid (at_server node.setting.node (client_server client)) member (next_to node tid member.node) op) (λ state. refl)
      (rw found (allowed _ _ _ _ _ _ _ still (eq-eqb _ _ (number_is member still)) fits (subst (λ n. nat_lt member.node.0 n ≡ true) (sym h.run) in_run) (no_files node.setting.node.0 client.0) may))
    where
      clause : ℕ → Option ℕ
      clause n = Some n

      no_files : (n k : ℕ) → ((n == n) && (k + 32 == 0)) ≡ false
      no_files n k = grind (arith, nat_tests)

      allowed : (a b c d e f : Bool) (g : Option ℕ) → a ≡ false → b ≡ true → c ≡ true → d ≡ true → e ≡ false → f ≡ true
          → (if not a && (b && (c && d)) then (if e then g else if f then None else clause 21) else clause 20) ≡ None
      allowed a b c d e f g p q r s t u = rw (p, q, r, s, t, u) refl

  -- the owner, before it asks and before the decision
  pub owner_may : (client : ClientNo) (part : Participant) → tm.part_of tid node.manager ≡ Some part → tx.owner ≡ Some client → tid.home ≡ node.setting.node → tid.inc ≡ node.setting.inc → part.asked ≡ false → part.outcome ≡ None
      → may_issue node.setting.node.0 h.state tid tx (at_server node.setting.node (client_server client)) ≡ true
  owner_may client part known owns home inc unasked unknown =
      let still : is_open tx.cell ≡ true = ((of_tid stamp book node h tid tx found).home home inc).undecided part known unknown in
      and_from _ _ (mine node.setting.node.0 client.0) (or_left _ _ (and_from _ _ (and_from _ _ (owned owns) (at_home home)) (and_from _ _ still (none _ (((of_tid stamp book node h tid tx found).home home inc).asked part known still ∙ unasked)))))
    where
      mine : (n k : ℕ) → ((n == n) && nat_lt 31 (k + 32)) ≡ true
      mine n k = grind (arith, nat_tests)

      owned : tx.owner ≡ Some client → is_owner_of (client.0 + 32) tx.owner ≡ true
      owned is = ap (is_owner_of (client.0 + 32)) is ∙ eqb-self (client.0 + 32)

      at_home : tid.home ≡ node.setting.node → (tid.home.0 == node.setting.node.0) ≡ true
      at_home e = grind (arith, nat_tests, e)

      none : (o : Option ℕ) → is_some o ≡ false → is_none o ≡ true
      none None e = refl
      none (Some n) e = absurd (cc e)

  -- a borrower with a loan of this incarnation that stands, where its node does not know abort
  pub borrower_may : (client : ClientNo) → nat_lt client.0 224 ≡ true → list_any (λ (loan : Lent). is_loan_here client node.setting.inc loan && not loan.yielded) (face_of node tid).loans ≡ true
      → (part_in (face_of node tid)).outcome ≢ Some outcomes.Abort
      → may_issue node.setting.node.0 h.state tid tx (at_server node.setting.node (client_server client)) ≡ true
  borrower_may client small stands unaborted =
      and_from _ _ (mine node.setting.node.0 client.0) (or_right _ _ (and_from _ _ has (ap not silent)))
    where
      mine : (n k : ℕ) → ((n == n) && nat_lt 31 (k + 32)) ≡ true
      mine n k = grind (arith, nat_tests)

      less : (a b x y : ℕ) → a ≡ x → b ≡ y → x < y → nat_lt a b ≡ true
      less a b x y p q r = grind (arith, nat_tests, p, q, r)

      has : has_loan tx (at_server node.setting.node (client_server client)) h.state.inc ≡ true
      has =
          ap (has_loan tx (borrower client node.setting.node)) h.same.inc
          ∙ less _ _ _ _ ((of_tid stamp book node h tid tx found).yielded client small) ((of_tid stamp book node h tid tx found).made client small) (fewer client node.setting.inc (face_of node tid).loans stands)

      silent_by : (b : Bool) → (b ≡ true → (part_in (face_of node tid)).outcome ≡ Some outcomes.Abort) → b ≡ false
      silent_by false s = refl
      silent_by true s = absurd (unaborted (s refl))

      silent : learnt_abort tx node.setting.node h.state.inc ≡ false
      silent = ap (learnt_abort tx node.setting.node) h.same.inc ∙ silent_by (learnt_abort tx node.setting.node node.setting.inc) (of_tid stamp book node h tid tx found).silent

-- what is open is not committed
open_still : (c : Cell) → is_open c ≡ true → is_commit c ≡ false
open_still cells.Open is = refl
open_still cells.Commit is = absurd (cc is)
open_still cells.Abort is = refl

module _ (stamp : ℕ) (book : BookValue) (node : NodeValue) (h : Holds stamp book node) (tid : Tid) (tx : TransactionValue) (found : find_transaction book tid ≡ Some tx) where
  -- the request of an owner
  pub owner_issues : (client : ClientNo) (member : Member) (op : Op) (part : Participant) → tm.part_of tid node.manager ≡ Some part → tx.owner ≡ Some client → tid.home ≡ node.setting.node → tid.inc ≡ node.setting.inc → part.asked ≡ false → part.outcome ≡ None
      → is_for op member ≡ true → nat_lt member.node.0 node.setting.nodes ≡ true
      → broken book (entry_of node.setting.node.0 stamp (acts.Issue tid (at_server node.setting.node (client_server client)) member (next_to node tid member.node) op)) ≡ None
  owner_issues client member op part known owns home inc unasked unknown fits in_run =
      may_issue_as stamp book node h tid tx found client member op (open_still tx.cell (((of_tid stamp book node h tid tx found).home home inc).undecided part known unknown)) fits in_run
      (owner_may stamp book node h tid tx found client part known owns home inc unasked unknown)

  -- and of a borrower
  pub borrower_issues : (client : ClientNo) (member : Member) (op : Op) → nat_lt client.0 224 ≡ true → list_any (λ (loan : Lent). is_loan_here client node.setting.inc loan && not loan.yielded) (face_of node tid).loans ≡ true
      → (part_in (face_of node tid)).outcome ≢ Some outcomes.Abort → is_commit tx.cell ≡ false → is_for op member ≡ true → nat_lt member.node.0 node.setting.nodes ≡ true
      → broken book (entry_of node.setting.node.0 stamp (acts.Issue tid (at_server node.setting.node (client_server client)) member (next_to node tid member.node) op)) ≡ None
  borrower_issues client member op small stands unaborted still fits in_run =
      may_issue_as stamp book node h tid tx found client member op still fits in_run (borrower_may stamp book node h tid tx found client small stands unaborted)
