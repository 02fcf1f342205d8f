-- In each life of its node, as many loans were made to a client as it was asked to take, and as many given back, where in the
-- end all members agree.
use Rattle.qs_book_laws.proofs.Words.{◌≡◌, ℕ, ◌+◌, ◌==◌, ◌&&◌, Bool, true, false, Option, Some, None, refl, sym, ap, ◌∙◌, if◌then◌else◌, slice_get, nat_lt, is_some, same_tid, same_member, Class, ClientNo, Member, Outcome, Tid, same_tid-true, same_member-true, class_of, Reply, Vote, Act, Begin, Issue, Serve, Ask, Counted, Decide, Ending, Learn, Loan, Yield, Tick, Crash, Restart, Entry, TransactionValue, borrower, serving_part, voted_part, learnt_part, made_part, yielded_part, Part, BookValue}
use Rattle.qs_book_laws.proofs.Words.{find_transaction, inc_at, is_done, borrower_at, broken_serve, is_in_order, broken_act, broken_at, broken, NodeValue, is_share, eq-eqb}
use Rattle.qs_base.specs.declared.identifiers.Class.TheVariants as classes
use Rattle.qs_base.specs.declared.identifiers.Outcome.TheVariants as outcomes
use Rattle.qs_ops.specs.declared.vote.Vote.TheVariants as votes
use Rattle.qs_book_journal.specs.declared.entry.Act.TheVariants.{Answer}
use Rattle.qs_book_journal.specs.declared.entry.Act.TheVariants as acts
use Rattle.qs_book_machine.specs.Clauses.{broken_loan, may_lend, broken_yield, may_yield}
use Rattle.qs_book_laws.specs.Unanimity.{Loans, loans_after}
use Rattle.qs_book_laws.proofs.Begun.{inc_in}
use Rattle.qs_book_laws.proofs.Ended.{member_of, acts_here}
use Rattle.qs_book_laws.proofs.Lives.{inc_is}
use Rattle.qs_book_laws.proofs.Parts.{is_own, part_for, part_after}
use Rattle.qs_book_laws.proofs.Steps.{held}

-- what a part says of loans
abbrev pub loans_of : Part → Loans
loans_of part = record { asked = part.served; taken = part.made; returned = part.yielded }

-- ---- an act changes them as its entry says

served_loans : (class : Class) (stamp : ℕ) (done : Bool) (part : Part) → loans_of (serving_part class stamp done part) ≡ record (loans_of part) { asked = part.served + 1 }
served_loans classes.Recoverable stamp done part = refl
served_loans classes.Volatile stamp done part = refl
served_loans classes.Immediate stamp done part = refl
served_loans classes.Standard stamp done part = refl
served_loans classes.Delayed stamp done part = refl
served_loans classes.Activity stamp done part = refl

voted_loans : (ballot : Vote) (part : Part) → loans_of (voted_part ballot part) ≡ loans_of part
voted_loans (votes.Abort reason) part = refl
voted_loans votes.ReadOnly part = refl
voted_loans votes.Volatile part = refl
voted_loans votes.Recoverable part = refl

learnt_loans : (outcome : Outcome) (part : Part) → loans_of (learnt_part outcome part) ≡ loans_of part
learnt_loans outcomes.Commit part = refl
learnt_loans outcomes.Abort part = refl

chosen : (b : Bool) (x y : Part) (l : Loans) → loans_of x ≡ l → loans_of y ≡ l → loans_of (if b then x else y) ≡ l
chosen true x y l p q = p
chosen false x y l p q = q

changed : (b : Bool) (x y : Part) (l m : Loans) → loans_of x ≡ l → loans_of y ≡ m → loans_of (if b then x else y) ≡ (if b then l else m)
changed true x y l m p q = p
changed false x y l m p q = q

module _ (tid : Tid) (member : Member) (inc : ℕ) where
  -- of a member's act in the present life the two tests say the same
  same_test : (t : Tid) (other : Member) (now : ℕ) → (same_member other member ≡ true → (now == inc) ≡ true) → is_own tid member inc t other now ≡ is_share tid member t other
  same_test t other now near = by (same_tid t tid) (same_member other member) (now == inc) near
    where
      by : (a b c : Bool) → (b ≡ true → c ≡ true) → (a && (b && c)) ≡ (a && b)
      by true true c h = h refl
      by true false c h = refl
      by false b c h = refl

  client_there : (client : ClientNo) (here : ℕ) → is_some (borrower_at client here) ≡ true → borrower_at client here ≡ Some (borrower client (record { 0 = here }))
  client_there client here = of (nat_lt client.0 224)
    where
      of : (b : Bool) → is_some (if b then Some (borrower client (record { 0 = here })) else None) ≡ true → (if b then Some (borrower client (record { 0 = here })) else None) ≡ Some (borrower client (record { 0 = here }))
      of true h = refl
      of false h = absurd (cc h)

  lender : (here : ℕ) (node : NodeValue) (o : Option TransactionValue) (client : ClientNo) (stamp : ℕ) → broken_loan here node o client stamp ≡ None → is_some (borrower_at client here) ≡ true
  lender here node None client stamp h = absurd (cc h)
  lender here node (Some tx) client stamp h = of (borrower_at client here) (held (may_lend node tx (borrower_at client here) stamp) 85 None h).0
    where
      of : (o : Option Member) → may_lend node tx o stamp ≡ true → is_some o ≡ true
      of None k = absurd (cc k)
      of (Some other) k = refl

  yielder : (here : ℕ) (node : NodeValue) (o : Option TransactionValue) (client : ClientNo) → broken_yield here node o client ≡ None → is_some (borrower_at client here) ≡ true
  yielder here node None client h = absurd (cc h)
  yielder here node (Some tx) client h = of (borrower_at client here) (held (may_yield node tx (borrower_at client here)) 88 None h).0
    where
      of : (o : Option Member) → may_yield node tx o ≡ true → is_some o ≡ true
      of None k = absurd (cc k)
      of (Some other) k = refl

  module _ (book : BookValue) (now stamp here : ℕ) (node : NodeValue) (part : Part) where
    acted : (act : Act) → broken_act book stamp here node act ≡ None → ((other : Member) → member_of here act ≡ Some other → same_member other member ≡ true → (now == inc) ≡ true)
        → loans_of (part_after tid member inc now stamp here act part) ≡ loans_after tid member (loans_of part) (record { 0 = here }) act
    acted (Serve t other from n reply) h near =
        changed (is_own tid member inc t other now) (serving_part (class_of other.server.0) stamp (is_done reply) part) part (record (loans_of part) { asked = part.served + 1 }) (loans_of part) (served_loans (class_of other.server.0) stamp (is_done reply) part) refl
        ∙ ap (λ (b : Bool). if b then record (loans_of part) { asked = part.served + 1 } else loans_of part) (same_test t other now (near other refl))
    acted (acts.Vote t other ballot covers) h near = chosen (is_own tid member inc t other now) (voted_part ballot part) part (loans_of part) (voted_loans ballot part) refl
    acted (Ending t other) h near = chosen (is_own tid member inc t other now) _ part (loans_of part) refl refl
    acted (Learn t other outcome) h near = chosen (is_own tid member inc t other now) (learnt_part outcome part) part (loans_of part) (learnt_loans outcome part) refl
    acted (Loan t client) h near =
        let there : borrower_at client here ≡ Some (borrower client (record { 0 = here })) = client_there client here (lender here node (find_transaction book t) client stamp h) in
        ap (λ (o : Option Member). loans_of (part_for tid member inc t o now made_part part)) there
        ∙ (changed (is_own tid member inc t (borrower client (record { 0 = here })) now) (made_part part) part (record (loans_of part) { taken = part.made + 1 }) (loans_of part) refl refl
        ∙ ap (λ (b : Bool). if b then record (loans_of part) { taken = part.made + 1 } else loans_of part) (same_test t (borrower client (record { 0 = here })) now (near (borrower client (record { 0 = here })) there)))
    acted (Yield t client) h near =
        let there : borrower_at client here ≡ Some (borrower client (record { 0 = here })) = client_there client here (yielder here node (find_transaction book t) client h) in
        ap (λ (o : Option Member). loans_of (part_for tid member inc t o now yielded_part part)) there
        ∙ (changed (is_own tid member inc t (borrower client (record { 0 = here })) now) (yielded_part part) part (record (loans_of part) { returned = part.yielded + 1 }) (loans_of part) refl refl
        ∙ ap (λ (b : Bool). if b then record (loans_of part) { returned = part.yielded + 1 } else loans_of part) (same_test t (borrower client (record { 0 = here })) now (near (borrower client (record { 0 = here })) there)))
    acted act h near = refl

  -- an entry that is no restart of the member's node, in the present life
  pub counted_on : (book : BookValue) (entry : Entry) (part : Part) → broken book entry ≡ None → inc_in book member.node.0 ≡ Some inc
      → loans_of (part_after tid member inc (inc_at book entry.node) entry.stamp entry.node.0 entry.act part) ≡ loans_after tid member (loans_of part) entry.node entry.act
  counted_on book entry part h was = of (slice_get book.nodes entry.node.0) entry.act (held (is_in_order book entry) 1 _ h).1
    where
      of : (o : Option NodeValue) (act : Act) → broken_at book entry.stamp entry.node.0 o act ≡ None
          → loans_of (part_after tid member inc (inc_at book entry.node) entry.stamp entry.node.0 act part) ≡ loans_after tid member (loans_of part) entry.node act
      of None act k = absurd (cc k)
      of (Some node) (Restart new pend done) k = refl
      of (Some node) act k =
          let lawful : broken_act book entry.stamp entry.node.0 node act ≡ None = (held node.up 2 (broken_act book entry.stamp entry.node.0 node act) k).1 in
          acted book (inc_at book entry.node) entry.stamp entry.node.0 node part act lawful
          (λ other is same. eq-eqb (inc_at book entry.node) inc
          (inc_is book entry.node.0 inc (ap (inc_in book) (sym (acts_here book entry.stamp entry.node.0 node act other lawful is) ∙ ap (λ (x : Member). x.node.0) (same_member-true other member same)) ∙ was)))

-- ---- where the transaction is not known, no entry is of it

module _ (tid : Tid) (member : Member) (loans : Loans) where
  off : (b c : Bool) (x y : Loans) → b ≡ false → (if b && c then x else y) ≡ y
  off true c x y h = absurd (cc h)
  off false c x y h = refl

  none_lends : (here : ℕ) (node : NodeValue) (o : Option TransactionValue) (client : ClientNo) (stamp : ℕ) → o ≡ None → broken_loan here node o client stamp ≡ None → ⊥
  none_lends here node None client stamp is h = absurd (cc h)
  none_lends here node (Some tx) client stamp is h = absurd (cc is)

  none_yields : (here : ℕ) (node : NodeValue) (o : Option TransactionValue) (client : ClientNo) → o ≡ None → broken_yield here node o client ≡ None → ⊥
  none_yields here node None client is h = absurd (cc h)
  none_yields here node (Some tx) client is h = absurd (cc is)

  none_serves : (book : BookValue) (here : ℕ) (node : NodeValue) (t : Tid) (o : Option TransactionValue) (other : Member) (from n : ℕ) (reply : Reply) → o ≡ None → broken_serve here node book.transactions t o other from n reply ≡ None → ⊥
  none_serves book here node t None other from n reply is h = absurd (cc h)
  none_serves book here node t (Some tx) other from n reply is h = absurd (cc is)

  pub unknown_same : (book : BookValue) (entry : Entry) → broken book entry ≡ None → find_transaction book tid ≡ None → loans_after tid member loans entry.node entry.act ≡ loans
  unknown_same book entry h none = of (slice_get book.nodes entry.node.0) entry.act (held (is_in_order book entry) 1 _ h).1
    where
      apart : (t : Tid) → (find_transaction book t ≡ None → ⊥) → same_tid t tid ≡ false
      apart t k = by (same_tid t tid) refl
        where
          by : (b : Bool) → same_tid t tid ≡ b → b ≡ false
          by false is = refl
          by true is = absurd (k (ap (find_transaction book) (same_tid-true t tid is) ∙ none))

      act_same : (node : NodeValue) (act : Act) → broken_act book entry.stamp entry.node.0 node act ≡ None → loans_after tid member loans entry.node act ≡ loans
      act_same node (Serve t other from n reply) k = off (same_tid t tid) (same_member other member) _ loans (apart t (λ is. none_serves book entry.node.0 node t (find_transaction book t) other from.0 n reply is k))
      act_same node (Loan t client) k = off (same_tid t tid) (same_member (borrower client entry.node) member) _ loans (apart t (λ is. none_lends entry.node.0 node (find_transaction book t) client entry.stamp is k))
      act_same node (Yield t client) k = off (same_tid t tid) (same_member (borrower client entry.node) member) _ loans (apart t (λ is. none_yields entry.node.0 node (find_transaction book t) client is k))
      act_same node act k = refl

      of : (o : Option NodeValue) (act : Act) → broken_at book entry.stamp entry.node.0 o act ≡ None → loans_after tid member loans entry.node act ≡ loans
      of None act k = absurd (cc k)
      of (Some node) (Restart new pend done) k = refl
      of (Some node) act k = act_same node act (held node.up 2 (broken_act book entry.stamp entry.node.0 node act) k).1
