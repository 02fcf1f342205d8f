-- A transaction that the machine finds unanimous has come to that by entries of its history.
use Rattle.qs_book_laws.proofs.Words.{◌≡◌, ℕ, ◌+◌, ◌≤◌, ◌&&◌, Bool, true, false, List, [], ◌∷◌, ◌++◌, Option, Some, None, refl, sym, ap, subst, ◌∙◌, if◌then◌else◌, arith, le_refl, is_some, slice_get, list_all, Member, NodeNo, Outcome, Tid, class_of, is_two_phase, Op, Reply, Vote, Act, Serve, Ending, Learn, Loan, Yield, Entry, TransactionValue, part_of, is_unanimous, is_empty, all_served, agrees, serving_part, voted_part, learnt_part, found_part, Part, BookValue, find_transaction}
use Rattle.qs_book_laws.proofs.Words.{cell_of_transaction, is_done, borrower_at, broken_decide, broken_outcome, may_decide, broken_act, effect, IsLawful, book_after, NodeValue, opening, Opened, IsCoherent, IsCommitted}
use Rattle.qs_base.specs.declared.identifiers.Class.TheVariants as classes
use Rattle.qs_base.specs.declared.identifiers.Outcome.TheVariants as outcomes
use Rattle.qs_ops.specs.declared.vote.Vote.TheVariants as votes
use Rattle.qs_book_journal.specs.declared.entry.Act.TheVariants as acts
use Rattle.qs_book_machine.specs.declared.transaction.Cell.TheVariants as cells
use Rattle.qs_book_laws.specs.Unanimity.{no_loans, is_served_in, is_voted_in, are_returned, IsUnanimous}
use Rattle.qs_book_laws.proofs.Always.{IsSo, step_so, opening_so}
use Rattle.qs_book_laws.proofs.Answered.{each_served}
use Rattle.qs_book_laws.proofs.Ends.{lawful_node}
use Rattle.qs_book_laws.proofs.Holding.{left_of, right_of}
use Rattle.qs_book_laws.proofs.Lives.{inc_of_node, part_left}
use Rattle.qs_book_laws.proofs.Openings.{opening_holds}
use Rattle.qs_book_laws.proofs.Opposed.{unopposed, was_asked}
use Rattle.qs_book_laws.proofs.Outcomes.{Inv}
use Rattle.qs_book_laws.proofs.Parts.{part_for, part_after, is_own, put_part}
use Rattle.qs_book_laws.proofs.Ready.{unanimous_plain}
use Rattle.qs_book_laws.proofs.Returned.{lends_first, returned_by, returned_nowhere}
use Rattle.qs_book_laws.proofs.Steps.{held, stepped, ran, after_both, lawful_front, lawful_rest}
use Rattle.qs_book_laws.proofs.Unanimous.{unanimous_at_commit}
use Rattle.qs_book_laws.proofs.Voted.{served_is, covered_is}
use Rattle.qs_book_laws.proofs.Voting.{IsCovered, each_voted}

-- ---- votes cover at most what was served

abbrev Covers : Part → Type 0
Covers part = part.covered ≤ part.served

choose : (b : Bool) (x y : Part) → Covers x → Covers y → Covers (if b then x else y)
choose true x y p q = p
choose false x y p q = q

choose_for : (tid : Tid) (member : Member) (inc : ℕ) (t : Tid) (o : Option Member) (now : ℕ) (f : Part → Part) (part : Part) → Covers (f part) → Covers part → Covers (part_for tid member inc t o now f part)
choose_for tid member inc t None now f part p q = q
choose_for tid member inc t (Some other) now f part p q = choose (is_own tid member inc t other now) (f part) part p q

within : (a b c d : ℕ) → c ≡ a → d ≡ b + 1 → a ≤ b → c ≤ d
within a b c d p q h = omega arith

voted_covers : (ballot : Vote) (part : Part) → Covers part → Covers (voted_part ballot part)
voted_covers (votes.Abort reason) part h = h
voted_covers votes.ReadOnly part h = le_refl part.served
voted_covers votes.Volatile part h = le_refl part.served
voted_covers votes.Recoverable part h = le_refl part.served

learnt_covers : (outcome : Outcome) (part : Part) → Covers part → Covers (learnt_part outcome part)
learnt_covers outcomes.Commit part h = h
learnt_covers outcomes.Abort part h = h

module _ (tid : Tid) (member : Member) (inc : ℕ) where
  covers_after : (now stamp here : ℕ) (act : Act) (part : Part) → Covers part → Covers (part_after tid member inc now stamp here act part)
  covers_after now stamp here (Serve t other from n reply) part h =
      choose (is_own tid member inc t other now) (serving_part (class_of other.server.0) stamp (is_done reply) part) part
      (within part.covered part.served _ _ (covered_is (class_of other.server.0) stamp (is_done reply) part) (served_is (class_of other.server.0) stamp (is_done reply) part) h) h
  covers_after now stamp here (acts.Vote t other ballot covers) part h = choose (is_own tid member inc t other now) (voted_part ballot part) part (voted_covers ballot part h) h
  covers_after now stamp here (Ending t other) part h = choose (is_own tid member inc t other now) _ part h h
  covers_after now stamp here (Learn t other outcome) part h = choose (is_own tid member inc t other now) (learnt_part outcome part) part (learnt_covers outcome part h) h
  covers_after now stamp here (Loan t client) part h = choose_for tid member inc t (borrower_at client here) now _ part h h
  covers_after now stamp here (Yield t client) part h = choose_for tid member inc t (borrower_at client here) now _ part h h
  covers_after now stamp here act part h = h

  covers_all : (entries : List Entry) (book : BookValue) → Inv book → IsLawful book entries → IsSo tid (IsCovered member inc) book → IsSo tid (IsCovered member inc) (book_after book entries)
  covers_all [] book i lawful so = so
  covers_all (entry ∷ entries) book i lawful so =
      covers_all entries (effect book entry) (stepped book entry i lawful.0).inv lawful.1
      (step_so tid (IsCovered member inc) book entry i lawful.0 (λ label client ticks. le_refl 0) (part_left tid member inc Covers (λ covers changes. le_refl 0) covers_after book entry i lawful.0) so)

  covers_first : (opened : List Opened) → IsSo tid (IsCovered member inc) (opening opened)
  covers_first opened =
      opening_so tid (IsCovered member inc) (λ cell cause. le_refl 0)
      (λ m k covers changes tx p. subst Covers (sym (put_part member inc tx m k (found_part covers changes))) (choose _ (found_part covers changes) (part_of tx member inc) (le_refl 0) p)) opened

-- ---- the whole

module _ (opened : List Opened) (history : List Entry) (tid : Tid) (tx : TransactionValue) (coherent : IsCoherent opened) (lawful : IsLawful (opening opened) history)
    (found : find_transaction (book_after (opening opened) history) tid ≡ Some tx) (unanimous : is_unanimous tx ≡ true) where
  first_inv : Inv (opening opened)
  first_inv = opening_holds opened coherent

  asked_served : (is_some tx.asked && all_served tx) ≡ true
  asked_served = left_of (is_some tx.asked && all_served tx) (list_all agrees tx.parts && (is_empty tx.refusals && is_empty tx.crossed)) unanimous

  rest : (list_all agrees tx.parts && (is_empty tx.refusals && is_empty tx.crossed)) ≡ true
  rest = right_of (is_some tx.asked && all_served tx) (list_all agrees tx.parts && (is_empty tx.refusals && is_empty tx.crossed)) unanimous

  all_agree : list_all agrees tx.parts ≡ true
  all_agree = left_of (list_all agrees tx.parts) (is_empty tx.refusals && is_empty tx.crossed) rest

  none_against : is_empty tx.refusals ≡ true
  none_against = left_of (is_empty tx.refusals) (is_empty tx.crossed) (right_of (list_all agrees tx.parts) (is_empty tx.refusals && is_empty tx.crossed) rest)

  -- the history from one of its entries on
  record From (before more : List Entry) (entry : Entry) : Type 0 where
    inv : Inv (book_after (opening opened) before)
    begins : IsLawful (opening opened) before
    goes_on : IsLawful (book_after (opening opened) before) (entry ∷ more)
    ends : find_transaction (book_after (effect (book_after (opening opened) before) entry) more) tid ≡ Some tx

  from : (before more : List Entry) (entry : Entry) → history ≡ before ++ (entry ∷ more) → From before more entry
  from before more entry is =
      let whole : IsLawful (opening opened) (before ++ (entry ∷ more)) = subst (λ (h : List Entry). IsLawful (opening opened) h) is lawful in
      let begins : IsLawful (opening opened) before = lawful_front before (entry ∷ more) (opening opened) whole in
      record {
        inv = (ran before (opening opened) first_inv begins).inv;
        begins = begins;
        goes_on = lawful_rest before (entry ∷ more) (opening opened) whole;
        ends = ap (λ (b : BookValue). find_transaction b tid) (sym (after_both before (entry ∷ more) (opening opened))) ∙ (ap (λ (h : List Entry). find_transaction (book_after (opening opened) h) tid) (sym is) ∙ found);
      }

  served : (before more : List Entry) (issue : Entry) (issuer member : Member) (number : ℕ) (op : Op) → history ≡ before ++ (issue ∷ more) → issue.act ≡ acts.Issue tid issuer member number op → is_served_in issue.node tid member number more ≡ true
  served before more issue issuer member number op is act =
      let f : From before more issue = from before more issue is in
      each_served tid (book_after (opening opened) before) issue more tx issuer member number op f.inv f.goes_on act f.ends (right_of (is_some tx.asked) (all_served tx) asked_served) (unanimous_plain tx member unanimous)

  voted : (before more : List Entry) (serve : Entry) (member : Member) (sender : NodeNo) (number : ℕ) (reply : Reply) → is_two_phase (class_of member.server.0) ≡ true → history ≡ before ++ (serve ∷ more) → serve.act ≡ acts.Serve tid member sender number reply → is_voted_in tid member more ≡ true
  voted before more serve member sender number reply two is act =
      let f : From before more serve = from before more serve is in
      each_voted tid member (book_after (opening opened) before) serve more sender number reply tx two f.inv f.goes_on act
      (λ inc. covers_all tid member inc before (opening opened) first_inv f.begins (covers_first tid member inc opened)) f.ends all_agree

  returned : (member : Member) → class_of member.server.0 ≡ classes.Activity → are_returned tid member no_loans history ≡ true
  returned member class = by (slice_get (opening opened).nodes member.node.0) refl
    where
      by : (o : Option NodeValue) → slice_get (opening opened).nodes member.node.0 ≡ o → are_returned tid member no_loans history ≡ true
      by None none = returned_nowhere tid member history (opening opened) lawful none
      by (Some node) at =
          returned_by tid member history (opening opened) node.inc no_loans tx class first_inv lawful (lends_first tid member opened node.inc (inc_of_node (opening opened) member.node.0 node at)) found all_agree

  pub comes_to : IsUnanimous tid history
  comes_to = record {
    asked = was_asked tid history (opening opened) tx first_inv lawful (opening_so tid (λ t. t.asked ≡ None) (λ cell cause. refl) (λ m inc covers changes t p. p) opened) found (left_of (is_some tx.asked) (all_served tx) asked_served);
    served = served;
    voted = voted;
    unopposed = unopposed tid history (opening opened) tx first_inv lawful found none_against;
    returned = returned;
  }

-- ---- a decision, and a Commit that is found

decided_all : (here : ℕ) (node : NodeValue) (nodes : List NodeValue) (tid : Tid) (o : Option TransactionValue) (stamp : ℕ) → broken_decide here node nodes tid o stamp outcomes.Commit None ≡ None → (tx : TransactionValue) × (o ≡ Some tx) × (is_unanimous tx ≡ true)
decided_all here node nodes tid None stamp h = absurd (cc h)
decided_all here node nodes tid (Some tx) stamp h =
    (tx, refl, (held (is_unanimous tx) 71 None (held (may_decide here tid tx) 70 (broken_outcome node nodes tid tx stamp outcomes.Commit None) h).1).0)

pub unanimous_decision : (opened : List Opened) (before after : List Entry) (entry : Entry) (tid : Tid) → IsCoherent opened → IsLawful (opening opened) (before ++ (entry ∷ after)) → entry.act ≡ acts.Decide tid outcomes.Commit None → IsUnanimous tid before
unanimous_decision opened before after entry tid coherent lawful is =
    let book : BookValue = book_after (opening opened) before in
    let at : (node : NodeValue) × (slice_get book.nodes entry.node.0 ≡ Some node) × (broken_act book entry.stamp entry.node.0 node (acts.Decide tid outcomes.Commit None) ≡ None) =
    lawful_node book entry (acts.Decide tid outcomes.Commit None) is (λ node. refl) (lawful_rest before (entry ∷ after) (opening opened) lawful).0 in
    let all : (tx : TransactionValue) × (find_transaction book tid ≡ Some tx) × (is_unanimous tx ≡ true) = decided_all entry.node.0 at.0 book.nodes tid (find_transaction book tid) entry.stamp at.2 in
    comes_to opened before tid all.0 coherent (lawful_front before (entry ∷ after) (opening opened) lawful) all.1 all.2

one_more : (before after : List Entry) (entry : Entry) (book : BookValue) → IsLawful book (before ++ (entry ∷ after)) → IsLawful book (before ++ (entry ∷ []))
one_more [] after entry book h = (h.0, tt)
one_more (x ∷ before) after entry book h = (h.0, one_more before after entry (effect book x) h.1)

pub unanimous_commit : (opened : List Opened) (before after : List Entry) (entry : Entry) (tid : Tid) → IsCoherent opened → IsLawful (opening opened) (before ++ (entry ∷ after))
    → cell_of_transaction (find_transaction (book_after (opening opened) before) tid) ≡ Some cells.Open → IsCommitted (effect (book_after (opening opened) before) entry) tid → IsUnanimous tid before
unanimous_commit opened before after entry tid coherent lawful was now =
    let all : (tx : TransactionValue) × (find_transaction (book_after (opening opened) before) tid ≡ Some tx) × (is_unanimous tx ≡ true) =
    unanimous_at_commit opened before entry tid coherent (one_more before after entry (opening opened) lawful) was now in
    comes_to opened before tid all.0 coherent (lawful_front before (entry ∷ after) (opening opened) lawful) all.1 all.2
