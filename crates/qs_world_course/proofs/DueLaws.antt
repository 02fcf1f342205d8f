-- Which answers are due.
use Rattle.std.proofs.Common.{◌≡◌, ◌∙◌, ℕ, ◌==◌, ◌<◌, Bool, true, false, List, Option, Some, None, inl, inr, refl, sym, ap, subst, arith}
use Rattle.std.specs.Prelude.{◌⊎◌, ◌||◌, ◌&&◌, nat_lt, slice_get, if◌then◌else◌}
use Rattle.std.proofs.lemmas.Bool.Decides.{nat_tests}
use Rattle.qs_base.specs.declared.identifiers.Member.{Member}
use Rattle.qs_base.specs.declared.identifiers.Tid.{Tid}
use Rattle.qs_base.proofs.TidOrder.{or-true}
use Rattle.qs_base_lemmas.proofs.Tests.{eqb-self}
use Rattle.qs_ops.specs.Operations.{answer_of}
use Rattle.qs_ops.specs.declared.answer.Answer.{Answer}
use Rattle.qs_ops.specs.declared.answer.Answer.TheVariants as answers
use Rattle.qs_ops.specs.declared.operation.Op.{Op}
use Rattle.qs_ops.specs.declared.reply.Reply.{Reply}
use Rattle.qs_book_journal.specs.declared.script_line.Command.TheVariants as commands
use Rattle.qs_book_journal.specs.declared.script_line.ScriptLine.{ScriptLine}
use Rattle.qs_book_machine.specs.Nodes.{keep_of}
use Rattle.qs_book_machine.specs.Transaction.{TransactionValue, is_abort, is_open}
use Rattle.qs_book_machine.specs.declared.transaction.Cell.{Cell}
use Rattle.qs_book_machine.specs.declared.transaction.Cell.TheVariants as cells
use Rattle.qs_book_conformance.specs.Answers.{broken_due, broken_line, is_begin_answer, is_borrower_answer, is_due, is_ended, is_known_answer, is_lent_answer, is_loan_answer, is_ok, is_owned_answer, is_refused, is_replied}
use Rattle.qs_book_conformance.specs.Borrowing.{is_void, next_loan, present_loan}
use Rattle.qs_book_conformance.specs.Commands.{is_begin}
use Rattle.qs_book_conformance.specs.Course.{ClientValue, borrowing_of, first_at, first_of, seated_first}
use Rattle.qs_book_conformance.specs.declared.fault.Rule.TheVariants as rules
use Rattle.qs_book_conformance.specs.declared.values.CommandMade.{CommandMade}
use Rattle.qs_book_conformance.specs.declared.values.CommandMade.TheVariants as makes
use Rattle.qs_book_conformance.specs.declared.values.Loan.{Loan}
use Rattle.qs_node_kept.specs.Loans.{first_untaken, last_taken}
use Rattle.qs_node_kept.specs.declared.kept.Lent.{Lent}
use Rattle.qs_node_step.specs.Commands.{outcome_answer}
use Rattle.qs_world_course.specs.Due.{BeginIsDue, BorrowerIsReplied, DueIsKept, EndedIsDue, EndsIt, HasLoans, IsDue, IsFirst, IsOf, IsOfLoan, IsReplied, IsVoidSo, NotBegunIsDue, NotYoursIsDue, OwnerIsEnded, OwnerIsReplied, OwnerIsTold, RefusalIsDue, Said, TakeIsDue}
use Rattle.qs_world_course.specs.Loans.{loan_in, loan_of}
use Rattle.qs_world_course.proofs.LoansGo.{first_free, next_is_next, present_is_present}

pub first_line : (s : Said) → IsFirst s → first_at s.course s.here s.client ≡ Some s.line
first_line s first =
    subst (λ (o : Option ClientValue). (elim o [ None ↦ None | Some c ↦ seated_first s.here c ]) ≡ Some s.line) (sym first.there)
    (subst (λ (b : Bool). (elim b [ true ↦ first_of s.state.left | false ↦ None ]) ≡ Some s.line) (sym first.seat) first.first)

nothing_broken : (a b : Bool) → a ≡ true → b ≡ true → broken_due a b ≡ None
nothing_broken a b e f = rw (e, f) refl

pub due_is_kept : DueIsKept
due_is_kept s answer first due =
    subst (λ (o : Option ClientValue). (elim o [ None ↦ Some rules.AnswersInOrder | Some c ↦ broken_line s.course s.here s.client c (first_at s.course s.here s.client) s.line.line answer ]) ≡ None) (sym first.there)
    (subst (λ (o : Option ScriptLine). broken_line s.course s.here s.client s.state o s.line.line answer ≡ None) (sym (first_line s first))
    (nothing_broken (s.line.line == s.line.line) (is_due s.course s.here s.client s.state s.line answer) (eqb-self s.line.line) due))

-- ---- a begin

begin_due : (s : Said) (answer : Answer) → is_refused s.state s.line.label ≡ false → s.line.command ≡ commands.Begin
    → is_begin_answer (slice_get s.course.book.nodes s.here) s.state.made answer ≡ true → IsDue s answer
begin_due s answer unrefused begins due = rw unrefused (rw (ap is_begin begins) due)

pub begin_is_due : BeginIsDue
begin_is_due s unrefused begins made = begin_due s answers.Done unrefused begins (rw made refl)

pub refusal_is_due : RefusalIsDue
refusal_is_due s node room unrefused begins made there less = begin_due s (answers.LogFull (keep_of node.format) room) unrefused begins (rw made (rw there (lacks (keep_of node.format) room less)))
  where
    lacks : (need room : ℕ) → room < need → ((need == need) && nat_lt room need) ≡ true
    lacks need room less = grind (arith, nat_tests, less)

pub not_begun_is_due : NotBegunIsDue
not_begun_is_due s refused = rw refused refl

-- ---- of a transaction that was begun

pub due_of : (s : Said) (own : Bool) (tid : Tid) (tx : TransactionValue) (answer : Answer) → IsOf s own tid tx → is_begin s.line.command ≡ false
    → is_due s.course s.here s.client s.state s.line answer ≡ is_known_answer s.course s.here s.client s.state tid (Some tx) s.line.command answer
due_of s own tid tx answer of other = rw (of.unrefused) (rw other (rw (of.label) (rw (of.found) refl)))

-- ---- the owner

pub owner_is_told : OwnerIsTold
owner_is_told s tid tx decided of which so = by which
  where
    by : EndsIt s.line.command → IsDue s (outcome_answer decided)
    by (inl is) = due_of s true tid tx (outcome_answer decided) of (ap is_begin is) ∙ rw of.own_is (rw is so)
    by (inr is) = due_of s true tid tx (outcome_answer decided) of (ap is_begin is) ∙ rw of.own_is (rw is so)

owned_ended : (cell : Cell) (replied : Bool) → is_open cell ≡ false → is_owned_answer cell replied answers.Ended ≡ true
owned_ended cells.Open replied over = absurd (cc over)
owned_ended cells.Commit replied over = refl
owned_ended cells.Abort replied over = refl

pub owner_is_ended : OwnerIsEnded
owner_is_ended s tid tx member op of is over = due_of s true tid tx answers.Ended of (ap is_begin is) ∙ rw of.own_is (rw is (owned_ended tx.cell (is_replied s.course s.state.made answers.Ended) over))

owned_open : (cell : Cell) (replied : Bool) (answer : Answer) → is_open cell ≡ true → replied ≡ true → is_owned_answer cell replied answer ≡ true
owned_open cells.Open replied answer stands given = given
owned_open cells.Commit replied answer stands given = absurd (cc stands)
owned_open cells.Abort replied answer stands given = absurd (cc stands)

replied_so : (s : Said) (reply : Reply) → IsReplied s reply → is_replied s.course s.state.made (answer_of reply) ≡ true
replied_so s reply r = rw r.made r.given

pub owner_is_replied : OwnerIsReplied
owner_is_replied s tid tx reply of r stands =
    due_of s true tid tx (answer_of reply) of (ap is_begin r.asks) ∙ rw of.own_is (rw r.asks (owned_open tx.cell (is_replied s.course s.state.made (answer_of reply)) (answer_of reply) stands (replied_so s reply r)))

-- ---- a borrower: what its loan makes due

-- ended where the node takes it to be void, and else as well
loan_due : (s : Said) (tx : TransactionValue) (loan : Lent) (void well : Bool) (answer : Answer) → loan.yielded ≡ false → IsVoidSo s tx loan void
    → (void ≡ true → is_ended answer ≡ true) → (void ≡ false → well ≡ true) → is_loan_answer s.course s.here tx (loan_of loan) well answer ≡ true
loan_due s tx loan void well answer free so ended else_well = rw free (by (is_void s.course.book s.here tx (loan_of loan)) refl)
  where
    may_end : Bool
    may_end = well || (is_abort tx.cell && is_ended answer)

    aborted : (void ≡ true) → (is_void s.course.book s.here tx (loan_of loan) ≡ true) ⊎ (is_abort tx.cell ≡ true) → is_void s.course.book s.here tx (loan_of loan) ≡ false → may_end ≡ true
    aborted v (inl is) not_so = absurd (cc (sym is ∙ not_so))
    aborted v (inr is) not_so = rw (is, ended v) (or-true well)

    not_void : (v : Bool) → void ≡ v → is_void s.course.book s.here tx (loan_of loan) ≡ false → may_end ≡ true
    not_void true v not_so = aborted v (so.so v) not_so
    not_void false v not_so = rw (else_well v) refl

    by : (b : Bool) → is_void s.course.book s.here tx (loan_of loan) ≡ b → (if b then is_ended answer else may_end) ≡ true
    by true is = ended (so.known is)
    by false is = not_void void refl is

lent_due : (s : Said) (tx : TransactionValue) (o : Option Loan) (loan : Lent) (well : Bool) (answer : Answer) → Some (loan_of loan) ≡ o → is_loan_answer s.course s.here tx (loan_of loan) well answer ≡ true
    → is_lent_answer s.course s.here tx o well answer ≡ true
lent_due s tx o loan well answer is due = subst (λ (p : Option Loan). is_lent_answer s.course s.here tx p well answer ≡ true) is due

next_there : (s : Said) (tid : Tid) (loans : List Lent) (loan : Lent) → HasLoans s tid loans → first_untaken s.client tid loans ≡ Some loan → Some (loan_of loan) ≡ next_loan (borrowing_of s.state tid)
next_there s tid loans loan h is = sym (ap loan_in is) ∙ next_is_next s.client tid loans (borrowing_of s.state tid) h

pub present_there : (s : Said) (tid : Tid) (loans : List Lent) (loan : Lent) → HasLoans s tid loans → last_taken s.client tid loans ≡ Some loan → Some (loan_of loan) ≡ present_loan (borrowing_of s.state tid)
present_there s tid loans loan h is = sym (ap loan_in is) ∙ present_is_present s.client tid loans (borrowing_of s.state tid) h

-- ---- a borrower: each answer

pub take_is_due : TakeIsDue
take_is_due s tid tx loans loan void of is h found so =
    due_of s false tid tx said of (ap is_begin is) ∙ rw of.own_is (rw is
    (lent_due s tx (next_loan (borrowing_of s.state tid)) loan (is_ok said) said (next_there s tid loans loan h found)
    (loan_due s tx loan void (is_ok said) said (first_free s.client tid loans (borrowing_of s.state tid).taken loan h.taken found) so (if_ended void) (if_ok void))))
  where
    said : Answer
    said = if void then answers.Ended else answers.Done

    if_ended : (b : Bool) → b ≡ true → is_ended (if b then answers.Ended else answers.Done) ≡ true
    if_ended b e = rw e refl

    if_ok : (b : Bool) → b ≡ false → is_ok (if b then answers.Ended else answers.Done) ≡ true
    if_ok b e = rw e refl

-- of a command of its present loan
of_present : (s : Said) (tid : Tid) (tx : TransactionValue) (loans : List Lent) (loan : Lent) (answer : Answer) → IsOfLoan s tid tx loans loan
    → ((well : Bool) → is_loan_answer s.course s.here tx (loan_of loan) well answer ≡ true) → IsDue s answer
of_present s tid tx loans loan answer o each = by o.which
  where
    lends : (well : Bool) → is_lent_answer s.course s.here tx (present_loan (borrowing_of s.state tid)) well answer ≡ true
    lends well = lent_due s tx (present_loan (borrowing_of s.state tid)) loan well answer (present_there s tid loans loan o.held o.last) (each well)

    yields : (made : CommandMade) → (made ≡ makes.GaveBack → ⊥) → is_borrower_answer s.course s.here tx (borrowing_of s.state tid) made commands.Yield answer ≡ true
    yields makes.Nothing kept = lends false
    yields makes.Begun kept = lends false
    yields makes.Asked kept = lends false
    yields makes.Aborted kept = lends false
    yields makes.GaveBack kept = absurd (kept refl)
    yields (makes.Issued sought) kept = lends false

    by : (s.line.command ≡ commands.Yield) ⊎ ((member : Member) × ((op : Op) × (s.line.command ≡ commands.Request member op))) → IsDue s answer
    by (inl is) = due_of s false tid tx answer o.of (ap is_begin is) ∙ rw o.of.own_is (rw is (yields s.state.made o.ungiven))
    by (inr (member, (op, is))) = due_of s false tid tx answer o.of (ap is_begin is) ∙ rw o.of.own_is (rw is (lends (is_replied s.course s.state.made answer)))

pub not_yours_is_due : NotYoursIsDue
not_yours_is_due s tid tx loans loan o given = of_present s tid tx loans loan answers.NotYours o (λ well. rw given refl)

pub ended_is_due : EndedIsDue
ended_is_due s tid tx loans loan o free so = of_present s tid tx loans loan answers.Ended o (λ well. loan_due s tx loan true well answers.Ended free so (λ e. refl) (λ e. absurd (cc e)))

pub borrower_is_replied : BorrowerIsReplied
borrower_is_replied s tid tx loans loan reply o r free so =
    due_of s false tid tx (answer_of reply) o.of (ap is_begin r.asks) ∙ rw o.of.own_is (rw r.asks
    (lent_due s tx (present_loan (borrowing_of s.state tid)) loan (is_replied s.course s.state.made (answer_of reply)) (answer_of reply) (present_there s tid loans loan o.held o.last)
    (loan_due s tx loan false (is_replied s.course s.state.made (answer_of reply)) (answer_of reply) free so (λ e. absurd (cc e)) (λ e. replied_so s reply r))))
