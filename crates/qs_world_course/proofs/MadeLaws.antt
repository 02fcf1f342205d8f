-- What a command makes breaks no rule.
use Rattle.std.proofs.Common.{◌≡◌, ◌∙◌, ℕ, ◌==◌, Bool, true, false, Option, Some, None, refl, sym, ap, subst, arith}
use Rattle.std.specs.Prelude.{◌&&◌, ◌||◌, not, slice_get}
use Rattle.std.proofs.lemmas.Bool.Decides.{nat_tests}
use Rattle.qs_base.specs.Order.{same_bytes, same_member}
use Rattle.qs_base.specs.declared.identifiers.ClientNo.{ClientNo}
use Rattle.qs_base.specs.declared.identifiers.Member.{Member}
use Rattle.qs_base.specs.declared.identifiers.Tid.{Tid}
use Rattle.qs_base.proofs.Same.{same_bytes-self, same_member-self, same_tid-self}
use Rattle.qs_base_lemmas.proofs.Tests.{eqb-self}
use Rattle.qs_ops.specs.declared.operation.Op.{Op}
use Rattle.qs_ops.specs.declared.operation.Op.TheVariants.{Put, Append, Del, Get, Listing, Note, Notes, Bind, Find, Timer, Left, Window, Title, Keep, Fetch, Lend, Extra}
use Rattle.qs_book_journal.specs.declared.script_line.Command.TheVariants as commands
use Rattle.qs_book_machine.specs.Book.{find_transaction, owner_of}
use Rattle.qs_book_machine.specs.Transaction.{TransactionValue}
use Rattle.qs_book_conformance.specs.Alike.{same_op}
use Rattle.qs_book_conformance.specs.Borrowing.{broken_loan_use, has_loan, may_issue, owns, stands, stands_for}
use Rattle.qs_book_conformance.specs.Commands.{broken_command, broken_ask_by, broken_asked_by, is_abort, is_begin, is_commit, is_label_of, is_request, is_tid, is_yield, says_abort, says_begin, says_commit, says_request, says_yield}
use Rattle.qs_book_conformance.specs.Course.{ClientValue, first_at, made_by}
use Rattle.qs_book_conformance.specs.declared.fault.Rule.{Rule}
use Rattle.qs_book_conformance.specs.declared.values.CommandMade.{CommandMade}
use Rattle.qs_book_conformance.specs.declared.values.CommandMade.TheVariants as makes
use Rattle.qs_book_conformance.specs.declared.values.Loan.{Loan}
use Rattle.qs_world_course.specs.Due.{IsFirst, IsOf, Said}
use Rattle.qs_world_course.specs.Making.{AbortIsKept, AskIsKept, BeginIsKept, BorrowerMayIssue, BorrowerMayYield, HasStanding, OwnerMayIssue}
use Rattle.qs_world_course.proofs.DueLaws.{first_line, present_there}

both : (a b : Bool) → a ≡ true → b ≡ true → (a && b) ≡ true
both a b e f = rw (e, f) refl

-- the command says so and has made nothing
command_kept : (says : Bool) (made : CommandMade) → says ≡ true → made ≡ makes.Nothing → broken_command says made ≡ None
command_kept says made e f = rw (e, f) refl

made_is : (s : Said) → IsFirst s → made_by s.course s.client ≡ s.state.made
made_is s first = subst (λ (o : Option ClientValue). (elim o [ None ↦ makes.Nothing | Some c ↦ c.made ]) ≡ s.state.made) (sym first.there) refl

label_is : (s : Said) (own : Bool) (tid : Tid) (tx : TransactionValue) → IsOf s own tid tx → is_label_of s.course.book tid s.line.label ≡ true
label_is s own tid tx of = ap (is_tid tid) of.label ∙ same_tid-self tid

-- the owner is the one that owns
owner_so : (o : Option ClientNo) (client : ClientNo) → owns o client ≡ true → o ≡ Some client
owner_so None client is = absurd (cc is)
owner_so (Some owner) client is = ap (λ (k : ℕ). Some (client_no k)) (same owner.0 client.0 is)
  where
    client_no : ℕ → ClientNo
    client_no k = record { 0 = k }

    same : (n m : ℕ) → (n == m) ≡ true → n ≡ m
    same n m e = grind (arith, nat_tests, e)

owner_is : (s : Said) (tid : Tid) (tx : TransactionValue) → IsOf s true tid tx → owner_of (find_transaction s.course.book tid) ≡ Some s.client
owner_is s tid tx of = ap owner_of of.found ∙ owner_so tx.owner s.client of.own_is

-- ---- begins, asks and aborts

pub begin_is_kept : BeginIsKept
begin_is_kept s says = command_kept (says_begin s.line.label (first_at s.course s.here s.client)) (made_by s.course s.client)
    (ap (says_begin s.line.label) (first_line s says.first) ∙ both (same_bytes s.line.label s.line.label) (is_begin s.line.command) (same_bytes-self s.line.label) (ap is_begin says.is))
    (made_is s says.first ∙ says.nothing)

pub ask_is_kept : AskIsKept
ask_is_kept s tid tx says of = ap (broken_ask_by s.course s.here tid) (owner_is s tid tx of)
    ∙ command_kept (says_commit s.course.book tid (first_at s.course s.here s.client)) (made_by s.course s.client)
    (ap (says_commit s.course.book tid) (first_line s says.first) ∙ both (is_label_of s.course.book tid s.line.label) (is_commit s.line.command) (label_is s true tid tx of) (ap is_commit says.is))
    (made_is s says.first ∙ says.nothing)

pub abort_is_kept : AbortIsKept
abort_is_kept s tid tx says of = ap (broken_asked_by s.course s.here tid) (owner_is s tid tx of)
    ∙ command_kept (says_abort s.course.book tid (first_at s.course s.here s.client)) (made_by s.course s.client)
    (ap (says_abort s.course.book tid) (first_line s says.first) ∙ both (is_label_of s.course.book tid s.line.label) (is_abort s.line.command) (label_is s true tid tx of) (ap is_abort says.is))
    (made_is s says.first ∙ says.nothing)

-- ---- requests and yields

op_itself : (op : Op) → same_op op op ≡ true
op_itself (Put name text) = both (same_bytes name name) _ (same_bytes-self name) (same_bytes-self text)
op_itself (Append name text) = both (same_bytes name name) _ (same_bytes-self name) (same_bytes-self text)
op_itself (Del name) = same_bytes-self name
op_itself (Get name) = same_bytes-self name
op_itself Listing = refl
op_itself (Note text) = same_bytes-self text
op_itself Notes = refl
op_itself (Bind name text) = both (same_bytes name name) _ (same_bytes-self name) (same_bytes-self text)
op_itself (Find name) = same_bytes-self name
op_itself (Timer name ticks) = both (same_bytes name name) _ (same_bytes-self name) (eqb-self ticks)
op_itself (Left name) = same_bytes-self name
op_itself (Window name text) = both (same_bytes name name) _ (same_bytes-self name) (same_bytes-self text)
op_itself (Title name) = same_bytes-self name
op_itself (Keep name text) = both (same_bytes name name) _ (same_bytes-self name) (same_bytes-self text)
op_itself (Fetch name) = same_bytes-self name
op_itself (Lend client) = eqb-self client.0
op_itself (Extra code text) = both (code == code) _ (eqb-self code) (same_bytes-self text)

request_said : (s : Said) (own : Bool) (tid : Tid) (tx : TransactionValue) (member : Member) (op : Op) → IsFirst s → IsOf s own tid tx → s.line.command ≡ commands.Request member op
    → says_request s.course.book tid member op (first_at s.course s.here s.client) ≡ true
request_said s own tid tx member op first of is = ap (says_request s.course.book tid member op) (first_line s first)
    ∙ both (is_label_of s.course.book tid s.line.label) _ (label_is s own tid tx of) (ap (is_request member op) is ∙ both (same_member member member) _ (same_member-self member) (op_itself op))

use_kept : (good : Bool) (o : Option Rule) → good ≡ true → o ≡ None → broken_loan_use good o ≡ None
use_kept good o e f = rw (f, e) refl

or_second : (a b : Bool) → b ≡ true → (a || b) ≡ true
or_second true b e = refl
or_second false b e = e

pub owner_may_issue : OwnerMayIssue
owner_may_issue s tid tx member op says of =
    use_kept (may_issue s.course s.here tid s.client (find_transaction s.course.book tid)) _ (ap (may_issue s.course s.here tid s.client) of.found ∙ rw of.own_is refl)
    (command_kept (says_request s.course.book tid member op (first_at s.course s.here s.client)) (made_by s.course s.client) (request_said s true tid tx member op says.first of says.is) (made_is s says.first ∙ says.nothing))

-- the present loan stands
loan_stands : (s : Said) (tid : Tid) (tx : TransactionValue) → IsFirst s → HasStanding s tid tx → has_loan s.course s.here tid tx (slice_get s.course.clients s.client.0) ≡ true
loan_stands s tid tx first so = ap (has_loan s.course s.here tid tx) first.there
    ∙ subst (λ (o : Option Loan). stands s.course.book s.here tx o ≡ true) (present_there s tid so.loans so.loan so.held so.last) (both (not so.loan.yielded) _ (ap not so.ungiven) (ap not so.stands))

pub borrower_may_issue : BorrowerMayIssue
borrower_may_issue s tid tx member op says so =
    use_kept (may_issue s.course s.here tid s.client (find_transaction s.course.book tid)) _
    (ap (may_issue s.course s.here tid s.client) so.of.found ∙ or_second (owns tx.owner s.client) _ (loan_stands s tid tx says.first so))
    (command_kept (says_request s.course.book tid member op (first_at s.course s.here s.client)) (made_by s.course s.client) (request_said s false tid tx member op says.first so.of says.is) (made_is s says.first ∙ says.nothing))

pub borrower_may_yield : BorrowerMayYield
borrower_may_yield s tid tx says so =
    use_kept (stands_for s.course s.here tid s.client (find_transaction s.course.book tid)) _
    (ap (stands_for s.course s.here tid s.client) so.of.found ∙ loan_stands s tid tx says.first so)
    (command_kept (says_yield s.course.book tid (first_at s.course s.here s.client)) (made_by s.course s.client)
    (ap (says_yield s.course.book tid) (first_line s says.first) ∙ both (is_label_of s.course.book tid s.line.label) _ (label_is s false tid tx so.of) (ap is_yield says.is))
    (made_is s says.first ∙ says.nothing))
