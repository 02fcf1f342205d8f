-- What an entry makes of clients and fault lines leaves the reference machine, so that the machine takes the entry in as it was.
use Rattle.std.proofs.Common.{◌≡◌, ◌∙◌, ℕ, List, Option, refl}
use Rattle.std.specs.Prelude.{Bool, true, false, Some, None, if◌then◌else◌}
use Rattle.qs_base.specs.declared.identifiers.ClientNo.{ClientNo}
use Rattle.qs_base.specs.declared.identifiers.Member.{Member}
use Rattle.qs_base.specs.declared.identifiers.Outcome.TheVariants as outcomes
use Rattle.qs_base.specs.declared.identifiers.Tid.{Tid}
use Rattle.qs_ops.specs.Servers.{is_client_no}
use Rattle.qs_ops.specs.declared.answer.Cause.TheVariants as causes
use Rattle.qs_book_journal.specs.declared.entry.Act.{Act}
use Rattle.qs_book_journal.specs.declared.entry.Act.TheVariants as acts
use Rattle.qs_book_machine.specs.Book.{find_transaction, owner_of}
use Rattle.qs_book_conformance.specs.Borrowing.{node_no}
use Rattle.qs_book_conformance.specs.Course.{CourseValue}
use Rattle.qs_book_conformance.specs.Crashes.{passed_by}
use Rattle.qs_book_conformance.specs.Effects.{owner_makes, issued, has_mark, mark_at, past_before, past_after, past_label, label_of, past, client_effect, line_effect, stamped, with_node, without_mark, sought_by}
use Rattle.qs_book_conformance.specs.Rules.{client_of}
use Rattle.qs_book_conformance.specs.declared.values.Deed.{Deed}
use Rattle.qs_book_conformance.specs.declared.values.Deed.TheVariants as deeds
use Rattle.qs_book_conformance.specs.declared.values.CommandMade.{CommandMade}
use Rattle.qs_book_conformance.specs.declared.values.CommandMade.TheVariants as makes

-- of two courses with the same machine either has it
book_of_either : (test : Bool) (one other course : CourseValue) → one.book ≡ course.book → other.book ≡ course.book → (if test then one else other).book ≡ course.book
book_of_either true one other course first second = first
book_of_either false one other course first second = second

-- ---- fault lines

book_of_before : (here : ℕ) (deed : Deed) (label : List ℕ) (course : CourseValue) → (past_before here deed label course).book ≡ course.book
book_of_before here deed label course =
    book_of_either (has_mark course (mark_at here false deed label)) (with_node here passed_by (without_mark (mark_at here false deed label) course)) course course refl refl

book_of_after : (here : ℕ) (deed : Deed) (label : List ℕ) (course : CourseValue) → (past_after here deed label course).book ≡ course.book
book_of_after here deed label course =
    book_of_either (has_mark course (mark_at here true deed label)) (with_node here (λ node. record node { is_after = true }) (without_mark (mark_at here true deed label) course)) course course refl refl

book_of_label : (here : ℕ) (deed : Deed) (label : Option (List ℕ)) (course : CourseValue) → (past_label here deed label course).book ≡ course.book
book_of_label here deed None course = refl
book_of_label here deed (Some label) course =
    book_of_after here deed label (past_before here deed label course) ∙ book_of_before here deed label course

book_of_past : (here : ℕ) (deed : Deed) (tid : Tid) (course : CourseValue) → (past here deed tid course).book ≡ course.book
book_of_past here deed tid course = book_of_label here deed (label_of (find_transaction course.book tid)) course

book_of_line : (stamp here : ℕ) (act : Act) (course : CourseValue) → (line_effect stamp here act course).book ≡ course.book
book_of_line stamp here (acts.Serve tid member from number reply) course = book_of_past here deeds.Serve tid (stamped stamp here course)
book_of_line stamp here (acts.Vote tid member vote covers) course = book_of_past here deeds.Vote tid (stamped stamp here course)
book_of_line stamp here (acts.Decide tid outcome cause) course = book_of_past here deeds.Decide tid (stamped stamp here course)
book_of_line stamp here (acts.Learn tid member outcome) course = book_of_past here deeds.Learn tid (stamped stamp here course)
book_of_line stamp here act course = refl

-- ---- clients

book_of_owner : (owner : Option ClientNo) (made : CommandMade) (course : CourseValue) → (owner_makes owner made course).book ≡ course.book
book_of_owner None made course = refl
book_of_owner (Some client) made course = refl

book_of_issue : (here : ℕ) (tid : Tid) (issuer member : Member) (number : ℕ) (course : CourseValue) → (issued here tid issuer member number course).book ≡ course.book
book_of_issue here tid issuer member number course =
    book_of_either (is_client_no issuer.server.0) (sought_by (client_of issuer.server.0) (record { tid = tid; member = member; from = node_no here; number = number }) course) course course refl refl

book_of_client : (here : ℕ) (act : Act) (course : CourseValue) → (client_effect here act course).book ≡ course.book
book_of_client here (acts.Issue tid issuer member number op) course = book_of_issue here tid issuer member number course
book_of_client here (acts.Ask tid) course = book_of_owner (owner_of (find_transaction course.book tid)) makes.Asked course
book_of_client here (acts.Decide tid outcomes.Abort (Some causes.Asked)) course = book_of_owner (owner_of (find_transaction course.book tid)) makes.Aborted course
book_of_client here act course = refl

-- ---- both

pub book_of_effects : (stamp here : ℕ) (act : Act) (course : CourseValue) → (client_effect here act (line_effect stamp here act course)).book ≡ course.book
book_of_effects stamp here act course = book_of_client here act (line_effect stamp here act course) ∙ book_of_line stamp here act course
