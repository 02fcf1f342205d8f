-- The rules of the script by kinds: those of clients and what they command, those of files, and those of stops. Each kind reads its own part of the
-- course, so each is kept by itself.
use Rattle.std.specs.Prelude.{◌≡◌, ⊤, ℕ, ◌==◌, List, [], ◌∷◌, Option, Some, None, if◌then◌else◌}
use Rattle.qs_book_journal.specs.declared.entry.Act.{Act}
use Rattle.qs_book_journal.specs.declared.entry.Act.TheVariants as acts
use Rattle.qs_book_journal.specs.declared.entry.Entry.{Entry}
use Rattle.qs_ops.specs.Servers.{files_no, is_client_no}
use Rattle.qs_base.specs.declared.identifiers.Member.{Member}
use Rattle.qs_base.specs.declared.identifiers.Tid.{Tid}
use Rattle.qs_ops.specs.declared.operation.Op.{Op}
use Rattle.qs_book_conformance.specs.Answers.{broken_answer}
use Rattle.qs_book_conformance.specs.Borrowing.{broken_request, broken_yield}
use Rattle.qs_book_conformance.specs.Commands.{broken_begin, broken_ask}
use Rattle.qs_book_conformance.specs.Course.{CourseValue}
use Rattle.qs_book_conformance.specs.Crashes.{broken_crash}
use Rattle.qs_book_conformance.specs.Effects.{course_after}
use Rattle.qs_book_conformance.specs.Files.{broken_note, broken_restart, broken_vote}
use Rattle.qs_book_conformance.specs.Rules.{broken_decision, broken_loan, client_of}
use Rattle.qs_book_conformance.specs.declared.fault.Rule.{Rule}
use Rattle.qs_book_conformance.specs.declared.fault.Rule.TheVariants as rules

-- ---- clients: what they begin, issue, ask for, are answered, borrow and give back; and the cause of a decision

abbrev pub broken_issue_said : CourseValue → ℕ → Tid → Member → Member → Op → Option Rule
broken_issue_said course here tid issuer member op =
    if is_client_no issuer.server.0 then broken_request course here tid (client_of issuer.server.0) member op
    else if (issuer.server.0 == files_no) then None
    else Some rules.IssuerIsKnown

abbrev pub broken_said : CourseValue → ℕ → Act → Option Rule
broken_said course here (acts.Begin tid label client) = broken_begin course here label client
broken_said course here (acts.Issue tid issuer member number op) = broken_issue_said course here tid issuer member op
broken_said course here (acts.Ask tid) = broken_ask course here tid
broken_said course here (acts.Decide tid outcome cause) = broken_decision course here tid outcome cause
broken_said course here (acts.Answer client line answer) = broken_answer course here client line answer
broken_said course here (acts.Loan tid client) = broken_loan course here client
broken_said course here (acts.Yield tid client) = broken_yield course here tid client
broken_said course here act = None

-- ---- files: their votes, also such as a restart finds, and their notes

abbrev pub broken_issue_filed : CourseValue → Member → Member → Option Rule
broken_issue_filed course issuer member = if is_client_no issuer.server.0 then None else if (issuer.server.0 == files_no) then broken_note course member else None

abbrev pub broken_filed : CourseValue → ℕ → Act → Option Rule
broken_filed course here (acts.Vote tid member vote covers) = broken_vote course here tid member vote
broken_filed course here (acts.Issue tid issuer member number op) = broken_issue_filed course issuer member
broken_filed course here (acts.Restart inc pend done) = broken_restart course here pend
broken_filed course here act = None

-- ---- stops

abbrev pub broken_stopped : CourseValue → ℕ → ℕ → Act → Option Rule
broken_stopped course here stamp (acts.Crash cause) = broken_crash course here stamp cause
broken_stopped course here stamp act = None

-- ---- a kind of rules is kept by entries, from this course on

abbrev pub RuleOf : Type 0
RuleOf = CourseValue → Entry → Option Rule

abbrev pub said : RuleOf
said course entry = broken_said course entry.node.0 entry.act

abbrev pub filed : RuleOf
filed course entry = broken_filed course entry.node.0 entry.act

abbrev pub stopped : RuleOf
stopped course entry = broken_stopped course entry.node.0 entry.stamp entry.act

abbrev pub Keeps : RuleOf → CourseValue → List Entry → Type 0
Keeps rule course [] = ⊤
Keeps rule course (entry ∷ entries) = (rule course entry ≡ None) × Keeps rule (course_after course entry) entries

-- the course after entries
abbrev pub course_on : CourseValue → List Entry → CourseValue
course_on course [] = course
course_on course (entry ∷ entries) = course_on (course_after course entry) entries
