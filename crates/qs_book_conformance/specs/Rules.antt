-- For each kind of entry the first rule that it breaks. Every kind has its case.
use Rattle.std.specs.Prelude.{ℕ, ◌-◌, ◌==◌, Bool, false, Option, Some, None, slice_get, if◌then◌else◌}
use Rattle.qs_base.specs.declared.identifiers.ClientNo.{ClientNo}
use Rattle.qs_base.specs.declared.identifiers.Member.{Member}
use Rattle.qs_base.specs.declared.identifiers.Outcome.{Outcome}
use Rattle.qs_base.specs.declared.identifiers.Outcome.TheVariants as outcomes
use Rattle.qs_base.specs.declared.identifiers.Tid.{Tid}
use Rattle.qs_ops.specs.Servers.{files_no, client_no, is_client_no}
use Rattle.qs_ops.specs.declared.answer.Cause.{Cause}
use Rattle.qs_ops.specs.declared.answer.Cause.TheVariants as causes
use Rattle.qs_ops.specs.declared.operation.Op.{Op}
use Rattle.qs_book_journal.specs.declared.entry.Act.{Act}
use Rattle.qs_book_journal.specs.declared.entry.Act.TheVariants as acts
use Rattle.qs_book_journal.specs.declared.entry.Entry.{Entry}
use Rattle.qs_book_conformance.specs.Answers.{broken_answer}
use Rattle.qs_book_conformance.specs.Borrowing.{broken_request, broken_yield}
use Rattle.qs_book_conformance.specs.Commands.{broken_begin, broken_ask, broken_asked}
use Rattle.qs_book_conformance.specs.Course.{CourseValue, is_seat}
use Rattle.qs_book_conformance.specs.Crashes.{broken_crash}
use Rattle.qs_book_conformance.specs.Files.{broken_note, broken_restart, broken_vote}
use Rattle.qs_book_conformance.specs.declared.fault.Rule.{Rule}
use Rattle.qs_book_conformance.specs.declared.fault.Rule.TheVariants as rules

-- the client that a server number stands for
abbrev pub client_of : ℕ → ClientNo
client_of server = record { 0 = server - client_no 0 }

-- a client issues what it commands, files issue notes, and nobody else issues
abbrev pub broken_issue : CourseValue → ℕ → Tid → Member → Member → Op → Option Rule
broken_issue course here tid issuer member op =
    if is_client_no issuer.server.0 then broken_request course here tid (client_of issuer.server.0) member op
    else if issuer.server.0 == files_no then broken_note course member
    else Some rules.IssuerIsKnown

-- A vote against commit, an incarnation that is gone and a log without room are grounds that the machine's clauses judge alone.
-- A restart alone aborts with `home`, in no entry of a decision, and a script sets no age limit.
abbrev pub broken_cause : CourseValue → ℕ → Tid → Cause → Option Rule
broken_cause course here tid causes.Asked = broken_asked course here tid
broken_cause course here tid (causes.Voted member reason) = None
broken_cause course here tid (causes.Gone node inc) = None
broken_cause course here tid (causes.Room need room) = None
broken_cause course here tid (causes.Home inc) = Some rules.CauseIsAllowed
broken_cause course here tid (causes.Old age) = Some rules.CauseIsAllowed

-- a commit is the machine's own, and has no cause
abbrev pub broken_decision : CourseValue → ℕ → Tid → Outcome → Option Cause → Option Rule
broken_decision course here tid outcomes.Commit None = None
broken_decision course here tid outcomes.Abort (Some cause) = broken_cause course here tid cause
broken_decision course here tid _ _ = Some rules.CauseIsAllowed

abbrev pub is_seated : CourseValue → ℕ → ClientNo → Bool
is_seated course here client = elim (slice_get course.clients client.0) [ None ↦ false | Some state ↦ is_seat state.seat here ]

abbrev pub broken_loan : CourseValue → ℕ → ClientNo → Option Rule
broken_loan course here client = if is_seated course here client then None else Some rules.LoanAtItsNode

-- how it stops, starts, and what else the script has no part in: a serve's request was issued by the script's command or by files,
-- and its reply, what is counted, ended and learnt is all by the machine's clauses; a node ticks when it likes
abbrev pub broken_rest : CourseValue → ℕ → ℕ → Act → Option Rule
broken_rest course stamp here (acts.Serve tid member from number reply) = None
broken_rest course stamp here (acts.Counted tid peer up_to) = None
broken_rest course stamp here (acts.Ending tid member) = None
broken_rest course stamp here (acts.Learn tid member outcome) = None
broken_rest course stamp here acts.Tick = None
broken_rest course stamp here (acts.Crash cause) = broken_crash course here stamp cause
broken_rest course stamp here (acts.Restart inc pend done) = broken_restart course here pend
broken_rest course stamp here _ = Some rules.CarriesOutItsCommand

-- the first rule that the act at this node breaks
abbrev pub broken_act : CourseValue → ℕ → ℕ → Act → Option Rule
broken_act course stamp here (acts.Begin tid label client) = broken_begin course here label client
broken_act course stamp here (acts.Issue tid issuer member number op) = broken_issue course here tid issuer member op
broken_act course stamp here (acts.Ask tid) = broken_ask course here tid
broken_act course stamp here (acts.Vote tid member vote covers) = broken_vote course here tid member vote
broken_act course stamp here (acts.Decide tid outcome cause) = broken_decision course here tid outcome cause
broken_act course stamp here (acts.Answer client line answer) = broken_answer course here client line answer
broken_act course stamp here (acts.Loan tid client) = broken_loan course here client
broken_act course stamp here (acts.Yield tid client) = broken_yield course here tid client
broken_act course stamp here act = broken_rest course stamp here act

abbrev pub broken_rule : CourseValue → Entry → Option Rule
broken_rule course entry = broken_act course entry.stamp entry.node.0 entry.act
