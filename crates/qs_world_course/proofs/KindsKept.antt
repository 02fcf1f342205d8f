-- Each kind of rules is kept by itself.
use Rattle.std.proofs.Common.{◌≡◌, ◌∙◌, ℕ, ◌==◌, Bool, true, false, List, [], ◌∷◌, Option, Some, None, refl, ap}
use Rattle.std.specs.Prelude.{if◌then◌else◌}
use Rattle.qs_base.specs.declared.identifiers.Outcome.TheVariants as outcomes
use Rattle.qs_base.specs.declared.identifiers.Tid.{Tid}
use Rattle.qs_book_journal.specs.declared.entry.Act.{Act}
use Rattle.qs_book_journal.specs.declared.entry.Act.TheVariants as acts
use Rattle.qs_ops.specs.Servers.{files_no, is_client_no}
use Rattle.qs_ops.specs.declared.answer.Cause.TheVariants as causes
use Rattle.qs_book_conformance.specs.Borrowing.{broken_request}
use Rattle.qs_book_conformance.specs.Course.{CourseValue}
use Rattle.qs_book_conformance.specs.Effects.{client_effect, course_after, has_mark, line_effect, mark_at, past_after, past_before, past_label, stamped, with_node, without_mark}
use Rattle.qs_book_conformance.specs.Crashes.{passed_by}
use Rattle.qs_book_conformance.specs.declared.values.Deed.{Deed}
use Rattle.qs_book_conformance.specs.declared.values.Deed.TheVariants as deeds
use Rattle.qs_book_machine.specs.Book.{find_transaction}
use Rattle.qs_book_conformance.specs.Effects.{label_of, past}
use Rattle.qs_book_conformance.specs.Files.{broken_note}
use Rattle.qs_book_conformance.specs.Rules.{broken_act, client_of}
use Rattle.qs_book_conformance.specs.declared.fault.Rule.{Rule}
use Rattle.qs_book_conformance.specs.declared.fault.Rule.TheVariants as rules
use Rattle.qs_world_course.specs.KindLaws.{IsQuiet, KindsAreAll, LeavesClients, LinesLeaveClients, QuietLeavesClients}
use Rattle.qs_world_course.specs.Kinds.{broken_filed, broken_said, broken_stopped}

issue_kept : (a b : Bool) (request noted : Option Rule) → (if a then request else if b then None else Some rules.IssuerIsKnown) ≡ None → (if a then None else if b then noted else None) ≡ None
    → (if a then request else if b then noted else Some rules.IssuerIsKnown) ≡ None
issue_kept true b request noted s f = s
issue_kept false true request noted s f = f
issue_kept false false request noted s f = s

act_kept : (course : CourseValue) (stamp here : ℕ) (act : Act) → broken_said course here act ≡ None → broken_filed course here act ≡ None → broken_stopped course here stamp act ≡ None → broken_act course stamp here act ≡ None
act_kept course stamp here (acts.Begin tid label client) s f p = s
act_kept course stamp here (acts.Issue tid issuer member number op) s f p =
    issue_kept (is_client_no issuer.server.0) (issuer.server.0 == files_no) (broken_request course here tid (client_of issuer.server.0) member op) (broken_note course member) s f
act_kept course stamp here (acts.Serve tid member from number reply) s f p = refl
act_kept course stamp here (acts.Ask tid) s f p = s
act_kept course stamp here (acts.Vote tid member vote covers) s f p = f
act_kept course stamp here (acts.Counted tid peer up_to) s f p = refl
act_kept course stamp here (acts.Decide tid outcome cause) s f p = s
act_kept course stamp here (acts.Ending tid member) s f p = refl
act_kept course stamp here (acts.Learn tid member outcome) s f p = refl
act_kept course stamp here (acts.Answer client line answer) s f p = s
act_kept course stamp here (acts.Loan tid client) s f p = s
act_kept course stamp here (acts.Yield tid client) s f p = s
act_kept course stamp here acts.Tick s f p = refl
act_kept course stamp here (acts.Crash cause) s f p = p
act_kept course stamp here (acts.Restart inc pend done) s f p = f

pub kinds_are_all : KindsAreAll
kinds_are_all course [] s f p = tt
kinds_are_all course (entry ∷ entries) s f p = (act_kept course entry.stamp entry.node.0 entry.act s.0 f.0 p.0, kinds_are_all (course_after course entry) entries s.1 f.1 p.1)

-- ---- what an entry does to fault lines leaves what the course has of clients

itself : (course : CourseValue) → LeavesClients course course
itself course = record { clients = refl; replies = refl; book = refl; audit = refl }

then_leaves : (a b c : CourseValue) → LeavesClients a b → LeavesClients b c → LeavesClients a c
then_leaves a b c h g = record { clients = g.clients ∙ h.clients; replies = g.replies ∙ h.replies; book = g.book ∙ h.book; audit = g.audit ∙ h.audit }

before_leaves : (here : ℕ) (deed : Deed) (label : List ℕ) (course : CourseValue) → LeavesClients course (past_before here deed label course)
before_leaves here deed label course = by (has_mark course (mark_at here false deed label))
  where
    by : (b : Bool) → LeavesClients course (if b then with_node here passed_by (without_mark (mark_at here false deed label) course) else course)
    by true = record { clients = refl; replies = refl; book = refl; audit = refl }
    by false = itself course

after_leaves : (here : ℕ) (deed : Deed) (label : List ℕ) (course : CourseValue) → LeavesClients course (past_after here deed label course)
after_leaves here deed label course = by (has_mark course (mark_at here true deed label))
  where
    by : (b : Bool) → LeavesClients course (if b then with_node here (λ node. record node { is_after = true }) (without_mark (mark_at here true deed label) course) else course)
    by true = record { clients = refl; replies = refl; book = refl; audit = refl }
    by false = itself course

label_leaves : (here : ℕ) (deed : Deed) (label : Option (List ℕ)) (course : CourseValue) → LeavesClients course (past_label here deed label course)
label_leaves here deed None course = itself course
label_leaves here deed (Some label) course = then_leaves course (past_before here deed label course) (past_after here deed label (past_before here deed label course)) (before_leaves here deed label course) (after_leaves here deed label (past_before here deed label course))

stamp_leaves : (stamp here : ℕ) (course : CourseValue) → LeavesClients course (stamped stamp here course)
stamp_leaves stamp here course = record { clients = refl; replies = refl; book = refl; audit = refl }

past_leaves : (stamp here : ℕ) (deed : Deed) (tid : Tid) (course : CourseValue) → LeavesClients course (past here deed tid (stamped stamp here course))
past_leaves stamp here deed tid course = then_leaves course (stamped stamp here course) (past here deed tid (stamped stamp here course)) (stamp_leaves stamp here course)
    (label_leaves here deed (label_of (find_transaction (stamped stamp here course).book tid)) (stamped stamp here course))

pub lines_leave_clients : LinesLeaveClients
lines_leave_clients stamp here (acts.Serve tid member from number reply) course = past_leaves stamp here deeds.Serve tid course
lines_leave_clients stamp here (acts.Vote tid member vote covers) course = past_leaves stamp here deeds.Vote tid course
lines_leave_clients stamp here (acts.Decide tid outcome cause) course = past_leaves stamp here deeds.Decide tid course
lines_leave_clients stamp here (acts.Learn tid member outcome) course = past_leaves stamp here deeds.Learn tid course
lines_leave_clients stamp here (acts.Crash cause) course = record { clients = refl; replies = refl; book = refl; audit = refl }
lines_leave_clients stamp here (acts.Begin tid label client) course = stamp_leaves stamp here course
lines_leave_clients stamp here (acts.Issue tid issuer member number op) course = stamp_leaves stamp here course
lines_leave_clients stamp here (acts.Ask tid) course = stamp_leaves stamp here course
lines_leave_clients stamp here (acts.Counted tid peer up_to) course = stamp_leaves stamp here course
lines_leave_clients stamp here (acts.Ending tid member) course = stamp_leaves stamp here course
lines_leave_clients stamp here (acts.Answer client line answer) course = stamp_leaves stamp here course
lines_leave_clients stamp here (acts.Loan tid client) course = stamp_leaves stamp here course
lines_leave_clients stamp here (acts.Yield tid client) course = stamp_leaves stamp here course
lines_leave_clients stamp here acts.Tick course = stamp_leaves stamp here course
lines_leave_clients stamp here (acts.Restart inc pend done) course = stamp_leaves stamp here course

-- ---- an entry that is no command's leaves clients and replies

quiet_effect : (here : ℕ) (act : Act) (course : CourseValue) → IsQuiet act → client_effect here act course ≡ course
quiet_effect here (acts.Begin tid label client) course q = absurd q
quiet_effect here (acts.Issue tid issuer member number op) course q = absurd q
quiet_effect here (acts.Serve tid member from number reply) course q = absurd q
quiet_effect here (acts.Ask tid) course q = absurd q
quiet_effect here (acts.Answer client line answer) course q = absurd q
quiet_effect here (acts.Loan tid client) course q = absurd q
quiet_effect here (acts.Yield tid client) course q = absurd q
quiet_effect here (acts.Vote tid member vote covers) course q = refl
quiet_effect here (acts.Counted tid peer up_to) course q = refl
quiet_effect here (acts.Ending tid member) course q = refl
quiet_effect here (acts.Learn tid member outcome) course q = refl
quiet_effect here acts.Tick course q = refl
quiet_effect here (acts.Crash cause) course q = refl
quiet_effect here (acts.Restart inc pend done) course q = refl
quiet_effect here (acts.Decide tid outcomes.Commit cause) course q = refl
quiet_effect here (acts.Decide tid outcomes.Abort None) course q = refl
quiet_effect here (acts.Decide tid outcomes.Abort (Some causes.Asked)) course q = absurd q
quiet_effect here (acts.Decide tid outcomes.Abort (Some (causes.Voted member reason))) course q = refl
quiet_effect here (acts.Decide tid outcomes.Abort (Some (causes.Gone node inc))) course q = refl
quiet_effect here (acts.Decide tid outcomes.Abort (Some (causes.Room need room))) course q = refl
quiet_effect here (acts.Decide tid outcomes.Abort (Some (causes.Home inc))) course q = refl
quiet_effect here (acts.Decide tid outcomes.Abort (Some (causes.Old age))) course q = refl

pub quiet_leaves_clients : QuietLeavesClients
quiet_leaves_clients course entry q =
    let effect_is = quiet_effect entry.node.0 entry.act (line_effect entry.stamp entry.node.0 entry.act course) q in
    let leaves = lines_leave_clients entry.stamp entry.node.0 entry.act course in
    (ap (λ (c : CourseValue). c.clients) effect_is ∙ leaves.clients, ap (λ (c : CourseValue). c.replies) effect_is ∙ leaves.replies)
