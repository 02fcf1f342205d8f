-- What an entry makes of the course.
use Rattle.std.specs.Prelude.{ℕ, ◌+◌, ◌-◌, ◌==◌, Bool, true, false, ◌&&◌, List, [], ◌∷◌, ◌++◌, Option, Some, None, is_some, if◌then◌else◌}
use Rattle.std.specs.Map.{lookup, remove_entry}
use Rattle.std.specs.BTreeMap.{insert_entry, is_at}
use Rattle.std.specs.BTreeSet.{insert_key}
use Rattle.qs_base.specs.Order.{bytes_cmp, tid_cmp}
use Rattle.qs_base.specs.declared.identifiers.ClientNo.{ClientNo}
use Rattle.qs_base.specs.declared.identifiers.Member.{Member}
use Rattle.qs_base.specs.declared.identifiers.Outcome.TheVariants as outcomes
use Rattle.qs_base.specs.declared.identifiers.Tid.{Tid}
use Rattle.qs_ops.specs.Servers.{is_client_no}
use Rattle.qs_ops.specs.declared.answer.Answer.{Answer}
use Rattle.qs_ops.specs.declared.answer.Answer.TheVariants as answers
use Rattle.qs_ops.specs.declared.answer.Cause.TheVariants as causes
use Rattle.qs_ops.specs.declared.reply.Reply.{Reply}
use Rattle.qs_book_journal.specs.declared.entry.Act.{Act}
use Rattle.qs_book_journal.specs.declared.entry.Act.TheVariants as acts
use Rattle.qs_book_journal.specs.declared.entry.Entry.{Entry}
use Rattle.qs_book_journal.specs.declared.script_line.ScriptLine.{ScriptLine}
use Rattle.qs_book_machine.specs.Book.{BookValue, find_label, find_transaction, owner_of, inc_at, changed_at}
use Rattle.qs_book_machine.specs.Lawful.{effect}
use Rattle.qs_book_machine.specs.Transaction.{TransactionValue, changed_value}
use Rattle.qs_book_conformance.specs.Borrowing.{node_no}
use Rattle.qs_book_conformance.specs.Commands.{is_take}
use Rattle.qs_book_conformance.specs.Course.{BorrowingValue, ClientValue, CourseValue, first_of, borrowing_of, mark_cmp, sought_cmp}
use Rattle.qs_book_conformance.specs.Crashes.{stopped, passed_by}
use Rattle.qs_book_conformance.specs.Rules.{client_of}
use Rattle.qs_book_conformance.specs.declared.values.Deed.{Deed}
use Rattle.qs_book_conformance.specs.declared.values.Deed.TheVariants as deeds
use Rattle.qs_book_conformance.specs.declared.values.Loan.{Loan}
use Rattle.qs_book_conformance.specs.declared.values.CommandMade.{CommandMade}
use Rattle.qs_book_conformance.specs.declared.values.CommandMade.TheVariants as makes
use Rattle.qs_book_conformance.specs.declared.values.Mark.{Mark}
use Rattle.qs_book_conformance.specs.declared.values.NodeCourse.{NodeCourse}
use Rattle.qs_book_conformance.specs.declared.values.Sought.{Sought}

abbrev pub with_client : ℕ → (ClientValue → ClientValue) → CourseValue → CourseValue
with_client client f course = record course { clients = changed_at client f course.clients }

abbrev pub with_node : ℕ → (NodeCourse → NodeCourse) → CourseValue → CourseValue
with_node node f course = record course { nodes = changed_at node f course.nodes }

-- ---- clients

-- its first command has made this
abbrev pub makes_it : ClientNo → CommandMade → CourseValue → CourseValue
makes_it client made course = with_client client.0 (λ state. record state { made = made }) course

abbrev pub owner_makes : Option ClientNo → CommandMade → CourseValue → CourseValue
owner_makes None made course = course
owner_makes (Some client) made course = makes_it client made course

abbrev pub owner_of_makes : Tid → CommandMade → CourseValue → CourseValue
owner_of_makes tid made course = owner_makes (owner_of (find_transaction course.book tid)) made course

-- what a client borrowed of a transaction is changed
abbrev pub with_borrowing : Tid → (BorrowingValue → BorrowingValue) → ClientValue → ClientValue
with_borrowing tid f client = record client { borrowed = insert_entry tid_cmp client.borrowed tid (f (borrowing_of client tid)) }

-- a loan is made in this incarnation of the node
abbrev pub lent_in : ℕ → BorrowingValue → BorrowingValue
lent_in inc borrowing = record borrowing { loans = borrowing.loans ++ record { inc = inc; given_back = false } ∷ [] }

abbrev pub lent : ℕ → Tid → ClientNo → CourseValue → CourseValue
lent here tid client course = with_client client.0 (with_borrowing tid (lent_in (inc_at course.book (node_no here)))) course

-- the present loan is given back
abbrev pub given_back : Loan → Loan
given_back loan = record loan { given_back = true }

abbrev pub gave_back : BorrowingValue → BorrowingValue
gave_back borrowing = record borrowing { loans = changed_at (borrowing.taken - 1) given_back borrowing.loans }

abbrev pub yielded : Tid → ClientNo → CourseValue → CourseValue
yielded tid client course =
    with_client client.0 (λ state. record (with_borrowing tid gave_back state) { made = makes.GaveBack }) course

-- ---- requests and replies

-- nothing was replied yet
abbrev pub sought_by : ClientNo → Sought → CourseValue → CourseValue
sought_by client sought course =
    record (makes_it client (makes.Issued sought) course) { replies = insert_entry sought_cmp course.replies sought [] }

abbrev pub issued : ℕ → Tid → Member → Member → ℕ → CourseValue → CourseValue
issued here tid issuer member number course =
    if is_client_no issuer.server.0
    then sought_by (client_of issuer.server.0) (record { tid = tid; member = member; from = node_no here; number = number }) course
    else course

abbrev pub replied : Sought → Reply → CourseValue → CourseValue
replied sought reply course =
    record course { replies = changed_value (is_at (sought_cmp sought)) (λ replies. replies ++ reply ∷ []) course.replies }

-- ---- answers

abbrev pub rest_of : List ScriptLine → List ScriptLine
rest_of [] = []
rest_of (line ∷ lines) = lines

abbrev pub taken_one : BorrowingValue → BorrowingValue
taken_one borrowing = record borrowing { taken = borrowing.taken + 1 }

abbrev pub take_of : Option Tid → ClientValue → ClientValue
take_of None client = client
take_of (Some tid) client = with_borrowing tid taken_one client

-- a take is answered
abbrev pub taken_by : BookValue → ScriptLine → ClientValue → ClientValue
taken_by book line client = if is_take line.command then take_of (find_label book line.label) client else client

-- a begin is refused
abbrev pub refused_by : ScriptLine → Answer → ClientValue → ClientValue
refused_by line (answers.LogFull need room) client = record client { refused = insert_key bytes_cmp client.refused line.label }
refused_by line _ client = client

abbrev pub told_of : BookValue → Answer → Option ScriptLine → ClientValue → ClientValue
told_of book answer None client = client
told_of book answer (Some line) client = refused_by line answer (taken_by book line client)

-- the next command comes
abbrev pub answered : BookValue → Answer → ClientValue → ClientValue
answered book answer client =
    record (told_of book answer (first_of client.left) client) { left = rest_of client.left; made = makes.Nothing }

-- ---- fault lines

abbrev pub mark_at : ℕ → Bool → Deed → List ℕ → Mark
mark_at here after deed label = record { node = node_no here; after = after; deed = deed; label = label }

abbrev pub has_mark : CourseValue → Mark → Bool
has_mark course mark = is_some (lookup (is_at (mark_cmp mark)) course.marks)

abbrev pub without_mark : Mark → CourseValue → CourseValue
without_mark mark course = record course { marks = remove_entry (is_at (mark_cmp mark)) course.marks }

-- the node made the first entry that a line `before` names
abbrev pub past_before : ℕ → Deed → List ℕ → CourseValue → CourseValue
past_before here deed label course =
    if has_mark course (mark_at here false deed label)
    then with_node here passed_by (without_mark (mark_at here false deed label) course)
    else course

-- or that a line `after` names
abbrev pub past_after : ℕ → Deed → List ℕ → CourseValue → CourseValue
past_after here deed label course =
    if has_mark course (mark_at here true deed label)
    then with_node here (λ node. record node { is_after = true }) (without_mark (mark_at here true deed label) course)
    else course

abbrev pub past_label : ℕ → Deed → Option (List ℕ) → CourseValue → CourseValue
past_label here deed None course = course
past_label here deed (Some label) course = past_after here deed label (past_before here deed label course)

abbrev pub label_of : Option TransactionValue → Option (List ℕ)
label_of None = None
label_of (Some tx) = tx.label

-- the node made an entry of this kind for the transaction
abbrev pub past : ℕ → Deed → Tid → CourseValue → CourseValue
past here deed tid course = past_label here deed (label_of (find_transaction course.book tid)) course

-- ---- the whole

-- an entry of another step than the last one of its node
abbrev pub stepped : ℕ → NodeCourse → NodeCourse
stepped stamp node = record node { stamp = stamp; is_after = node.is_after && (node.stamp == stamp) }

-- what the act of clients does
abbrev pub client_effect : ℕ → Act → CourseValue → CourseValue
client_effect here (acts.Begin tid label client) course = makes_it client makes.Begun course
client_effect here (acts.Issue tid issuer member number op) course = issued here tid issuer member number course
client_effect here (acts.Ask tid) course = owner_of_makes tid makes.Asked course
client_effect here (acts.Decide tid outcomes.Abort (Some causes.Asked)) course = owner_of_makes tid makes.Aborted course
client_effect here (acts.Serve tid member from number reply) course =
    replied (record { tid = tid; member = member; from = from; number = number }) reply course
client_effect here (acts.Answer client line answer) course = with_client client.0 (answered course.book answer) course
client_effect here (acts.Loan tid client) course = lent here tid client course
client_effect here (acts.Yield tid client) course = yielded tid client course
client_effect here act course = course

-- an entry of this stamp is the node's last
abbrev pub stamped : ℕ → ℕ → CourseValue → CourseValue
stamped stamp here course = with_node here (stepped stamp) course

-- what it does to the fault lines
abbrev pub line_effect : ℕ → ℕ → Act → CourseValue → CourseValue
line_effect stamp here (acts.Serve tid member from number reply) course = past here deeds.Serve tid (stamped stamp here course)
line_effect stamp here (acts.Vote tid member vote covers) course = past here deeds.Vote tid (stamped stamp here course)
line_effect stamp here (acts.Decide tid outcome cause) course = past here deeds.Decide tid (stamped stamp here course)
line_effect stamp here (acts.Learn tid member outcome) course = past here deeds.Learn tid (stamped stamp here course)
line_effect stamp here (acts.Crash cause) course = stamped stamp here (with_node here (stopped stamp cause) course)
line_effect stamp here act course = stamped stamp here course

abbrev pub course_after : CourseValue → Entry → CourseValue
course_after course entry =
    record (client_effect entry.node.0 entry.act (line_effect entry.stamp entry.node.0 entry.act course)) { book = effect course.book entry }
