-- What an answer makes of the course: of its client, as its node answers it, and of all others.
use Rattle.std.specs.Prelude.{◌≡◌, ◌⊎◌, ℕ, ◌==◌, false, List, [], ◌∷◌, ◌++◌, Option, None, Some, slice_get}
use Rattle.std.specs.List.{find}
use Rattle.qs_base.specs.declared.identifiers.ClientNo.{ClientNo}
use Rattle.qs_base.specs.declared.identifiers.Tid.{Tid}
use Rattle.qs_ops.specs.declared.answer.Answer.{Answer}
use Rattle.qs_ops.specs.declared.answer.Answer.TheVariants as answers
use Rattle.qs_book_journal.specs.declared.entry.Act.TheVariants as acts
use Rattle.qs_book_journal.specs.declared.entry.Entry.{Entry}
use Rattle.qs_book_journal.specs.declared.script_line.Command.TheVariants as commands
use Rattle.qs_book_journal.specs.declared.script_line.ScriptLine.{ScriptLine}
use Rattle.qs_book_machine.specs.Book.{BookValue, find_label}
use Rattle.qs_book_machine.specs.Transaction.{TransactionValue}
use Rattle.qs_book_conformance.specs.Answers.{is_refused}
use Rattle.qs_book_conformance.specs.Commands.{is_take}
use Rattle.qs_book_conformance.specs.Course.{ClientValue, CourseValue}
use Rattle.qs_book_conformance.specs.Effects.{answered, course_after, gave_back, refused_by, with_borrowing}
use Rattle.qs_book_conformance.specs.declared.values.CommandMade.TheVariants as makes
use Rattle.qs_node_kept.specs.Keeping.{has_label}
use Rattle.qs_node_kept.specs.Loans.{first_untaken, give_back, last_taken, take_first}
use Rattle.qs_node_kept.specs.declared.kept.Kept.{Kept}
use Rattle.qs_node_kept.specs.declared.kept.KeptLabel.{KeptLabel}
use Rattle.qs_node_kept.specs.declared.kept.Lent.{Lent}
use Rattle.qs_world_course.specs.Clients.{Commands, ForClients, IsOnCourse, in_hand_of}
use Rattle.qs_world_course.specs.Due.{IsDue, IsOf, Said}

abbrev pub answer_entry : ℕ → ℕ → ClientNo → ℕ → Answer → Entry
answer_entry stamp here client line answer = record { stamp = stamp; node = record { 0 = here }; act = acts.Answer client line answer }

-- its client goes on, the others and the replies stay
pub record IsAnswered (course new : CourseValue) (client : ClientNo) (answer : Answer) (state : ClientValue) : Type 0 where
  pub it : slice_get new.clients client.0 ≡ Some (answered course.book answer state)
  pub others : (k : ℕ) → (client.0 == k) ≡ false → slice_get new.clients k ≡ slice_get course.clients k
  pub replies : new.replies ≡ course.replies

abbrev pub AnswersGo : Type 0
AnswersGo = (course : CourseValue) (stamp here : ℕ) (client : ClientNo) (line : ℕ) (answer : Answer) (state : ClientValue)
    → slice_get course.clients client.0 ≡ Some state → IsAnswered course (course_after course (answer_entry stamp here client line answer)) client answer state

-- ---- the client that is answered: a node keeps this then, and has nothing of it in hand

-- it has a first line, and has none in hand later
pub record IsClosed (node : ForClients) (later : Commands) (client : ClientNo) (line : ScriptLine) (rest : List ScriptLine) (state : ClientValue) : Type 0 where
  pub held : IsOnCourse node client (line ∷ rest) state
  pub gone : in_hand_of client later ≡ None

abbrev pub answered_at : Commands → Kept → ForClients → ForClients
answered_at later kept node = record node { in_hand = later; kept = kept }

-- what is no take, where the answer refuses no label
abbrev pub PlainAreAnswered : Type 0
PlainAreAnswered = (node : ForClients) (later : Commands) (client : ClientNo) (line : ScriptLine) (rest : List ScriptLine) (state : ClientValue) (book : BookValue) (answer : Answer)
    → IsClosed node later client line rest state → is_take line.command ≡ false → ((c : ClientValue) → refused_by line answer c ≡ c)
    → IsOnCourse (answered_at later node.kept node) client rest (answered book answer state)

-- a take: the next loan is taken
abbrev pub IsOfTake : Answer → Type 0
IsOfTake answer = (answer ≡ answers.Done) ⊎ (answer ≡ answers.Ended)

abbrev pub with_taken : ClientNo → Tid → Kept → Kept
with_taken client tid kept = record kept { loans = take_first client tid kept.loans }

abbrev pub TakesAreAnswered : Type 0
TakesAreAnswered = (node : ForClients) (later : Commands) (client : ClientNo) (line : ScriptLine) (rest : List ScriptLine) (state : ClientValue) (book : BookValue) (answer : Answer)
    (tid : Tid) (loan : Lent) → IsClosed node later client line rest state → line.command ≡ commands.Take → find_label book line.label ≡ Some tid
    → first_untaken client tid node.kept.loans ≡ Some loan → IsOfTake answer
    → IsOnCourse (answered_at later (with_taken client tid node.kept) node) client rest (answered book answer state)

-- a yield: its entry gives the present loan back, and the answer is due
abbrev pub after_yield : Tid → ClientValue → ClientValue
after_yield tid state = record (with_borrowing tid gave_back state) { made = makes.GaveBack }

abbrev pub YieldIsDue : Type 0
YieldIsDue = (s : Said) (tid : Tid) (tx : TransactionValue) → IsOf s false tid tx → s.line.command ≡ commands.Yield → s.state.made ≡ makes.GaveBack
    → IsDue s answers.Done

abbrev pub with_given : ClientNo → Tid → Kept → Kept
with_given client tid kept = record kept { loans = give_back client tid kept.loans }

abbrev pub YieldsAreAnswered : Type 0
YieldsAreAnswered = (node : ForClients) (later : Commands) (client : ClientNo) (line : ScriptLine) (rest : List ScriptLine) (state : ClientValue) (book : BookValue)
    (tid : Tid) (loan : Lent) → IsClosed node later client line rest state → line.command ≡ commands.Yield → last_taken client tid node.kept.loans ≡ Some loan
    → IsOnCourse (answered_at later (with_given client tid node.kept) node) client rest (answered book answers.Done (after_yield tid state))

-- a begin: its label is kept, with its transaction, or with none where it is refused
abbrev pub begun_as : List ℕ → Option Tid → ClientNo → KeptLabel
begun_as label tid client = record { label = label; tid = tid; owner = Some client }

abbrev pub with_label : KeptLabel → Kept → Kept
with_label begun kept = record kept { labels = kept.labels ++ begun ∷ [] }

abbrev pub BeginsAreAnswered : Type 0
BeginsAreAnswered = (node : ForClients) (later : Commands) (client : ClientNo) (line : ScriptLine) (rest : List ScriptLine) (state : ClientValue) (book : BookValue) (tid : Tid)
    → IsClosed node later client line rest state → line.command ≡ commands.Begin → is_refused state line.label ≡ false
    → IsOnCourse (answered_at later (with_label (begun_as line.label (Some tid) client) node.kept) node) client rest (answered book answers.Done (record state { made = makes.Begun }))

abbrev pub RefusalsAreAnswered : Type 0
RefusalsAreAnswered = (node : ForClients) (later : Commands) (client : ClientNo) (line : ScriptLine) (rest : List ScriptLine) (state : ClientValue) (book : BookValue) (need room : ℕ)
    → IsClosed node later client line rest state → line.command ≡ commands.Begin → find (has_label line.label) node.kept.labels ≡ None
    → IsOnCourse (answered_at later (with_label (begun_as line.label None client) node.kept) node) client rest (answered book (answers.LogFull need room) state)
