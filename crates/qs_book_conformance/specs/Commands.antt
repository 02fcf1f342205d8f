-- What a client makes is what the first of its commands that are not answered says, at its node, once.
use Rattle.std.specs.Prelude.{ℕ, Bool, true, false, not, ◌&&◌, List, Option, Some, None, if◌then◌else◌}
use Rattle.qs_base.specs.Order.{same_bytes, same_tid, same_member}
use Rattle.qs_base.specs.declared.identifiers.ClientNo.{ClientNo}
use Rattle.qs_base.specs.declared.identifiers.Member.{Member}
use Rattle.qs_base.specs.declared.identifiers.Tid.{Tid}
use Rattle.qs_ops.specs.declared.operation.Op.{Op}
use Rattle.qs_book_journal.specs.declared.script_line.Command.{Command}
use Rattle.qs_book_journal.specs.declared.script_line.Command.TheVariants as commands
use Rattle.qs_book_journal.specs.declared.script_line.ScriptLine.{ScriptLine}
use Rattle.qs_book_machine.specs.Book.{BookValue, find_label, find_transaction, owner_of}
use Rattle.qs_book_conformance.specs.Alike.{same_op}
use Rattle.qs_book_conformance.specs.Course.{CourseValue, first_at, made_by}
use Rattle.qs_book_conformance.specs.declared.fault.Rule.{Rule}
use Rattle.qs_book_conformance.specs.declared.fault.Rule.TheVariants as rules
use Rattle.qs_book_conformance.specs.declared.values.CommandMade.{CommandMade}
use Rattle.qs_book_conformance.specs.declared.values.CommandMade.TheVariants as makes

abbrev pub is_begin : Command → Bool
is_begin commands.Begin = true
is_begin _ = false

abbrev pub is_commit : Command → Bool
is_commit commands.Commit = true
is_commit _ = false

abbrev pub is_abort : Command → Bool
is_abort commands.Abort = true
is_abort _ = false

abbrev pub is_take : Command → Bool
is_take commands.Take = true
is_take _ = false

abbrev pub is_yield : Command → Bool
is_yield commands.Yield = true
is_yield _ = false

abbrev pub is_request : Member → Op → Command → Bool
is_request member op (commands.Request m o) = same_member member m && same_op op o
is_request member op _ = false

-- the transaction that a label began
abbrev pub is_tid : Tid → Option Tid → Bool
is_tid tid None = false
is_tid tid (Some begun) = same_tid tid begun

abbrev pub is_label_of : BookValue → Tid → List ℕ → Bool
is_label_of book tid label = is_tid tid (find_label book label)

-- ---- what the command says

abbrev pub says_begin : List ℕ → Option ScriptLine → Bool
says_begin label None = false
says_begin label (Some line) = same_bytes line.label label && is_begin line.command

abbrev pub says_commit : BookValue → Tid → Option ScriptLine → Bool
says_commit book tid None = false
says_commit book tid (Some line) = is_label_of book tid line.label && is_commit line.command

abbrev pub says_abort : BookValue → Tid → Option ScriptLine → Bool
says_abort book tid None = false
says_abort book tid (Some line) = is_label_of book tid line.label && is_abort line.command

abbrev pub says_yield : BookValue → Tid → Option ScriptLine → Bool
says_yield book tid None = false
says_yield book tid (Some line) = is_label_of book tid line.label && is_yield line.command

abbrev pub says_request : BookValue → Tid → Member → Op → Option ScriptLine → Bool
says_request book tid member op None = false
says_request book tid member op (Some line) = is_label_of book tid line.label && is_request member op line.command

-- ---- the rule

abbrev pub is_nothing : CommandMade → Bool
is_nothing makes.Nothing = true
is_nothing _ = false

-- the command says so, and has made nothing yet
abbrev pub broken_command : Bool → CommandMade → Option Rule
broken_command says made =
    if not says then Some rules.CarriesOutItsCommand
    else if not (is_nothing made) then Some rules.OncePerCommand
    else None

-- ---- who begins, asks and aborts

abbrev pub broken_begin : CourseValue → ℕ → List ℕ → ClientNo → Option Rule
broken_begin course here label client = broken_command (says_begin label (first_at course here client)) (made_by course client)

-- the owner carries it out; a transaction that stood at the opening has none
abbrev pub broken_ask_by : CourseValue → ℕ → Tid → Option ClientNo → Option Rule
broken_ask_by course here tid None = Some rules.CarriesOutItsCommand
broken_ask_by course here tid (Some owner) =
    broken_command (says_commit course.book tid (first_at course here owner)) (made_by course owner)

abbrev pub broken_ask : CourseValue → ℕ → Tid → Option Rule
broken_ask course here tid = broken_ask_by course here tid (owner_of (find_transaction course.book tid))

abbrev pub broken_asked_by : CourseValue → ℕ → Tid → Option ClientNo → Option Rule
broken_asked_by course here tid None = Some rules.CarriesOutItsCommand
broken_asked_by course here tid (Some owner) =
    broken_command (says_abort course.book tid (first_at course here owner)) (made_by course owner)

abbrev pub broken_asked : CourseValue → ℕ → Tid → Option Rule
broken_asked course here tid = broken_asked_by course here tid (owner_of (find_transaction course.book tid))
