-- Which clients wait after a journal: those with a command that is not answered.
use Rattle.std.specs.Prelude.{ℕ, zero, suc, ◌==◌, Bool, false, List, [], ◌∷◌, ◌++◌, Option, Some, None, slice_get}
use Rattle.std.specs.List.{count_by}
use Rattle.qs_base.specs.declared.identifiers.ClientNo.{ClientNo}
use Rattle.qs_book_journal.specs.declared.entry.Act.{Act}
use Rattle.qs_book_journal.specs.declared.entry.Act.TheVariants as acts
use Rattle.qs_book_journal.specs.declared.entry.Entry.{Entry}
use Rattle.qs_book_journal.specs.declared.script_line.ScriptLine.{ScriptLine}
use Rattle.qs_world_plans.specs.Plan.{commands_of}
use Rattle.qs_book_script.specs.declared.script.Script.{Script}
use Rattle.qs_book_script.specs.declared.status.Waiting.{Waiting}

-- the numbers of clients are below this
abbrev pub client_count : ℕ
client_count = 32

abbrev pub is_answer_to : ClientNo → Act → Bool
is_answer_to client (acts.Answer other line answer) = other.0 == client.0
is_answer_to client _ = false

abbrev pub answers : ClientNo → Entry → Bool
answers client entry = is_answer_to client entry.act

-- how many of its commands were answered
abbrev pub answered_of : ClientNo → List Entry → ℕ
answered_of client journal = count_by (answers client) journal

-- commands are answered in order, so this is its first one that is not
abbrev pub unanswered : ClientNo → Script → List Entry → Option ScriptLine
unanswered client script journal = slice_get (commands_of client script.lines) (answered_of client journal)

abbrev pub waiting_at : ClientNo → Option ScriptLine → List Waiting
waiting_at client None = []
waiting_at client (Some line) = record { client = client; line = line.line } ∷ []

abbrev pub waiting_in : ClientNo → Script → List Entry → List Waiting
waiting_in client script journal = waiting_at client (unanswered client script journal)

-- of the clients whose numbers are below this one, by number
abbrev pub waiting_below : Script → List Entry → ℕ → List Waiting
waiting_below script journal zero = []
waiting_below script journal (suc n) = waiting_below script journal n ++ waiting_in (record { 0 = n }) script journal

abbrev pub waiting_of : Script → List Entry → List Waiting
waiting_of script journal = waiting_below script journal client_count
