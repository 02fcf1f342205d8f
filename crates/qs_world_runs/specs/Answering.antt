-- What a step answers: commands that its node has in hand, each of them once. And what begins in it, the client's own line begins, which is
-- answered then.
use Rattle.std.specs.Prelude.{◌≡◌, ℕ, ⊤, true, false, List, None, Some}
use Rattle.std.specs.BTreeMap.{insert_entry, is_at}
use Rattle.std.specs.List.{list_any}
use Rattle.std.specs.Map.{lookup}
use Rattle.qs_base.specs.declared.identifiers.ClientNo.{ClientNo}
use Rattle.qs_book_journal.specs.declared.entry.Act.{Act}
use Rattle.qs_book_journal.specs.declared.entry.Act.TheVariants as acts
use Rattle.qs_book_journal.specs.declared.script_line.Command.TheVariants as commands
use Rattle.qs_book_laws.proofs.Rising.{IsRising}
use Rattle.qs_node_step.specs.State.{client_cmp}
use Rattle.qs_node_step.specs.declared.event.ClientAnswer.{ClientAnswer}
use Rattle.qs_node_step.specs.declared.event.Event.{Event}
use Rattle.qs_node_step.specs.declared.event.Event.TheVariants as events
use Rattle.qs_node_step.specs.declared.state.OpenCommand.{OpenCommand}
use Rattle.qs_world.specs.Posting.{is_answer_to}
use Rattle.qs_world_runs.specs.Traces.{Trace, fresh_command}
use Rattle.qs_world_lawful.specs.Logs.{Every}

abbrev pub Commands : Type 0
Commands = List (ClientNo × OpenCommand)

-- what is in hand once the event came
abbrev pub with_event : Event → Commands → Commands
with_event (events.Command client line label command) commands = insert_entry client_cmp commands client (fresh_command (record { client = client; line = line; label = label; command = command }))
with_event event commands = commands

-- a client whose command comes has none in hand
abbrev pub IsFree : Event → Commands → Type 0
IsFree (events.Command client line label command) commands = lookup (is_at (client_cmp client)) commands ≡ None
IsFree event commands = ⊤

-- ---- of a client; `was` is what was in hand

pub record WasOpen (was : Commands) (client : ClientNo) : Type 0 where
  pub command : OpenCommand
  pub there : lookup (is_at (client_cmp client)) was ≡ Some command

-- its command is open still, and no answer was given
pub record IsOpenStill (was : Commands) (said : List ClientAnswer) (client : ClientNo) (command : OpenCommand) : Type 0 where
  pub old : OpenCommand
  pub there : lookup (is_at (client_cmp client)) was ≡ Some old
  pub line : old.line ≡ command.line
  pub unanswered : list_any (is_answer_to client.0) said ≡ false

-- ---- of an entry

pub record AnswersOpen (was : Commands) (said : List ClientAnswer) (client : ClientNo) (line : ℕ) : Type 0 where
  pub old : OpenCommand
  pub there : lookup (is_at (client_cmp client)) was ≡ Some old
  pub line_is : old.line.line ≡ line
  pub answered : list_any (is_answer_to client.0) said ≡ true

pub record BeginsOpen (was : Commands) (said : List ClientAnswer) (client : ClientNo) (label : List ℕ) : Type 0 where
  pub old : OpenCommand
  pub there : lookup (is_at (client_cmp client)) was ≡ Some old
  pub begins : old.line.command ≡ commands.Begin
  pub label_is : old.line.label ≡ label
  pub answered : list_any (is_answer_to client.0) said ≡ true

-- no step restarts its node
abbrev pub IsOfOpen : Commands → List ClientAnswer → Act → Type 0
IsOfOpen was said (acts.Answer client line answer) = AnswersOpen was said client line
IsOfOpen was said (acts.Begin tid label client) = BeginsOpen was said client label
IsOfOpen was said (acts.Restart inc pend done) = ⊥
IsOfOpen was said act = ⊤

-- ---- of a step so far

pub record Answering (was : Commands) (t : Trace) : Type 0 where
  pub rising : IsRising client_cmp t.commands
  pub still : (client : ClientNo) (command : OpenCommand) → lookup (is_at (client_cmp client)) t.commands ≡ Some command → IsOpenStill was t.answers client command
  pub were : (k : ℕ) → list_any (is_answer_to k) t.answers ≡ true → WasOpen was (record { 0 = k })
  pub entries : Every (IsOfOpen was t.answers) t.entries
