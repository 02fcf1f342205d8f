-- What is to be done for a command that stays open, as it is read off the node; and doing it.
use Rattle.std.specs.Prelude.{Bool, true, false, Option, Some, None, if◌then◌else◌}
use Rattle.std.specs.Map.{lookup}
use Rattle.std.specs.BTreeMap.{is_at}
use Rattle.qs_base.specs.declared.identifiers.ClientNo.{ClientNo}
use Rattle.qs_base.specs.declared.identifiers.Tid.{Tid}
use Rattle.qs_ops.specs.declared.answer.Answer.TheVariants as answers
use Rattle.qs_book_journal.specs.declared.script_line.Command.{Command}
use Rattle.qs_book_journal.specs.declared.script_line.Command.TheVariants as commands
use Rattle.qs_node_kept.specs.Loans.{first_untaken}
use Rattle.qs_node_kept.specs.declared.kept.KeptLabel.{KeptLabel}
use Rattle.qs_node_step.specs.declared.state.Issued.{Issued}
use Rattle.qs_node_step.specs.declared.state.OpenCommand.{OpenCommand}
use Rattle.qs_node_step.specs.State.{NodeValue, Work, client_cmp}
use Rattle.qs_node_step.specs.Bringing.{answer}
use Rattle.qs_node_step.specs.Serving.{label_at}
use Rattle.qs_node_step.specs.Answering.{kept_outcome}
use Rattle.qs_node_step.specs.Commands.{decided_answer}
use Rattle.qs_node_step.specs.Borrowing.{is_aborted, borrower_command}
use Rattle.qs_node_step.specs.Step.{is_owner}
use Rattle.qs_node.specs.declared.waiting.CommandDue.{CommandDue}
use Rattle.qs_node.specs.declared.waiting.CommandDue.TheVariants as dues

abbrev pub owner_due : Option Tid → Command → NodeValue → CommandDue
owner_due None command node = dues.Nothing
owner_due (Some tid) command node = elim (kept_outcome tid node) [ None ↦ dues.Nothing | Some decided ↦ dues.Answer (decided_answer decided command) ]

abbrev pub request_due : Issued → NodeValue → CommandDue
request_due issued node = if is_aborted issued.tid node then dues.Answer answers.Ended else dues.Nothing

abbrev pub take_due : ClientNo → Tid → NodeValue → CommandDue
take_due client tid node = elim (first_untaken client tid node.kept.now.loans) [ None ↦ dues.Nothing | Some loan ↦ dues.Obey tid commands.Take ]

abbrev pub lent_due : ClientNo → Tid → Command → NodeValue → CommandDue
lent_due client tid commands.Take node = take_due client tid node
lent_due client tid command node = dues.Obey tid command

abbrev pub borrower_due : ClientNo → Option Issued → Option Tid → Command → NodeValue → CommandDue
borrower_due client (Some issued) tid command node = request_due issued node
borrower_due client None None command node = dues.Nothing
borrower_due client None (Some tid) command node = lent_due client tid command node

abbrev pub due_at : ClientNo → OpenCommand → Option KeptLabel → NodeValue → CommandDue
due_at client command None node = dues.Nothing
due_at client command (Some begun) node =
    if is_owner client begun.owner then owner_due begun.tid command.line.command node
    else borrower_due client command.issued begun.tid command.line.command node

abbrev pub due_of : ClientNo → NodeValue → CommandDue
due_of client node = elim (lookup (is_at (client_cmp client)) node.commands) [
  | None ↦ dues.Nothing
  | Some command ↦ due_at client command (label_at command.line.label node) node
]

abbrev pub do_due : ClientNo → CommandDue → Work → Work
do_due client dues.Nothing work = work
do_due client (dues.Answer said) work = answer client said work
do_due client (dues.Obey tid command) work = borrower_command client tid command work

-- something is to be done for the client's open command
abbrev pub is_due : ClientNo → NodeValue → Bool
is_due client node = elim (due_of client node) [ dues.Nothing ↦ false | dues.Answer said ↦ true | dues.Obey tid command ↦ true ]
