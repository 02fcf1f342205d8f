-- Commands for a label in two parts: its owner and its transaction are looked up, and then the command is obeyed.
use Rattle.std.specs.Prelude.{Option, Some, None, if◌then◌else◌}
use Rattle.qs_base.specs.declared.identifiers.ClientNo.{ClientNo}
use Rattle.qs_base.specs.declared.identifiers.Tid.{Tid}
use Rattle.qs_book_journal.specs.declared.script_line.Command.{Command}
use Rattle.qs_book_journal.specs.declared.script_line.ScriptLine.{ScriptLine}
use Rattle.qs_node_step.specs.State.{Work}
use Rattle.qs_node_step.specs.Serving.{label_at}
use Rattle.qs_node_step.specs.Commands.{owner_command}
use Rattle.qs_node_step.specs.Borrowing.{borrower_command}
use Rattle.qs_node_step.specs.Step.{is_owner, labelled}

abbrev pub obeyed : ClientNo → Option ClientNo → Option Tid → Command → Work → Work
obeyed client owner tid command work =
    if is_owner client owner then owner_command client tid command work
    else elim tid [ None ↦ work | Some tid ↦ borrower_command client tid command work ]

-- of a label that the node has not met nothing can be said yet
abbrev pub on_label : ScriptLine → Work → Work
on_label line work = elim (label_at line.label work.node) [ None ↦ work | Some begun ↦ labelled line.client begun line.command work ]
