-- What is due to a command that stays open is all that comes of looking at it again.
use Rattle.std.proofs.Common.{◌≡◌, refl, ap, sym, Bool, true, false, Option, Some, None}
use Rattle.std.specs.Prelude.{if◌then◌else◌}
use Rattle.std.specs.Map.{lookup}
use Rattle.std.specs.BTreeMap.{is_at}
use Rattle.qs_base.specs.declared.identifiers.ClientNo.{ClientNo}
use Rattle.qs_base.specs.declared.identifiers.Tid.{Tid}
use Rattle.qs_ops.specs.declared.answer.Answer.TheVariants as answers
use Rattle.qs_book_journal.specs.declared.script_line.Command.{Command}
use Rattle.qs_book_journal.specs.declared.script_line.Command.TheVariants as commands
use Rattle.qs_node_kept.specs.Loans.{first_untaken}
use Rattle.qs_node_kept.specs.declared.kept.KeptLabel.{KeptLabel}
use Rattle.qs_node_kept.specs.declared.kept.Decided.{Decided}
use Rattle.qs_node_kept.specs.declared.kept.Lent.{Lent}
use Rattle.qs_node_step.specs.State.{Work, client_cmp}
use Rattle.qs_node_step.specs.declared.state.Issued.{Issued}
use Rattle.qs_node_step.specs.declared.state.OpenCommand.{OpenCommand}
use Rattle.qs_node_step.specs.Bringing.{answer}
use Rattle.qs_node_step.specs.Serving.{label_at}
use Rattle.qs_node_step.specs.Answering.{kept_outcome}
use Rattle.qs_node_step.specs.Commands.{decided_answer}
use Rattle.qs_node_step.specs.Borrowing.{is_aborted, take, borrower_command}
use Rattle.qs_node_step.specs.Step.{is_owner, request_waits, owner_waits, borrower_waits, waits_at, wait_command, wait_on}
use Rattle.qs_node.specs.declared.waiting.CommandDue.TheVariants as dues
use Rattle.qs_node.specs.Due.{owner_due, request_due, take_due, lent_due, borrower_due, due_at, due_of, do_due}

-- ---- each kind of command

owner : (client : ClientNo) (tid : Option Tid) (command : Command) (work : Work)
    → do_due client (owner_due tid command work.node) work ≡ owner_waits client tid command work
owner client None command work = refl
owner client (Some tid) command work = by (kept_outcome tid work.node)
  where
    by : (kept : Option Decided) → do_due client (elim kept [ None ↦ dues.Nothing | Some decided ↦ dues.Answer (decided_answer decided command) ]) work
        ≡ elim kept [ None ↦ work | Some decided ↦ answer client (decided_answer decided command) work ]
    by None = refl
    by (Some decided) = refl

request : (client : ClientNo) (issued : Issued) (work : Work) → do_due client (request_due issued work.node) work ≡ request_waits client issued work
request client issued work = by (is_aborted issued.tid work.node)
  where
    by : (aborted : Bool) → do_due client (if aborted then dues.Answer answers.Ended else dues.Nothing) work ≡ (if aborted then answer client answers.Ended work else work)
    by true = refl
    by false = refl

-- a take for which no loan was made does nothing
taken : (client : ClientNo) (tid : Tid) (work : Work) → do_due client (take_due client tid work.node) work ≡ borrower_command client tid commands.Take work
taken client tid work = by (first_untaken client tid work.node.kept.now.loans) refl
  where
    by : (loan : Option Lent) → first_untaken client tid work.node.kept.now.loans ≡ loan
        → do_due client (elim loan [ None ↦ dues.Nothing | Some lent ↦ dues.Obey tid commands.Take ]) work ≡ borrower_command client tid commands.Take work
    by None is = ap (λ (l : Option Lent). elim l [ None ↦ work | Some lent ↦ take client tid lent work ]) (sym is)
    by (Some lent) is = refl

lent : (client : ClientNo) (tid : Tid) (command : Command) (work : Work)
    → do_due client (lent_due client tid command work.node) work ≡ borrower_command client tid command work
lent client tid commands.Take work = taken client tid work
lent client tid command work = refl

borrower : (client : ClientNo) (issued : Option Issued) (tid : Option Tid) (command : Command) (work : Work)
    → do_due client (borrower_due client issued tid command work.node) work ≡ borrower_waits client issued tid command work
borrower client (Some issued) tid command work = request client issued work
borrower client None None command work = refl
borrower client None (Some tid) command work = lent client tid command work

-- ---- the client's open command

at : (client : ClientNo) (command : OpenCommand) (begun : Option KeptLabel) (work : Work)
    → do_due client (due_at client command begun work.node) work ≡ elim begun [ None ↦ work | Some met ↦ waits_at client command met work ]
at client command None work = refl
at client command (Some begun) work = by (is_owner client begun.owner)
  where
    by : (owns : Bool) → do_due client (if owns then owner_due begun.tid command.line.command work.node else borrower_due client command.issued begun.tid command.line.command work.node) work
        ≡ (if owns then owner_waits client begun.tid command.line.command work else borrower_waits client command.issued begun.tid command.line.command work)
    by true = owner client begun.tid command.line.command work
    by false = borrower client command.issued begun.tid command.line.command work

pub waits : (client : ClientNo) (work : Work) → do_due client (due_of client work.node) work ≡ wait_on work client
waits client work = by (lookup (is_at (client_cmp client)) work.node.commands)
  where
    by : (found : Option OpenCommand)
        → do_due client (elim found [ None ↦ dues.Nothing | Some command ↦ due_at client command (label_at command.line.label work.node) work.node ]) work
        ≡ elim found [ None ↦ work | Some command ↦ wait_command client command work ]
    by None = refl
    by (Some command) = at client command (label_at command.line.label work.node) work
