-- What a borrower commands.
use Rattle.std.specs.Prelude.{◌==◌, Bool, false, not, ◌||◌, Some, None, true, if◌then◌else◌}
use Rattle.qs_base.specs.declared.identifiers.ClientNo.{ClientNo}
use Rattle.qs_base.specs.declared.identifiers.Tid.{Tid}
use Rattle.qs_ops.specs.declared.answer.Answer.TheVariants as answers
use Rattle.qs_book_journal.specs.declared.entry.Act.TheVariants as acts
use Rattle.qs_book_journal.specs.declared.script_line.Command.{Command}
use Rattle.qs_book_journal.specs.declared.script_line.Command.TheVariants as commands
use Rattle.qs_tm.specs.Manager as tm
use Rattle.qs_tm.specs.Outcomes.{is_abort}
use Rattle.qs_node_kept.specs.Loans.{first_untaken, take_first, last_taken, give_back}
use Rattle.qs_node_kept.specs.declared.kept.Lent.{Lent}
use Rattle.qs_node_step.specs.State.{NodeValue, Work, with_kept, with_doings}
use Rattle.qs_node_step.specs.Bringing.{enter, answer}
use Rattle.qs_node_step.specs.Commands.{request_command}

-- ---- what a loan is worth

-- the outcome is known here, and is abort
abbrev pub is_aborted : Tid → NodeValue → Bool
is_aborted tid node = tm.told_of tid false (λ part. is_abort part.outcome) node.manager

-- the loan is worth nothing any more: the node restarted since, or knows abort
abbrev pub is_void : Tid → Lent → NodeValue → Bool
is_void tid loan node = not (loan.inc == node.setting.inc) || is_aborted tid node

-- ---- commands

-- No event.
abbrev pub take : ClientNo → Tid → Lent → Work → Work
take client tid loan work =
    answer client (if is_void tid loan work.node then answers.Ended else answers.Done)
    (with_kept (λ kept. record kept { loans = take_first client tid kept.loans }) work)

-- a take waits until a loan was made
abbrev pub take_command : ClientNo → Tid → Work → Work
take_command client tid work = elim (first_untaken client tid work.node.kept.now.loans) [ None ↦ work | Some loan ↦ take client tid loan work ]

-- Event: Yield.
abbrev pub yield : ClientNo → Tid → Work → Work
yield client tid work =
    answer client answers.Done
    (with_doings tid (λ doings. record doings { yielded = true })
    (enter (acts.Yield tid client)
    (with_kept (λ kept. record kept { loans = give_back client tid kept.loans }) work)))

abbrev pub lent_command : ClientNo → Tid → Command → Work → Work
lent_command client tid commands.Yield work = yield client tid work
lent_command client tid (commands.Request member op) work = request_command client tid member op work
lent_command client tid command work = work

abbrev pub with_loan : ClientNo → Tid → Command → Lent → Work → Work
with_loan client tid command loan work =
    if loan.yielded then answer client answers.NotYours work
    else if is_void tid loan work.node then answer client answers.Ended work
    else lent_command client tid command work

-- of its present loan
abbrev pub loan_command : ClientNo → Tid → Command → Work → Work
loan_command client tid command work = elim (last_taken client tid work.node.kept.now.loans) [
  | None ↦ work
  | Some loan ↦ with_loan client tid command loan work
]

abbrev pub borrower_command : ClientNo → Tid → Command → Work → Work
borrower_command client tid commands.Take work = take_command client tid work
borrower_command client tid command work = loan_command client tid command work
