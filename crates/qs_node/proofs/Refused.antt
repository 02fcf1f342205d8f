-- Where the manager refuses a begin, its command is refused for the same cause.
use Rattle.std.proofs.Common.{◌≡◌, ap, sym, subst, ℕ, Some}
use Rattle.qs_book_journal.specs.declared.script_line.ScriptLine.{ScriptLine}
use Rattle.qs_tm.specs.Manager as tm
use Rattle.qs_tm.specs.declared.manager.BeginFault.TheVariants as faults
use Rattle.qs_tm.specs.declared.manager.Manager.{Manager}
use Rattle.qs_node_step.specs.State.{Work, with_manager}
use Rattle.qs_node_step.specs.Commands.{refuse_begin, begin_or_refuse, begin_command}

-- the manager is as it was
abbrev pub beside : Manager → Work → Work
beside manager work = with_manager (λ old. manager) work

pub full : (line : ScriptLine) (work : Work) (manager : Manager) (need room : ℕ) → manager ≡ work.node.manager
    → tm.begin_fault work.room work.node.manager ≡ Some (faults.LogFull need room)
    → refuse_begin line need room (beside manager work) ≡ begin_command line work
full line work manager need room same is =
    subst (λ fault. refuse_begin line need room (beside manager work) ≡ begin_or_refuse line fault work) (sym is)
    (ap (λ m. refuse_begin line need room (beside m work)) same)

pub last : (line : ScriptLine) (work : Work) (manager : Manager) (value : ℕ) → manager ≡ work.node.manager
    → tm.begin_fault work.room work.node.manager ≡ Some (faults.Last value)
    → beside manager work ≡ begin_command line work
last line work manager value same is =
    subst (λ fault. beside manager work ≡ begin_or_refuse line fault work) (sym is) (ap (λ m. beside m work) same)
