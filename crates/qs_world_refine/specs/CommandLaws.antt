-- The laws of what clients command: what stands of a transaction goes on to stand.
use Rattle.std.specs.Prelude.{◌≡◌, ℕ, true, false}
use Rattle.qs_base.specs.Order.{same_tid}
use Rattle.qs_base.specs.declared.identifiers.ClientNo.{ClientNo}
use Rattle.qs_base.specs.declared.identifiers.Tid.{Tid}
use Rattle.qs_book_journal.specs.declared.script_line.Command.{Command}
use Rattle.qs_book_journal.specs.declared.script_line.Command.TheVariants as commands
use Rattle.qs_book_journal.specs.declared.script_line.ScriptLine.{ScriptLine}
use Rattle.qs_tm.specs.Manager as tm
use Rattle.qs_node_step.specs.Borrowing.{borrower_command}
use Rattle.qs_node_step.specs.State.{Work}
use Rattle.qs_node_step.specs.Step.{answer_waiting, command_came}
use Rattle.qs_world_agree.specs.World.{World}
use Rattle.qs_world_refine.specs.Shows.{Scene}
use Rattle.qs_world_refine.specs.Sound.{goes_in_run, keeps_owned}
use Rattle.qs_world_refine.specs.SoundSteps.{commands_in_run}
use Rattle.qs_world_refine.specs.Stands.{Stands, GoesOn}

-- a borrower commands, of this transaction or another: none; Yield; Issue, Issue_unmet or Issue_local
abbrev pub BorrowerGoes : Type 0
BorrowerGoes = (t tid : Tid) (scene : Scene) (n : ℕ) (client : ClientNo) (command : Command) (work : Work) (w : World) → goes_in_run work.node.setting.nodes command ≡ true → Stands t scene n work w
    → GoesOn t scene n (borrower_command client tid command work) w

-- commands that stayed open are answered: the same
abbrev pub AnswerWaitingGoes : Type 0
AnswerWaitingGoes = (t : Tid) (scene : Scene) (n : ℕ) (work : Work) (w : World) → commands_in_run work.node ≡ true → Stands t scene n work w → GoesOn t scene n (answer_waiting work) w

-- a command comes: none where a client begins another transaction; Ask; Abort and Tell_abort; Issue, Issue_unmet or Issue_local; Yield. The
-- beginning of this transaction is no event of its machine, whose start shows it then
abbrev pub CommandGoes : Type 0
CommandGoes = (t : Tid) (scene : Scene) (n : ℕ) (line : ScriptLine) (work : Work) (w : World) → goes_in_run work.node.setting.nodes line.command ≡ true → keeps_owned work.node ≡ true
    → (line.command ≡ commands.Begin → same_tid t (tm.next_tid work.node.manager) ≡ false) → Stands t scene n work w → GoesOn t scene n (command_came line work) w
