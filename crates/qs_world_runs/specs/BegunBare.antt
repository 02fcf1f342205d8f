-- What begins in a step is not asked for there, and nothing of it is lent: so no server votes on it, and no borrower has a request of it issued.
use Rattle.std.specs.Prelude.{◌≡◌, ℕ, false, Some}
use Rattle.qs_base.specs.declared.identifiers.ClientNo.{ClientNo}
use Rattle.qs_base.specs.declared.identifiers.Tid.{Tid}
use Rattle.qs_node_kept.specs.Loans.{last_taken}
use Rattle.qs_node_kept.specs.declared.kept.Lent.{Lent}
use Rattle.qs_node_step.specs.Borrowing.{is_void}
use Rattle.qs_node_step.specs.Settling.{due_tids, is_pass_due, settle, settle_tid}
use Rattle.qs_node_step.specs.State.{Work, part_of}
use Rattle.qs_node_step.specs.Step.{wait_on, waiting_clients}
use Rattle.qs_node_step.specs.declared.event.Event.{Event}
use Rattle.qs_tm.specs.declared.participant.Participant.{Participant}
use Rattle.qs_world.specs.Moves.{Source}
use Rattle.qs_world.specs.World.{World}
use Rattle.qs_world_walk.specs.Walked.{AtEach, done_work}
use Rattle.qs_world_refine.specs.Begun.{has_begun}
use Rattle.qs_world_refine.specs.ShownWorlds.{IsShownWorld}
use Rattle.qs_world_runs.specs.Agrees.{MakesStep}

abbrev pub NotDue : Tid → Work → Type 0
NotDue t work = (part : Participant) → part_of t work ≡ Some part → is_pass_due t part work ≡ false

-- no loan of it that was taken stands
abbrev pub NotBorrowed : Tid → Work → Type 0
NotBorrowed t work = (client : ClientNo) (loan : Lent) → last_taken client t work.node.kept.now.loans ≡ Some loan → loan.yielded ≡ false → is_void t loan work.node ≡ false → ⊥

-- at each stage of the step
pub record IsBegunBare (t : Tid) (world : World) (n free : ℕ) (event : Event) : Type 0 where
  pub turns : AtEach (λ (work : Work) (tid : Tid). NotDue t work) settle_tid (done_work (world.hosts n).node event free) (due_tids (done_work (world.hosts n).node event free))
  pub waits : AtEach (λ (work : Work) (client : ClientNo). NotBorrowed t work) wait_on (settle (done_work (world.hosts n).node event free)) (waiting_clients (settle (done_work (world.hosts n).node event free)))

abbrev pub BegunBare : Type 0
BegunBare = (t : Tid) (world : World) (n stamp free : ℕ) (source : Source) (event : Event) → IsShownWorld world → MakesStep world n stamp source event → t.home.0 ≡ n → has_begun world t ≡ false → IsBegunBare t world n free event
