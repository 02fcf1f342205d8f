-- What a step is given for what the machine has beside the node: room for counts and ticks, what became of a node that restarted, and what a
-- log said of commits.
use Rattle.std.specs.Prelude.{◌≡◌, ◌+◌, ◌<◌, ◌^◌, ℕ, ⊤, true, Some, None}
use Rattle.std.specs.List.{list_any}
use Rattle.qs_base.specs.Order.{same_tid}
use Rattle.qs_base.specs.declared.identifiers.NodeNo.{NodeNo}
use Rattle.qs_base.specs.declared.identifiers.Tid.{Tid}
use Rattle.qs_ipc.specs.Ipc as ipc
use Rattle.qs_book_machine.specs.Book.{BookValue}
use Rattle.qs_ops.specs.declared.answer.Cause.TheVariants as causes
use Rattle.qs_node_step.specs.Restarts.{notice_tid}
use Rattle.qs_node_step.specs.Settling.{is_pass_due}
use Rattle.qs_node_step.specs.State.{NodeValue, Work, with_queues}
use Rattle.qs_node_step.specs.Voting.{change_count}
use Rattle.qs_node_step.specs.declared.event.Event.{Event}
use Rattle.qs_node_step.specs.declared.event.Event.TheVariants as events
use Rattle.qs_tm.specs.Manager as tm
use Rattle.qs_tm.specs.Participant.{is_owed_by}
use Rattle.qs_tm.specs.declared.participant.Participant.{Participant}
use Rattle.qs_world_walk.specs.Walked.{AtEach}
use Rattle.qs_world_lawful.specs.Beside.{IsTrueCause}
use Rattle.qs_world_lawful.specs.Entering.{book_at}
use Rattle.qs_world_lawful.specs.Given.{MayPass}
use Rattle.qs_world_lawful.specs.Logged.{HasCommitted}

-- what a node owes that restarted, the machine finds gone
abbrev pub IsGone : ℕ → BookValue → NodeNo → ℕ → Work → Tid → Type 0
IsGone stamp before peer old work tid = (part : Participant) → tm.part_of tid work.node.manager ≡ Some part → part.outcome ≡ None → is_owed_by peer part ≡ true → IsTrueCause (book_at stamp before work) tid (causes.Gone peer old)

-- the Commits that the log had are the machine's
abbrev pub AreCommitted : BookValue → NodeValue → Type 0
AreCommitted book node = (tid : Tid) → list_any (same_tid tid) node.committed ≡ true → HasCommitted book tid

-- where a pass is due, the count that its note tells has room
abbrev pub HasCountRoom : Work → Tid → Type 0
HasCountRoom work tid = (part : Participant) → tm.part_of tid work.node.manager ≡ Some part → is_pass_due tid part work ≡ true → change_count tid work.node < 2 ^ 64

-- where a pass is due, it may be, and the count that a note tells has room
pub record PassesSo (stamp : ℕ) (before : BookValue) (work : Work) (tid : Tid) : Type 0 where
  pub may : (part : Participant) → tm.part_of tid work.node.manager ≡ Some part → is_pass_due tid part work ≡ true → MayPass stamp before work tid part
  pub room : HasCountRoom work tid

-- what comes has room, and is so
abbrev pub HappensSo : ℕ → BookValue → Event → Work → Type 0
HappensSo stamp before (events.PeerRestarted peer old new) work = AtEach (IsGone stamp before peer old) (notice_tid peer old new) (with_queues (ipc.mark_queues peer) work) (tm.concerned peer work.node.manager)
HappensSo stamp before events.Tick work = work.node.manager.ticks + 1 < 2 ^ 62
HappensSo stamp before event work = ⊤
