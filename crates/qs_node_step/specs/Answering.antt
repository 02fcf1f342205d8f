-- Inquiries: the home answers from what runs, then from the outcome kept for the owner, then from its log. What is in none of
-- them is aborted.
use Rattle.std.specs.Prelude.{Bool, false, ◌||◌, Option, Some, None, if◌then◌else◌, true}
use Rattle.std.specs.List.{find, list_any}
use Rattle.qs_base.specs.Order.{same_tid}
use Rattle.qs_base.specs.declared.identifiers.NodeNo.{NodeNo}
use Rattle.qs_base.specs.declared.identifiers.Outcome.{Outcome}
use Rattle.qs_base.specs.declared.identifiers.Outcome.TheVariants as outcomes
use Rattle.qs_base.specs.declared.identifiers.Tid.{Tid}
use Rattle.qs_engage.specs.Nodes.{same_node}
use Rattle.qs_packet.specs.declared.message.Message.TheVariants as messages
use Rattle.qs_tm.specs.Manager as tm
use Rattle.qs_node_kept.specs.Keeping.{is_outcome_of}
use Rattle.qs_node_kept.specs.declared.kept.Decided.{Decided}
use Rattle.qs_node_step.specs.State.{NodeValue, Work, here, part_of, with_manager}
use Rattle.qs_node_step.specs.Bringing.{send}
use Rattle.qs_node_step.specs.Telling.{keep_abort_told}

-- what became of a transaction that began here
abbrev pub kept_outcome : Tid → NodeValue → Option Decided
kept_outcome tid node = find (is_outcome_of tid) node.kept.now.outcomes

abbrev pub is_kept_commit : Option Decided → Bool
is_kept_commit None = false
is_kept_commit (Some decided) = elim decided.outcome [ outcomes.Commit ↦ true | outcomes.Abort ↦ false ]

-- it is committed, and nothing of it runs any more
abbrev pub was_committed : Tid → NodeValue → Bool
was_committed tid node = is_kept_commit (kept_outcome tid node) || list_any (same_tid tid) node.committed

-- Event: Answer_commit, or Answer_abort.
abbrev pub answer_unknown : NodeNo → Tid → Work → Work
answer_unknown peer tid work =
    if was_committed tid work.node then send peer (messages.Tell tid outcomes.Commit) work
    else send peer (messages.Tell tid outcomes.Abort) (keep_abort_told tid peer work)

-- where it runs, the asker is told at the decision
-- Event: Answer_running; Answer_commit; Answer_abort.
abbrev pub answer_known : NodeNo → Tid → Option Outcome → Work → Work
answer_known peer tid None work = with_manager (tm.add_told tid peer) work
answer_known peer tid (Some outcomes.Commit) work = send peer (messages.Tell tid outcomes.Commit) work
answer_known peer tid (Some outcomes.Abort) work = send peer (messages.Tell tid outcomes.Abort) (with_manager (tm.add_tell tid peer) work)

abbrev pub inquiry_at_home : NodeNo → Tid → Work → Work
inquiry_at_home peer tid work = elim (part_of tid work) [
  | None ↦ answer_unknown peer tid work
  | Some part ↦ answer_known peer tid part.outcome work
]

-- an Inquire comes
abbrev pub inquiry_came : NodeNo → Tid → Work → Work
inquiry_came peer tid work = if same_node tid.home (here work) then inquiry_at_home peer tid work else work
