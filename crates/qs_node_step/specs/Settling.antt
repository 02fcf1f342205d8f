-- Settling: what a node does of itself at the end of each step, for each transaction to which something may be due, in order.
--
-- For one transaction the rules are a vote pass, readiness, refusal and forgetting, and the first that applies is to be
-- applied until none does. After a pass none is due again: each server that was asked has voted for all that it served,
-- or files wait for a note and the node is busy. After readiness the home knows the outcome, and another node has no
-- superior. A refusal makes none of the two due. So each is tried once, in this order, refusal for each cause there is.
-- None applies to a transaction that is not asked and can be committed: it is not due.
use Rattle.std.specs.Prelude.{ℕ, Bool, not, ◌&&◌, ◌||◌, List, [], ◌∷◌, fold, Some, None, unwrap_or, if◌then◌else◌}
use Rattle.std.specs.List.{list_any}
use Rattle.qs_base.specs.declared.identifiers.NodeNo.{NodeNo}
use Rattle.qs_base.specs.declared.identifiers.Outcome.TheVariants as outcomes
use Rattle.qs_base.specs.declared.identifiers.Tid.{Tid}
use Rattle.qs_engage.specs.Engage.{release_of}
use Rattle.qs_engage.specs.Nodes.{listed}
use Rattle.qs_ipc.specs.Ipc as ipc
use Rattle.qs_ops.specs.declared.answer.Cause.{Cause}
use Rattle.qs_packet.specs.declared.message.Message.TheVariants as messages
use Rattle.qs_tm.specs.Manager as tm
use Rattle.qs_tm.specs.Outcomes.{told_with_own}
use Rattle.qs_tm.specs.Participant.{awaits_note, needs_pass, is_ready, is_forgotten}
use Rattle.qs_tm.specs.declared.participant.Participant.{Participant}
use Rattle.qs_node_kept.specs.Loans.{is_standing_loan}
use Rattle.qs_node_step.specs.declared.state.Doings.{Doings}
use Rattle.qs_node_step.specs.State.{NodeValue, Work, here, with_manager, doings_of}
use Rattle.qs_node_step.specs.Bringing.{send}
use Rattle.qs_node_step.specs.Asking.{where_undecided}
use Rattle.qs_node_step.specs.Deciding.{decide, decide_commit}
use Rattle.qs_node_step.specs.Telling.{forget}
use Rattle.qs_node_step.specs.Voting.{vote_pass}

-- ---- busy: a request waits, a loan of this incarnation is not given back, or files wait for a reply

abbrev pub is_lent : Tid → NodeValue → Bool
is_lent tid node = list_any (is_standing_loan tid node.setting.inc) node.kept.now.loans

abbrev pub is_busy : Tid → NodeValue → Participant → Bool
is_busy tid node part = ipc.waits tid node.queues || (is_lent tid node || awaits_note part)

-- ---- vote pass

-- not in a step that asked for the commit or served a request of it
abbrev pub is_put_off : Doings → Bool
is_put_off doings = doings.asked || doings.served

-- a pass is due at an asked node that is not busy
abbrev pub is_pass_due : Tid → Participant → Work → Bool
is_pass_due tid part work = (part.asked && not (is_busy tid work.node part)) && (needs_pass part && not (is_put_off (doings_of tid work)))

abbrev pub pass_rule : Tid → Participant → Work → Work
pass_rule tid part work = if is_pass_due tid part work then vote_pass tid work else work

-- ---- readiness

-- the node can answer for all that came to it and all that it sent; a vote of this step's Prepare does not count yet, and a
-- pass that was put off comes first
abbrev pub may_answer : Tid → Participant → Work → Bool
may_answer tid part work =
    is_ready (is_busy tid work.node part) part && (not (needs_pass part) && not (doings_of tid work).prepared)

-- the home decides in no step that asked, served, voted or took a loan back
abbrev pub is_quiet : Doings → Bool
is_quiet doings = not ((doings.asked || doings.served) || (doings.voted || doings.yielded))

-- it answers its superior with the number of its last request and the told set, and has none then
-- Event: Yes, or Yes_lost where the superior restarted since.
abbrev pub say_yes : Tid → Participant → NodeNo × ℕ → Work → Work
say_yes tid part superior work =
    send superior.0 (messages.VotedYes tid superior.1 (listed (told_with_own (here work) part))) (with_manager (tm.released tid) work)

abbrev pub answer_superior : Tid → Participant → Work → Work
answer_superior tid part work = elim (release_of part.engage) [ None ↦ work | Some superior ↦ say_yes tid part superior work ]

-- Event: see decide_commit and say_yes.
abbrev pub ready : Tid → Participant → Work → Work
ready tid part work =
    if part.engage.home then (if is_quiet (doings_of tid work) then decide_commit tid work else work)
    else answer_superior tid part work

abbrev pub ready_rule : Tid → Participant → Work → Work
ready_rule tid part work = if may_answer tid part work then ready tid part work else work

-- ---- refusal

-- to the superior, or to the home where there is none
abbrev pub refusal_goes_to : Tid → Participant → NodeNo
refusal_goes_to tid part = unwrap_or part.engage.superior tid.home

abbrev pub send_refusal : Tid → NodeNo → Work → Cause → Work
send_refusal tid to work cause = send to (messages.VotedAbort tid cause) work

-- each cause is sent on once
-- No event.
abbrev pub refuse_elsewhere : Tid → Participant → Work → Work
refuse_elsewhere tid part work =
    fold (send_refusal tid (refusal_goes_to tid part)) (with_manager (tm.take_causes tid) work) part.causes

-- at the home the first decides
-- Event: see decide.
abbrev pub refuse_home : Tid → Participant → Work → Work
refuse_home tid part work = elim part.causes [ [] ↦ work | cause ∷ more ↦ decide tid outcomes.Abort (Some cause) work ]

abbrev pub refuse_rule : Tid → Participant → Work → Work
refuse_rule tid part work = if part.engage.home then refuse_home tid part work else refuse_elsewhere tid part work

-- ---- forgetting: another node than the home that only read, has no superior, and is not to be told

-- Event: Forget.
abbrev pub forget_rule : Tid → Participant → Work → Work
forget_rule tid part work = if is_forgotten part then forget tid work else work

-- ---- all of it

-- a rule is tried, over what is kept of the transaction now
abbrev pub try : Tid → (Tid → Participant → Work → Work) → Work → Work
try tid rule work = where_undecided tid (rule tid) work

abbrev pub settle_tid : Work → Tid → Work
settle_tid work tid = try tid forget_rule (try tid refuse_rule (try tid ready_rule (try tid pass_rule work)))

abbrev pub due_tids : Work → List Tid
due_tids work = tm.due work.node.manager

abbrev pub settle : Work → Work
settle work = fold settle_tid work (due_tids work)
