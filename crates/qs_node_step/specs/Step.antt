-- A step of a node: what comes is done, then the node settles, and then commands that stayed open are answered.
use Rattle.std.specs.Prelude.{ℕ, ◌==◌, Bool, false, List, [], fold, map, Option, Some, None, if◌then◌else◌}
use Rattle.std.specs.Map.{lookup}
use Rattle.std.specs.BTreeMap.{insert_entry, is_at}
use Rattle.qs_base.specs.declared.identifiers.ClientNo.{ClientNo}
use Rattle.qs_base.specs.declared.identifiers.NodeNo.{NodeNo}
use Rattle.qs_base.specs.declared.identifiers.Outcome.TheVariants as outcomes
use Rattle.qs_base.specs.declared.identifiers.Tid.{Tid}
use Rattle.qs_ops.specs.Timers.{ticked}
use Rattle.qs_ops.specs.declared.answer.Answer.TheVariants as answers
use Rattle.qs_ops.specs.declared.answer.Cause.TheVariants as causes
use Rattle.qs_book_journal.specs.declared.entry.Act.TheVariants as acts
use Rattle.qs_book_journal.specs.declared.script_line.Command.{Command}
use Rattle.qs_book_journal.specs.declared.script_line.Command.TheVariants as commands
use Rattle.qs_book_journal.specs.declared.script_line.ScriptLine.{ScriptLine}
use Rattle.qs_packet.specs.declared.message.Message.{Message}
use Rattle.qs_packet.specs.declared.message.Message.TheVariants as messages
use Rattle.qs_tm.specs.Manager as tm
use Rattle.qs_node_step.specs.declared.event.Effects.{Effects}
use Rattle.qs_node_step.specs.declared.event.Event.{Event}
use Rattle.qs_node_step.specs.declared.event.Event.TheVariants as events
use Rattle.qs_node_kept.specs.Keeping.{accepted}
use Rattle.qs_node_kept.specs.declared.kept.KeptLabel.{KeptLabel}
use Rattle.qs_node_step.specs.declared.state.Issued.{Issued}
use Rattle.qs_node_step.specs.declared.state.OpenCommand.{OpenCommand}
use Rattle.qs_node_servers.specs.Servers.{timers_no}
use Rattle.qs_node_step.specs.State.{NodeValue, Work, work_on, with_node, with_manager, change_server, client_cmp}
use Rattle.qs_node_step.specs.Bringing.{enter, answer}
use Rattle.qs_node_step.specs.Requests.{reply_came}
use Rattle.qs_node_step.specs.Serving.{label_at, request_came, serve_all}
use Rattle.qs_node_step.specs.Asking.{ask_came, closer_came, refusal_came}
use Rattle.qs_node_step.specs.Deciding.{decide}
use Rattle.qs_node_step.specs.Telling.{tell_came, told_came}
use Rattle.qs_node_step.specs.Answering.{kept_outcome, inquiry_came}
use Rattle.qs_node_step.specs.Restarts.{peer_restarted, begin_incarnation}
use Rattle.qs_node_step.specs.Commands.{begin_command, owner_command, decided_answer}
use Rattle.qs_node_step.specs.Borrowing.{is_aborted, borrower_command}
use Rattle.qs_node_step.specs.Settling.{settle}

-- ---- commands

abbrev pub is_owner : ClientNo → Option ClientNo → Bool
is_owner client None = false
is_owner client (Some owner) = owner.0 == client.0

abbrev pub labelled : ClientNo → KeptLabel → Command → Work → Work
labelled client begun command work =
    if is_owner client begun.owner then owner_command client begun.tid command work
    else elim begun.tid [ None ↦ work | Some tid ↦ borrower_command client tid command work ]

-- of a label that the node has not met nothing can be said yet
abbrev pub obey : ScriptLine → Command → Work → Work
obey line commands.Begin work = begin_command line work
obey line command work = elim (label_at line.label work.node) [ None ↦ work | Some begun ↦ labelled line.client begun command work ]

-- the command is open until it is answered
abbrev pub with_command : ScriptLine → Work → Work
with_command line work =
    with_node (λ node. record node {
      commands = insert_entry client_cmp node.commands line.client (record { line = line; issued = None });
    }) work

abbrev pub command_came : ScriptLine → Work → Work
command_came line work = obey line line.command (with_command line work)

-- ---- messages

abbrev pub message_came : NodeNo → Message → Work → Work
message_came peer messages.Hello work = work
message_came peer (messages.Request tid label member number issuer op) work = request_came peer tid label member number op work
message_came peer (messages.Answered tid member number reply) work = reply_came tid member number reply work
message_came peer (messages.AskVote tid) work = ask_came peer tid work
message_came peer (messages.Covered tid up_to) work = closer_came peer tid up_to [] work
message_came peer (messages.VotedYes tid up_to told) work = closer_came peer tid up_to told work
message_came peer (messages.VotedAbort tid cause) work = refusal_came tid cause work
message_came peer (messages.Tell tid outcome) work = tell_came peer tid outcome work
message_came peer (messages.Told tid further) work = told_came peer tid further work
message_came peer (messages.Inquire tid) work = inquiry_came peer tid work

-- ---- time

abbrev pub abort_old : ℕ → Work → Tid → Work
abort_old age work tid = decide tid outcomes.Abort (Some (causes.Old age)) work

-- a home with an age limit aborts what is that old and not decided
-- Event: see decide.
abbrev pub age_rule : Option ℕ → Work → Work
age_rule None work = work
age_rule (Some age) work = fold (abort_old age) work (tm.aged age work.node.manager)

-- timers count on, and transactions grow older
abbrev pub tick : Work → Work
tick work =
    age_rule work.node.setting.age
    (with_manager tm.tick (change_server timers_no (λ value. record value { timers = ticked value.timers }) (enter acts.Tick work)))

-- ---- what comes

abbrev pub happen : Event → Work → Work
happen (events.Command client line label command) work =
    command_came (record { client = client; line = line; label = label; command = command }) work
happen (events.Received peer message) work = message_came peer message work
happen events.ServeAll work = serve_all work
happen (events.PeerRestarted peer old new) work = peer_restarted peer old new work
happen events.Tick work = tick work

-- ---- commands that stay open

-- a request that was issued is answered once its node knows abort
abbrev pub request_waits : ClientNo → Issued → Work → Work
request_waits client issued work = if is_aborted issued.tid work.node then answer client answers.Ended work else work

-- the owner's command is answered once the transaction is decided
abbrev pub owner_waits : ClientNo → Option Tid → Command → Work → Work
owner_waits client None command work = work
owner_waits client (Some tid) command work = elim (kept_outcome tid work.node) [
  | None ↦ work
  | Some decided ↦ answer client (decided_answer decided command) work
]

-- a borrower's take is answered once its loan is made
abbrev pub borrower_waits : ClientNo → Option Issued → Option Tid → Command → Work → Work
borrower_waits client (Some issued) tid command work = request_waits client issued work
borrower_waits client None None command work = work
borrower_waits client None (Some tid) command work = borrower_command client tid command work

abbrev pub waits_at : ClientNo → OpenCommand → KeptLabel → Work → Work
waits_at client command begun work =
    if is_owner client begun.owner then owner_waits client begun.tid command.line.command work
    else borrower_waits client command.issued begun.tid command.line.command work

abbrev pub wait_command : ClientNo → OpenCommand → Work → Work
wait_command client command work = elim (label_at command.line.label work.node) [ None ↦ work | Some begun ↦ waits_at client command begun work ]

abbrev pub wait_on : Work → ClientNo → Work
wait_on work client = elim (lookup (is_at (client_cmp client)) work.node.commands) [ None ↦ work | Some command ↦ wait_command client command work ]

abbrev pub waiting_clients : Work → List ClientNo
waiting_clients work = map (λ (entry : ClientNo × OpenCommand). entry.0) work.node.commands

abbrev pub answer_waiting : Work → Work
answer_waiting work = fold wait_on work (waiting_clients work)

-- ---- the step

-- over a log with so many bytes free
abbrev pub step_work : NodeValue → Event → ℕ → Work
step_work node event free = answer_waiting (settle (happen event (begin_incarnation (work_on node free))))

-- what the node keeps for its clients counts from now on
abbrev pub accept : NodeValue → NodeValue
accept node = record node { kept = accepted node.kept }

-- what the node is after the event, once all that the step brings about was done
abbrev pub after_step : NodeValue → Event → ℕ → NodeValue
after_step node event free = accept (step_work node event free).node

-- and what the step brings about
abbrev pub effects_of : NodeValue → Event → ℕ → Effects
effects_of node event free = (step_work node event free).out
