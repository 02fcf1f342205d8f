-- What a step does, deed by deed. A deed is what a rule does to the node and to what the step brings about, in the smallest parts between which a fact
-- of the node may be asked for. What tests of the rule decide has been decided; where one changes a single field, it stands at that field.
use Rattle.std.specs.Prelude.{ℕ, true, false, List, [], ◌∷◌, ◌++◌, Option, Some, None, if◌then◌else◌}
use Rattle.std.specs.BTreeMap.{is_at}
use Rattle.std.specs.Map.{remove_entry}
use Rattle.qs_base.specs.declared.identifiers.ClientNo.{ClientNo}
use Rattle.qs_base.specs.declared.identifiers.Member.{Member}
use Rattle.qs_base.specs.declared.identifiers.NodeNo.{NodeNo}
use Rattle.qs_base.specs.declared.identifiers.Outcome.{Outcome}
use Rattle.qs_base.specs.declared.identifiers.ServerNo.{ServerNo}
use Rattle.qs_base.specs.declared.identifiers.Tid.{Tid}
use Rattle.qs_engage.specs.Nodes.{listed}
use Rattle.qs_ipc.specs.Ipc as ipc
use Rattle.qs_ipc.specs.Ipc.{IpcValue}
use Rattle.qs_ipc.specs.Queue.{is_for}
use Rattle.qs_ipc.specs.declared.delivery.Delivery.{Delivery}
use Rattle.qs_book_journal.specs.declared.entry.Act.{Act}
use Rattle.qs_book_journal.specs.declared.entry.Act.TheVariants as acts
use Rattle.qs_book_journal.specs.declared.script_line.ScriptLine.{ScriptLine}
use Rattle.qs_node_kept.specs.Keeping.{with_now}
use Rattle.qs_node_kept.specs.Loans.{give_back, take_first}
use Rattle.qs_node_kept.specs.declared.kept.Decided.{Decided}
use Rattle.qs_node_kept.specs.declared.kept.Lent.{Lent}
use Rattle.qs_ops.specs.Operations.{answer_of}
use Rattle.qs_ops.specs.Server.{after_serving}
use Rattle.qs_ops.specs.declared.answer.Answer.{Answer}
use Rattle.qs_ops.specs.declared.answer.Answer.TheVariants as answers
use Rattle.qs_ops.specs.declared.answer.Cause.{Cause}
use Rattle.qs_ops.specs.declared.operation.Op.{Op}
use Rattle.qs_ops.specs.declared.reply.Reply.{Reply}
use Rattle.qs_ops.specs.declared.vote.Vote.{Vote}
use Rattle.qs_ops.specs.declared.vote.Vote.TheVariants as votings
use Rattle.qs_ops.specs.Timers.{ticked}
use Rattle.qs_packet.specs.declared.message.Message.{Message}
use Rattle.qs_packet.specs.declared.message.Message.TheVariants as messages
use Rattle.qs_record.specs.declared.record.Record.{Record}
use Rattle.qs_record.specs.declared.record.Record.TheVariants as records
use Rattle.qs_node_servers.specs.Servers.{ServersValue, client_of, is_client, timers_no, with_server}
use Rattle.qs_node_step.specs.Asking.{block, count}
use Rattle.qs_node_step.specs.Borrowing.{is_void}
use Rattle.qs_node_step.specs.Bringing.{enter, is_other, log, member_here}
use Rattle.qs_node_step.specs.Commands.{decided_answer, enter_ask}
use Rattle.qs_node_step.specs.Deciding.{end_member, keep_outcome, learn_member}
use Rattle.qs_node_step.specs.Requests.{enter_issue, label_of, with_local}
use Rattle.qs_node_step.specs.Serving.{lent_to, put_label}
use Rattle.qs_node_step.specs.State.{Work, change_server, client_cmp, here, with_doings, with_kept, with_manager, with_node, with_queues}
use Rattle.qs_node_step.specs.Step.{with_command}
use Rattle.qs_node_step.specs.Telling.{forget, keep_abort_told}
use Rattle.qs_node_step.specs.Voting.{enter_vote, vote_with}
use Rattle.qs_node_step.specs.declared.state.Issued.{Issued}
use Rattle.qs_node_step.specs.declared.state.OpenCommand.{OpenCommand}
use Rattle.qs_tm.specs.Manager as tm
use Rattle.qs_tm.specs.Outcomes.{told_with_own}
use Rattle.qs_tm.specs.declared.participant.Outstanding.{Outstanding}
use Rattle.qs_tm.specs.declared.participant.Participant.{Participant}
use Rattle.qs_world_walk.specs.Stage.{Turn}

-- why a command is answered that does not begin, take or yield, and is no reply
pub data Why : Type 0 where
  Unbegun : Why  -- the transaction of its label never began
  Over : Decided → Why  -- the owner's transaction is decided
  NotIts : Lent → Why  -- the borrower gave its loan back
  Void : Lent → Why  -- its loan is void
  Ended : Issued → Why  -- its request was issued, and the node knows that the transaction is aborted

-- who issues a request
pub data Issuer : Type 0 where
  Client : ClientNo → OpenCommand → Issuer
  Files : ServerNo → Issuer  -- a note, as that server was to vote

pub data Deed : Type 0 where
  -- the first step of an incarnation
  Starts : Deed
  -- what comes: nothing that the node keeps; or a command, a request, word of a restart, time
  Lets : Deed
  Opens : ScriptLine → Deed
  Labels : List ℕ → Tid → Deed
  Meets : Tid → Deed
  Engages : Tid → NodeNo → ℕ → Deed
  TakesIn : NodeNo → Tid → Member → ℕ → Op → Deed
  Stales : NodeNo → Deed
  Ticks : Deed
  -- a turn
  Turns : Turn → Deed
  Rests : Turn → Deed
  -- messages, records and notices
  Sends : NodeNo → Message → Deed
  Logs : Tid → Record → Deed
  Ends : Tid → ServerNo → Deed
  Learns : Tid → Outcome → ServerNo → Deed
  -- for clients
  Begins : ScriptLine → Deed
  Refuses : ScriptLine → ℕ → ℕ → Deed
  Answers : ClientNo → OpenCommand → Why → Deed
  Takes : ClientNo → OpenCommand → Tid → Lent → Deed
  Yields : ClientNo → OpenCommand → Tid → Lent → Deed
  Asks : ScriptLine → Tid → Deed
  -- requests and replies
  IssuesHere : Issuer → Tid → Outstanding → Op → Deed
  IssuesAway : Issuer → Tid → Outstanding → Op → Deed
  Serves : ServerNo → Delivery → Reply → Deed
  ServesAway : ServerNo → Delivery → Reply → Deed  -- and its reply goes to another node
  Drops : ServerNo → Delivery → Deed
  NotesReply : Tid → Member → ℕ → Outstanding → Deed
  GivesReply : Tid → Member → ℕ → Outstanding → OpenCommand → Reply → Deed
  LosesReply : Tid → Member → ℕ → Outstanding → Deed
  -- votes and decisions
  BecomesAsked : NodeNo → Tid → Deed
  Counts : NodeNo → Tid → ℕ → List NodeNo → Deed
  Ignores : NodeNo → Tid → ℕ → List NodeNo → Deed  -- an answer for requests counts no more: nothing is done
  Blocks : Tid → Cause → Deed
  Votes : Tid → ServerNo → Vote → Deed
  Prepares : Tid → ServerNo → Deed
  SaysYes : Tid → Participant → NodeNo × ℕ → Deed
  TakesCauses : Tid → Deed
  Forgets : Tid → Participant → Deed
  Decides : Tid → Outcome → Option Cause → Deed
  -- the outcome is told
  TakesOutcome : Tid → Outcome → Deed
  KeepsAbort : Tid → Deed
  KeepsTold : Tid → NodeNo → Deed
  TakesNames : Tid → List NodeNo → Deed
  Acknowledges : Tid → NodeNo → Deed
  EndsCommit : Tid → NodeNo → Deed
  AddsTold : Tid → NodeNo → Deed
  AddsTell : Tid → NodeNo → Deed
  Notices : Tid → NodeNo → Deed

-- ---- what is done

-- the open command of a client is answered
abbrev pub closed : ClientNo → OpenCommand → Answer → Work → Work
closed client command said work = record work {
  node = record work.node { commands = remove_entry (is_at (client_cmp client)) work.node.commands };
  out = record work.out {
    answers = work.out.answers ++ record { client = client; answer = record { line = command.line.line; answer = said } } ∷ [];
    entries = work.out.entries ++ acts.Answer client command.line.line said ∷ [];
  };
}

abbrev pub fresh_command : ScriptLine → OpenCommand
fresh_command line = record { line = line; issued = None }

-- to no other node of the run nothing goes
abbrev pub sent : NodeNo → Message → Work → Work
sent to message work = record work { out = record work.out { messages = if is_other work.node.setting to then work.out.messages ++ record { to = to; message = message } ∷ [] else work.out.messages } }

-- an operation waits where its server has such operations
abbrev pub waiting : ServerNo → Delivery → Work → Work
waiting server delivery work = with_queues (λ (queues : IpcValue). if is_for server delivery.op then ipc.enqueue server delivery queues else queues) work

abbrev pub answer_by : OpenCommand → Why → Answer
answer_by command Unbegun = answers.NotBegun
answer_by command (Over decided) = decided_answer decided command.line.command
answer_by command (NotIts loan) = answers.NotYours
answer_by command (Void loan) = answers.Ended
answer_by command (Ended issued) = answers.Ended

-- a client's command is noted as that request
abbrev pub commands_by : Issuer → Tid → Outstanding → List (ClientNo × OpenCommand) → List (ClientNo × OpenCommand)
commands_by (Client client command) tid request commands = tm.changed_value (is_at (client_cmp client)) (λ command. record command { issued = Some (record { tid = tid; member = request.member; number = request.number }) }) commands
commands_by (Files server) tid request commands = commands

abbrev pub issued_by : Issuer → Tid → Outstanding → Work → Work
issued_by by tid request work = with_node (λ node. record node { commands = commands_by by tid request node.commands }) work

abbrev pub waits_here : Tid → Outstanding → Op → Work → Work
waits_here tid request op work =
    waiting request.member.server (record { tid = tid; from = here work; number = request.number; op = op; stale = false })
    (with_local tid request.number (enter_issue tid request op work))

abbrev pub goes_away : Tid → Outstanding → Op → Work → Work
goes_away tid request op work =
    sent request.member.node (messages.Request tid (label_of tid work.node) request.member request.number request.issuer op)
    (with_manager (tm.sent tid request.member.node) (enter_issue tid request op work))

-- the first that waits at a server leaves its queue
abbrev pub left : ServerNo → Work → Work
left server work = with_queues (ipc.after_next server) work

-- a client serves by taking a loan
abbrev pub served_servers : ServerNo → Delivery → Reply → ServersValue → ServersValue
served_servers server delivery reply servers = if is_client server then servers else with_server server (λ value. after_serving value delivery.tid delivery.op reply) servers

abbrev pub lent : Tid → ℕ → Option ClientNo → List Lent → List Lent
lent tid inc None loans = loans
lent tid inc (Some client) loans = loans ++ record { tid = tid; client = client; inc = inc; taken = false; yielded = false } ∷ []

abbrev pub loan_entered : Tid → Option ClientNo → List Act → List Act
loan_entered tid None entries = entries
loan_entered tid (Some client) entries = entries ++ acts.Loan tid client ∷ []

abbrev pub served : ServerNo → Delivery → Reply → Work → Work
served server delivery reply work = record work {
  node = record work.node {
    queues = ipc.after_next server work.node.queues;
    servers = served_servers server delivery reply work.node.servers;
    manager = tm.served delivery.tid server work.node.manager;
    kept = with_now (λ kept. record kept { loans = lent delivery.tid work.node.setting.inc (lent_to delivery.op) kept.loans }) work.node.kept;
  };
  doings = (with_doings delivery.tid (λ doings. record doings { served = true }) work).doings;
  out = record work.out { entries = loan_entered delivery.tid (lent_to delivery.op) (work.out.entries ++ acts.Serve delivery.tid (member_here work server) delivery.from delivery.number reply ∷ []) };
}

abbrev pub taken_reply : Tid → Member → ℕ → Work → Work
taken_reply tid member number work = with_manager (tm.drop_waiting tid member number) work

abbrev pub ticked_work : Work → Work
ticked_work work = with_manager tm.tick (change_server timers_no (λ value. record value { timers = ticked value.timers }) (enter acts.Tick work))

abbrev pub did : Deed → Work → Work
did Starts work = with_node (λ node. record node { is_first = false }) work
did Lets work = work
did (Opens line) work = with_command line work
did (Labels label tid) work = put_label (record { label = label; tid = Some tid; owner = None }) work
did (Meets tid) work = with_manager (tm.meet tid) work
did (Engages tid peer number) work = with_manager (tm.requested tid peer number) work
did (TakesIn peer tid member number op) work = waiting member.server (record { tid = tid; from = peer; number = number; op = op; stale = false }) work
did (Stales peer) work = with_queues (ipc.mark_queues peer) work
did Ticks work = ticked_work work
did (Turns turn) work = work
did (Rests turn) work = work
did (Sends to message) work = sent to message work
did (Logs tid rec) work = log rec work
did (Ends tid server) work = end_member tid work server
did (Learns tid outcome server) work = learn_member tid outcome work server
did (Begins line) work =
    closed line.client (fresh_command line) answers.Done
    (enter (acts.Begin (tm.next_tid work.node.manager) line.label line.client)
    (put_label (record { label = line.label; tid = Some (tm.next_tid work.node.manager); owner = Some line.client }) (with_manager (tm.begin line.client) work)))
did (Refuses line need room) work = closed line.client (fresh_command line) (answers.LogFull need room) (put_label (record { label = line.label; tid = None; owner = Some line.client }) work)
did (Answers client command why) work = closed client command (answer_by command why) work
did (Takes client command tid loan) work =
    closed client command (if is_void tid loan work.node then answers.Ended else answers.Done)
    (with_kept (λ kept. record kept { loans = take_first client tid kept.loans }) work)
did (Yields client command tid loan) work =
    closed client command answers.Done
    (with_doings tid (λ doings. record doings { yielded = true }) (enter (acts.Yield tid client) (with_kept (λ kept. record kept { loans = give_back client tid kept.loans }) work)))
did (Asks line tid) work = with_manager (tm.ask tid) (enter_ask tid work)
did (IssuesHere by tid request op) work = waits_here tid request op (issued_by by tid request work)
did (IssuesAway by tid request op) work = goes_away tid request op (issued_by by tid request work)
did (Serves server delivery reply) work = served server delivery reply work
did (ServesAway server delivery reply) work = sent delivery.from (messages.Answered delivery.tid (member_here work server) delivery.number reply) (served server delivery reply work)
did (Drops server delivery) work = left server work
did (NotesReply tid member number request) work = with_manager (tm.note_served tid request.count) (taken_reply tid member number work)
did (GivesReply tid member number request command reply) work = closed (client_of request.issuer) command (answer_of reply) (taken_reply tid member number work)
did (LosesReply tid member number request) work = taken_reply tid member number work
did (BecomesAsked peer tid) work = with_manager (tm.ask tid) work
did (Ignores peer tid up_to told) work = work
did (Counts peer tid up_to told) work = count peer tid up_to told work
did (Blocks tid cause) work = block tid cause work
did (Votes tid server ballot) work = enter_vote tid server ballot work
did (Prepares tid server) work = vote_with tid server votings.Recoverable work
did (SaysYes tid part superior) work = sent superior.0 (messages.VotedYes tid superior.1 (listed (told_with_own (here work) part))) (with_manager (tm.released tid) work)
did (TakesCauses tid) work = with_manager (tm.take_causes tid) work
did (Forgets tid part) work = forget tid work
did (Decides tid outcome cause) work = enter (acts.Decide tid outcome cause) (keep_outcome tid outcome cause (with_manager (tm.decide tid outcome) work))
did (TakesOutcome tid outcome) work = with_manager (tm.took_outcome tid outcome) work
did (KeepsAbort tid) work = with_manager (tm.keep_abort tid) work
did (KeepsTold tid peer) work = keep_abort_told tid peer work
did (TakesNames tid further) work = with_manager (tm.take_names tid further) work
did (Acknowledges tid peer) work = with_manager (tm.acknowledged tid peer) work
did (EndsCommit tid peer) work = forget tid (log (records.End tid) (with_manager (tm.acknowledged tid peer) work))
did (AddsTold tid peer) work = with_manager (tm.add_told tid peer) work
did (AddsTell tid peer) work = with_manager (tm.add_tell tid peer) work
did (Notices tid peer) work = with_manager (tm.restarted tid peer) work
