-- What a step has in hand for clients, the labels that its node keeps, what waits there, and what it entered, sent and answered so far. Each thing that a rule does to
-- these is named here: what all of them keep, a whole step keeps.
use Rattle.std.specs.Prelude.{◌≡◌, ℕ, ⊤, false, List, [], ◌∷◌, ◌++◌, Some, None}
use Rattle.std.specs.BTreeMap.{insert_entry, is_at}
use Rattle.std.specs.Map.{lookup, remove_entry}
use Rattle.qs_base.specs.declared.identifiers.ClientNo.{ClientNo}
use Rattle.qs_base.specs.declared.identifiers.Member.{Member}
use Rattle.qs_base.specs.declared.identifiers.NodeNo.{NodeNo}
use Rattle.qs_base.specs.declared.identifiers.ServerNo.{ServerNo}
use Rattle.qs_base.specs.declared.identifiers.Tid.{Tid}
use Rattle.qs_engage.specs.Nodes.{same_node}
use Rattle.qs_ipc.specs.Ipc as ipc
use Rattle.qs_ipc.specs.Ipc.{IpcValue}
use Rattle.qs_ipc.specs.declared.delivery.Delivery.{Delivery}
use Rattle.qs_book_journal.specs.declared.entry.Act.{Act}
use Rattle.qs_book_journal.specs.declared.entry.Act.TheVariants as acts
use Rattle.qs_book_journal.specs.declared.script_line.Command.TheVariants as commands
use Rattle.qs_book_journal.specs.declared.script_line.ScriptLine.{ScriptLine}
use Rattle.qs_node_kept.specs.declared.kept.KeptLabel.{KeptLabel}
use Rattle.qs_ops.specs.declared.answer.Answer.{Answer}
use Rattle.qs_ops.specs.declared.answer.Answer.TheVariants as answers
use Rattle.qs_ops.specs.declared.operation.Op.{Op}
use Rattle.qs_ops.specs.declared.reply.Reply.{Reply}
use Rattle.qs_packet.specs.declared.message.Message.{Message}
use Rattle.qs_packet.specs.declared.message.Message.TheVariants as messages
use Rattle.qs_node_step.specs.State.{Work, client_cmp}
use Rattle.qs_node_step.specs.Telling.{drop_counts}
use Rattle.qs_node_step.specs.declared.event.ClientAnswer.{ClientAnswer}
use Rattle.qs_node_step.specs.declared.event.Event.{Event}
use Rattle.qs_node_step.specs.declared.event.Event.TheVariants as events
use Rattle.qs_node_step.specs.declared.event.Sending.{Sending}
use Rattle.qs_node_step.specs.declared.setting.Setting.{Setting}
use Rattle.qs_node_step.specs.declared.state.Issued.{Issued}
use Rattle.qs_node_step.specs.declared.state.OpenCommand.{OpenCommand}
use Rattle.qs_tm.specs.Manager as tm
use Rattle.qs_world.specs.Moves.{command_of}

pub record Trace : Type 0 where
  pub setting : Setting
  pub commands : List (ClientNo × OpenCommand)
  pub queues : IpcValue
  pub labels : List KeptLabel
  pub entries : List Act
  pub messages : List Sending
  pub answers : List ClientAnswer

abbrev pub trace_of : Work → Trace
trace_of work = record {
  setting = work.node.setting;
  commands = work.node.commands;
  queues = work.node.queues;
  labels = work.node.kept.now.labels;
  entries = work.out.entries;
  messages = work.out.messages;
  answers = work.out.answers;
}

-- ---- what a rule does

abbrev pub entered : Act → Trace → Trace
entered act t = record t { entries = t.entries ++ act ∷ [] }

abbrev pub sent : NodeNo → Message → Trace → Trace
sent to message t = record t { messages = t.messages ++ record { to = to; message = message } ∷ [] }

abbrev pub with_queues : IpcValue → Trace → Trace
with_queues queues t = record t { queues = queues }

-- the node keeps one more label
abbrev pub noted : KeptLabel → Trace → Trace
noted label t = record t { labels = t.labels ++ label ∷ [] }

-- the command of a client is answered
abbrev pub answered : ClientNo → OpenCommand → Answer → Trace → Trace
answered client command said t = record t {
  commands = remove_entry (is_at (client_cmp client)) t.commands;
  answers = t.answers ++ record { client = client; answer = record { line = command.line.line; answer = said } } ∷ [];
  entries = t.entries ++ acts.Answer client command.line.line said ∷ [];
}

-- it comes, and was issued as a request
abbrev pub fresh_command : ScriptLine → OpenCommand
fresh_command line = record { line = line; issued = None }

abbrev pub with_line : ScriptLine → Trace → Trace
with_line line t = record t { commands = insert_entry client_cmp t.commands line.client (fresh_command line) }

abbrev pub with_issued : ClientNo → Issued → Trace → Trace
with_issued client issued t = record t { commands = tm.changed_value (is_at (client_cmp client)) (λ command. record command { issued = Some issued }) t.commands }

abbrev pub member_at : Trace → ServerNo → Member
member_at t server = record { node = t.setting.node; server = server }

-- an entry that begins, issues and serves nothing and answers nobody
abbrev pub IsOrdinary : Act → Type 0
IsOrdinary (acts.Begin tid label client) = ⊥
IsOrdinary (acts.Issue tid issuer member number op) = ⊥
IsOrdinary (acts.Serve tid member from number reply) = ⊥
IsOrdinary (acts.Answer client line said) = ⊥
IsOrdinary (acts.Crash cause) = ⊥
IsOrdinary (acts.Restart inc pend done) = ⊥
IsOrdinary act = ⊤

-- a message that is no request
abbrev pub AsksNothing : Message → Type 0
AsksNothing (messages.Request tid label member number issuer op) = ⊥
AsksNothing message = ⊤

-- ---- what all that keep

pub record IsKept (P : Trace → Type 0) : Type 0 where
  pub enters : (t : Trace) (act : Act) → IsOrdinary act → P t → P (entered act t)
  pub sends : (t : Trace) (to : NodeNo) (message : Message) → AsksNothing message → P t → P (sent to message t)
  pub closes : (t : Trace) (client : ClientNo) (command : OpenCommand) (said : Answer) → lookup (is_at (client_cmp client)) t.commands ≡ Some command → P t → P (answered client command said t)
  pub begins : (t : Trace) (line : ScriptLine) (tid : Tid) → lookup (is_at (client_cmp line.client)) t.commands ≡ Some (fresh_command line) → line.command ≡ commands.Begin → P t
      → P (answered line.client (fresh_command line) answers.Done (entered (acts.Begin tid line.label line.client) (noted (record { label = line.label; tid = Some tid; owner = Some line.client }) t)))
  pub refuses : (t : Trace) (line : ScriptLine) → P t → P (noted (record { label = line.label; tid = None; owner = Some line.client }) t)
  pub marks : (t : Trace) (client : ClientNo) (issued : Issued) → P t → P (with_issued client issued t)
  pub issues : (t : Trace) (tid : Tid) (issuer : ServerNo) (member : Member) (number : ℕ) (op : Op) → P t → P (entered (acts.Issue tid (member_at t issuer) member number op) t)
  pub asks : (t : Trace) (tid : Tid) (label : List ℕ) (issuer : ServerNo) (member : Member) (number : ℕ) (op : Op) → same_node member.node t.setting.node ≡ false → P t
      → P (sent member.node (messages.Request tid label member number issuer op) (entered (acts.Issue tid (member_at t issuer) member number op) t))
  pub queues : (t : Trace) (server : ServerNo) (delivery : Delivery) → delivery.from ≡ t.setting.node → P t → P (with_queues (ipc.enqueue server delivery t.queues) t)
  pub serves : (t : Trace) (server : ServerNo) (delivery : Delivery) (reply : Reply) → ipc.next server t.queues ≡ Some delivery → P t
      → P (entered (acts.Serve delivery.tid (member_at t server) delivery.from delivery.number reply) (with_queues (ipc.after_next server t.queues) t))
  pub leaves : (t : Trace) (server : ServerNo) → P t → P (with_queues (ipc.after_next server t.queues) t)
  pub forgets : (t : Trace) (tid : Tid) → P t → P (with_queues (drop_counts tid t.queues) t)
  pub stales : (t : Trace) (peer : NodeNo) → P t → P (with_queues (ipc.mark_queues peer t.queues) t)

-- and what comes in the step: a command of a client, or a request, which tells a label and may be let go
pub record TakesIn (event : Event) (P Q : Trace → Type 0) : Type 0 where
  pub lets : (t : Trace) → P t → Q t
  pub comes : (t : Trace) (line : ScriptLine) → event ≡ command_of line → P t → Q (with_line line t)
  pub learns : (t : Trace) (peer : NodeNo) (tid : Tid) (label : List ℕ) (member : Member) (number : ℕ) (issuer : ServerNo) (op : Op) → event ≡ events.Received peer (messages.Request tid label member number issuer op) → P t
      → P (noted (record { label = label; tid = Some tid; owner = None }) t)
  pub takes : (t : Trace) (peer : NodeNo) (tid : Tid) (label : List ℕ) (member : Member) (number : ℕ) (issuer : ServerNo) (op : Op) → event ≡ events.Received peer (messages.Request tid label member number issuer op) → P t
      → Q (with_queues (ipc.enqueue member.server (record { tid = tid; from = peer; number = number; op = op; stale = false }) t.queues) t)
