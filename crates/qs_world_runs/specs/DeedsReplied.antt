-- What a step does, where each reply is tied to its request: a reply is sent only as the first that waits at a server is served, to another node and not a stale one.
-- What comes before that which happens enters and sends alone; and as another node restarted, what waits of it is marked before all else.
use Rattle.std.specs.Prelude.{◌≡◌, ℕ, ⊤, true, false, List, Option, Some, None}
use Rattle.std.specs.BTreeMap.{is_at}
use Rattle.std.specs.Map.{lookup}
use Rattle.qs_base.specs.declared.identifiers.ClientNo.{ClientNo}
use Rattle.qs_base.specs.declared.identifiers.Member.{Member}
use Rattle.qs_base.specs.declared.identifiers.NodeNo.{NodeNo}
use Rattle.qs_base.specs.declared.identifiers.Outcome.{Outcome}
use Rattle.qs_base.specs.declared.identifiers.Outcome.TheVariants as outcomes
use Rattle.qs_base.specs.declared.identifiers.ServerNo.{ServerNo}
use Rattle.qs_base.specs.declared.identifiers.Tid.{Tid}
use Rattle.qs_engage.specs.Nodes.{same_node}
use Rattle.qs_ipc.specs.Ipc as ipc
use Rattle.qs_ipc.specs.declared.delivery.Delivery.{Delivery}
use Rattle.qs_book_journal.specs.declared.entry.Act.{Act}
use Rattle.qs_book_journal.specs.declared.entry.Act.TheVariants as acts
use Rattle.qs_book_journal.specs.declared.script_line.Command.TheVariants as commands
use Rattle.qs_book_journal.specs.declared.script_line.ScriptLine.{ScriptLine}
use Rattle.qs_ops.specs.declared.answer.Answer.{Answer}
use Rattle.qs_ops.specs.declared.answer.Answer.TheVariants as answers
use Rattle.qs_ops.specs.declared.answer.Cause.{Cause}
use Rattle.qs_ops.specs.declared.operation.Op.{Op}
use Rattle.qs_ops.specs.declared.reply.Reply.{Reply}
use Rattle.qs_ops.specs.declared.vote.Vote.{Vote}
use Rattle.qs_packet.specs.declared.message.Message.{Message}
use Rattle.qs_packet.specs.declared.message.Message.TheVariants as messages
use Rattle.qs_node_step.specs.Settling.{is_put_off, is_quiet}
use Rattle.qs_node_step.specs.State.{client_cmp}
use Rattle.qs_node_step.specs.Telling.{drop_counts}
use Rattle.qs_node_step.specs.declared.event.Event.{Event}
use Rattle.qs_node_step.specs.declared.event.Event.TheVariants as events
use Rattle.qs_node_step.specs.declared.state.Issued.{Issued}
use Rattle.qs_node_step.specs.declared.state.OpenCommand.{OpenCommand}
use Rattle.qs_world.specs.Moves.{command_of}
use Rattle.qs_world_runs.specs.Deeds.{Deeds, IsStill, doings_in, noted, traced}
use Rattle.qs_world_runs.specs.Traces as traces
use Rattle.qs_world_runs.specs.Traces.{answered, entered, fresh_command, member_at, sent, with_issued, with_line, with_queues}

-- a message that is neither a request nor a reply
abbrev pub IsPlain : Message → Type 0
IsPlain (messages.Request tid label member number issuer op) = ⊥
IsPlain (messages.Answered tid member number reply) = ⊥
IsPlain message = ⊤

-- the first that waits at a server is served, which is noted; and a loan is made where it lends
abbrev pub served : ServerNo → Delivery → Reply → Deeds → Deeds
served server delivery reply d = noted delivery.tid (λ doings. record doings { served = true })
    (traced (λ t. entered (acts.Serve delivery.tid (member_at t server) delivery.from delivery.number reply) (with_queues (ipc.after_next server t.queues) t)) d)

abbrev pub lent : Tid → Option ClientNo → Deeds → Deeds
lent tid None d = d
lent tid (Some client) d = traced (entered (acts.Loan tid client)) d

-- ---- what all that a rule does keeps

pub record IsKeptFirst (P : Deeds → Type 0) : Type 0 where
  pub enters : (d : Deeds) (act : Act) → IsStill act → P d → P (traced (entered act) d)
  pub sends : (d : Deeds) (to : NodeNo) (message : Message) → IsPlain message → P d → P (traced (sent to message) d)

pub record IsKeptAt (P : Deeds → Type 0) : Type 0 where
  pub first : IsKeptFirst P
  pub closes : (d : Deeds) (client : ClientNo) (command : OpenCommand) (said : Answer) → lookup (is_at (client_cmp client)) d.trace.commands ≡ Some command → P d → P (traced (answered client command said) d)
  pub begins : (d : Deeds) (line : ScriptLine) (tid : Tid) → lookup (is_at (client_cmp line.client)) d.trace.commands ≡ Some (fresh_command line) → line.command ≡ commands.Begin → P d
      → P (traced (λ t. answered line.client (fresh_command line) answers.Done (entered (acts.Begin tid line.label line.client) (traces.noted (record { label = line.label; tid = Some tid; owner = Some line.client }) t))) d)
  pub refuses : (d : Deeds) (line : ScriptLine) → P d → P (traced (traces.noted (record { label = line.label; tid = None; owner = Some line.client })) d)
  pub marks : (d : Deeds) (client : ClientNo) (issued : Issued) → P d → P (traced (with_issued client issued) d)
  pub issues : (d : Deeds) (tid : Tid) (issuer : ServerNo) (member : Member) (number : ℕ) (op : Op) → P d → P (traced (λ t. entered (acts.Issue tid (member_at t issuer) member number op) t) d)
  pub asks : (d : Deeds) (tid : Tid) (label : List ℕ) (issuer : ServerNo) (member : Member) (number : ℕ) (op : Op) → same_node member.node d.trace.setting.node ≡ false → P d
      → P (traced (λ t. sent member.node (messages.Request tid label member number issuer op) (entered (acts.Issue tid (member_at t issuer) member number op) t)) d)
  pub queues : (d : Deeds) (server : ServerNo) (delivery : Delivery) → delivery.from ≡ d.trace.setting.node → P d → P (traced (λ t. with_queues (ipc.enqueue server delivery t.queues) t) d)
  pub leaves : (d : Deeds) (server : ServerNo) → P d → P (traced (λ t. with_queues (ipc.after_next server t.queues) t) d)
  pub forgets : (d : Deeds) (tid : Tid) → P d → P (traced (λ t. with_queues (drop_counts tid t.queues) t) d)
  -- the first that waits is served, with a reply to another node or without one
  pub serves : (d : Deeds) (server : ServerNo) (delivery : Delivery) (reply : Reply) (borrower : Option ClientNo) → ipc.next server d.trace.queues ≡ Some delivery → P d → P (lent delivery.tid borrower (served server delivery reply d))
  pub replies : (d : Deeds) (server : ServerNo) (delivery : Delivery) (reply : Reply) (borrower : Option ClientNo) → ipc.next server d.trace.queues ≡ Some delivery → same_node delivery.from d.trace.setting.node ≡ false → delivery.stale ≡ false → P d
      → P (traced (sent delivery.from (messages.Answered delivery.tid (member_at d.trace server) delivery.number reply)) (lent delivery.tid borrower (served server delivery reply d)))
  -- and what is noted
  pub commit_asked : (d : Deeds) (tid : Tid) → P d → P (noted tid (λ doings. record doings { asked = true }) (traced (entered (acts.Ask tid)) d))
  pub votes : (d : Deeds) (tid : Tid) (member : Member) (ballot : Vote) (covers : ℕ) → is_put_off (doings_in tid d) ≡ false → P d → P (noted tid (λ doings. record doings { voted = true }) (traced (entered (acts.Vote tid member ballot covers)) d))
  pub prepares : (d : Deeds) (tid : Tid) → P d → P (noted tid (λ doings. record doings { prepared = true }) d)
  pub yields : (d : Deeds) (tid : Tid) (client : ClientNo) → P d → P (noted tid (λ doings. record doings { yielded = true }) (traced (entered (acts.Yield tid client)) d))
  pub decides : (d : Deeds) (tid : Tid) (outcome : Outcome) (cause : Option Cause) → (outcome ≡ outcomes.Commit → is_quiet (doings_in tid d) ≡ true) → P d → P (traced (entered (acts.Decide tid outcome cause)) d)

-- another node restarted
abbrev pub IsNotice : Event → Type 0
IsNotice (events.PeerRestarted peer old new) = ⊤
IsNotice event = ⊥

-- and what comes in the step
pub record TakesInAt (event : Event) (P Q : Deeds → Type 0) : Type 0 where
  pub lets : (d : Deeds) → (IsNotice event → ⊥) → P d → Q d
  pub comes : (d : Deeds) (line : ScriptLine) → event ≡ command_of line → P d → Q (traced (with_line line) d)
  pub learns : (d : Deeds) (peer : NodeNo) (tid : Tid) (label : List ℕ) (member : Member) (number : ℕ) (issuer : ServerNo) (op : Op) → event ≡ events.Received peer (messages.Request tid label member number issuer op) → P d
      → P (traced (traces.noted (record { label = label; tid = Some tid; owner = None })) d)
  pub takes : (d : Deeds) (peer : NodeNo) (tid : Tid) (label : List ℕ) (member : Member) (number : ℕ) (issuer : ServerNo) (op : Op) → event ≡ events.Received peer (messages.Request tid label member number issuer op) → P d
      → Q (traced (λ t. with_queues (ipc.enqueue member.server (record { tid = tid; from = peer; number = number; op = op; stale = false }) t.queues) t) d)
  pub notices : (d : Deeds) (peer : NodeNo) (old new : ℕ) → event ≡ events.PeerRestarted peer old new → P d → Q (traced (λ t. with_queues (ipc.mark_queues peer t.queues) t) d)
