-- A trace together with what a step noted of what it did for each transaction. Where a rule notes something it says so here; a home commits
-- only where nothing was noted that forbids it, and servers vote only where nothing was noted that puts it off.
use Rattle.std.specs.Prelude.{◌≡◌, ℕ, ⊤, true, false, List, Option, Some, unwrap_or, None}
use Rattle.std.specs.BTreeMap.{insert_entry, is_at}
use Rattle.std.specs.Map.{lookup}
use Rattle.qs_base.specs.Order.{tid_cmp}
use Rattle.qs_base.specs.declared.identifiers.ClientNo.{ClientNo}
use Rattle.qs_base.specs.declared.identifiers.Member.{Member}
use Rattle.qs_base.specs.declared.identifiers.NodeNo.{NodeNo}
use Rattle.qs_base.specs.declared.identifiers.Outcome.{Outcome}
use Rattle.qs_base.specs.declared.identifiers.Outcome.TheVariants as outcomes
use Rattle.qs_base.specs.declared.identifiers.ServerNo.{ServerNo}
use Rattle.qs_base.specs.declared.identifiers.Tid.{Tid}
use Rattle.qs_engage.specs.Nodes.{same_node}
use Rattle.qs_ipc.specs.Ipc as ipc
use Rattle.qs_ipc.specs.declared.delivery.Delivery.{Delivery}
use Rattle.qs_book_journal.specs.declared.entry.Act.{Act}
use Rattle.qs_book_journal.specs.declared.entry.Act.TheVariants as acts
use Rattle.qs_book_journal.specs.declared.script_line.Command.TheVariants as commands
use Rattle.qs_book_journal.specs.declared.script_line.ScriptLine.{ScriptLine}
use Rattle.qs_ops.specs.declared.answer.Answer.{Answer}
use Rattle.qs_ops.specs.declared.answer.Answer.TheVariants as answers
use Rattle.qs_ops.specs.declared.answer.Cause.{Cause}
use Rattle.qs_ops.specs.declared.operation.Op.{Op}
use Rattle.qs_ops.specs.declared.reply.Reply.{Reply}
use Rattle.qs_ops.specs.declared.vote.Vote.{Vote}
use Rattle.qs_packet.specs.declared.message.Message.{Message}
use Rattle.qs_packet.specs.declared.message.Message.TheVariants as messages
use Rattle.qs_node_step.specs.Settling.{is_put_off, is_quiet}
use Rattle.qs_node_step.specs.State.{Work, client_cmp, no_doings}
use Rattle.qs_node_step.specs.Telling.{drop_counts}
use Rattle.qs_node_step.specs.declared.event.Event.{Event}
use Rattle.qs_node_step.specs.declared.event.Event.TheVariants as events
use Rattle.qs_node_step.specs.declared.state.Doings.{Doings}
use Rattle.qs_node_step.specs.declared.state.Issued.{Issued}
use Rattle.qs_node_step.specs.declared.state.OpenCommand.{OpenCommand}
use Rattle.qs_world.specs.Moves.{command_of}
use Rattle.qs_world_runs.specs.Traces as traces
use Rattle.qs_world_runs.specs.Traces.{AsksNothing, Trace, answered, entered, fresh_command, member_at, sent, trace_of, with_issued, with_line, with_queues}

pub record Deeds : Type 0 where
  pub trace : Trace
  pub doings : List (Tid × Doings)

abbrev pub deeds_of : Work → Deeds
deeds_of work = record { trace = trace_of work; doings = work.doings }

abbrev pub doings_in : Tid → Deeds → Doings
doings_in tid d = unwrap_or (lookup (is_at (tid_cmp tid)) d.doings) no_doings

abbrev pub traced : (Trace → Trace) → Deeds → Deeds
traced f d = record d { trace = f d.trace }

abbrev pub noted : Tid → (Doings → Doings) → Deeds → Deeds
noted tid f d = record d { doings = insert_entry tid_cmp d.doings tid (f (doings_in tid d)) }

-- an entry with which nothing is noted: none of a beginning, an issue or an answer, nor of what follows
abbrev pub IsStill : Act → Type 0
IsStill (acts.Begin tid label client) = ⊥
IsStill (acts.Issue tid issuer member number op) = ⊥
IsStill (acts.Serve tid member from number reply) = ⊥
IsStill (acts.Answer client line said) = ⊥
IsStill (acts.Crash cause) = ⊥
IsStill (acts.Restart inc pend done) = ⊥
IsStill (acts.Ask tid) = ⊥
IsStill (acts.Vote tid member ballot covers) = ⊥
IsStill (acts.Loan tid client) = ⊥
IsStill (acts.Yield tid client) = ⊥
IsStill (acts.Decide tid outcome cause) = ⊥
IsStill act = ⊤

-- ---- what all that a rule does keeps

pub record IsKeptSo (P : Deeds → Type 0) : Type 0 where
  pub enters : (d : Deeds) (act : Act) → IsStill act → P d → P (traced (entered act) d)
  pub sends : (d : Deeds) (to : NodeNo) (message : Message) → AsksNothing message → P d → P (traced (sent to message) d)
  pub closes : (d : Deeds) (client : ClientNo) (command : OpenCommand) (said : Answer) → lookup (is_at (client_cmp client)) d.trace.commands ≡ Some command → P d → P (traced (answered client command said) d)
  pub begins : (d : Deeds) (line : ScriptLine) (tid : Tid) → lookup (is_at (client_cmp line.client)) d.trace.commands ≡ Some (fresh_command line) → line.command ≡ commands.Begin → P d
      → P (traced (λ t. answered line.client (fresh_command line) answers.Done (entered (acts.Begin tid line.label line.client) (traces.noted (record { label = line.label; tid = Some tid; owner = Some line.client }) t))) d)
  pub refuses : (d : Deeds) (line : ScriptLine) → P d → P (traced (traces.noted (record { label = line.label; tid = None; owner = Some line.client })) d)
  pub marks : (d : Deeds) (client : ClientNo) (issued : Issued) → P d → P (traced (with_issued client issued) d)
  pub issues : (d : Deeds) (tid : Tid) (issuer : ServerNo) (member : Member) (number : ℕ) (op : Op) → P d → P (traced (λ t. entered (acts.Issue tid (member_at t issuer) member number op) t) d)
  pub asks : (d : Deeds) (tid : Tid) (label : List ℕ) (issuer : ServerNo) (member : Member) (number : ℕ) (op : Op) → same_node member.node d.trace.setting.node ≡ false → P d
      → P (traced (λ t. sent member.node (messages.Request tid label member number issuer op) (entered (acts.Issue tid (member_at t issuer) member number op) t)) d)
  pub queues : (d : Deeds) (server : ServerNo) (delivery : Delivery) → delivery.from ≡ d.trace.setting.node → P d → P (traced (λ t. with_queues (ipc.enqueue server delivery t.queues) t) d)
  pub leaves : (d : Deeds) (server : ServerNo) → P d → P (traced (λ t. with_queues (ipc.after_next server t.queues) t) d)
  pub forgets : (d : Deeds) (tid : Tid) → P d → P (traced (λ t. with_queues (drop_counts tid t.queues) t) d)
  pub stales : (d : Deeds) (peer : NodeNo) → P d → P (traced (λ t. with_queues (ipc.mark_queues peer t.queues) t) d)
  -- and what is noted
  pub serves : (d : Deeds) (server : ServerNo) (delivery : Delivery) (reply : Reply) → ipc.next server d.trace.queues ≡ Some delivery → P d
      → P (noted delivery.tid (λ doings. record doings { served = true })
      (traced (λ t. entered (acts.Serve delivery.tid (member_at t server) delivery.from delivery.number reply) (with_queues (ipc.after_next server t.queues) t)) d))
  pub lends : (d : Deeds) (tid : Tid) (client : ClientNo) → (doings_in tid d).served ≡ true → P d → P (traced (entered (acts.Loan tid client)) d)
  pub commit_asked : (d : Deeds) (tid : Tid) → P d → P (noted tid (λ doings. record doings { asked = true }) (traced (entered (acts.Ask tid)) d))
  pub votes : (d : Deeds) (tid : Tid) (member : Member) (ballot : Vote) (covers : ℕ) → is_put_off (doings_in tid d) ≡ false → P d → P (noted tid (λ doings. record doings { voted = true }) (traced (entered (acts.Vote tid member ballot covers)) d))
  pub prepares : (d : Deeds) (tid : Tid) → P d → P (noted tid (λ doings. record doings { prepared = true }) d)
  pub yields : (d : Deeds) (tid : Tid) (client : ClientNo) → P d → P (noted tid (λ doings. record doings { yielded = true }) (traced (entered (acts.Yield tid client)) d))
  pub decides : (d : Deeds) (tid : Tid) (outcome : Outcome) (cause : Option Cause) → (outcome ≡ outcomes.Commit → is_quiet (doings_in tid d) ≡ true) → P d → P (traced (entered (acts.Decide tid outcome cause)) d)

-- and what comes in the step
pub record TakesInSo (event : Event) (P Q : Deeds → Type 0) : Type 0 where
  pub lets : (d : Deeds) → P d → Q d
  pub comes : (d : Deeds) (line : ScriptLine) → event ≡ command_of line → P d → Q (traced (with_line line) d)
  pub learns : (d : Deeds) (peer : NodeNo) (tid : Tid) (label : List ℕ) (member : Member) (number : ℕ) (issuer : ServerNo) (op : Op) → event ≡ events.Received peer (messages.Request tid label member number issuer op) → P d
      → P (traced (traces.noted (record { label = label; tid = Some tid; owner = None })) d)
  pub takes : (d : Deeds) (peer : NodeNo) (tid : Tid) (label : List ℕ) (member : Member) (number : ℕ) (issuer : ServerNo) (op : Op) → event ≡ events.Received peer (messages.Request tid label member number issuer op) → P d
      → Q (traced (λ t. with_queues (ipc.enqueue member.server (record { tid = tid; from = peer; number = number; op = op; stale = false }) t.queues) t) d)
