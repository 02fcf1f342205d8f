-- What is issued and voted in a step of a node finds what it needs, but for requests that it would cross: a request fits, and goes to a node that it
-- reaches, and a vote is for commit. Else the transaction is doomed.
use Rattle.std.specs.Prelude.{◌≡◌, ◌⊎◌, ℕ, ◌<◌, List, ⊤, true, false, None, Some}
use Rattle.std.specs.BTreeMap.{is_at}
use Rattle.std.specs.Map.{lookup}
use Rattle.qs_base.specs.declared.identifiers.ClientNo.{ClientNo}
use Rattle.qs_base.specs.declared.identifiers.Member.{Member}
use Rattle.qs_base.specs.declared.identifiers.NodeNo.{NodeNo}
use Rattle.qs_base.specs.declared.identifiers.ServerNo.{ServerNo}
use Rattle.qs_base.specs.declared.identifiers.Tid.{Tid}
use Rattle.qs_engage.specs.Nodes.{same_node}
use Rattle.qs_ipc.specs.Queue.{is_for}
use Rattle.qs_book_journal.specs.declared.script_line.Command.{Command}
use Rattle.qs_book_journal.specs.declared.script_line.Command.TheVariants as commands
use Rattle.qs_node_kept.specs.declared.kept.KeptLabel.{KeptLabel}
use Rattle.qs_ops.specs.Server.{vote_of}
use Rattle.qs_ops.specs.declared.operation.Op.{Op}
use Rattle.qs_node_servers.specs.Servers.{client_server, server_at}
use Rattle.qs_node_step.specs.Bringing.{is_other}
use Rattle.qs_node_step.specs.Commands.{with_issued}
use Rattle.qs_node_step.specs.Deciding.{end_members}
use Rattle.qs_node_step.specs.Requests.{next_number}
use Rattle.qs_node_step.specs.Serving.{label_at}
use Rattle.qs_node_step.specs.Settling.{due_tids, is_pass_due, settle, settle_tid}
use Rattle.qs_node_step.specs.State.{Work, client_cmp, here, part_of}
use Rattle.qs_node_step.specs.Step.{wait_on, waiting_clients, with_command}
use Rattle.qs_node_step.specs.Voting.{due_votes, owes_note, vote_frame, vote_next}
use Rattle.qs_node_step.specs.declared.event.Event.{Event}
use Rattle.qs_node_step.specs.declared.event.Event.TheVariants as events
use Rattle.qs_node_step.specs.declared.state.OpenCommand.{OpenCommand}
use Rattle.qs_tm.specs.declared.participant.Outstanding.{Outstanding}
use Rattle.qs_tm.specs.declared.participant.Participant.{Participant}
use Rattle.qs_world.specs.Moves.{Source, Step, moved, taken_by}
use Rattle.qs_world.specs.World.{Opening, World}
use Rattle.qs_world_agree.specs.World as machine
use Rattle.qs_world_agree.specs.Carry.{Leads}
use Rattle.qs_world_agree.specs.Doomed.{IsDoomed}
use Rattle.qs_world_walk.specs.Walked.{AtEach, done_work}
use Rattle.qs_world_refine.specs.Begun.{has_begun}
use Rattle.qs_world_refine.specs.EachMove.{ShowsAll}
use Rattle.qs_world_lawful.specs.GivenStep.{first_work}
use Rattle.qs_world_runs.specs.Agrees.{MakesStep}
use Rattle.qs_world_runs.specs.Joined.{Joined}
use Rattle.qs_world_runs.specs.JoinedPlaces.{PlacesAt}
use Rattle.qs_world_runs.specs.Placed.{Field, field_of}
use Rattle.qs_world_runs.specs.PlacedActs.{is_against}
use Rattle.qs_world_runs.specs.PlacesEnds.{taken}
use Rattle.qs_world_runs.specs.PlacesGo.{IsObeyed, MayGoYet, note_op, note_request}
use Rattle.qs_world_runs.specs.PlacesRules.{Reaches}
use Rattle.qs_world_runs.specs.PlacesTurns.{IsReadyAt, ShownAt}

-- ---- at each stage

-- a request is one of its member's, and goes to a node of the run, which it reaches
pub record IssueFinds (base : Field) (knows : ℕ → ℕ) (request : Outstanding) (op : Op) (work : Work) : Type 0 where
  pub fits : is_for request.member.server op ≡ true
  pub in_run : request.member.node.0 < base.size
  pub reaches : same_node request.member.node (here work) ≡ false → (is_other work.node.setting request.member.node ≡ true) × Reaches base knows request.member.node.0

-- of the request that a command of a client issues for it, once the command is noted as issued
abbrev pub AtCommand : Tid → ClientNo → List ℕ → Command → (Outstanding → Op → Work → Type 0) → Work → Type 0
AtCommand t client label command P work = (begun : KeptLabel) (member : Member) (op : Op) (number : ℕ) → label_at label work.node ≡ Some begun → begun.tid ≡ Some t → IsObeyed t client begun work → command ≡ commands.Request member op
    → next_number t member.node work ≡ Some number
    → P (record { issuer = client_server client; member = member; number = number; count = 0 }) op (with_issued client (record { tid = t; member = member; number = number }) work)

abbrev pub CommandFinds : Type 0 → Tid → Field → (ℕ → ℕ) → ClientNo → List ℕ → Command → Work → Type 0
CommandFinds D t base knows client label command work = AtCommand t client label command (λ request op work. D ⊎ IssueFinds base knows request op work) work

-- of the note that a server owes at its turn
abbrev pub AtNote : Tid → (Outstanding → Op → Work → Type 0) → Work → ServerNo → Type 0
AtNote t P work server = owes_note t server work ≡ true → (node : NodeNo) (number : ℕ) → work.node.setting.audit ≡ Some node → next_number t node work ≡ Some number → P (note_request t node number work) (note_op t work) work

pub record VoteFinds (D : Type 0) (t : Tid) (base : Field) (knows : ℕ → ℕ) (work : Work) (server : ServerNo) : Type 0 where
  pub notes : AtNote t (λ request op work. D ⊎ IssueFinds base knows request op work) work server
  pub votes : owes_note t server work ≡ false → D ⊎ (is_against (vote_of (server_at work.node.servers server) t work.room (vote_frame work)) ≡ false)

-- where its own pass is due
abbrev pub PassFinds : Type 0 → Tid → Field → (ℕ → ℕ) → Work → Type 0
PassFinds D t base knows work = (part : Participant) → part_of t work ≡ Some part → part.outcome ≡ None → is_pass_due t part work ≡ true → AtEach (VoteFinds D t base knows) (vote_next t) (end_members t work) (due_votes t work)

-- a command that stayed open
abbrev pub WaitFinds : Type 0 → Tid → Field → (ℕ → ℕ) → Work → ClientNo → Type 0
WaitFinds D t base knows work client = (command : OpenCommand) → lookup (is_at (client_cmp client)) work.node.commands ≡ Some command → MayGoYet client command work → CommandFinds D t base knows client command.line.label command.line.command work

-- ---- the whole step

-- as a command comes
abbrev pub ComesFinds : Type 0 → Tid → World → ℕ → Event → Work → Type 0
ComesFinds D t world n (events.Command client line label command) work = CommandFinds D t (field_of world) (world.channels.peer n) client label command (with_command (record { client = client; line = line; label = label; command = command }) work)
ComesFinds D t world n event work = ⊤

pub record StepFinds (D : Type 0) (t : Tid) (world : World) (n free : ℕ) (source : Source) (event : Event) : Type 0 where
  pub comes : ComesFinds D t world n event (first_work (world.hosts n).node free)
  pub settles : AtEach (λ (work : Work) (tid : Tid). tid ≡ t → PassFinds D t (field_of (taken world n source)) ((taken_by world n source).peer n) work) settle_tid (done_work (world.hosts n).node event free) (due_tids (done_work (world.hosts n).node event free))
  pub waits : AtEach (WaitFinds D t (field_of (taken world n source)) ((taken_by world n source).peer n)) wait_on (settle (done_work (world.hosts n).node event free)) (waiting_clients (settle (done_work (world.hosts n).node event free)))

-- what shows it before the step leads to what shows it once what came is done, and that to what shows it after the step, where all of this was found
pub record StepFound (t : Tid) (world : World) (n stamp free : ℕ) (source : Source) (event : Event) (w : machine.World) : Type 0 where
  pub done : ShownAt world n source t w (done_work (world.hosts n).node event free)
  pub next : machine.World
  pub leads : Leads done.now next
  pub shows : ShowsAll t (moved (Step n stamp free source) world) next
  pub finds : StepFinds (IsDoomed next) t world n free source event

abbrev pub StepsFind : Type 0
StepsFind = (t : Tid) (o : Opening) (world : World) (n stamp free : ℕ) (source : Source) (event : Event) (w : machine.World) → Joined PlacesAt o world → MakesStep world n stamp source event → has_begun world t ≡ true → ShowsAll t world w
    → StepFound t world n stamp free source event w

-- ---- a home that is ready to commit found all of it without doom: whatever it issued or voted against would keep it from being ready

abbrev pub FoundAtTurn : World → ℕ → ℕ → Source → Event → Work → Tid → Type 0
FoundAtTurn world n free source event work tid = IsReadyAt work tid → (v : machine.World)
    → ComesFinds (IsDoomed v) tid world n event (first_work (world.hosts n).node free) × PassFinds (IsDoomed v) tid (field_of (taken world n source)) ((taken_by world n source).peer n) work

abbrev pub TurnsFind : Type 0
TurnsFind = (o : Opening) (world : World) (n stamp free : ℕ) (source : Source) (event : Event) → Joined PlacesAt o world → MakesStep world n stamp source event
    → AtEach (FoundAtTurn world n free source event) settle_tid (done_work (world.hosts n).node event free) (due_tids (done_work (world.hosts n).node event free))
