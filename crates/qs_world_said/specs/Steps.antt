-- A whole step of a node keeps to the rules of clients, where at each of its stages is known what is known there: as what comes has come, before each serve, before each home's abort
-- by a cause that it has, and before each command that stayed open is looked at again.
use Rattle.std.specs.Prelude.{◌≡◌, ⊤, ℕ, true, List, ◌∷◌, None, Some}
use Rattle.qs_base.specs.declared.identifiers.ClientNo.{ClientNo}
use Rattle.qs_base.specs.declared.identifiers.Member.{Member}
use Rattle.qs_base.specs.declared.identifiers.ServerNo.{ServerNo}
use Rattle.qs_base.specs.declared.identifiers.Tid.{Tid}
use Rattle.qs_engage.specs.Nodes.{same_node}
use Rattle.qs_ipc.specs.Ipc as ipc
use Rattle.qs_ipc.specs.declared.delivery.Delivery.{Delivery}
use Rattle.qs_ops.specs.declared.answer.Cause.{Cause}
use Rattle.qs_ops.specs.declared.reply.Reply.{Reply}
use Rattle.qs_book_journal.specs.declared.script_line.Command.TheVariants as commands
use Rattle.qs_book_journal.specs.declared.script_line.ScriptLine.{ScriptLine}
use Rattle.qs_book_conformance.specs.Course.{CourseValue}
use Rattle.qs_node_servers.specs.Servers.{client_of}
use Rattle.qs_node_step.specs.Bringing.{member_here}
use Rattle.qs_node_step.specs.Requests.{is_issued_as}
use Rattle.qs_node_step.specs.Serving.{label_at, lent_to, serve_next}
use Rattle.qs_node_step.specs.Settling.{due_tids, pass_rule, ready_rule, settle, settle_tid, try}
use Rattle.qs_node_step.specs.State.{NodeValue, Work, here}
use Rattle.qs_node_step.specs.Step.{after_step, wait_on, waiting_clients}
use Rattle.qs_node_step.specs.declared.event.Event.{Event}
use Rattle.qs_node_step.specs.declared.event.Event.TheVariants as events
use Rattle.qs_node_step.specs.declared.state.Issued.{Issued}
use Rattle.qs_node_step.specs.declared.state.OpenCommand.{OpenCommand}
use Rattle.qs_packet.specs.declared.message.Message.{Message}
use Rattle.qs_packet.specs.declared.message.Message.TheVariants as messages
use Rattle.qs_tm.specs.declared.participant.Outstanding.{Outstanding}
use Rattle.qs_tm.specs.declared.participant.Participant.{Participant}
use Rattle.qs_world_course.specs.Kinds.{Keeps, course_on, said}
use Rattle.qs_world_lawful.specs.GivenStep.{first_work}
use Rattle.qs_world_lawful.specs.StepKeeps.{entered_by}
use Rattle.qs_world_lawful.specs.StepOn.{StepOn}
use Rattle.qs_world_walk.specs.Deed.{did, served}
use Rattle.qs_world_walk.specs.Deed as d
use Rattle.qs_world_walk.specs.May.{InHand, IsOpen, MayServe}
use Rattle.qs_world_walk.specs.Walked.{AtEach, done_work}
use Rattle.qs_world_said.specs.Amid.{AreAmid, clients_at}
use Rattle.qs_world_said.specs.Deeds.{IsFound, course}
use Rattle.qs_world_said.specs.Knows.{ComesFirst, IsNewLabel, KnowsAtStage, KnowsNames, KnowsReply, KnowsRoom, SitsHere}

-- what each stage is known by
abbrev pub Known : Type 1
Known = CourseValue → NodeValue → Type 0

module _ (K : Known) (stamp : ℕ) (before : CourseValue) where
  abbrev pub KnownAt : Work → Type 0
  KnownAt work = K (course stamp before work) work.node

  -- a line comes; where it begins, its label is new
  pub record KnowsComing (work : Work) (line : ScriptLine) : Type 0 where
    pub first : ComesFirst (course stamp before work) work.node line
    pub knows : KnownAt (did (d.Opens line) work)
    pub new : line.command ≡ commands.Begin → IsNewLabel (course stamp before (did (d.Opens line) work)) (did (d.Opens line) work).node line.label
    pub room : KnowsRoom (course stamp before (did (d.Opens line) work)) (did (d.Opens line) work).node

  -- a reply: it was given to whichever command it is for
  pub record KnowsReplying (work : Work) (tid : Tid) (member : Member) (number : ℕ) (reply : Reply) : Type 0 where
    pub knows : KnownAt work
    pub gave : (request : Outstanding) (command : OpenCommand) (issued : Issued) → InHand (client_of request.issuer) command work → command.issued ≡ Some issued → is_issued_as tid request.member request.number issued ≡ true
        → KnowsReply (course stamp before work) work.node (client_of request.issuer) command issued reply

  pub record KnowsServe (work : Work) (server : ServerNo) (delivery : Delivery) (reply : Reply) : Type 0 where
    pub knows : KnownAt work
    pub sits : SitsHere (course stamp before work) work.node (lent_to delivery.op)
    pub replies : same_node delivery.from (here work) ≡ true → KnowsReplying (served server delivery reply work) delivery.tid (member_here work server) delivery.number reply

  abbrev pub KnowsServing : Work → ServerNo → Type 0
  KnowsServing work server = (delivery : Delivery) (reply : Reply) → MayServe server delivery reply work → KnowsServe work server delivery reply

  -- what comes
  abbrev pub KnowsMessage : Work → Message → Type 0
  KnowsMessage work (messages.Request tid label member number issuer op) = label_at label work.node ≡ None → IsNewLabel (course stamp before work) work.node label
  KnowsMessage work (messages.Answered tid member number reply) = KnowsReplying work tid member number reply
  KnowsMessage work message = ⊤

  abbrev pub KnowsEvent : Event → Work → Type 0
  KnowsEvent (events.Command client line label command) work = KnowsComing work (record { client = client; line = line; label = label; command = command })
  KnowsEvent (events.Received peer message) work = KnowsMessage work message
  KnowsEvent events.ServeAll work = AtEach KnowsServing serve_next work (ipc.turns work.node.queues)
  KnowsEvent (events.PeerRestarted peer old new) work = ⊤
  KnowsEvent events.Tick work = work.node.setting.age ≡ None

  -- and of each command that stayed open
  pub record KnowsStep (node : NodeValue) (event : Event) (free : ℕ) : Type 0 where
    pub comes : KnowsEvent event (first_work node free)
    pub waits : AtEach (λ (work : Work) (client : ClientNo). KnownAt work) wait_on (settle (done_work node event free)) (waiting_clients (settle (done_work node event free)))

-- the causes of a home are votes, nodes that are gone, and room
abbrev pub HasFound : Work → Tid → Type 0
HasFound work tid = (part : Participant) (cause : Cause) (more : List Cause) → IsOpen tid part work → part.engage.home ≡ true → part.causes ≡ cause ∷ more → IsFound cause

abbrev pub FindsCauses : NodeValue → Event → ℕ → Type 0
FindsCauses node event free = AtEach (λ (work : Work) (tid : Tid). HasFound (try tid ready_rule (try tid pass_rule work)) tid) settle_tid (done_work node event free) (due_tids (done_work node event free))

-- what the step enters breaks no rule of clients, and then the course has of clients what their node has for them
pub record StepSaid (stamp : ℕ) (before : CourseValue) (node : NodeValue) (event : Event) (free : ℕ) : Type 0 where
  pub keeps : Keeps said before (entered_by stamp node event free)
  pub on : AreAmid (course_on before (entered_by stamp node event free)) (clients_at (after_step node event free)) None

abbrev pub StepKeepsSaid : Type 0
StepKeepsSaid = (stamp : ℕ) (before : CourseValue) (node : NodeValue) (event : Event) (free : ℕ) → KnowsStep KnowsAtStage stamp before node event free → FindsCauses node event free → AreAmid before (clients_at node) None
    → StepSaid stamp before node event free

-- a step of a node of a run is lawful at each stage, so the names alone have to be known
abbrev pub LawfulStepKeepsSaid : Type 0
LawfulStepKeepsSaid = (stamp : ℕ) (before : CourseValue) (size : ℕ) (nodes : ℕ → NodeValue) (n : ℕ) (node : NodeValue) (event : Event) (free : ℕ) → StepOn stamp before.book size nodes n node event free
    → KnowsStep KnowsNames stamp before node event free → AreAmid before (clients_at node) None → StepSaid stamp before node event free
