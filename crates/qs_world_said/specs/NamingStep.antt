-- What is known of names at the stages of a step of a node of a run; and names stand after it.
use Rattle.std.specs.Prelude.{◌≡◌, ⊤, ℕ, true, false, List, None, Some, slice_get}
use Rattle.qs_base.specs.declared.identifiers.ClientNo.{ClientNo}
use Rattle.qs_base.specs.declared.identifiers.Member.{Member}
use Rattle.qs_base.specs.declared.identifiers.ServerNo.{ServerNo}
use Rattle.qs_base.specs.declared.identifiers.Tid.{Tid}
use Rattle.qs_engage.specs.Nodes.{same_node}
use Rattle.qs_ipc.specs.Ipc as ipc
use Rattle.qs_ipc.specs.declared.delivery.Delivery.{Delivery}
use Rattle.qs_ops.specs.declared.reply.Reply.{Reply}
use Rattle.qs_book_journal.specs.declared.script_line.Command.TheVariants as commands
use Rattle.qs_book_journal.specs.declared.script_line.ScriptLine.{ScriptLine}
use Rattle.qs_book_machine.specs.Lawful.{IsLawful}
use Rattle.qs_book_conformance.specs.Answers.{is_refused}
use Rattle.qs_book_conformance.specs.Course.{ClientValue, CourseValue}
use Rattle.qs_node_servers.specs.Servers.{client_of}
use Rattle.qs_node_step.specs.Bringing.{member_here}
use Rattle.qs_node_step.specs.Requests.{is_issued_as}
use Rattle.qs_node_step.specs.Serving.{label_at, lent_to, serve_next}
use Rattle.qs_node_step.specs.State.{NodeValue, Work, here}
use Rattle.qs_node_step.specs.Step.{after_step}
use Rattle.qs_node_step.specs.declared.event.Event.{Event}
use Rattle.qs_node_step.specs.declared.event.Event.TheVariants as events
use Rattle.qs_node_step.specs.declared.state.Issued.{Issued}
use Rattle.qs_node_step.specs.declared.state.OpenCommand.{OpenCommand}
use Rattle.qs_packet.specs.declared.message.Message.{Message}
use Rattle.qs_packet.specs.declared.message.Message.TheVariants as messages
use Rattle.qs_tm.specs.declared.participant.Outstanding.{Outstanding}
use Rattle.qs_world_course.specs.Kinds.{course_on}
use Rattle.qs_world_lawful.specs.Amid.{InRun}
use Rattle.qs_world_lawful.specs.GivenStep.{first_work}
use Rattle.qs_world_lawful.specs.StepKeeps.{entered_by}
use Rattle.qs_world_lawful.specs.StepOn.{StepOn}
use Rattle.qs_world_walk.specs.Deed.{served}
use Rattle.qs_world_walk.specs.May.{InHand, MayServe}
use Rattle.qs_world_walk.specs.Walked.{AtEach}
use Rattle.qs_world_said.specs.Deeds.{course}
use Rattle.qs_world_said.specs.Hands.{ComesAs, Owns}
use Rattle.qs_world_said.specs.Knows.{ComesFirst, KnowsNames, KnowsReply, SitsHere}
use Rattle.qs_world_said.specs.Labels.{TellsItsLabel}
use Rattle.qs_world_said.specs.Naming.{NamesStand}
use Rattle.qs_world_said.specs.Steps.{KnowsStep}

-- ---- what comes, and what is served: what hangs on more than this node

module _ (stamp : ℕ) (before : CourseValue) where
  -- no begin of the label was refused
  abbrev pub IsUnrefused : Work → List ℕ → Type 0
  IsUnrefused work label = (client : ClientNo) (state : ClientValue) → slice_get (course stamp before work).clients client.0 ≡ Some state → is_refused state label ≡ false

  -- a reply was given to whichever command it is for
  abbrev pub IsGivenReply : Work → Tid → Member → ℕ → Reply → Type 0
  IsGivenReply work tid member number reply = (request : Outstanding) (command : OpenCommand) (issued : Issued) → InHand (client_of request.issuer) command work → command.issued ≡ Some issued
      → is_issued_as tid request.member request.number issued ≡ true → KnowsReply (course stamp before work) work.node (client_of request.issuer) command issued reply

  pub record IsGivenLine (work : Work) (line : ScriptLine) : Type 0 where
    pub first : ComesFirst (course stamp before work) work.node line
    pub unrefused : line.command ≡ commands.Begin → IsUnrefused work line.label

  pub record IsGivenServe (work : Work) (server : ServerNo) (delivery : Delivery) (reply : Reply) : Type 0 where
    pub sits : SitsHere (course stamp before work) work.node (lent_to delivery.op)
    pub replies : same_node delivery.from (here work) ≡ true → IsGivenReply (served server delivery reply work) delivery.tid (member_here work server) delivery.number reply

  abbrev pub IsGivenServing : Work → ServerNo → Type 0
  IsGivenServing work server = (delivery : Delivery) (reply : Reply) → MayServe server delivery reply work → IsGivenServe work server delivery reply

  abbrev pub IsGivenMessage : Work → Message → Type 0
  IsGivenMessage work (messages.Request tid label member number issuer op) = label_at label work.node ≡ None → IsUnrefused work label
  IsGivenMessage work (messages.Answered tid member number reply) = IsGivenReply work tid member number reply
  IsGivenMessage work message = ⊤

  abbrev pub IsGiven : Event → Work → Type 0
  IsGiven (events.Command client line label command) work = IsGivenLine work (record { client = client; line = line; label = label; command = command })
  IsGiven (events.Received peer message) work = IsGivenMessage work message
  IsGiven events.ServeAll work = AtEach IsGivenServing serve_next work (ipc.turns work.node.queues)
  IsGiven (events.PeerRestarted peer old new) work = ⊤
  IsGiven events.Tick work = work.node.setting.age ≡ None

abbrev pub NamesAreKnownAmid : Type 0
NamesAreKnownAmid = (own : Owns) (stamp : ℕ) (before : CourseValue) (size : ℕ) (nodes : ℕ → NodeValue) (n : ℕ) (node : NodeValue) (event : Event) (free : ℕ) → StepOn stamp before.book size nodes n node event free
    → ComesAs own node event → TellsItsLabel before.book event → NamesStand own before node → IsGiven stamp before event (first_work node free) → KnowsStep KnowsNames stamp before node event free

abbrev pub StepKeepsStanding : Type 0
StepKeepsStanding = (own : Owns) (stamp : ℕ) (before : CourseValue) (node : NodeValue) (event : Event) (free : ℕ) → InRun before.book → IsLawful before.book (entered_by stamp node event free) → ComesAs own node event → TellsItsLabel before.book event
    → NamesStand own before node → NamesStand own (course_on before (entered_by stamp node event free)) (after_step node event free)
