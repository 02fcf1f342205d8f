-- A whole step that leaves a sound node sound, and what that asks of what comes to it.
use Rattle.std.specs.Prelude.{◌≡◌, ℕ, ◌<◌, ◌≤◌, ◌||◌, ⊤, Bool, true, false, Some, nat_lt}
use Rattle.std.specs.List.{list_all}
use Rattle.qs_base.specs.declared.identifiers.ClientNo.{ClientNo}
use Rattle.qs_base.specs.declared.identifiers.NodeNo.{NodeNo}
use Rattle.qs_base.specs.declared.identifiers.Outcome.TheVariants as outcomes
use Rattle.qs_base.specs.declared.identifiers.Tid.{Tid}
use Rattle.qs_engage.specs.Engage.{peer_of}
use Rattle.qs_engage.specs.Nodes.{same_node}
use Rattle.qs_ipc.specs.Ipc as ipc
use Rattle.qs_packet.specs.declared.message.Message.{Message}
use Rattle.qs_packet.specs.declared.message.Message.TheVariants as messages
use Rattle.qs_tm.specs.Manager as tm
use Rattle.qs_tm.specs.Outcomes.{is_abort}
use Rattle.qs_tm.specs.Participant.{is_undecided}
use Rattle.qs_tm.specs.declared.participant.Participant.{Participant}
use Rattle.qs_node_step.specs.Restarts.{begin_incarnation}
use Rattle.qs_node_step.specs.Settling.{is_lent, settle}
use Rattle.qs_node_step.specs.State.{NodeValue, Work, part_of, work_on}
use Rattle.qs_node_step.specs.Step.{happen, answer_waiting, after_step}
use Rattle.qs_node_step.specs.declared.event.Event.{Event}
use Rattle.qs_node_step.specs.declared.event.Event.TheVariants as events
use Rattle.qs_node_step.specs.declared.state.OpenCommand.{OpenCommand}
use Rattle.qs_world_refine.specs.Links.{names_node, node_no}
use Rattle.qs_world_refine.specs.Sound.{is_sound, is_past, keeps_commits, keeps_owned, goes_in_run}
use Rattle.qs_world_refine.specs.SoundLaws.{StaysSound}

-- what answers for requests of an undecided transaction answers for one that was sent
abbrev pub AnswersFor : NodeNo → Tid → ℕ → Work → Type 0
AnswersFor peer tid up_to work = (part : Participant) → part_of tid work ≡ Some part → is_undecided part ≡ true → up_to ≤ (peer_of part.engage peer).sent

-- a message of that node
abbrev pub FitsMessage : NodeNo → Message → Work → Type 0
FitsMessage peer messages.Hello work = ⊤
FitsMessage peer (messages.Request tid label member number issuer op) work =
    (is_past work.node tid ≡ true) × (tm.told_of tid true (λ part. is_undecided part || is_abort part.outcome) work.node.manager ≡ true)
FitsMessage peer (messages.Answered tid member number reply) work = ⊤
FitsMessage peer (messages.AskVote tid) work = ⊤
FitsMessage peer (messages.Covered tid up_to) work = (tid.home.0 < 16) × AnswersFor peer tid up_to work
FitsMessage peer (messages.VotedYes tid up_to told) work =
    (tid.home.0 < 16) × (((k : ℕ) → names_node told (node_no k) ≡ true → nat_lt k work.node.setting.nodes ≡ true) × AnswersFor peer tid up_to work)
FitsMessage peer (messages.VotedAbort tid cause) work = ⊤
FitsMessage peer (messages.Tell tid outcome) work = outcome ≡ outcomes.Commit → (ipc.waits tid work.node.queues ≡ false) × (is_lent tid work.node ≡ false)
FitsMessage peer (messages.Told tid further) work = keeps_commits work.node ≡ true
FitsMessage peer (messages.Inquire tid) work = ⊤

-- what comes: commands of clients that own or borrow, messages of another node of the run, restarts of one
abbrev pub MayHappen : Event → Work → Type 0
MayHappen (events.Command client line label command) work = (goes_in_run work.node.setting.nodes command ≡ true) × (keeps_owned work.node ≡ true)
MayHappen (events.Received peer message) work =
    (nat_lt peer.0 work.node.setting.nodes ≡ true) × ((same_node peer work.node.setting.node ≡ false) × FitsMessage peer message work)
MayHappen events.ServeAll work = ⊤
MayHappen (events.PeerRestarted peer old new) work = nat_lt peer.0 work.node.setting.nodes ≡ true
MayHappen events.Tick work = ⊤

-- what comes is done
abbrev pub HappenSound : Type 0
HappenSound = (event : Event) (work : Work) → MayHappen event work → StaysSound work (happen event work)

-- the commands that are not answered go to nodes of the run
abbrev pub is_open_in_run : ℕ → ClientNo × OpenCommand → Bool
is_open_in_run nodes entry = goes_in_run nodes entry.1.line.command

abbrev pub commands_in_run : NodeValue → Bool
commands_in_run node = list_all (is_open_in_run node.setting.nodes) node.commands

-- commands that stayed open are answered
abbrev pub AnswerWaitingSound : Type 0
AnswerWaitingSound = (work : Work) → commands_in_run work.node ≡ true → StaysSound work (answer_waiting work)

-- the node of a step before it settles
abbrev pub begun : NodeValue → ℕ → Work
begun node free = begin_incarnation (work_on node free)

abbrev pub settled : NodeValue → Event → ℕ → Work
settled node event free = settle (happen event (begun node free))

abbrev pub StepSound : Type 0
StepSound = (node : NodeValue) (event : Event) (free : ℕ) → MayHappen event (begun node free) → commands_in_run (settled node event free).node ≡ true
    → is_sound node ≡ true → is_sound (after_step node event free) ≡ true
