-- A fact of a node in the middle of a step that each thing which a rule does keeps, so that the whole step keeps it.
use Rattle.std.specs.Prelude.{◌≡◌, ◌⊎◌, ℕ, ◌<◌, ◌++◌, ⊤, Bool, true, false, not, ◌&&◌, List, [], ◌∷◌, Option, Some, None, nat_lt}
use Rattle.std.specs.List.{list_all}
use Rattle.std.specs.Map.{lookup}
use Rattle.std.specs.BTreeMap.{is_at}
use Rattle.qs_base.specs.declared.identifiers.ClientNo.{ClientNo}
use Rattle.qs_base.specs.declared.identifiers.NodeNo.{NodeNo}
use Rattle.qs_base.specs.declared.identifiers.Outcome.{Outcome}
use Rattle.qs_base.specs.declared.identifiers.Outcome.TheVariants as outcomes
use Rattle.qs_base.specs.declared.identifiers.ServerNo.{ServerNo}
use Rattle.qs_base.specs.declared.identifiers.Tid.{Tid}
use Rattle.qs_engage.specs.Nodes.{same_node, listed}
use Rattle.qs_ipc.specs.Ipc as ipc
use Rattle.qs_ipc.specs.declared.delivery.Delivery.{Delivery}
use Rattle.qs_book_journal.specs.declared.entry.Act.{Act}
use Rattle.qs_book_journal.specs.declared.script_line.Command.{Command}
use Rattle.qs_book_journal.specs.declared.script_line.Command.TheVariants as commands
use Rattle.qs_book_journal.specs.declared.script_line.ScriptLine.{ScriptLine}
use Rattle.qs_node_kept.specs.Loans.{take_first, give_back}
use Rattle.qs_node_kept.specs.declared.kept.KeptLabel.{KeptLabel}
use Rattle.qs_book_machine.specs.Nodes.{is_recoverable}
use Rattle.qs_ops.specs.Server.{ServerValue, vote_of}
use Rattle.qs_ops.specs.declared.answer.Answer.{Answer}
use Rattle.qs_ops.specs.declared.answer.Cause.{Cause}
use Rattle.qs_ops.specs.declared.vote.Vote.TheVariants as votes
use Rattle.qs_packet.specs.declared.message.Message.{Message}
use Rattle.qs_packet.specs.declared.message.Message.TheVariants as messages
use Rattle.qs_record.specs.declared.record.Record.{Record}
use Rattle.qs_record.specs.declared.record.Record.TheVariants as records
use Rattle.qs_node_servers.specs.Servers.{server_at}
use Rattle.qs_tm.specs.Manager as tm
use Rattle.qs_tm.specs.Outcomes.{told_with_own}
use Rattle.qs_tm.specs.Participant.{is_undecided, is_forgotten}
use Rattle.qs_tm.specs.declared.participant.Participant.{Participant}
use Rattle.qs_node_step.specs.Answering.{kept_outcome}
use Rattle.qs_node_step.specs.Bringing.{enter, send, answer, log}
use Rattle.qs_node_step.specs.Commands.{with_issued}
use Rattle.qs_node_step.specs.Deciding.{keep_outcome}
use Rattle.qs_node_step.specs.Requests.{with_local}
use Rattle.qs_node_step.specs.Serving.{label_at, put_label}
use Rattle.qs_node_step.specs.State.{Work, part_of, with_manager, with_queues, with_kept, with_doings, doings_of, change_server, client_cmp}
use Rattle.qs_node_step.specs.Step.{with_command}
use Rattle.qs_node_step.specs.Telling.{drop_counts}
use Rattle.qs_node_step.specs.declared.event.Event.{Event}
use Rattle.qs_node_step.specs.declared.event.Event.TheVariants as events
use Rattle.qs_node_step.specs.declared.state.Doings.{Doings}
use Rattle.qs_node_step.specs.declared.state.Issued.{Issued}
use Rattle.qs_node_step.specs.declared.state.OpenCommand.{OpenCommand}
use Rattle.qs_world_refine.specs.Begun.{fits, fits_record, may_command}
use Rattle.qs_world_refine.specs.Sound.{is_sound, is_engaged}

-- ---- what the fact says: at node `me` of so many, where P tells which transactions may be known, Q which have begun, and R which nodes it knows

abbrev pub is_homed : (Tid → Bool) → NodeNo → Tid → Bool
is_homed P me tid = P tid && same_node tid.home me

abbrev pub is_run : Participant → Bool
is_run part = part.engage.home && is_undecided part

pub record Reads (P Q : Tid → Bool) (R : NodeNo → Bool) (me : NodeNo) (nodes : ℕ) (I : Work → Type 0) : Type 0 where
  pub inside : (tid : Tid) → Q tid ≡ true → (P tid ≡ true) × (nat_lt tid.home.0 nodes ≡ true)
  pub here : (work : Work) → I work → work.node.setting.node ≡ me
  pub known : (tid : Tid) (part : Participant) (work : Work) → I work → part_of tid work ≡ Some part → P tid ≡ true
  pub home : (tid : Tid) (part : Participant) (work : Work) → I work → part_of tid work ≡ Some part → part.engage.home ≡ same_node tid.home me
  pub engaged : (tid : Tid) (part : Participant) (superior : NodeNo) (work : Work) → I work → part_of tid work ≡ Some part → part.engage.superior ≡ Some superior → Q tid ≡ true
  pub asked : (tid : Tid) (part : Participant) (work : Work) → I work → part_of tid work ≡ Some part → part.asked ≡ true → Q tid ≡ true
  pub told : (tid : Tid) (part : Participant) (superior : NodeNo) (number : ℕ) (work : Work) → I work → is_sound work.node ≡ true → part_of tid work ≡ Some part → part.engage.superior ≡ Some superior → part.engage.home ≡ false
      → fits P Q nodes me superior (messages.VotedYes tid number (listed (told_with_own me part))) ≡ true
  pub label : (name : List ℕ) (begun : KeptLabel) (tid : Tid) (work : Work) → I work → label_at name work.node ≡ Some begun → begun.tid ≡ Some tid → Q tid ≡ true
  pub owned : (name : List ℕ) (begun : KeptLabel) (owner : ClientNo) (tid : Tid) (work : Work) → I work → label_at name work.node ≡ Some begun → begun.owner ≡ Some owner → begun.tid ≡ Some tid
      → kept_outcome tid work.node ≡ None → tm.told_of tid false is_run work.node.manager ≡ true
  pub waiting : (server : ServerNo) (delivery : Delivery) (work : Work) → I work → ipc.next server work.node.queues ≡ Some delivery → Q delivery.tid ≡ true
  pub command : (client : ClientNo) (command : OpenCommand) (work : Work) → I work → lookup (is_at (client_cmp client)) work.node.commands ≡ Some command → may_command nodes command.line.command ≡ true
  pub vote : (tid : Tid) (server : ServerNo) (free frame : ℕ) (work : Work) → I work → server.0 < 7 → vote_of (server_at work.node.servers server) tid free frame ≡ votes.Recoverable → is_recoverable server.0 ≡ true
  pub aged : (age : ℕ) (work : Work) → I work → list_all (is_homed P me) (tm.aged age work.node.manager) ≡ true

-- ---- what keeps it

-- a change of what is kept of a transaction that leaves its home, its superior, whether it is asked, its outcome, what the log has of it and when it began
pub record IsPlain (old new : Participant) : Type 0 where
  pub home : new.engage.home ≡ old.engage.home
  pub superior : new.engage.superior ≡ old.engage.superior
  pub asked : new.asked ≡ old.asked
  pub outcome : new.outcome ≡ old.outcome
  pub log : new.log ≡ old.log
  pub begun : new.begun_at ≡ old.begun_at

abbrev pub same_kind : (ServerValue → ServerValue) → Type 0
same_kind f = (value : ServerValue) → (f value).kind ≡ value.kind

-- a change of what is noted of a step that leaves it noted that a Prepare was logged
abbrev pub keeps_prepared : (Doings → Doings) → Type 0
keeps_prepared f = (doings : Doings) → doings.prepared ≡ true → (f doings).prepared ≡ true

abbrev pub is_decided : Participant → Bool
is_decided part = not (is_undecided part)

-- a Prepare is logged once that is noted, where the node is engaged for the transaction, and a Commit where it has decided it
abbrev pub MayLog : Record → Work → Type 0
MayLog (records.Prepare tid server covers changes) work = ((doings_of tid work).prepared ≡ true) × (tm.told_of tid false is_engaged work.node.manager ≡ true)
MayLog (records.Commit tid told) work = tm.told_of tid false is_decided work.node.manager ≡ true
MayLog (records.Aborted tid) work = ⊤
MayLog (records.End tid) work = ⊤

-- what only read elsewhere than at its home is forgotten, and a commit once its End is logged
abbrev pub MayForget : NodeNo → Tid → Participant → Work → Type 0
MayForget me tid part work =
    ((same_node tid.home me ≡ false) × (is_forgotten part ≡ true)) ⊎ ((part.outcome ≡ Some outcomes.Commit) × ((before : List Record) × (work.out.records ≡ before ++ records.End tid ∷ [])))

pub record Keeps (P Q : Tid → Bool) (R : NodeNo → Bool) (me : NodeNo) (nodes : ℕ) (I : Work → Type 0) : Type 0 where
  -- what a step does beside what it keeps
  pub enter : (act : Act) (work : Work) → I work → I (enter act work)
  pub doing : (tid : Tid) (f : Doings → Doings) (work : Work) → keeps_prepared f → I work → I (with_doings tid f work)
  pub send : (to : NodeNo) (message : Message) (work : Work) → (nat_lt to.0 nodes ≡ true → fits P Q nodes me to message ≡ true) → I work → I (send to message work)
  pub log : (rec : Record) (work : Work) → fits_record P me rec ≡ true → MayLog rec work → I work → I (log rec work)
  pub answer : (client : ClientNo) (said : Answer) (work : Work) → I work → I (answer client said work)
  -- what is kept of transactions
  pub part : (tid : Tid) (f : Participant → Participant) (work : Work) → ((part : Participant) → IsPlain part (f part)) → I work → I (with_manager (tm.with_part tid f) work)
  pub ask : (tid : Tid) (work : Work) → Q tid ≡ true → I work → I (with_manager (tm.ask tid) work)
  pub request : (tid : Tid) (peer : NodeNo) (number : ℕ) (work : Work) → Q tid ≡ true → R peer ≡ true → I work → I (with_manager (tm.requested tid peer number) work)
  pub release : (tid : Tid) (work : Work) → (doings_of tid work).prepared ≡ false → I work → I (with_manager (tm.released tid) work)
  pub meet : (tid : Tid) (work : Work) → Q tid ≡ true → same_node tid.home me ≡ false → I work → I (with_manager (tm.meet tid) work)
  pub keep_abort : (tid : Tid) (work : Work) → P tid ≡ true → part_of tid work ≡ None → I work → I (with_manager (tm.keep_abort tid) work)
  pub decide : (tid : Tid) (outcome : Outcome) (cause : Option Cause) (work : Work) → is_homed P me tid ≡ true → (outcome ≡ outcomes.Commit → tm.told_of tid false is_undecided work.node.manager ≡ true)
      → I work → I (keep_outcome tid outcome cause (with_manager (tm.decide tid outcome) work))
  pub learn : (tid : Tid) (outcome : Outcome) (work : Work) → same_node tid.home me ≡ false → I work → I (with_manager (tm.took_outcome tid outcome) work)
  pub forget : (tid : Tid) (part : Participant) (work : Work) → part_of tid work ≡ Some part → MayForget me tid part work → I work → I (with_manager (tm.forget tid) work)
  -- what waits
  pub enqueue : (server : ServerNo) (delivery : Delivery) (work : Work) → Q delivery.tid ≡ true → I work → I (with_queues (ipc.enqueue server delivery) work)
  pub next : (server : ServerNo) (work : Work) → I work → I (with_queues (ipc.after_next server) work)
  pub drop : (tid : Tid) (work : Work) → I work → I (with_queues (drop_counts tid) work)
  pub mark : (peer : NodeNo) (work : Work) → I work → I (with_queues (ipc.mark_queues peer) work)
  -- what is kept for clients
  pub learn_label : (name : List ℕ) (tid : Tid) (work : Work) → Q tid ≡ true → I work → I (put_label (record { label = name; tid = Some tid; owner = None }) work)
  pub lend : (tid : Tid) (client : ClientNo) (work : Work) → Q tid ≡ true → I work
      → I (with_kept (λ kept. record kept { loans = kept.loans ++ record { tid = tid; client = client; inc = work.node.setting.inc; taken = false; yielded = false } ∷ [] }) work)
  pub take : (client : ClientNo) (tid : Tid) (work : Work) → I work → I (with_kept (λ kept. record kept { loans = take_first client tid kept.loans }) work)
  pub yield : (client : ClientNo) (tid : Tid) (work : Work) → I work → I (with_kept (λ kept. record kept { loans = give_back client tid kept.loans }) work)
  -- commands, numbers and servers
  pub opens : (line : ScriptLine) (work : Work) → may_command nodes line.command ≡ true → I work → I (with_command line work)
  pub issue : (client : ClientNo) (issued : Issued) (work : Work) → I work → I (with_issued client issued work)
  pub local : (tid : Tid) (number : ℕ) (work : Work) → I work → I (with_local tid number work)
  pub serve : (server : ServerNo) (f : ServerValue → ServerValue) (work : Work) → same_kind f → I work → I (change_server server f work)

-- ---- what comes

abbrev pub begins_one : Command → Bool
begins_one commands.Begin = true
begins_one command = false

-- any command but a beginning; a message of another node that says what fits; and whatever else
abbrev pub MayStepOn : (Tid → Bool) → (Tid → Bool) → (NodeNo → Bool) → NodeNo → ℕ → Event → Type 0
MayStepOn P Q R me nodes (events.Command client line label command) = (may_command nodes command ≡ true) × (begins_one command ≡ false)
MayStepOn P Q R me nodes (events.Received peer message) = (R peer ≡ true) × (fits P Q nodes peer me message ≡ true)
MayStepOn P Q R me nodes events.ServeAll = ⊤
MayStepOn P Q R me nodes (events.PeerRestarted peer old new) = ⊤
MayStepOn P Q R me nodes events.Tick = ⊤

-- time goes on as a tick comes, and in no other event
abbrev pub TicksOn : (Work → Type 0) → Type 0
TicksOn I = (work : Work) → I work → I (with_manager tm.tick work)

abbrev pub MayTick : Event → (Work → Type 0) → Type 0
MayTick events.Tick I = TicksOn I
MayTick event I = ⊤
