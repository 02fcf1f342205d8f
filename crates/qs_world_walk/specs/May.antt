-- Where a deed may be done: what the rule that does it has tested, and so why it does it. Each guard stands in the definitions of the step.
use Rattle.std.specs.Prelude.{◌≡◌, ◌⊎◌, ℕ, ⊤, Bool, true, false, List, [], ◌∷◌, Option, Some, None}
use Rattle.std.specs.BTreeMap.{is_at}
use Rattle.std.specs.List.{list_any}
use Rattle.std.specs.Map.{lookup}
use Rattle.qs_base.specs.declared.identifiers.ClientNo.{ClientNo}
use Rattle.qs_base.specs.declared.identifiers.Member.{Member}
use Rattle.qs_base.specs.declared.identifiers.NodeNo.{NodeNo}
use Rattle.qs_base.specs.declared.identifiers.Outcome.{Outcome}
use Rattle.qs_base.specs.declared.identifiers.Outcome.TheVariants as outcomes
use Rattle.qs_base.specs.declared.identifiers.ServerNo.{ServerNo}
use Rattle.qs_base.specs.declared.identifiers.Tid.{Tid}
use Rattle.qs_engage.specs.Engage.{is_node, release_of}
use Rattle.qs_engage.specs.Nodes.{same_node}
use Rattle.qs_ipc.specs.Ipc as ipc
use Rattle.qs_ipc.specs.declared.delivery.Delivery.{Delivery}
use Rattle.qs_book_journal.specs.declared.script_line.Command.TheVariants as commands
use Rattle.qs_book_journal.specs.declared.script_line.ScriptLine.{ScriptLine}
use Rattle.qs_node_kept.specs.Loans.{first_untaken, last_taken}
use Rattle.qs_node_kept.specs.declared.kept.KeptLabel.{KeptLabel}
use Rattle.qs_node_kept.specs.declared.kept.Lent.{Lent}
use Rattle.qs_ops.specs.Server.{vote_of}
use Rattle.qs_ops.specs.declared.answer.Cause.{Cause}
use Rattle.qs_ops.specs.declared.answer.Cause.TheVariants as causes
use Rattle.qs_ops.specs.declared.operation.Op.{Op}
use Rattle.qs_ops.specs.declared.operation.Op.TheVariants.{Note}
use Rattle.qs_ops.specs.declared.reply.Reply.{Reply}
use Rattle.qs_ops.specs.declared.vote.Vote.{Vote}
use Rattle.qs_ops.specs.declared.vote.Vote.TheVariants as ballots
use Rattle.qs_packet.specs.declared.message.Message.{Message}
use Rattle.qs_packet.specs.declared.message.Message.TheVariants as messages
use Rattle.qs_record.specs.declared.record.Record.{Record}
use Rattle.qs_node_servers.specs.Servers.{client_of, client_server, server_at}
use Rattle.qs_node_step.specs.Answering.{kept_outcome, was_committed}
use Rattle.qs_node_step.specs.Borrowing.{is_aborted, is_void}
use Rattle.qs_node_step.specs.Requests.{next_number, waiting_at, waits_as}
use Rattle.qs_node_step.specs.Serving.{label_at, may_serve, reply_here}
use Rattle.qs_node_step.specs.Settling.{is_put_off, is_quiet, may_answer}
use Rattle.qs_node_step.specs.State.{Work, client_cmp, doings_of, here, part_of}
use Rattle.qs_node_step.specs.Step.{is_owner}
use Rattle.qs_node_step.specs.Telling.{is_other_node, record_learnt}
use Rattle.qs_node_step.specs.Voting.{change_count, note_text, owes_note, vote_frame}
use Rattle.qs_node_step.specs.declared.event.Event.{Event}
use Rattle.qs_node_step.specs.declared.event.Event.TheVariants as events
use Rattle.qs_node_step.specs.declared.state.OpenCommand.{OpenCommand}
use Rattle.qs_tm.specs.Manager as tm
use Rattle.qs_tm.specs.Members.{files_no}
use Rattle.qs_tm.specs.Participant.{is_by_files, is_forgotten, is_owed_by, is_undecided}
use Rattle.qs_tm.specs.declared.manager.BeginFault.TheVariants as faults
use Rattle.qs_tm.specs.declared.participant.Outstanding.{Outstanding}
use Rattle.qs_tm.specs.declared.participant.Participant.{Participant}
use Rattle.qs_world_walk.specs.Deed.{Deed, Issuer, Why, did, fresh_command, left, served}
use Rattle.qs_world_walk.specs.Deed as d
use Rattle.qs_world_walk.specs.Stage.{Turn}
use Rattle.qs_world_walk.specs.Stage as stages

-- ---- what comes

abbrev pub command_of : ScriptLine → Event
command_of line = events.Command line.client line.line line.label line.command

pub record IsRequest (event : Event) (peer : NodeNo) (tid : Tid) (label : List ℕ) (member : Member) (number : ℕ) (op : Op) : Type 0 where
  pub issuer : ServerNo
  pub is : event ≡ events.Received peer (messages.Request tid label member number issuer op)

-- ---- commands in hand

abbrev pub InHand : ClientNo → OpenCommand → Work → Type 0
InHand client command work = lookup (is_at (client_cmp client)) work.node.commands ≡ Some command

-- its label is one that the node has met, and the client's own or not
pub record IsMet (client : ClientNo) (command : OpenCommand) (own : Bool) (of : Option Tid) (work : Work) : Type 0 where
  pub begun : KeptLabel
  pub met : label_at command.line.label work.node ≡ Some begun
  pub own_is : is_owner client begun.owner ≡ own
  pub of_is : begun.tid ≡ of

-- the present loan of a borrower is good
pub record HasLoan (client : ClientNo) (tid : Tid) (loan : Lent) (work : Work) : Type 0 where
  pub last : last_taken client tid work.node.kept.now.loans ≡ Some loan
  pub kept : loan.yielded ≡ false
  pub good : is_void tid loan work.node ≡ false

-- ---- what is known of a transaction

pub record IsOpen (tid : Tid) (part : Participant) (work : Work) : Type 0 where
  pub known : part_of tid work ≡ Some part
  pub undecided : is_undecided part ≡ true

-- ---- by kind

abbrev pub MayAnswer : ClientNo → OpenCommand → Why → Work → Type 0
MayAnswer client command d.Unbegun work = IsMet client command true None work
MayAnswer client command (d.Over decided) work = (tid : Tid) × (IsMet client command true (Some tid) work × (kept_outcome tid work.node ≡ Some decided))
MayAnswer client command (d.NotIts loan) work = (tid : Tid) × (IsMet client command false (Some tid) work × ((last_taken client tid work.node.kept.now.loans ≡ Some loan) × (loan.yielded ≡ true)))
MayAnswer client command (d.Void loan) work = (tid : Tid) × (IsMet client command false (Some tid) work × ((last_taken client tid work.node.kept.now.loans ≡ Some loan) × ((loan.yielded ≡ false) × (is_void tid loan work.node ≡ true))))
MayAnswer client command (d.Ended issued) work = (of : Option Tid) × (IsMet client command false of work × ((command.issued ≡ Some issued) × (is_aborted issued.tid work.node ≡ true)))

-- the owner's transaction is not decided, or the borrower has a loan
abbrev pub MayUse : ClientNo → OpenCommand → Tid → Work → Type 0
MayUse client command tid work = (IsMet client command true (Some tid) work × (kept_outcome tid work.node ≡ None)) ⊎ (IsMet client command false (Some tid) work × ((loan : Lent) × HasLoan client tid loan work))

abbrev pub MayIssue : Issuer → Tid → Outstanding → Op → Work → Type 0
MayIssue (d.Client client command) tid request op work = InHand client command work × ((command.line.command ≡ commands.Request request.member op) × ((request.issuer ≡ client_server client) × MayUse client command tid work))
MayIssue (d.Files server) tid request op work = (owes_note tid server work ≡ true) × ((is_put_off (doings_of tid work) ≡ false) × ((work.node.setting.audit ≡ Some request.member.node) × ((request.issuer ≡ files_no)
    × ((op ≡ Note (note_text tid (here work) (change_count tid work.node))) × (request.count ≡ change_count tid work.node)))))

-- the first that waits at a server is one that it serves
pub record MayServe (server : ServerNo) (delivery : Delivery) (reply : Reply) (work : Work) : Type 0 where
  pub first : ipc.next server work.node.queues ≡ Some delivery
  pub runs : may_serve delivery.tid (left server work) ≡ true
  pub says : reply_here server delivery.tid delivery.op (left server work).node ≡ Some reply

-- it was just served
pub record IsServed (server : ServerNo) (delivery : Delivery) (reply : Reply) (work : Work) : Type 0 where
  pub old : Work
  pub may : MayServe server delivery reply old
  pub is : work ≡ served server delivery reply old

-- a reply is of a message, or of a server of this node that served just now
pub data RepliesNow (event : Event) (tid : Tid) (member : Member) (number : ℕ) (reply : Reply) (work : Work) : Type 0 where
  Came : (peer : NodeNo) → event ≡ events.Received peer (messages.Answered tid member number reply) → RepliesNow event tid member number reply work
  ServedHere : (server : ServerNo) (delivery : Delivery) → IsServed server delivery reply work → same_node delivery.from (here work) ≡ true → delivery.tid ≡ tid → member ≡ record { node = here work; server = server } → delivery.number ≡ number → RepliesNow event tid member number reply work

pub record MayVote (tid : Tid) (server : ServerNo) (ballot : Vote) (work : Work) : Type 0 where
  pub due : is_put_off (doings_of tid work) ≡ false
  pub noted : owes_note tid server work ≡ false
  pub is : vote_of (server_at work.node.servers server) tid work.room (vote_frame work) ≡ ballot

abbrev pub IsNoPrepare : Vote → Type 0
IsNoPrepare ballots.Recoverable = ⊥
IsNoPrepare ballot = ⊤

-- a home may decide
pub record IsReady (tid : Tid) (part : Participant) (work : Work) : Type 0 where
  pub running : IsOpen tid part work
  pub answers : may_answer tid part work ≡ true
  pub home : part.engage.home ≡ true
  pub quiet : is_quiet (doings_of tid work) ≡ true

pub data MayAbort (event : Event) (tid : Tid) (cause : Option Cause) (work : Work) : Type 0 where
  Commanded : (line : ScriptLine) (part : Participant) → event ≡ command_of line → InHand line.client (fresh_command line) work → line.command ≡ commands.Abort → IsMet line.client (fresh_command line) true (Some tid) work → kept_outcome tid work.node ≡ None → IsOpen tid part work
      → cause ≡ Some causes.Asked → MayAbort event tid cause work
  Old : (age : ℕ) → event ≡ events.Tick → work.node.setting.age ≡ Some age → cause ≡ Some (causes.Old age) → MayAbort event tid cause work
  Refused : (part : Participant) (first : Cause) (more : List Cause) → IsOpen tid part work → part.engage.home ≡ true → part.causes ≡ first ∷ more → cause ≡ Some first → MayAbort event tid cause work
  NoRoom : (part : Participant) (need : ℕ) → IsReady tid part work → tm.need_past tid work.room work.node.manager ≡ Some need → cause ≡ Some (causes.Room need work.room) → MayAbort event tid cause work

abbrev pub MayDecide : Event → Tid → Outcome → Option Cause → Work → Type 0
MayDecide event tid outcomes.Commit cause work = (cause ≡ None) × ((tm.need_past tid work.room work.node.manager ≡ None) × ((part : Participant) × IsReady tid part work))
MayDecide event tid outcomes.Abort cause work = MayAbort event tid cause work

-- the record of a decision that was just made, or of an outcome that is learnt
pub data MayLog (tid : Tid) (rec : Record) (work : Work) : Type 0 where
  Decided : (old : Work) (outcome : Outcome) (cause : Option Cause) → work ≡ did (d.Decides tid outcome cause) old → (tm.decision tid outcome old.node.manager).rec ≡ Some rec → MayLog tid rec work
  Learnt : (outcome : Outcome) (part : Participant) → record_learnt tid outcome part ≡ Some rec → MayLog tid rec work

-- requests, replies and yes votes are sent by deeds of their own
abbrev pub MaySend : Event → NodeNo → Message → Work → Type 0
MaySend event to (messages.Request tid label member number issuer op) work = ⊥
MaySend event to (messages.Answered tid member number reply) work = ⊥
MaySend event to (messages.VotedYes tid up_to told) work = ⊥
MaySend event to (messages.Covered tid number) work = (label : List ℕ) × ((member : Member) × ((op : Op) × IsRequest event to tid label member number op))
MaySend event to message work = ⊤

abbrev pub MayBlock : Event → Tid → Cause → Work → Type 0
MayBlock event tid cause work = ((peer : NodeNo) × ((event ≡ events.Received peer (messages.VotedAbort tid cause)) × ((part : Participant) × IsOpen tid part work)))
    ⊎ ((peer : NodeNo) × ((old new : ℕ) × ((event ≡ events.PeerRestarted peer old new) × ((cause ≡ causes.Gone peer old) × ((part : Participant) × (is_owed_by peer part ≡ true))))))

-- a peer answers for the requests up to that number
abbrev pub Answers : Event → NodeNo → Tid → ℕ → List NodeNo → Type 0
Answers event peer tid up_to told = ((event ≡ events.Received peer (messages.Covered tid up_to)) × (told ≡ [])) ⊎ (event ≡ events.Received peer (messages.VotedYes tid up_to told))

abbrev pub IsHome : Bool → Tid → Work → Type 0
IsHome is tid work = same_node tid.home (here work) ≡ is

abbrev pub IsMine : Bool → Outstanding → Work → Type 0
IsMine is request work = same_node request.member.node (here work) ≡ is

abbrev pub IsLet : Event → Type 0
IsLet (events.Command client line label command) = ⊥
IsLet (events.PeerRestarted peer old new) = ⊥
IsLet events.Tick = ⊥
IsLet event = ⊤

-- servers have turns where all that waits is served, and transactions and clients in each step
abbrev pub IsTurn : Event → Turn → Type 0
IsTurn event (stages.Serves server) = event ≡ events.ServeAll
IsTurn event turn = ⊤

abbrev pub May : Event → Deed → Work → Type 0
May event d.Starts work = work.node.is_first ≡ true
May event d.Lets work = IsLet event
May event (d.Opens line) work = event ≡ command_of line
May event (d.Labels label tid) work = (label_at label work.node ≡ None) × ((peer : NodeNo) × ((member : Member) × ((number : ℕ) × ((op : Op) × IsRequest event peer tid label member number op))))
May event (d.Meets tid) work = IsHome false tid work × ((peer : NodeNo) × ((label : List ℕ) × ((member : Member) × ((number : ℕ) × ((op : Op) × IsRequest event peer tid label member number op)))))
May event (d.Engages tid peer number) work = (label : List ℕ) × ((member : Member) × ((op : Op) × IsRequest event peer tid label member number op))
May event (d.TakesIn peer tid member number op) work = (label : List ℕ) × IsRequest event peer tid label member number op
May event (d.Stales peer) work = (old new : ℕ) × (event ≡ events.PeerRestarted peer old new)
May event d.Ticks work = event ≡ events.Tick
May event (d.Turns turn) work = IsTurn event turn
May event (d.Rests turn) work = IsTurn event turn
May event (d.Sends to message) work = MaySend event to message work
May event (d.Logs tid rec) work = MayLog tid rec work
May event (d.Ends tid server) work = ⊤
May event (d.Learns tid outcome server) work = ⊤
May event (d.Begins line) work = InHand line.client (fresh_command line) work × ((event ≡ command_of line) × ((line.command ≡ commands.Begin) × (tm.begin_fault work.room work.node.manager ≡ None)))
May event (d.Refuses line need room) work = InHand line.client (fresh_command line) work × ((event ≡ command_of line) × ((line.command ≡ commands.Begin) × (tm.begin_fault work.room work.node.manager ≡ Some (faults.LogFull need room))))
May event (d.Answers client command why) work = InHand client command work × MayAnswer client command why work
May event (d.Takes client command tid loan) work = InHand client command work × ((command.line.command ≡ commands.Take) × (IsMet client command false (Some tid) work × (first_untaken client tid work.node.kept.now.loans ≡ Some loan)))
May event (d.Yields client command tid loan) work = InHand client command work × ((command.line.command ≡ commands.Yield) × (IsMet client command false (Some tid) work × HasLoan client tid loan work))
May event (d.Asks line tid) work = (event ≡ command_of line) × (InHand line.client (fresh_command line) work × ((line.command ≡ commands.Commit) × (IsMet line.client (fresh_command line) true (Some tid) work × ((kept_outcome tid work.node ≡ None) × ((part : Participant) × (IsOpen tid part work × (part.asked ≡ false)))))))
May event (d.IssuesHere by tid request op) work = IsMine true request work × ((next_number tid request.member.node work ≡ Some request.number) × MayIssue by tid request op work)
May event (d.IssuesAway by tid request op) work = IsMine false request work × ((next_number tid request.member.node work ≡ Some request.number) × MayIssue by tid request op work)
May event (d.Serves server delivery reply) work = MayServe server delivery reply work × ((same_node delivery.from (here work) ≡ true) ⊎ (delivery.stale ≡ true))
May event (d.ServesAway server delivery reply) work = MayServe server delivery reply work × ((same_node delivery.from (here work) ≡ false) × (delivery.stale ≡ false))
May event (d.Drops server delivery) work = ipc.next server work.node.queues ≡ Some delivery
May event (d.NotesReply tid member number request) work = (waiting_at tid member number work ≡ Some request) × ((is_by_files request ≡ true) × ((reply : Reply) × RepliesNow event tid member number reply work))
May event (d.GivesReply tid member number request command reply) work = (waiting_at tid member number work ≡ Some request) × ((is_by_files request ≡ false) × (InHand (client_of request.issuer) command work × ((waits_as tid request.member request.number (Some command) ≡ true) × RepliesNow event tid member number reply work)))
May event (d.LosesReply tid member number request) work = (waiting_at tid member number work ≡ Some request) × (is_by_files request ≡ false)
May event (d.BecomesAsked peer tid) work = (event ≡ events.Received peer (messages.AskVote tid)) × ((part : Participant) × (IsOpen tid part work × ((is_node peer part.engage.superior ≡ true) × ((part.engage.home ≡ false) × (part.asked ≡ false)))))
May event (d.Counts peer tid up_to told) work = ((part : Participant) × IsOpen tid part work) × Answers event peer tid up_to told
May event (d.Ignores peer tid up_to told) work = ((part_of tid work ≡ None) ⊎ ((part : Participant) × ((part_of tid work ≡ Some part) × (is_undecided part ≡ false)))) × Answers event peer tid up_to told
May event (d.Blocks tid cause) work = MayBlock event tid cause work
May event (d.Votes tid server ballot) work = IsNoPrepare ballot × MayVote tid server ballot work
May event (d.Prepares tid server) work = MayVote tid server ballots.Recoverable work
May event (d.SaysYes tid part superior) work = IsOpen tid part work × ((may_answer tid part work ≡ true) × ((part.engage.home ≡ false) × (release_of part.engage ≡ Some superior)))
May event (d.TakesCauses tid) work = (part : Participant) × (IsOpen tid part work × (part.engage.home ≡ false))
May event (d.Forgets tid part) work = IsOpen tid part work × (is_forgotten part ≡ true)
May event (d.Decides tid outcome cause) work = MayDecide event tid outcome cause work
May event (d.TakesOutcome tid outcome) work = IsHome false tid work × (((peer : NodeNo) × (event ≡ events.Received peer (messages.Tell tid outcome))) × ((part : Participant) × IsOpen tid part work))
May event (d.KeepsAbort tid) work = IsHome false tid work × (((peer : NodeNo) × (event ≡ events.Received peer (messages.Tell tid outcomes.Abort))) × (part_of tid work ≡ None))
May event (d.KeepsTold tid peer) work = IsHome true tid work × ((part_of tid work ≡ None) × (((further : List NodeNo) × ((event ≡ events.Received peer (messages.Told tid further)) × (list_any (is_other_node tid) further ≡ true)))
    ⊎ ((event ≡ events.Received peer (messages.Inquire tid)) × (was_committed tid work.node ≡ false))))
May event (d.TakesNames tid further) work = IsHome true tid work × ((peer : NodeNo) × (event ≡ events.Received peer (messages.Told tid further)))
May event (d.Acknowledges tid peer) work = IsHome true tid work × (((further : List NodeNo) × (event ≡ events.Received peer (messages.Told tid further))) × (((part : Participant) × ((part_of tid work ≡ Some part) × (part.outcome ≡ Some outcomes.Commit))) × (tm.all_acknowledged tid peer work.node.manager ≡ false)))
May event (d.EndsCommit tid peer) work = IsHome true tid work × (((further : List NodeNo) × (event ≡ events.Received peer (messages.Told tid further))) × (((part : Participant) × ((part_of tid work ≡ Some part) × (part.outcome ≡ Some outcomes.Commit))) × (tm.all_acknowledged tid peer work.node.manager ≡ true)))
May event (d.AddsTold tid peer) work = IsHome true tid work × ((event ≡ events.Received peer (messages.Inquire tid)) × ((part : Participant) × ((part_of tid work ≡ Some part) × (part.outcome ≡ None))))
May event (d.AddsTell tid peer) work = IsHome true tid work × ((event ≡ events.Received peer (messages.Inquire tid)) × ((part : Participant) × ((part_of tid work ≡ Some part) × (part.outcome ≡ Some outcomes.Abort))))
May event (d.Notices tid peer) work = ((old new : ℕ) × (event ≡ events.PeerRestarted peer old new)) × ((part : Participant) × (part_of tid work ≡ Some part))
