-- Rules of a node's step that leave a sound node sound.
use Rattle.std.specs.Prelude.{◌≡◌, ℕ, ◌<◌, ◌≤◌, ◌||◌, true, false, List, [], Option, Some, nat_lt}
use Rattle.qs_base.specs.declared.identifiers.ClientNo.{ClientNo}
use Rattle.qs_base.specs.declared.identifiers.Member.{Member}
use Rattle.qs_base.specs.declared.identifiers.NodeNo.{NodeNo}
use Rattle.qs_base.specs.declared.identifiers.Outcome.{Outcome}
use Rattle.qs_base.specs.declared.identifiers.Outcome.TheVariants as outcomes
use Rattle.qs_base.specs.declared.identifiers.Tid.{Tid}
use Rattle.qs_engage.specs.Engage.{peer_of}
use Rattle.qs_engage.specs.Nodes.{same_node}
use Rattle.qs_ipc.specs.Ipc as ipc
use Rattle.qs_book_journal.specs.declared.script_line.Command.{Command}
use Rattle.qs_book_journal.specs.declared.script_line.ScriptLine.{ScriptLine}
use Rattle.qs_node_kept.specs.declared.kept.Lent.{Lent}
use Rattle.qs_ops.specs.declared.answer.Cause.{Cause}
use Rattle.qs_ops.specs.declared.operation.Op.{Op}
use Rattle.qs_ops.specs.declared.reply.Reply.{Reply}
use Rattle.qs_restart.specs.Recovery.{Recovery}
use Rattle.qs_tm.specs.Manager as tm
use Rattle.qs_tm.specs.Outcomes.{is_abort}
use Rattle.qs_tm.specs.Participant.{is_undecided}
use Rattle.qs_tm.specs.declared.participant.Outstanding.{Outstanding}
use Rattle.qs_tm.specs.declared.participant.Participant.{Participant}
use Rattle.qs_node_step.specs.Answering.{inquiry_came}
use Rattle.qs_node_step.specs.Asking.{ask_came, closer_came, refusal_came}
use Rattle.qs_node_step.specs.Borrowing.{take, yield, borrower_command}
use Rattle.qs_node_step.specs.Commands.{begin_as, begin_command, ask, owner_command}
use Rattle.qs_node_step.specs.Opening.{opened_node, recovered_as}
use Rattle.qs_node_step.specs.Requests.{reply_came, issue_away}
use Rattle.qs_node_step.specs.Serving.{request_came, serve_all}
use Rattle.qs_node_step.specs.Deciding.{decide}
use Rattle.qs_node_step.specs.Restarts.{peer_restarted, begin_incarnation}
use Rattle.qs_node_step.specs.Settling.{is_lent, settle, may_answer, pass_rule, answer_superior, refuse_elsewhere, forget_rule}
use Rattle.qs_node_step.specs.State.{NodeValue, Work, part_of}
use Rattle.qs_node_step.specs.Telling.{tell_came, told_came}
use Rattle.qs_world.specs.Openings.{IsOpening}
use Rattle.qs_world.specs.World.{Opening, start}
use Rattle.qs_world_refine.specs.Links.{names_node, node_no}
use Rattle.qs_world_refine.specs.Sound.{is_sound, is_sound_host, is_past, keeps_commits, goes_in_run, is_owned, may_take_up, kept_before}

abbrev pub StaysSound : Work → Work → Type 0
StaysSound work new = is_sound work.node ≡ true → is_sound new.node ≡ true

-- where a world begins with empty logs, each node is sound
abbrev pub StartSound : Type 0
StartSound = (o : Opening) → IsOpening o → ((n : ℕ) → n < o.size → o.logs n ≡ []) → (n : ℕ) → n < o.size → is_sound_host ((start o).hosts n) ≡ true

-- where it begins with old logs too, as far as a node is seen without its log
abbrev pub OpenedSound : Type 0
OpenedSound = (o : Opening) → IsOpening o → (n : ℕ) → n < o.size → is_sound ((start o).hosts n).node ≡ true

-- a client begins a transaction
abbrev pub BeginSound : Type 0
BeginSound = (line : ScriptLine) (work : Work) → StaysSound work (begin_as line (tm.next_tid work.node.manager) work)

-- and where its command is refused
abbrev pub BeginCommandSound : Type 0
BeginCommandSound = (line : ScriptLine) (work : Work) → StaysSound work (begin_command line work)

-- the owner asks for the commit
abbrev pub OwnerAsksSound : Type 0
OwnerAsksSound = (tid : Tid) (part : Participant) (work : Work) → StaysSound work (ask tid part work)

-- an AskVote comes
abbrev pub AskCameSound : Type 0
AskCameSound = (peer : NodeNo) (tid : Tid) (work : Work) → StaysSound work (ask_came peer tid work)

-- a VotedAbort comes
abbrev pub RefusalCameSound : Type 0
RefusalCameSound = (tid : Tid) (cause : Cause) (work : Work) → StaysSound work (refusal_came tid cause work)

-- a reply comes
abbrev pub ReplyCameSound : Type 0
ReplyCameSound = (tid : Tid) (member : Member) (number : ℕ) (reply : Reply) (work : Work) → StaysSound work (reply_came tid member number reply work)

-- a request goes to another node of the run
abbrev pub IssueAwaySound : Type 0
IssueAwaySound = (tid : Tid) (request : Outstanding) (op : Op) (work : Work) → nat_lt request.member.node.0 work.node.setting.nodes ≡ true → same_node request.member.node work.node.setting.node ≡ false
    → StaysSound work (issue_away tid request op work)

-- a Covered or VotedYes comes, for a number that was sent, and names nodes of the run
abbrev pub CloserCameSound : Type 0
CloserCameSound = (peer : NodeNo) (tid : Tid) (up_to : ℕ) (told : List NodeNo) (work : Work) → peer.0 < 16 → tid.home.0 < 16 → ((k : ℕ) → names_node told (node_no k) ≡ true → nat_lt k work.node.setting.nodes ≡ true)
    → ((part : Participant) → part_of tid work ≡ Some part → is_undecided part ≡ true → up_to ≤ (peer_of part.engage peer).sent)
    → StaysSound work (closer_came peer tid up_to told work)

-- a request of another node comes: it is not of a transaction that is committed here, and not of one that this node lost
abbrev pub RequestCameSound : Type 0
RequestCameSound = (peer : NodeNo) (tid : Tid) (label : List ℕ) (member : Member) (number : ℕ) (op : Op) (work : Work) → nat_lt peer.0 work.node.setting.nodes ≡ true → same_node peer work.node.setting.node ≡ false
    → is_past work.node tid ≡ true → tm.told_of tid true (λ part. is_undecided part || is_abort part.outcome) work.node.manager ≡ true
    → StaysSound work (request_came peer tid label member number op work)

-- all that waits is served
abbrev pub ServeAllSound : Type 0
ServeAllSound = (work : Work) → StaysSound work (serve_all work)

-- a client takes its loan
abbrev pub TakeSound : Type 0
TakeSound = (client : ClientNo) (tid : Tid) (loan : Lent) (work : Work) → StaysSound work (take client tid loan work)

-- and gives it back
abbrev pub YieldSound : Type 0
YieldSound = (client : ClientNo) (tid : Tid) (work : Work) → StaysSound work (yield client tid work)

-- the servers of an undecided transaction vote, where a pass is due
abbrev pub PassRuleSound : Type 0
PassRuleSound = (tid : Tid) (part : Participant) (work : Work) → part_of tid work ≡ Some part → is_undecided part ≡ true → StaysSound work (pass_rule tid part work)

-- a node that is ready answers its superior
abbrev pub AnswerSuperiorSound : Type 0
AnswerSuperiorSound = (tid : Tid) (part : Participant) (work : Work) → part_of tid work ≡ Some part → may_answer tid part work ≡ true → StaysSound work (answer_superior tid part work)

-- causes are sent on
abbrev pub RefuseElsewhereSound : Type 0
RefuseElsewhereSound = (tid : Tid) (part : Participant) (work : Work) → StaysSound work (refuse_elsewhere tid part work)

-- what was only read is forgotten
abbrev pub ForgetRuleSound : Type 0
ForgetRuleSound = (tid : Tid) (part : Participant) (work : Work) → part_of tid work ≡ Some part → StaysSound work (forget_rule tid part work)

-- the home aborts
abbrev pub DecideAbortSound : Type 0
DecideAbortSound = (tid : Tid) (part : Participant) (cause : Option Cause) (work : Work) → part_of tid work ≡ Some part → is_undecided part ≡ true → part.engage.home ≡ true → StaysSound work (decide tid outcomes.Abort cause work)

-- the home commits, where nothing of it waits and no loan stands
abbrev pub DecideCommitSound : Type 0
DecideCommitSound = (tid : Tid) (part : Participant) (cause : Option Cause) (work : Work) → part_of tid work ≡ Some part → is_undecided part ≡ true → part.engage.home ≡ true
    → ipc.waits tid work.node.queues ≡ false → is_lent tid work.node ≡ false → StaysSound work (decide tid outcomes.Commit cause work)

-- the node settles at the end of a step
abbrev pub SettleSound : Type 0
SettleSound = (work : Work) → StaysSound work (settle work)

-- a Tell comes: where it says commit, nothing of the transaction waits here, and no loan stands
abbrev pub TellCameSound : Type 0
TellCameSound = (peer : NodeNo) (tid : Tid) (outcome : Outcome) (work : Work) → (outcome ≡ outcomes.Commit → (ipc.waits tid work.node.queues ≡ false) × (is_lent tid work.node ≡ false))
    → StaysSound work (tell_came peer tid outcome work)

-- another node of the run inquires
abbrev pub InquiryCameSound : Type 0
InquiryCameSound = (peer : NodeNo) (tid : Tid) (work : Work) → nat_lt peer.0 work.node.setting.nodes ≡ true → same_node peer work.node.setting.node ≡ false → StaysSound work (inquiry_came peer tid work)

-- a Told comes, where what the home committed is kept
abbrev pub ToldCameSound : Type 0
ToldCameSound = (peer : NodeNo) (tid : Tid) (further : List NodeNo) (work : Work) → keeps_commits work.node ≡ true → StaysSound work (told_came peer tid further work)

-- another node restarted
abbrev pub PeerRestartedSound : Type 0
PeerRestartedSound = (peer : NodeNo) (old new : ℕ) (work : Work) → peer.0 < 16 → StaysSound work (peer_restarted peer old new work)

-- the first step of an incarnation takes up what the log left open
abbrev pub BeginIncarnationSound : Type 0
BeginIncarnationSound = (work : Work) → StaysSound work (begin_incarnation work)

-- a borrower commands
abbrev pub BorrowerCommandSound : Type 0
BorrowerCommandSound = (client : ClientNo) (tid : Tid) (command : Command) (work : Work) → goes_in_run work.node.setting.nodes command ≡ true → StaysSound work (borrower_command client tid command work)

-- an owner commands
abbrev pub OwnerCommandSound : Type 0
OwnerCommandSound = (client : ClientNo) (tid : Tid) (command : Command) (work : Work) → goes_in_run work.node.setting.nodes command ≡ true → is_owned work.node tid ≡ true
    → StaysSound work (owner_command client (Some tid) command work)

-- a node begins a later incarnation with what its log says and with what it saved for its clients
abbrev pub RestartSound : Type 0
RestartSound = (inc : ℕ) (said : Recovery) (node : NodeValue) → nat_lt node.setting.inc inc ≡ true → may_take_up node.setting.node said ≡ true → kept_before node.setting.node inc node.kept.saved ≡ true
    → is_sound node ≡ true → is_sound (opened_node node.manager.alloc (record node.setting { inc = inc }) (recovered_as said) node.kept.saved) ≡ true
