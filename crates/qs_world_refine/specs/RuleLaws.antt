-- The laws of rules of a node: what shows the work before shows it after, by events of the agreement machine.
use Rattle.std.specs.Prelude.{◌≡◌, ◌≢◌, ◌⊎◌, ℕ, ◌<◌, ◌≤◌, ◌==◌, true, false, List, ◌∷◌, Some, None}
use Rattle.qs_base.specs.declared.identifiers.Class.TheVariants as classes
use Rattle.qs_base.specs.declared.identifiers.ClientNo.{ClientNo}
use Rattle.qs_base.specs.declared.identifiers.Member.{Member}
use Rattle.qs_base.specs.declared.identifiers.NodeNo.{NodeNo}
use Rattle.qs_base.specs.declared.identifiers.Outcome.TheVariants as outcomes
use Rattle.qs_base.specs.declared.identifiers.ServerNo.{ServerNo}
use Rattle.qs_base.specs.declared.identifiers.Tid.{Tid}
use Rattle.qs_engage.specs.Engage.{next_sent, last_number}
use Rattle.qs_engage.specs.Nodes.{has_node}
use Rattle.qs_ipc.specs.Ipc.{queue_at}
use Rattle.qs_ipc.specs.Queue.{is_for}
use Rattle.qs_ipc.specs.declared.delivery.Delivery.{Delivery}
use Rattle.qs_ops.specs.Members.{class_of}
use Rattle.qs_ops.specs.declared.answer.Cause.{Cause}
use Rattle.qs_ops.specs.declared.operation.Op.{Op}
use Rattle.qs_ops.specs.declared.reply.Reply.{Reply}
use Rattle.qs_ops.specs.declared.vote.Reason.{Reason}
use Rattle.qs_ops.specs.declared.vote.Vote.TheVariants as votes
use Rattle.qs_packet.specs.declared.message.Message.{Message}
use Rattle.qs_packet.specs.declared.message.Message.TheVariants as messages
use Rattle.qs_tm.specs.Manager as tm
use Rattle.qs_tm.specs.Participant as participant
use Rattle.qs_tm.specs.Participant.{is_undecided, member_of}
use Rattle.qs_tm.specs.declared.participant.Outstanding.{Outstanding}
use Rattle.qs_tm.specs.declared.participant.Participant.{Participant}
use Rattle.qs_node_step.specs.Commands.{ask}
use Rattle.qs_node_step.specs.Requests.{issue_away, issue_here}
use Rattle.qs_node_step.specs.Serving.{serve_next, reply_here, lent_to}
use Rattle.qs_node_step.specs.Settling.{is_busy, answer_superior}
use Rattle.qs_node_step.specs.Step.{message_came}
use Rattle.qs_node_step.specs.State.{Work, part_of}
use Rattle.qs_node_step.specs.Voting.{vote_with}
use Rattle.qs_world_agree.specs.World.{World}
use Rattle.qs_world_agree.specs.Carry.{IsLawful}
use Rattle.qs_world_refine.specs.Links.{node_no}
use Rattle.qs_world_refine.specs.Messages.{IsForeign}
use Rattle.qs_world_refine.specs.NodeFaces.{face, face_at, part_at, loans_at}
use Rattle.qs_world_refine.specs.Seen.{MayVote}
use Rattle.qs_world_refine.specs.Shows.{Scene, sight_during, ShowsWork, handed}
use Rattle.qs_world_refine.specs.Sights.{server_no, is_in_doubt}
use Rattle.qs_world_refine.specs.Sound.{is_covered_vote}
use Rattle.qs_world_refine.specs.Steps.{IsAt, IsWhole, Knows, IsKnown, IsNext, IsToldSet, Goes}

-- a VotedYes, or a Covered, comes to a node that knows the transaction and not its outcome: Count
abbrev pub VotedYesGoes : Type 0
VotedYesGoes = (tid : Tid) (scene : Scene) (n m i up_to : ℕ) (told : List NodeNo) (rest : List Message) (work : Work) (part : Participant) (w : World) → IsLawful w → ShowsWork tid scene n work w
    → IsAt scene n work → IsNext scene n m i (messages.VotedYes tid up_to told) rest → Knows tid work part → part.outcome ≡ None → IsToldSet tid told → has_node part.told tid.home ≡ false → tid.home.0 < 16
    → Goes tid (handed scene m i n rest) n (message_came (node_no m) (messages.VotedYes tid up_to told) work) w

abbrev pub CoveredGoes : Type 0
CoveredGoes = (tid : Tid) (scene : Scene) (n m i up_to : ℕ) (rest : List Message) (work : Work) (part : Participant) (w : World) → IsLawful w → ShowsWork tid scene n work w
    → IsAt scene n work → IsNext scene n m i (messages.Covered tid up_to) rest → Knows tid work part → part.outcome ≡ None → has_node part.told tid.home ≡ false → tid.home.0 < 16
    → Goes tid (handed scene m i n rest) n (message_came (node_no m) (messages.Covered tid up_to) work) w

-- a request goes to another node that is known: Issue
abbrev pub IssueAwayGoes : Type 0
IssueAwayGoes = (tid : Tid) (scene : Scene) (n m i : ℕ) (request : Outstanding) (op : Op) (work : Work) (part : Participant) (w : World) → IsLawful w → ShowsWork tid scene n work w
    → IsAt scene n work → IsKnown scene n m i → request.member.node ≡ node_no m → Knows tid work part → part.outcome ≡ None → next_sent (node_no m) part.engage ≡ Some request.number
    → ((face work.node tid part).on ≡ true) ⊎ (1 ≤ loans_at work.node tid)
    → Goes tid scene n (issue_away tid request op work) w

-- a request comes to another node than the home: Engage without a superior, Join from the superior, Cover from another; where abort is known
-- it is dropped: Drop_engage, Drop_join, Drop_cover
abbrev pub RequestGoes : Type 0
RequestGoes = (tid : Tid) (scene : Scene) (n m i number : ℕ) (label : List ℕ) (member : Member) (issuer : ServerNo) (op : Op) (rest : List Message) (work : Work) (w : World) → IsLawful w → ShowsWork tid scene n work w
    → IsAt scene n work → IsNext scene n m i (messages.Request tid label member number issuer op) rest → work.node.manager.node ≡ work.node.setting.node
    → tid.home.0 ≢ n → tid.home.0 < scene.size → is_for member.server op ≡ true
    → IsWhole (part_at work.node tid) → (part_at work.node tid).engage.home ≡ false → ((part_at work.node tid).outcome ≡ None) ⊎ ((part_at work.node tid).outcome ≡ Some outcomes.Abort)
    → Goes tid (handed scene m i n rest) n (message_came (node_no m) (messages.Request tid label member number issuer op) work) w

-- a reply comes: no event
abbrev pub AnsweredGoes : Type 0
AnsweredGoes = (tid : Tid) (scene : Scene) (n m i number : ℕ) (member : Member) (reply : Reply) (rest : List Message) (work : Work) (w : World) → ShowsWork tid scene n work w
    → IsNext scene n m i (messages.Answered tid member number reply) rest
    → Goes tid (handed scene m i n rest) n (message_came (node_no m) (messages.Answered tid member number reply) work) w

-- a refusal comes: no event, since a node that can't be ready any more is stricter than the machine
abbrev pub RefusalGoes : Type 0
RefusalGoes = (tid : Tid) (scene : Scene) (n m i : ℕ) (cause : Cause) (rest : List Message) (work : Work) (w : World) → ShowsWork tid scene n work w → IsAt scene n work
    → IsNext scene n m i (messages.VotedAbort tid cause) rest
    → Goes tid (handed scene m i n rest) n (message_came (node_no m) (messages.VotedAbort tid cause) work) w

-- a node is asked to vote: Ask, or none
abbrev pub AskVoteGoes : Type 0
AskVoteGoes = (tid : Tid) (scene : Scene) (n m i : ℕ) (rest : List Message) (work : Work) (w : World) → ShowsWork tid scene n work w → IsAt scene n work
    → IsNext scene n m i (messages.AskVote tid) rest
    → Goes tid (handed scene m i n rest) n (message_came (node_no m) (messages.AskVote tid) work) w

-- a server votes recoverable, and its Prepare is logged: Vote_recoverable
abbrev pub RecoverableGoes : Type 0
RecoverableGoes = (tid : Tid) (scene : Scene) (n s : ℕ) (work : Work) (part : Participant) (w : World) → ShowsWork tid scene n work w
    → IsAt scene n work → Knows tid work part → part.outcome ≡ None → s < 7 → MayVote (face work.node tid part) s → class_of s ≡ classes.Recoverable
    → Goes tid scene n (vote_with tid (server_no s) votes.Recoverable work) w

-- volatile, with nothing in the log: Vote_volatile
abbrev pub VolatileGoes : Type 0
VolatileGoes = (tid : Tid) (scene : Scene) (n s : ℕ) (work : Work) (part : Participant) (w : World) → ShowsWork tid scene n work w
    → IsAt scene n work → Knows tid work part → part.outcome ≡ None → s < 7 → MayVote (face work.node tid part) s → class_of s ≡ classes.Volatile
    → Goes tid scene n (vote_with tid (server_no s) votes.Volatile work) w

-- read-only: Vote_read
abbrev pub ReadOnlyGoes : Type 0
ReadOnlyGoes = (tid : Tid) (scene : Scene) (n s : ℕ) (work : Work) (part : Participant) (w : World) → ShowsWork tid scene n work w
    → IsAt scene n work → Knows tid work part → part.outcome ≡ None → s < 7 → MayVote (face work.node tid part) s → (class_of s ≡ classes.Recoverable) ⊎ (class_of s ≡ classes.Volatile)
    → Goes tid scene n (vote_with tid (server_no s) votes.ReadOnly work) w

-- against a commit: Vote_abort, and Vote_read, since the vote counts as cast
abbrev pub AgainstGoes : Type 0
AgainstGoes = (tid : Tid) (scene : Scene) (n s : ℕ) (reason : Reason) (work : Work) (part : Participant) (w : World) → ShowsWork tid scene n work w
    → IsAt scene n work → Knows tid work part → part.outcome ≡ None → s < 7 → MayVote (face work.node tid part) s → (class_of s ≡ classes.Recoverable) ⊎ (class_of s ≡ classes.Volatile)
    → Goes tid scene n (vote_with tid (server_no s) (votes.Abort reason) work) w

-- a Covered or VotedYes comes to a node that is not engaged, and that does not know the transaction or knows how it ended: Ignore
abbrev pub CloserIgnored : Type 0
CloserIgnored = (tid : Tid) (scene : Scene) (n m i up_to : ℕ) (told : List NodeNo) (rest : List Message) (work : Work) (w : World) → ShowsWork tid scene n work w → IsAt scene n work
    → IsNext scene n m i (messages.VotedYes tid up_to told) rest → (face_at work.node tid).on ≡ false → tm.told_of tid false is_undecided work.node.manager ≡ false
    → Goes tid (handed scene m i n rest) n (message_came (node_no m) (messages.VotedYes tid up_to told) work) w

-- a request comes to the home: Cover while it is undecided, Drop_cover once it is decided
abbrev pub RequestHomeGoes : Type 0
RequestHomeGoes = (tid : Tid) (scene : Scene) (n m i number : ℕ) (label : List ℕ) (member : Member) (issuer : ServerNo) (op : Op) (rest : List Message) (work : Work) (part : Participant) (w : World) → IsLawful w → ShowsWork tid scene n work w
    → IsAt scene n work → IsNext scene n m i (messages.Request tid label member number issuer op) rest → Knows tid work part → part.engage.home ≡ true → part.engage.superior ≡ None
    → tid.home.0 ≡ n → is_for member.server op ≡ true → (part.outcome ≡ None → tid.inc ≡ scene.inc n)
    → Goes tid (handed scene m i n rest) n (message_came (node_no m) (messages.Request tid label member number issuer op) work) w

-- one comes to the home's node where the transaction is forgotten, or runs in a later incarnation that does not know it: Drop_cover
abbrev pub RequestUnknownGoes : Type 0
RequestUnknownGoes = (tid : Tid) (scene : Scene) (m i number : ℕ) (label : List ℕ) (member : Member) (issuer : ServerNo) (op : Op) (rest : List Message) (work : Work) (w : World) → IsLawful w → ShowsWork tid scene tid.home.0 work w
    → IsAt scene tid.home.0 work → IsNext scene tid.home.0 m i (messages.Request tid label member number issuer op) rest → part_of tid work ≡ None → (face_at work.node tid).on ≡ false
    → Goes tid (handed scene m i tid.home.0 rest) tid.home.0 (message_came (node_no m) (messages.Request tid label member number issuer op) work) w

-- a message about another transaction: no event
abbrev pub ForeignGoes : Type 0
ForeignGoes = (t : Tid) (scene : Scene) (n m i : ℕ) (message : Message) (rest : List Message) (work : Work) (w : World) → ShowsWork t scene n work w
    → IsNext scene n m i message rest → IsForeign t message
    → Goes t (handed scene m i n rest) n (message_came (node_no m) message work) w

-- the request that waits first at a server is served
abbrev pub ServesFirst : Tid → ℕ → Delivery → List Delivery → Reply → Work → Participant → Type 0
ServesFirst tid s d rest reply work part =
    ((queue_at work.node.queues (server_no s)).waiting ≡ d ∷ rest) × (d.tid ≡ tid) × (reply_here (server_no s) tid d.op work.node ≡ Some reply) × (part.outcome ≡ None)

-- by a server of the node, whose last vote covers no more than it served: Serve where it votes or is told nothing, Serve_told where it is told without a vote
abbrev pub ServeNextGoes : Type 0
ServeNextGoes = (tid : Tid) (scene : Scene) (n s : ℕ) (d : Delivery) (rest : List Delivery) (reply : Reply) (work : Work) (part : Participant) (w : World) → ShowsWork tid scene n work w
    → IsAt scene n work → Knows tid work part → ServesFirst tid s d rest reply work part → s < 7 → ((member_of part (server_no s)).served == last_number) ≡ false → is_covered_vote (member_of part (server_no s)) ≡ true
    → lent_to d.op ≡ None
    → Goes tid scene n (serve_next work (server_no s)) w

-- by a client that takes a loan: Lend
abbrev pub LendNextGoes : Type 0
LendNextGoes = (tid : Tid) (scene : Scene) (n s : ℕ) (d : Delivery) (rest : List Delivery) (reply : Reply) (client : ClientNo) (work : Work) (part : Participant) (w : World) → ShowsWork tid scene n work w
    → IsAt scene n work → Knows tid work part → ServesFirst tid s d rest reply work part → 7 ≤ s → class_of s ≡ classes.Activity → lent_to d.op ≡ Some client
    → Goes tid scene n (serve_next work (server_no s)) w

-- a Tell with commit comes from the home's node to one that is undecided: Learn where the node is involved, else Acknowledge; a node with a Prepare is involved,
-- and the log of one without has nothing in doubt
abbrev pub TellCommitGoes : Type 0
TellCommitGoes = (tid : Tid) (scene : Scene) (n m i : ℕ) (rest : List Message) (work : Work) (part : Participant) (w : World) → IsLawful w → ShowsWork tid scene n work w
    → IsAt scene n work → IsNext scene n m i (messages.Tell tid outcomes.Commit) rest → m ≡ tid.home.0 → Knows tid work part → part.outcome ≡ None → part.engage.home ≡ false
    → (part.log.prepared ≡ true → part.involved ≡ true) → (part.log.prepared ≡ false → (s : ℕ) → is_in_doubt tid s ((sight_during tid scene n work).found n) ≡ false)
    → Goes tid (handed scene m i n rest) n (message_came (node_no m) (messages.Tell tid outcomes.Commit) work) w

-- a node that may answer for all that came to it and all that it sent answers its superior: Yes, or Yes_lost where that restarted since
abbrev pub AnswerSuperiorGoes : Type 0
AnswerSuperiorGoes = (tid : Tid) (scene : Scene) (n m i : ℕ) (work : Work) (part : Participant) (w : World) → IsLawful w → ShowsWork tid scene n work w
    → IsAt scene n work → IsKnown scene n m i → Knows tid work part → part.outcome ≡ None → part.engage.superior ≡ Some (node_no m) → tid.home.0 ≢ n → tid.home.0 < scene.size
    → participant.is_ready (is_busy tid work.node part) part ≡ true
    → Goes tid scene n (answer_superior tid part work) w

-- a request goes to a server of its own node: Issue_local
abbrev pub IssueHereGoes : Type 0
IssueHereGoes = (tid : Tid) (scene : Scene) (n : ℕ) (request : Outstanding) (op : Op) (work : Work) (part : Participant) (w : World) → ShowsWork tid scene n work w
    → IsAt scene n work → Knows tid work part → part.outcome ≡ None → is_for request.member.server op ≡ true → ((face work.node tid part).on ≡ true) ⊎ (1 ≤ loans_at work.node tid)
    → Goes tid scene n (issue_here tid request op work) w

-- the owner asks for the commit: Ask
abbrev pub OwnerAsksGoes : Type 0
OwnerAsksGoes = (tid : Tid) (scene : Scene) (n : ℕ) (work : Work) (part : Participant) (w : World) → ShowsWork tid scene n work w → IsAt scene n work → Knows tid work part
    → Goes tid scene n (ask tid part work) w
