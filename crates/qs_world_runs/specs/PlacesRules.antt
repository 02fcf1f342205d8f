-- What all places hold of a transaction in the middle of a step goes on through each rule: most leave it, and those that bear on it find room for what they do.
use Rattle.std.specs.Prelude.{◌≡◌, ◌⊎◌, ℕ, ◌<◌, ◌==◌, ◌&&◌, not, true, false, Some}
use Rattle.qs_base.specs.Order.{same_tid}
use Rattle.qs_base.specs.declared.identifiers.ClientNo.{ClientNo}
use Rattle.qs_base.specs.declared.identifiers.ServerNo.{ServerNo}
use Rattle.qs_base.specs.declared.identifiers.Tid.{Tid}
use Rattle.qs_ipc.specs.Ipc as ipc
use Rattle.qs_ipc.specs.Queue.{is_for}
use Rattle.qs_ipc.specs.declared.delivery.Delivery.{Delivery}
use Rattle.qs_book_laws.proofs.Outcomes.{Inv}
use Rattle.qs_book_machine.specs.Book.{BookValue, inc_at}
use Rattle.qs_book_machine.specs.Lawful.{IsLawful}
use Rattle.qs_ops.specs.declared.operation.Op.{Op}
use Rattle.qs_ops.specs.declared.reply.Reply.{Reply}
use Rattle.qs_ops.specs.declared.vote.Vote.{Vote}
use Rattle.qs_node_step.specs.Borrowing.{yield}
use Rattle.qs_node_step.specs.Bringing.{is_other}
use Rattle.qs_node_step.specs.Requests.{issue_away, issue_here}
use Rattle.qs_node_step.specs.Restarts.{begin_incarnation}
use Rattle.qs_node_step.specs.Serving.{serve}
use Rattle.qs_node_step.specs.Settling.{forget_rule, ready_rule, refuse_rule, settle_tid, try}
use Rattle.qs_node_step.specs.State.{Work, here, with_queues}
use Rattle.qs_node_step.specs.Voting.{vote_with}
use Rattle.qs_tm.specs.declared.participant.Outstanding.{Outstanding}
use Rattle.qs_world.specs.Posting.{entries_of}
use Rattle.qs_world_runs.specs.Placed.{Field}
use Rattle.qs_world_runs.specs.PlacedActs.{is_against}
use Rattle.qs_world_runs.specs.PlacesAmid.{LeavesPlaces, PlacedAmid, book_amid}

-- what the step has entered so far is lawful
abbrev pub AreLawful : ℕ → ℕ → BookValue → Work → Type 0
AreLawful n stamp before work = IsLawful before (entries_of n stamp work.out.entries)

-- the step is of node n, which runs in the incarnation that the machine has
pub record IsAmid (base : Field) (n stamp : ℕ) (before : BookValue) (work : Work) : Type 0 where
  pub inv : Inv before
  pub here : (here work).0 ≡ n
  pub in_run : n < base.size
  pub up : base.up n ≡ true
  pub inc : inc_at (book_amid n stamp before work) (record { 0 = n }) ≡ base.inc n

-- from a work to what a rule makes of it
abbrev pub GoesOn : Tid → Field → (ℕ → ℕ) → ℕ → ℕ → BookValue → Work → Work → Type 0
GoesOn t base knows n stamp before work new = AreLawful n stamp before new → PlacedAmid t base knows n stamp before work → PlacedAmid t base knows n stamp before new

-- ---- rules that leave it

abbrev pub LeftGoesOn : Type 0
LeftGoesOn = (t : Tid) (base : Field) (knows : ℕ → ℕ) (n stamp : ℕ) (before : BookValue) (work new : Work) → Inv before → LeavesPlaces t work new → GoesOn t base knows n stamp before work new

-- the first step of an incarnation, all that settles another transaction, and all that settles this one but its vote pass
abbrev pub BeginLeaves : Type 0
BeginLeaves = (t : Tid) (work : Work) → LeavesPlaces t work (begin_incarnation work)

abbrev pub OthersLeave : Type 0
OthersLeave = (t tid : Tid) (work : Work) → same_tid tid t ≡ false → LeavesPlaces t work (settle_tid work tid)

abbrev pub RestLeaves : Type 0
RestLeaves = (t tid : Tid) (work : Work) → LeavesPlaces t work (try tid forget_rule (try tid refuse_rule (try tid ready_rule work)))

-- ---- rules that bear on it; a request that is issued has the next number, so none of that number stands

-- the incarnation of a node that is known runs, or none is known
abbrev pub Reaches : Field → (ℕ → ℕ) → ℕ → Type 0
Reaches base knows m = ((knows m == 0) ≡ true) ⊎ ((base.up m ≡ true) × (((knows m == base.inc m) && not (knows m == 0)) ≡ true))

abbrev pub IssueHereGoesOn : Type 0
IssueHereGoesOn = (t : Tid) (base : Field) (knows : ℕ → ℕ) (n stamp : ℕ) (before : BookValue) (work : Work) (request : Outstanding) (op : Op) → IsAmid base n stamp before work → is_for request.member.server op ≡ true → request.member.node ≡ here work
    → GoesOn t base knows n stamp before work (issue_here t request op work)

abbrev pub IssueAwayGoesOn : Type 0
IssueAwayGoesOn = (t : Tid) (base : Field) (knows : ℕ → ℕ) (n stamp : ℕ) (before : BookValue) (work : Work) (request : Outstanding) (op : Op) → IsAmid base n stamp before work → request.member.node.0 < base.size → is_other work.node.setting request.member.node ≡ true
    → Reaches base knows request.member.node.0 → GoesOn t base knows n stamp before work (issue_away t request op work)

abbrev pub ServeGoesOn : Type 0
ServeGoesOn = (t : Tid) (base : Field) (knows : ℕ → ℕ) (n stamp : ℕ) (before : BookValue) (work : Work) (server : ServerNo) (delivery : Delivery) (reply : Reply) → IsAmid base n stamp before work
    → ipc.next server work.node.queues ≡ Some delivery → delivery.tid ≡ t → is_for server delivery.op ≡ true → GoesOn t base knows n stamp before work (serve server delivery reply (with_queues (ipc.after_next server) work))

abbrev pub VoteGoesOn : Type 0
VoteGoesOn = (t : Tid) (base : Field) (knows : ℕ → ℕ) (n stamp : ℕ) (before : BookValue) (work : Work) (server : ServerNo) (ballot : Vote) → IsAmid base n stamp before work → is_against ballot ≡ false → GoesOn t base knows n stamp before work (vote_with t server ballot work)

abbrev pub YieldGoesOn : Type 0
YieldGoesOn = (t : Tid) (base : Field) (knows : ℕ → ℕ) (n stamp : ℕ) (before : BookValue) (work : Work) (client : ClientNo) → IsAmid base n stamp before work → GoesOn t base knows n stamp before work (yield client t work)
