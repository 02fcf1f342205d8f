-- A request that a node issued to another one waits at its own node until its reply comes: files vote no more before that, and a client does nothing else, so that a
-- loan of its own stands, or the node is the home. So its node is engaged as long as it waits.
use Rattle.std.specs.Prelude.{◌≡◌, ◌⊎◌, ℕ, ◌==◌, ◌&&◌, ◌||◌, Bool, true, false, List, [], ◌∷◌, Some, None, is_some, ⊤}
use Rattle.std.specs.BTreeMap.{is_at}
use Rattle.std.specs.List.{find, list_any}
use Rattle.std.specs.Map.{lookup}
use Rattle.qs_base.specs.Order.{same_member}
use Rattle.qs_base.specs.declared.identifiers.ClientNo.{ClientNo}
use Rattle.qs_base.specs.declared.identifiers.Member.{Member}
use Rattle.qs_base.specs.declared.identifiers.Tid.{Tid}
use Rattle.qs_engage.specs.Nodes.{same_node}
use Rattle.qs_node_kept.specs.Keeping.{has_label}
use Rattle.qs_node_kept.specs.Loans.{is_standing_loan}
use Rattle.qs_node_kept.specs.declared.kept.KeptLabel.{KeptLabel}
use Rattle.qs_node_kept.specs.declared.kept.Kept.{Kept}
use Rattle.qs_node_kept.specs.declared.kept.Lent.{Lent}
use Rattle.qs_ops.specs.declared.operation.Op.{Op}
use Rattle.qs_packet.specs.declared.message.Message.TheVariants as messages
use Rattle.qs_node_step.specs.Answering.{kept_outcome}
use Rattle.qs_node_step.specs.Requests.{issue_as}
use Rattle.qs_node_step.specs.Settling.{is_lent}
use Rattle.qs_node_step.specs.State.{NodeValue, Work, client_cmp, here, part_of}
use Rattle.qs_node_step.specs.Step.{after_step, is_owner}
use Rattle.qs_node_step.specs.declared.event.Event.{Event}
use Rattle.qs_node_step.specs.declared.event.Event.TheVariants as events
use Rattle.qs_node_step.specs.declared.state.Issued.{Issued}
use Rattle.qs_node_step.specs.declared.state.OpenCommand.{OpenCommand}
use Rattle.qs_tm.specs.Manager as tm
use Rattle.qs_tm.specs.Participant.{is_by_files, needs_pass}
use Rattle.qs_tm.specs.declared.manager.Manager.{Manager}
use Rattle.qs_tm.specs.declared.participant.Outstanding.{Outstanding}
use Rattle.qs_tm.specs.declared.participant.Participant.{Participant}
use Rattle.qs_world_refine.specs.Sound.{is_engaged, is_sound}
use Rattle.qs_world_lawful.specs.GivenStep.{first_work}

abbrev pub Among : {A : Type 0} → A → List A → Type 0
Among x [] = ⊥
Among x (y ∷ ys) = (x ≡ y) ⊎ Among x ys

-- ---- a client of the node, elsewhere than at the home

abbrev pub is_lent_to : ClientNo → Tid → ℕ → Lent → Bool
is_lent_to client tid inc loan = (loan.client.0 == client.0) && is_standing_loan tid inc loan

abbrev pub its_request : Tid → Member → ℕ → Issued
its_request tid member number = record { tid = tid; member = member; number = number }

-- its command is issued as that request, under a label that is another's, and a loan of its own stands
pub record IsBorrowedOf (tid : Tid) (member : Member) (number : ℕ) (commands : List (ClientNo × OpenCommand)) (labels : List KeptLabel) (loans : List Lent) (inc : ℕ) : Type 0 where
  pub client : ClientNo
  pub command : OpenCommand
  pub there : lookup (is_at (client_cmp client)) commands ≡ Some command
  pub issued : command.issued ≡ Some (its_request tid member number)
  pub begun : KeptLabel
  pub label : find (has_label command.line.label) labels ≡ Some begun
  pub other : is_owner client begun.owner ≡ false
  pub lent : list_any (is_lent_to client tid inc) loans ≡ true

abbrev pub IsBorrowed : Tid → Member → ℕ → List (ClientNo × OpenCommand) → Kept → ℕ → Type 0
IsBorrowed tid member number commands kept inc = IsBorrowedOf tid member number commands kept.labels kept.loans inc

-- ---- it waits

pub record WaitsOf (tid : Tid) (member : Member) (number : ℕ) (manager : Manager) (commands : List (ClientNo × OpenCommand)) (labels : List KeptLabel) (loans : List Lent) (inc : ℕ) : Type 0 where
  pub part : Participant
  pub known : tm.part_of tid manager ≡ Some part
  pub undecided : part.outcome ≡ None
  pub engaged : is_engaged part ≡ true
  pub request : Outstanding
  pub to_member : request.member ≡ member
  pub numbered : request.number ≡ number
  pub among : Among request part.waiting
  pub holds : (is_by_files request ≡ true) ⊎ ((part.engage.home ≡ true) ⊎ IsBorrowedOf tid member number commands labels loans inc)

abbrev pub WaitsIn : Tid → Member → ℕ → Manager → List (ClientNo × OpenCommand) → Kept → ℕ → Type 0
WaitsIn tid member number manager commands kept inc = WaitsOf tid member number manager commands kept.labels kept.loans inc

abbrev pub WaitsAt : Tid → Member → ℕ → NodeValue → Type 0
WaitsAt tid member number node = WaitsIn tid member number node.manager node.commands node.kept.now node.setting.inc

-- or the node has decided the transaction
abbrev pub IsWaiting : Tid → Member → ℕ → NodeValue → Type 0
IsWaiting tid member number node = WaitsAt tid member number node ⊎ (is_some (kept_outcome tid node) ≡ true)

-- from a work to what a rule makes of it; D says that the rule takes in its outcome, or its reply
abbrev pub WaitsOn : Type 0 → Tid → Member → ℕ → Work → Work → Type 0
WaitsOn D tid member number work new = IsWaiting tid member number work.node → IsWaiting tid member number new.node ⊎ D

-- ---- a whole step

-- its reply comes, or its outcome
abbrev pub TakesIt : Tid → Member → ℕ → Event → Type 0
TakesIt tid member number (events.Received peer (messages.Answered t m n reply)) = (t ≡ tid) × ((same_member member m && (number == n)) ≡ true)
TakesIt tid member number (events.Received peer (messages.Tell t outcome)) = t ≡ tid
TakesIt tid member number event = ⊥

-- a command is of a client that has none in hand, and what it begins, if anything, was unknown
abbrev pub ComesSo : Tid → Event → Work → Type 0
ComesSo tid (events.Command client line label command) work = (is_some (tm.part_of tid work.node.manager) ≡ true → tm.next_tid work.node.manager ≡ tid → ⊥) × (lookup (is_at (client_cmp client)) work.node.commands ≡ None)
ComesSo tid event work = ⊤

-- a request to another node that waits for its reply waits on, or its node has decided
abbrev pub StepsWaitOn : Type 0
StepsWaitOn = (tid : Tid) (member : Member) (number : ℕ) (node : NodeValue) (event : Event) (free : ℕ) → same_node member.node node.setting.node ≡ false → ComesSo tid event (first_work node free)
    → IsWaiting tid member number node → IsWaiting tid member number (after_step node event free) ⊎ TakesIt tid member number event

-- what is issued to another node waits then
abbrev pub HoldsIt : Tid → Outstanding → Participant → Work → Type 0
HoldsIt tid request part work = (is_by_files request ≡ true) ⊎ ((part.engage.home ≡ true) ⊎ IsBorrowed tid request.member request.number work.node.commands work.node.kept.now work.node.setting.inc)

abbrev pub IssuesWait : Type 0
IssuesWait = (tid : Tid) (request : Outstanding) (op : Op) (work : Work) (part : Participant) → part_of tid work ≡ Some part → part.outcome ≡ None → is_engaged part ≡ true → same_node request.member.node (here work) ≡ false → HoldsIt tid request part work
    → IsWaiting tid request.member request.number (issue_as tid request op work).node

-- and it is engaged as it issues: where its own pass is due, and while a loan stands
abbrev pub BusyEngaged : Type 0
BusyEngaged = (tid : Tid) (node : NodeValue) (part : Participant) → is_sound node ≡ true → tm.part_of tid node.manager ≡ Some part → part.outcome ≡ None → (needs_pass part || is_lent tid node) ≡ true → is_engaged part ≡ true

-- so its node is engaged
abbrev pub WaitsEngaged : Type 0
WaitsEngaged = (tid : Tid) (member : Member) (number : ℕ) (node : NodeValue) (part : Participant) → tm.part_of tid node.manager ≡ Some part → part.outcome ≡ None → WaitsAt tid member number node → is_engaged part ≡ true
