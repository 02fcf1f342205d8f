-- What the course of a run has of its world, as the run begins and after each move.
use Rattle.std.specs.Prelude.{◌≡◌, ⊤, ℕ, ◌<◌, ◌+◌, true, false, List, [], None, Some, is_some, nat_lt, slice_get, if◌then◌else◌}
use Rattle.std.specs.BTreeMap.{is_at}
use Rattle.std.specs.List.{AllByRecursion, find}
use Rattle.std.specs.Map.{lookup}
use Rattle.qs_base.specs.declared.identifiers.ClientNo.{ClientNo}
use Rattle.qs_base.specs.declared.identifiers.NodeNo.{NodeNo}
use Rattle.qs_base.specs.declared.identifiers.Tid.{Tid}
use Rattle.qs_ops.specs.declared.reply.Reply.{Reply}
use Rattle.qs_book_machine.specs.Book.{BookValue, find_label, find_transaction, inc_at}
use Rattle.qs_book_machine.specs.Transaction.{TransactionValue}
use Rattle.qs_book_script.specs.declared.script.Script.{Script}
use Rattle.qs_book_conformance.specs.Answers.{is_outcome_answer}
use Rattle.qs_book_conformance.specs.Begun.{at_start}
use Rattle.qs_book_conformance.specs.Course.{ClientValue, CourseValue, sought_cmp}
use Rattle.qs_node_kept.specs.Keeping.{has_label, is_outcome_of}
use Rattle.qs_node_kept.specs.Loans.{last_taken}
use Rattle.qs_node_kept.specs.declared.kept.Decided.{Decided}
use Rattle.qs_node_kept.specs.declared.kept.Kept.{Kept}
use Rattle.qs_node_kept.specs.declared.kept.KeptLabel.{KeptLabel}
use Rattle.qs_node_kept.specs.declared.kept.Lent.{Lent}
use Rattle.qs_packet.specs.declared.message.Message.{Message}
use Rattle.qs_packet.specs.declared.message.Message.TheVariants as messages
use Rattle.qs_node_step.specs.Borrowing.{is_aborted}
use Rattle.qs_node_step.specs.Commands.{outcome_answer}
use Rattle.qs_node_step.specs.Opening.{closed_kept, recovered_of}
use Rattle.qs_node_step.specs.State.{NodeValue}
use Rattle.qs_node_step.specs.Step.{is_owner}
use Rattle.qs_node_step.specs.declared.state.Issued.{Issued}
use Rattle.qs_node_step.specs.declared.state.OpenCommand.{OpenCommand}
use Rattle.qs_world.specs.Histories.{book_of}
use Rattle.qs_world.specs.Moves.{client_count}
use Rattle.qs_world.specs.World.{Opening, Parcel, World, inc_of, start}
use Rattle.qs_world_opening.specs.CourseScripts.{IsScriptOf}
use Rattle.qs_world_course.specs.Clients.{Commands, ForClients, IsOnCourse, in_hand_of, sought_of}
use Rattle.qs_world_course.specs.Going.{is_given}
use Rattle.qs_world_course.specs.Kinds.{course_on}

-- ---- the course of a world's journal

abbrev pub course_in : Opening → Script → World → CourseValue
course_in o script world = course_on (at_start script (book_of o)) world.journal

-- what a node has for its clients: as it runs, or as its next incarnation will have it
abbrev pub kept_of : World → ℕ → Kept
kept_of world n =
    if world.channels.up n then (world.hosts n).node.kept.now
    else closed_kept (world.hosts n).node.setting.node (recovered_of (world.hosts n).log) (world.hosts n).node.kept.saved

abbrev pub for_clients : World → ℕ → ForClients
for_clients world n = record {
  here = record { 0 = n };
  inc = if world.channels.up n then inc_of world n else inc_of world n + 1;
  in_hand = if world.channels.up n then (world.hosts n).node.commands else [];
  kept = kept_of world n;
}

-- ---- a node

-- labels tell their transactions, and the outcomes that are kept are those of the cells, with their causes
pub record IsToldSo (book : BookValue) (tid : Tid) (decided : Decided) : Type 0 where
  pub tx : TransactionValue
  pub found : find_transaction book tid ≡ Some tx
  pub so : is_outcome_answer tx.cell tx.cause (outcome_answer decided) ≡ true

pub record HoldsNames (book : BookValue) (kept : Kept) : Type 0 where
  pub labels : (label : List ℕ) (begun : KeptLabel) (tid : Tid) → (label ≡ [] → ⊥) → find (has_label label) kept.labels ≡ Some begun → begun.tid ≡ Some tid
      → find_label book label ≡ Some tid
  pub outcomes : (tid : Tid) (decided : Decided) → find (is_outcome_of tid) kept.outcomes ≡ Some decided → IsToldSo book tid decided

-- where a command waits for a reply, what was given since its request was issued is kept
abbrev pub AwaitsReplies : NodeNo → CourseValue → Commands → Type 0
AwaitsReplies here course in_hand = (client : ClientNo) (command : OpenCommand) (issued : Issued) → in_hand_of client in_hand ≡ Some command → command.issued ≡ Some issued
    → (given : List Reply) × (lookup (is_at (sought_cmp (sought_of here issued))) course.replies ≡ Some given)

-- what is in hand between steps is not to be answered: an owner's transaction is not decided, and a borrower's request waits on a loan that stands
pub record WaitsOnLoan (node : NodeValue) (client : ClientNo) (tid : Tid) (issued : Issued) : Type 0 where
  pub its : issued.tid ≡ tid
  pub unaborted : is_aborted tid node ≡ false
  pub loan : Lent
  pub last : last_taken client tid node.kept.now.loans ≡ Some loan
  pub ungiven : loan.yielded ≡ false
  pub present : loan.inc ≡ node.setting.inc

pub record IsOpenStill (node : NodeValue) (client : ClientNo) (command : OpenCommand) : Type 0 where
  pub owned : (begun : KeptLabel) (tid : Tid) → find (has_label command.line.label) node.kept.now.labels ≡ Some begun → begun.tid ≡ Some tid → is_owner client begun.owner ≡ true
      → find (is_outcome_of tid) node.kept.now.outcomes ≡ None
  pub lent : (begun : KeptLabel) (tid : Tid) (issued : Issued) → find (has_label command.line.label) node.kept.now.labels ≡ Some begun → begun.tid ≡ Some tid
      → is_owner client begun.owner ≡ false → command.issued ≡ Some issued → WaitsOnLoan node client tid issued

abbrev pub HoldsOpen : NodeValue → Type 0
HoldsOpen node = (client : ClientNo) (command : OpenCommand) → in_hand_of client node.commands ≡ Some command → IsOpenStill node client command

pub record NodeOnCourse (course : CourseValue) (world : World) (n : ℕ) : Type 0 where
  pub names : HoldsNames course.book (world.hosts n).node.kept.saved
  pub waits : world.channels.up n ≡ true → AwaitsReplies (record { 0 = n }) course (world.hosts n).node.commands
  pub opens : world.channels.up n ≡ true → HoldsOpen (world.hosts n).node

-- ---- messages: a request tells the label of its transaction, and a reply to the present incarnation was given

abbrev pub IsTrueMessage : CourseValue → ℕ → ℕ → ℕ → Message → Type 0
IsTrueMessage course n m j (messages.Request tid label member number issuer op) = (label ≡ [] → ⊥) → find_label course.book label ≡ Some tid
IsTrueMessage course n m j (messages.Answered tid member number reply) =
    inc_at course.book (record { 0 = m }) ≡ j → is_given course.replies (record { tid = tid; member = member; from = record { 0 = m }; number = number }) reply ≡ true
IsTrueMessage course n m j message = ⊤

pub record HoldsMessages (course : CourseValue) (world : World) : Type 0 where
  pub posted : (n m i j : ℕ) → AllByRecursion (λ (parcel : Parcel). IsTrueMessage course n m j parcel.message) (world.channels.posted n m i j)
  pub waits : (n m : ℕ) → AllByRecursion (λ (parcel : Parcel). IsTrueMessage course n m 0 parcel.message) (world.channels.waits n m)

-- ---- all of it

pub record OnCourseAt (o : Opening) (script : Script) (world : World) : Type 0 where
  pub clients : (k : ℕ) → nat_lt k client_count ≡ true → (state : ClientValue) → slice_get (course_in o script world).clients k ≡ Some state → is_some state.seat ≡ true
      → IsOnCourse (for_clients world (world.clients k).at) (record { 0 = k }) (world.clients k).lines state
  pub nodes : (n : ℕ) → n < world.size → NodeOnCourse (course_in o script world) world n
  pub messages : HoldsMessages (course_in o script world) world

-- as a run begins with a script, its course has what the world has
abbrev pub OpensOnCourse : Type 0
OpensOnCourse = (o : Opening) (script : Script) → IsScriptOf o script → OnCourseAt o script (start o)
