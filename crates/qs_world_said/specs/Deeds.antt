-- Each thing that a step does for clients breaks no rule of clients, and leaves the course what the node has for them: where the rule that does it has tested what it tests, and where
-- at that stage is known what is known. A command is issued once, and what speaks of the loan of the last take is no take: the rules test both.
use Rattle.std.specs.Prelude.{◌≡◌, ◌⊎◌, ⊤, ℕ, true, false, List, None, Option, Some, slice_get}
use Rattle.qs_base.specs.declared.identifiers.ClientNo.{ClientNo}
use Rattle.qs_base.specs.declared.identifiers.Member.{Member}
use Rattle.qs_base.specs.declared.identifiers.ServerNo.{ServerNo}
use Rattle.qs_base.specs.declared.identifiers.Tid.{Tid}
use Rattle.qs_ipc.specs.declared.delivery.Delivery.{Delivery}
use Rattle.qs_ops.specs.declared.answer.Cause.{Cause}
use Rattle.qs_ops.specs.declared.answer.Cause.TheVariants as causes
use Rattle.qs_ops.specs.declared.operation.Op.{Op}
use Rattle.qs_ops.specs.declared.reply.Reply.{Reply}
use Rattle.qs_book_journal.specs.declared.script_line.Command.TheVariants as commands
use Rattle.qs_book_journal.specs.declared.script_line.ScriptLine.{ScriptLine}
use Rattle.qs_book_conformance.specs.Commands.{is_take}
use Rattle.qs_book_conformance.specs.Course.{ClientValue, CourseValue}
use Rattle.qs_node_kept.specs.Loans.{first_untaken, last_taken}
use Rattle.qs_node_kept.specs.declared.kept.Decided.{Decided}
use Rattle.qs_node_kept.specs.declared.kept.Lent.{Lent}
use Rattle.qs_node_servers.specs.Servers.{client_of, client_server}
use Rattle.qs_node_step.specs.Answering.{kept_outcome}
use Rattle.qs_node_step.specs.Borrowing.{is_aborted, is_void}
use Rattle.qs_node_step.specs.Serving.{lent_to}
use Rattle.qs_node_step.specs.State.{Work}
use Rattle.qs_node_step.specs.declared.state.Issued.{Issued}
use Rattle.qs_node_step.specs.declared.state.OpenCommand.{OpenCommand}
use Rattle.qs_tm.specs.Manager as tm
use Rattle.qs_tm.specs.declared.manager.BeginFault.TheVariants as faults
use Rattle.qs_tm.specs.declared.participant.Outstanding.{Outstanding}
use Rattle.qs_world_course.specs.Clients.{IsOver}
use Rattle.qs_world_course.specs.Reasons.{IsUnseen, aborted}
use Rattle.qs_world_walk.specs.Deed.{Deed, did, fresh_command}
use Rattle.qs_world_walk.specs.Deed as d
use Rattle.qs_world_walk.specs.May.{HasLoan, InHand, IsMet, MayUse}
use Rattle.qs_world_said.specs.Amid.{DoneFor, IsSaidSo, JustCame, KeepsOn, clients_of, course_amid, unhanded}
use Rattle.qs_world_said.specs.Knows.{ComesFirst, IsNewLabel, KnowsAtStage, KnowsReply, KnowsRoom, SitsHere}

module _ (stamp : ℕ) (before : CourseValue) (work : Work) where
  abbrev pub course : CourseValue
  course = course_amid stamp before work

  abbrev pub Knows : Type 0
  Knows = KnowsAtStage course work.node

  abbrev pub Goes : Deed → Type 0
  Goes deed = KeepsOn stamp before work (did deed work)

  abbrev pub Done : ClientNo → Deed → Type 0
  Done client deed = DoneFor stamp before client work (did deed work)

-- what no client sees
abbrev pub UnseenKeeps : Type 0
UnseenKeeps = (stamp : ℕ) (before : CourseValue) (work new : Work) → IsUnseen work new → KeepsOn stamp before work new

-- ---- a line comes; and the label of a request

abbrev pub ComesKeeps : Type 0
ComesKeeps = (stamp : ℕ) (before : CourseValue) (work : Work) (line : ScriptLine) → ComesFirst (course stamp before work) work.node line
    → IsSaidSo stamp before None work → IsSaidSo stamp before (Some line.client) (did (d.Opens line) work)

-- nothing was done for it since
abbrev pub ComesJust : Type 0
ComesJust = (stamp : ℕ) (before : CourseValue) (work : Work) (line : ScriptLine) → ComesFirst (course stamp before work) work.node line → IsSaidSo stamp before None work → (state : ClientValue)
    → slice_get (course stamp before work).clients line.client.0 ≡ Some state → JustCame (clients_of (did (d.Opens line) work)) line.client state

-- where nothing is done for it, nothing is left to be answered
abbrev pub RestsKeep : Type 0
RestsKeep = (stamp : ℕ) (before : CourseValue) (work : Work) (line : ScriptLine) → InHand line.client (fresh_command line) work
    → (line.command ≡ commands.Take) ⊎ (IsOver line.client (unhanded (clients_of work)) line.label → ⊥) → IsSaidSo stamp before (Some line.client) work → IsSaidSo stamp before None work

abbrev pub LearnsKeeps : Type 0
LearnsKeeps = (stamp : ℕ) (before : CourseValue) (work : Work) (label : List ℕ) (tid : Tid) → IsNewLabel (course stamp before work) work.node label → Goes stamp before work (d.Labels label tid)

-- ---- a begin

abbrev pub BeginsKeep : Type 0
BeginsKeep = (stamp : ℕ) (before : CourseValue) (work : Work) (line : ScriptLine) → Knows stamp before work → InHand line.client (fresh_command line) work → line.command ≡ commands.Begin
    → IsNewLabel (course stamp before work) work.node line.label → Done stamp before work line.client (d.Begins line)

abbrev pub RefusesKeep : Type 0
RefusesKeep = (stamp : ℕ) (before : CourseValue) (work : Work) (line : ScriptLine) (need room : ℕ) → Knows stamp before work → InHand line.client (fresh_command line) work → line.command ≡ commands.Begin
    → tm.begin_fault work.room work.node.manager ≡ Some (faults.LogFull need room) → IsNewLabel (course stamp before work) work.node line.label → KnowsRoom (course stamp before work) work.node
    → Done stamp before work line.client (d.Refuses line need room)

-- ---- answers that are no replies

abbrev pub UnbegunKeeps : Type 0
UnbegunKeeps = (stamp : ℕ) (before : CourseValue) (work : Work) (client : ClientNo) (command : OpenCommand) → Knows stamp before work → InHand client command work → IsMet client command true None work
    → Done stamp before work client (d.Answers client command d.Unbegun)

abbrev pub OverKeeps : Type 0
OverKeeps = (stamp : ℕ) (before : CourseValue) (work : Work) (client : ClientNo) (command : OpenCommand) (tid : Tid) (decided : Decided) → Knows stamp before work → InHand client command work
    → IsMet client command true (Some tid) work → kept_outcome tid work.node ≡ Some decided → Done stamp before work client (d.Answers client command (d.Over decided))

-- of the loan of the last take
pub record IsOfLast (client : ClientNo) (command : OpenCommand) (tid : Tid) (loan : Lent) (work : Work) : Type 0 where
  pub there : InHand client command work
  pub met : IsMet client command false (Some tid) work
  pub last : last_taken client tid work.node.kept.now.loans ≡ Some loan
  pub untaken : is_take command.line.command ≡ false

abbrev pub NotItsKeeps : Type 0
NotItsKeeps = (stamp : ℕ) (before : CourseValue) (work : Work) (client : ClientNo) (command : OpenCommand) (tid : Tid) (loan : Lent) → Knows stamp before work → IsOfLast client command tid loan work
    → loan.yielded ≡ true → Done stamp before work client (d.Answers client command (d.NotIts loan))

abbrev pub VoidKeeps : Type 0
VoidKeeps = (stamp : ℕ) (before : CourseValue) (work : Work) (client : ClientNo) (command : OpenCommand) (tid : Tid) (loan : Lent) → Knows stamp before work → IsOfLast client command tid loan work
    → loan.yielded ≡ false → is_void tid loan work.node ≡ true → Done stamp before work client (d.Answers client command (d.Void loan))

abbrev pub EndedKeeps : Type 0
EndedKeeps = (stamp : ℕ) (before : CourseValue) (work : Work) (client : ClientNo) (command : OpenCommand) (of : Option Tid) (issued : Issued) → Knows stamp before work → InHand client command work
    → IsMet client command false of work → command.issued ≡ Some issued → is_aborted issued.tid work.node ≡ true → Done stamp before work client (d.Answers client command (d.Ended issued))

abbrev pub TakesKeep : Type 0
TakesKeep = (stamp : ℕ) (before : CourseValue) (work : Work) (client : ClientNo) (command : OpenCommand) (tid : Tid) (loan : Lent) → Knows stamp before work → InHand client command work
    → command.line.command ≡ commands.Take → IsMet client command false (Some tid) work → first_untaken client tid work.node.kept.now.loans ≡ Some loan → Done stamp before work client (d.Takes client command tid loan)

-- ---- what a command makes

abbrev pub YieldsKeep : Type 0
YieldsKeep = (stamp : ℕ) (before : CourseValue) (work : Work) (client : ClientNo) (command : OpenCommand) (tid : Tid) (loan : Lent) → Knows stamp before work → InHand client command work
    → command.line.command ≡ commands.Yield → IsMet client command false (Some tid) work → HasLoan client tid loan work → Done stamp before work client (d.Yields client command tid loan)

-- an owner's line, of what is not decided, as it comes
pub record IsOwners (course : CourseValue) (line : ScriptLine) (tid : Tid) (work : Work) : Type 0 where
  pub there : InHand line.client (fresh_command line) work
  pub met : IsMet line.client (fresh_command line) true (Some tid) work
  pub undecided : kept_outcome tid work.node ≡ None
  pub came : (state : ClientValue) → slice_get course.clients line.client.0 ≡ Some state → JustCame (clients_of work) line.client state

abbrev pub AsksKeep : Type 0
AsksKeep = (stamp : ℕ) (before : CourseValue) (work : Work) (line : ScriptLine) (tid : Tid) → Knows stamp before work → IsOwners (course stamp before work) line tid work → line.command ≡ commands.Commit
    → Done stamp before work line.client (d.Asks line tid)

abbrev pub AbortsKeep : Type 0
AbortsKeep = (stamp : ℕ) (before : CourseValue) (work : Work) (line : ScriptLine) (tid : Tid) → Knows stamp before work → IsOwners (course stamp before work) line tid work → line.command ≡ commands.Abort
    → DoneFor stamp before line.client work (aborted tid causes.Asked work)

-- a command that is issued as that request, once
pub record IsIssuedAs (client : ClientNo) (command : OpenCommand) (tid : Tid) (request : Outstanding) (op : Op) (work : Work) : Type 0 where
  pub there : InHand client command work
  pub fresh : command.issued ≡ None
  pub asks : command.line.command ≡ commands.Request request.member op
  pub issuer : request.issuer ≡ client_server client
  pub uses : MayUse client command tid work

abbrev pub IssuesHereKeep : Type 0
IssuesHereKeep = (stamp : ℕ) (before : CourseValue) (work : Work) (client : ClientNo) (command : OpenCommand) (tid : Tid) (request : Outstanding) (op : Op) → Knows stamp before work
    → IsIssuedAs client command tid request op work → Done stamp before work client (d.IssuesHere (d.Client client command) tid request op)

abbrev pub IssuesAwayKeep : Type 0
IssuesAwayKeep = (stamp : ℕ) (before : CourseValue) (work : Work) (client : ClientNo) (command : OpenCommand) (tid : Tid) (request : Outstanding) (op : Op) → Knows stamp before work
    → IsIssuedAs client command tid request op work → Done stamp before work client (d.IssuesAway (d.Client client command) tid request op)

-- ---- a home aborts by a cause that it has: a vote, a node that is gone, or room

abbrev pub IsFound : Cause → Type 0
IsFound (causes.Voted member reason) = ⊤
IsFound (causes.Gone node inc) = ⊤
IsFound (causes.Room need room) = ⊤
IsFound cause = ⊥

abbrev pub HomeAbortsKeep : Type 0
HomeAbortsKeep = (stamp : ℕ) (before : CourseValue) (work : Work) (tid : Tid) (cause : Cause) → IsFound cause → KeepsOn stamp before work (aborted tid cause work)

-- ---- serves and replies

abbrev pub ServesKeep : Type 0
ServesKeep = (stamp : ℕ) (before : CourseValue) (work : Work) (server : ServerNo) (delivery : Delivery) (reply : Reply) → Knows stamp before work → SitsHere (course stamp before work) work.node (lent_to delivery.op)
    → Goes stamp before work (d.Serves server delivery reply)

abbrev pub ServesAwayKeep : Type 0
ServesAwayKeep = (stamp : ℕ) (before : CourseValue) (work : Work) (server : ServerNo) (delivery : Delivery) (reply : Reply) → Knows stamp before work → SitsHere (course stamp before work) work.node (lent_to delivery.op)
    → Goes stamp before work (d.ServesAway server delivery reply)

abbrev pub RepliesKeep : Type 0
RepliesKeep = (stamp : ℕ) (before : CourseValue) (work : Work) (tid : Tid) (member : Member) (number : ℕ) (request : Outstanding) (command : OpenCommand) (issued : Issued) (reply : Reply) → Knows stamp before work
    → InHand (client_of request.issuer) command work → command.issued ≡ Some issued → KnowsReply (course stamp before work) work.node (client_of request.issuer) command issued reply
    → Done stamp before work (client_of request.issuer) (d.GivesReply tid member number request command reply)
