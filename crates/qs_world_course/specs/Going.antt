-- What a loan and a serve make of the course, and what leaves what it has of a client.
use Rattle.std.specs.Prelude.{◌≡◌, ℕ, Bool, true, List, [], ◌∷◌, ◌++◌, None, Some}
use Rattle.std.specs.BTreeMap.{is_at}
use Rattle.std.specs.List.{find, list_any}
use Rattle.std.specs.Map.{lookup}
use Rattle.qs_base.specs.declared.identifiers.ClientNo.{ClientNo}
use Rattle.qs_base.specs.declared.identifiers.Tid.{Tid}
use Rattle.qs_ops.specs.Operations.{answer_of}
use Rattle.qs_ops.specs.declared.reply.Reply.{Reply}
use Rattle.qs_book_journal.specs.declared.script_line.ScriptLine.{ScriptLine}
use Rattle.qs_book_conformance.specs.Alike.{is_answer_of}
use Rattle.qs_book_conformance.specs.Course.{ClientValue, CourseValue, sought_cmp}
use Rattle.qs_book_conformance.specs.Effects.{lent_in, replied, with_borrowing}
use Rattle.qs_book_conformance.specs.declared.values.Sought.{Sought}
use Rattle.qs_node_kept.specs.Keeping.{has_label, is_outcome_of}
use Rattle.qs_node_kept.specs.Loans.{last_taken}
use Rattle.qs_node_kept.specs.declared.kept.Decided.{Decided}
use Rattle.qs_world_course.specs.Clients.{ForClients, IsOnCourse, in_hand_of}
use Rattle.qs_world_course.specs.Loans.{loans_of, new_loan}

-- ---- a loan is made to a client

abbrev pub with_loan : ClientNo → Tid → ForClients → ForClients
with_loan client tid node = record node { kept = record node.kept { loans = node.kept.loans ++ new_loan client tid node.inc ∷ [] } }

abbrev pub LendsGo : Type 0
LendsGo = (node : ForClients) (client : ClientNo) (lines : List ScriptLine) (state : ClientValue) (tid : Tid) → IsOnCourse node client lines state
    → IsOnCourse (with_loan client tid node) client lines (with_borrowing tid (lent_in node.inc) state)

-- ---- what a node keeps of a client, and has of it in hand, is left; outcomes may be more

pub record LeavesClient (client : ClientNo) (old new : ForClients) : Type 0 where
  pub here : new.here ≡ old.here
  pub inc : new.inc ≡ old.inc
  pub in_hand : in_hand_of client new.in_hand ≡ in_hand_of client old.in_hand
  pub labels : (label : List ℕ) → find (has_label label) new.kept.labels ≡ find (has_label label) old.kept.labels
  pub outcomes : (tid : Tid) (decided : Decided) → find (is_outcome_of tid) old.kept.outcomes ≡ Some decided
      → (later : Decided) × (find (is_outcome_of tid) new.kept.outcomes ≡ Some later)
  pub loans : (tid : Tid) → loans_of client tid new.kept.loans ≡ loans_of client tid old.kept.loans
  pub last : (tid : Tid) → last_taken client tid new.kept.loans ≡ last_taken client tid old.kept.loans

abbrev pub ClientStays : Type 0
ClientStays = (old new : ForClients) (client : ClientNo) (lines : List ScriptLine) (state : ClientValue) → IsOnCourse old client lines state → LeavesClient client old new
    → IsOnCourse new client lines state

-- ---- replies to a request, since it was issued: one that was given stays so, and one more is given

abbrev pub is_given : List (Sought × List Reply) → Sought → Reply → Bool
is_given replies sought reply = elim (lookup (is_at (sought_cmp sought)) replies) [ None ↦ true | Some given ↦ list_any (is_answer_of (answer_of reply)) given ]

abbrev pub GivenStays : Type 0
GivenStays = (course : CourseValue) (sought other : Sought) (reply more : Reply) → is_given course.replies sought reply ≡ true
    → is_given (replied other more course).replies sought reply ≡ true

abbrev pub ServedIsGiven : Type 0
ServedIsGiven = (course : CourseValue) (sought : Sought) (reply : Reply) → is_given (replied sought reply course).replies sought reply ≡ true
