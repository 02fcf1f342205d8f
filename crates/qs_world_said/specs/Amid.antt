-- What the course of a run has of the clients of a node in the middle of a step of that, beside what the step entered so far.
use Rattle.std.specs.Prelude.{◌≡◌, ◌⊎◌, ℕ, true, List, [], Option, None, Some, slice_get}
use Rattle.std.specs.BTreeMap.{is_at}
use Rattle.std.specs.Map.{lookup}
use Rattle.qs_base.specs.declared.identifiers.ClientNo.{ClientNo}
use Rattle.qs_ops.specs.declared.reply.Reply.{Reply}
use Rattle.qs_book_journal.specs.declared.script_line.Command.TheVariants as commands
use Rattle.qs_book_journal.specs.declared.script_line.ScriptLine.{ScriptLine}
use Rattle.qs_book_conformance.specs.Course.{ClientValue, CourseValue, first_of, is_seat, sought_cmp}
use Rattle.qs_book_conformance.specs.declared.values.CommandMade.TheVariants as makes
use Rattle.qs_node_step.specs.State.{NodeValue, Work}
use Rattle.qs_node_step.specs.declared.state.Issued.{Issued}
use Rattle.qs_node_step.specs.declared.state.OpenCommand.{OpenCommand}
use Rattle.qs_world_walk.specs.Deed.{fresh_command}
use Rattle.qs_world_lawful.specs.Entering.{entries_so_far}
use Rattle.qs_world_course.specs.Clients.{ForClients, IsOnCourse, in_hand_of, sought_of}
use Rattle.qs_world_course.specs.Kinds.{Keeps, course_on, said}

-- what a node has for its clients, between steps and in the middle of one
abbrev pub clients_at : NodeValue → ForClients
clients_at node = record { here = node.setting.node; inc = node.setting.inc; in_hand = node.commands; kept = node.kept.now }

abbrev pub clients_of : Work → ForClients
clients_of work = clients_at work.node

-- the course after what the step entered so far
abbrev pub course_amid : ℕ → CourseValue → Work → CourseValue
course_amid stamp before work = course_on before (entries_so_far stamp work)

-- ---- one client

-- with nothing in hand
abbrev pub unhanded : ForClients → ForClients
unhanded node = record node { in_hand = [] }

-- its line has come and nothing was done for it since; it may have come before, and its node have restarted since
pub record JustCame (node : ForClients) (client : ClientNo) (state : ClientValue) : Type 0 where
  pub line : ScriptLine
  pub first : first_of state.left ≡ Some line
  pub there : in_hand_of client node.in_hand ≡ Some (fresh_command line)
  pub held : IsOnCourse (unhanded node) client state.left state

-- it is on the course, or it is the one whose line came
abbrev pub IsAmid : ForClients → Option ClientNo → ClientNo → ClientValue → Type 0
IsAmid node came client state = IsOnCourse node client state.left state ⊎ ((came ≡ Some client) × JustCame node client state)

-- a client of the node has what the node has for it; a yield is answered as it is made, and a take makes nothing; what is in hand is of a client of the node, and where it was issued
-- its replies are kept
pub record ClientAmid (course : CourseValue) (node : ForClients) (came : Option ClientNo) (client : ClientNo) : Type 0 where
  pub each : (state : ClientValue) → slice_get course.clients client.0 ≡ Some state → is_seat state.seat node.here.0 ≡ true → IsAmid node came client state
  pub ungiven : (state : ClientValue) → slice_get course.clients client.0 ≡ Some state → is_seat state.seat node.here.0 ≡ true → state.made ≡ makes.GaveBack → ⊥
  pub idle : (state : ClientValue) → slice_get course.clients client.0 ≡ Some state → is_seat state.seat node.here.0 ≡ true
      → (line : ScriptLine) → first_of state.left ≡ Some line → line.command ≡ commands.Take → state.made ≡ makes.Nothing
  pub seated : (command : OpenCommand) → in_hand_of client node.in_hand ≡ Some command → (state : ClientValue) × ((slice_get course.clients client.0 ≡ Some state) × (is_seat state.seat node.here.0 ≡ true))
  pub waits : (command : OpenCommand) (issued : Issued) → in_hand_of client node.in_hand ≡ Some command → command.issued ≡ Some issued
      → (given : List Reply) × (lookup (is_at (sought_cmp (sought_of node.here issued))) course.replies ≡ Some given)

abbrev pub AreAmid : CourseValue → ForClients → Option ClientNo → Type 0
AreAmid course node came = (client : ClientNo) → ClientAmid course node came client

-- where no line just came, each client of the node is on the course
abbrev pub NoneCameIsOn : Type 0
NoneCameIsOn = (course : CourseValue) (node : ForClients) (client : ClientNo) (state : ClientValue) → AreAmid course node None → slice_get course.clients client.0 ≡ Some state → is_seat state.seat node.here.0 ≡ true
    → IsOnCourse node client state.left state

-- ---- the step so far

-- what it entered breaks no rule of clients, from the course that was before it, and the course after that has what its node has for clients
pub record IsSaidSo (stamp : ℕ) (before : CourseValue) (came : Option ClientNo) (work : Work) : Type 0 where
  pub keeps : Keeps said before (entries_so_far stamp work)
  pub on : AreAmid (course_amid stamp before work) (clients_of work) came

-- what is done leaves it
abbrev pub KeepsOn : ℕ → CourseValue → Work → Work → Type 0
KeepsOn stamp before work new = (came : Option ClientNo) → IsSaidSo stamp before came work → IsSaidSo stamp before came new

-- and what is done for the client whose line came ends that it just came
abbrev pub IsFor : ClientNo → Option ClientNo → Type 0
IsFor client came = (other : ClientNo) → came ≡ Some other → other ≡ client

abbrev pub DoneFor : ℕ → CourseValue → ClientNo → Work → Work → Type 0
DoneFor stamp before client work new = (came : Option ClientNo) → IsFor client came → IsSaidSo stamp before came work → IsSaidSo stamp before None new
