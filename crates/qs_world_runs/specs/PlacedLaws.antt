-- What follows where a transaction is so placed: a commit that the agreement machine has decided is unanimous in the reference machine.
use Rattle.std.specs.Prelude.{◌≡◌, ℕ, ◌<◌, true, false, Some, None, is_some, nat_lt}
use Rattle.qs_base.specs.declared.identifiers.ServerNo.{ServerNo}
use Rattle.qs_base.specs.declared.identifiers.Tid.{Tid}
use Rattle.qs_ipc.specs.Ipc as ipc
use Rattle.qs_book_machine.specs.Book.{BookValue, find_transaction}
use Rattle.qs_book_machine.specs.Transaction.{TransactionValue, agrees, is_open, is_unanimous}
use Rattle.qs_book_machine.specs.declared.transaction.Life.{Life}
use Rattle.qs_book_machine.specs.declared.transaction.Part.{Part}
use Rattle.qs_ops.specs.Members.{class_of, is_two_phase}
use Rattle.qs_node_step.specs.Settling.{is_lent, may_answer}
use Rattle.qs_node_step.specs.State.{NodeValue, Work, part_of}
use Rattle.qs_tm.specs.Manager as tm
use Rattle.qs_tm.specs.Members as rules
use Rattle.qs_tm.specs.Participant.{member_of}
use Rattle.qs_tm.specs.declared.participant.Participant.{Participant}
use Rattle.qs_world.specs.World.{World}
use Rattle.qs_world_agree.specs.World as machine
use Rattle.qs_world_agree.specs.World.{Committed}
use Rattle.qs_world_agree.specs.Carry.{IsLawful}
use Rattle.qs_world_refine.specs.EachMove.{ShowsAll}
use Rattle.qs_world_refine.specs.NodeFaces.{face_at}
use Rattle.qs_world_refine.specs.ShownWorlds.{IsShownWorld}
use Rattle.qs_world_refine.specs.Sound.{is_sound}
use Rattle.qs_world_refine.specs.Faces.{ShowsFace}
use Rattle.qs_world_lawful.specs.Face.{face_of, part_in}
use Rattle.qs_world_lawful.specs.Holds.{HoldsStill}
use Rattle.qs_world_runs.specs.Placed.{Field, field_of, asked, IsLife, IsPresent, Placed, HoldsPlaced}

-- ---- a node at which nothing of it is open: no request waits, no loan stands, and every vote covers what was served

pub record IsFree (tid : Tid) (node : NodeValue) : Type 0 where
  pub idle : ipc.waits tid node.queues ≡ false
  pub unlent : is_lent tid node ≡ false
  pub covers : (server : ServerNo) → nat_lt server.0 7 ≡ true → is_two_phase (class_of server.0) ≡ true → rules.is_covering (member_of (part_in (face_of node tid)) server) ≡ true

-- so is a node that may answer its superior, or decide as the home
abbrev pub ReadyFree : Type 0
ReadyFree = (tid : Tid) (work : Work) (part : Participant) → part_of tid work ≡ Some part → may_answer tid part work ≡ true → IsFree tid work.node

-- its present lives agree
abbrev pub FreeAgrees : Type 0
FreeAgrees = (book : BookValue) (tid : Tid) (tx : TransactionValue) (field : Field) (node : NodeValue) (l : Life) (part : Part) → find_transaction book tid ≡ Some tx → is_open tx.cell ≡ true → HoldsStill book node → IsFree tid node
    → IsLife tx field l part → l.member.node ≡ node.setting.node → l.inc ≡ node.setting.inc → agrees (l, part) ≡ true

-- where nothing waits at nodes that run, nothing is on its way or kept back and all present lives agree, the transaction is unanimous
pub record IsQuiet (tid : Tid) (tx : TransactionValue) (field : Field) : Type 0 where
  pub idle : (k : ℕ) → k < field.size → field.up k ≡ true → ipc.waits tid (field.node k).queues ≡ false
  pub ways : (n m : ℕ) → n < field.size → m < field.size → field.up m ≡ true → (server : ServerNo) (number : ℕ) → asked tid server number (field.sent n m) ≡ 0
  pub keeps : (n m : ℕ) → n < field.size → m < field.size → (server : ServerNo) (number : ℕ) → asked tid server number (field.kept n m) ≡ 0
  pub lives : (l : Life) (part : Part) → IsLife tx field l part → IsPresent field l → agrees (l, part) ≡ true

abbrev pub QuietUnanimous : Type 0
QuietUnanimous = (tid : Tid) (tx : TransactionValue) (field : Field) → Placed tid tx field → is_some tx.asked ≡ true → IsQuiet tid tx field → is_unanimous tx ≡ true

-- ---- once the agreement machine has decided commit, a node is free of what it has not decided itself

abbrev pub CommittedFree : Type 0
CommittedFree = (tid : Tid) (node : NodeValue) (q : ℕ) (w : machine.World) → IsLawful w → w.cell ≡ Committed → ShowsFace (face_at node tid) q w → is_sound node ≡ true
    → ((part : Participant) → tm.part_of tid node.manager ≡ Some part → part.outcome ≡ None) → IsFree tid node

-- and nothing is on its way in a world that the machine shows
abbrev pub CommittedWays : Type 0
CommittedWays = (tid : Tid) (world : World) (w : machine.World) → ShowsAll tid world w → w.cell ≡ Committed → (n m : ℕ) → n < world.size → m < world.size → world.channels.up m ≡ true → (server : ServerNo) (number : ℕ) → asked tid server number ((field_of world).sent n m) ≡ 0

-- nor is anything kept back
abbrev pub CommittedKeeps : Type 0
CommittedKeeps = (tid : Tid) (world : World) (w : machine.World) → ShowsAll tid world w → w.cell ≡ Committed → (n m : ℕ) → n < world.size → m < world.size → (server : ServerNo) (number : ℕ) → asked tid server number ((field_of world).kept n m) ≡ 0

-- ---- so a commit of which the reference machine has still to learn, as its home stopped, is unanimous

abbrev pub CommittedUnanimous : Type 0
CommittedUnanimous = (tid : Tid) (book : BookValue) (world : World) (w : machine.World) (tx : TransactionValue) → IsShownWorld world → ShowsAll tid world w → w.cell ≡ Committed
    → ((k : ℕ) → k < world.size → world.channels.up k ≡ true → HoldsStill book (world.hosts k).node)
    → HoldsPlaced tid book (field_of world) w → find_transaction book tid ≡ Some tx → is_open tx.cell ≡ true → is_some tx.asked ≡ true → is_unanimous tx ≡ true
