-- What the reference machine has of a whole world: of each node that runs all that the node keeps and its log says, and of each that is
-- down what its log says; and of both what is kept for clients.
use Rattle.std.specs.Prelude.{◌≡◌, ◌≤◌, ◌<◌, ℕ, Bool, true, false, List, [], ◌++◌, length, Some, None, is_some, slice_get}
use Rattle.std.specs.List.{find}
use Rattle.qs_base.specs.declared.identifiers.ClientNo.{ClientNo}
use Rattle.qs_base.specs.declared.identifiers.NodeNo.{NodeNo}
use Rattle.qs_base.specs.declared.identifiers.Tid.{Tid}
use Rattle.qs_node_kept.specs.Keeping.{has_label, is_outcome_of}
use Rattle.qs_node_kept.specs.declared.kept.KeptLabel.{KeptLabel}
use Rattle.qs_node_kept.specs.declared.kept.Decided.{Decided}
use Rattle.qs_node_kept.specs.declared.kept.Kept.{Kept}
use Rattle.qs_node_kept.specs.declared.kept.Lent.{Lent}
use Rattle.qs_book_machine.specs.Book.{BookValue, find_transaction}
use Rattle.qs_book_machine.specs.Nodes as machine
use Rattle.qs_book_machine.specs.Transaction.{TransactionValue, is_open}
use Rattle.qs_restart.specs.Recovery.{recovery}
use Rattle.qs_world.specs.Moves.{is_in_order}
use Rattle.qs_world.specs.World.{Host, World, inc_of}
use Rattle.qs_world_lawful.specs.Holds.{HasEnded, HoldsStill, IsOwner, is_next}
use Rattle.qs_world_lawful.specs.Logged.{HoldsHost, IsMarked, StandsIn}
use Rattle.qs_world_lawful.specs.Logs.{Every, HoldsStopped}
use Rattle.qs_world_lawful.specs.Said.{HoldsLeft, HoldsSaid}

-- ---- what is kept for clients, through crashes

-- the machine has it undecided, of a client of the run
pub record IsOpenStill (book : BookValue) (tid : Tid) : Type 0 where
  pub tx : TransactionValue
  pub found : find_transaction book tid ≡ Some tx
  pub undecided : is_open tx.cell ≡ true
  pub owned : (client : ClientNo) → tx.owner ≡ Some client → is_some (slice_get book.owners client.0) ≡ true

-- what began here under a label, and of which no outcome is kept, is undecided
abbrev pub IsLeftOpen : NodeNo → BookValue → List Decided → KeptLabel → Type 0
IsLeftOpen here book outcomes begun = (tid : Tid) → begun.tid ≡ Some tid → tid.home ≡ here → find (is_outcome_of tid) outcomes ≡ None → IsOpenStill book tid

-- a loan was made of what stands, in an incarnation up to this one
pub record IsLoanOf (book : BookValue) (inc : ℕ) (loan : Lent) : Type 0 where
  pub stands : is_some (find_transaction book loan.tid) ≡ true
  pub made : loan.inc ≤ inc

pub record HoldsKept (here : NodeNo) (inc : ℕ) (book : BookValue) (kept : Kept) : Type 0 where
  pub owners : (label : List ℕ) (begun : KeptLabel) (tid : Tid) (client : ClientNo) → find (has_label label) kept.labels ≡ Some begun → begun.tid ≡ Some tid → begun.owner ≡ Some client → IsOwner book tid client
  pub outcomes : (tid : Tid) (decided : Decided) → find (is_outcome_of tid) kept.outcomes ≡ Some decided → HasEnded book tid decided
  pub undecided : Every (IsLeftOpen here book kept.outcomes) kept.labels
  pub loans : Every (IsLoanOf book inc) kept.loans

-- ---- a node

-- it runs: what it keeps, and what its log says, with what waits for the next force and on the disk
pub record HoldsUp (n : ℕ) (book : BookValue) (state : machine.NodeValue) (host : Host) : Type 0 where
  pub still : HoldsStill book host.node
  pub log : HoldsHost n book host.node.manager host.log host.waiting
  pub said : HoldsSaid n book state (recovery (host.log ++ host.waiting))
  pub on_disk : HoldsSaid n book state (recovery host.log)

-- it is down: what its log on the disk says
pub record HoldsDown (n : ℕ) (book : BookValue) (state : machine.NodeValue) (host : Host) : Type 0 where
  pub log : HoldsStopped n book state (recovery host.log)
  pub stands : Every (StandsIn book) (recovery host.log).prepared
  pub marked : Every (IsMarked (recovery host.log)) (recovery host.log).prepared
  pub left : HoldsLeft n book state (recovery host.log)
  pub nothing_waits : host.waiting ≡ []

-- a node of a run of so many, in that incarnation, that runs or not
pub record HoldsNodeOf (book : BookValue) (size n inc : ℕ) (up : Bool) (host : Host) : Type 0 where
  pub state : machine.NodeValue
  pub there : slice_get book.nodes n ≡ Some state
  pub up_is : state.up ≡ up
  pub inc_is : state.inc ≡ inc
  pub node : host.node.setting.node.0 ≡ n
  pub run : host.node.setting.nodes ≡ size
  pub format : (machine.extra_of state.format ≡ host.node.setting.extra) × (machine.keep_of state.format ≡ host.node.setting.keep)
  pub accepted : host.node.kept.saved ≡ host.node.kept.now
  pub kept : HoldsKept host.node.setting.node inc book host.node.kept.saved
  pub runs : up ≡ true → HoldsUp n book state host
  pub stopped : up ≡ false → HoldsDown n book state host

abbrev pub HoldsNodeAt : BookValue → World → ℕ → Type 0
HoldsNodeAt book world n = HoldsNodeOf book world.size n (inc_of world n) (world.channels.up n) (world.hosts n)

-- ---- the world

pub record HoldsWorld (book : BookValue) (world : World) : Type 0 where
  pub size : length book.nodes ≡ world.size
  pub order : (n stamp : ℕ) → is_in_order world n stamp ≡ true → is_next stamp n book ≡ true
  pub nodes : (n : ℕ) → n < world.size → HoldsNodeAt book world n
