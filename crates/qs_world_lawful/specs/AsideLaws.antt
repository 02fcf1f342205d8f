-- The law of what the steps of one node leave of another: all that is held of it, whether it runs or not.
use Rattle.std.specs.Prelude.{◌≡◌, ℕ, ◌==◌, Bool, true, false, List, ◌++◌, Some, slice_get}
use Rattle.qs_book_journal.specs.declared.entry.Entry.{Entry}
use Rattle.qs_book_laws.specs.Laws.{IsCoherent}
use Rattle.qs_book_machine.specs.Book.{BookValue}
use Rattle.qs_book_machine.specs.Lawful.{IsLawful, book_after}
use Rattle.qs_book_machine.specs.Nodes as machine
use Rattle.qs_book_machine.specs.Opening.{opening}
use Rattle.qs_book_machine.specs.declared.opened.Opened.{Opened}
use Rattle.qs_restart.specs.Recovery.{recovery}
use Rattle.qs_node_step.specs.State.{NodeValue}
use Rattle.qs_world.specs.Moves.{Source, Step, moved}
use Rattle.qs_world.specs.World.{Host, World}
use Rattle.qs_world_lawful.specs.Aside.{BeginsOwned, HoldsIssued, IsAside, StaysUnanimous}
use Rattle.qs_world_lawful.specs.Beside.{HoldsBeside}
use Rattle.qs_world_lawful.specs.LastingLaws.{IsNumbered}
use Rattle.qs_world_lawful.specs.Logs.{Every}
use Rattle.qs_world_lawful.specs.Worlds.{HoldsNodeAt, HoldsNodeOf}

-- the machine has the node up
abbrev pub RunsAt : BookValue → ℕ → Type 0
RunsAt book n = (state : machine.NodeValue) → slice_get book.nodes n ≡ Some state → state.up ≡ true

-- what is held of a node of a run, and of the notes that its files issued while it runs
pub record HoldsAside (book : BookValue) (size k inc : ℕ) (up : Bool) (host : Host) : Type 0 where
  pub node : HoldsNodeOf book size k inc up host
  pub issued : up ≡ true → HoldsIssued book host.node

abbrev pub EachKeepsOthers : Type 0
EachKeepsOthers = (opened : List Opened) (history more : List Entry) → IsCoherent opened → Every IsNumbered opened → IsLawful (opening opened) (history ++ more)
    → (size k inc : ℕ) (up : Bool) (host : Host) → Every (IsAside k host.node) more → (up ≡ false → StaysUnanimous k (recovery host.log) (book_after (opening opened) history) (book_after (opening opened) (history ++ more)))
    → HoldsAside (book_after (opening opened) history) size k inc up host → HoldsAside (book_after (opening opened) (history ++ more)) size k inc up host

-- so in the world a whole step leaves each other node
abbrev pub EachStepKeepsOtherNodes : Type 0
EachStepKeepsOtherNodes = (opened : List Opened) (history more : List Entry) → IsCoherent opened → Every IsNumbered opened → IsLawful (opening opened) (history ++ more)
    → (world : World) (n stamp free : ℕ) (source : Source) (k : ℕ) → (k == n) ≡ false → Every (IsAside k (world.hosts k).node) more → (world.channels.up k ≡ false → StaysUnanimous k (recovery (world.hosts k).log) (book_after (opening opened) history) (book_after (opening opened) (history ++ more)))
    → HoldsNodeAt (book_after (opening opened) history) world k → (world.channels.up k ≡ true → HoldsIssued (book_after (opening opened) history) (world.hosts k).node)
    → HoldsNodeAt (book_after (opening opened) (history ++ more)) (moved (Step n stamp free source) world) k

-- and what the machine has beside a node that runs, where what begins has an owner
abbrev pub EachKeepsOthersBeside : Type 0
EachKeepsOthersBeside = (opened : List Opened) (history more : List Entry) → IsCoherent opened → Every IsNumbered opened → IsLawful (opening opened) (history ++ more)
    → (node : NodeValue) → Every (IsAside node.setting.node.0 node) more → Every (BeginsOwned (book_after (opening opened) history)) more → RunsAt (book_after (opening opened) history) node.setting.node.0
    → HoldsBeside (book_after (opening opened) history) node → HoldsBeside (book_after (opening opened) (history ++ more)) node

-- and from that each note that files issued is noted or waited for
abbrev pub EachHoldsIssued : Type 0
EachHoldsIssued = (book : BookValue) (node : NodeValue) → HoldsBeside book node → HoldsIssued book node
