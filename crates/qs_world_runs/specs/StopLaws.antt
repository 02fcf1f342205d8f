-- A node stops: a transaction that was so placed is so placed then, or doomed; where it is not engaged, it leaves no request of its own that stands.
use Rattle.std.specs.Prelude.{◌≡◌, ◌⊎◌, ℕ, ◌<◌, true, List, [], ◌∷◌, Some}
use Rattle.qs_base.specs.declared.identifiers.Tid.{Tid}
use Rattle.qs_book_journal.specs.declared.entry.Act.TheVariants as acts
use Rattle.qs_book_journal.specs.declared.entry.CrashCause.{CrashCause}
use Rattle.qs_book_machine.specs.Book.{BookValue, find_transaction}
use Rattle.qs_book_machine.specs.Lawful.{book_after}
use Rattle.qs_book_machine.specs.Transaction.{TransactionValue, is_open, is_unanimous}
use Rattle.qs_record.specs.declared.record.Record.{Record}
use Rattle.qs_node_step.specs.State.{NodeValue}
use Rattle.qs_world.specs.Moves.{stopped}
use Rattle.qs_world.specs.Posting.{entry_of}
use Rattle.qs_world.specs.World.{World}
use Rattle.qs_world_agree.specs.World as machine
use Rattle.qs_world_agree.specs.Doomed.{IsDoomed}
use Rattle.qs_world_agree.specs.World.{Open, Committed}
use Rattle.qs_world_refine.specs.CutLaws.{StopsAlone, CutsOff}
use Rattle.qs_world_refine.specs.EachMove.{ShowsAll}
use Rattle.qs_world_refine.specs.ShownWorlds.{IsShownWorld}
use Rattle.qs_world_lawful.specs.Holds.{Holds}
use Rattle.qs_world_runs.specs.Placed.{field_of, Placed, HoldsPlaced}
use Rattle.qs_world_runs.specs.PlacesApart.{LeavesNone}

-- with nothing of a step kept of it
abbrev pub StopsPlaced : Type 0
StopsPlaced = (tid : Tid) (book : BookValue) (tx : TransactionValue) (world : World) (n stamp : ℕ) (cause : CrashCause) (log : List Record) (w : machine.World) (goes : StopsAlone tid world (stopped world n stamp cause log) n w)
    → IsShownWorld world → ShowsAll tid world w → n < world.size → world.channels.up n ≡ true → find_transaction book tid ≡ Some tx → is_open tx.cell ≡ true → (next : ℕ) → Holds next book (world.hosts n).node → LeavesNone tid world n tx
    → IsDoomed w ⊎ Placed tid tx (field_of world) → IsDoomed goes.goes.next ⊎ Placed tid tx (field_of (stopped world n stamp cause log))

-- ---- cut off with a record of it kept: the whole step would have left the node so

-- where that step decided the commit it was unanimous before: the home decides in no step that asked, served, voted or took a loan back
abbrev pub CutPlaced : Type 0
CutPlaced = (tid : Tid) (book : BookValue) (tx : TransactionValue) (world : World) (n stamp : ℕ) (cause : CrashCause) (log : List Record) (w : machine.World) (leaves : NodeValue) (goes : CutsOff tid leaves (stopped world n stamp cause log) w)
    → IsShownWorld world → ShowsAll tid world w → n < world.size → world.channels.up n ≡ true → find_transaction book tid ≡ Some tx → is_open tx.cell ≡ true → (next : ℕ) → Holds next book (world.hosts n).node → LeavesNone tid world n tx
    → (w.cell ≡ Open → goes.goes.next.cell ≡ Committed → is_unanimous tx ≡ true)
    → IsDoomed w ⊎ Placed tid tx (field_of world) → IsDoomed goes.goes.next ⊎ Placed tid tx (field_of (stopped world n stamp cause log))

-- ---- and the reference machine enters the crash

abbrev pub book_stopped : BookValue → ℕ → ℕ → CrashCause → BookValue
book_stopped book n stamp cause = book_after book (entry_of n stamp (acts.Crash cause) ∷ [])

abbrev pub StopHolds : Type 0
StopHolds = (tid : Tid) (book : BookValue) (world : World) (n stamp : ℕ) (cause : CrashCause) (log : List Record) (w : machine.World) (goes : StopsAlone tid world (stopped world n stamp cause log) n w)
    → IsShownWorld world → ShowsAll tid world w → n < world.size → world.channels.up n ≡ true → (next : ℕ) → Holds next book (world.hosts n).node
    → ((tx : TransactionValue) → find_transaction book tid ≡ Some tx → is_open tx.cell ≡ true → IsDoomed w ⊎ LeavesNone tid world n tx)
    → HoldsPlaced tid book (field_of world) w → HoldsPlaced tid (book_stopped book n stamp cause) (field_of (stopped world n stamp cause log)) goes.goes.next

abbrev pub CutHolds : Type 0
CutHolds = (tid : Tid) (book : BookValue) (world : World) (n stamp : ℕ) (cause : CrashCause) (log : List Record) (w : machine.World) (leaves : NodeValue) (goes : CutsOff tid leaves (stopped world n stamp cause log) w)
    → IsShownWorld world → ShowsAll tid world w → n < world.size → world.channels.up n ≡ true → (next : ℕ) → Holds next book (world.hosts n).node
    → ((tx : TransactionValue) → find_transaction book tid ≡ Some tx → is_open tx.cell ≡ true → IsDoomed w ⊎ LeavesNone tid world n tx)
    → (w.cell ≡ Open → goes.goes.next.cell ≡ Committed → (tx : TransactionValue) → find_transaction book tid ≡ Some tx → is_open tx.cell ≡ true → is_unanimous tx ≡ true)
    → HoldsPlaced tid book (field_of world) w → HoldsPlaced tid (book_stopped book n stamp cause) (field_of (stopped world n stamp cause log)) goes.goes.next
