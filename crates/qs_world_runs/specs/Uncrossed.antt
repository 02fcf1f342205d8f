-- At the only node of a run no transaction is crossed: requests get numbers in the incarnation alone in which their transaction began, so no two of one number stand at one
-- member. So what such a node has pending the machine has pending.
use Rattle.std.specs.Prelude.{◌≡◌, true, List, Some}
use Rattle.qs_base.specs.declared.identifiers.Tid.{Tid}
use Rattle.qs_book_machine.specs.Book.{BookValue, find_transaction}
use Rattle.qs_book_machine.specs.Transaction.{TransactionValue, is_empty}
use Rattle.qs_world.specs.Moves.{Move}
use Rattle.qs_world.specs.Openings.{IsOpening}
use Rattle.qs_world.specs.Runs.{Run}
use Rattle.qs_world.specs.World.{Opening, World, start}
use Rattle.qs_world_runs.specs.Joined.{book_in}

abbrev pub IsUncrossed : BookValue → Type 0
IsUncrossed book = (tid : Tid) (tx : TransactionValue) → find_transaction book tid ≡ Some tx → is_empty tx.crossed ≡ true

abbrev pub EachUncrossedAlone : Type 0
EachUncrossedAlone = (o : Opening) (moves : List Move) (world : World) → IsOpening o → Run (start o) moves world → world.size ≡ 1 → IsUncrossed (book_in o world)
