-- A node that is not engaged for a transaction has no request of its own that stands: its clients have given their loans back, and files have
-- the reply to each note. So whoever issued a request that stands runs still, or the transaction is doomed; and the numbers that its node gives
-- in its next incarnation are those of none that stands.
use Rattle.std.specs.Prelude.{◌≡◌, ℕ, false, None}
use Rattle.qs_base.specs.declared.identifiers.Member.{Member}
use Rattle.qs_base.specs.declared.identifiers.Tid.{Tid}
use Rattle.qs_book_machine.specs.Transaction.{TransactionValue, standing_request}
use Rattle.qs_book_machine.specs.declared.transaction.RequestNo.{RequestNo}
use Rattle.qs_world.specs.World.{World}
use Rattle.qs_world_refine.specs.NodeFaces.{face_at}
use Rattle.qs_world_runs.specs.Placed.{Placed, field_of}

-- none that node n issued stands
abbrev pub NoneOf : ℕ → TransactionValue → Type 0
NoneOf n tx = (at : RequestNo) (member : Member) → at.link.from.0 ≡ n → standing_request tx at member ≡ None

-- so it is where the node is not engaged
abbrev pub LeavesNone : Tid → World → ℕ → TransactionValue → Type 0
LeavesNone tid world n tx = Placed tid tx (field_of world) → (face_at (world.hosts n).node tid).on ≡ false → NoneOf n tx
