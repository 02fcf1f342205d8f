-- What all places hold of a transaction in the middle of a step of a node: what came is off its way, and what the node sent so far is on its own.
use Rattle.std.specs.Prelude.{◌≡◌, ℕ, ◌==◌, ◌&&◌, not, List, [], ◌++◌, length, Some, if◌then◌else◌}
use Rattle.std.specs.List.{filter}
use Rattle.qs_base.specs.declared.identifiers.ServerNo.{ServerNo}
use Rattle.qs_base.specs.declared.identifiers.Tid.{Tid}
use Rattle.qs_book_journal.specs.declared.entry.Act.{Act}
use Rattle.qs_book_machine.specs.Book.{BookValue, find_transaction}
use Rattle.qs_book_machine.specs.Lawful.{book_after}
use Rattle.qs_book_machine.specs.Transaction.{TransactionValue}
use Rattle.qs_book_machine.specs.declared.transaction.RequestNo.{RequestNo}
use Rattle.qs_node_step.specs.State.{NodeValue, Work}
use Rattle.qs_world.specs.Posting.{entries_of}
use Rattle.qs_world_refine.specs.Shows.{sent_to}
use Rattle.qs_world_lawful.specs.Face.{is_numbered, waiting_at}
use Rattle.qs_world_runs.specs.Placed.{Field, asked}
use Rattle.qs_world_runs.specs.PlacedActs.{OpenPlaced, loud}

-- node n knows those incarnations of the others: what it sends to a present one is on its way behind what was, and what it sends to none is kept back
abbrev pub field_amid : Field → (ℕ → ℕ) → ℕ → Work → Field
field_amid base knows n work = record {
  size = base.size;
  up = base.up;
  inc = base.inc;
  node = λ k. if k == n then work.node else base.node k;
  sent = λ p q. base.sent p q ++ (if (p == n) && ((knows q == base.inc q) && not (knows q == 0)) then sent_to q work.out.messages else []);
  kept = λ p q. base.kept p q ++ (if (p == n) && (knows q == 0) then sent_to q work.out.messages else []);
}

-- the machine after what the step has entered so far
abbrev pub book_amid : ℕ → ℕ → BookValue → Work → BookValue
book_amid n stamp before work = book_after before (entries_of n stamp work.out.entries)

-- what is said of a transaction of the book, if it has it
abbrev pub Here : Tid → (TransactionValue → Type 0) → BookValue → Type 0
Here tid P book = (tx : TransactionValue) → find_transaction book tid ≡ Some tx → P tx

-- while it is undecided it is so placed
abbrev pub PlacedAmid : Tid → Field → (ℕ → ℕ) → ℕ → ℕ → BookValue → Work → Type 0
PlacedAmid tid base knows n stamp before work = Here tid (OpenPlaced tid (field_amid base knows n work)) (book_amid n stamp before work)

-- ---- a rule that bears on none of it

-- how many of that number wait at a server of a node
abbrev pub counted : Tid → RequestNo → ServerNo → NodeValue → ℕ
counted t at server node = length (filter (is_numbered at) (waiting_at node t server))

-- its entries do not bear on it, and no request of it is sent, comes to wait or leaves its queue
pub record LeavesPlaces (t : Tid) (work new : Work) : Type 0 where
  pub more : List Act
  pub entries : new.out.entries ≡ work.out.entries ++ more
  pub silent : loud t more ≡ []
  pub asks : (q : ℕ) (server : ServerNo) (number : ℕ) → asked t server number (sent_to q new.out.messages) ≡ asked t server number (sent_to q work.out.messages)
  pub waits : (at : RequestNo) (server : ServerNo) → counted t at server new.node ≡ counted t at server work.node
  pub setting : new.node.setting ≡ work.node.setting
