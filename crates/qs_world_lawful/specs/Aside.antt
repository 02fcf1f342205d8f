-- What an entry of one node has to find at another node, so that it leaves all that is held of that: the notes that its files issued are noted
-- there or waited for, and no client is answered that has a command in hand there.
use Rattle.std.specs.Prelude.{◌≡◌, ◌≤◌, ◌⊎◌, ℕ, true, None, Some, List, is_some, slice_get, ⊤}
use Rattle.std.specs.Map.{lookup}
use Rattle.std.specs.BTreeMap.{is_at}
use Rattle.qs_base.specs.declared.identifiers.ClientNo.{ClientNo}
use Rattle.qs_base.specs.declared.identifiers.NodeNo.{NodeNo}
use Rattle.qs_base.specs.declared.identifiers.Tid.{Tid}
use Rattle.qs_book_journal.specs.declared.entry.Act.{Act}
use Rattle.qs_book_journal.specs.declared.entry.Act.TheVariants as acts
use Rattle.qs_book_journal.specs.declared.entry.Entry.{Entry}
use Rattle.qs_book_machine.specs.Book.{BookValue, find_transaction}
use Rattle.qs_book_machine.specs.Clauses.{note_text}
use Rattle.qs_book_machine.specs.Restart.{is_among}
use Rattle.qs_book_machine.specs.Transaction.{TransactionValue, is_open, is_unanimous}
use Rattle.qs_restart.specs.Recovery.{Recovery}
use Rattle.qs_node_step.specs.State.{NodeValue, client_cmp}
use Rattle.qs_tm.specs.Participant.{awaits_note, has_noted}
use Rattle.qs_world_lawful.specs.Beside.{has_issued}
use Rattle.qs_world_lawful.specs.Face.{Face, face_of, is_held, part_in}

-- ---- notes

-- of a transaction: each note that files of the node issued in its incarnation is noted, or one is waited for
abbrev pub HoldsIssuedOf : NodeNo → ℕ → Tid → TransactionValue → Face → Type 0
HoldsIssuedOf here inc tid tx face = is_held tx face ≡ true → (count : ℕ) → 1 ≤ count → has_issued tx here inc (note_text tid here.0 count) ≡ true → (has_noted count (part_in face) ≡ true) ⊎ (awaits_note (part_in face) ≡ true)

abbrev pub HoldsIssued : BookValue → NodeValue → Type 0
HoldsIssued book node = (tid : Tid) (tx : TransactionValue) → find_transaction book tid ≡ Some tx → HoldsIssuedOf node.setting.node node.setting.inc tid tx (face_of node tid)

-- ---- commands

-- a client that is answered has no command in hand there
abbrev pub AnswersElsewhere : NodeValue → Act → Type 0
AnswersElsewhere node (acts.Answer client line said) = lookup (is_at (client_cmp client)) node.commands ≡ None
AnswersElsewhere node act = ⊤

-- no restart
abbrev pub IsOfStep : Act → Type 0
IsOfStep (acts.Restart inc pend done) = ⊥
IsOfStep act = ⊤

-- an entry that another node than this one makes in a step
pub record IsAside (k : ℕ) (node : NodeValue) (entry : Entry) : Type 0 where
  pub far : (entry.node.0 ≡ k) → ⊥
  pub of_step : IsOfStep entry.act
  pub answers : AnswersElsewhere node entry.act

-- what the log of a home that is down has a Commit of, and is open and unanimous, stays unanimous: the agreement protocol gives it
abbrev pub StaysUnanimous : ℕ → Recovery → BookValue → BookValue → Type 0
StaysUnanimous k said book new = (tid : Tid) (tx later : TransactionValue) → is_among said.committed tid ≡ true → find_transaction book tid ≡ Some tx → find_transaction new tid ≡ Some later → tid.home.0 ≡ k
    → is_open tx.cell ≡ true → is_unanimous tx ≡ true → is_unanimous later ≡ true

-- ---- what begins has an owner

abbrev pub BeginsOwned : BookValue → Entry → Type 0
BeginsOwned book entry = (tid : Tid) (label : List ℕ) (client : ClientNo) → entry.act ≡ acts.Begin tid label client → is_some (slice_get book.owners client.0) ≡ true
