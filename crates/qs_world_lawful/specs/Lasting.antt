-- What stands in the reference machine at every time, whatever its nodes have: nothing is kept of incarnations to come, and what is
-- open at its home began in the home's present incarnation.
use Rattle.std.specs.Prelude.{◌≡◌, ◌≤◌, ◌<◌, ℕ, true, false, List, length, Some, slice_get}
use Rattle.std.specs.List.{filter}
use Rattle.qs_base.specs.declared.identifiers.Member.{Member}
use Rattle.qs_base.specs.declared.identifiers.NodeNo.{NodeNo}
use Rattle.qs_base.specs.declared.identifiers.ServerNo.{ServerNo}
use Rattle.qs_base.specs.declared.identifiers.Tid.{Tid}
use Rattle.qs_book_laws.proofs.Rising.{IsRising}
use Rattle.qs_book_machine.specs.Book.{BookValue, find_transaction}
use Rattle.qs_book_machine.specs.Nodes as machine
use Rattle.qs_book_machine.specs.Restart.{is_among}
use Rattle.qs_book_machine.specs.Transaction.{TransactionValue, has_note, is_commit, is_crossed, is_empty, is_open, is_standing, no_part, part_of, requests_at, sent_in, sent_on}
use Rattle.qs_book_machine.specs.declared.transaction.RequestNo.{RequestNo}
use Rattle.qs_world_lawful.specs.Logged.{HasCommitted, IsNamed}
use Rattle.qs_world_lawful.specs.Waits.{AreFor, standing_ops}

-- of one transaction, nothing in an incarnation of a node that is to come
pub record IsBefore (tx : TransactionValue) (here : NodeNo) (inc : ℕ) : Type 0 where
  pub parts : (server : ServerNo) → part_of tx (record { node = here; server = server }) inc ≡ no_part
  pub sent : (peer : NodeNo) → sent_in inc (sent_on tx (record { from = here; to = peer })) ≡ 0
  pub noted : (text : List ℕ) → has_note tx (record { node = here; inc = inc; text = text }) ≡ false

-- it began in the present incarnation of its home, as one of those that are counted
pub record IsOfNow (state : machine.NodeValue) (tid : Tid) : Type 0 where
  pub inc : tid.inc ≡ state.inc
  pub counted : tid.seq ≤ state.begun

-- what stands at a member stands once, where it is not crossed there, and is the member's
pub record StandsOnce (tx : TransactionValue) : Type 0 where
  pub whole : is_commit tx.cell ≡ true → is_empty tx.crossed ≡ true
  pub once : (member : Member) (at : RequestNo) → is_crossed tx member ≡ false → length (filter (is_standing member) (requests_at tx at)) ≤ 1
  pub fits : (member : Member) (at : RequestNo) → AreFor member.server (standing_ops tx at member.node member.server)

-- of a node
pub record LastsAt (book : BookValue) (here : NodeNo) (state : machine.NodeValue) : Type 0 where
  pub before : (tid : Tid) (tx : TransactionValue) (inc : ℕ) → find_transaction book tid ≡ Some tx → state.inc < inc → IsBefore tx here inc
  pub begun : (tid : Tid) (tx : TransactionValue) → find_transaction book tid ≡ Some tx → tid.home ≡ here → tid.inc ≤ state.inc
  pub open_now : (tid : Tid) (tx : TransactionValue) → find_transaction book tid ≡ Some tx → tid.home ≡ here → is_open tx.cell ≡ true → IsOfNow state tid
  pub committed : (tid : Tid) → is_among state.committed tid ≡ true → HasCommitted book tid
  pub tidy : IsRising machine.voter_cmp state.records
  pub stopped : state.stopped ≤ book.place

pub record Lasts (book : BookValue) : Type 0 where
  pub named : IsNamed book
  pub past : (tid : Tid) (tx : TransactionValue) (place : ℕ) → find_transaction book tid ≡ Some tx → tx.decided ≡ Some place → place < book.place
  pub waits : (tid : Tid) (tx : TransactionValue) → find_transaction book tid ≡ Some tx → StandsOnce tx
  pub nodes : (here : NodeNo) (state : machine.NodeValue) → slice_get book.nodes here.0 ≡ Some state → LastsAt book here state
