-- What an event is given, from what stands as it comes, from where it comes from, and from what the agreement protocol gives of it.
use Rattle.qs_world_lawful.proofs.Words.{◌≡◌, ℕ, ◌==◌, true, false, Option, Some, None, refl, sym, ap, subst, ◌∙◌, nat_lt, is_some, NodeNo, Outcome, Tid, same_node, BookValue, cell_of_transaction, find_transaction, TransactionValue, cell_of, is_outcome, Cell, Message, Work, ComesMessage, IsAborted, book_at, HasAborted, HasOutcome, Stands, eqb-self}
use Rattle.qs_base.specs.declared.identifiers.Outcome.TheVariants as outcomes
use Rattle.qs_book_machine.specs.Transaction.{is_abort}
use Rattle.qs_book_machine.specs.declared.transaction.Cell.TheVariants as cells
use Rattle.qs_packet.specs.declared.message.Message.TheVariants as messages
use Rattle.qs_node_step.specs.Answering.{was_committed}
use Rattle.qs_node_step.specs.State.{NodeValue}
use Rattle.qs_tm.specs.Manager as tm
use Rattle.qs_world_lawful.specs.Agreed.{AgreesMessage, WasSent}
use Rattle.qs_world_lawful.specs.GivenStep.{IsCell, MayArrive, MayCome, MayCount}
use Rattle.qs_world_lawful.proofs.GivenServing.{may_reply}
use Rattle.qs_world_lawful.proofs.GivenSettling.{uncommitted}
use Rattle.qs_world_lawful.proofs.Truths.{clash, node_is, of_some}

-- a transaction with that cell
record HasCell (book : BookValue) (tid : Tid) (cell : Cell) : Type 0 where
  tx : TransactionValue
  found : find_transaction book tid ≡ Some tx
  is_so : tx.cell ≡ cell

with_cell : (book : BookValue) (tid : Tid) (cell : Cell) → cell_of_transaction (find_transaction book tid) ≡ Some cell → HasCell book tid cell
with_cell book tid cell is = by (find_transaction book tid) refl is
  where
    by : (o : Option TransactionValue) → find_transaction book tid ≡ o → cell_of_transaction o ≡ Some cell → HasCell book tid cell
    by None found h = absurd (cc h)
    by (Some tx) found h = record { tx = tx; found = found; is_so = of_some h }

module _ (stamp : ℕ) (before : BookValue) (size : ℕ) (nodes : ℕ → NodeValue) (n : ℕ) (work : Work) (s : Stands stamp before size nodes n work) where
  aborted : (tid : Tid) → HasAborted (book_at stamp before work) tid → IsAborted stamp before work tid
  aborted tid is = let h : HasCell (book_at stamp before work) tid cells.Abort = with_cell (book_at stamp before work) tid cells.Abort is in record { tx = h.tx; found = h.found; aborted = ap is_abort h.is_so }

  told : (tid : Tid) (outcome : Outcome) → HasOutcome (book_at stamp before work) tid outcome → IsCell stamp before work tid outcome
  told tid outcome is = let h : HasCell (book_at stamp before work) tid (cell_of outcome) = with_cell (book_at stamp before work) tid (cell_of outcome) is in record { tx = h.tx; found = h.found; is_so = ap (is_outcome outcome) h.is_so ∙ its outcome }
    where
      its : (o : Outcome) → is_outcome o (cell_of o) ≡ true
      its outcomes.Commit = refl
      its outcomes.Abort = refl

  count : (peer : NodeNo) (tid : Tid) (up_to : ℕ) → (peer.0 == work.node.setting.node.0) ≡ false → nat_lt peer.0 work.node.setting.nodes ≡ true → WasSent work peer tid up_to → MayCount work peer tid up_to
  count peer tid up_to other in_run sent = record { other = other; in_run = in_run; sent = sent }

  pub may_come : (peer : NodeNo) (message : Message) → ComesMessage (book_at stamp before work) work.node peer message → AgreesMessage size nodes n work peer message → MayCome stamp before work peer message
  may_come peer messages.Hello c a = tt
  may_come peer (messages.Request tid label member number issuer op) c a = by (find_transaction (book_at stamp before work) tid) refl c.says
    where
      by : (o : Option TransactionValue) → find_transaction (book_at stamp before work) tid ≡ o → is_some o ≡ true → MayArrive stamp before work peer tid member number op
      by None found there = absurd (cc there)
      by (Some tx) found there = record { tx = tx; found = found; open_still = uncommitted stamp before size nodes n work s.by tid a tx found; stands = c.behind tx found }
  may_come peer (messages.Answered tid member number reply) c a = may_reply stamp before size nodes n work s tid member number
  may_come peer (messages.AskVote tid) c a = record {
    away = λ part known away e. clash (sym away ∙ ((s.by.facts.parts tid part known).homed ∙ (ap (λ (k : NodeNo). same_node k work.node.setting.node) e ∙ eqb-self work.node.setting.node.0)));
    asked = λ tx found. subst (λ (t : TransactionValue). is_some t.asked ≡ true) (of_some (sym c.says.1 ∙ found)) c.says.2;
  }
  may_come peer (messages.Covered tid up_to) c a = count peer tid up_to c.other c.in_run a
  may_come peer (messages.VotedYes tid up_to told) c a = count peer tid up_to c.other c.in_run a
  may_come peer (messages.VotedAbort tid cause) c a = tt
  may_come peer (messages.Tell tid outcome) c a = told tid outcome c.says
  may_come peer (messages.Told tid further) c a = record { unknown = λ unknown others. aborted tid (c.says others); once = s.by.facts.rising }
  may_come peer (messages.Inquire tid) c a = λ unknown uncommitted. by (find_transaction (book_at stamp before work) tid) refl c.says unknown uncommitted
    where
      by : (o : Option TransactionValue) → find_transaction (book_at stamp before work) tid ≡ o → is_some o ≡ true → tm.part_of tid work.node.manager ≡ None → was_committed tid work.node ≡ false → IsAborted stamp before work tid
      by None found there unknown kept = absurd (cc there)
      by (Some tx) found there unknown kept = record { tx = tx; found = found; aborted = ((s.by.beside.at tid).ended tx (node_is tid.home work.node.setting.node c.goes) found).unknown unknown kept }
