-- What a lawful entry that another node makes in a step leaves of what the machine has beside a transaction at a node that runs.
use Rattle.qs_world_lawful.proofs.Words.{◌≡◌, ◌⊎◌, inl, inr, ℕ, ◌+◌, ◌≤◌, ◌==◌, ◌||◌, Bool, true, false, List, refl, sym, ap, subst, ◌∙◌, list_any, NodeNo, Outcome, ServerNo, Tid, Part, TransactionValue, has_note, is_commit, is_covering, is_open, is_outcome, is_start, Cell, Participant, HoldsNotes, HoldsReads, HoldsReader, HoldsStranger, has_issued, at_server}
use Rattle.qs_base.specs.declared.identifiers.Outcome.TheVariants as outcomes
use Rattle.qs_book_machine.specs.Clauses.{note_text}
use Rattle.qs_book_machine.specs.Transaction.{part_of}
use Rattle.qs_book_machine.specs.declared.transaction.Cell.TheVariants as cells
use Rattle.qs_tm.specs.Members as rules
use Rattle.qs_world_lawful.proofs.AsideTid.{other, part_same, starts_same}
use Rattle.qs_world_lawful.proofs.Turning.{Turns}

module _ (acting now place : ℕ) (here : NodeNo) (i : ℕ) (tid : Tid) (tx later : TransactionValue) (t : Turns acting now place tid tx later) (far : (here.0 == acting) ≡ false) where
  issued_same : (text : List ℕ) → has_issued later here i text ≡ has_issued tx here i text
  issued_same text = t.issued here i text (other acting now place here i tid tx later t far i)

  same_part : (server : ServerNo) → part_of later (at_server here server) i ≡ part_of tx (at_server here server) i
  same_part server = part_same acting now place here i tid tx later t far server i

  pub notes_beside : (part : Participant) → HoldsNotes here i tid tx part → HoldsNotes here i tid later part
  notes_beside part h = record {
    issued = λ count low is. h.issued count low (sym (issued_same (note_text tid here.0 count)) ∙ is);
    served = λ count low is. served count low (t.noted here i (note_text tid here.0 count) is);
  }
    where
      served : (count : ℕ) → 1 ≤ count → (has_note tx (record { node = here; inc = i; text = note_text tid here.0 count }) ≡ true) ⊎ (has_issued tx here i (note_text tid here.0 count) ≡ true) → has_issued later here i (note_text tid here.0 count) ≡ true
      served count low (inl was) = issued_same (note_text tid here.0 count) ∙ h.served count low was
      served count low (inr some) = issued_same (note_text tid here.0 count) ∙ some

  covering_same : (server : ServerNo) → is_covering later (at_server here server) i 0 ≡ is_covering tx (at_server here server) i 0
  covering_same server =
      ap (λ (p : Part). (0 == p.served + p.found) || list_any (is_start (at_server here server) i p.served 0) later.starts) (same_part server)
      ∙ ap (λ (b : Bool). (0 == (part_of tx (at_server here server) i).served + (part_of tx (at_server here server) i).found) || b)
      (starts_same acting now place here i tid tx later t far server i (part_of tx (at_server here server) i).served 0)

  pending_same : (part_of later (at_server here rules.files_no) i).pending ≡ (part_of tx (at_server here rules.files_no) i).pending
  pending_same = ap (λ (p : Part). p.pending) (same_part rules.files_no)

  pub reads_beside : (part : Participant) → HoldsReads here i tid tx part → HoldsReads here i tid later part
  reads_beside part h = record {
    readers = λ server kept. reader server (h.readers server kept);
    unchanged = λ is. pending_same ∙ h.unchanged is;
    counted = λ count low is. subst (λ (n : ℕ). count ≤ n) (sym pending_same) (h.counted count low (sym (issued_same (note_text tid here.0 count)) ∙ is));
  }
    where
      reader : (server : ServerNo) → HoldsReader here i tx part server → HoldsReader here i later part server
      reader server r = record { anew = λ voting read. covering_same server ∙ r.anew voting read; unfresh = r.unfresh; told = r.told }

  pub stranger_beside : HoldsStranger here i tid tx → HoldsStranger here i tid later
  stranger_beside h = record { unissued = λ count low. issued_same (note_text tid here.0 count) ∙ h.unissued count low; unchanged = pending_same ∙ h.unchanged }

  shut : (o : Outcome) (c : Cell) → is_outcome o c ≡ true → is_open c ≡ false
  shut o cells.Commit e = refl
  shut o cells.Abort e = refl
  shut outcomes.Commit cells.Open e = absurd (cc e)
  shut outcomes.Abort cells.Open e = absurd (cc e)

  pub outcome_beside : (o : Outcome) → is_outcome o tx.cell ≡ true → is_outcome o later.cell ≡ true
  outcome_beside o is = ap (is_outcome o) (t.decided (shut o tx.cell is)) ∙ is

  pub uncommitted_back : is_commit later.cell ≡ false → is_commit tx.cell ≡ false
  uncommitted_back is = by (is_commit tx.cell) refl
    where
      closed : (c : Cell) → is_commit c ≡ true → is_open c ≡ false
      closed cells.Commit e = refl
      closed cells.Open e = absurd (cc e)
      closed cells.Abort e = refl

      by : (b : Bool) → is_commit tx.cell ≡ b → is_commit tx.cell ≡ false
      by false e = e
      by true e = absurd (cc (is, ap is_commit (t.decided (closed tx.cell e)) ∙ e))
