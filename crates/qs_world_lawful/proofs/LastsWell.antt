-- What stands in the machine at every time, with what it takes to show that it stands on: nothing is kept, and no note was issued, in an
-- incarnation that is to come.
use Rattle.qs_world_lawful.proofs.Words.{◌≡◌, inl, inr, ℕ, ◌<◌, ◌≤◌, true, false, List, Option, Some, None, refl, sym, ap, ◌∙◌, arith, slice_get, option_map, NodeNo, Tid, age, face, Inv, facet, BookValue, cell_of_transaction, find_transaction, is_among, TransactionValue, is_commit, is_open, Cell, has_issued, IsBefore, IsOfNow, Lasts, StandsOnce, HasCommitted, IsNamed}
use Rattle.qs_book_laws.proofs.Outcomes.{IsBegun}
use Rattle.qs_book_laws.proofs.Shut.{IsShut, Shut}
use Rattle.qs_book_laws.proofs.Stills.{asked_of}
use Rattle.qs_book_laws.proofs.Tidy.{AllTidy}
use Rattle.qs_book_machine.specs.Nodes as machine
use Rattle.qs_book_machine.specs.declared.transaction.Cell.TheVariants as cells
use Rattle.qs_world_lawful.proofs.PastStops.{HaveStopped}
use Rattle.qs_base_lemmas.proofs.Tests.{lt_le, eq_le}

-- files issued no note in an incarnation that is to come
abbrev pub IssuedBefore : BookValue → Type 0
IssuedBefore book = (here : NodeNo) (state : machine.NodeValue) (tid : Tid) (tx : TransactionValue) (inc : ℕ) (text : List ℕ) → slice_get book.nodes here.0 ≡ Some state → find_transaction book tid ≡ Some tx → state.inc < inc → has_issued tx here inc text ≡ false

pub record LastsWell (book : BookValue) : Type 0 where
  pub inv : Inv book
  pub shut : Shut book
  pub tidy : AllTidy book.nodes
  pub stopped : HaveStopped book.place book.nodes
  pub named : IsNamed book
  pub past : (tid : Tid) (tx : TransactionValue) (place : ℕ) → find_transaction book tid ≡ Some tx → tx.decided ≡ Some place → place < book.place
  pub waits : (tid : Tid) (tx : TransactionValue) → find_transaction book tid ≡ Some tx → StandsOnce tx
  pub before : (here : NodeNo) (state : machine.NodeValue) (tid : Tid) (tx : TransactionValue) (inc : ℕ) → slice_get book.nodes here.0 ≡ Some state → find_transaction book tid ≡ Some tx → state.inc < inc → IsBefore tx here inc
  pub issued : IssuedBefore book
  pub now : (here : NodeNo) (state : machine.NodeValue) (tid : Tid) (tx : TransactionValue) → slice_get book.nodes here.0 ≡ Some state → find_transaction book tid ≡ Some tx → tid.home ≡ here → is_open tx.cell ≡ true → tid.inc ≡ state.inc

-- it began in an incarnation up to this one, and as one of those that are counted
pub begun_by : (book : BookValue) (i : Inv book) (here : NodeNo) (state : machine.NodeValue) (tid : Tid) (tx : TransactionValue) → slice_get book.nodes here.0 ≡ Some state → find_transaction book tid ≡ Some tx → tid.home ≡ here → IsBegun tid (age state)
begun_by book i here state tid tx there found home = i.begun tid (face tx) (age state) (ap (option_map face) found) (ap (λ (n : NodeNo). option_map age (slice_get book.nodes n.0)) home ∙ ap (option_map age) there)

pub lasts_of : (book : BookValue) → LastsWell book → Lasts book
lasts_of book w = record {
  named = w.named;
  past = w.past;
  waits = w.waits;
  nodes = λ here state there. record {
    before = λ tid tx inc found later. w.before here state tid tx inc there found later;
    begun = λ tid tx found home. low tid state (begun_by book w.inv here state tid tx there found home);
    open_now = λ tid tx found home undecided. of_now state tid (w.now here state tid tx there found home undecided) (begun_by book w.inv here state tid tx there found home);
    committed = λ tid among. committed here state there tid among;
    tidy = (w.tidy here.0 state there).records;
    stopped = w.stopped here.0 state there;
  };
}
  where
    low : (tid : Tid) (state : machine.NodeValue) → IsBegun tid (age state) → tid.inc ≤ state.inc
    low tid state (inl less) = lt_le tid.inc state.inc less
    low tid state (inr at) = eq_le tid.inc state.inc at.0

    of_now : (state : machine.NodeValue) (tid : Tid) → tid.inc ≡ state.inc → IsBegun tid (age state) → IsOfNow state tid
    of_now state tid is (inl less) = absurd (differ tid.inc state.inc is less)
      where
        differ : (a b : ℕ) → a ≡ b → a < b → ⊥
        differ a b e h = omega arith
    of_now state tid is (inr at) = record { inc = is; counted = at.1 }

    committed : (here : NodeNo) (state : machine.NodeValue) → slice_get book.nodes here.0 ≡ Some state → (tid : Tid) → is_among state.committed tid ≡ true → HasCommitted book tid
    committed here state there tid among = by (find_transaction book tid) refl
      where
        s : IsShut book (facet state) tid
        s = w.shut here.0 (facet state) tid (ap (option_map facet) there) among

        commit_is : (c : Cell) → is_commit c ≡ true → c ≡ cells.Commit
        commit_is cells.Commit e = refl
        commit_is cells.Open e = absurd (cc e)
        commit_is cells.Abort e = absurd (cc e)

        by : (o : Option TransactionValue) → find_transaction book tid ≡ o → HasCommitted book tid
        by None is = absurd (cc (sym (ap (option_map asked_of) is) ∙ s.asks))
        by (Some tx) is = ap cell_of_transaction is ∙ ap Some (commit_is tx.cell (s.committed (face tx) (ap (option_map face) is)))
