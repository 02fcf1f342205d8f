-- Each committed transaction has all its requests served, and is crossed nowhere.
use Rattle.qs_book_laws.proofs.Words.{◌≡◌, List, [], ◌∷◌, Option, Some, None, refl, sym, ◌∙◌, Member, Tid, Entry, TransactionValue, Cell, BookValue, find_transaction, cell_of_transaction, broken, effect, IsLawful, book_after, opening, Opened, IsCoherent, IsDecided, IsCommitted}
use Rattle.qs_book_machine.specs.declared.transaction.Cell.TheVariants as cells
use Rattle.qs_book_laws.proofs.Always.{unknown, opening_so}
use Rattle.qs_book_laws.proofs.Committed.{step_takes}
use Rattle.qs_book_laws.proofs.Histories.{stays}
use Rattle.qs_book_laws.proofs.Openings.{opening_holds}
use Rattle.qs_book_laws.proofs.Outcomes.{Inv}
use Rattle.qs_book_laws.proofs.Ready.{Ready, unanimous_ready, step_ready}
use Rattle.qs_book_laws.proofs.Shut.{Shut}
use Rattle.qs_book_laws.proofs.ShutOpenings.{opening_shut}
use Rattle.qs_book_laws.proofs.Steps.{stepped}
use Rattle.qs_book_laws.proofs.Takes.{some_same}
use Rattle.qs_book_laws.proofs.Unanimous.{Commits, step_commits}

module _ (tid : Tid) (member : Member) where
  -- where it is committed, it is ready
  abbrev pub ReadyOnce : BookValue → Type 0
  ReadyOnce book = IsCommitted book tid → Ready book tid member

  cell_there : (o : Option TransactionValue) (cell : Cell) → cell_of_transaction o ≡ Some cell → (tx : TransactionValue) × (o ≡ Some tx) × (tx.cell ≡ cell)
  cell_there None cell h = absurd (cc h)
  cell_there (Some tx) cell h = (tx, refl, some_same tx.cell cell h)

  no_cell : (o : Option TransactionValue) → cell_of_transaction o ≡ None → o ≡ None
  no_cell None h = refl
  no_cell (Some tx) h = absurd (cc h)

  pub step_once : (book : BookValue) (entry : Entry) → Inv book → Shut book → broken book entry ≡ None → ReadyOnce book → ReadyOnce (effect book entry)
  step_once book entry i shut h once now = step_ready tid member book entry i (by (cell_of_transaction (find_transaction book tid)) refl) h now
    where
      by : (o : Option Cell) → cell_of_transaction (find_transaction book tid) ≡ o → Ready book tid member
      by None none =
          let tx = cell_there (find_transaction (effect book entry) tid) cells.Commit now in
          let begun : tx.0.cell ≡ cells.Open = unknown tid (λ t. t.cell ≡ cells.Open) book entry h (λ label client ticks. refl) (no_cell (find_transaction book tid) none) tx.0 tx.1 in
          absurd (cc (sym begun ∙ tx.2))
      by (Some cells.Commit) is = once is
      by (Some cells.Open) is =
          let c : Commits book tid = step_commits book entry tid shut h is now in
          unanimous_ready book tid member c.tx c.found c.unanimous
      by (Some cells.Abort) is =
          let d : IsDecided (effect book entry) tid cells.Abort = stays book (effect book entry) tid cells.Abort (stepped book entry i h).kept (record { decided = refl; cell_is = is }) in
          absurd (cc (sym d.cell_is ∙ now))

  first_once : (opened : List Opened) → ReadyOnce (opening opened)
  first_once opened now =
      let tx = cell_there (find_transaction (opening opened) tid) cells.Commit now in
      let bare : (tx.0.requests ≡ []) × (tx.0.crossed ≡ []) = opening_so tid (λ t. (t.requests ≡ []) × (t.crossed ≡ [])) (λ cell cause. (refl, refl)) (λ m inc covers changes t p. p) opened tx.0 tx.1 in
      record { tx = tx.0; found = tx.1; served = rw bare.0 refl; plain = rw bare.1 refl }

  once_on : (entries : List Entry) (book : BookValue) → Inv book → Shut book → IsLawful book entries → ReadyOnce book → ReadyOnce (book_after book entries)
  once_on [] book i shut lawful once = once
  once_on (entry ∷ entries) book i shut lawful once =
      once_on entries (effect book entry) (stepped book entry i lawful.0).inv (step_takes book entry i shut lawful.0).shut lawful.1 (step_once book entry i shut lawful.0 once)

  pub ready_once : (opened : List Opened) (entries : List Entry) → IsCoherent opened → IsLawful (opening opened) entries → ReadyOnce (book_after (opening opened) entries)
  ready_once opened entries coherent lawful = once_on entries (opening opened) (opening_holds opened coherent) (opening_shut opened coherent) lawful (first_once opened)
