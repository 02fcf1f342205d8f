-- The changes of a committed transaction at files and audit: all that it served is kept as it is committed, until an entry
-- applies it, once.
use Rattle.qs_book_laws.proofs.Words.{◌≡◌, true, List, ◌∷◌, ◌++◌, Option, Some, sym, ap, ◌∙◌, nat_lt, length, Member, Tid, Entry, TransactionValue, is_open, find_transaction, cell_of_transaction, effect, IsLawful, book_after, opening, Opened, IsCommitted, IsCoherent, changes_served, keeps_contents}
use Rattle.qs_book_machine.specs.declared.transaction.Cell.TheVariants as cells
use Rattle.qs_book_laws.specs.Durable.{IsDurable}
use Rattle.qs_book_laws.proofs.AtCommit.{kept_at_commit}
use Rattle.qs_book_laws.proofs.Committed.{ran_shut}
use Rattle.qs_book_laws.proofs.Durable.{kept_from_commit}
use Rattle.qs_book_laws.proofs.InRun.{in_run}
use Rattle.qs_book_laws.proofs.Openings.{opening_holds}
use Rattle.qs_book_laws.proofs.ShutOpenings.{opening_shut}
use Rattle.qs_book_laws.proofs.Steps.{lawful_front, lawful_rest}
use Rattle.qs_book_laws.proofs.Takes.{some_same}
use Rattle.qs_book_laws.proofs.Unanimous.{Commits, step_commits}

open_is : (o : Option TransactionValue) (tx : TransactionValue) → cell_of_transaction o ≡ Some cells.Open → o ≡ Some tx → is_open tx.cell ≡ true
open_is o tx was found = ap is_open (some_same tx.cell cells.Open (sym (ap cell_of_transaction found) ∙ was))

pub lasts : (opened : List Opened) (before after : List Entry) (entry : Entry) (tid : Tid) (member : Member) → IsCoherent opened → keeps_contents member.server.0 ≡ true → nat_lt member.node.0 (length opened) ≡ true
    → IsLawful (opening opened) (before ++ (entry ∷ after)) → cell_of_transaction (find_transaction (book_after (opening opened) before) tid) ≡ Some cells.Open → IsCommitted (effect (book_after (opening opened) before) entry) tid
    → IsDurable (book_after (opening opened) before) tid member (changes_served (opening opened) tid member before) (entry ∷ after)
lasts opened before after entry tid member coherent keeps member_in lawful was now =
    let front : IsLawful (opening opened) before = lawful_front before (entry ∷ after) (opening opened) lawful in
    let c : Commits (book_after (opening opened) before) tid =
    step_commits (book_after (opening opened) before) entry tid (ran_shut before (opening opened) (opening_holds opened coherent) (opening_shut opened coherent) front)
    (lawful_rest before (entry ∷ after) (opening opened) lawful).0 was now in
    kept_from_commit opened before after entry tid member (changes_served (opening opened) tid member before) coherent keeps member_in lawful was now
    (kept_at_commit opened before tid member c.tx coherent keeps member_in (in_run opened before tid.home.0 c.home coherent c.at_home) front c.found
    (open_is (find_transaction (book_after (opening opened) before) tid) c.tx was c.found) c.unanimous)
