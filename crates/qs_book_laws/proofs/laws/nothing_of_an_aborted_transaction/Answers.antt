use Rattle.qs_book_laws.proofs.Committed.{takes_committed, leaves_committed}
use Rattle.qs_book_laws.proofs.laws.nothing_of_an_aborted_transaction.Goals as goal

pub returns : goal.returns
returns c = record { taken = takes_committed; left = leaves_committed }
