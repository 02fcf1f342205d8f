use Rattle.qs_book_laws.proofs.AllAgreed.{unanimous_decision, unanimous_commit}
use Rattle.qs_book_laws.proofs.laws.a_commit_is_unanimous.Goals as goal

pub returns : goal.returns
returns c = record { decided = unanimous_decision; committed = unanimous_commit }
