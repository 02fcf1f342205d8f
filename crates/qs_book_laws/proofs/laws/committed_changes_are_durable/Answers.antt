use Rattle.qs_book_laws.proofs.Lasting.{lasts}
use Rattle.qs_book_laws.proofs.laws.committed_changes_are_durable.Goals as goal

pub returns : goal.returns
returns c = lasts
