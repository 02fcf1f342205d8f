use Rattle.qs_book_laws.proofs.Final.{final}
use Rattle.qs_book_laws.proofs.endings.nothing_is_served_after_an_outcome.Goals as goal

pub returns : goal.returns
returns c = final
