use Rattle.qs_book_laws.proofs.Covered.{record_covers}
use Rattle.qs_book_laws.proofs.laws.a_commit_covers_what_was_served.Goals as goal

pub returns : goal.returns
returns c = record_covers
