use Rattle.qs_book_script.proofs.WordLemmas.{one_spelling}
use Rattle.qs_book_script.proofs.number.numbers_have_one_spelling.Goals as goal

pub returns : goal.returns
returns c = one_spelling
