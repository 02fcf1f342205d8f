use Rattle.qs_codec.proofs.GrammarLemmas.{one_spelling}
use Rattle.qs_codec.proofs.laws.one_spelling.Goals as goal

pub returns : goal.returns
returns c = one_spelling
