use Rattle.qs_codec.proofs.GrammarLemmas.{no_prefix}
use Rattle.qs_codec.proofs.laws.no_prefix.Goals as goal

pub returns : goal.returns
returns c = no_prefix
