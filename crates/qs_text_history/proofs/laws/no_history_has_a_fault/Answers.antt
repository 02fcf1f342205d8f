use Rattle.qs_text_history.proofs.RoundLemmas.{no_fault}
use Rattle.qs_text_history.proofs.laws.no_history_has_a_fault.Goals as goal

pub returns : goal.returns
returns c = λ text opened entries line. no_fault text opened entries line
