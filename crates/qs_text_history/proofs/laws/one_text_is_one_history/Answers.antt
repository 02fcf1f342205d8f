use Rattle.qs_text_history.proofs.JournalLemmas.{one_history}
use Rattle.qs_text_history.proofs.laws.one_text_is_one_history.Goals as goal

pub returns : goal.returns
returns c = one_history
