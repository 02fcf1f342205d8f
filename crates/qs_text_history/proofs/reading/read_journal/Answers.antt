use Rattle.qs_text_history.proofs.JournalLemmas.{all_journals, all_firsts, all_back}
use Rattle.qs_text_history.proofs.reading.read_journal.Goals as goal

pub returns-clause-ok : goal.returns-clause-ok
returns-clause-ok c = all_journals c.args.text.now c.read_whole.result c.read_whole.ensures.read

pub returns-clause-first : goal.returns-clause-first
returns-clause-first c = all_firsts c.args.text.now c.read_whole.result c.read_whole.ensures.read

pub returns-clause-back : goal.returns-clause-back
returns-clause-back c = all_back c.args.text.now c.read_whole.result c.read_whole.ensures.read c.read_whole.ensures.fault
