use Rattle.qs_book_journal.proofs.MergeLemmas.{merged_once}
use Rattle.qs_book_journal.proofs.merging.one_merge.Goals as goal

pub returns : goal.returns
returns c = merged_once
