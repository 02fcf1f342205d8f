use Rattle.qs_book_conformance.proofs.ConformingLemmas.{misfit_iff}
use Rattle.qs_book_conformance.proofs.laws.no_misfit_means_conforming.Goals as goal

pub returns : goal.returns
returns c = misfit_iff
