use Rattle.qs_base_each.proofs.Zips.{zip_halves, zip_both}
use Rattle.qs_base_each.proofs.+halves.Goals as goal

pub halves-returns-clause-whole : goal.halves-returns-clause-whole
halves-returns-clause-whole g t c = zip_both _ _ _ _ _ _ _ c.split_at_mut-front.ensures.value c.both.ensures.whole

pub halves-returns-clause-each : goal.halves-returns-clause-each
halves-returns-clause-each g t c = zip_halves _ _ _ _ _ _ c.split_at_mut-front.ensures.value c.both.ensures.front c.both.ensures.back
