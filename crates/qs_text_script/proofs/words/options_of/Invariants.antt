use Rattle.std.proofs.Common.{◌≡◌, length}
use Rattle.qs_text_script.specs.Words.{options_of, no_options}
use Rattle.qs_text_script.proofs.words.options_of.Given as goal

abbrev pub invariant-loop-rest : goal.invariant-loop-rest
invariant-loop-rest l = options_of l.options l.rest ≡ options_of no_options l.words

abbrev pub decreases-loop-rest : goal.decreases-loop-rest
decreases-loop-rest l = length l.rest
