use Rattle.std.proofs.Common.{◌≡◌, length}
use Rattle.qs_text_script.specs.Script.{is_given_back}
use Rattle.qs_text_script.proofs.open.is_given_back.Given as goal

abbrev pub invariant-loop-rest : goal.invariant-loop-rest
invariant-loop-rest l = is_given_back l.line l.rest ≡ is_given_back l.line l.later

abbrev pub decreases-loop-rest : goal.decreases-loop-rest
decreases-loop-rest l = length l.rest
