use Rattle.std.proofs.Common.{◌<◌, length, map, arith, sym}
use Rattle.std.proofs.lemmas.List.{length-map}
use Rattle.qs_text_history.proofs.CauseLemmas.{too_short}
use Rattle.qs_text_history.proofs.causes.voted_of.Goals as goal

pub returns-in_default : goal.returns-in_default
returns-in_default c =
    let short : length c.args.words.now < 3 = omega arith in
    sym (too_short (map (λ word. word.now) c.args.words.now) (rw length-map short))
