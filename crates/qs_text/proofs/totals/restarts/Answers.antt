use Rattle.std.proofs.Common.{◌∙◌, rules, tests}
use Rattle.std.proofs.lemmas.Iterator.{YieldsList-from_slice}
use Rattle.std.proofs.lemmas.Iterator.Consumers.{YieldsList-at, YieldsList-from_filter, count_from_yields_List}
use Rattle.std.proofs.lemmas.List.Sums.{length-filter}
use Rattle.qs_text.specs.Output.{is_restart}
use Rattle.qs_text.proofs.totals.restarts.Goals as goal

pub returns : goal.returns
returns c =
    count_from_yields_List c.filter.result _ c.count.ensures.ran
    (YieldsList-from_filter _ is_restart (YieldsList-at c.filter.ensures.source (YieldsList-from_slice c.args.history.now cc))
    c.filter.ensures.closure
    (λ x r q k. search (rules, tests)))
    ∙ length-filter is_restart c.args.history.now
