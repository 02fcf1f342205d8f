use Rattle.std.proofs.Common.{◌≡◌, ◌∙◌, ap, rules, tests, map}
use Rattle.std.proofs.lemmas.Iterator.Consumers.{YieldsList-at, YieldsList-from_filter, YieldsList-from_rest, count_from_yields_List}
use Rattle.std.proofs.lemmas.List.Sums.{length-filter}
use Rattle.qs_text.specs.Output.{is_begun, transactions_of}
use Rattle.qs_text.proofs.totals.begun.Goals as goal

pub returns : goal.returns
returns c =
    let all : c.values.result ≡ transactions_of c.args.book.now = c.values.ensures.rest ∙ ap (map (λ e. e.1)) c.transactions.ensures in
    count_from_yields_List c.filter.result _ c.count.ensures.ran
    (YieldsList-from_filter _ is_begun (YieldsList-at c.filter.ensures.source (YieldsList-from_rest (transactions_of c.args.book.now) all))
    c.filter.ensures.closure
    (λ x r q k. search (rules, tests)))
    ∙ length-filter is_begun (transactions_of c.args.book.now)
