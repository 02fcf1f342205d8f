use Rattle.std.proofs.Common.{sym, ◌∙◌}
use Rattle.std.proofs.lemmas.List.Quantifiers.{position-Some}
use Rattle.qs_book_machine.specs.Transaction.{is_standing}
use Rattle.qs_book_transactions.proofs.Served.{mark_served_at, mark_served_none}
use Rattle.qs_book_transactions.proofs.requests.Requests.serve.Goals as goal

pub returns-in-Some : goal.returns-in-Some
returns-in-Some c =
    let xs = c.self.inside.items.items in
    let request = c.index_mut-request.result.now in
    rw (← c.self.view_is)
    (let found = position-Some (is_standing c.args.member) xs c.in-Some.at request (rw (← c.self.view_is) at (sym c.place.ensures ∙ c.in-Some.is)) in
    mark_served_at c.args.member xs c.in-Some.at request request found.0 found.1 found.2 c.index_mut-request.ensures.value)

pub returns-in_default : goal.returns-in_default
returns-in_default c = mark_served_none c.args.member c.args.self.now (sym c.place.ensures ∙ c.in_default.is)
