use Rattle.std.proofs.Common.{◌∙◌, ◌++◌, ◌∷◌, [], ap, sym, List, Option}
use Rattle.std.specs.Prelude.{unwrap_or}
use Rattle.std.specs.Map.{set_value}
use Rattle.std.specs.BTreeMap.{insert_entry, is_at}
use Rattle.std.proofs.lemmas.Result.{on_ok_weaker, on_err_weaker}
use Rattle.std.proofs.lemmas.Map.Steps.{set_value_same}
use Rattle.qs_book_machine.specs.declared.transaction.Request.{Request}
use Rattle.qs_book_machine.specs.Transaction.{request_cmp}
use Rattle.qs_book_machine.proofs.Present.{insert_present, request_total}
use Rattle.qs_book_transactions.proofs.transaction.requesting.file.Goals as goal

pub returns-in-Some-clause-requests : goal.returns-in-Some-clause-requests
returns-in-Some-clause-requests c =
    let es = c.args.requests.now.entries in
    let list = c.follow.new.list in
    on_ok_weaker c.follow.result
    (λ added. (c.get_mut.follows.holds list).0
    ∙ insert_present request_cmp request_total es c.args.at c.in-Some.list.now list c.in-Some.ensures.ordered c.in-Some.ensures.value
    ∙ ap (λ (l : List Request). insert_entry request_cmp es c.args.at l)
    (added ∙ ap (λ (o : Option (List Request)). unwrap_or o [] ++ c.args.request ∷ []) c.in-Some.ensures.value))
    c.follow.ensures.list

pub returns-in-Some-clause-requests_err : goal.returns-in-Some-clause-requests_err
returns-in-Some-clause-requests_err c =
    let es = c.args.requests.now.entries in
    on_err_weaker c.follow.result
    (λ same. (c.get_mut.follows.holds c.follow.new.list).0
    ∙ ap (λ (l : List Request). set_value (is_at (request_cmp c.args.at)) es l) same
    ∙ set_value_same (is_at (request_cmp c.args.at)) es c.in-Some.list.now (sym c.in-Some.ensures.value))
    c.follow.ensures.list_err
