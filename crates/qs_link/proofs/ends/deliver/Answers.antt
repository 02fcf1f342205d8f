use Rattle.std.proofs.Common.{◌∙◌, sym, ap, get_or}
use Rattle.qs_link.specs.Lanes.{with_answer}
use Rattle.qs_link.proofs.Places.{change_at, change_none, unchanged_at, on_ok, on_err}
use Rattle.qs_link.proofs.ends.deliver.Goals as goal

pub returns-in-Some : goal.returns-in-Some
returns-in-Some c = record {
  ok = on_ok c.put.result c.put.ensures.ok (λ is.
      change_at c.args.client (with_answer c.args.answer) c.args.ends.now c.in-Some.at _ c.index-ends-at.result (sym c.place.ensures ∙ c.in-Some.is)
      (ap (λ feed. record (get_or c.args.ends.now c.in-Some.at c.index-ends-at.result) { answers = feed }) is));
  err = on_err c.put.result c.put.ensures.err (λ same.
      unchanged_at c.args.ends.now c.in-Some.at _ c.index-ends-at.result
      (ap (λ feed. record (get_or c.args.ends.now c.in-Some.at c.index-ends-at.result) { answers = feed }) same));
}

pub returns-in-None-clause-ok : goal.returns-in-None-clause-ok
returns-in-None-clause-ok c = change_none c.args.client (with_answer c.args.answer) c.args.ends.now (sym c.place.ensures ∙ c.in-None.is)
