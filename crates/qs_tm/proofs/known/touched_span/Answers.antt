use Rattle.std.proofs.Common.{◌∙◌, sym}
use Rattle.std.specs.Prelude.{Some}
use Rattle.std.proofs.lemmas.Cmp.{upto}
use Rattle.qs_base.proofs.TidOrder.{tid_total}
use Rattle.qs_tm.proofs.KnownLemmas.{alone, none_due, wider, within}
use Rattle.qs_tm.proofs.known.touched_span.Goals as goal

pub returns-then-has_due-clause-spanned : goal.returns-then-has_due-clause-spanned
returns-then-has_due-clause-spanned c = record {
  forward = upto tid_total c.least.result c.args.tid c.greatest.result c.least.ensures.second c.greatest.ensures.second;
  due = wider c.args.span (c.least.result, c.greatest.result) c.least.ensures.first c.greatest.ensures.first c.args.parts.now c.requires.due;
}

pub returns-then-has_due-clause-within : goal.returns-then-has_due-clause-within
returns-then-has_due-clause-within c = within (c.least.result, c.greatest.result) c.args.tid c.least.ensures.second c.greatest.ensures.second

pub returns-else-has_due-clause-spanned : goal.returns-else-has_due-clause-spanned
returns-else-has_due-clause-spanned c = record {
  forward = alone c.args.tid;
  due = none_due c.args.span (Some (c.args.tid, c.args.tid)) c.args.parts.now (sym c.has_due.ensures ∙ c.if-has_due.false) c.requires.due;
}
