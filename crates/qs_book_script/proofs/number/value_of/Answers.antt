use Rattle.std.proofs.Common.{sym, ◌∙◌, rules, ◌≡◌, None}
use Rattle.qs_book_script.proofs.NumberLemmas.{value_next, value_lost, value_whole}
use Rattle.qs_book_script.proofs.number.value_of.Goals as goal

pub loop-digit-preserved : goal.loop-digit-preserved
loop-digit-preserved c =
    let i = c.loop-digit.invariant in
    let n = value_next c.loop-digit.value c.in_ok-value.value c.loop-digit.digit-index c.args.digits.now c.loop-digit-test.true i.same (sym c.in_ok-value.ensures) in
    record { same = n.0; small = n.1 }

pub returns-in_err-value : goal.returns-in_err-value
returns-in_err-value c =
    let none : c.from_residual.result ≡ None = search rules in
    none ∙ sym (value_lost c.loop-digit.value c.loop-digit.digit-index c.args.digits.now c.loop-digit-test.true c.loop-digit.invariant.same (sym c.in_err-value.ensures))

pub returns : goal.returns
returns c = value_whole c.loop-digit.value c.loop-digit.digit-index c.args.digits.now c.loop-digit-test.false c.loop-digit.invariant.same c.loop-digit.invariant.small
