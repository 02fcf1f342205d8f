use Rattle.std.proofs.Common.{◌≡◌, Err, sym, ◌∙◌, ap}
use Rattle.std.proofs.lemmas.Result.{err_from_is_err_and}
use Rattle.qs_text_script.specs.Script.{left_open}
use Rattle.qs_text_script.specs.declared.reading.ScriptFailed.TheVariants.{Fault}
use Rattle.qs_text_script.proofs.ReadingLemmas.{too_large, bad_line, open_command}
use Rattle.qs_text_script.proofs.reading.read_script.Goals as goal

pub returns-then-text-gt-LIMIT-clause-fault : goal.returns-then-text-gt-LIMIT-clause-fault
returns-then-text-gt-LIMIT-clause-fault c = λ line fault e. too_large c.args.nodes c.args.text.now c.line_past_limit.result line fault c.if-text-gt-LIMIT.true c.line_past_limit.ensures e

pub returns-in_err-gathered-clause-fault : goal.returns-in_err-gathered-clause-fault
returns-in_err-gathered-clause-fault c = λ line fault e.
    let p = err_from_is_err_and c.from_residual.result c.from_residual.ensures.1 in
    let is : p.0 ≡ Fault line fault = cc (p.1, e) in
    bad_line c.args.nodes c.args.text.now (Fault line fault) c.if-text-gt-LIMIT.false (c.gather.ensures.fault line fault (c.in_err-gathered.was ∙ ap Err (sym p.2 ∙ is)))

pub returns-in-Some-clause-fault : goal.returns-in-Some-clause-fault
returns-in-Some-clause-fault c = λ line fault e.
    open_command c.args.nodes c.args.text.now c.in_ok-gathered.gathered.script c.in-Some.line line fault c.if-text-gt-LIMIT.false c.in_ok-gathered.ensures.value
    (ap left_open (sym c.as_slice.ensures) ∙ (sym c.in_ok-line.ensures ∙ c.in-Some.is)) e
