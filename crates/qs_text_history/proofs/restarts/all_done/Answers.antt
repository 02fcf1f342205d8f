use Rattle.std.proofs.Common.{◌≡◌, ◌∙◌, sym, rules, None}
use Rattle.qs_text_history.specs.Inner.Words.{done_of}
use Rattle.qs_text_history.proofs.RestartLemmas.{all_next, all_lost, all_read}
use Rattle.qs_text_history.proofs.restarts.all_done.Goals as goal

pub loop-word-preserved : goal.loop-word-preserved
loop-word-preserved c =
    let next = all_next done_of (λ word. word.now) c.args.words.now c.loop-word.word-index _ c.in-Some.tid c.loop-word.list _ c.loop-word-test.true (sym c.in-Some.ensures) c.loop-word.invariant in rw (c.in_ok-push.ensures.ok) next

pub returns-in_default : goal.returns-in_default
returns-in_default c =
    let none : c.done_of.result ≡ None = search rules in
    all_lost done_of (λ word. word.now) c.args.words.now c.loop-word.word-index _ c.loop-word.list _ c.loop-word-test.true (sym c.done_of.ensures ∙ none) c.loop-word.invariant

pub returns : goal.returns
returns c = all_read done_of (λ word. word.now) c.args.words.now c.loop-word.word-index c.loop-word.list _ c.loop-word-test.false c.loop-word.invariant
