use Rattle.std.proofs.Common.{◌≡◌, take, map}
use Rattle.qs_text_history.proofs.answers.copies.Given as goal

abbrev pub invariant-loop-word : goal.invariant-loop-word
invariant-loop-word l = l.list ≡ map (λ word. word.now) (take l.word-index l.words)
