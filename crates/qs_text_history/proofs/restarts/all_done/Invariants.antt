use Rattle.std.proofs.Common.{◌≡◌, ◌++◌, drop, map}
use Rattle.qs_text_history.specs.Inner.Acts.{all_of}
use Rattle.qs_text_history.specs.Inner.Lifts.{lift1}
use Rattle.qs_text_history.specs.Inner.Words.{done_of}
use Rattle.qs_text_history.proofs.restarts.all_done.Given as goal

abbrev pub invariant-loop-word : goal.invariant-loop-word
invariant-loop-word l = lift1 (λ more. l.list ++ more) (all_of done_of (map (λ word. word.now) (drop l.word-index l.words))) ≡ all_of done_of (map (λ word. word.now) l.words)
