use Rattle.std.proofs.Common.{◌≡◌, ◌+◌, drop, map}
use Rattle.qs_text_history.specs.Inner.Acts.{done_place}
use Rattle.qs_text_history.proofs.restarts.done_place.Given as goal

abbrev pub invariant-loop-word : goal.invariant-loop-word
invariant-loop-word l = record {
  place : l.at ≡ l.word-index;
  whole : l.at + done_place (map (λ word. word.now) (drop l.at l.words)) ≡ done_place (map (λ word. word.now) l.words);
}
