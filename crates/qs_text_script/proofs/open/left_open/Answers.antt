use Rattle.std.proofs.Common.{◌≡◌, ◌+◌, ◌-◌, ◌∷◌, drop, ◌∙◌, ap, arith}
use Rattle.qs_text_script.proofs.OpenLemmas.{cut_before, found_before, ended_before}
use Rattle.qs_text_script.proofs.open.left_open.Goals as goal

pub loop-at-preserved : goal.loop-at-preserved
loop-at-preserved c =
    let i = c.loop-at.invariant in
    let line = c.index-lines-at.result in
    let cut : drop (c.loop-at.at - 1) c.args.lines.now ≡ line ∷ drop c.loop-at.at c.args.lines.now =
    cut_before c.args.lines.now c.loop-at.at line (omega arith) i.inside c.index-lines-at.is in
    let n : c.loop-at.at - 1 + 1 ≡ c.loop-at.at = omega arith in
    record {
      inside = omega (arith, i.inside);
      found = c.first_left_open-found.ensures
          ∙ found_before _ (drop c.loop-at.at c.args.lines.now) line _ c.split_at.result.1.now c.loop-at.found cut
          (c.split_at.ensures.back ∙ ap (λ k. drop k c.args.lines.now) n) (i.ended line.label) i.found;
      ended = λ label. ended_before _ (drop c.loop-at.at c.args.lines.now) line label _ _ cut (i.ended label) (c.in_ok-note_end.ensures label);
    }
