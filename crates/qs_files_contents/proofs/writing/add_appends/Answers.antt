use Rattle.std.proofs.Common.{rules, ◌∙◌, ℕ, ap, take, drop}
use Rattle.std.proofs.lemmas.List.{take_min, drop_min}
use Rattle.qs_files_contents.proofs.Added.{appends_on, appends_end}
use Rattle.qs_files_contents.proofs.writing.add_appends.Goals as goal

pub loop-rest-preserved : goal.loop-rest-preserved
loop-rest-preserved c =
    let rest = c.loop-rest.rest.now in
    appends_on c.args.name.now c.args.text.now rest c.split_at.result.0.now c.split_at.result.1.now c.args.out.now c.loop-rest.out c.push.new.self
    (c.split_at.ensures.front ∙ ap (λ (n : ℕ). take n rest) c.min.ensures ∙ take_min 4096 rest)
    (c.split_at.ensures.back ∙ ap (λ (n : ℕ). drop n rest) c.min.ensures ∙ drop_min 4096 rest)
    (search rules) (search rules) c.loop-rest.invariant

pub returns : goal.returns
returns c = appends_end c.args.name.now c.args.text.now c.loop-rest.rest.now c.args.out.now c.loop-rest.out (search rules) c.loop-rest.invariant
