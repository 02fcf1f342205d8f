use Rattle.std.proofs.Common.{rules, ◌∙◌, ℕ, ap, take, drop}
use Rattle.std.proofs.lemmas.List.{take_min, drop_min}
use Rattle.std.proofs.lemmas.Result.{on_ok_weaker}
use Rattle.qs_files_contents.proofs.Added.{file_begun}
use Rattle.qs_files_contents.proofs.writing.add_file.Goals as goal

pub returns : goal.returns
returns c =
    let text = c.args.text.now in
    on_ok_weaker c.add_appends.result
    (file_begun c.args.name.now text c.split_at.result.0.now c.split_at.result.1.now c.args.out.now c.push.new.self c.add_appends.new.out
    (c.split_at.ensures.front ∙ ap (λ (n : ℕ). take n text) c.min.ensures ∙ take_min 4096 text)
    (c.split_at.ensures.back ∙ ap (λ (n : ℕ). drop n text) c.min.ensures ∙ drop_min 4096 text)
    (search rules))
    c.add_appends.ensures
