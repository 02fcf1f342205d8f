use Rattle.std.proofs.Common.{◌++◌, ◌∷◌, [], ◌∙◌, ap}
use Rattle.std.proofs.lemmas.Result.{on_ok_weaker}
use Rattle.qs_text_script.proofs.ReadingLemmas.{indexed_more}
use Rattle.qs_text_script.specs.declared.gathering.Gathered.{Gathered}
use Rattle.qs_book_script.specs.declared.script.Script.{Script}
use Rattle.qs_text_script.proofs.gathering.Gathered.push.Goals as goal

pub returns-clause-indexed : goal.returns-clause-indexed
returns-clause-indexed c =
    let line = c.args.line in
    let new : Gathered = record { script = record c.index.new.self.script { lines = c.push.new.self }; labels = c.index.new.self.labels } in
    on_ok_weaker c.push.result
    (λ e. indexed_more c.args.self.now new line c.requires (e ∙ ap (λ (s : Script). s.lines ++ line ∷ []) c.in_ok-index.ensures.script) c.in_ok-index.ensures.labels)
    c.push.ensures.ok
