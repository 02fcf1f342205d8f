use Rattle.std.proofs.Common.{sym, ap, ◌∙◌}
use Rattle.std.specs.List.{fold}
use Rattle.std.specs.Prelude.{ℕ, List, Option}
use Rattle.std.proofs.lemmas.Result.{IfOk-weaker}
use Rattle.qs_ops.specs.Files.{file_text}
use Rattle.qs_book_tables.specs.Edits.{changed_at}
use Rattle.qs_book_tables.proofs.Texts.{file_text-fold}
use Rattle.qs_book_tables.proofs.views.text_in_view.Goals as goal

pub returns : goal.returns
returns c =
    IfOk-weaker c.text_after.result _ _
    (λ text is. is
    ∙ ap (λ (o : Option (List ℕ)). fold (changed_at c.args.name.now) o c.args.changes.now) (c.file_text.ensures ∙ ap (λ (n : List ℕ). file_text c.args.files.now n) c.as_slice.ensures)
    ∙ sym (file_text-fold c.args.changes.now c.args.files.now c.args.name.now))
    c.text_after.ensures
