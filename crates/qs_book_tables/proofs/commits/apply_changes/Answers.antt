use Rattle.std.proofs.Common.{List, ℕ, ◌++◌, ap, sym, subst, ◌∙◌}
use Rattle.std.specs.List.{fold}
use Rattle.qs_ops.specs.declared.file.File.{File}
use Rattle.qs_ops.specs.Table.{apply_change}
use Rattle.qs_book_tables.specs.Sizes.{files_bytes}
use Rattle.qs_book_tables.specs.Staged.{AreStaged, set_entry}
use Rattle.qs_book_tables.proofs.Staging.{staged_files, more_notes}
use Rattle.qs_book_tables.proofs.commits.apply_changes.Goals as goal

-- what was gathered makes of the contents what the changes make of them
pub returns-in-Ok-clause-contents : goal.returns-in-Ok-clause-contents
returns-in-Ok-clause-contents c =
    let staged = subst (λ fs. AreStaged fs c.args.changes.now c.in_ok-texts.texts.entries) c.as_slice.ensures c.in_ok-texts.ensures.staged in
    c.from_vec.ensures
    ∙ c.apply_texts.ensures.value
    ∙ ap (λ (fs : List File). fold set_entry fs c.in_ok-texts.texts.entries) c.in_ok-files.ensures.ok
    ∙ staged_files c.args.contents.now c.args.changes.now c.in_ok-texts.texts.entries c.requires.order c.apply_texts.ensures.ordered staged

pub returns-in-Ok-clause-notes : goal.returns-in-Ok-clause-notes
returns-in-Ok-clause-notes c =
    c.in-Ok.ensures.ok
    ∙ ap (λ (l : List (List ℕ)). c.args.notes.now ++ l) c.in_ok-more.ensures
    ∙ sym (more_notes c.args.changes.now c.args.notes.now)

-- the bytes that were counted are those of what the contents became
pub returns-in-Ok-clause-counted : goal.returns-in-Ok-clause-counted
returns-in-Ok-clause-counted c =
    c.in_ok-texts.ensures.counted
    ∙ ap (λ (fs : List File). files_bytes (fold apply_change fs c.args.changes.now)) c.as_slice.ensures
    ∙ ap files_bytes (sym (returns-in-Ok-clause-contents c))
