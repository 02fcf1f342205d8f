use Rattle.std.proofs.Common.{Some, ap, ◌∙◌}
use Rattle.std.specs.Prelude.{ℕ, List, cond}
use Rattle.std.specs.BTreeMap.{is_at}
use Rattle.std.specs.Map.{lookup}
use Rattle.qs_base.specs.Order.{bytes_cmp}
use Rattle.qs_book_tables.proofs.Staging.{staged_step}
use Rattle.qs_book_tables.proofs.staged.stage_change.Goals as goal

pub returns-clause-staged : goal.returns-clause-staged
returns-clause-staged c =
    staged_step c.args.files.now c.args.texts.now.entries c.taken_text.new.texts.entries c.insert.new.self.entries c.args.name.now c.args.change.now c.in_ok-after.after
    c.requires.name c.in_ok-before.ensures.others
    (λ q. c.in_ok-insert.ensures.updates.0 q
    ∙ ap (λ (k : List ℕ). cond (is_at (bytes_cmp k) q) (Some c.in_ok-after.after) (lookup (is_at (bytes_cmp q)) c.taken_text.new.texts.entries)) c.in_ok-copy.ensures)
    (c.in_ok-after.ensures ∙ c.in_ok-before.ensures.value)
