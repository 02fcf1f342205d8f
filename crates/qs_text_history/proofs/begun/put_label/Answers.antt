use Rattle.std.proofs.Common.{sym, ◌∙◌}
use Rattle.std.specs.BTreeMap.{get}
use Rattle.qs_base.specs.Order.{bytes_cmp}
use Rattle.qs_text_history.proofs.BegunLemmas.{label_added}
use Rattle.qs_text_history.proofs.begun.put_label.Goals as goal

pub returns : goal.returns
returns c = λ other.
    label_added (get bytes_cmp c.args.labels.now) c.args.label.now c.in_ok-copy.field-0 other c.args.tid _ c.in_ok-copy.ensures
    (sym c.if-contains_key.false ∙ c.contains_key.ensures) (c.in_ok-insert.ensures.updates.0 other)
