use Rattle.qs_text_script.proofs.LabelLemmas.{added_label}
use Rattle.qs_text_script.proofs.label_set.LabelSet.add.Goals as goal

pub returns : goal.returns
returns c = λ other. rw (← c.self.view_is) (added_label c.args.label.now other c.in_ok-copy.field-0 _ _ c.in_ok-copy.ensures (c.in_ok-insert.ensures.updates.0 other))
