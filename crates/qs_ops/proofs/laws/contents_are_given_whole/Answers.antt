use Rattle.qs_ops.proofs.Written.{files_again, notes_again}
use Rattle.qs_ops.proofs.laws.contents_are_given_whole.Goals as goal

pub returns : goal.returns
returns c = record { files = λ table quota changes sorted is. files_again table.contents changes sorted is; audit = λ table changes is. notes_again table.notes changes is }
