use Rattle.std.proofs.Common.{◌≤◌, length, Err, ap, arith}
use Rattle.qs_log.proofs.Batches.{counted_within, broken_within}
use Rattle.qs_log.proofs.opening.counted.Goals as goal

pub overflow_add-result : goal.overflow_add-result
overflow_add-result c =
    let within : c.in-Err-Broken.at ≤ length c.args.area.now = broken_within _ _ _ (c.in-Err-Broken.ensures.broken c.in-Err-Broken.at (ap Err c.in-Err-Broken.field-0-is)) in omega arith

pub returns-in-Ok-clause-within : goal.returns-in-Ok-clause-within
returns-in-Ok-clause-within c = counted_within _ _ _ _ c.in-Ok.ensures.found
