use Rattle.std.proofs.Common.{◌<◌, ◌^◌, arith}
use Rattle.qs_record.specs.Grammar.{record_length}
use Rattle.qs_log.proofs.RecordLemmas.{record_small}
use Rattle.qs_log.proofs.log.Log.need.Goals as goal

pub overflow_add-result : goal.overflow_add-result
overflow_add-result g c = let small : record_length c.args.rec.now < 2 ^ 62 = record_small c.args.rec.now c.requires in omega (arith, small)
