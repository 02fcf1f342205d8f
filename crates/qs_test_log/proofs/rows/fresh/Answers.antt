use Rattle.std.proofs.Common.{refl, arith}
use Rattle.qs_test_log.proofs.rows.fresh.Goals as goal

pub new-requires : goal.new-requires
new-requires c = record { pages = 16; whole = refl; least = omega arith; most = omega arith }
