use Rattle.std.proofs.Common.{rules}
use Rattle.qs_disk.proofs.Sizes.{sized}
use Rattle.qs_disk.proofs.size.is_size.Goals as goal

-- src/size.rt:6:1
pub returns-then-size-ge65536 : goal.returns-then-size-ge65536
returns-then-size-ge65536 c = sized c.args.size (search rules) (search rules)
