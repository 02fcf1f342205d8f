use Rattle.std.proofs.Common.{rules}
use Rattle.std.specs.BTreeMap.{is_at}
use Rattle.qs_base.specs.Order.{bytes_cmp}
use Rattle.qs_files_contents.proofs.Sums.{told_set}
use Rattle.qs_files_contents.proofs.under.finish.Goals as goal

pub returns-clause-committed : goal.returns-clause-committed
returns-clause-committed c =
    told_set (is_at (bytes_cmp c.args.name.now)) c.args.names.now c.in-Some.slot.now c.finish.new.self c.args.committed c.committed_length-before.result c.committed_length.result c.replaced.result
    (search rules) c.committed_length-before.ensures c.committed_length.ensures c.replaced.ensures
