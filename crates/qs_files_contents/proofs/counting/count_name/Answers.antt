use Rattle.std.proofs.Common.{rules}
use Rattle.qs_files_contents.proofs.Counted.{counts_more}
use Rattle.qs_files_contents.proofs.counting.count_name.Goals as goal

pub returns : goal.returns
returns c = counts_more c.args.tid c.args.names.now c.args.name.now c.args.count.now c.in_ok-bytes.bytes c.put.new.self (search rules) (search rules) (search rules)
