use Rattle.std.proofs.Common.{sym, arith}
use Rattle.qs_book_transactions.proofs.Starts.{no_start}
use Rattle.qs_book_transactions.proofs.transaction.judging.has_start.Goals as goal

pub returns-in-None : goal.returns-in-None
returns-in-None c = sym (no_start c.args.member c.args.inc c.args.served c.args.covers c.args.starts.now.keys (omega arith))
