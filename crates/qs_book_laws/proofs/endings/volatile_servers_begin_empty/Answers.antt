use Rattle.qs_book_laws.proofs.Reopening.{begins_empty}
use Rattle.qs_book_laws.proofs.endings.volatile_servers_begin_empty.Goals as goal

pub returns : goal.returns
returns c = begins_empty
