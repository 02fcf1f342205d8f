use Rattle.qs_book_laws.proofs.Order.{in_order}
use Rattle.qs_book_laws.proofs.endings.servers_learn_in_order.Goals as goal

pub returns : goal.returns
returns c = in_order
