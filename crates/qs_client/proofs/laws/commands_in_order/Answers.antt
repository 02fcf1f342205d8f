use Rattle.qs_client.proofs.Places.{sends_next}
use Rattle.qs_client.proofs.laws.commands_in_order.Goals as goal

pub returns-clause-sends : goal.returns-clause-sends
returns-clause-sends c = sends_next
