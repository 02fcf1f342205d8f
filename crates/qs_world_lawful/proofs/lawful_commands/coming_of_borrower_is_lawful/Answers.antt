use Rattle.qs_world_lawful.proofs.BorrowersCommands.{by_borrower_came}
use Rattle.qs_world_lawful.proofs.lawful_commands.coming_of_borrower_is_lawful.Goals as goal

pub returns : goal.returns
returns c = by_borrower_came
