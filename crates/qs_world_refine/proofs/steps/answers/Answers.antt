use Rattle.qs_world_refine.proofs.BorrowerStands.{borrower_goes}
use Rattle.qs_world_refine.proofs.CommandStands.{command_goes}
use Rattle.qs_world_refine.proofs.WaitStands.{answer_waiting_goes}
use Rattle.qs_world_refine.proofs.steps.answers.Goals as goal

pub returns : goal.returns
returns c = record { borrower = borrower_goes; command = command_goes; waiting = answer_waiting_goes }
