use Rattle.qs_world_refine.proofs.MessageCame.{message_stands}
use Rattle.qs_world_refine.proofs.steps.comings.Goals as goal

pub returns : goal.returns
returns c = record { message = message_stands }
