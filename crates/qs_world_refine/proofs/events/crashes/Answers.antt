use Rattle.qs_world_refine.proofs.EventGoes.{crash, notice}
use Rattle.qs_world_refine.proofs.Meeting.{meet}
use Rattle.qs_world_refine.proofs.RestartGoes.{restart}
use Rattle.qs_world_refine.proofs.events.crashes.Goals as goal

pub returns : goal.returns
returns c = record { crash = crash; notice = notice; restart = restart; meet = meet }
