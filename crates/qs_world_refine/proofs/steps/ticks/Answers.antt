use Rattle.qs_world_refine.proofs.TickGoes.{tick_goes}
use Rattle.qs_world_refine.proofs.steps.ticks.Goals as goal

pub returns : goal.returns
returns c = record { tick = tick_goes }
