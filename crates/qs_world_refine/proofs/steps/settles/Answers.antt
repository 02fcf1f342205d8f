use Rattle.qs_world_refine.proofs.SettleGoes.{settle_tid_goes, settle_goes}
use Rattle.qs_world_refine.proofs.steps.settles.Goals as goal

pub returns : goal.returns
returns c = record { one = settle_tid_goes; all = settle_goes }
