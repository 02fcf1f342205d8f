use Rattle.qs_world_refine.proofs.Settles.{ready_home, ready_elsewhere, refuse_home, refuse_elsewhere_goes, forget_rule_goes}
use Rattle.qs_world_refine.proofs.SettlesElsewhere.{settle_elsewhere}
use Rattle.qs_world_refine.proofs.SettlesWhole.{settle_home}
use Rattle.qs_world_refine.proofs.rules.settling.Goals as goal

pub returns : goal.returns
returns c = record { ready_home = ready_home; ready_elsewhere = ready_elsewhere; refuse_home = refuse_home; refuse_elsewhere = refuse_elsewhere_goes; forget = forget_rule_goes; home = settle_home; elsewhere = settle_elsewhere }
