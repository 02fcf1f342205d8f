use Rattle.qs_world_refine.proofs.EveryRunShown.{every_run_agrees}
use Rattle.qs_world_refine.proofs.NodesAgree.{nodes_agree}
use Rattle.qs_world_refine.proofs.laws.agreement.Goals as goal

pub returns : goal.returns
returns c = record { nodes = nodes_agree; runs = every_run_agrees }
