use Rattle.qs_world_refine.proofs.SaysOutcomes.{decide_on}
use Rattle.qs_world_refine.proofs.SaysSettles.{pass_on, ready_on, refuse_on, forget_rule_on, settle_on, begin_incarnation_on}
use Rattle.qs_world_refine.proofs.SaysStep.{answer_waiting_on}
use Rattle.qs_world_refine.proofs.moves.rules.Goals as goal

pub returns : goal.returns
returns c = record { decide = decide_on; pass = pass_on; ready = ready_on; refuse = refuse_on; forget = forget_rule_on; settle = settle_on; resume = begin_incarnation_on; waiting = answer_waiting_on }
