use Rattle.qs_world_lawful.proofs.FactsOpened.{opened_facts}
use Rattle.qs_world_lawful.proofs.FactsStages.{step_keeps}
use Rattle.qs_world_lawful.proofs.lawful_given.nodes_have_the_facts.Goals as goal

pub returns : goal.returns
returns c = record { opened = opened_facts; stepped = step_keeps }
