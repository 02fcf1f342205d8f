use Rattle.qs_world_refine.proofs.SteadyGives.{node_facts, superior_known, taken_up, unbegun_unknown}
use Rattle.qs_world_refine.proofs.steadies.facts.Goals as goal

pub returns : goal.returns
returns c = record { nodes = node_facts; superior = superior_known; taken_up = taken_up; unbegun = unbegun_unknown }
