use Rattle.qs_world_traces.proofs.LinksBring.{each_link_brings}
use Rattle.qs_world_traces.proofs.traced.links_bring_what_was_put.Goals as goal

pub returns : goal.returns
returns c = each_link_brings
