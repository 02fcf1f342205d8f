use Rattle.qs_node_host.specs.Host.{node_after, effects_at}
use Rattle.qs_world_one.proofs.AsHost.{begins, stepped, cut, rises}
use Rattle.qs_world_one.proofs.in_world.hosts_of_the_world.Goals as goal

pub returns : goal.returns
returns g c = record {
  begins = λ alloc setting log. begins alloc setting log;
  steps = λ size before stamp host event. stepped before stamp host (node_after size host event) (effects_at size host event);
  rises = λ stamp inc before log. rises stamp inc before log;
  cuts = λ stamp out host. cut stamp out host;
}
