use Rattle.std.proofs.Common.{refl}
use Rattle.qs_engage.specs.Nodes.{all_nodes}
use Rattle.qs_tm.specs.Members.{all_servers}
use Rattle.qs_node_step.proofs.rows.short_runs.Goals as goal

pub returns : goal.returns
unfolding all_nodes all_servers
returns c = record { shown = λ alloc. record { drawn_in = refl; in_doubt = refl; home = refl } }
