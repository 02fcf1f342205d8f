use Rattle.qs_engage.specs.Nodes.{all_nodes}
use Rattle.qs_tm.specs.Members.{all_servers}
use Rattle.std.proofs.Common.{refl}
use Rattle.qs_world_packets.proofs.rows.row_gone.Goals as goal

pub returns : goal.returns
unfolding all_nodes all_servers
returns c = record { shown = λ alloc. record { plays = refl; journal = refl; files = refl } }
