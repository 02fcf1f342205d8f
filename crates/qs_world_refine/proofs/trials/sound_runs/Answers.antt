use Rattle.qs_world_refine.proofs.Words.{refl}
use Rattle.qs_engage.specs.Nodes.{all_nodes}
use Rattle.qs_tm.specs.Members.{all_servers}
use Rattle.qs_world_refine.proofs.trials.sound_runs.Goals as goal

pub returns : goal.returns
unfolding all_nodes all_servers
returns c = record { shown = λ alloc. record { late_join = refl; taken_name = refl; both_files = refl; cut_from_20 = refl; cut_from_32 = refl; cut_from_44 = refl } }
