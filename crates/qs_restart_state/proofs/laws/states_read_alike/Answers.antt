use Rattle.qs_restart_state.proofs.Taken.{each_reads_alike, reads_like_itself}
use Rattle.qs_restart_state.proofs.laws.states_read_alike.Goals as goal

pub returns : goal.returns
returns c = record { alike = each_reads_alike; itself = reads_like_itself }
