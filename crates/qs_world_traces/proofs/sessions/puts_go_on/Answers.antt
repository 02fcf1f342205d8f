use Rattle.qs_world_traces.proofs.PutsOn.{each_puts_on, each_ticks_on}
use Rattle.qs_world_traces.proofs.sessions.puts_go_on.Goals as goal

pub returns : goal.returns
returns c = record { sends = each_puts_on; ticks = each_ticks_on }
