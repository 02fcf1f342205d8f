use Rattle.qs_world_traces.proofs.SessionsAre.{each_receives, each_sends, each_ticks}
use Rattle.qs_world_traces.proofs.sessions.sessions_are_ends.Goals as goal

pub returns : goal.returns
returns c = record { sends = each_sends; receives = each_receives; ticks = each_ticks }
