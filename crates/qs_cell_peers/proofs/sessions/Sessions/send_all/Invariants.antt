use Rattle.std.proofs.Common.{take}
use Rattle.qs_cell_peers.proofs.Sends.{HasSent}
use Rattle.qs_cell_peers.proofs.sessions.Sessions.send_all.Given as goal

abbrev pub invariant-loop-sending : goal.invariant-loop-sending
invariant-loop-sending l = HasSent l.stamp (take l.sending-index l.sendings) l.initial.self l.packets l.self
