use Rattle.qs_cell_peers.proofs.Beginning.{AreBegun}
use Rattle.qs_cell_peers.proofs.sessions.Sessions.new.Given as goal

abbrev pub invariant-loop-number : goal.invariant-loop-number
invariant-loop-number l = AreBegun l.me l.inc l.number l.sessions.items
