use Rattle.std.proofs.Common.{take}
use Rattle.qs_cell_peers.specs.Links.{HasPut}
use Rattle.qs_cell_peers.proofs.links.Links.put_all.Given as goal

abbrev pub invariant-loop-packet : goal.invariant-loop-packet
invariant-loop-packet l = HasPut (take l.packet-index l.packets) l.initial.self l.self
