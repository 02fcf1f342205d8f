-- The other nodes of the run, as a node sees them.
use Rattle.std.specs.Prelude.{ℕ, ◌==◌, ◌-◌, Bool, not, ◌&&◌, nat_lt, if◌then◌else◌}
use Rattle.qs_packet.specs.declared.packet.Packet.{Packet}

-- another node of the run
abbrev pub is_peer : ℕ → ℕ → ℕ → Bool
is_peer size n m = nat_lt m size && not (m == n)

-- its place among them, by number
abbrev pub place : ℕ → ℕ → ℕ
place n m = if nat_lt m n then m else m - 1

abbrev pub is_to : ℕ → Packet → Bool
is_to m packet = packet.to.0 == m

-- the packet goes from this node to a peer
abbrev pub goes_from : ℕ → ℕ → Packet → Bool
goes_from size n packet = (packet.from.0 == n) && is_peer size n packet.to.0

-- the packet comes from a peer to this node
abbrev pub comes_to : ℕ → ℕ → Packet → Bool
comes_to size n packet = (packet.to.0 == n) && is_peer size n packet.from.0
