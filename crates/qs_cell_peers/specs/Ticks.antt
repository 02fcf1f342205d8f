-- The sessions of a node tick, in the order of the other nodes.
use Rattle.std.specs.Prelude.{ℕ, zero, suc, ◌==◌, List, [], ◌++◌, if◌then◌else◌}
use Rattle.qs_session_channels.specs.End.{Packet, tick_packets, ticked}
use Rattle.qs_session_channels.specs.Network.{with_at}
use Rattle.qs_packet.specs.declared.message.Message.{Message}
use Rattle.qs_packet.specs.declared.message.Message.TheVariants as messages
use Rattle.qs_cell_peers.specs.Sessions.{Ends}

-- the sessions with all nodes below m but n, once each ticked
abbrev pub all_ticked : ℕ → ℕ → Ends → Ends
all_ticked zero n ends = ends
all_ticked (suc m) n ends = if m == n then all_ticked m n ends else with_at (all_ticked m n ends) m (ticked (all_ticked m n ends m))

-- and what went to j
abbrev pub tick_to : ℕ → ℕ → ℕ → ℕ → Ends → List (Packet Message)
tick_to zero n s j ends = []
tick_to (suc m) n s j ends = tick_to m n s j ends ++ (if m == n then [] else if j == m then tick_packets messages.Hello (all_ticked m n ends m) s else [])
