-- What a whole step sends over a node's sessions: its messages, in order, and where time passes what each session then sends again.
use Rattle.std.specs.Prelude.{◌≡◌, ◌++◌, ℕ, Bool, true, List, [], map, if◌then◌else◌}
use Rattle.std.specs.List.{All, filter}
use Rattle.qs_session_channels.specs.End as end
use Rattle.qs_packet.specs.Grammar.{IsPacket}
use Rattle.qs_packet.specs.declared.message.Message.{Message}
use Rattle.qs_packet.specs.declared.packet.Packet.{Packet}
use Rattle.qs_node_step.specs.declared.event.Sending.{Sending}
use Rattle.qs_session.specs.Seen.{seen}
use Rattle.qs_cell_peers.specs.Peers.{goes_from, is_to}
use Rattle.qs_cell_peers.specs.Sessions.{EndAs, Ends, SessionsValue, ends_of, all_sent, is_peer_of, sent_to}
use Rattle.qs_cell_peers.specs.Ticks.{all_ticked, tick_to}

abbrev pub ends_after : Bool → SessionsValue → List Sending → Ends
ends_after ticks old sendings =
    if ticks then all_ticked old.size old.me.0 (all_sent (is_peer_of old) (ends_of old) sendings) else all_sent (is_peer_of old) (ends_of old) sendings

-- those that go to m, in order
abbrev pub packets_to : Bool → SessionsValue → ℕ → ℕ → List Sending → List (end.Packet Message)
packets_to ticks old stamp m sendings =
    sent_to (is_peer_of old) stamp m (ends_of old) sendings
    ++ (if ticks then tick_to old.size old.me.0 stamp m (all_sent (is_peer_of old) (ends_of old) sendings) else [])

pub record Sends (ticks : Bool) (stamp : ℕ) (sendings : List Sending) (old : SessionsValue) (put : List Packet) (new : SessionsValue) : Type 0 where
  pub ends : EndAs old (ends_after ticks old sendings) new
  pub packets : (m : ℕ) → is_peer_of old m ≡ true → map seen (filter (is_to m) put) ≡ packets_to ticks old stamp m sendings
  pub from : All (λ p. goes_from old.size old.me.0 p ≡ true) put
  pub spelled : All IsPacket put
