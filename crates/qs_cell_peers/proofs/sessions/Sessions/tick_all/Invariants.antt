use Rattle.std.proofs.Common.{◌≡◌, ℕ, true, All}
use Rattle.std.specs.Prelude.{map}
use Rattle.std.specs.List.{filter}
use Rattle.qs_packet.specs.Grammar.{IsPacket}
use Rattle.qs_session.specs.Seen.{seen}
use Rattle.qs_cell_peers.specs.Peers.{goes_from, is_to}
use Rattle.qs_cell_peers.specs.Sessions.{EndAs, ends_of, is_peer_of}
use Rattle.qs_cell_peers.specs.Ticks.{all_ticked, tick_to}
use Rattle.qs_cell_peers.proofs.sessions.Sessions.tick_all.Given as goal

abbrev pub invariant-loop-number : goal.invariant-loop-number
invariant-loop-number l = record {
  ends : EndAs l.initial.self (all_ticked l.number l.initial.self.me.0 (ends_of l.initial.self)) l.self;
  packets : (m : ℕ) → is_peer_of l.initial.self m ≡ true → map seen (filter (is_to m) l.packets) ≡ tick_to l.number l.initial.self.me.0 l.stamp m (ends_of l.initial.self);
  from : All (λ p. goes_from l.initial.self.size l.initial.self.me.0 p ≡ true) l.packets;
  spelled : All IsPacket l.packets;
  nodes : l.nodes ≡ l.initial.self.size;
}
