-- The sessions of a node, one with each other node of the run: what a step sends over them, and what a packet leaves.
use Rattle.std.specs.Prelude.{◌≡◌, ◌∷◌, ◌++◌, ℕ, ◌==◌, ◌+◌, ◌-◌, ◌^◌, ◌<◌, ◌≤◌, Bool, true, List, [], length, get_or, option_to_list, if◌then◌else◌}
use Rattle.qs_base.specs.declared.identifiers.NodeNo.{NodeNo}
use Rattle.qs_session_channels.specs.End as end
use Rattle.qs_session_channels.specs.End.{End, fresh, received, sent, sent_packet}
use Rattle.qs_session_channels.specs.Network.{with_at}
use Rattle.qs_packet.specs.declared.message.Message.{Message}
use Rattle.qs_packet.specs.declared.packet.Packet.{Packet}
use Rattle.qs_node_step.specs.declared.event.Sending.{Sending}
use Rattle.qs_session.specs.Seen.{SessionValue, seen}
use Rattle.qs_session.specs.Spelled.{IsSpelled}
use Rattle.qs_cell_peers.specs.Peers.{is_peer, place}

-- the ends of a node's sessions, by its peers
abbrev pub Ends : Type 0
Ends = ℕ → End Message

-- what is seen of the sessions of a node
pub record SessionsValue : Type 0 where
  pub size : ℕ  -- how many nodes the run has
  pub me : NodeNo
  pub sessions : List SessionValue  -- by the numbers of the other nodes

abbrev pub is_peer_of : SessionsValue → ℕ → Bool
is_peer_of sessions m = is_peer sessions.size sessions.me.0 m

-- the session of node n with node m, and a new one where it has none
abbrev pub session_at : NodeNo → List SessionValue → ℕ → SessionValue
session_at n sessions m = get_or sessions (place n.0 m) (record { me = n; peer = record { 0 = m }; end = fresh 0 })

abbrev pub ends_of : SessionsValue → Ends
ends_of sessions m = (session_at sessions.me sessions.sessions m).end

-- they are those of the same node of the same run, and end at its peers so
pub record EndAs (old : SessionsValue) (ends : Ends) (new : SessionsValue) : Type 0 where
  pub size : new.size ≡ old.size
  pub me : new.me ≡ old.me
  pub ends_are : (m : ℕ) → is_peer_of old m ≡ true → ends_of new m ≡ ends m

-- ---- what the code keeps

-- a session of node n with node m, of which all packets have a spelling
pub record IsSessionWith (n : NodeNo) (m : ℕ) (session : SessionValue) : Type 0 where
  pub me : session.me ≡ n
  pub peer : session.peer.0 ≡ m
  pub spelled : IsSpelled session

pub record AreSessions (n : NodeNo) (sessions : List SessionValue) : Type 0 where
  pub in_run : n.0 < length sessions + 1
  pub few : length sessions + 1 ≤ 8
  pub each : (m : ℕ) → is_peer (length sessions + 1) n.0 m ≡ true → IsSessionWith n m (session_at n sessions m)

-- ---- what a step sends, one message after the other, and the packets that go

-- to no peer nothing goes
abbrev pub one_sent : (ℕ → Bool) → Ends → Sending → Ends
one_sent peers ends s = if peers s.to.0 then with_at ends s.to.0 (sent (ends s.to.0) s.message) else ends

abbrev pub all_sent : (ℕ → Bool) → Ends → List Sending → Ends
all_sent peers ends [] = ends
all_sent peers ends (s ∷ sendings) = all_sent peers (one_sent peers ends s) sendings

-- those to m, in order
abbrev pub sent_to : (ℕ → Bool) → ℕ → ℕ → Ends → List Sending → List (end.Packet Message)
sent_to peers stamp m ends [] = []
sent_to peers stamp m ends (s ∷ sendings) = (if m == s.to.0 then option_to_list (sent_packet (ends s.to.0) s.message stamp) else []) ++ sent_to peers stamp m (one_sent peers ends s) sendings

-- how many numbers an end has given, to messages that wait as well
abbrev pub numbers_given : End Message → ℕ
numbers_given e = e.acked + length e.kept

-- as the message's turn comes its end has given the last number
pub record LacksNumber (old : SessionsValue) (sendings : List Sending) : Type 0 where
  pub before : List Sending
  pub here : Sending
  pub behind : List Sending
  pub is : sendings ≡ before ++ here ∷ behind
  pub peer : is_peer_of old here.to.0 ≡ true
  pub last : numbers_given (all_sent (is_peer_of old) (ends_of old) before here.to.0) ≡ 2 ^ 62 - 1

-- ---- a packet comes

abbrev pub taken_in : Ends → Packet → Ends
taken_in ends packet = with_at ends packet.from.0 (received (ends packet.from.0) (seen packet))
