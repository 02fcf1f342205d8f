-- What happens in the world over packets, one step of one node at a time. What a packet brings is as the receiver's end of the session answers it.
use Rattle.std.specs.Prelude.{◌≡◌, ℕ, ◌==◌, ◌++◌, ⊤, Bool, true, false, not, ◌&&◌, ◌||◌, List, [], ◌∷◌, fold, map, Option, Some, None, is_some, nat_lt, nat_le, if◌then◌else◌}
use Rattle.qs_session_channels.specs.End as end
use Rattle.qs_session_channels.specs.End.{Packet, Answer, answer}
use Rattle.qs_session_channels.specs.Network as network
use Rattle.qs_session_channels.specs.Network.{Network, Among, with_at}
use Rattle.qs_book_journal.specs.declared.entry.Act.TheVariants as acts
use Rattle.qs_book_journal.specs.declared.entry.CrashCause.{CrashCause}
use Rattle.qs_book_machine.specs.Clauses.{is_crash}
use Rattle.qs_record.specs.declared.record.Record.{Record}
use Rattle.qs_restart.specs.declared.recovered.Recovered.{Recovered}
use Rattle.qs_node_step.specs.Counted.{is_all_counted}
use Rattle.qs_node_step.specs.declared.event.Effects.{Effects}
use Rattle.qs_node_step.specs.declared.event.Event.{Event}
use Rattle.qs_node_step.specs.declared.event.Event.TheVariants as events
use Rattle.qs_node_step.specs.declared.event.Sending.{Sending}
use Rattle.qs_node_step.specs.Opening.{recovered_of}
use Rattle.qs_node_step.specs.State.{NodeValue}
use Rattle.qs_node_step.specs.Step.{after_step, effects_of}
use Rattle.qs_world.specs.World.{Parcel, Client}
use Rattle.qs_world.specs.Moves.{node_no, client_count, command_of, cut_log, found_of, risen_host, stamp_limit, stepped_host, stopped_host}
use Rattle.qs_world.specs.Posting.{clients_after, entries_of, handed, handed_back, next_line}
use Rattle.qs_world_packets.specs.PacketWorld.{PacketWorld, hello}

-- where an event comes from
pub data Source : Type 0 where
  Commanded : ℕ → Source  -- the next line of that client
  Queues : Source  -- the requests that wait
  Clock : Source
  Brought : ℕ → Packet Parcel → Source  -- a packet of that node, with the next message of it or from a later incarnation

-- a node, the stamp of its step, and what it does
pub data Move : Type 0 where
  Step : ℕ → ℕ → ℕ → Source → Move  -- a whole step, with so many bytes of room in the log
  Cut : ℕ → ℕ → ℕ → Source → Bool → CrashCause → Move  -- a step that a crash cuts off: its batch is on the disk, or not, and nothing is sent
  Stop : ℕ → ℕ → CrashCause → Move  -- a crash in place of a step, or after one
  Rise : ℕ → ℕ → ℕ → Move  -- a restart into that incarnation
  Meet : ℕ → ℕ → ℕ → Packet Parcel → Move  -- a packet of a first incarnation of that node: what waited goes there from now on
  Take : ℕ → ℕ → Packet Parcel → Move  -- a packet of that node that changes the session's end alone: it makes no step, and has no stamp
  Tick : ℕ → ℕ → ℕ → Move  -- its session with that node ticks: what is not acknowledged goes again, or an acknowledgement or a greeting

-- ---- which event it is; none where there is none of that source

abbrev pub command_from : PacketWorld → ℕ → ℕ → Option Event
command_from world n k =
    if nat_lt k client_count && ((world.clients k).at == n) then elim (next_line (world.clients k)) [ None ↦ None | Some line ↦ Some (command_of line) ]
    else None

-- how a node's end of its session with m answers a packet
abbrev pub answer_at : PacketWorld → ℕ → ℕ → Packet Parcel → Answer Parcel
answer_at world n m p = answer (world.network.end n m) p

-- the message in turn is handed up to the step, and so is a later incarnation of a node that was known; all else changes the end alone
abbrev pub event_by : ℕ → Answer Parcel → Option Event
event_by m (end.OldPeer known got) = None
event_by m (end.NewPeer old new) = if old == 0 then None else Some (events.PeerRestarted (node_no m) old new)
event_by m (end.OldSelf mine got) = None
event_by m end.Hello = None
event_by m (end.Repeat number) = None
event_by m (end.Early number expected) = None
event_by m (end.Message parcel) = Some (events.Received (node_no m) parcel.message)

-- a step has a greater stamp than the packet that it takes
abbrev pub event_of : PacketWorld → ℕ → ℕ → Source → Option Event
event_of world n stamp (Commanded k) = command_from world n k
event_of world n stamp Queues = Some events.ServeAll
event_of world n stamp Clock = Some events.Tick
event_of world n stamp (Brought m p) = if nat_lt p.stamp stamp then event_by m (answer_at world n m p) else None

-- ---- what a step does to the network

-- a node takes a packet of m
abbrev pub received_by : PacketWorld → ℕ → ℕ → Packet Parcel → Network Parcel
received_by world n m p = network.stepped hello (network.Receive n m p (answer_at world n m p)) world.network

abbrev pub taken_by : PacketWorld → ℕ → Source → Network Parcel
taken_by world n (Brought m p) = received_by world n m p
taken_by world n source = world.network

-- what a step sends goes to the ends of the sessions in order, with the step's stamp
abbrev pub send_next : ℕ → ℕ → Network Parcel → Sending → Network Parcel
send_next n stamp net sending = network.stepped hello (network.Send n sending.to.0 (record { stamp = stamp; message = sending.message }) stamp) net

abbrev pub send_all : ℕ → ℕ → List Sending → Network Parcel → Network Parcel
send_all n stamp sendings net = fold (send_next n stamp) net sendings

-- ---- what a step, a crash and a restart do

abbrev pub handed_by : Source → (ℕ → Client) → ℕ → Client
handed_by (Commanded k) clients = handed k clients
handed_by source clients = clients

abbrev pub stepped : PacketWorld → ℕ → ℕ → Source → NodeValue → Effects → PacketWorld
stepped world n stamp source node out = record world {
  hosts = with_at world.hosts n (stepped_host stamp node out (world.hosts n));
  network = send_all n stamp out.messages (taken_by world n source);
  clients = clients_after out.answers (handed_by source world.clients);
  journal = world.journal ++ entries_of n stamp out.entries;
  last = (stamp, n);
}

abbrev pub step_with : PacketWorld → ℕ → ℕ → ℕ → Source → Option Event → PacketWorld
step_with world n stamp free source None = world
step_with world n stamp free source (Some event) =
    stepped world n stamp source (after_step (world.hosts n).node event free) (effects_of (world.hosts n).node event free)

abbrev pub stopped : PacketWorld → ℕ → ℕ → CrashCause → List Record → PacketWorld
stopped world n stamp cause log = record world {
  hosts = with_at world.hosts n (stopped_host stamp log (world.hosts n));
  network = network.stepped hello (network.Crash n) world.network;
  clients = handed_back n world.clients;
  journal = world.journal ++ entries_of n stamp (acts.Crash cause ∷ []);
  last = (stamp, n);
}

abbrev pub cut_with : PacketWorld → ℕ → ℕ → ℕ → Bool → CrashCause → Option Event → PacketWorld
cut_with world n stamp free is_kept cause None = world
cut_with world n stamp free is_kept cause (Some event) =
    stopped world n stamp cause (cut_log (world.hosts n) is_kept (effects_of (world.hosts n).node event free))

-- a node begins an incarnation with what its log says, and with fresh ends
abbrev pub risen : PacketWorld → ℕ → ℕ → ℕ → Recovered → PacketWorld
risen world n stamp inc found = record world {
  hosts = with_at world.hosts n (risen_host stamp inc found (world.hosts n));
  network = network.stepped hello (network.Restart n inc) world.network;
  born = with_at world.born n (with_at (world.born n) inc (Some stamp));
  journal = world.journal ++ entries_of n stamp (acts.Restart inc (map found_of found.votes) found.committed ∷ []);
  last = (stamp, n);
}

abbrev pub met : PacketWorld → ℕ → ℕ → ℕ → Packet Parcel → PacketWorld
met world n stamp m p = record world {
  hosts = with_at world.hosts n (record (world.hosts n) { stamp = stamp });
  network = received_by world n m p;
  last = (stamp, n);
}

-- ---- a move

abbrev pub moved : Move → PacketWorld → PacketWorld
moved (Step n stamp free source) world = step_with world n stamp free source (event_of world n stamp source)
moved (Cut n stamp free source is_kept cause) world = cut_with world n stamp free is_kept cause (event_of world n stamp source)
moved (Stop n stamp cause) world = stopped world n stamp cause (world.hosts n).log
moved (Rise n stamp inc) world = risen world n stamp inc (recovered_of (world.hosts n).log)
moved (Meet n stamp m p) world = met world n stamp m p
moved (Take n m p) world = record world { network = received_by world n m p }
moved (Tick n m stamp) world = record world { network = network.stepped hello (network.Tick n m stamp) world.network }

-- ---- which moves may be

-- steps stand in order of stamps, and of nodes where these are one; the stamps of one node rise, but for a crash and a restart
abbrev pub is_in_order : PacketWorld → ℕ → ℕ → Bool
is_in_order world n stamp =
    (nat_lt n world.size && nat_lt stamp stamp_limit)
    && ((nat_lt world.last.0 stamp || ((world.last.0 == stamp) && nat_le world.last.1 n)) && nat_le (world.hosts n).stamp stamp)

abbrev pub is_later : PacketWorld → ℕ → ℕ → Bool
is_later world n stamp = is_in_order world n stamp && nat_lt (world.hosts n).stamp stamp

-- what waits is served where all of it can be counted
abbrev pub may_serve : NodeValue → Source → Bool
may_serve node Queues = is_all_counted node
may_serve node source = true

abbrev pub may_step : PacketWorld → ℕ → ℕ → Source → Bool
may_step world n stamp source =
    world.network.up n && (is_later world n stamp && (is_some (event_of world n stamp source) && may_serve (world.hosts n).node source))

-- a packet changes the session's end alone: it brings no message in turn, and no other incarnation
abbrev pub is_aside : Answer Parcel → Bool
is_aside (end.OldPeer known got) = true
is_aside (end.NewPeer old new) = false
is_aside (end.OldSelf mine got) = true
is_aside end.Hello = true
is_aside (end.Repeat number) = true
is_aside (end.Early number expected) = true
is_aside (end.Message parcel) = false

abbrev pub may_meet : PacketWorld → ℕ → ℕ → ℕ → Packet Parcel → Bool
may_meet world n stamp m p =
    world.network.up n
    && (is_later world n stamp && ((not (m == n) && nat_lt m world.size) && (((world.network.end n m).known == 0) && nat_lt p.stamp stamp)))

-- a tick of a session has the stamp of the node's last step, or that of the step that it goes with
abbrev pub may_move : PacketWorld → Move → Bool
may_move world (Step n stamp free source) = may_step world n stamp source
may_move world (Cut n stamp free source is_kept cause) = may_step world n stamp source && is_crash cause
may_move world (Stop n stamp cause) = world.network.up n && (is_in_order world n stamp && is_crash cause)
may_move world (Rise n stamp inc) = not (world.network.up n) && (is_in_order world n stamp && nat_lt (world.network.inc n) inc)
may_move world (Meet n stamp m p) = may_meet world n stamp m p
may_move world (Take n m p) = world.network.up n && is_aside (answer_at world n m p)
may_move world (Tick n m stamp) = world.network.up n && nat_le (world.hosts n).stamp stamp

-- the packet that a step takes was sent to its node
abbrev pub SourceSent : PacketWorld → ℕ → Source → Type 0
SourceSent world n (Brought m p) = Among (world.network.packets m n) p
SourceSent world n source = ⊤

abbrev pub WasSent : PacketWorld → Move → Type 0
WasSent world (Step n stamp free source) = SourceSent world n source
WasSent world (Cut n stamp free source is_kept cause) = SourceSent world n source
WasSent world (Stop n stamp cause) = ⊤
WasSent world (Rise n stamp inc) = ⊤
WasSent world (Meet n stamp m p) = Among (world.network.packets m n) p
WasSent world (Take n m p) = Among (world.network.packets m n) p
WasSent world (Tick n m stamp) = ⊤

pub record MayMove (world : PacketWorld) (move : Move) : Type 0 where
  pub may : may_move world move ≡ true
  pub sent : WasSent world move
