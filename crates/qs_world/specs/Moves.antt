-- What happens in the world, one step of one node at a time, and in which order. Each move is a list of moves of the channels.
use Rattle.std.specs.Prelude.{ℕ, ◌==◌, ◌^◌, ◌+◌, Bool, true, false, not, ◌&&◌, ◌||◌, List, [], ◌∷◌, ◌++◌, map, Option, Some, None, is_some, nat_lt, nat_le, if◌then◌else◌}
use Rattle.qs_base.specs.declared.identifiers.NodeNo.{NodeNo}
use Rattle.qs_session_channels.specs.Channels as channel
use Rattle.qs_session_channels.specs.Channels.{Channels}
use Rattle.qs_session_channels.specs.Network.{with_at}
use Rattle.qs_book_journal.specs.declared.entry.Act.TheVariants as acts
use Rattle.qs_book_journal.specs.declared.entry.CrashCause.{CrashCause}
use Rattle.qs_book_journal.specs.declared.entry.Found.{Found}
use Rattle.qs_book_journal.specs.declared.script_line.ScriptLine.{ScriptLine}
use Rattle.qs_book_machine.specs.Clauses.{is_crash}
use Rattle.qs_record.specs.declared.record.Record.{Record}
use Rattle.qs_restart.specs.declared.recovered.OpenVote.{OpenVote}
use Rattle.qs_restart.specs.declared.recovered.Recovered.{Recovered}
use Rattle.qs_node_step.specs.Counted.{is_all_counted}
use Rattle.qs_node_step.specs.declared.event.Effects.{Effects}
use Rattle.qs_node_step.specs.declared.event.Event.{Event}
use Rattle.qs_node_step.specs.declared.event.Event.TheVariants as events
use Rattle.qs_node_step.specs.Opening.{recovered_of, opened_node}
use Rattle.qs_node_step.specs.State.{NodeValue}
use Rattle.qs_node_step.specs.Step.{after_step, effects_of}
use Rattle.qs_world.specs.World.{Host, Parcel, Client, World, with_host, inc_of, known_of}
use Rattle.qs_world.specs.Posting.{post_all, next_parcel, entries_of, clients_after, handed, handed_back, next_line}

-- where an event comes from
pub data Source : Type 0 where
  Commanded : ℕ → Source  -- the next line of that client
  Handed : ℕ → Source  -- the next message from that node
  Queues : Source  -- the requests that wait
  Clock : Source
  Noticed : ℕ → ℕ → Source  -- that node restarted, and is in that incarnation

-- a node, the stamp of its step, and what it does
pub data Move : Type 0 where
  Step : ℕ → ℕ → ℕ → Source → Move  -- a whole step, with so many bytes of room in the log
  Cut : ℕ → ℕ → ℕ → Source → Bool → CrashCause → Move  -- a step that a crash cuts off: its batch is on the disk, or not
  Stop : ℕ → ℕ → CrashCause → Move  -- a crash in place of a step, or after one
  Rise : ℕ → ℕ → ℕ → Move  -- a restart into that incarnation
  Meet : ℕ → ℕ → ℕ → ℕ → Move  -- it gets to know a first incarnation of that node: what waited is posted

-- ---- which event it is; none where there is none of that source

abbrev pub node_no : ℕ → NodeNo
node_no n = record { 0 = n }

-- there are so many clients
abbrev pub client_count : ℕ
client_count = 64

abbrev pub command_of : ScriptLine → Event
command_of line = events.Command line.client line.line line.label line.command

abbrev pub command_from : World → ℕ → ℕ → Option Event
command_from world n k =
    if nat_lt k client_count && ((world.clients k).at == n) then elim (next_line (world.clients k)) [ None ↦ None | Some line ↦ Some (command_of line) ]
    else None

-- a message comes in a later step than that which posted it
abbrev pub message_from : World → ℕ → ℕ → ℕ → Option Event
message_from world n stamp m = elim (next_parcel world n m) [
  | None ↦ None
  | Some parcel ↦ if nat_lt parcel.stamp stamp then Some (events.Received (node_no m) parcel.message) else None
]

abbrev pub is_before : ℕ → Option ℕ → Bool
is_before stamp None = false
is_before stamp (Some began) = nat_lt began stamp

-- an incarnation is known once it has begun, by stamps too
abbrev pub has_begun : World → ℕ → ℕ → ℕ → Bool
has_begun world stamp m inc = nat_le inc (inc_of world m) && is_before stamp (world.born m inc)

abbrev pub notice_of : World → ℕ → ℕ → ℕ → ℕ → Option Event
notice_of world n stamp m new =
    if nat_lt 0 (known_of world n m) && (nat_lt (known_of world n m) new && has_begun world stamp m new)
    then Some (events.PeerRestarted (node_no m) (known_of world n m) new)
    else None

abbrev pub event_of : World → ℕ → ℕ → Source → Option Event
event_of world n stamp (Commanded k) = command_from world n k
event_of world n stamp (Handed m) = message_from world n stamp m
event_of world n stamp Queues = Some events.ServeAll
event_of world n stamp Clock = Some events.Tick
event_of world n stamp (Noticed m new) = notice_of world n stamp m new

-- ---- what a whole step does

abbrev pub hand_next : ℕ → ℕ → Option Parcel → Channels Parcel → Channels Parcel
hand_next n m None channels = channels
hand_next n m (Some parcel) channels = channel.moved (channel.Hand n m parcel) channels

-- what its event does to the channels
abbrev pub taken_by : World → ℕ → Source → Channels Parcel
taken_by world n (Handed m) = hand_next n m (next_parcel world n m) world.channels
taken_by world n (Noticed m new) = channel.moved (channel.Notice n m new) world.channels
taken_by world n source = world.channels

abbrev pub handed_by : Source → (ℕ → Client) → ℕ → Client
handed_by (Commanded k) clients = handed k clients
handed_by source clients = clients

-- a force writes all records that wait, in one batch
abbrev pub log_after : Host → Effects → List Record
log_after host out = if out.force then host.log ++ (host.waiting ++ out.records) else host.log

abbrev pub waiting_after : Host → Effects → List Record
waiting_after host out = if out.force then [] else host.waiting ++ out.records

abbrev pub stepped_host : ℕ → NodeValue → Effects → Host → Host
stepped_host stamp node out host = record { node = node; log = log_after host out; waiting = waiting_after host out; stamp = stamp }

abbrev pub stepped : World → ℕ → ℕ → Source → NodeValue → Effects → World
stepped world n stamp source node out = record (with_host n (stepped_host stamp node out) world) {
  channels = post_all n stamp out.messages (taken_by world n source);
  clients = clients_after out.answers (handed_by source world.clients);
  journal = world.journal ++ entries_of n stamp out.entries;
  last = (stamp, n);
}

abbrev pub step_with : World → ℕ → ℕ → ℕ → Source → Option Event → World
step_with world n stamp free source None = world
step_with world n stamp free source (Some event) =
    stepped world n stamp source (after_step (world.hosts n).node event free) (effects_of (world.hosts n).node event free)

-- ---- what crashes and restarts do

abbrev pub stopped_host : ℕ → List Record → Host → Host
stopped_host stamp log host = record host { log = log; waiting = []; stamp = stamp }

-- a node stops: what was not forced is lost, and so is what it had in hand
abbrev pub stopped : World → ℕ → ℕ → CrashCause → List Record → World
stopped world n stamp cause log = record (with_host n (stopped_host stamp log) world) {
  channels = channel.moved (channel.Crash n) world.channels;
  clients = handed_back n world.clients;
  journal = world.journal ++ entries_of n stamp (acts.Crash cause ∷ []);
  last = (stamp, n);
}

-- the records that a step which is cut off leaves: with its batch all that waited, or nothing
abbrev pub cut_log : Host → Bool → Effects → List Record
cut_log host is_kept out = if is_kept then log_after host out else host.log

abbrev pub cut_with : World → ℕ → ℕ → ℕ → Bool → CrashCause → Option Event → World
cut_with world n stamp free is_kept cause None = world
cut_with world n stamp free is_kept cause (Some event) =
    stopped world n stamp cause (cut_log (world.hosts n) is_kept (effects_of (world.hosts n).node event free))

abbrev pub reopened : ℕ → Recovered → NodeValue → NodeValue
reopened inc found node = opened_node node.manager.alloc (record node.setting { inc = inc }) found node.kept.saved

abbrev pub risen_host : ℕ → ℕ → Recovered → Host → Host
risen_host stamp inc found host = record host { node = reopened inc found host.node; stamp = stamp }

abbrev pub found_of : OpenVote → Found
found_of vote = record { tid = vote.tid; server = vote.server; covers = vote.covers }

-- a node begins an incarnation with what its log says; its sessions begin anew
abbrev pub risen : World → ℕ → ℕ → ℕ → Recovered → World
risen world n stamp inc found = record (with_host n (risen_host stamp inc found) world) {
  channels = channel.moved (channel.Restart n inc) world.channels;
  born = with_at world.born n (with_at (world.born n) inc (Some stamp));
  journal = world.journal ++ entries_of n stamp (acts.Restart inc (map found_of found.votes) found.committed ∷ []);
  last = (stamp, n);
}

abbrev pub met : World → ℕ → ℕ → ℕ → ℕ → World
met world n stamp m inc = record (with_host n (λ host. record host { stamp = stamp }) world) {
  channels = channel.moved (channel.Meet n m inc) world.channels;
  last = (stamp, n);
}

-- ---- a move

abbrev pub moved : Move → World → World
moved (Step n stamp free source) world = step_with world n stamp free source (event_of world n stamp source)
moved (Cut n stamp free source is_kept cause) world = cut_with world n stamp free is_kept cause (event_of world n stamp source)
moved (Stop n stamp cause) world = stopped world n stamp cause (world.hosts n).log
moved (Rise n stamp inc) world = risen world n stamp inc (recovered_of (world.hosts n).log)
moved (Meet n stamp m inc) world = met world n stamp m inc

-- stamps stand below this
abbrev pub stamp_limit : ℕ
stamp_limit = 2 ^ 62

-- steps stand in order of stamps, and of nodes where these are one; the stamps of one node rise, but for a crash and a restart
-- whose node's stamp stands at its last value
abbrev pub is_in_order : World → ℕ → ℕ → Bool
is_in_order world n stamp =
    (nat_lt n world.size && nat_lt stamp stamp_limit)
    && ((nat_lt world.last.0 stamp || ((world.last.0 == stamp) && nat_le world.last.1 n)) && nat_le (world.hosts n).stamp stamp)

abbrev pub is_later : World → ℕ → ℕ → Bool
is_later world n stamp = is_in_order world n stamp && nat_lt (world.hosts n).stamp stamp

-- what waits is served where all of it can be counted
abbrev pub may_serve : NodeValue → Source → Bool
may_serve node Queues = is_all_counted node
may_serve node source = true

abbrev pub may_step : World → ℕ → ℕ → Source → Bool
may_step world n stamp source =
    world.channels.up n && (is_later world n stamp && (is_some (event_of world n stamp source) && may_serve (world.hosts n).node source))

abbrev pub may_move : World → Move → Bool
may_move world (Step n stamp free source) = may_step world n stamp source
may_move world (Cut n stamp free source is_kept cause) = may_step world n stamp source && is_crash cause
may_move world (Stop n stamp cause) = world.channels.up n && (is_in_order world n stamp && is_crash cause)
may_move world (Rise n stamp inc) = not (world.channels.up n) && (is_in_order world n stamp && nat_lt (inc_of world n) inc)
may_move world (Meet n stamp m inc) =
    world.channels.up n
    && (is_later world n stamp
    && ((not (m == n) && nat_lt m world.size)
    && ((known_of world n m == 0) && (nat_lt 0 inc && has_begun world stamp m inc))))
