-- What each thing that a cell does is in a world over packets: a step, which may tick its sessions; a step and a stop behind it; a stop; a step that is cut
-- off; and a packet that changes a session alone. The cell's session takes a packet in before the event is made; in the world both are one move.
use Rattle.std.specs.Prelude.{◌≡◌, ℕ, Bool, List, Some, if◌then◌else◌}
use Rattle.qs_cell.specs.Asides.{IsAsideReplaced, IsSetAside}
use Rattle.qs_cell.specs.Cell.{IsCutOff, IsFollowed, IsReplaced, IsWhole, out_of}
use Rattle.qs_cell.specs.declared.running.Running.{Running}
use Rattle.qs_cell.specs.declared.stopped.Stopped.{Stopped}
use Rattle.qs_cell_chronicle.specs.Occasions.{event_of}
use Rattle.qs_cell_chronicle.specs.declared.occasion.Occasion.{Occasion}
use Rattle.qs_cell_chronicle.specs.declared.occasion.Occasion.TheVariants as occasions
use Rattle.qs_cell_peers.specs.Hears.{ends_heard, heard_of}
use Rattle.qs_cell_peers.specs.Sessions.{EndAs, SessionsValue}
use Rattle.qs_cell_peers.specs.declared.heard.Heard.{Heard}
use Rattle.qs_cell_peers.specs.declared.heard.Heard.TheVariants as heards
use Rattle.qs_log.specs.Log.{LogValue}
use Rattle.qs_node_host.specs.Host.{log_after}
use Rattle.qs_node_step.specs.declared.event.ClientAnswer.{ClientAnswer}
use Rattle.qs_node_step.specs.declared.event.Effects.{Effects}
use Rattle.qs_packet.specs.declared.packet.Packet.{Packet}
use Rattle.qs_record.specs.declared.record.Record.{Record}
use Rattle.qs_world.specs.Posting.{clients_after, handed, handed_back}
use Rattle.qs_world.specs.World.{Client, Opening}
use Rattle.qs_world_merge.specs.LocalRuns.{AnswersOnly, client_at}
use Rattle.qs_world_merge.specs.Reaching.{HasReached}
use Rattle.qs_world_packets.specs.PacketMoves.{command_from}
use Rattle.qs_world_packets.specs.PacketWorld.{PacketWorld}
use Rattle.qs_world_seats.specs.Shown.{IsDown, IsUp, Reaches, ShowsUp, observed_of}

-- ---- what comes

-- what the sessions make of the packet, which they then have taken in
pub record IsHeard (heard : Heard) (packet : Packet) (old new : SessionsValue) : Type 0 where
  pub heard_as : heard_of old packet ≡ heard
  pub ends : EndAs old (ends_heard old packet) new

-- a command is the next of its client in the world
abbrev pub Comes : ℕ → Occasion → SessionsValue → SessionsValue → PacketWorld → Type 0
Comes n (occasions.Command line) old new world = (new ≡ old) × (command_from world n line.client.0 ≡ Some (event_of (occasions.Command line)))
Comes n occasions.Queues old new world = new ≡ old
Comes n occasions.Clock old new world = new ≡ old
Comes n (occasions.Message packet) old new world = IsHeard heards.Message packet old new
Comes n (occasions.Restarted packet known) old new world = IsHeard (heards.Restarted known) packet old new

-- the cell, whose sessions are these then
abbrev pub with_sessions : {D F X : Type 0} → SessionsValue → Running D F X → Running D F X
with_sessions sessions running = record running { sessions = sessions }

-- the command that comes is in the node's hands
abbrev pub handed_over : Occasion → (ℕ → Client) → ℕ → Client
handed_over (occasions.Command line) clients = handed line.client.0 clients
handed_over occasions.Queues clients = clients
handed_over occasions.Clock clients = clients
handed_over (occasions.Message packet) clients = clients
handed_over (occasions.Restarted packet known) clients = clients

-- ---- what becomes of the cell

-- the cell is up in the world
pub record StandsAt {D F X : Type 0} (o : Opening) (n : ℕ) (running : Running D F X) (world : PacketWorld) : Type 0 where
  pub reached : HasReached o n (observed_of running.carried.chronicle.told) running.carried.chronicle.told.stamp world
  pub shows : ShowsUp n running world

abbrev pub WholeGoesOn : {D F X : Type 0} → Opening → ℕ → ℕ → Occasion → SessionsValue → Running D F X → Running D F X → List ClientAnswer → PacketWorld → Type 0
WholeGoesOn o n size occasion sessions old new said world =
    StandsAt o n old world → Comes n occasion old.sessions sessions world → IsWhole size occasion (with_sessions sessions old) new said → AnswersOnly (client_at o) n said
    → Reaches o n new.carried.chronicle.told (IsUp n new (clients_after said (handed_over occasion world.clients)))

-- the log is that after the step: what was not forced is lost
abbrev pub FollowedGoesOn : {D F X : Type 0} → Opening → ℕ → ℕ → Occasion → SessionsValue → Running D F X → Stopped D → List ClientAnswer → PacketWorld → Type 0
FollowedGoesOn o n size occasion sessions old new said world =
    StandsAt o n old world → Comes n occasion old.sessions sessions world → IsFollowed size occasion (with_sessions sessions old) new said → AnswersOnly (client_at o) n said
    → Reaches o n new.carried.chronicle.told (IsDown n new (log_after (out_of size occasion old) old.host.log).forced (handed_back n (clients_after said (handed_over occasion world.clients))))

-- a packet that comes with the event is never taken there
abbrev pub ReplacedGoesOn : {D F X : Type 0} → Opening → ℕ → ℕ → Occasion → SessionsValue → Running D F X → Stopped D → PacketWorld → Type 0
ReplacedGoesOn o n size occasion sessions old new world =
    StandsAt o n old world → IsReplaced size occasion (with_sessions sessions old) new
    → Reaches o n new.carried.chronicle.told (IsDown n new old.host.log.forced (handed_back n world.clients))

-- the log of before, or with the batch of the step that of after: for each there is a world
abbrev pub left_log : {D : Type 0} → Bool → Effects → LogValue D → List Record
left_log is_kept out log = if is_kept then (log_after out log).forced else log.forced

abbrev pub CutGoesOn : {D F X : Type 0} → Opening → ℕ → (D → ℕ) → ℕ → Occasion → SessionsValue → Running D F X → Stopped D → PacketWorld → Type 0
CutGoesOn o n own size occasion sessions old new world =
    StandsAt o n old world → Comes n occasion old.sessions sessions world → IsCutOff own size occasion (with_sessions sessions old) new
    → (is_kept : Bool) → Reaches o n new.carried.chronicle.told (IsDown n new (left_log is_kept (out_of size occasion old) old.host.log) (handed_back n world.clients))

-- ---- a packet aside

abbrev pub AsideGoesOn : {D F X : Type 0} → Opening → ℕ → Packet → SessionsValue → Running D F X → Running D F X → PacketWorld → Type 0
AsideGoesOn o n packet sessions old new world =
    StandsAt o n old world → IsHeard heards.Aside packet old.sessions sessions → IsSetAside packet (with_sessions sessions old) new
    → Reaches o n new.carried.chronicle.told (IsUp n new world.clients)

abbrev pub AsideReplacedGoesOn : {D F X : Type 0} → Opening → ℕ → Packet → SessionsValue → Running D F X → Stopped D → PacketWorld → Type 0
AsideReplacedGoesOn o n packet sessions old new world =
    StandsAt o n old world → IsAsideReplaced packet (with_sessions sessions old) new
    → Reaches o n new.carried.chronicle.told (IsDown n new old.host.log.forced (handed_back n world.clients))
