-- A step of a cell in which a packet brings the message in turn, as the cell itself sees it: it makes the node's local run one step longer.
use Rattle.std.specs.Prelude.{◌≡◌, ℕ, ◌<◌, ◌^◌, true, List, [], ◌∷◌, ◌++◌, map, None}
use Rattle.std.specs.List.{filter}
use Rattle.qs_session_channels.specs.End as end
use Rattle.qs_session_channels.specs.End.{answer}
use Rattle.qs_cell_peers.specs.Peers.{is_peer, is_to}
use Rattle.qs_cell_peers.specs.Sessions.{Ends, all_sent, sent_to, taken_in}
use Rattle.qs_book_journal.specs.declared.entry.Entry.{Entry}
use Rattle.qs_world_merge.specs.StepMoves.{seen}
use Rattle.qs_world_merge.specs.Reaching.{HasReached}
use Rattle.qs_world_merge.specs.LocalRuns.{AnswersOnly, client_at}
use Rattle.qs_packet.specs.declared.message.Message.{Message}
use Rattle.qs_packet.specs.declared.packet.Packet.{Packet}
use Rattle.qs_world_packets.specs.PacketWorld.{PacketWorld}
use Rattle.qs_node_step.specs.Step.{after_step, effects_of}
use Rattle.qs_node_step.specs.declared.event.Effects.{Effects}
use Rattle.qs_node_step.specs.declared.event.Event.{Event}
use Rattle.qs_node_step.specs.declared.event.Event.TheVariants as events
use Rattle.qs_node_step.specs.declared.trace.Did.TheVariants as dids
use Rattle.qs_node_step.specs.declared.trace.Step.{Step}
use Rattle.qs_world.specs.Moves.{node_no, stepped_host}
use Rattle.qs_world.specs.Posting.{entries_of}
use Rattle.qs_world.specs.World.{Opening}
use Rattle.qs_world_traces.specs.Links.{observed_by}
use Rattle.qs_world_traces.specs.Sessions.{AreEnds}

abbrev pub comes : Packet → Message → Event
comes packet x = events.Received (node_no packet.from.0) x

abbrev pub out_at : PacketWorld → ℕ → Packet → Message → ℕ → Effects
out_at world n packet x free = effects_of (world.hosts n).node (comes packet x) free

abbrev pub message_step : ℕ → ℕ → ℕ → ℕ → Packet → List Packet → Step
message_step n s acts rounds packet put = record { stamp = s; node = node_no n; acts = acts; rounds = rounds; did = dids.Packet packet; put = put; crash = None }

-- what the cell knows
pub record TakesMessage (o : Opening) (n : ℕ) (journal : List Entry) (trace : List Step) (stamp : ℕ) (world : PacketWorld) (ends : Ends) (packet : Packet) (x : Message) (s free : ℕ) (put : List Packet) : Type 0 where
  pub reached : HasReached o n (observed_by journal trace) stamp world
  pub sessions : AreEnds (is_peer o.size n) n world.network ends
  pub in_run : n < o.size
  pub peer : is_peer o.size n packet.from.0 ≡ true
  pub later : stamp < s
  pub after_it : packet.stamp < s
  pub low : s < 2 ^ 62
  pub up : world.network.up n ≡ true
  pub answered : answer (ends packet.from.0) (seen packet) ≡ end.Message x
  pub own : AnswersOnly (client_at o) n (out_at world n packet x free).answers
  pub puts : (m : ℕ) → is_peer o.size n m ≡ true → map seen (filter (is_to m) put) ≡ sent_to (is_peer o.size n) s m (taken_in ends packet) (out_at world n packet x free).messages

-- and what it has come to then
pub record HasTakenMessage (o : Opening) (n : ℕ) (journal : List Entry) (trace : List Step) (world : PacketWorld) (ends : Ends) (packet : Packet) (x : Message) (s free acts rounds : ℕ) (put : List Packet) : Type 0 where
  pub new : PacketWorld
  pub reached : HasReached o n (observed_by (journal ++ entries_of n s (out_at world n packet x free).entries) (trace ++ message_step n s acts rounds packet put ∷ [])) s new
  pub sessions : AreEnds (is_peer o.size n) n new.network (all_sent (is_peer o.size n) (taken_in ends packet) (out_at world n packet x free).messages)
  pub host : new.hosts n ≡ stepped_host s (after_step (world.hosts n).node (comes packet x) free) (out_at world n packet x free) (world.hosts n)
  pub up : new.network.up n ≡ true

abbrev pub EachTakesMessage : Type 0
EachTakesMessage = (o : Opening) (n : ℕ) (journal : List Entry) (trace : List Step) (stamp : ℕ) (world : PacketWorld) (ends : Ends) (packet : Packet) (x : Message) (s free acts rounds : ℕ) (put : List Packet)
    → TakesMessage o n journal trace stamp world ends packet x s free put → HasTakenMessage o n journal trace world ends packet x s free acts rounds put
