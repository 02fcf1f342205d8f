-- A tick of a cell, as the cell itself sees it: its node's step, and then each session ticks, in the order of the other nodes.
use Rattle.std.specs.Prelude.{◌≡◌, ℕ, ◌<◌, ◌^◌, true, List, [], ◌∷◌, ◌++◌, map, None}
use Rattle.std.specs.List.{filter}
use Rattle.qs_cell_peers.specs.Peers.{is_peer, is_to}
use Rattle.qs_cell_peers.specs.Sessions.{Ends, all_sent, sent_to}
use Rattle.qs_cell_peers.specs.Ticks.{all_ticked, tick_to}
use Rattle.qs_book_journal.specs.declared.entry.Entry.{Entry}
use Rattle.qs_world_merge.specs.StepMoves.{seen}
use Rattle.qs_world_merge.specs.Reaching.{HasReached}
use Rattle.qs_world_merge.specs.LocalRuns.{AnswersOnly, client_at}
use Rattle.qs_packet.specs.declared.packet.Packet as packets
use Rattle.qs_world_packets.specs.PacketWorld.{PacketWorld}
use Rattle.qs_node_step.specs.Step.{after_step, effects_of}
use Rattle.qs_node_step.specs.declared.event.Effects.{Effects}
use Rattle.qs_node_step.specs.declared.event.Event.TheVariants as events
use Rattle.qs_node_step.specs.declared.trace.Did.TheVariants as dids
use Rattle.qs_node_step.specs.declared.trace.Step.{Step}
use Rattle.qs_world.specs.Moves.{node_no, stepped_host}
use Rattle.qs_world.specs.Posting.{clients_after, entries_of}
use Rattle.qs_world.specs.World.{Opening}
use Rattle.qs_world_traces.specs.Links.{observed_by}
use Rattle.qs_world_traces.specs.Sessions.{AreEnds}

abbrev pub tick_out : PacketWorld → ℕ → ℕ → Effects
tick_out world n free = effects_of (world.hosts n).node events.Tick free

abbrev pub tick_step : ℕ → ℕ → ℕ → ℕ → List packets.Packet → Step
tick_step n s acts rounds put = record { stamp = s; node = node_no n; acts = acts; rounds = rounds; did = dids.Tick; put = put; crash = None }

pub record TakesTick (o : Opening) (n : ℕ) (journal : List Entry) (trace : List Step) (stamp : ℕ) (world : PacketWorld) (ends : Ends) (s free : ℕ) (put : List packets.Packet) : Type 0 where
  pub reached : HasReached o n (observed_by journal trace) stamp world
  pub sessions : AreEnds (is_peer o.size n) n world.network ends
  pub in_run : n < o.size
  pub later : stamp < s
  pub low : s < 2 ^ 62
  pub up : world.network.up n ≡ true
  pub own : AnswersOnly (client_at o) n (tick_out world n free).answers
  pub puts : (m : ℕ) → is_peer o.size n m ≡ true → map seen (filter (is_to m) put)
      ≡ sent_to (is_peer o.size n) s m ends (tick_out world n free).messages ++ tick_to o.size n s m (all_sent (is_peer o.size n) ends (tick_out world n free).messages)

pub record HasTakenTick (o : Opening) (n : ℕ) (journal : List Entry) (trace : List Step) (world : PacketWorld) (ends : Ends) (s free acts rounds : ℕ) (put : List packets.Packet) : Type 0 where
  pub new : PacketWorld
  pub reached : HasReached o n (observed_by (journal ++ entries_of n s (tick_out world n free).entries) (trace ++ tick_step n s acts rounds put ∷ [])) s new
  pub sessions : AreEnds (is_peer o.size n) n new.network (all_ticked o.size n (all_sent (is_peer o.size n) ends (tick_out world n free).messages))
  pub host : new.hosts n ≡ stepped_host s (after_step (world.hosts n).node events.Tick free) (tick_out world n free) (world.hosts n)
  pub up : new.network.up n ≡ true
  pub inc : new.network.inc n ≡ world.network.inc n
  pub clients : (k : ℕ) → new.clients k ≡ clients_after (tick_out world n free).answers world.clients k

abbrev pub EachTakesTick : Type 0
EachTakesTick = (o : Opening) (n : ℕ) (journal : List Entry) (trace : List Step) (stamp : ℕ) (world : PacketWorld) (ends : Ends) (s free acts rounds : ℕ) (put : List packets.Packet)
    → TakesTick o n journal trace stamp world ends s free put → HasTakenTick o n journal trace world ends s free acts rounds put
