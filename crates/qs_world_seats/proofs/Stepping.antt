-- A whole step of a cell in the world: the node's step, with the packet that comes, and where time passes a tick of each session.
use Rattle.std.proofs.Common.{◌≡◌, ◌∙◌, ap, refl, inl, subst, sym, ℕ, ◌<◌, ◌^◌, Bool, true, false, List, [], ◌∷◌, ◌++◌, Option, None, Some, append-nil, map, if◌then◌else◌}
use Rattle.std.specs.List.{filter}
use Rattle.std.specs.Prelude.{is_some, reverse}
use Rattle.qs_book_journal.specs.declared.entry.CrashCause.{CrashCause}
use Rattle.qs_cell.specs.Cell.{ticks}
use Rattle.qs_cell_chronicle.specs.Chronicle.{Told, noted}
use Rattle.qs_cell_chronicle.specs.Occasions.{event_of as event_for, did_of}
use Rattle.qs_cell_chronicle.specs.declared.occasion.Occasion.{Occasion}
use Rattle.qs_cell_chronicle.specs.declared.occasion.Occasion.TheVariants as occasions
use Rattle.qs_cell_peers.proofs.Places.{peer_is}
use Rattle.qs_cell_peers.specs.Peers.{is_peer, is_to}
use Rattle.qs_cell_peers.specs.Sessions.{Ends, all_sent, sent_to}
use Rattle.qs_cell_peers.specs.Ticks.{all_ticked, tick_to}
use Rattle.qs_node_step.specs.State.{NodeValue}
use Rattle.qs_node_step.specs.Step.{after_step, effects_of}
use Rattle.qs_node_step.specs.declared.event.ClientAnswer.{ClientAnswer}
use Rattle.qs_node_step.specs.declared.event.Effects.{Effects}
use Rattle.qs_node_step.specs.declared.event.Event.{Event}
use Rattle.qs_node_step.specs.declared.event.Event.TheVariants as events
use Rattle.qs_node_step.specs.declared.trace.Step as trace
use Rattle.qs_packet.specs.declared.message.Message.{Message}
use Rattle.qs_packet.specs.declared.packet.Packet.{Packet}
use Rattle.qs_session_channels.specs.End as end
use Rattle.qs_world.specs.Moves.{node_no, stepped_host}
use Rattle.qs_world.specs.Posting.{clients_after}
use Rattle.qs_world.specs.World.{Client, Opening, Parcel}
use Rattle.qs_world_merge.proofs.MayMoves.{may_steps}
use Rattle.qs_world_merge.proofs.NetworkSame.{at_place}
use Rattle.qs_world_merge.proofs.Reaches.{each_reached_up_to}
use Rattle.qs_world_merge.specs.LocalRuns.{AnswersOnly, answers_with, client_at}
use Rattle.qs_world_merge.specs.Observed.{ArePut, SourceTook}
use Rattle.qs_world_merge.specs.Reaching.{HasReached}
use Rattle.qs_world_merge.specs.StepMoves.{DoesAs, one_move, seen}
use Rattle.qs_world_packets.specs.PacketMoves.{Source, Commanded, Queues, Clock, Brought, Step, event_of, handed_by, may_serve, step_with, taken_by}
use Rattle.qs_world_packets.specs.PacketSessions.{plain_packet}
use Rattle.qs_world_packets.specs.PacketWorld.{PacketWorld}
use Rattle.qs_world_traces.proofs.MessagesTaken.{as_brought, inc_sends, up_sends}
use Rattle.qs_world_traces.proofs.PutsOn.{each_puts_on}
use Rattle.qs_world_traces.proofs.SessionsAre.{each_sends}
use Rattle.qs_world_traces.proofs.TicksTaken.{each_takes_tick}
use Rattle.qs_world_traces.specs.Links.{put_to, took_from}
use Rattle.qs_world_traces.specs.Sessions.{AreEnds, SendsAsEnds}
use Rattle.qs_world_traces.specs.Ticks.{HasTakenTick}
use Rattle.qs_world_seats.proofs.Making.{makes}
use Rattle.qs_world_seats.proofs.Sources.{IsOfPeer, source_of, took_it}
use Rattle.qs_world_seats.proofs.Stamps.{IsNext, step_at, tells}
use Rattle.qs_world_seats.specs.Events.{handed_over}
use Rattle.qs_world_seats.specs.Shown.{observed_of}

-- ---- what a step that brings a packet, or none, leaves alone

packets_stay : (world : PacketWorld) (n m : ℕ) (source : Source) → (taken_by world n source).packets n m ≡ world.network.packets n m
packets_stay world n m (Commanded k) = refl
packets_stay world n m Queues = refl
packets_stay world n m Clock = refl
packets_stay world n m (Brought k p) = refl

up_stays : (world : PacketWorld) (n : ℕ) (source : Source) → (taken_by world n source).up n ≡ world.network.up n
up_stays world n (Commanded k) = refl
up_stays world n Queues = refl
up_stays world n Clock = refl
up_stays world n (Brought k p) = refl

inc_stays : (world : PacketWorld) (n : ℕ) (source : Source) → (taken_by world n source).inc n ≡ world.network.inc n
inc_stays world n (Commanded k) = refl
inc_stays world n Queues = refl
inc_stays world n Clock = refl
inc_stays world n (Brought k p) = refl

pub over_by : (occasion : Occasion) (clients : ℕ → Client) (k : ℕ) → handed_by (source_of occasion) clients k ≡ handed_over occasion clients k
over_by (occasions.Command line) clients k = refl
over_by occasions.Queues clients k = refl
over_by occasions.Clock clients k = refl
over_by (occasions.Message packet) clients k = refl
over_by (occasions.Restarted packet known) clients k = refl

-- a step without ticks of sessions is one move
does_whole : (size n s free : ℕ) (occasion : Occasion) → ticks occasion ≡ false → DoesAs size n s (did_of occasion) None (one_move s (Step n s free (source_of occasion)) (Some (event_for occasion)))
does_whole size n s free (occasions.Command line) none = record { free = free; is = refl }
does_whole size n s free occasions.Queues none = record { free = free; is = refl }
does_whole size n s free occasions.Clock none = absurd (cc none)
does_whole size n s free (occasions.Message packet) none = record { brought = as_brought packet; plain = refl; event = Some (event_for (occasions.Message packet)); how = inl (record { free = free; is = refl }) }
does_whole size n s free (occasions.Restarted packet known) none = record { brought = as_brought packet; plain = refl; event = Some (event_for (occasions.Restarted packet known)); how = inl (record { free = free; is = refl }) }

pub source_took : (size n : ℕ) (steps : List trace.Step) (occasion : Occasion) (next : Told) (put : List Packet) (crash : Option CrashCause) → IsOfPeer size n occasion
    → SourceTook size n (λ m. map seen (took_from m (steps ++ step_at n next (did_of occasion) put crash ∷ []))) (source_of occasion)
source_took size n steps (occasions.Command line) next put crash peer = tt
source_took size n steps occasions.Queues next put crash peer = tt
source_took size n steps occasions.Clock next put crash peer = tt
source_took size n steps (occasions.Message packet) next put crash peer = took_it size n packet steps (step_at n next (did_of (occasions.Message packet)) put crash) refl peer
source_took size n steps (occasions.Restarted packet known) next put crash peer = took_it size n packet steps (step_at n next (did_of (occasions.Restarted packet known)) put crash) refl peer

-- ---- the step

module _ (o : Opening) (n : ℕ) (told next : Told) (world : PacketWorld) (occasion : Occasion) (ends : Ends) (free : ℕ) (put : List Packet) where
  abbrev peers : ℕ → Bool
  peers = is_peer o.size n

  abbrev source : Source
  source = source_of occasion

  abbrev event : Event
  event = event_for occasion

  abbrev pub out : Effects
  out = effects_of (world.hosts n).node event free

  abbrev node_then : NodeValue
  node_then = after_step (world.hosts n).node event free

  abbrev sent : Ends
  sent = all_sent peers ends out.messages

  -- what the cell knows; its sessions have taken in what comes
  pub record MayStep : Type 0 where
    pub reached : HasReached o n (observed_of told) told.stamp world
    pub at_next : IsNext told next
    pub node : told.node ≡ node_no n
    pub in_run : n < o.size
    pub later : told.stamp < next.stamp
    pub low : next.stamp < 2 ^ 62
    pub up : world.network.up n ≡ true
    pub comes : event_of world n next.stamp source ≡ Some event
    pub of_peer : IsOfPeer o.size n occasion
    pub ends_are : AreEnds peers n (taken_by world n source) ends
    pub serves : may_serve (world.hosts n).node source ≡ true
    pub own : AnswersOnly (client_at o) n out.answers
    pub puts : (m : ℕ) → peers m ≡ true → map seen (filter (is_to m) put) ≡ sent_to peers next.stamp m ends out.messages ++ (if ticks occasion then tick_to o.size n next.stamp m sent else [])

  -- and where it has come to
  pub record HasStepped : Type 0 where
    pub new : PacketWorld
    pub reached : HasReached o n (observed_of (noted (did_of occasion) put out.entries None next)) next.stamp new
    pub ends_are : AreEnds peers n new.network (if ticks occasion then all_ticked o.size n sent else sent)
    pub host : new.hosts n ≡ stepped_host next.stamp node_then out (world.hosts n)
    pub up : new.network.up n ≡ true
    pub inc : new.network.inc n ≡ world.network.inc n
    pub clients : (k : ℕ) → new.clients k ≡ clients_after out.answers (handed_over occasion world.clients) k

  module _ (c : MayStep) (alone : ticks occasion ≡ false) where
    abbrev after : PacketWorld
    after = step_with world n next.stamp free source (Some event)

    sends : SendsAsEnds peers n next.stamp (taken_by world n source) ends out.messages
    sends = each_sends peers n next.stamp (taken_by world n source) ends out.messages c.ends_are

    puts_alone : (m : ℕ) → peers m ≡ true → map seen (filter (is_to m) put) ≡ sent_to peers next.stamp m ends out.messages
    puts_alone m peer = subst (λ (b : Bool). map seen (filter (is_to m) put) ≡ sent_to peers next.stamp m ends out.messages ++ (if b then tick_to o.size n next.stamp m sent else [])) alone (c.puts m peer)
        ∙ append-nil (sent_to peers next.stamp m ends out.messages)

    puts_then : (m : ℕ) → peers m ≡ true → ArePut (map seen (put_to m told.trace) ++ map seen (filter (is_to m) put)) (after.network.packets n m)
    puts_then m peer = each_puts_on (map seen (put_to m told.trace)) (map seen (filter (is_to m) put)) (world.network.packets n m) (after.network.packets n m)
        (c.reached.puts m (peer_is o.size n m peer).0 (peer_is o.size n m peer).1)
        (sends.packets m peer
        ∙ (ap (λ (l : List (end.Packet Parcel)). reverse (sent_to peers next.stamp m ends out.messages) ++ map plain_packet l) (packets_stay world n m source)
        ∙ ap (λ (l : List (end.Packet Message)). reverse l ++ map plain_packet (world.network.packets n m)) (sym (puts_alone m peer))))

    step_alone : HasStepped
    step_alone = record {
      new = after;
      reached = makes o n told next (did_of occasion) put out.entries None world after (Step n next.stamp free source) (Some event) (record {
        reached = c.reached;
        at_next = c.at_next;
        node = c.node;
        may = record {
          of_node = refl;
          rises = c.at_next.later;
          made_at = refl;
          may = may_steps o.size n told.stamp world next.stamp free source (each_reached_up_to o n (observed_of told) told.stamp world c.reached)
              (record { in_run = c.in_run; later = c.later; low = c.low; up = c.up; some = ap (λ (e : Option Event). is_some e) c.comes; serves = c.serves });
          event_is = c.comes;
          own = subst (λ (e : Option Event). AnswersOnly (client_at o) n (answers_with world n free e)) (sym c.comes) c.own;
        };
        leads = ap (λ (e : Option Event). step_with world n next.stamp free source e) c.comes;
        does = does_whole o.size n next.stamp free occasion alone;
        journal = refl;
        puts = puts_then;
        takes = source_took o.size n told.trace occasion next put None c.of_peer;
      });
      ends_are = subst (λ (b : Bool). AreEnds peers n after.network (if b then all_ticked o.size n sent else sent)) (sym alone) sends.ends_are;
      host = at_place world.hosts n (stepped_host next.stamp node_then out (world.hosts n));
      up = up_sends n next.stamp n out.messages (taken_by world n source) ∙ (up_stays world n source ∙ c.up);
      inc = inc_sends n next.stamp n out.messages (taken_by world n source) ∙ inc_stays world n source;
      clients = λ k. then_clients out.answers (handed_by source world.clients) (handed_over occasion world.clients) k (over_by occasion world.clients k);
    }
      where
        then_clients : (said : List ClientAnswer) (f g : ℕ → Client) (k : ℕ) → f k ≡ g k → clients_after said f k ≡ clients_after said g k
        then_clients said f g k same = rw same refl

-- ---- with ticks of all sessions

module _ (o : Opening) (n : ℕ) (told next : Told) (world : PacketWorld) (ends : Ends) (free : ℕ) (put : List Packet) (c : MayStep o n told next world occasions.Clock ends free put) where
  step_ticking : HasStepped o n told next world occasions.Clock ends free put
  step_ticking = record {
    new = t.new;
    reached = tells o n told next (did_of occasions.Clock) put (effects_of (world.hosts n).node events.Tick free).entries None c.at_next c.node t.new t.reached;
    ends_are = t.sessions;
    host = t.host;
    up = t.up;
    inc = t.inc;
    clients = t.clients;
  }
    where
      t : HasTakenTick o n told.journal told.trace world ends next.stamp free next.acts next.rounds put
      t = each_takes_tick o n told.journal told.trace told.stamp world ends next.stamp free next.acts next.rounds put
          (record { reached = c.reached; sessions = c.ends_are; in_run = c.in_run; later = c.later; low = c.low; up = c.up; own = c.own; puts = c.puts })

pub each_step : (o : Opening) (n : ℕ) (told next : Told) (world : PacketWorld) (occasion : Occasion) (ends : Ends) (free : ℕ) (put : List Packet)
    → MayStep o n told next world occasion ends free put → HasStepped o n told next world occasion ends free put
each_step o n told next world (occasions.Command line) ends free put c = step_alone o n told next world (occasions.Command line) ends free put c refl
each_step o n told next world occasions.Queues ends free put c = step_alone o n told next world occasions.Queues ends free put c refl
each_step o n told next world occasions.Clock ends free put c = step_ticking o n told next world ends free put c
each_step o n told next world (occasions.Message packet) ends free put c = step_alone o n told next world (occasions.Message packet) ends free put c refl
each_step o n told next world (occasions.Restarted packet known) ends free put c = step_alone o n told next world (occasions.Restarted packet known) ends free put c refl
