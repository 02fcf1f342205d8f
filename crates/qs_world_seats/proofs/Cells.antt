-- An event of a cell that shows in a world: what it makes of the node is a step there.
use Rattle.std.proofs.Common.{◌≡◌, ◌∙◌, ap, refl, subst, sym, ℕ, ◌≤◌, ◌<◌, Bool, true, List, [], ◌++◌, None, Some, map, if◌then◌else◌}
use Rattle.std.specs.List.{filter}
use Rattle.qs_cell.specs.Cell.{IsSent, IsUnplanned, begun, is_forestalled, may_make, out_of, ticks}
use Rattle.qs_cell.specs.declared.running.Running.{Running}
use Rattle.qs_cell_chronicle.specs.Carried.{is_replaced, seen}
use Rattle.qs_cell_chronicle.specs.Chronicle.{Told, counted, is_last_past, last_stamp, noted}
use Rattle.qs_cell_chronicle.specs.Occasions.{did_of, event_of, stamp_in}
use Rattle.qs_cell_chronicle.specs.declared.carried.Carried.{Carried}
use Rattle.qs_cell_chronicle.specs.declared.occasion.Occasion.{Occasion}
use Rattle.qs_cell_chronicle.specs.declared.occasion.Occasion.TheVariants as occasions
use Rattle.qs_cell_peers.specs.Peers.{is_peer, is_to}
use Rattle.qs_cell_peers.specs.Sessions.{Ends, SessionsValue, all_sent, ends_of, sent_to}
use Rattle.qs_cell_peers.specs.Steps.{Sends}
use Rattle.qs_cell_peers.specs.Ticks.{all_ticked, tick_to}
use Rattle.qs_node_host.specs.Host.{HostValue, free_of, log_after, node_after}
use Rattle.qs_node_step.specs.State.{NodeValue}
use Rattle.qs_node_step.specs.Step.{after_step, effects_of}
use Rattle.qs_node_step.specs.declared.event.Effects.{Effects}
use Rattle.qs_node_step.specs.declared.event.Sending.{Sending}
use Rattle.qs_node_step.specs.declared.setting.Setting.{Setting}
use Rattle.qs_packet.specs.declared.packet.Packet.{Packet}
use Rattle.qs_world.specs.Moves.{node_no, stepped_host}
use Rattle.qs_world.specs.Posting.{clients_after}
use Rattle.qs_world.specs.World.{Host, Opening}
use Rattle.qs_world_merge.proofs.Reaches.{each_reached_up_to}
use Rattle.qs_world_merge.specs.LocalRuns.{AnswersOnly, client_at}
use Rattle.qs_world_merge.specs.Reaching.{HasReached, HasStampsUpTo}
use Rattle.qs_world_merge.specs.StepMoves as step_moves
use Rattle.qs_world_one.proofs.AsHost.{stepped as stepped_as_host}
use Rattle.qs_world_one.specs.InWorld.{host_of}
use Rattle.qs_world_packets.specs.PacketMoves.{event_of as world_event, may_serve}
use Rattle.qs_world_packets.specs.PacketWorld.{PacketWorld}
use Rattle.qs_world_traces.specs.Sessions.{AreEnds}
use Rattle.qs_world_seats.proofs.Sources.{IsIn, is_in, same_sessions, source_of}
use Rattle.qs_world_seats.proofs.Stamps.{IsAbove, IsNext, may_be_made, next_begun, not_last, rises}
use Rattle.qs_world_seats.proofs.Stepping.{HasStepped, MayStep, each_step}
use Rattle.qs_world_seats.specs.Events.{Comes, StandsAt, handed_over, with_sessions}
use Rattle.qs_world_seats.specs.Shown.{ShowsCarried, observed_of}

-- ---- a node's host, with the stamp that it has there

pub host_shown : {D : Type 0} (h : Host) (stamp : ℕ) (host : HostValue D) → h ≡ host_of stamp host → h ≡ host_of h.stamp host
host_shown h stamp host e = e ∙ ap (λ (k : ℕ). host_of k host) (sym (ap (λ (x : Host). x.stamp) e))

-- what is carried is still that of the node
pub carried_on : (n : ℕ) (old new : Carried) (world next : PacketWorld) → ShowsCarried n old world → new.chronicle.told.node ≡ old.chronicle.told.node → new.chronicle.told.stamp ≤ last_stamp → new.setting ≡ old.setting
    → next.size ≡ world.size → next.network.inc n ≡ world.network.inc n → ShowsCarried n new next
carried_on n old new world next shows told_of within setting size inc = record {
  in_run = subst (λ (k : ℕ). n < k) (sym size) shows.in_run;
  told_of = told_of ∙ shows.told_of;
  within = within;
  nodes = ap (λ (s : Setting). s.nodes) setting ∙ (shows.nodes ∙ sym size);
  node = ap (λ (s : Setting). s.node) setting ∙ shows.node;
  inc = inc ∙ (shows.inc ∙ sym (ap (λ (s : Setting). s.inc) setting));
}

-- ---- what goes over the sessions of node n

pub record SendsOf (ticks : Bool) (stamp : ℕ) (sendings : List Sending) (size n : ℕ) (ends : Ends) (put : List Packet) (new : SessionsValue) : Type 0 where
  pub size_is : new.size ≡ size
  pub me : new.me ≡ node_no n
  pub ends_are : (m : ℕ) → is_peer size n m ≡ true → ends_of new m ≡ (if ticks then all_ticked size n (all_sent (is_peer size n) ends sendings) else all_sent (is_peer size n) ends sendings) m
  pub packets : (m : ℕ) → is_peer size n m ≡ true
      → map step_moves.seen (filter (is_to m) put) ≡ sent_to (is_peer size n) stamp m ends sendings ++ (if ticks then tick_to size n stamp m (all_sent (is_peer size n) ends sendings) else [])

sends_of : (ticks : Bool) (stamp : ℕ) (sendings : List Sending) (size n : ℕ) (old : SessionsValue) (put : List Packet) (new : SessionsValue) → old.size ≡ size → old.me ≡ node_no n
    → Sends ticks stamp sendings old put new → SendsOf ticks stamp sendings size n (ends_of old) put new
sends_of ticks stamp sendings size n old put new size_is me sends =
    subst (λ (s : SessionsValue). Sends ticks stamp sendings s put new → SendsOf ticks stamp sendings size n (ends_of s) put new) (sym (same_sessions old size n size_is me)) of_node sends
  where
    its : SessionsValue
    its = record { size = size; me = node_no n; sessions = old.sessions }

    of_node : Sends ticks stamp sendings its put new → SendsOf ticks stamp sendings size n (ends_of its) put new
    of_node is = record { size_is = is.ends.size; me = is.ends.me; ends_are = is.ends.ends_are; packets = is.packets }

-- ---- an event

-- the cell tests what the world asks of a step
serves_as : (occasion : Occasion) (node : NodeValue) → may_serve node (source_of occasion) ≡ may_make node occasion
serves_as (occasions.Command line) node = refl
serves_as occasions.Queues node = refl
serves_as occasions.Clock node = refl
serves_as (occasions.Message packet) node = refl
serves_as (occasions.Restarted packet known) node = refl

module _ {D F X : Type 0} (o : Opening) (n size : ℕ) (occasion : Occasion) (sessions : SessionsValue) (old : Running D F X) (world : PacketWorld) (stands : StandsAt o n old world) where
  abbrev pub told : Told
  told = old.carried.chronicle.told

  abbrev pub next : Told
  next = begun occasion told

  abbrev pub free : ℕ
  free = free_of size old.host

  abbrev pub out : Effects
  out = out_of size occasion old

  pub at_next : IsNext told next
  at_next = next_begun (stamp_in occasion) told

  pub low : HasStampsUpTo o.size n told.stamp world
  low = each_reached_up_to o n (observed_of told) told.stamp world stands.reached

  pub in_run : n < o.size
  in_run = subst (λ (k : ℕ). n < k) low.size_is stands.shows.carried.in_run

  pub node_is : (world.hosts n).node ≡ old.host.node
  node_is = ap (λ (h : Host). h.node) stands.shows.host

  pub out_is : effects_of (world.hosts n).node (event_of occasion) free ≡ out
  out_is = ap (λ (x : NodeValue). effects_of x (event_of occasion) free) node_is

  pub ends_are : AreEnds (is_peer o.size n) n world.network (ends_of old.sessions)
  ends_are = subst (λ (k : ℕ). AreEnds (is_peer k n) n world.network (ends_of old.sessions)) low.size_is stands.shows.ends

  -- it comes, and no crash is to stand in place of it
  module _ (comes : Comes n occasion old.sessions sessions world) (unplanned : IsUnplanned size occasion (with_sessions sessions old)) where
    pub it : IsIn o.size n occasion world sessions
    it = is_in o.size n world old.sessions sessions (stands.shows.size ∙ low.size_is) stands.shows.me ends_are occasion comes

    pub above : IsAbove told.stamp (stamp_in occasion) next.stamp
    above = rises (stamp_in occasion) told
        (not_last (may_make old.host.node occasion) (is_forestalled size occasion (with_sessions sessions old)) (is_last_past (stamp_in occasion) told) (is_replaced (counted told.events) old.carried.crashes) unplanned)

    pub event_is : world_event world n next.stamp (source_of occasion) ≡ Some (event_of occasion)
    event_is = it.comes next.stamp above.past

    pub serves : may_serve (world.hosts n).node (source_of occasion) ≡ true
    serves = ap (λ (x : NodeValue). may_serve x (source_of occasion)) node_is
        ∙ (serves_as occasion old.host.node
        ∙ may_be_made (may_make old.host.node occasion) (is_forestalled size occasion (with_sessions sessions old)) (is_last_past (stamp_in occasion) told) (is_replaced (counted told.events) old.carried.crashes) unplanned)

    -- the node has made the step, and its sessions have sent
    pub record CellStepped (put : List Packet) (left : SessionsValue) : Type 0 where
      pub new : PacketWorld
      pub reached : HasReached o n (observed_of (noted (did_of occasion) put out.entries None next)) next.stamp new
      pub size_is : left.size ≡ o.size
      pub me : left.me ≡ node_no n
      pub ends_then : AreEnds (is_peer o.size n) n new.network (ends_of left)
      pub host : new.hosts n ≡ host_of next.stamp (record { node = node_after size old.host (event_of occasion); log = log_after out old.host.log })
      pub up : new.network.up n ≡ true
      pub inc : new.network.inc n ≡ world.network.inc n
      pub clients : (k : ℕ) → new.clients k ≡ clients_after out.answers (handed_over occasion world.clients) k

    module _ (put : List Packet) (left : SessionsValue) (sent : IsSent size occasion (with_sessions sessions old) put left) (own : AnswersOnly (client_at o) n out.answers) where
      sends : SendsOf (ticks occasion) next.stamp out.messages o.size n (ends_of sessions) put left
      sends = sends_of (ticks occasion) next.stamp out.messages o.size n sessions put left it.size_is it.me sent

      may : MayStep o n told next world occasion (ends_of sessions) free put
      may = record {
        reached = stands.reached;
        at_next = at_next;
        node = stands.shows.carried.told_of;
        in_run = in_run;
        later = above.later;
        low = above.low;
        up = stands.shows.up;
        comes = event_is;
        of_peer = it.of_peer;
        ends_are = it.ends;
        serves = serves;
        own = subst (λ (e : Effects). AnswersOnly (client_at o) n e.answers) (sym out_is) own;
        puts = subst (λ (e : Effects). (m : ℕ) → is_peer o.size n m ≡ true → map step_moves.seen (filter (is_to m) put)
            ≡ sent_to (is_peer o.size n) next.stamp m (ends_of sessions) e.messages ++ (if ticks occasion then tick_to o.size n next.stamp m (all_sent (is_peer o.size n) (ends_of sessions) e.messages) else []))
            (sym out_is) sends.packets;
      }

      done : HasStepped o n told next world occasion (ends_of sessions) free put
      done = each_step o n told next world occasion (ends_of sessions) free put may

      ends_done : AreEnds (is_peer o.size n) n done.new.network
          (if ticks occasion then all_ticked o.size n (all_sent (is_peer o.size n) (ends_of sessions) out.messages) else all_sent (is_peer o.size n) (ends_of sessions) out.messages)
      ends_done = subst (λ (e : Effects). AreEnds (is_peer o.size n) n done.new.network
          (if ticks occasion then all_ticked o.size n (all_sent (is_peer o.size n) (ends_of sessions) e.messages) else all_sent (is_peer o.size n) (ends_of sessions) e.messages)) out_is done.ends_are

      host_done : stepped_host next.stamp (after_step (world.hosts n).node (event_of occasion) free) (effects_of (world.hosts n).node (event_of occasion) free) (world.hosts n)
          ≡ host_of next.stamp (record { node = node_after size old.host (event_of occasion); log = log_after out old.host.log })
      host_done = ap (λ (h : Host). stepped_host next.stamp (after_step h.node (event_of occasion) free) (effects_of h.node (event_of occasion) free) h) stands.shows.host
          ∙ sym (stepped_as_host (world.hosts n).stamp next.stamp old.host (node_after size old.host (event_of occasion)) out)

      pub cell_stepped : CellStepped put left
      cell_stepped = record {
        new = done.new;
        reached = subst (λ (e : Effects). HasReached o n (observed_of (noted (did_of occasion) put e.entries None next)) next.stamp done.new) out_is done.reached;
        size_is = sends.size_is;
        me = sends.me;
        ends_then = λ m peer. sends.ends_are m peer ∙ ends_done m peer;
        host = done.host ∙ host_done;
        up = done.up;
        inc = done.inc;
        clients = subst (λ (e : Effects). (k : ℕ) → done.new.clients k ≡ clients_after e.answers (handed_over occasion world.clients) k) out_is done.clients;
      }
