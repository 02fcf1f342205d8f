-- A whole step of a cell goes on in the world: the node is up there as it is then.
use Rattle.std.proofs.Common.{◌≡◌, ◌∙◌, ap, subst, sym, ℕ, ◌≤◌, List, None}
use Rattle.qs_cell.specs.declared.running.Running.{Running}
use Rattle.qs_cell_chronicle.specs.Carried.{Seen}
use Rattle.qs_cell_chronicle.specs.Chronicle.{Told, last_stamp, noted}
use Rattle.qs_cell_chronicle.specs.Occasions.{did_of, event_of}
use Rattle.qs_cell_chronicle.specs.declared.occasion.Occasion.{Occasion}
use Rattle.qs_cell_peers.specs.Peers.{is_peer}
use Rattle.qs_cell_peers.specs.Sessions.{SessionsValue, ends_of}
use Rattle.qs_disk.specs.Fuse.{FusedValue}
use Rattle.qs_log.specs.Log.{LogValue}
use Rattle.qs_node_host.specs.Host.{log_after, node_after}
use Rattle.qs_node_step.specs.State.{NodeValue}
use Rattle.qs_node_step.specs.declared.event.ClientAnswer.{ClientAnswer}
use Rattle.qs_record.specs.declared.record.Record.{Record}
use Rattle.qs_world.specs.Posting.{clients_after}
use Rattle.qs_world.specs.World.{Host, Opening}
use Rattle.qs_world_lawful.proofs.SameSetting.{step_same}
use Rattle.qs_world_merge.proofs.Reaches.{each_reached_up_to}
use Rattle.qs_world_merge.specs.LocalRuns.{AnswersOnly, client_at}
use Rattle.qs_world_merge.specs.Reaching.{HasReached, HasStampsUpTo}
use Rattle.qs_world_one.specs.InWorld.{host_of}
use Rattle.qs_world_packets.specs.PacketWorld.{PacketWorld}
use Rattle.qs_world_traces.specs.Sessions.{AreEnds}
use Rattle.qs_world_seats.proofs.Cells.{CellStepped, at_next, carried_on, cell_stepped, free, host_shown, low, next, out}
use Rattle.qs_world_seats.proofs.Stamps.{IsNext}
use Rattle.qs_world_seats.specs.Events.{WholeGoesOn, handed_over}
use Rattle.qs_world_seats.specs.Shown.{observed_of}

pub each_whole : {D F X : Type 0} (o : Opening) (n size : ℕ) (occasion : Occasion) (sessions : SessionsValue) (old new : Running D F X) (said : List ClientAnswer) (world : PacketWorld) → WholeGoesOn o n size occasion sessions old new said world
each_whole {D = D} o n size occasion sessions old new said world stands comes is own = record {
  world = made.new;
  reached = reached;
  shows = record {
    node = record {
      carried = carried_on n old.carried new.carried world made.new stands.shows.carried (ap (λ (t : Told). t.node) told_is ∙ at.node)
          (subst (λ (t : Told). t.stamp ≤ last_stamp) (sym told_is) (at.within stands.shows.carried.within)) is.setting (low_then.size_is ∙ sym before.size_is) made.inc;
      up = made.up;
      host = host_shown (made.new.hosts n) stamp new.host (made.host ∙ host_same);
      setting = ap (λ (x : NodeValue). x.setting) is.node ∙ (step_same old.host.node (event_of occasion) (free_of_old) ∙ (stands.shows.setting ∙ sym is.setting));
      size = made.size_is ∙ sym low_then.size_is;
      me = made.me;
      ends = subst (λ (k : ℕ). AreEnds (is_peer k n) n made.new.network (ends_of new.sessions)) (sym low_then.size_is) made.ends_then;
    };
    clients_are = λ k. subst (λ (l : List ClientAnswer). made.new.clients k ≡ clients_after l (handed_over occasion world.clients) k) (sym is.answers) (made.clients k);
  };
}
  where
    at : IsNext old.carried.chronicle.told (next o n size occasion sessions old world stands)
    at = at_next o n size occasion sessions old world stands

    before : HasStampsUpTo o.size n old.carried.chronicle.told.stamp world
    before = low o n size occasion sessions old world stands

    free_of_old : ℕ
    free_of_old = free o n size occasion sessions old world stands

    stamp : ℕ
    stamp = (next o n size occasion sessions old world stands).stamp

    made : CellStepped o n size occasion sessions old world stands comes is.unplanned is.put new.sessions
    made = cell_stepped o n size occasion sessions old world stands comes is.unplanned is.put new.sessions is.sent (subst (λ (l : List ClientAnswer). AnswersOnly (client_at o) n l) is.answers own)

    told_is : new.carried.chronicle.told ≡ noted (did_of occasion) is.put (out o n size occasion sessions old world stands).entries None (next o n size occasion sessions old world stands)
    told_is = ap (λ (s : Seen). s.told) is.seen

    reached : HasReached o n (observed_of new.carried.chronicle.told) new.carried.chronicle.told.stamp made.new
    reached = subst (λ (t : Told). HasReached o n (observed_of t) t.stamp made.new) (sym told_is) made.reached

    low_then : HasStampsUpTo o.size n new.carried.chronicle.told.stamp made.new
    low_then = each_reached_up_to o n (observed_of new.carried.chronicle.told) new.carried.chronicle.told.stamp made.new reached

    host_with : NodeValue → List Record → List Record → Host
    host_with x log waiting = record { node = x; log = log; waiting = waiting; stamp = stamp }

    host_same : host_of stamp (record { node = node_after size old.host (event_of occasion); log = log_after (out o n size occasion sessions old world stands) old.host.log }) ≡ host_of stamp new.host
    host_same =
        ap (λ (x : NodeValue). host_with x (log_after (out o n size occasion sessions old world stands) old.host.log).forced (log_after (out o n size occasion sessions old world stands) old.host.log).waiting) (sym is.node)
        ∙ (ap (λ (l : List Record). host_with new.host.node l (log_after (out o n size occasion sessions old world stands) old.host.log).waiting) (sym (ap (λ (l : LogValue (FusedValue D)). l.forced) is.log))
        ∙ ap (λ (l : List Record). host_with new.host.node new.host.log.forced l) (sym (ap (λ (l : LogValue (FusedValue D)). l.waiting) is.log)))
