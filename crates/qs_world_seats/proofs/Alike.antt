-- Nothing happens in the world as room is made for a crash, and as a visit begins: a cell of which the same is seen, but for its counts, shows there as before.
use Rattle.std.proofs.Common.{◌≡◌, ◌∙◌, ap, refl, subst, sym, ℕ, ◌≤◌, List, Option, Some, None}
use Rattle.qs_book_journal.specs.declared.entry.Entry.{Entry}
use Rattle.qs_book_laws.proofs.Rising.{IsRising}
use Rattle.qs_cell.specs.Restart.{in_round_as, inc_of}
use Rattle.qs_cell.specs.State.{IsSeenAs, Up}
use Rattle.qs_cell.specs.declared.state.CellState.{CellState}
use Rattle.qs_cell.specs.declared.state.CellState.TheVariants as states
use Rattle.qs_cell.specs.declared.stopped.Stopped.{Stopped}
use Rattle.qs_cell_chronicle.specs.Carried.{Commands, Seen, seen}
use Rattle.qs_cell_chronicle.specs.Chronicle.{last_stamp}
use Rattle.qs_cell_chronicle.specs.declared.carried.Carried.{Carried}
use Rattle.qs_cell_peers.specs.Peers.{is_peer}
use Rattle.qs_cell_peers.specs.Sessions.{SessionsValue, ends_of}
use Rattle.qs_client.specs.declared.cell.ClientCell.{ClientCell}
use Rattle.qs_disk.specs.Disk.{DiskState, EachImage}
use Rattle.qs_disk.specs.Fuse.{FusedValue}
use Rattle.qs_link.specs.declared.ends.NodeEnds.{NodeEnds}
use Rattle.qs_log.specs.Log.{Stands}
use Rattle.qs_log_start.specs.Incarnation.{HasOneOf}
use Rattle.qs_node_host.specs.Host.{HostValue}
use Rattle.qs_node_step.specs.State.{client_cmp}
use Rattle.qs_node_step.specs.declared.setting.Setting.{Setting}
use Rattle.qs_node_step.specs.declared.trace.Step as trace
use Rattle.qs_record.specs.declared.record.Record.{Record}
use Rattle.qs_world.specs.World.{Client, Opening}
use Rattle.qs_world_merge.specs.Reaching.{HasReached}
use Rattle.qs_world_one.specs.InWorld.{host_of}
use Rattle.qs_world_one.specs.Showing.{IsInHand}
use Rattle.qs_world_packets.specs.PacketWorld.{PacketWorld}
use Rattle.qs_world_traces.specs.Links.{observed_by}
use Rattle.qs_world_traces.specs.Sessions.{AreEnds}
use Rattle.qs_world_seats.specs.Reached.{IsInOrPast, IsInWorld}
use Rattle.qs_world_seats.specs.Seats.{AreOfNode, AreSeated, SeatDown, SeatUp}
use Rattle.qs_world_seats.specs.Shown.{Reaches, ShowsCarried, ShowsDown, observed_of}
use Rattle.qs_world_seats.specs.Visiting.{RoomGoesOn, VisitBegins}

-- the same is told, and the same is in hand
pub record IsAlike (old new : Seen) : Type 0 where
  pub node : new.told.node ≡ old.told.node
  pub stamp : new.told.stamp ≡ old.told.stamp
  pub journal : new.told.journal ≡ old.told.journal
  pub trace : new.told.trace ≡ old.told.trace
  pub commands : new.commands ≡ old.commands

module _ (o : Opening) (n : ℕ) (old new : Carried) (alike : IsAlike (seen old) (seen new)) (setting : new.setting ≡ old.setting) where
  pub reached_alike : (world : PacketWorld) → HasReached o n (observed_of old.chronicle.told) old.chronicle.told.stamp world → HasReached o n (observed_of new.chronicle.told) new.chronicle.told.stamp world
  reached_alike world r = subst (λ (s : ℕ). HasReached o n (observed_of new.chronicle.told) s world) (sym alike.stamp)
      (subst (λ (es : List Entry). HasReached o n (observed_by es new.chronicle.told.trace) old.chronicle.told.stamp world) (sym alike.journal)
      (subst (λ (steps : List trace.Step). HasReached o n (observed_by old.chronicle.told.journal steps) old.chronicle.told.stamp world) (sym alike.trace) r))

  carried_alike : (world : PacketWorld) → ShowsCarried n old world → ShowsCarried n new world
  carried_alike world s = record {
    in_run = s.in_run;
    told_of = alike.node ∙ s.told_of;
    within = subst (λ (k : ℕ). k ≤ last_stamp) (sym alike.stamp) s.within;
    nodes = ap (λ (x : Setting). x.nodes) setting ∙ s.nodes;
    node = ap (λ (x : Setting). x.node) setting ∙ s.node;
    inc = s.inc ∙ sym (ap (λ (x : Setting). x.inc) setting);
  }

  each_alike : (up : ℕ → Option ℕ) (ends : List NodeEnds) (shown : ℕ → Client) (clients : List ClientCell) → AreSeated o n old.setting.inc (up old.setting.inc) old.commands ends shown clients
      → AreSeated o n new.setting.inc (up new.setting.inc) new.commands ends shown clients
  each_alike up ends shown clients each = subst (λ (s : Setting). AreSeated o n s.inc (up s.inc) new.commands ends shown clients) (sym setting)
      (subst (λ (c : Commands). AreSeated o n old.setting.inc (up old.setting.inc) c ends shown clients) (sym alike.commands) each)

pub shows_down : {D : Type 0} (o : Opening) (n : ℕ) (old new : Stopped D) (world : PacketWorld) (log : List Record) → new.kept ≡ old.kept → IsAlike (seen old.carried) (seen new.carried) → new.carried.setting ≡ old.carried.setting
    → ShowsDown n old log world → ShowsDown n new log world
shows_down o n old new world log kept alike setting node = record {
  carried = carried_alike o n old.carried new.carried alike setting world node.carried;
  down = node.down;
  setting = node.setting ∙ sym setting;
  kept = node.kept ∙ sym kept;
  log_is = node.log_is;
  none = node.none;
}

module _ {D : Type 0} (told : Type 0) (state : D → DiskState) (o : Opening) (n : ℕ) (ends : List NodeEnds) (clients : List ClientCell) where
  seat_up : (old new : Up D) (world : PacketWorld) → new.host ≡ old.host → new.sessions ≡ old.sessions → IsAlike (seen old.carried) (seen new.carried) → new.carried.setting ≡ old.carried.setting → SeatUp o n old ends clients world → SeatUp o n new ends clients world
  seat_up old new world host sessions alike setting seat = record {
    node = record {
      carried = carried_alike o n old.carried new.carried alike setting world seat.node.carried;
      up = seat.node.up;
      host = seat.node.host ∙ ap (λ (h : HostValue (FusedValue D)). host_of (world.hosts n).stamp h) (sym host);
      setting = ap (λ (h : HostValue (FusedValue D)). h.node.setting) host ∙ (seat.node.setting ∙ sym setting);
      size = ap (λ (s : SessionsValue). s.size) sessions ∙ seat.node.size;
      me = ap (λ (s : SessionsValue). s.me) sessions ∙ seat.node.me;
      ends = subst (λ (s : SessionsValue). AreEnds (is_peer world.size n) n world.network (ends_of s)) (sym sessions) seat.node.ends;
    };
    rising = subst (λ (c : Commands). IsRising client_cmp c) (sym alike.commands) seat.rising;
    own = subst (λ (c : Commands). AreOfNode o n c) (sym alike.commands) seat.own;
    held = subst (λ (h : HostValue (FusedValue D)). IsInHand h.node.commands new.carried.commands) (sym host) (subst (λ (c : Commands). IsInHand old.host.node.commands c) (sym alike.commands) seat.held);
    each = each_alike o n old.carried new.carried alike setting (λ inc. Some inc) ends world.clients clients seat.each;
  }

  seat_down : (old new : Stopped D) (world : PacketWorld) (log : List Record) → new.kept ≡ old.kept → IsAlike (seen old.carried) (seen new.carried) → new.carried.setting ≡ old.carried.setting → SeatDown o n old ends clients log world → SeatDown o n new ends clients log world
  seat_down old new world log kept alike setting seat = record {
    node = shows_down o n old new world log kept alike setting seat.node;
    rising = subst (λ (c : Commands). IsRising client_cmp c) (sym alike.commands) seat.rising;
    own = subst (λ (c : Commands). AreOfNode o n c) (sym alike.commands) seat.own;
    each = each_alike o n old.carried new.carried alike setting (λ inc. None) ends world.clients clients seat.each;
  }

  down_alike : (old new : Stopped D) (log : List Record) → new.kept ≡ old.kept → IsAlike (seen old.carried) (seen new.carried) → new.carried.setting ≡ old.carried.setting
      → Reaches o n old.carried.chronicle.told (SeatDown o n old ends clients log) → Reaches o n new.carried.chronicle.told (SeatDown o n new ends clients log)
  down_alike old new log kept alike setting r =
      record { world = r.world; reached = reached_alike o n old.carried new.carried alike setting r.world r.reached; shows = seat_down old new r.world log kept alike setting r.shows }

  module _ (f : Seen → Seen) (same : (s : Seen) → IsAlike s (f s)) where
    as_seen : (s new : Seen) → new ≡ f s → IsAlike s new
    as_seen s new e = subst (IsAlike s) (sym e) (same s)

    pub seen_as : (old new : CellState D) → IsSeenAs f old new → IsInWorld told state o n old ends clients → IsInWorld told state o n new ends clients
    seen_as (states.Up old) (states.Up new) ((host, sessions), (seen_is, setting)) was =
        let alike : IsAlike (seen old.carried) (seen new.carried) = as_seen (seen old.carried) (seen new.carried) seen_is in
        record {
          reached = record { world = was.reached.world; reached = reached_alike o n old.carried new.carried alike setting was.reached.world was.reached.reached; shows = seat_up old new was.reached.world host sessions alike setting was.reached.shows };
          inc = ap (λ (h : HostValue (FusedValue D)). inc_of h.log) host ∙ (was.inc ∙ sym (ap (λ (s : Setting). s.inc) setting));
          stands = λ t. subst (λ (h : HostValue (FusedValue D)). Stands h.log (state h.log.disk.disk)) (sym host) (was.stands t);
        }
    seen_as (states.Down old) (states.Down new) (disk, (kept, (causes, (seen_is, setting)))) was =
        let alike : IsAlike (seen old.carried) (seen new.carried) = as_seen (seen old.carried) (seen new.carried) seen_is in
        record {
          first = was.first;
          other = was.other;
          to_first = down_alike old new was.first kept alike setting was.to_first;
          to_other = down_alike old new was.other kept alike setting was.to_other;
          images = λ t. subst (λ (d : FusedValue D). EachImage (HasOneOf was.first was.other) (state d.disk).now) (sym disk) (was.images t);
          incs = λ t. subst (λ (s : Setting). EachImage (IsInOrPast s.inc) (state new.disk.disk).now) (sym setting)
              (subst (λ (d : FusedValue D). EachImage (IsInOrPast old.carried.setting.inc) (state d.disk).now) (sym disk) (was.incs t));
        }
    seen_as (states.Up old) (states.Down new) is was = absurd is
    seen_as (states.Down old) (states.Up new) is was = absurd is

pub each_room : {D : Type 0} (told : Type 0) (state : D → DiskState) (o : Opening) (n : ℕ) (old ready : CellState D) (ends : List NodeEnds) (clients : List ClientCell) → RoomGoesOn told state o n old ready ends clients
each_room told state o n old ready ends clients is was = seen_as told state o n ends clients (λ s. s) (λ s. record { node = refl; stamp = refl; journal = refl; trace = refl; commands = refl }) old ready is was

pub each_visit_begins : {D : Type 0} (told : Type 0) (state : D → DiskState) (o : Opening) (n : ℕ) (old begun : CellState D) (ends : List NodeEnds) (clients : List ClientCell) → VisitBegins told state o n old begun ends clients
each_visit_begins told state o n old begun ends clients is was =
    seen_as told state o n ends clients in_round_as (λ s. record { node = refl; stamp = refl; journal = refl; trace = refl; commands = refl }) old begun is was
