-- How a cell among others begins in the world, begins again, and stays down.
use Rattle.std.proofs.Common.{◌≡◌, ◌∙◌, ap, refl, subst, sym, ℕ, ◌≤◌, ◌<◌, Bool, true, List, [], ◌∷◌, ◌++◌, None, map, append-nil, if◌then◌else◌}
use Rattle.std.proofs.lemmas.Bool.{lt-ltb}
use Rattle.std.specs.Global.{Global}
use Rattle.qs_base_lemmas.proofs.Tests.{zero_le}
use Rattle.qs_book_journal.specs.declared.entry.Act.{Act}
use Rattle.qs_book_journal.specs.declared.entry.Act.TheVariants as acts
use Rattle.qs_book_journal.specs.declared.entry.Found.{Found}
use Rattle.qs_book_journal.specs.declared.script_line.Point.{Point}
use Rattle.qs_cell.specs.Restart.{found_in, found_of, inc_of, restart_of}
use Rattle.qs_cell.specs.Starts.{setting_in}
use Rattle.qs_cell.specs.State.{Up}
use Rattle.qs_cell.specs.declared.running.Running.{Running}
use Rattle.qs_cell.specs.declared.stopped.Stopped.{Stopped}
use Rattle.qs_cell_chronicle.specs.Carried.{Seen}
use Rattle.qs_cell_chronicle.specs.Chronicle.{Told, in_round, last_stamp, new_told, noted, stamped}
use Rattle.qs_cell_peers.proofs.Places.{peer_is}
use Rattle.qs_cell_peers.specs.Peers.{is_peer}
use Rattle.qs_disk.specs.Fuse.{FusedValue}
use Rattle.qs_log.specs.Log.{LogValue}
use Rattle.qs_node_host.specs.Host.{HostValue}
use Rattle.qs_node_kept.specs.declared.kept.Kept.{Kept}
use Rattle.qs_node_step.specs.Opening.{opened_node, recovered_of}
use Rattle.qs_node_step.specs.State.{NodeValue}
use Rattle.qs_node_step.specs.declared.setting.Setting.{Setting}
use Rattle.qs_node_step.specs.declared.trace.Did.TheVariants as dids
use Rattle.qs_packet.specs.declared.message.Message.{Message}
use Rattle.qs_record.specs.declared.record.Record.{Record}
use Rattle.qs_restart.specs.declared.recovered.OpenVote.{OpenVote}
use Rattle.qs_restart.specs.declared.recovered.Recovered.{Recovered}
use Rattle.qs_session_channels.specs.End.{End, fresh}
use Rattle.qs_world.specs.Moves as moves
use Rattle.qs_world.specs.Moves.{node_no, risen_host}
use Rattle.qs_world.specs.Posting.{entries_of}
use Rattle.qs_world.specs.World as world_of
use Rattle.qs_world.specs.World.{Host, Opening, Parcel}
use Rattle.qs_world_merge.proofs.MayMoves.{may_rises}
use Rattle.qs_world_merge.proofs.NetworkSame.{at_place}
use Rattle.qs_world_merge.proofs.Reaches.{each_begins as begins_there, each_reached_up_to}
use Rattle.qs_world_merge.specs.LocalRuns.{MayLocally, client_at}
use Rattle.qs_world_merge.specs.Reaching.{HasReached, HasStampsUpTo}
use Rattle.qs_world_merge.specs.StepMoves.{seen}
use Rattle.qs_world_one.proofs.AsHost as as_host
use Rattle.qs_world_one.specs.InWorld.{host_of}
use Rattle.qs_world_packets.proofs.SessionsPlain.{is_plain}
use Rattle.qs_world_packets.specs.PacketMoves.{Rise, moved}
use Rattle.qs_world_packets.specs.PacketSessions.{plain_end}
use Rattle.qs_world_packets.specs.PacketWorld as packet_world
use Rattle.qs_world_packets.specs.PacketWorld.{PacketWorld, start}
use Rattle.qs_world_traces.specs.Links.{put_to}
use Rattle.qs_world_seats.proofs.Cells.{host_shown}
use Rattle.qs_world_seats.proofs.Making.{makes, none_put}
use Rattle.qs_world_seats.proofs.Stamps.{IsNext, below_limit, next_round}
use Rattle.qs_world_seats.specs.Beginnings.{CellBegins, CellRises, CellStaysDown}
use Rattle.qs_world_seats.specs.Shown.{observed_of}

pub each_begins : {D : Type 0} (o : Opening) (n : ℕ) (alloc : Global) (given : Setting) (crashes : List ℕ) (points : List Point) (log : LogValue (FusedValue D)) (new : Up D) → CellBegins o n alloc given crashes points log new
each_begins {D = D} o n alloc given crashes points log new is none opens = record {
  world = start o;
  reached = subst (λ (t : Told). HasReached o n (observed_of t) t.stamp (start o)) (sym told_is) (begins_there o n);
  shows = record {
    node = record {
      carried = record {
        in_run = opens.in_run;
        told_of = ap (λ (t : Told). t.node) told_is ∙ opens.node;
        within = subst (λ (t : Told). t.stamp ≤ last_stamp) (sym told_is) (zero_le last_stamp);
        nodes = ap (λ (s : Setting). s.nodes) is.setting ∙ opens.nodes;
        node = ap (λ (s : Setting). s.node) is.setting ∙ opens.node;
        inc = ap (λ (s : Setting). s.inc) (setting_there ∙ sym is.setting);
      };
      up = refl;
      host = host_shown ((start o).hosts n) 0 new.host (began ∙ (sym (as_host.begins alloc setting log none) ∙ ap (λ (h : HostValue (FusedValue D)). host_of 0 h) (sym is.host)));
      setting = ap (λ (h : HostValue (FusedValue D)). h.node.setting) is.host ∙ sym is.setting;
      size = is.sessions.size ∙ (ap (λ (s : Setting). s.nodes) is.setting ∙ opens.nodes);
      me = me;
      ends = λ m peer. is.sessions.fresh m (peer_there m peer) ∙ (ap (λ (s : Setting). fresh {M = Message} s.inc) (is.setting ∙ sym setting_there) ∙ is_plain.opens (packet_world.setting_in o n).inc);
    };
    clients_are = λ k. refl;
  };
}
  where
    setting : Setting
    setting = setting_in log given

    told_is : new.carried.chronicle.told ≡ new_told given.node
    told_is = ap (λ (s : Seen). s.told) is.seen

    setting_there : packet_world.setting_in o n ≡ setting
    setting_there = ap (λ (b : Bool). if b then o.settings n else record (o.settings n) { inc = 1 }) (lt-ltb n o.size opens.in_run) ∙ opens.setting_is

    began : world_of.opened_host o.alloc (packet_world.setting_in o n) (o.logs n) ≡ world_of.opened_host alloc setting log.forced
    began = ap (λ (a : Global). world_of.opened_host a (packet_world.setting_in o n) (o.logs n)) opens.alloc_is
        ∙ (ap (λ (s : Setting). world_of.opened_host alloc s (o.logs n)) setting_there ∙ ap (λ (l : List Record). world_of.opened_host alloc setting l) opens.log_is)

    me : new.sessions.me ≡ node_no n
    me = is.sessions.me ∙ (ap (λ (s : Setting). s.node) is.setting ∙ opens.node)

    size_there : new.sessions.size ≡ o.size
    size_there = is.sessions.size ∙ (ap (λ (s : Setting). s.nodes) is.setting ∙ opens.nodes)

    peer_there : (m : ℕ) → is_peer o.size n m ≡ true → is_peer new.sessions.size new.sessions.me.0 m ≡ true
    peer_there m peer = rw (size_there, me) peer

pub each_rises : {D F X : Type 0} (o : Opening) (n : ℕ) (alloc : Global) (old : Stopped D) (new : Running D F X) (world : PacketWorld) → CellRises o n alloc old new world
each_rises o n alloc old new world is none later reached shows = record {
  world = after;
  reached = subst (λ (t : Told). HasReached o n (observed_of t) t.stamp after) (sym told_is) reached_then;
  shows = record {
    node = record {
      carried = record {
        in_run = shows.carried.in_run;
        told_of = ap (λ (t : Told). t.node) told_is ∙ (at_next.node ∙ shows.carried.told_of);
        within = subst (λ (t : Told). t.stamp ≤ last_stamp) (sym told_is) (at_next.within shows.carried.within);
        nodes = ap (λ (s : Setting). s.nodes) is.setting ∙ shows.carried.nodes;
        node = ap (λ (s : Setting). s.node) is.setting ∙ shows.carried.node;
        inc = at_place world.network.inc n inc ∙ sym (ap (λ (s : Setting). s.inc) is.setting);
      };
      up = at_place world.network.up n true;
      host = host_shown (after.hosts n) stamp new.host (at_place world.hosts n (risen_host stamp inc (recovered_of before.log) before) ∙ host_is);
      setting = ap (λ (x : NodeValue). x.setting) is.node;
      size = size_there;
      me = me;
      ends = λ m peer. is.sessions.fresh m (peer_there m peer) ∙ (ap (λ (s : Setting). fresh {M = Message} s.inc) is.setting ∙ (is_plain.opens inc ∙ ap plain_end (ap (λ (f : ℕ → End Parcel). f m) (sym (at_place world.network.end n (λ k. fresh inc))))));
    };
    clients_are = λ k. refl;
  };
}
  where
    told : Told
    told = old.carried.chronicle.told

    inc : ℕ
    inc = inc_of new.host.log

    next : Told
    next = stamped (in_round told)

    at_next : IsNext told next
    at_next = next_round told

    stamp : ℕ
    stamp = next.stamp

    before : Host
    before = world.hosts n

    setting : Setting
    setting = old.carried.setting

    after : PacketWorld
    after = moved (Rise n stamp inc) world

    told_is : new.carried.chronicle.told ≡ noted (dids.Restart inc) [] (restart_of inc (found_in new.host.log) ∷ []) None next
    told_is = ap (λ (s : Seen). s.told) is.seen

    low : HasStampsUpTo o.size n told.stamp world
    low = each_reached_up_to o n (observed_of told) told.stamp world reached

    me : new.sessions.me ≡ node_no n
    me = is.sessions.me ∙ (ap (λ (s : Setting). s.node) is.setting ∙ shows.carried.node)

    size_there : new.sessions.size ≡ world.size
    size_there = is.sessions.size ∙ (ap (λ (s : Setting). s.nodes) is.setting ∙ shows.carried.nodes)

    peer_there : (m : ℕ) → is_peer world.size n m ≡ true → is_peer new.sessions.size new.sessions.me.0 m ≡ true
    peer_there m peer = rw (size_there, me) peer

    -- what the log says, read from the world's host
    found_is : recovered_of before.log ≡ found_in new.host.log
    found_is = ap recovered_of (shows.log_is ∙ (sym (append-nil new.host.log.forced) ∙ ap (λ (w : List Record). new.host.log.forced ++ w) (sym none)))

    votes_are : (votes : List OpenVote) → map moves.found_of votes ≡ map found_of votes
    votes_are [] = refl
    votes_are (vote ∷ votes) = ap (λ (l : List Found). found_of vote ∷ l) (votes_are votes)

    act_is : acts.Restart inc (map moves.found_of (recovered_of before.log).votes) (recovered_of before.log).committed ≡ restart_of inc (found_in new.host.log)
    act_is =
        ap (λ (f : Recovered). acts.Restart inc (map moves.found_of f.votes) f.committed) found_is
        ∙ ap (λ (l : List Found). acts.Restart inc l (found_in new.host.log).committed) (votes_are (found_in new.host.log).votes)

    node_is : opened_node before.node.manager.alloc (record before.node.setting { inc = inc }) (found_in new.host.log) before.node.kept.saved ≡ new.host.node
    node_is =
        ap (λ (s : Setting). opened_node before.node.manager.alloc (record s { inc = inc }) (found_in new.host.log) before.node.kept.saved) shows.setting
        ∙ (ap (λ (k : Kept). opened_node before.node.manager.alloc (record setting { inc = inc }) (found_in new.host.log) k) shows.kept
        ∙ (ap (λ (s : Setting). opened_node before.node.manager.alloc s (found_in new.host.log) old.kept) (sym is.setting)
        ∙ sym is.node))

    host_is : risen_host stamp inc (recovered_of before.log) before ≡ host_of stamp new.host
    host_is =
        sym (as_host.rises stamp inc before new.host.log (sym shows.log_is) none shows.none)
        ∙ ap (λ (x : NodeValue). host_of stamp (record { node = x; log = new.host.log })) node_is

    may : MayLocally (client_at o) n told.stamp world (record { stamp = stamp; move = Rise n stamp inc; event = None })
    may = record {
      of_node = refl;
      rises = at_next.later;
      made_at = refl;
      may = may_rises o.size n told.stamp world stamp inc low (subst (λ (k : ℕ). n < k) low.size_is shows.carried.in_run) at_next.later (below_limit stamp (at_next.within shows.carried.within)) shows.down
          (subst (λ (k : ℕ). k < inc) (sym shows.carried.inc) later);
      event_is = refl;
      own = tt;
    }

    reached_then : HasReached o n (observed_of (noted (dids.Restart inc) [] (restart_of inc (found_in new.host.log) ∷ []) None next)) next.stamp after
    reached_then = makes o n told next (dids.Restart inc) [] (restart_of inc (found_in new.host.log) ∷ []) None world after (Rise n stamp inc) None (record {
      reached = reached;
      at_next = at_next;
      node = shows.carried.told_of;
      may = may;
      leads = refl;
      does = refl;
      journal = ap (λ (a : Act). world.journal ++ entries_of n stamp (a ∷ [])) act_is;
      puts = λ m peer. none_put (map seen (put_to m told.trace)) (world.network.packets n m) (reached.puts m (peer_is o.size n m peer).0 (peer_is o.size n m peer).1);
      takes = tt;
    })

-- a node that is still down has one more round, and shows as before
pub each_stays_down : {D : Type 0} (o : Opening) (n : ℕ) (old new : Stopped D) (log : List Record) (world : PacketWorld) → CellStaysDown o n old new log world
each_stays_down o n old new log world is reached shows = record {
  world = world;
  reached = subst (λ (t : Told). HasReached o n (observed_of t) t.stamp world) (sym told_is) reached;
  shows = record {
    node = record {
      carried = record {
        in_run = shows.carried.in_run;
        told_of = ap (λ (t : Told). t.node) told_is ∙ shows.carried.told_of;
        within = subst (λ (t : Told). t.stamp ≤ last_stamp) (sym told_is) shows.carried.within;
        nodes = ap (λ (s : Setting). s.nodes) is.setting ∙ shows.carried.nodes;
        node = ap (λ (s : Setting). s.node) is.setting ∙ shows.carried.node;
        inc = shows.carried.inc ∙ sym (ap (λ (s : Setting). s.inc) is.setting);
      };
      down = shows.down;
      setting = shows.setting ∙ sym is.setting;
      kept = shows.kept ∙ sym is.kept;
      log_is = shows.log_is;
      none = shows.none;
    };
    clients_are = λ k. refl;
  };
}
  where
    told_is : new.carried.chronicle.told ≡ in_round old.carried.chronicle.told
    told_is = ap (λ (s : Seen). s.told) is.seen
