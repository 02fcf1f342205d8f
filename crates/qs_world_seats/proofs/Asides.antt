-- A packet that changes its session at most goes on in the world: the node meets the peer whose first packet it is, or takes it.
use Rattle.std.proofs.Common.{◌≡◌, ◌⊎◌, ◌∙◌, ap, inl, inr, refl, subst, sym, ℕ, ◌≤◌, ◌<◌, true, List, [], ◌∷◌, ◌++◌, None, append-nil, map}
use Rattle.std.proofs.lemmas.Bool.{and_from}
use Rattle.qs_cell.specs.Asides.{IsSetAside}
use Rattle.qs_cell.specs.Cell.{begun_past}
use Rattle.qs_cell.specs.declared.running.Running.{Running}
use Rattle.qs_cell.specs.declared.stopped.Stopped.{Stopped}
use Rattle.qs_cell_chronicle.specs.Carried.{Seen, is_replaced}
use Rattle.qs_cell_chronicle.specs.Chronicle.{Told, counted, is_last_past, last_stamp, noted}
use Rattle.qs_cell_peers.proofs.Places.{peer_is}
use Rattle.qs_cell_peers.specs.Peers.{is_peer}
use Rattle.qs_cell_peers.specs.Sessions.{SessionsValue, ends_of}
use Rattle.qs_cell_peers.specs.declared.heard.Heard.TheVariants as heards
use Rattle.qs_disk.specs.Fuse.{FusedValue}
use Rattle.qs_node_host.specs.Host.{HostValue}
use Rattle.qs_node_step.specs.declared.trace.Did.TheVariants as dids
use Rattle.qs_packet.specs.declared.packet.Packet.{Packet}
use Rattle.qs_session_channels.proofs.ReceiveShown.{answers}
use Rattle.qs_session_channels.specs.End as end
use Rattle.qs_session_channels.specs.Network.{Network}
use Rattle.qs_world.specs.World.{Host, Opening, Parcel}
use Rattle.qs_world_merge.proofs.MayMoves.{may_meets}
use Rattle.qs_world_merge.proofs.NetworkSame.{at_place}
use Rattle.qs_world_merge.proofs.Reaches.{each_reached_up_to}
use Rattle.qs_world_merge.specs.LocalRuns.{MayLocally, client_at}
use Rattle.qs_world_merge.specs.Observed.{ArePut, Took, TookOf}
use Rattle.qs_world_merge.specs.Reaching.{HasReached, HasStampsUpTo}
use Rattle.qs_world_merge.specs.StepMoves.{DoesAs, one_move, seen}
use Rattle.qs_world_one.specs.InWorld.{host_of}
use Rattle.qs_world_packets.specs.PacketMoves.{Meet, Move, Take, answer_at, is_aside, moved, received_by}
use Rattle.qs_world_packets.specs.PacketWorld.{PacketWorld}
use Rattle.qs_world_traces.proofs.MessagesTaken.{as_brought}
use Rattle.qs_world_traces.specs.Links.{put_to, took_from}
use Rattle.qs_world_traces.specs.Sessions.{AreEnds}
use Rattle.qs_world_seats.proofs.Cells.{carried_on, host_shown}
use Rattle.qs_world_seats.proofs.Making.{makes, none_put}
use Rattle.qs_world_seats.proofs.Sources.{IsTakenIn, left_aside, taken_in_by, took_it}
use Rattle.qs_world_seats.proofs.Stamps.{IsAbove, IsNext, next_begun, not_last_aside, rises, step_at}
use Rattle.qs_world_seats.proofs.Stops.{stopped_up, why_crash}
use Rattle.qs_world_seats.specs.Events.{AsideGoesOn, AsideReplacedGoesOn, StandsAt, with_sessions}
use Rattle.qs_world_seats.specs.Shown.{IsUp, Reaches, observed_of}

module _ {D F X : Type 0} (o : Opening) (n : ℕ) (packet : Packet) (sessions : SessionsValue) (old new : Running D F X) (world : PacketWorld) (stands : StandsAt o n old world) where
  abbrev told : Told
  told = old.carried.chronicle.told

  abbrev next : Told
  next = begun_past packet.stamp told

  abbrev m : ℕ
  m = packet.from.0

  abbrev p : end.Packet Parcel
  p = as_brought packet

  low : HasStampsUpTo o.size n told.stamp world
  low = each_reached_up_to o n (observed_of told) told.stamp world stands.reached

  at_next : IsNext told next
  at_next = next_begun packet.stamp told

  abbrev told_then : Told
  told_then = noted (dids.Packet packet) [] [] None next

  module _ (taken : IsTakenIn o.size n packet heards.Aside world sessions) (above : IsAbove told.stamp packet.stamp next.stamp) where
    its : TookOf o.size n (λ k. map seen (took_from k (told.trace ++ step_at n next (dids.Packet packet) [] None ∷ []))) m p
    its = took_it o.size n packet told.trace (step_at n next (dids.Packet packet) [] None) refl taken.peer

    reached_by : (move : Move) → MayLocally (client_at o) n told.stamp world (record { stamp = next.stamp; move = move; event = None })
        → (moves_are : DoesAs o.size n next.stamp (dids.Packet packet) None (one_move next.stamp move None))
        → Took o.size n (λ k. map seen (took_from k (told.trace ++ step_at n next (dids.Packet packet) [] None ∷ []))) move
        → (moved move world).journal ≡ world.journal → ((k : ℕ) → (moved move world).network.packets n k ≡ world.network.packets n k)
        → HasReached o n (observed_of told_then) next.stamp (moved move world)
    reached_by move may moves_are takes journal packets = makes o n told next (dids.Packet packet) [] [] None world (moved move world) move None (record {
      reached = stands.reached;
      at_next = at_next;
      node = stands.shows.carried.told_of;
      may = may;
      leads = refl;
      does = moves_are;
      journal = journal ∙ sym (append-nil world.journal);
      puts = λ k peer. none_put (map seen (put_to k told.trace)) ((moved move world).network.packets n k)
          (subst (λ (l : List (end.Packet Parcel)). ArePut (map seen (put_to k told.trace)) l) (sym (packets k)) (stands.reached.puts k (peer_is o.size n k peer).0 (peer_is o.size n k peer).1));
      takes = takes;
    })

    take : is_aside (answer_at world n m p) ≡ true → HasReached o n (observed_of told_then) next.stamp (moved (Take n m p) world)
    take aside = reached_by (Take n m p) (record {
      of_node = refl;
      rises = at_next.later;
      made_at = above.past;
      may = and_from (world.network.up n) (is_aside (answer_at world n m p)) stands.shows.up aside;
      event_is = refl;
      own = tt;
    }) (record { brought = p; plain = refl; event = None; how = inr (inr refl) }) its refl (λ k. refl)

    meet : (world.network.end n m).known ≡ 0 → HasReached o n (observed_of told_then) next.stamp (moved (Meet n next.stamp m p) world)
    meet unmet = reached_by (Meet n next.stamp m p) (record {
      of_node = refl;
      rises = at_next.later;
      made_at = refl;
      may = may_meets o.size n told.stamp world next.stamp m p low (subst (λ (k : ℕ). n < k) low.size_is stands.shows.carried.in_run) above.later above.low stands.shows.up
          (peer_is o.size n m taken.peer).0 (peer_is o.size n m taken.peer).1 unmet above.past;
      event_is = refl;
      own = tt;
    }) (record { brought = p; plain = refl; event = None; how = inr (inl refl) }) its refl (λ k. refl)

    -- what is seen of the cell then
    module _ (is : IsSetAside packet (with_sessions sessions old) new) where
      told_is : new.carried.chronicle.told ≡ told_then
      told_is = ap (λ (s : Seen). s.told) is.seen

      up_there : (after : PacketWorld) → HasReached o n (observed_of told_then) next.stamp after → after.size ≡ world.size → after.network.up n ≡ world.network.up n → after.network.inc n ≡ world.network.inc n
          → after.network ≡ received_by world n m p → (stamp : ℕ) → after.hosts n ≡ record (world.hosts n) { stamp = stamp } → ((k : ℕ) → after.clients k ≡ world.clients k)
          → Reaches o n new.carried.chronicle.told (IsUp n new world.clients)
      up_there after reached size up inc network stamp host clients = record {
        world = after;
        reached = subst (λ (t : Told). HasReached o n (observed_of t) t.stamp after) (sym told_is) reached;
        shows = record {
          node = record {
            carried = carried_on n old.carried new.carried world after stands.shows.carried (ap (λ (t : Told). t.node) told_is ∙ at_next.node)
                (subst (λ (t : Told). t.stamp ≤ last_stamp) (sym told_is) (at_next.within stands.shows.carried.within)) is.setting size inc;
            up = up ∙ stands.shows.up;
            host = host_shown (after.hosts n) stamp new.host (host ∙ (ap (λ (h : Host). record h { stamp = stamp }) stands.shows.host ∙ ap (λ (h : HostValue (FusedValue D)). host_of stamp h) (sym is.host)));
            setting = ap (λ (h : HostValue (FusedValue D)). h.node.setting) is.host ∙ (stands.shows.setting ∙ sym is.setting);
            size = ap (λ (s : SessionsValue). s.size) is.sessions ∙ (taken.size_is ∙ sym (size ∙ low.size_is));
            me = ap (λ (s : SessionsValue). s.me) is.sessions ∙ taken.me;
            ends = subst (λ (k : ℕ). AreEnds (is_peer k n) n after.network (ends_of new.sessions)) (sym (size ∙ low.size_is))
                (subst (λ (s : SessionsValue). AreEnds (is_peer o.size n) n after.network (ends_of s)) (sym is.sessions)
                (subst (λ (net : Network Parcel). AreEnds (is_peer o.size n) n net (ends_of sessions)) (sym network) taken.ends));
          };
          clients_are = clients;
        };
      }

      goes : (is_aside (answer_at world n m p) ≡ true) ⊎ ((world.network.end n m).known ≡ 0) → Reaches o n new.carried.chronicle.told (IsUp n new world.clients)
      goes (inl aside) = up_there (moved (Take n m p) world) (take aside) refl refl refl refl (world.hosts n).stamp refl (λ k. refl)
      goes (inr unmet) = up_there (moved (Meet n next.stamp m p) world) (meet unmet) refl refl refl refl next.stamp (at_place world.hosts n (record (world.hosts n) { stamp = next.stamp })) (λ k. refl)

pub each_aside : {D F X : Type 0} (o : Opening) (n : ℕ) (packet : Packet) (sessions : SessionsValue) (old new : Running D F X) (world : PacketWorld) → AsideGoesOn o n packet sessions old new world
each_aside o n packet sessions old new world stands heard is =
    goes o n packet sessions old new world stands taken above is
    (left_aside (world.network.end n packet.from.0) packet (answer_at world n packet.from.0 (as_brought packet))
    (answers (world.network.end n packet.from.0) (as_brought packet) (answer_at world n packet.from.0 (as_brought packet)) refl) taken.answered)
  where
    size_is : world.size ≡ o.size
    size_is = (low o n packet sessions old new world stands).size_is

    taken : IsTakenIn o.size n packet heards.Aside world sessions
    taken = taken_in_by o.size n packet heards.Aside world old.sessions sessions (λ same. cc same) (stands.shows.size ∙ size_is) stands.shows.me
        (subst (λ (k : ℕ). AreEnds (is_peer k n) n world.network (ends_of old.sessions)) size_is stands.shows.ends) heard

    above : IsAbove old.carried.chronicle.told.stamp packet.stamp (begun_past packet.stamp old.carried.chronicle.told).stamp
    above = rises packet.stamp old.carried.chronicle.told
        (not_last_aside (is_last_past packet.stamp old.carried.chronicle.told) (is_replaced (counted old.carried.chronicle.told.events) old.carried.crashes) is.unplanned)

-- a crash in place of it
pub each_aside_replaced : {D F X : Type 0} (o : Opening) (n : ℕ) (packet : Packet) (sessions : SessionsValue) (old : Running D F X) (new : Stopped D) (world : PacketWorld) → AsideReplacedGoesOn o n packet sessions old new world
each_aside_replaced o n packet sessions old new world stands is =
    stopped_up o n old world stands (begun_past packet.stamp old.carried.chronicle.told) (next_begun packet.stamp old.carried.chronicle.told) (dids.Packet packet) new.cause new (inl refl)
    (why_crash (is_last_past packet.stamp old.carried.chronicle.told) (is_replaced (counted old.carried.chronicle.told.events) old.carried.crashes) new.cause is.cause) is.told is.kept is.setting
