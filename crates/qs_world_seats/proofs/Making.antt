-- A step of a cell that is one move makes its node's local run longer.
use Rattle.std.proofs.Common.{true, ◌≡◌, ◌∙◌, ap, refl, subst, sym, ℕ, List, [], ◌∷◌, ◌++◌, Option, append-nil, map}
use Rattle.std.specs.List.{filter}
use Rattle.qs_book_journal.specs.declared.entry.Act.{Act}
use Rattle.qs_book_journal.specs.declared.entry.CrashCause.{CrashCause}
use Rattle.qs_book_journal.specs.declared.entry.Entry.{Entry}
use Rattle.qs_cell_chronicle.specs.Chronicle.{Told, noted}
use Rattle.qs_cell_peers.proofs.Places.{is_peer_from}
use Rattle.qs_cell_peers.specs.Peers.{is_peer, is_to}
use Rattle.qs_node_step.specs.declared.event.Event.{Event}
use Rattle.qs_node_step.specs.declared.trace.Did.{Did}
use Rattle.qs_node_step.specs.declared.trace.Step as trace
use Rattle.qs_packet.specs.declared.message.Message.{Message}
use Rattle.qs_packet.specs.declared.packet.Packet.{Packet}
use Rattle.qs_session_channels.specs.End as end
use Rattle.qs_session_channels.specs.Network.{Among}
use Rattle.qs_world.specs.Moves.{node_no}
use Rattle.qs_world.specs.Posting.{entries_of}
use Rattle.qs_world.specs.World.{Opening, Parcel}
use Rattle.qs_world_merge.proofs.Members.{among_front}
use Rattle.qs_world_merge.proofs.Reaches.{each_goes_on}
use Rattle.qs_world_merge.specs.LocalRuns.{MayLocally, client_at}
use Rattle.qs_world_merge.specs.Observed.{ArePut, Took}
use Rattle.qs_world_merge.specs.Reaching.{HasReached}
use Rattle.qs_world_merge.specs.StepMoves.{DoesAs, one_move, seen}
use Rattle.qs_world_packets.specs.PacketMoves.{Move, moved}
use Rattle.qs_world_packets.specs.PacketWorld.{PacketWorld}
use Rattle.qs_world_traces.proofs.MessagesTaken.{one_more}
use Rattle.qs_world_traces.specs.Links.{is_from, observed_by, put_to, puts_of, took_from, takes_of}
use Rattle.qs_world_seats.proofs.Stamps.{IsNext, step_at, tells}
use Rattle.qs_world_seats.specs.Shown.{observed_of}

-- nothing more is put
pub none_put : (xs : List (end.Packet Message)) (packets : List (end.Packet Parcel)) → ArePut xs packets → ArePut (xs ++ []) packets
none_put xs packets are = subst (λ (l : List (end.Packet Message)). ArePut l packets) (sym (append-nil xs)) are

module _ (o : Opening) (n : ℕ) (told next : Told) (did : Did) (put : List Packet) (acts : List Act) (crash : Option CrashCause) (world new : PacketWorld) (move : Move) (event : Option Event) where
  abbrev step : trace.Step
  step = step_at n next did put crash

  -- the move is that of the step, and leads to the world
  pub record Makes : Type 0 where
    pub reached : HasReached o n (observed_of told) told.stamp world
    pub at_next : IsNext told next
    pub node : told.node ≡ node_no n
    pub may : MayLocally (client_at o) n told.stamp world (record { stamp = next.stamp; move = move; event = event })
    pub leads : moved move world ≡ new
    pub does : DoesAs o.size n next.stamp did crash (one_move next.stamp move event)
    pub journal : new.journal ≡ world.journal ++ entries_of n next.stamp acts
    pub puts : (m : ℕ) → is_peer o.size n m ≡ true → ArePut (map seen (put_to m told.trace) ++ map seen (filter (is_to m) put)) (new.network.packets n m)
    pub takes : Took o.size n (λ m. map seen (took_from m (told.trace ++ step ∷ []))) move

  pub makes : Makes → HasReached o n (observed_of (noted did put acts crash next)) next.stamp new
  makes c = tells o n told next did put acts crash c.at_next c.node new
      (each_goes_on o n (observed_of told) told.stamp world
      (record { step = step; first = record { stamp = next.stamp; move = move; event = event }; more = [] })
      (observed_by (told.journal ++ entries_of n next.stamp acts) (told.trace ++ step ∷ [])) new c.reached (record {
        are = record { does = c.does; at = (refl, c.may.of_node, tt) };
        run = (c.may, sym c.leads);
        journal_is = c.journal ∙ ap (λ (es : List Entry). es ++ entries_of n next.stamp acts) c.reached.journal_is;
        trace_is = refl;
        puts = λ m lt other. subst (λ (l : List (end.Packet Message)). ArePut l (new.network.packets n m)) (sym (one_more puts_of (is_to m) seen told.trace step)) (c.puts m (is_peer_from o.size n m lt other));
        takes = (c.takes, tt);
        took = λ m p h. subst (λ (l : List (end.Packet Message)). Among l p) (sym (one_more takes_of (is_from m) seen told.trace step))
            (among_front (map seen (took_from m told.trace)) (map seen (filter (is_from m) (takes_of step))) p h);
      }))
