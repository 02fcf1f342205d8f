-- A tick of a cell makes its node's local run longer: by the node's step, and then by a move for each session.
use Rattle.std.proofs.Common.{◌≡◌, ◌≢◌, ℕ, ◌==◌, ◌≤◌, ◌<◌, zero, suc, Bool, true, false, List, [], ◌∷◌, ◌++◌, Some, None, refl, sym, ap, subst, ◌∙◌, arith, append-nil, append_assoc, le_refl, if◌then◌else◌}
use Rattle.std.specs.Prelude.{map}
use Rattle.std.specs.List.{filter}
use Rattle.std.proofs.lemmas.Bool.{eqb-false, eqb-true}
use Rattle.qs_base_lemmas.proofs.Tests.{eqb-self}
use Rattle.qs_session_channels.specs.End as end
use Rattle.qs_session_channels.specs.End.{tick_packets, ticked}
use Rattle.qs_session_channels.specs.Network.{Among, with_at, with_at2}
use Rattle.qs_book_journal.specs.declared.entry.Entry.{Entry}
use Rattle.qs_world_merge.specs.StepMoves.{AllAt, StepMoves, one_move, seen, ticks_below}
use Rattle.qs_world_merge.specs.Reaching.{HasStampsUpTo}
use Rattle.qs_world_merge.specs.LocalRuns.{LocalRun, TimedMove, client_at}
use Rattle.qs_world_merge.specs.Observed.{AllTook, ArePut}
use Rattle.qs_world_merge.proofs.KeyOrder.{itself_after}
use Rattle.qs_world_merge.proofs.Members.{among_front}
use Rattle.qs_world_merge.proofs.Reaches.{each_goes_on, each_reached_up_to, run_on, all_up_to}
use Rattle.qs_world_merge.proofs.MayMoves.{may_steps, may_ticks}
use Rattle.qs_world_merge.proofs.NetworkSame.{at_place}
use Rattle.qs_packet.specs.declared.message.Message.{Message}
use Rattle.qs_packet.specs.declared.message.Message.TheVariants as messages
use Rattle.qs_packet.specs.declared.packet.Packet.{Packet}
use Rattle.qs_world_packets.specs.PacketMoves.{Clock, Step, Tick, moved, step_with}
use Rattle.qs_world_packets.specs.PacketSessions.{plain_packet}
use Rattle.qs_world_packets.specs.PacketWorld.{PacketWorld, hello}
use Rattle.qs_node_step.specs.declared.event.Event.TheVariants as events
use Rattle.qs_node_step.specs.declared.trace.Step as trace
use Rattle.qs_world.specs.Posting.{entries_of}
use Rattle.qs_node_step.specs.Step.{after_step}
use Rattle.qs_world.specs.Moves.{stepped_host}
use Rattle.qs_world.specs.World.{Host, Opening, Parcel}
use Rattle.qs_cell_peers.specs.Peers.{is_peer, is_to}
use Rattle.qs_cell_peers.specs.Sessions.{Ends, all_sent, sent_to}
use Rattle.qs_cell_peers.specs.Ticks.{all_ticked, tick_to}
use Rattle.qs_cell_peers.proofs.Places.{is_peer_from, peer_is}
use Rattle.qs_world_traces.specs.Links.{is_from, put_to, puts_of, observed_by, took_from, takes_of}
use Rattle.qs_world_traces.specs.Sessions.{AreEnds, SendsAsEnds, TicksAsEnds}
use Rattle.qs_world_traces.specs.Ticks.{EachTakesTick, HasTakenTick, TakesTick, tick_out, tick_step}
use Rattle.qs_world_traces.proofs.PutsOn.{each_puts_on, each_ticks_on}
use Rattle.qs_world_traces.proofs.SessionsAre.{each_sends, each_ticks}
use Rattle.qs_world_traces.proofs.MessagesTaken.{inc_sends, one_more, up_sends}

-- ---- sessions tick, one after the other

abbrev ticked_to : ℕ → ℕ → ℕ → PacketWorld → PacketWorld
ticked_to zero n s w = w
ticked_to (suc m) n s w = if m == n then ticked_to m n s w else moved (Tick n m s) (ticked_to m n s w)

-- the packets to another stay
row_stays : (f : ℕ → ℕ → List (end.Packet Parcel)) (n m j : ℕ) (x : List (end.Packet Parcel)) → (j == m) ≡ false → with_at2 f n m x n j ≡ f n j
row_stays f n m j x other = rw (eqb-self n, other) refl

record AfterTicks (clients_at : ℕ → ℕ) (size n s m : ℕ) (w : PacketWorld) (ends : Ends) (had : ℕ → List (end.Packet Message)) : Type 0 where
  run : LocalRun clients_at n s w (ticks_below m n s) (ticked_to m n s w)
  up : (ticked_to m n s w).network.up n ≡ true
  low : HasStampsUpTo size n s (ticked_to m n s w)
  inc : (ticked_to m n s w).network.inc n ≡ w.network.inc n
  clients : (k : ℕ) → (ticked_to m n s w).clients k ≡ w.clients k
  host : (ticked_to m n s w).hosts n ≡ w.hosts n
  journal : (ticked_to m n s w).journal ≡ w.journal
  sessions : AreEnds (is_peer size n) n (ticked_to m n s w).network (all_ticked m n ends)
  puts : (j : ℕ) → is_peer size n j ≡ true → ArePut (had j ++ tick_to m n s j ends) ((ticked_to m n s w).network.packets n j)
  at : AllAt s n (ticks_below m n s)

all_at_more : (s n : ℕ) (xs ys : List TimedMove) → AllAt s n xs → AllAt s n ys → AllAt s n (xs ++ ys)
all_at_more s n [] ys a b = b
all_at_more s n (x ∷ xs) ys a b = (a.0, a.1, all_at_more s n xs ys a.2 b)

-- the same, by whether the next one is the node itself
record AfterTick (clients_at : ℕ → ℕ) (size n s m : ℕ) (w : PacketWorld) (ends : Ends) (had : ℕ → List (end.Packet Message)) (new : PacketWorld) (new_ends : Ends) (moves : List TimedMove) (more : ℕ → List (end.Packet Message)) : Type 0 where
  run : LocalRun clients_at n s w moves new
  up : new.network.up n ≡ true
  low : HasStampsUpTo size n s new
  inc : new.network.inc n ≡ w.network.inc n
  clients : (k : ℕ) → new.clients k ≡ w.clients k
  host : new.hosts n ≡ w.hosts n
  journal : new.journal ≡ w.journal
  sessions : AreEnds (is_peer size n) n new.network new_ends
  puts : (j : ℕ) → is_peer size n j ≡ true → ArePut (had j ++ more j) (new.network.packets n j)
  at : AllAt s n moves

module _ (clients_at : ℕ → ℕ) (size n s : ℕ) (w : PacketWorld) (ends : Ends) (had : ℕ → List (end.Packet Message)) where
  -- what a tick of m makes of it, where m is another node
  next_if : (m : ℕ) → m < size → AfterTicks clients_at size n s m w ends had → (b : Bool) → (m == n) ≡ b
      → AfterTick clients_at size n s m w ends had (if b then ticked_to m n s w else moved (Tick n m s) (ticked_to m n s w)) (if b then all_ticked m n ends else with_at (all_ticked m n ends) m (ticked (all_ticked m n ends m)))
      (ticks_below m n s ++ (if b then [] else one_move s (Tick n m s) None)) (λ j. tick_to m n s j ends ++ (if b then [] else if j == m then tick_packets messages.Hello (all_ticked m n ends m) s else []))
  next_if m lt t true is = record {
    run = subst (λ (l : List TimedMove). LocalRun clients_at n s w l (ticked_to m n s w)) (sym (append-nil (ticks_below m n s))) t.run;
    up = t.up;
    low = t.low;
    inc = t.inc;
    clients = t.clients;
    host = t.host;
    journal = t.journal;
    sessions = t.sessions;
    puts = λ j peer. subst (λ (l : List (end.Packet Message)). ArePut (had j ++ l) ((ticked_to m n s w).network.packets n j)) (sym (append-nil (tick_to m n s j ends))) (t.puts j peer);
    at = all_at_more s n (ticks_below m n s) [] t.at tt;
  }
  next_if m lt t false is = record {
    run = run_on clients_at n s s w (ticks_below m n s) (one_move s (Tick n m s) None) (ticked_to m n s w) (moved (Tick n m s) (ticked_to m n s w)) (le_refl s) (all_up_to s n (ticks_below m n s) t.at) t.run
        (record { of_node = refl; rises = le_refl s; made_at = refl; may = may_ticks size n s (ticked_to m n s w) s m t.low (le_refl s) t.up; event_is = refl; own = tt }, refl);
    up = t.up;
    low = record { size_is = t.low.size_is; host = t.low.host; last = t.low.last };
    inc = t.inc;
    clients = t.clients;
    host = t.host;
    journal = t.journal;
    sessions = ticks.ends_are;
    puts = λ j peer. by j peer (j == m) refl;
    at = all_at_more s n (ticks_below m n s) (one_move s (Tick n m s) None) t.at (refl, refl, tt);
  }
    where
      peer_m : is_peer size n m ≡ true
      peer_m = is_peer_from size n m lt (eqb-false m n is)

      ticks : TicksAsEnds (is_peer size n) n m s (ticked_to m n s w).network (all_ticked m n ends)
      ticks = each_ticks (is_peer size n) n m s (ticked_to m n s w).network (all_ticked m n ends) peer_m t.sessions

      by : (j : ℕ) → is_peer size n j ≡ true → (c : Bool) → (j == m) ≡ c
          → ArePut (had j ++ (tick_to m n s j ends ++ (if c then tick_packets messages.Hello (all_ticked m n ends m) s else []))) ((moved (Tick n m s) (ticked_to m n s w)).network.packets n j)
      by j peer true at = subst (λ (l : List (end.Packet Message)). ArePut l ((moved (Tick n m s) (ticked_to m n s w)).network.packets n j)) (append_assoc (had j) (tick_to m n s j ends) (tick_packets messages.Hello (all_ticked m n ends m) s))
          (each_ticks_on (had j ++ tick_to m n s j ends) (tick_packets messages.Hello (all_ticked m n ends m) s) ((ticked_to m n s w).network.packets n j) ((moved (Tick n m s) (ticked_to m n s w)).network.packets n j) (t.puts j peer)
          (subst (λ (k : ℕ). map plain_packet ((moved (Tick n m s) (ticked_to m n s w)).network.packets n k) ≡ tick_packets messages.Hello (all_ticked m n ends m) s ++ map plain_packet ((ticked_to m n s w).network.packets n k)) (sym (eqb-true j m at)) ticks.packets))
      by j peer false at = subst (λ (l : List (end.Packet Message)). ArePut (had j ++ l) ((moved (Tick n m s) (ticked_to m n s w)).network.packets n j)) (sym (append-nil (tick_to m n s j ends)))
          (subst (λ (ps : List (end.Packet Parcel)). ArePut (had j ++ tick_to m n s j ends) ps) (sym (row_stays (ticked_to m n s w).network.packets n m j (tick_packets hello ((ticked_to m n s w).network.end n m) s ++ (ticked_to m n s w).network.packets n m) at)) (t.puts j peer))

  after_ticks : (m : ℕ) → m ≤ size → w.network.up n ≡ true → HasStampsUpTo size n s w → AreEnds (is_peer size n) n w.network ends → ((j : ℕ) → is_peer size n j ≡ true → ArePut (had j) (w.network.packets n j)) → AfterTicks clients_at size n s m w ends had
  after_ticks zero le up low are puts = record {
    run = refl;
    up = up;
    low = low;
    inc = refl;
    clients = λ k. refl;
    host = refl;
    journal = refl;
    sessions = are;
    at = tt;
    puts = λ j peer. subst (λ (l : List (end.Packet Message)). ArePut l (w.network.packets n j)) (sym (append-nil (had j))) (puts j peer);
  }
  after_ticks (suc m) le up low are puts =
      let t = next_if m (omega (arith, le)) (after_ticks m (omega (arith, le)) up low are puts) (m == n) refl in
      record { run = t.run; up = t.up; low = t.low; inc = t.inc; clients = t.clients; host = t.host; journal = t.journal; sessions = t.sessions; puts = t.puts; at = t.at }

-- ---- none of them takes a packet

none_took : (size n m k s : ℕ) (took : ℕ → List (end.Packet Message)) → AllTook size n took (ticks_below m k s)
none_took size n zero k s took = tt
none_took size n (suc m) k s took = both (ticks_below m k s) (if m == k then [] else one_move s (Tick k m s) None) (none_took size n m k s took) (by (m == k))
  where
    both : (xs ys : List TimedMove) → AllTook size n took xs → AllTook size n took ys → AllTook size n took (xs ++ ys)
    both [] ys a b = b
    both (x ∷ xs) ys a b = (a.0, both xs ys a.1 b)

    by : (b : Bool) → AllTook size n took (if b then [] else one_move s (Tick k m s) None)
    by true = tt
    by false = (tt, tt)

-- ---- the tick of a cell

module _ (o : Opening) (n : ℕ) (journal : List Entry) (steps : List trace.Step) (stamp : ℕ) (world : PacketWorld) (ends : Ends) (s free acts rounds : ℕ) (put : List Packet) (c : TakesTick o n journal steps stamp world ends s free put) where
  abbrev mid : PacketWorld
  mid = step_with world n s free Clock (Some events.Tick)

  abbrev sent_ends : Ends
  sent_ends = all_sent (is_peer o.size n) ends (tick_out world n free).messages

  abbrev had : ℕ → List (end.Packet Message)
  had j = map seen (put_to j steps) ++ sent_to (is_peer o.size n) s j ends (tick_out world n free).messages

  abbrev step_moves : StepMoves
  step_moves = record { step = tick_step n s acts rounds put; first = record { stamp = s; move = Step n s free Clock; event = Some events.Tick }; more = ticks_below o.size n s }

  low : HasStampsUpTo o.size n stamp world
  low = each_reached_up_to o n (observed_by journal steps) stamp world c.reached

  sends : SendsAsEnds (is_peer o.size n) n s world.network ends (tick_out world n free).messages
  sends = each_sends (is_peer o.size n) n s world.network ends (tick_out world n free).messages c.sessions

  low_mid : HasStampsUpTo o.size n s mid
  low_mid = record { size_is = low.size_is; host = subst (λ (k : ℕ). k ≤ s) (sym (ap (λ (h : Host). h.stamp) (at_place world.hosts n (stepped_host s (after_step (world.hosts n).node events.Tick free) (tick_out world n free) (world.hosts n))))) (le_refl s); last = itself_after s n }

  had_puts : (j : ℕ) → is_peer o.size n j ≡ true → ArePut (had j) (mid.network.packets n j)
  had_puts j peer = each_puts_on (map seen (put_to j steps)) (sent_to (is_peer o.size n) s j ends (tick_out world n free).messages) (world.network.packets n j) (mid.network.packets n j) (c.reached.puts j (peer_is o.size n j peer).0 (peer_is o.size n j peer).1) (sends.packets j peer)

  t : AfterTicks (client_at o) o.size n s o.size mid sent_ends had
  t = after_ticks (client_at o) o.size n s mid sent_ends had o.size (le_refl o.size) (up_sends n s n (tick_out world n free).messages world.network ∙ c.up) low_mid sends.ends_are had_puts

  puts : (m : ℕ) → m < o.size → m ≢ n → ArePut (map seen (put_to m (steps ++ tick_step n s acts rounds put ∷ []))) ((ticked_to o.size n s mid).network.packets n m)
  puts m lt other = subst (λ (l : List (end.Packet Message)). ArePut l ((ticked_to o.size n s mid).network.packets n m))
      (append_assoc (map seen (put_to m steps)) (sent_to (is_peer o.size n) s m ends (tick_out world n free).messages) (tick_to o.size n s m sent_ends)
      ∙ (ap (λ (l : List (end.Packet Message)). map seen (put_to m steps) ++ l) (sym (c.puts m (is_peer_from o.size n m lt other))) ∙ sym (one_more puts_of (is_to m) seen steps (tick_step n s acts rounds put))))
      (t.puts m (is_peer_from o.size n m lt other))

  has_taken : HasTakenTick o n journal steps world ends s free acts rounds put
  has_taken = record {
    new = ticked_to o.size n s mid;
    reached = each_goes_on o n (observed_by journal steps) stamp world step_moves (observed_by (journal ++ entries_of n s (tick_out world n free).entries) (steps ++ tick_step n s acts rounds put ∷ [])) (ticked_to o.size n s mid) c.reached (record {
      are = record { does = record { free = free; is = refl }; at = (refl, refl, t.at) };
      run = (
        record {
          of_node = refl;
          rises = omega (arith, c.later);
          made_at = refl;
          may = may_steps o.size n stamp world s free Clock low (record { in_run = c.in_run; later = c.later; low = c.low; up = c.up; some = refl; serves = refl });
          event_is = refl;
          own = c.own;
        },
        t.run,
      );
      journal_is = t.journal ∙ ap (λ (es : List Entry). es ++ entries_of n s (tick_out world n free).entries) c.reached.journal_is;
      trace_is = refl;
      puts = puts;
      takes = (tt, none_took o.size n o.size n s (λ m. map seen (took_from m (steps ++ tick_step n s acts rounds put ∷ []))));
      took = λ m p h. subst (λ (l : List (end.Packet Message)). Among l p) (sym (one_more takes_of (is_from m) seen steps (tick_step n s acts rounds put))) (among_front (map seen (took_from m steps)) (map seen (filter (is_from m) (takes_of (tick_step n s acts rounds put)))) p h);
    });
    sessions = t.sessions;
    host = t.host ∙ at_place world.hosts n (stepped_host s (after_step (world.hosts n).node events.Tick free) (tick_out world n free) (world.hosts n));
    up = t.up;
    inc = t.inc ∙ inc_sends n s n (tick_out world n free).messages world.network;
    clients = t.clients;
  }

pub each_takes_tick : EachTakesTick
each_takes_tick o n journal steps stamp world ends s free acts rounds put c = has_taken o n journal steps stamp world ends s free acts rounds put c
