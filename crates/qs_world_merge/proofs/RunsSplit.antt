-- Each run of all nodes is the merge of local runs.
use Rattle.qs_world_merge.proofs.Words.{◌≡◌, ◌≢◌, ◌⊎◌, ℕ, ◌==◌, ◌≤◌, ◌<◌, Bool, true, false, List, [], ◌∷◌, ◌++◌, Option, Some, None, refl, sym, subst, ◌∙◌, arith, inl, inr, le_refl, cond, option_to_list, cases_eq, nat_tests, Packet, sent_packet, tick_packets, Among, Network, CrashCause, effects_of, Event, Sending, Parcel, Source, Commanded, Queues, Clock, Brought, Move, Cut, Stop, Rise, Meet, Take, cut_with, event_of, moved, send_all, send_next, step_with, taken_by, Run, PacketWorld, hello, start, HasStampsUpTo, AnswersOwn, IsMadeAt, LocalRun, TimedMove, event_in, node_of, client_at, InKeyOrder, of_node, AllPut, PutBy, SourcePut, WasPut, move_key, untimed, SameNetworkAt, SameAt}
use Rattle.std.proofs.lemmas.Bool.{cases_lt}
use Rattle.qs_session_channels.specs.Network.{with_at2}
use Rattle.qs_world_packets.specs.PacketMoves.{MayMove, SourceSent, Step, Tick, WasSent}
use Rattle.qs_world_merge.specs.SplitRuns.{AreTimed, EachRunSplits}
use Rattle.qs_world_merge.proofs.KeyOrder.{after_later, after_stamp, first_after, first_of, none_beyond, other_of}
use Rattle.qs_world_merge.proofs.Members.{among_back}
use Rattle.qs_world_merge.proofs.Reaches.{moved_up_to}
use Rattle.qs_world_merge.proofs.MayThere.{event_there, may_there, own_there}
use Rattle.qs_world_merge.proofs.MovesSame.{moved_alike, moved_other, same_at, then_same_at}
use Rattle.qs_world_merge.proofs.PartsSame.{ClientsAt, clients_stay}

-- ---- packets that were sent stay

more_at : (f : ℕ → ℕ → List (Packet Parcel)) (n m : ℕ) (xs : List (Packet Parcel)) (a b : ℕ) (p : Packet Parcel) → Among (f a b) p → Among (with_at2 f n m (xs ++ f n m) a b) p
more_at f n m xs a b p h = by (a == n) (b == m) (same a n) (same b m)
  where
    same : (i j : ℕ) → (i == j) ≡ true → i ≡ j
    same i j is = grind (arith, nat_tests, is)

    by : (c d : Bool) → (c ≡ true → a ≡ n) → (d ≡ true → b ≡ m) → Among (cond c (cond d (xs ++ f n m) (f a b)) (f a b)) p
    by true true first second = among_back xs (f n m) p (subst (λ (j : ℕ). Among (f n j) p) (second refl) (subst (λ (i : ℕ). Among (f i b) p) (first refl) h))
    by true false first second = h
    by false d first second = h

sends_more : (n stamp : ℕ) (sendings : List Sending) (net : Network Parcel) (a b : ℕ) (p : Packet Parcel) → Among (net.packets a b) p → Among ((send_all n stamp sendings net).packets a b) p
sends_more n stamp [] net a b p h = h
sends_more n stamp (s ∷ sendings) net a b p h = sends_more n stamp sendings (send_next n stamp net s) a b p (more_at net.packets n s.to.0 (option_to_list (sent_packet (net.end n s.to.0) (record { stamp = stamp; message = s.message }) stamp)) a b p h)

taken_more : (n : ℕ) (source : Source) (w : PacketWorld) (a b : ℕ) (p : Packet Parcel) → Among (w.network.packets a b) p → Among ((taken_by w n source).packets a b) p
taken_more n (Commanded k) w a b p h = h
taken_more n Queues w a b p h = h
taken_more n Clock w a b p h = h
taken_more n (Brought m q) w a b p h = h

step_more : (n stamp free : ℕ) (source : Source) (w : PacketWorld) (o : Option Event) (a b : ℕ) (p : Packet Parcel) → Among (w.network.packets a b) p → Among ((step_with w n stamp free source o).network.packets a b) p
step_more n stamp free source w None a b p h = h
step_more n stamp free source w (Some event) a b p h = sends_more n stamp (effects_of (w.hosts n).node event free).messages (taken_by w n source) a b p (taken_more n source w a b p h)

cut_more : (n stamp free : ℕ) (is_kept : Bool) (cause : CrashCause) (w : PacketWorld) (o : Option Event) (a b : ℕ) (p : Packet Parcel) → Among (w.network.packets a b) p → Among ((cut_with w n stamp free is_kept cause o).network.packets a b) p
cut_more n stamp free is_kept cause w None a b p h = h
cut_more n stamp free is_kept cause w (Some event) a b p h = h

moved_more : (move : Move) (w : PacketWorld) (a b : ℕ) (p : Packet Parcel) → Among (w.network.packets a b) p → Among ((moved move w).network.packets a b) p
moved_more (Step n stamp free source) w a b p h = step_more n stamp free source w (event_of w n stamp source) a b p h
moved_more (Cut n stamp free source is_kept cause) w a b p h = cut_more n stamp free is_kept cause w (event_of w n stamp source) a b p h
moved_more (Stop n stamp cause) w a b p h = h
moved_more (Rise n stamp inc) w a b p h = h
moved_more (Meet n stamp m q) w a b p h = h
moved_more (Take n m q) w a b p h = h
moved_more (Tick n m stamp) w a b p h = more_at w.network.packets n m (tick_packets hello (w.network.end n m) stamp) a b p h

run_more : (moves : List Move) (old new : PacketWorld) (a b : ℕ) (p : Packet Parcel) → Run old moves new → Among (old.network.packets a b) p → Among (new.network.packets a b) p
run_more [] old new a b p run h = subst (λ (w : PacketWorld). Among (w.network.packets a b) p) (sym run) h
run_more (move ∷ moves) old new a b p run h = run_more moves (moved move old) new a b p run.1 (moved_more move old a b p h)

-- ---- parts the other way

network_back : (n : ℕ) (a b : Network Parcel) → SameNetworkAt n a b → SameNetworkAt n b a
network_back n a b s = record { inc = sym s.inc; up = sym s.up; ends = λ m. sym (s.ends m); packets = λ m. sym (s.packets m) }

same_back : (clients_at : ℕ → ℕ) (n : ℕ) (a b : PacketWorld) → SameAt clients_at n a b → SameAt clients_at n b a
same_back clients_at n a b s = record { size = sym s.size; host = sym s.host; network = network_back n a.network b.network s.network; born = λ i. sym (s.born i); clients = λ k at. sym (s.clients k at); entries = sym s.entries }

-- ---- a node by itself, so far

record Half (clients_at : ℕ → ℕ) (size n late : ℕ) (j : PacketWorld) : Type 0 where
  at : ℕ
  own : PacketWorld
  same : SameAt clients_at n j own
  stand : ClientsAt clients_at own
  low : HasStampsUpTo size n at own
  by_then : at ≤ late

low_more : (size n at s : ℕ) (w : PacketWorld) → HasStampsUpTo size n at w → at ≤ s → HasStampsUpTo size n s w
low_more size n at s w low le = record { size_is = low.size_is; host = omega (arith, low.host, le); last = after_later w.last at s n low.last le }

module _ (clients_at : ℕ → ℕ) (size : ℕ) where
  -- one move, by itself or of another
  record Pass (n : ℕ) (j : PacketWorld) (t : TimedMove) (ts : List TimedMove) (at : ℕ) (own : PacketWorld) : Type 0 where
    next : Half clients_at size n t.stamp (moved t.move j)
    back : (end : PacketWorld) → LocalRun clients_at n next.at next.own (of_node move_key n ts) end → LocalRun clients_at n at own (of_node move_key n (t ∷ ts)) end

  module _ (late : ℕ) (j : PacketWorld) (stand : ClientsAt clients_at j) (t : TimedMove) (ts : List TimedMove) (later : late ≤ t.stamp) (is : IsMadeAt t.stamp t.move) (event : event_in j t.move ≡ t.event) (answers : AnswersOwn clients_at j t.move) (may : MayMove j t.move) where
    pass_mine : (h : Half clients_at size (node_of t.move) late j) → Pass (node_of t.move) j t ts h.at h.own
    pass_mine h =
        let rises : h.at ≤ t.stamp = omega (arith, h.by_then, later) in
        let same = same_back clients_at (node_of t.move) j h.own h.same in
        record {
          next = record {
            at = t.stamp;
            own = moved t.move h.own;
            same = moved_alike clients_at j h.own stand h.stand t.move h.same;
            stand = clients_stay clients_at t.move h.own h.stand;
            low = moved_up_to size t.move h.own t.stamp t.stamp is (le_refl t.stamp) (low_more size (node_of t.move) h.at t.stamp h.own h.low rises);
            by_then = le_refl t.stamp;
          };
          back = λ end run. subst (λ (l : List TimedMove). LocalRun clients_at (node_of t.move) h.at h.own l end) (sym (first_of move_key t ts)) (
            record {
              of_node = refl;
              rises = rises;
              made_at = is;
              may = may_there clients_at h.own j h.stand stand t.move t.stamp is same (after_later h.own.last h.at t.stamp (node_of t.move) h.low.last rises) may.may;
              event_is = event_there clients_at h.own j h.stand stand t.move same ∙ event;
              own = own_there clients_at h.own j h.stand stand t.move same answers;
            },
            run,
          );
        }

    pass_other : (n : ℕ) → (n == node_of t.move) ≡ false → (node_of t.move == n) ≡ false → (h : Half clients_at size n late j) → Pass n j t ts h.at h.own
    pass_other n other apart h = record {
      next = record {
        at = h.at;
        own = h.own;
        same = then_same_at clients_at n (moved t.move j) j h.own (moved_other clients_at n j stand t.move other answers) h.same;
        stand = h.stand;
        low = h.low;
        by_then = omega (arith, h.by_then, later);
      };
      back = λ end run. subst (λ (l : List TimedMove). LocalRun clients_at n h.at h.own l end) (sym (other_of move_key n t ts apart)) run;
    }

    pass : (n : ℕ) (h : Half clients_at size n late j) → Pass n j t ts h.at h.own
    pass n h = by (cases_eq n (node_of t.move)) h
      where
        by : (n ≡ node_of t.move) ⊎ (n ≢ node_of t.move) → (h : Half clients_at size n late j) → Pass n j t ts h.at h.own
        by (inl same) = subst (λ (k : ℕ). (h : Half clients_at size k late j) → Pass k j t ts h.at h.own) (sym same) pass_mine
        by (inr other) = pass_other n (grind (arith, nat_tests, other)) (grind (arith, nat_tests, other))

  -- where it comes to
  record Out (n : ℕ) (world : PacketWorld) (at : ℕ) (own : PacketWorld) (left : List TimedMove) : Type 0 where
    end : PacketWorld
    run : LocalRun clients_at n at own left end
    same : SameAt clients_at n world end

  outs : (merged : List TimedMove) (last : ℕ × ℕ) (j world : PacketWorld) → ClientsAt clients_at j → InKeyOrder move_key size last merged → AreTimed clients_at j merged → Run j (untimed merged) world
      → (halves : (n : ℕ) → Half clients_at size n last.0 j) → (n : ℕ) → Out n world (halves n).at (halves n).own (of_node move_key n merged)
  outs [] last j world stand order right run halves n = record { end = (halves n).own; run = refl; same = subst (λ (w : PacketWorld). SameAt clients_at n w (halves n).own) (sym run) (halves n).same }
  outs (t ∷ ts) last j world stand order right run halves n =
      let each = pass last.0 j stand t ts (after_stamp last t.stamp (node_of t.move) order.1) right.0 right.1 right.2 run.0 in
      let more = outs ts (move_key t) (moved t.move j) world (clients_stay clients_at t.move j stand) order.2 right.3 run.1 (λ k. (each k (halves k)).next) n in
      record { end = more.end; run = (each n (halves n)).back more.end more.run; same = more.same }

-- ---- what was taken was put

module _ (size : ℕ) (ends : ℕ → PacketWorld) (world : PacketWorld) (same : (m n : ℕ) → world.network.packets m n ≡ (ends m).network.packets m n) (few : (m n : ℕ) (p : Packet Parcel) → Among (world.network.packets m n) p → m < size) where
  put_by : (n m : ℕ) (p : Packet Parcel) → Among (world.network.packets m n) p → PutBy size ends n m p
  put_by n m p h = (few m n p h, subst (λ (ps : List (Packet Parcel)). Among ps p) (same m n) h)

  module _ (j : PacketWorld) (stays : (a b : ℕ) (p : Packet Parcel) → Among (j.network.packets a b) p → Among (world.network.packets a b) p) where
    source_put : (n : ℕ) (source : Source) → SourceSent j n source → SourcePut size ends n source
    source_put n (Commanded k) sent = tt
    source_put n Queues sent = tt
    source_put n Clock sent = tt
    source_put n (Brought m p) sent = put_by n m p (stays m n p sent)

    move_put : (move : Move) → WasSent j move → WasPut size ends move
    move_put (Step n stamp free source) sent = source_put n source sent
    move_put (Cut n stamp free source is_kept cause) sent = source_put n source sent
    move_put (Stop n stamp cause) sent = tt
    move_put (Rise n stamp inc) sent = tt
    move_put (Meet n stamp m p) sent = put_by n m p (stays m n p sent)
    move_put (Take n m p) sent = put_by n m p (stays m n p sent)
    move_put (Tick n m stamp) sent = tt

  all_put : (merged : List TimedMove) (j : PacketWorld) → Run j (untimed merged) world → AllPut size ends merged
  all_put [] j run = tt
  all_put (t ∷ ts) j run = (move_put j (λ a b p h. run_more (untimed (t ∷ ts)) j world a b p run h) t.move run.0.sent, all_put ts (moved t.move j) run.1)

-- ---- all of it

pub each_run_splits : EachRunSplits
each_run_splits o merged world order right run = record {
  ends = ends;
  local = record { in_order = order; each = λ n in_run. (out n).run; put = all_put o.size ends world (λ m n. (out m).same.network.packets n) few merged (start o) run };
}
  where
    half : (n : ℕ) → Half (client_at o) o.size n 0 (start o)
    half n = record { at = 0; own = start o; same = same_at (client_at o) n (start o); stand = λ k. refl; low = record { size_is = refl; host = le_refl 0; last = first_after 0 n }; by_then = le_refl 0 }

    out : (n : ℕ) → Out (client_at o) o.size n world 0 (start o) (of_node move_key n merged)
    out n = outs (client_at o) o.size merged (0, 0) (start o) world (λ k. refl) order right run half n

    ends : ℕ → PacketWorld
    ends n = (out n).end

    few : (m n : ℕ) (p : Packet Parcel) → Among (world.network.packets m n) p → m < o.size
    few m n p h = by (cases_lt m o.size)
      where
        by : (m < o.size) ⊎ (o.size ≤ m) → m < o.size
        by (inl lt) = lt
        by (inr beyond) =
            let idle : ends m ≡ start o = subst (λ (l : List TimedMove). LocalRun (client_at o) m 0 (start o) l (ends m)) (none_beyond move_key o.size m (0, 0) merged order beyond) (out m).run in
            absurd (subst (λ (w : PacketWorld). Among (w.network.packets m n) p) idle (subst (λ (ps : List (Packet Parcel)). Among ps p) ((out m).same.network.packets n) h))
