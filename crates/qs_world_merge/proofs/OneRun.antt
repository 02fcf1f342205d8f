-- Local runs merged are one run: move by move each may be made, and each node has what it has by itself.
use Rattle.qs_world_merge.proofs.Words.{◌≡◌, ◌≢◌, ◌⊎◌, ℕ, ◌==◌, ◌≤◌, ◌<◌, Bool, true, false, List, [], ◌∷◌, Option, Some, None, refl, sym, subst, ◌∙◌, arith, inl, inr, le_refl, cases_eq, nat_tests, Packet, Among, CrashCause, Event, Parcel, Source, Move, Cut, Stop, Rise, Meet, Take, cut_with, event_of, moved, step_with, Run, PacketWorld, start, AnswersOwn, IsMadeAt, LocalRun, TimedMove, client_at, event_in, node_of, InKeyOrder, is_after, of_node, AllPut, PutBy, WasPut, move_key, untimed, SameAt}
use Rattle.qs_world_packets.specs.PacketMoves.{MayMove, Step, Tick}
use Rattle.qs_world_merge.specs.MergedRuns.{EachMergeRuns, EventsAre}
use Rattle.qs_world_merge.proofs.KeyOrder.{after_then, first_of, itself_after, other_of}
use Rattle.qs_world_merge.proofs.MayThere.{event_there, may_there, own_there, was_sent}
use Rattle.qs_world_merge.proofs.MovesSame.{moved_alike, moved_other, same_at, then_same_at}
use Rattle.qs_world_merge.proofs.PartsSame.{ClientsAt, clients_stay}
use Rattle.qs_world_merge.proofs.PutsAtStamps.{all_from, put_late}

-- ---- the order

stepped_after : (n stamp free : ℕ) (source : Source) (j : PacketWorld) (o : Option Event) → is_after j.last stamp n ≡ true → is_after (step_with j n stamp free source o).last stamp n ≡ true
stepped_after n stamp free source j None after = after
stepped_after n stamp free source j (Some event) after = itself_after stamp n

cut_after : (n stamp free : ℕ) (is_kept : Bool) (cause : CrashCause) (j : PacketWorld) (o : Option Event) → is_after j.last stamp n ≡ true → is_after (cut_with j n stamp free is_kept cause o).last stamp n ≡ true
cut_after n stamp free is_kept cause j None after = after
cut_after n stamp free is_kept cause j (Some event) after = itself_after stamp n

moved_after : (move : Move) (j : PacketWorld) (s : ℕ) → IsMadeAt s move → is_after j.last s (node_of move) ≡ true → is_after (moved move j).last s (node_of move) ≡ true
moved_after (Step n stamp free source) j s at after = subst (λ (k : ℕ). is_after (moved (Step n stamp free source) j).last k n ≡ true) at (stepped_after n stamp free source j (event_of j n stamp source) (subst (λ (k : ℕ). is_after j.last k n ≡ true) (sym at) after))
moved_after (Cut n stamp free source is_kept cause) j s at after = subst (λ (k : ℕ). is_after (moved (Cut n stamp free source is_kept cause) j).last k n ≡ true) at (cut_after n stamp free is_kept cause j (event_of j n stamp source) (subst (λ (k : ℕ). is_after j.last k n ≡ true) (sym at) after))
moved_after (Stop n stamp cause) j s at after = subst (λ (k : ℕ). is_after (stamp, n) k n ≡ true) at (itself_after stamp n)
moved_after (Rise n stamp inc) j s at after = subst (λ (k : ℕ). is_after (stamp, n) k n ≡ true) at (itself_after stamp n)
moved_after (Meet n stamp m p) j s at after = subst (λ (k : ℕ). is_after (stamp, n) k n ≡ true) at (itself_after stamp n)
moved_after (Take n m p) j s at after = after
moved_after (Tick n m stamp) j s at after = after

-- ---- the induction

-- what a node did so far, and what it will do
record Part (clients_at : ℕ → ℕ) (n : ℕ) (j : PacketWorld) (left : List TimedMove) (end : PacketWorld) : Type 0 where
  at : ℕ
  own : PacketWorld
  run : LocalRun clients_at n at own left end
  same : SameAt clients_at n j own
  stand : ClientsAt clients_at own

record Joined (clients_at : ℕ → ℕ) (size : ℕ) (j : PacketWorld) (merged : List TimedMove) (ends : ℕ → PacketWorld) : Type 0 where
  world : PacketWorld
  run : Run j (untimed merged) world
  events : EventsAre j merged
  each : (n : ℕ) → n < size → SameAt clients_at n world (ends n)
  outside : (n : ℕ) → size ≤ n → SameAt clients_at n world j

module _ (clients_at : ℕ → ℕ) (size : ℕ) (ends : ℕ → PacketWorld) where
  -- one more move
  module _ (t : TimedMove) (ts : List TimedMove) (j : PacketWorld) (stand : ClientsAt clients_at j) (order : InKeyOrder move_key size (move_key t) (t ∷ ts)) (after : is_after j.last t.stamp (node_of t.move) ≡ true)
      (put : WasPut size ends t.move) (parts : (n : ℕ) → n < size → Part clients_at n j (of_node move_key n (t ∷ ts)) (ends n)) where
    mine : Part clients_at (node_of t.move) j (of_node move_key (node_of t.move) (t ∷ ts)) (ends (node_of t.move))
    mine = parts (node_of t.move) order.0

    run_mine : LocalRun clients_at (node_of t.move) mine.at mine.own (t ∷ of_node move_key (node_of t.move) ts) (ends (node_of t.move))
    run_mine = subst (λ (l : List TimedMove). LocalRun clients_at (node_of t.move) mine.at mine.own l (ends (node_of t.move))) (first_of move_key t ts) mine.run

    brought : (n m : ℕ) (p : Packet Parcel) → PutBy size ends n m p → p.stamp < t.stamp → Among (j.network.packets m n) p
    brought n m p put less =
        let part = parts m put.0 in
        subst (λ (ps : List (Packet Parcel)). Among ps p) (sym (part.same.network.packets n)) (put_late clients_at m part.at t.stamp n part.own (of_node move_key m (t ∷ ts)) (ends m) p part.run (all_from size m t.stamp (move_key t) (t ∷ ts) order (le_refl t.stamp)) put.1 less)

    may_now : MayMove j t.move
    may_now = record {
      may = may_there clients_at j mine.own stand mine.stand t.move t.stamp run_mine.0.made_at mine.same after run_mine.0.may;
      sent = was_sent size ends j mine.own t.stamp brought t.move run_mine.0.made_at run_mine.0.may put;
    }

    event_now : event_in j t.move ≡ t.event
    event_now = event_there clients_at j mine.own stand mine.stand t.move mine.same ∙ run_mine.0.event_is

    own_now : AnswersOwn clients_at j t.move
    own_now = own_there clients_at j mine.own stand mine.stand t.move mine.same run_mine.0.own

    moved_mine : Part clients_at (node_of t.move) (moved t.move j) (of_node move_key (node_of t.move) ts) (ends (node_of t.move))
    moved_mine = record {
      at = t.stamp;
      own = moved t.move mine.own;
      run = run_mine.1;
      same = moved_alike clients_at j mine.own stand mine.stand t.move mine.same;
      stand = clients_stay clients_at t.move mine.own mine.stand;
    }

    moved_parts : (n : ℕ) → n < size → Part clients_at n (moved t.move j) (of_node move_key n ts) (ends n)
    moved_parts n in_run = by (cases_eq n (node_of t.move))
      where
        by : (n ≡ node_of t.move) ⊎ (n ≢ node_of t.move) → Part clients_at n (moved t.move j) (of_node move_key n ts) (ends n)
        by (inl is) = subst (λ (k : ℕ). Part clients_at k (moved t.move j) (of_node move_key k ts) (ends k)) (sym is) moved_mine
        by (inr other) =
            let part = parts n in_run in
            let apart : (node_of t.move == n) ≡ false = grind (arith, nat_tests, other) in
            let apart_too : (n == node_of t.move) ≡ false = grind (arith, nat_tests, other) in
            record {
              at = part.at;
              own = part.own;
              run = subst (λ (l : List TimedMove). LocalRun clients_at n part.at part.own l (ends n)) (other_of move_key n t ts apart) part.run;
              same = then_same_at clients_at n (moved t.move j) j part.own (moved_other clients_at n j stand t.move apart_too own_now) part.same;
              stand = part.stand;
            }

  joins : (merged : List TimedMove) (last : ℕ × ℕ) (j : PacketWorld) → ClientsAt clients_at j → InKeyOrder move_key size last merged → is_after j.last last.0 last.1 ≡ true → AllPut size ends merged
      → ((n : ℕ) → n < size → Part clients_at n j (of_node move_key n merged) (ends n)) → Joined clients_at size j merged ends
  joins [] last j stand order after put parts = record {
    world = j;
    run = refl;
    events = tt;
    each = λ n in_run. let part = parts n in_run in subst (λ (w : PacketWorld). SameAt clients_at n j w) (sym part.run) part.same;
    outside = λ n out. same_at clients_at n j;
  }
  joins (t ∷ ts) last j stand order after put parts =
      let now = after_then j.last last t.stamp (node_of t.move) after order.1 in
      let here : InKeyOrder move_key size (move_key t) (t ∷ ts) = (order.0, itself_after t.stamp (node_of t.move), order.2) in
      let may = may_now t ts j stand here now put.0 parts in
      let more = joins ts (move_key t) (moved t.move j) (clients_stay clients_at t.move j stand) order.2
      (moved_after t.move j t.stamp (run_mine t ts j stand here now put.0 parts).0.made_at now) put.1 (moved_parts t ts j stand here now put.0 parts) in
      record {
        world = more.world;
        run = (may, more.run);
        events = (event_now t ts j stand here now put.0 parts, more.events);
        each = more.each;
        outside = λ n out. then_same_at clients_at n more.world (moved t.move j) j (more.outside n out) (moved_other clients_at n j stand t.move (apart n out order.0) (own_now t ts j stand here now put.0 parts));
      }
    where
      apart : (n : ℕ) → size ≤ n → node_of t.move < size → (n == node_of t.move) ≡ false
      apart n out in_run = grind (arith, nat_tests, out, in_run)

pub each_merge_runs : EachMergeRuns
each_merge_runs o merged ends local = record { world = all.world; run = all.run; events = all.events; each = all.each; outside = all.outside }
  where
    all : Joined (client_at o) o.size (start o) merged ends
    all = joins (client_at o) o.size ends merged (0, 0) (start o) (λ k. refl) local.in_order (itself_after 0 0) local.put
        (λ n in_run. record { at = 0; own = start o; run = local.each n in_run; same = same_at (client_at o) n (start o); stand = λ k. refl })
