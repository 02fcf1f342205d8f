-- What is observed of each cell is of one run of all nodes.
use Rattle.qs_world_merge.proofs.Words.{◌≡◌, ℕ, ◌<◌, Bool, true, false, List, [], ◌∷◌, refl, sym, ap, subst, ◌∙◌, arith, cond, map, nat_tests, eqb-self, Packet, Among, Entry, Parcel, Source, Commanded, Queues, Clock, Brought, Move, Cut, Stop, Rise, Meet, Take, plain_packet, PacketWorld, start, LocalRun, TimedMove, client_at, node_of, InKeyOrder, IsMergedBy, is_of_node, of_node, move_key, untimed, SameAt, entry_key, AreTheirMoves, StepMoves, all_moves, step_of}
use Rattle.std.proofs.Common.{nat_lt}
use native.Mathlib.Bridge.{le_prop}
use Rattle.std.proofs.lemmas.Bool.{ltb-true}
use Rattle.qs_node_step.specs.declared.trace.Step as trace
use Rattle.qs_world.specs.World.{Opening}
use Rattle.qs_world_packets.specs.PacketMoves.{Step, Tick}
use Rattle.qs_world_merge.specs.Observed.{AllTook, AreOfLocalRuns, EachIsOfOneRun, IsOfOneRun, Observed, SourceTook, Took, TookOf, TookWhatWasPut, trace_in}
use Rattle.qs_world_merge.specs.PlainPackets.{AllPlain, IsOneRunAlike, PutPlain, SourcePlain, WasPlain}
use Rattle.qs_world_merge.specs.StepMoves.{AreItsMoves, step_key}
use Rattle.qs_world_merge.proofs.Journals.{journal_merged, journal_sorted, run_only}
use Rattle.qs_world_merge.proofs.KeyOrder.{OnlyOf}
use Rattle.qs_world_merge.proofs.Members.{among_map}
use Rattle.qs_world_merge.proofs.MergeByKey.{Merges, Rising, merge_of, merged_all, merged_holds}
use Rattle.qs_world_merge.proofs.MergedOnce.{follows_in_order, is_sorted, is_stable, merged_by_once}
use Rattle.qs_world_merge.proofs.PlainRuns.{each_plain_merge_runs}
use Rattle.qs_world_merge.proofs.StepsMerge.{moves_in_order, moves_of_node, step_moves_key, steps_in_order, steps_of_node, steps_only, steps_rise}

module _ (o : Opening) (observed : ℕ → Observed) (local : AreOfLocalRuns o observed) (linked : TookWhatWasPut o.size observed) where
  -- the steps of a node, and the world to which they lead; a number that is no node has none
  abbrev list_if : (n : ℕ) (b : Bool) → nat_lt n o.size ≡ b → List StepMoves
  list_if n true is = (local n (ltb-true n o.size is)).steps
  list_if n false is = []

  abbrev world_if : (n : ℕ) (b : Bool) → nat_lt n o.size ≡ b → PacketWorld
  world_if n true is = (local n (ltb-true n o.size is)).world
  world_if n false is = start o

  abbrev lists : ℕ → List StepMoves
  lists n = list_if n (nat_lt n o.size) refl

  abbrev worlds : ℕ → PacketWorld
  worlds n = world_if n (nat_lt n o.size) refl

  -- what is told of it
  record At (n : ℕ) (in_run : n < o.size) (steps : List StepMoves) (world : PacketWorld) : Type 0 where
    steps_is : steps ≡ (local n in_run).steps
    world_is : world ≡ (local n in_run).world

  at : (n : ℕ) (in_run : n < o.size) → At n in_run (lists n) (worlds n)
  at n in_run = by (nat_lt n o.size) refl
    where
      by : (b : Bool) (is : nat_lt n o.size ≡ b) → At n in_run (list_if n b is) (world_if n b is)
      by true is = record { steps_is = ap (λ (h : n < o.size). (local n h).steps) (le_prop (ltb-true n o.size is) in_run); world_is = ap (λ (h : n < o.size). (local n h).world) (le_prop (ltb-true n o.size is) in_run) }
      by false is = absurd (grind (arith, nat_tests, is, in_run))

  runs : (n : ℕ) → n < o.size → LocalRun (client_at o) n 0 (start o) (all_moves (lists n)) (worlds n)
  runs n in_run = let a = at n in_run in subst (λ (w : PacketWorld). LocalRun (client_at o) n 0 (start o) (all_moves (lists n)) w) (sym a.world_is) (subst (λ (l : List StepMoves). LocalRun (client_at o) n 0 (start o) (all_moves l) (local n in_run).world) (sym a.steps_is) (local n in_run).run)

  takes : (n : ℕ) → n < o.size → AllTook o.size n (observed n).took (all_moves (lists n))
  takes n in_run = let a = at n in_run in subst (λ (l : List StepMoves). AllTook o.size n (observed n).took (all_moves l)) (sym a.steps_is) (local n in_run).takes

  are_each : (n : ℕ) → n < o.size → AreTheirMoves o.size (lists n)
  are_each n in_run = let a = at n in_run in subst (λ (l : List StepMoves). AreTheirMoves o.size l) (sym a.steps_is) (local n in_run).are

  rising : (n : ℕ) → n < o.size → Rising step_moves_key n 0 (lists n)
  rising n in_run = steps_rise (client_at o) o.size n 0 (start o) (lists n) (worlds n) (are_each n in_run) (runs n in_run)

  -- ---- each packet that was taken was put

  was_put : (n m : ℕ) (p : Packet Parcel) → n < o.size → TookOf o.size n (observed n).took m p → PutPlain o.size worlds n m p
  was_put n m p in_run took =
      let a = at m took.in_run in
      let among = linked n m (plain_packet p) in_run took.in_run took.other took.among in
      let found = among_map plain_packet ((local m took.in_run).world.network.packets m n) (plain_packet p) (((local m took.in_run).puts n in_run (λ is. took.other (sym is))).there (plain_packet p) among) in
      record { in_run = took.in_run; packet = found.0; among = subst (λ (w : PacketWorld). Among (w.network.packets m n) found.0) (sym a.world_is) found.1; same = found.2 }

  source_put : (n : ℕ) (source : Source) → n < o.size → SourceTook o.size n (observed n).took source → SourcePlain o.size worlds n source
  source_put n (Commanded k) in_run took = tt
  source_put n Queues in_run took = tt
  source_put n Clock in_run took = tt
  source_put n (Brought m p) in_run took = was_put n m p in_run took

  move_put : (n : ℕ) (move : Move) → node_of move ≡ n → n < o.size → Took o.size n (observed n).took move → WasPlain o.size worlds move
  move_put n (Step k stamp free source) is in_run took = subst (λ (i : ℕ). SourcePlain o.size worlds i source) (sym is) (source_put n source in_run took)
  move_put n (Cut k stamp free source is_kept cause) is in_run took = subst (λ (i : ℕ). SourcePlain o.size worlds i source) (sym is) (source_put n source in_run took)
  move_put n (Stop k stamp cause) is in_run took = tt
  move_put n (Rise k stamp inc) is in_run took = tt
  move_put n (Meet k stamp m p) is in_run took = subst (λ (i : ℕ). PutPlain o.size worlds i m p) (sym is) (was_put n m p in_run took)
  move_put n (Take k m p) is in_run took = subst (λ (i : ℕ). PutPlain o.size worlds i m p) (sym is) (was_put n m p in_run took)
  move_put n (Tick k m stamp) is in_run took = tt

  -- of each node's list as of its part of the merge
  head_took : (n : ℕ) (t : TimedMove) (xs : List TimedMove) → is_of_node move_key n t ≡ true → AllTook o.size n (observed n).took (cond (is_of_node move_key n t) (t ∷ xs) xs) → Took o.size n (observed n).took t.move × AllTook o.size n (observed n).took xs
  head_took n t xs is all = subst (λ (b : Bool). AllTook o.size n (observed n).took (cond b (t ∷ xs) xs)) is all

  tail_took : (n : ℕ) (t : TimedMove) (xs : List TimedMove) → AllTook o.size n (observed n).took (cond (is_of_node move_key n t) (t ∷ xs) xs) → AllTook o.size n (observed n).took xs
  tail_took n t xs all = by (is_of_node move_key n t) all
    where
      by : (b : Bool) → AllTook o.size n (observed n).took (cond b (t ∷ xs) xs) → AllTook o.size n (observed n).took xs
      by true all = all.1
      by false all = all

  all_put : (last : ℕ × ℕ) (merged : List TimedMove) → InKeyOrder move_key o.size last merged → ((n : ℕ) → n < o.size → AllTook o.size n (observed n).took (of_node move_key n merged)) → AllPlain o.size worlds merged
  all_put last [] order took = tt
  all_put last (t ∷ ts) order took =
      let mine = head_took (node_of t.move) t (of_node move_key (node_of t.move) ts) (eqb-self (node_of t.move)) (took (node_of t.move) order.0) in
      (move_put (node_of t.move) t.move refl order.0 mine.0, all_put (t.stamp, node_of t.move) ts order.2 (λ n in_run. tail_took n t (of_node move_key n ts) (took n in_run)))

  -- ---- the merge

  abbrev merged : List StepMoves
  merged = merge_of step_moves_key o.size lists

  are_merged : AreTheirMoves o.size merged
  are_merged = merged_holds step_moves_key (AreItsMoves o.size) o.size lists are_each

  made : Merges step_moves_key o.size o.size lists
  made = merged_all step_moves_key o.size lists rising

  each_of : (n : ℕ) → n < o.size → of_node move_key n (all_moves merged) ≡ all_moves (lists n)
  each_of n in_run = moves_of_node o.size n merged are_merged ∙ ap (λ (l : List StepMoves). all_moves l) (made.each n in_run)

  one_run : IsOneRunAlike o (all_moves merged) worlds
  one_run = each_plain_merge_runs o (all_moves merged) worlds (record {
    in_order = order;
    each = λ n in_run. subst (λ (l : List TimedMove). LocalRun (client_at o) n 0 (start o) l (worlds n)) (sym (each_of n in_run)) (runs n in_run);
    put = all_put (0, 0) (all_moves merged) order (λ n in_run. subst (λ (l : List TimedMove). AllTook o.size n (observed n).took l) (sym (each_of n in_run)) (takes n in_run));
  })
    where
      order : InKeyOrder move_key o.size (0, 0) (all_moves merged)
      order = moves_in_order o.size (0, 0) merged are_merged made.order

  -- ---- the history

  own_journal : (n : ℕ) → n < o.size → (worlds n).journal ≡ (observed n).journal
  own_journal n in_run = let a = at n in_run in ap (λ (w : PacketWorld). w.journal) a.world_is ∙ (local n in_run).journal_is

  only : (n : ℕ) → n < o.size → OnlyOf entry_key n (observed n).journal
  only n in_run = subst (λ (es : List Entry). OnlyOf entry_key n es) (own_journal n in_run) (run_only (client_at o) n 0 (start o) (all_moves (lists n)) (worlds n) (runs n in_run) refl)

  -- ---- and the trace

  own_trace : (n : ℕ) → n < o.size → map step_of (lists n) ≡ (observed n).trace
  own_trace n in_run = let a = at n in_run in ap (λ (l : List StepMoves). map step_of l) a.steps_is ∙ (local n in_run).trace_is

  own_steps : (n : ℕ) → n < o.size → of_node step_key n (map step_of merged) ≡ (observed n).trace
  own_steps n in_run = steps_of_node n merged ∙ (ap (λ (l : List StepMoves). map step_of l) (made.each n in_run) ∙ own_trace n in_run)

  steps_merged : IsMergedBy step_key o.size (trace_in observed) (map step_of merged)
  steps_merged = record {
    in_order = is_sorted step_key (0, 0) (map step_of merged) (follows_in_order step_key o.size (0, 0) (map step_of merged) (steps_in_order o.size (0, 0) merged made.order));
    as_they_stood = is_stable step_key o.size (trace_in observed) (map step_of merged)
        (λ n in_run. subst (λ (l : List trace.Step). OnlyOf step_key n l) (own_trace n in_run) (steps_only n 0 (lists n) (rising n in_run)))
        own_steps
        (λ n out. steps_of_node n merged ∙ ap (λ (l : List StepMoves). map step_of l) (made.none n out));
  }

  of_one_run : IsOfOneRun o observed local
  of_one_run = record {
    steps = merged;
    are = are_merged;
    moves = one_run.moves;
    alike = one_run.alike;
    world = one_run.is.world;
    run = one_run.is.run;
    events = one_run.is.events;
    each = λ n in_run. let a = at n in_run in subst (λ (w : PacketWorld). SameAt (client_at o) n one_run.is.world w) a.world_is (one_run.is.each n in_run);
    journal = journal_merged observed o.size one_run.is.world.journal (journal_sorted o (untimed one_run.moves) one_run.is.world one_run.is.run) only
        (λ n in_run. (one_run.is.each n in_run).entries ∙ (ap (λ (es : List Entry). of_node entry_key n es) (own_journal n in_run) ∙ only n in_run))
        (λ n out. (one_run.is.outside n out).entries);
    own = own_steps;
    trace = λ steps is. merged_by_once step_key o.size (trace_in observed) (map step_of merged) steps steps_merged is;
  }

pub each_is_of_one_run : EachIsOfOneRun
each_is_of_one_run o observed local linked = of_one_run o observed local linked
