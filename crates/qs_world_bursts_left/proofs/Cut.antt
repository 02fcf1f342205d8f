-- Amid a burst a node has made some of its steps, and nothing tells how far others had come at that time. Take of each other one the steps up to the stamp of the last of these: what
-- was taken in them, or by the node, bears a lesser stamp, so it was put in them, or by the node so far. So all of that is in one run.
use Rattle.std.proofs.Common.{◌≡◌, ◌≢◌, ◌⊎◌, ◌∙◌, ap, inl, inr, refl, subst, sym, ℕ, ◌==◌, ◌≤◌, ◌<◌, Bool, true, false, List, [], ◌∷◌, ◌++◌, arith, map, nat_lt, if◌then◌else◌}
use Rattle.std.specs.Prelude.{All}
use Rattle.std.specs.List.{filter}
use Rattle.std.proofs.lemmas.Bool.{and_parts, eqb-false, eqb-true, ltb-true}
use Rattle.std.proofs.lemmas.Bool.Decides.{nat_tests}
use Rattle.std.proofs.lemmas.List.{map-append}
use Rattle.qs_book_journal.specs.declared.entry.Entry.{Entry}
use Rattle.qs_book_machine.specs.Clauses.{is_crash}
use Rattle.qs_node_step.specs.declared.trace.Step as trace
use Rattle.qs_packet.specs.declared.message.Message.{Message}
use Rattle.qs_session_channels.proofs.Grown.{among_append}
use Rattle.qs_session_channels.specs.End.{Packet}
use Rattle.qs_session_channels.specs.Network.{Among}
use Rattle.qs_world.specs.Openings.{IsOpening}
use Rattle.qs_world.specs.World.{Opening, Parcel}
use Rattle.qs_world_bursts_left.proofs.Fronts.{Rises, Splits, are_front, behind, behind_late, last_stamp, moves_both, moves_low, put_late_of, rises_front, rises_rest, splits, trace_rises, upto, upto_low, whole}
use Rattle.qs_world_links.proofs.Linking.{put_to_more}
use Rattle.qs_world_links.specs.Between.{BearsStamp}
use Rattle.qs_world_merge.proofs.Members.{among_map, map_among}
use Rattle.qs_world_merge.proofs.MayThere.{meets_below, steps_below}
use Rattle.qs_world_merge.proofs.MergeByKey.{Rising}
use Rattle.qs_world_merge.proofs.PutsAtStamps.{put_late}
use Rattle.qs_world_merge.proofs.StepsMerge.{step_moves_key, steps_rise}
use Rattle.qs_world_merge.specs.LocalRuns.{IsMadeAt, LocalRun, TimedMove, client_at}
use Rattle.qs_world_merge.specs.Observed.{AllTook, AreOfLocalRuns, IsOfLocalRun, Observed, SourceTook, Took, TookOf, TookWhatWasPut}
use Rattle.qs_world_merge.specs.Reaching.{AllUpTo, HasReached, nothing_observed}
use Rattle.qs_world_merge.specs.StepMoves.{AreTheirMoves, StepMoves, all_moves, seen, step_of}
use Rattle.qs_world_packets.specs.PacketMoves.{Source, Commanded, Queues, Clock, Brought, Move, Step, Cut, Stop, Rise, Meet, Take, Tick, may_move, may_step, moved}
use Rattle.qs_world_packets.specs.PacketSessions.{plain_packet}
use Rattle.qs_world_packets.specs.PacketWorld.{PacketWorld, start}
use Rattle.qs_world_rooms.proofs.Amid.{seen_front, takes_front}
use Rattle.qs_world_rooms.proofs.InOneRun.{IsInRun, in_one_run}
use Rattle.qs_world_traces.specs.Links.{observed_by, put_to, took_from}

-- ---- what was taken bears a lesser stamp

abbrev is_below : ℕ → Packet Message → Bool
is_below s p = nat_lt p.stamp s

less_test : (a b : ℕ) → a < b → nat_lt a b ≡ true
less_test a b less = grind (arith, nat_tests, less)

kept_below : (s : ℕ) (xs : List (Packet Message)) (p : Packet Message) → p.stamp < s → Among xs p → Among (filter (is_below s) xs) p
kept_below s [] p less among = absurd among
kept_below s (x ∷ xs) p less (inl is) = by (is_below s x) (ap (is_below s) is ∙ less_test p.stamp s less)
  where
    by : (b : Bool) → b ≡ true → Among (if b then x ∷ filter (is_below s) xs else filter (is_below s) xs) p
    by true t = inl is
    by false t = absurd (cc t)
kept_below s (x ∷ xs) p less (inr more) = by (is_below s x) (kept_below s xs p less more)
  where
    by : (b : Bool) → Among (filter (is_below s) xs) p → Among (if b then x ∷ filter (is_below s) xs else filter (is_below s) xs) p
    by true kept = inr kept
    by false kept = kept

was_below : (s : ℕ) (xs : List (Packet Message)) (p : Packet Message) → Among (filter (is_below s) xs) p → Among xs p × (p.stamp < s)
was_below s [] p among = absurd among
was_below s (x ∷ xs) p among = by (is_below s x) refl among (was_below s xs p)
  where
    by : (b : Bool) → is_below s x ≡ b → Among (if b then x ∷ filter (is_below s) xs else filter (is_below s) xs) p → (Among (filter (is_below s) xs) p → Among xs p × (p.stamp < s)) → Among (x ∷ xs) p × (p.stamp < s)
    by true t (inl is) rest = (inl is, subst (λ (q : Packet Message). q.stamp < s) is (ltb-true x.stamp s t))
    by true t (inr more) rest = let h = rest more in (inr h.0, h.1)
    by false t more rest = let h = rest more in (inr h.0, h.1)

module _ (size n s : ℕ) (took : ℕ → List (Packet Message)) where
  abbrev less : ℕ → List (Packet Message)
  less m = filter (is_below s) (took m)

  took_less : (m : ℕ) (p : Packet Parcel) → p.stamp < s → TookOf size n took m p → TookOf size n less m p
  took_less m p lower t = record { in_run = t.in_run; other = t.other; among = kept_below s (took m) (plain_packet p) lower t.among }

  source_less : (w : PacketWorld) (k stamp at : ℕ) (source : Source) → stamp ≡ at → at ≤ s → may_step w k stamp source ≡ true → SourceTook size n took source → SourceTook size n less source
  source_less w k stamp at (Commanded c) is low may t = tt
  source_less w k stamp at Queues is low may t = tt
  source_less w k stamp at Clock is low may t = tt
  source_less w k stamp at (Brought m p) is low may t = let lower = steps_below w k stamp at m p is may in took_less m p (omega (arith, lower, low)) t

  move_less : (clients_at : ℕ → ℕ) (at : ℕ) (w : PacketWorld) (stamp : ℕ) (move : Move) → IsMadeAt stamp move → stamp ≤ s → may_move w move ≡ true → Took size n took move → Took size n less move
  move_less clients_at at w stamp (Step k st free source) made low may t = source_less w k st stamp source made low may t
  move_less clients_at at w stamp (Cut k st free source is_kept cause) made low may t = source_less w k st stamp source made low (and_parts (may_step w k st source) (is_crash cause) may).0 t
  move_less clients_at at w stamp (Stop k st cause) made low may t = tt
  move_less clients_at at w stamp (Rise k st inc) made low may t = tt
  move_less clients_at at w stamp (Meet k st m p) made low may t = let lower = meets_below w k st stamp m p made may in took_less m p (omega (arith, lower, low)) t
  move_less clients_at at w stamp (Take k m p) made low may t = took_less m p (omega (arith, made, low)) t
  move_less clients_at at w stamp (Tick k m st) made low may t = tt

  all_less : (clients_at : ℕ → ℕ) (at : ℕ) (old : PacketWorld) (ts : List TimedMove) (new : PacketWorld) → LocalRun clients_at n at old ts new → AllUpTo s ts → AllTook size n took ts → AllTook size n less ts
  all_less clients_at at old [] new run low took_all = tt
  all_less clients_at at old (t ∷ ts) new run low took_all =
      (move_less clients_at at old t.stamp t.move run.0.made_at low.0 run.0.may took_all.0, all_less clients_at t.stamp (moved t.move old) ts new run.1 low.1 took_all.1)

took_front : (size n : ℕ) (took : ℕ → List (Packet Message)) (xs ys : List TimedMove) → AllTook size n took (xs ++ ys) → AllTook size n took xs
took_front size n took [] ys all = tt
took_front size n took (x ∷ xs) ys all = (all.0, took_front size n took xs ys all.1)

-- ---- the cut

module _ (o : Opening) (opens : IsOpening o) (k : ℕ) (in_k : k < o.size) (journals : ℕ → List Entry) (traces : ℕ → List trace.Step) (each : AreOfLocalRuns o (λ n. observed_by (journals n) (traces n)))
    (linked : TookWhatWasPut o.size (λ n. observed_by (journals n) (traces n))) (journal : List Entry) (so_far rest : List trace.Step) (is : traces k ≡ so_far ++ rest) (bears : All BearsStamp rest)
    (stamp : ℕ) (world : PacketWorld) (reached : HasReached o k (observed_by journal so_far) stamp world) where
  abbrev s : ℕ
  s = last_stamp 0 so_far

  abbrev in_all : ℕ → Observed
  in_all n = observed_by (journals n) (traces n)

  -- what is told of a node so far
  record Comes (n : ℕ) (told : Observed) : Type 0 where
    local : IsOfLocalRun o n told
    put : (m : ℕ) (p : Packet Message) → m < o.size → m ≢ n → p.stamp < s → Among ((in_all n).put m) p → Among (told.put m) p
    took : (m : ℕ) (p : Packet Message) → Among (told.took m) p → Among ((in_all n).took m) p × (p.stamp < s)

  -- ---- of another node

  module _ (n : ℕ) (in_run : n < o.size) where
    abbrev all : IsOfLocalRun o n (in_all n)
    all = each n in_run

    abbrev front : List StepMoves
    front = upto s all.steps

    are : AreTheirMoves o.size front
    are = are_front o.size front (behind s all.steps) (subst (AreTheirMoves o.size) (sym (whole s all.steps)) all.are)

    moves_are : all_moves front ++ all_moves (behind s all.steps) ≡ all_moves all.steps
    moves_are = sym (moves_both front (behind s all.steps)) ∙ ap (λ (l : List StepMoves). all_moves l) (whole s all.steps)

    goes : Splits (client_at o) n 0 (start o) (all_moves front) (all_moves (behind s all.steps)) all.world
    goes = splits (client_at o) n 0 (start o) (all_moves front) (all_moves (behind s all.steps)) all.world
        (subst (λ (l : List TimedMove). LocalRun (client_at o) n 0 (start o) l all.world) (sym moves_are) all.run)

    rising : Rising step_moves_key n 0 all.steps
    rising = steps_rise (client_at o) o.size n 0 (start o) all.steps all.world all.are all.run

    abbrev of_other : Observed
    of_other = record {
      journal = goes.mid.journal;
      trace = map step_of front;
      put = λ m. map plain_packet (goes.mid.network.packets n m);
      took = λ m. filter (is_below s) ((in_all n).took m);
    }

    other_put : (m : ℕ) (p : Packet Message) → m < o.size → m ≢ n → p.stamp < s → Among ((in_all n).put m) p → Among (of_other.put m) p
    other_put m p low apart lower among = map_among plain_packet (goes.mid.network.packets n m) found.0 p
        (put_late (client_at o) n goes.since s m goes.mid (all_moves (behind s all.steps)) all.world found.0 goes.rest (behind_late o.size n s 0 all.steps rising all.are) found.1
        (subst (λ (q : Packet Message). q.stamp < s) (sym found.2) lower)) found.2
      where
        found : (q : Packet Parcel) × Among (all.world.network.packets n m) q × (plain_packet q ≡ p)
        found = among_map plain_packet (all.world.network.packets n m) p ((all.puts m low apart).there p among)

    comes_other : Comes n of_other
    comes_other = record {
      local = record {
        steps = front;
        are = are;
        world = goes.mid;
        run = goes.run;
        journal_is = refl;
        trace_is = refl;
        puts = λ m low apart. record { there = λ p h. h; only = λ p h. h };
        takes = all_less o.size n s (in_all n).took (client_at o) 0 (start o) (all_moves front) goes.mid goes.run (upto_low o.size s all.steps all.are)
            (took_front o.size n (in_all n).took (all_moves front) (all_moves (behind s all.steps)) (subst (AllTook o.size n (in_all n).took) (sym moves_are) all.takes));
      };
      put = other_put;
      took = λ m p among. was_below s ((in_all n).took m) p among;
    }

  -- ---- of the node itself

  rises : Rises 0 (so_far ++ rest)
  rises = subst (Rises 0) ((each k in_k).trace_is ∙ is) (trace_rises k 0 (each k in_k).steps (rising k in_k))

  abbrev of_itself : Observed
  of_itself = record { journal = journal; trace = so_far; put = λ m. map seen (put_to m so_far); took = λ m. filter (is_below s) (map seen (took_from m so_far)) }

  own_low : AllUpTo s (all_moves reached.steps)
  own_low = subst (λ (l : List trace.Step). AllUpTo (last_stamp 0 l) (all_moves reached.steps)) reached.trace_is
      (moves_low o.size 0 reached.steps reached.are (subst (Rises 0) (sym reached.trace_is) (rises_front 0 so_far rest rises)))

  own_put : (m : ℕ) (p : Packet Message) → p.stamp < s → Among (map seen (put_to m (traces k))) p → Among (map seen (put_to m so_far)) p
  own_put m p lower among = by (among_append (map seen (put_to m so_far)) (map seen (put_to m rest)) p (subst (λ (l : List (Packet Message)). Among l p) puts_are among))
    where
      puts_are : map seen (put_to m (traces k)) ≡ map seen (put_to m so_far) ++ map seen (put_to m rest)
      puts_are = ap (λ (l : List trace.Step). map seen (put_to m l)) is ∙ (ap (map seen) (put_to_more m so_far rest) ∙ map-append seen (put_to m so_far) (put_to m rest))

      by : Among (map seen (put_to m so_far)) p ⊎ Among (map seen (put_to m rest)) p → Among (map seen (put_to m so_far)) p
      by (inl before) = before
      by (inr later) = let past = put_late_of s m rest p (rises_rest 0 so_far rest rises) bears later in absurd (omega (arith, past, lower))

  own_took : (m : ℕ) (p : Packet Message) → Among (filter (is_below s) (map seen (took_from m so_far))) p → Among (map seen (took_from m (traces k))) p × (p.stamp < s)
  own_took m p among = let h = was_below s (map seen (took_from m so_far)) p among in
      (seen_front (took_from m so_far) (took_from m (traces k)) p (takes_front m so_far (traces k) (record { rest = rest; is = is })) h.0, h.1)

  itself_reached : HasReached o k of_itself stamp world
  itself_reached = record {
    steps = reached.steps;
    are = reached.are;
    run = reached.run;
    up_to = reached.up_to;
    journal_is = reached.journal_is;
    trace_is = reached.trace_is;
    puts = reached.puts;
    takes = all_less o.size k s (observed_by journal so_far).took (client_at o) 0 (start o) (all_moves reached.steps) world reached.run own_low reached.takes;
  }

  comes_itself : Comes k of_itself
  comes_itself = record {
    local = record {
      steps = itself_reached.steps;
      are = itself_reached.are;
      world = world;
      run = itself_reached.run;
      journal_is = itself_reached.journal_is;
      trace_is = itself_reached.trace_is;
      puts = itself_reached.puts;
      takes = itself_reached.takes;
    };
    put = λ m p low apart lower among. own_put m p lower among;
    took = own_took;
  }

  -- ---- of all nodes; a number that is none has nothing

  abbrev told_if : (n : ℕ) (b : Bool) → nat_lt n o.size ≡ b → (itself : Bool) → Observed
  told_if n true low true = of_itself
  told_if n true low false = of_other n (ltb-true n o.size low)
  told_if n false low itself = nothing_observed

  abbrev told : ℕ → Observed
  told n = told_if n (nat_lt n o.size) refl (n == k)

  comes : (n : ℕ) → n < o.size → Comes n (told n)
  comes n in_run = by (nat_lt n o.size) refl (n == k) refl
    where
      by : (b : Bool) (low : nat_lt n o.size ≡ b) (itself : Bool) → (n == k) ≡ itself → Comes n (told_if n b low itself)
      by true low true same = subst (λ (j : ℕ). Comes j of_itself) (sym (eqb-true n k same)) comes_itself
      by true low false same = comes_other n (ltb-true n o.size low)
      by false low itself same = absurd (grind (arith, nat_tests, low, in_run))

  took_put : TookWhatWasPut o.size told
  took_put n m p low_n low_m apart among =
      let h = (comes n low_n).took m p among in
      (comes m low_m).put n p low_n (λ same. apart (sym same)) h.1 (linked n m p low_n low_m apart h.0)

  itself_told : told k ≡ of_itself
  itself_told = by (nat_lt k o.size) refl (k == k) refl
    where
      by : (b : Bool) (low : nat_lt k o.size ≡ b) (itself : Bool) → (k == k) ≡ itself → told_if k b low itself ≡ of_itself
      by true low true same = refl
      by true low false same = absurd (eqb-false k k same refl)
      by false low itself same = absurd (grind (arith, nat_tests, low, in_k))

  -- so what the node has is what it has in a run of all
  pub amid_one_run : IsInRun o k world
  amid_one_run = in_one_run o opens told (λ n low. (comes n low).local) took_put k in_k stamp world (subst (λ (t : Observed). HasReached o k t stamp world) (sym itself_told) itself_reached)
