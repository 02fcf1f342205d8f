-- A node that goes on by one more step has come so far by a longer local run; and no step of it has a greater stamp than the last.
use Rattle.qs_world_merge.proofs.Words.{◌≡◌, ℕ, ◌≤◌, Bool, true, List, [], ◌∷◌, ◌++◌, Option, Some, None, refl, sym, ap, subst, ◌∙◌, arith, map, nat_tests, Packet, Among, with_at, CrashCause, Event, Host, Parcel, Source, Commanded, Queues, Clock, Brought, Move, Cut, Stop, Rise, Meet, Take, cut_with, event_of, moved, step_with, plain_packet, PacketWorld, start, is_after, AreTheirMoves, StepMoves, all_moves, step_of, HasStampsUpTo, IsMadeAt, LocalRun, TimedMove, node_of, client_at, eqb-self}
use Rattle.std.proofs.lemmas.List.{flat_map_more, map-append}
use Rattle.qs_packet.specs.declared.message.Message.{Message}
use Rattle.qs_node_step.specs.declared.trace.Step as trace
use Rattle.qs_world_packets.specs.PacketMoves.{Step, Tick}
use Rattle.qs_world_merge.specs.StepMoves.{AllAt, AreItsMoves, moves_in}
use Rattle.qs_world_merge.specs.Reaching.{AllUpTo, EachBegins, EachGoesOn, EachReachedUpTo, EachReachedLocally}
use Rattle.qs_world_merge.specs.Observed.{AllTook, SourceTook, Took, TookOf}
use Rattle.qs_base_lemmas.proofs.Tests.{zero_le}
use Rattle.qs_world_merge.proofs.KeyOrder.{first_after}

-- ---- lists

moves_and_one : (ds : List StepMoves) (d : StepMoves) → all_moves (ds ++ d ∷ []) ≡ all_moves ds ++ moves_in d
moves_and_one ds d = sym (flat_map_more moves_in [] ds d)

are_and_one : (size : ℕ) (ds : List StepMoves) (d : StepMoves) → AreTheirMoves size ds → AreItsMoves size d → AreTheirMoves size (ds ++ d ∷ [])
are_and_one size [] d are is = (is, tt)
are_and_one size (e ∷ ds) d are is = (are.0, are_and_one size ds d are.1 is)

steps_and_one : (ds : List StepMoves) (d : StepMoves) → ◌≡◌ {A = List trace.Step} (map step_of (ds ++ d ∷ [])) (map step_of ds ++ d.step ∷ [])
steps_and_one ds d = map-append step_of ds (d ∷ [])

pub up_to_both : (s later : ℕ) (xs ys : List TimedMove) → s ≤ later → AllUpTo s xs → AllUpTo later ys → AllUpTo later (xs ++ ys)
up_to_both s later [] ys low a b = b
up_to_both s later (x ∷ xs) ys low a b = (omega (arith, low, a.0), up_to_both s later xs ys low a.1 b)

pub all_up_to : (s n : ℕ) (ts : List TimedMove) → AllAt s n ts → AllUpTo s ts
all_up_to s n [] at = tt
all_up_to s n (t ∷ ts) at = (omega (arith, at.0), all_up_to s n ts at.2)

-- ---- runs

run_from : (clients_at : ℕ → ℕ) (n at s : ℕ) (old : PacketWorld) (ys : List TimedMove) (new : PacketWorld) → at ≤ s → LocalRun clients_at n s old ys new → LocalRun clients_at n at old ys new
run_from clients_at n at s old [] new low run = run
run_from clients_at n at s old (y ∷ ys) new low run =
    let h = run.0 in (record { of_node = h.of_node; rises = omega (arith, low, h.rises); made_at = h.made_at; may = h.may; event_is = h.event_is; own = h.own }, run.1)

pub run_on : (clients_at : ℕ → ℕ) (n at s : ℕ) (old : PacketWorld) (xs ys : List TimedMove) (mid new : PacketWorld) → at ≤ s → AllUpTo s xs → LocalRun clients_at n at old xs mid → LocalRun clients_at n s mid ys new → LocalRun clients_at n at old (xs ++ ys) new
run_on clients_at n at s old [] ys mid new low up run more = run_from clients_at n at s old ys new low (subst (λ (w : PacketWorld). LocalRun clients_at n s w ys new) run more)
run_on clients_at n at s old (x ∷ xs) ys mid new low up run more = (run.0, run_on clients_at n x.stamp s (moved x.move old) xs ys mid new up.0 up.1 run.1 more)

-- ---- what was taken

module _ (size n : ℕ) (old new : ℕ → List (Packet Message)) (grows : (m : ℕ) (p : Packet Message) → Among (old m) p → Among (new m) p) where
  took_of : (m : ℕ) (p : Packet Parcel) → TookOf size n old m p → TookOf size n new m p
  took_of m p t = record { in_run = t.in_run; other = t.other; among = grows m (plain_packet p) t.among }

  source_took : (source : Source) → SourceTook size n old source → SourceTook size n new source
  source_took (Commanded k) t = tt
  source_took Queues t = tt
  source_took Clock t = tt
  source_took (Brought m p) t = took_of m p t

  move_took : (move : Move) → Took size n old move → Took size n new move
  move_took (Step k stamp free source) t = source_took source t
  move_took (Cut k stamp free source is_kept cause) t = source_took source t
  move_took (Stop k stamp cause) t = tt
  move_took (Rise k stamp inc) t = tt
  move_took (Meet k stamp m p) t = took_of m p t
  move_took (Take k m p) t = took_of m p t
  move_took (Tick k m stamp) t = tt

  all_took : (xs ys : List TimedMove) → AllTook size n old xs → AllTook size n new ys → AllTook size n new (xs ++ ys)
  all_took [] ys a b = b
  all_took (x ∷ xs) ys a b = (move_took x.move a.0, all_took xs ys a.1 b)

-- ---- one more step

pub each_begins : EachBegins
each_begins o n = record { steps = []; are = tt; run = refl; up_to = tt; journal_is = refl; trace_is = refl; puts = λ m in_run other. record { there = λ p h. absurd h; only = λ p h. absurd h }; takes = tt }

pub each_goes_on : EachGoesOn
each_goes_on o n observed stamp world d new_says new s on = record {
  steps = s.steps ++ d ∷ [];
  are = are_and_one o.size s.steps d s.are on.are;
  run = subst (λ (l : List TimedMove). LocalRun (client_at o) n 0 (start o) l new) (sym (moves_and_one s.steps d)) (run_on (client_at o) n 0 stamp (start o) (all_moves s.steps) (moves_in d) world new (zero_le stamp) s.up_to s.run on.run);
  up_to = subst (λ (l : List TimedMove). AllUpTo d.step.stamp l) (sym (moves_and_one s.steps d)) (up_to_both stamp d.step.stamp (all_moves s.steps) (moves_in d) later s.up_to (all_up_to d.step.stamp d.step.node.0 (moves_in d) on.are.at));
  journal_is = on.journal_is;
  trace_is = steps_and_one s.steps d ∙ (ap (λ (l : List trace.Step). l ++ d.step ∷ []) s.trace_is ∙ sym on.trace_is);
  puts = on.puts;
  takes = subst (λ (l : List TimedMove). AllTook o.size n new_says.took l) (sym (moves_and_one s.steps d)) (all_took o.size n observed.took new_says.took on.took (all_moves s.steps) (moves_in d) s.takes on.takes);
}
  where
    later : stamp ≤ d.step.stamp
    later = omega (arith, on.run.0.rises, on.are.at.0)

pub each_reached_locally : EachReachedLocally
each_reached_locally o n observed stamp world s = record { steps = s.steps; are = s.are; world = world; run = s.run; journal_is = s.journal_is; trace_is = s.trace_is; puts = s.puts; takes = s.takes }

-- ---- no step has a greater stamp

host_at : (hosts : ℕ → Host) (n : ℕ) (host : Host) (s : ℕ) → host.stamp ≤ s → (with_at hosts n host n).stamp ≤ s
host_at hosts n host s low = rw (eqb-self n) low

after_at : (s stamp n : ℕ) → s ≤ stamp → is_after (s, n) stamp n ≡ true
after_at s stamp n low = grind (arith, nat_tests, low)

step_up_to : (size n stamp free s : ℕ) (source : Source) (w : PacketWorld) (o : Option Event) → stamp ≤ s → HasStampsUpTo size n s w → HasStampsUpTo size n s (step_with w n stamp free source o)
step_up_to size n stamp free s source w None at low = low
step_up_to size n stamp free s source w (Some event) at low = record { size_is = low.size_is; host = host_at w.hosts n _ s at; last = after_at stamp s n at }

cut_up_to : (size n stamp free s : ℕ) (is_kept : Bool) (cause : CrashCause) (w : PacketWorld) (o : Option Event) → stamp ≤ s → HasStampsUpTo size n s w → HasStampsUpTo size n s (cut_with w n stamp free is_kept cause o)
cut_up_to size n stamp free s is_kept cause w None at low = low
cut_up_to size n stamp free s is_kept cause w (Some event) at low = record { size_is = low.size_is; host = host_at w.hosts n _ s at; last = after_at stamp s n at }

pub moved_up_to : (size : ℕ) (move : Move) (w : PacketWorld) (at s : ℕ) → IsMadeAt at move → at ≤ s → HasStampsUpTo size (node_of move) s w → HasStampsUpTo size (node_of move) s (moved move w)
moved_up_to size (Step n stamp free source) w at s is le low = step_up_to size n stamp free s source w (event_of w n stamp source) (omega (arith, is, le)) low
moved_up_to size (Cut n stamp free source is_kept cause) w at s is le low = cut_up_to size n stamp free s is_kept cause w (event_of w n stamp source) (omega (arith, is, le)) low
moved_up_to size (Stop n stamp cause) w at s is le low = let here : stamp ≤ s = omega (arith, is, le) in record { size_is = low.size_is; host = host_at w.hosts n _ s here; last = after_at stamp s n here }
moved_up_to size (Rise n stamp inc) w at s is le low = let here : stamp ≤ s = omega (arith, is, le) in record { size_is = low.size_is; host = host_at w.hosts n _ s here; last = after_at stamp s n here }
moved_up_to size (Meet n stamp m p) w at s is le low = let here : stamp ≤ s = omega (arith, is, le) in record { size_is = low.size_is; host = host_at w.hosts n _ s here; last = after_at stamp s n here }
moved_up_to size (Take n m p) w at s is le low = record { size_is = low.size_is; host = low.host; last = low.last }
moved_up_to size (Tick n m stamp) w at s is le low = record { size_is = low.size_is; host = low.host; last = low.last }

runs_up_to : (size : ℕ) (clients_at : ℕ → ℕ) (n at s : ℕ) (old : PacketWorld) (ts : List TimedMove) (new : PacketWorld) → LocalRun clients_at n at old ts new → AllUpTo s ts → HasStampsUpTo size n s old → HasStampsUpTo size n s new
runs_up_to size clients_at n at s old [] new run up low = subst (λ (w : PacketWorld). HasStampsUpTo size n s w) (sym run) low
runs_up_to size clients_at n at s old (t ∷ ts) new run up low = runs_up_to size clients_at n t.stamp s (moved t.move old) ts new run.1 up.1
    (subst (λ (k : ℕ). HasStampsUpTo size k s (moved t.move old)) run.0.of_node (moved_up_to size t.move old t.stamp s run.0.made_at up.0 (subst (λ (k : ℕ). HasStampsUpTo size k s old) (sym run.0.of_node) low)))

pub each_reached_up_to : EachReachedUpTo
each_reached_up_to o n observed stamp world s = runs_up_to o.size (client_at o) n 0 stamp (start o) (all_moves s.steps) world s.run s.up_to (record { size_is = refl; host = zero_le stamp; last = first_after stamp n })
