-- The steps of a node up to a stamp, which are a run of it too, and what was put in them.
use Rattle.std.proofs.Common.{◌≡◌, ap, inl, inr, refl, subst, ℕ, ◌+◌, ◌≤◌, Bool, true, false, List, [], ◌∷◌, ◌++◌, arith, map, nat_lt, if◌then◌else◌}
use Rattle.std.specs.Prelude.{All, ⊤}
use Rattle.std.specs.List.{flat_map}
use Rattle.std.proofs.lemmas.Bool.{ltb-true}
use Rattle.std.proofs.lemmas.Bool.Decides.{nat_tests}
use Rattle.std.proofs.lemmas.List.Concat.{flat_map-append}
use Rattle.std.proofs.lemmas.List.Elements.{All-append, All-filter, All-head, All-nil, All-tail, All-weaker}
use Rattle.qs_cell_peers.specs.Peers.{is_to}
use Rattle.qs_node_step.specs.declared.trace.Step as trace
use Rattle.qs_packet.specs.declared.message.Message.{Message}
use Rattle.qs_packet.specs.declared.packet.Packet as packets
use Rattle.qs_session_channels.specs.End.{Packet}
use Rattle.qs_session_channels.specs.Network.{Among}
use Rattle.qs_world_links.specs.Between.{BearsStamp}
use Rattle.qs_world_merge.proofs.Members.{among_map}
use Rattle.qs_world_merge.proofs.MergeByKey.{Rising}
use Rattle.qs_world_merge.proofs.PutsAtStamps.{AllFrom}
use Rattle.qs_world_merge.proofs.Reaches.{all_up_to, up_to_both}
use Rattle.qs_world_merge.proofs.StepsMerge.{step_moves_key}
use Rattle.qs_world_merge.specs.LocalRuns.{LocalRun, TimedMove}
use Rattle.qs_world_merge.specs.Reaching.{AllUpTo}
use Rattle.qs_world_merge.specs.StepMoves.{AllAt, AreTheirMoves, StepMoves, all_moves, moves_in, seen, step_of}
use Rattle.qs_world_packets.specs.PacketMoves.{moved}
use Rattle.qs_world_packets.specs.PacketWorld.{PacketWorld}
use Rattle.qs_world_traces.specs.Links.{put_to, puts_of}

-- ---- the steps up to a stamp, and those behind them

abbrev pub upto : ℕ → List StepMoves → List StepMoves
upto s [] = []
upto s (d ∷ ds) = if nat_lt s d.step.stamp then [] else d ∷ upto s ds

abbrev pub behind : ℕ → List StepMoves → List StepMoves
behind s [] = []
behind s (d ∷ ds) = if nat_lt s d.step.stamp then d ∷ ds else behind s ds

pub whole : (s : ℕ) (ds : List StepMoves) → upto s ds ++ behind s ds ≡ ds
whole s [] = refl
whole s (d ∷ ds) = by (nat_lt s d.step.stamp) (whole s ds)
  where
    by : (b : Bool) → upto s ds ++ behind s ds ≡ ds → (if b then [] else d ∷ upto s ds) ++ (if b then d ∷ ds else behind s ds) ≡ d ∷ ds
    by true more = refl
    by false more = ap (λ (l : List StepMoves). d ∷ l) more

pub are_front : (size : ℕ) (xs ys : List StepMoves) → AreTheirMoves size (xs ++ ys) → AreTheirMoves size xs
are_front size [] ys are = tt
are_front size (x ∷ xs) ys are = (are.0, are_front size xs ys are.1)

below : (s at : ℕ) → nat_lt s at ≡ false → at ≤ s
below s at is = grind (arith, nat_tests, is)

pub upto_low : (size s : ℕ) (ds : List StepMoves) → AreTheirMoves size ds → AllUpTo s (all_moves (upto s ds))
upto_low size s [] are = tt
upto_low size s (d ∷ ds) are = by (nat_lt s d.step.stamp) refl (upto_low size s ds are.1)
  where
    by : (b : Bool) → nat_lt s d.step.stamp ≡ b → AllUpTo s (all_moves (upto s ds)) → AllUpTo s (all_moves (if b then [] else d ∷ upto s ds))
    by true is more = tt
    by false is more = up_to_both d.step.stamp s (moves_in d) (all_moves (upto s ds)) (below s d.step.stamp is) (all_up_to d.step.stamp d.step.node.0 (moves_in d) are.0.at) more

all_late : (s at n : ℕ) (ts : List TimedMove) → s ≤ at → AllAt at n ts → AllFrom s ts
all_late s at n [] low are = tt
all_late s at n (t ∷ ts) low are = (omega (arith, low, are.0), all_late s at n ts low are.2)

late_both : (s : ℕ) (xs ys : List TimedMove) → AllFrom s xs → AllFrom s ys → AllFrom s (xs ++ ys)
late_both s [] ys a b = b
late_both s (x ∷ xs) ys a b = (a.0, late_both s xs ys a.1 b)

rising_late : (size n s at : ℕ) (ds : List StepMoves) → s ≤ at → Rising step_moves_key n at ds → AreTheirMoves size ds → AllFrom s (all_moves ds)
rising_late size n s at [] low rises are = tt
rising_late size n s at (d ∷ ds) low rises are = late_both s (moves_in d) (all_moves ds)
    (all_late s d.step.stamp d.step.node.0 (moves_in d) (omega (arith, low, rises.1)) are.0.at)
    (rising_late size n s d.step.stamp ds (omega (arith, low, rises.1)) rises.2 are.1)

pub behind_late : (size n s at : ℕ) (ds : List StepMoves) → Rising step_moves_key n at ds → AreTheirMoves size ds → AllFrom s (all_moves (behind s ds))
behind_late size n s at [] rises are = tt
behind_late size n s at (d ∷ ds) rises are = by (nat_lt s d.step.stamp) refl (behind_late size n s d.step.stamp ds rises.2 are.1)
  where
    by : (b : Bool) → nat_lt s d.step.stamp ≡ b → AllFrom s (all_moves (behind s ds)) → AllFrom s (all_moves (if b then d ∷ ds else behind s ds))
    by true is more = let later = ltb-true s d.step.stamp is in
        late_both s (moves_in d) (all_moves ds) (all_late s d.step.stamp d.step.node.0 (moves_in d) (omega (arith, later)) are.0.at)
        (rising_late size n s d.step.stamp ds (omega (arith, later)) rises.2 are.1)
    by false is more = more

-- ---- a run comes to a world on its way

pub record Splits (clients_at : ℕ → ℕ) (n at : ℕ) (old : PacketWorld) (xs ys : List TimedMove) (new : PacketWorld) : Type 0 where
  pub mid : PacketWorld
  pub run : LocalRun clients_at n at old xs mid
  pub since : ℕ
  pub rest : LocalRun clients_at n since mid ys new

pub splits : (clients_at : ℕ → ℕ) (n at : ℕ) (old : PacketWorld) (xs ys : List TimedMove) (new : PacketWorld) → LocalRun clients_at n at old (xs ++ ys) new → Splits clients_at n at old xs ys new
splits clients_at n at old [] ys new run = record { mid = old; run = refl; since = at; rest = run }
splits clients_at n at old (x ∷ xs) ys new run =
    let more : Splits clients_at n x.stamp (moved x.move old) xs ys new = splits clients_at n x.stamp (moved x.move old) xs ys new run.1 in
    record { mid = more.mid; run = (run.0, more.run); since = more.since; rest = more.rest }

pub moves_both : (xs ys : List StepMoves) → all_moves (xs ++ ys) ≡ all_moves xs ++ all_moves ys
moves_both xs ys = flat_map-append moves_in xs ys

-- ---- the stamps of a trace

-- the last one, or this one
abbrev pub last_stamp : ℕ → List trace.Step → ℕ
last_stamp at [] = at
last_stamp at (x ∷ xs) = last_stamp x.stamp xs

-- none is less than the one before
abbrev pub Rises : ℕ → List trace.Step → Type 0
Rises at [] = ⊤
Rises at (x ∷ xs) = (at ≤ x.stamp) × Rises x.stamp xs

pub trace_rises : (n at : ℕ) (ds : List StepMoves) → Rising step_moves_key n at ds → Rises at (map step_of ds)
trace_rises n at [] rises = tt
trace_rises n at (d ∷ ds) rises = (rises.1, trace_rises n d.step.stamp ds rises.2)

pub rises_front : (at : ℕ) (xs ys : List trace.Step) → Rises at (xs ++ ys) → Rises at xs
rises_front at [] ys rises = tt
rises_front at (x ∷ xs) ys rises = (rises.0, rises_front x.stamp xs ys rises.1)

pub rises_rest : (at : ℕ) (xs ys : List trace.Step) → Rises at (xs ++ ys) → Rises (last_stamp at xs) ys
rises_rest at [] ys rises = rises
rises_rest at (x ∷ xs) ys rises = rises_rest x.stamp xs ys rises.1

last_past : (at : ℕ) (xs : List trace.Step) → Rises at xs → at ≤ last_stamp at xs
last_past at [] rises = omega arith
last_past at (x ∷ xs) rises = let more = last_past x.stamp xs rises.1 in omega (arith, more, rises.0)

-- the moves of steps with this trace are up to its last stamp
pub moves_low : (size at : ℕ) (ds : List StepMoves) → AreTheirMoves size ds → Rises at (map step_of ds) → AllUpTo (last_stamp at (map step_of ds)) (all_moves ds)
moves_low size at [] are rises = tt
moves_low size at (d ∷ ds) are rises = up_to_both d.step.stamp (last_stamp d.step.stamp (map step_of ds)) (moves_in d) (all_moves ds) (last_past d.step.stamp (map step_of ds) rises.1)
    (all_up_to d.step.stamp d.step.node.0 (moves_in d) are.0.at) (moves_low size d.step.stamp ds are.1 rises.1)

-- ---- what is put bears no lesser stamp

all_among : {A : Type 0} (P : A → Type 0) (xs : List A) (x : A) → All P xs → Among xs x → P x
all_among P [] x all among = absurd among
all_among P (y ∷ ys) x all (inl is) = subst P is (All-head P y ys all)
all_among P (y ∷ ys) x all (inr more) = all_among P ys x (All-tail P y ys all) more

puts_late : (s at : ℕ) (steps : List trace.Step) → s ≤ at → Rises at steps → All BearsStamp steps → All (λ (p : packets.Packet). s ≤ p.stamp) (flat_map puts_of steps)
puts_late s at [] low rises bears = All-nil (λ (p : packets.Packet). s ≤ p.stamp)
puts_late s at (x ∷ xs) low rises bears = All-append (λ (p : packets.Packet). s ≤ p.stamp) x.put (flat_map puts_of xs)
    (All-weaker (λ (p : packets.Packet). p.stamp ≡ x.stamp) (λ (p : packets.Packet). s ≤ p.stamp) (λ p is. omega (arith, is, low, rises.0)) x.put (All-head BearsStamp x xs bears))
    (puts_late s x.stamp xs (omega (arith, low, rises.0)) rises.1 (All-tail BearsStamp x xs bears))

pub put_late_of : (s : ℕ) (m : ℕ) (steps : List trace.Step) (p : Packet Message) → Rises s steps → All BearsStamp steps → Among (map seen (put_to m steps)) p → s ≤ p.stamp
put_late_of s m steps p rises bears among = let found = among_map seen (put_to m steps) p among in
    subst (λ (q : Packet Message). s ≤ q.stamp) found.2
    (all_among (λ (q : packets.Packet). s ≤ q.stamp) (put_to m steps) found.0 (All-filter (is_to m) (λ (q : packets.Packet). s ≤ q.stamp) (flat_map puts_of steps) (puts_late s s steps (omega arith) rises bears)) found.1)
