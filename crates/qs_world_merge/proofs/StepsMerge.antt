-- Steps with their moves, merged by key: so their moves are merged, and the steps alone.
use Rattle.qs_world_merge.proofs.Words.{◌≡◌, ℕ, ◌==◌, ◌≤◌, ◌<◌, Bool, true, false, List, [], ◌∷◌, ◌++◌, refl, sym, ap, subst, ◌∙◌, cond, map, moved, PacketWorld, InKeyOrder, is_after, of_node, StepMoves, AreTheirMoves, all_moves, step_of, LocalRun, TimedMove, move_key}
use Rattle.qs_node_step.specs.declared.trace.Step.{Step}
use Rattle.qs_world_merge.specs.StepMoves.{AllAt, moves_in, step_key}
use Rattle.qs_world_merge.proofs.KeyOrder.{OnlyOf, itself_after, of_both}
use Rattle.qs_world_merge.proofs.MergeByKey.{Rising}
use Rattle.qs_world_merge.proofs.MergedOnce.{rising_only}

abbrev pub step_moves_key : StepMoves → ℕ × ℕ
step_moves_key d = step_key d.step

-- ---- the steps of a local run rise

-- a run of moves of one stamp, and of what comes behind them
record Passes (clients_at : ℕ → ℕ) (n s : ℕ) (rest : List TimedMove) (new : PacketWorld) : Type 0 where
  mid : PacketWorld
  run : LocalRun clients_at n s mid rest new

passes : (clients_at : ℕ → ℕ) (n k s : ℕ) (old : PacketWorld) (more rest : List TimedMove) (new : PacketWorld) → AllAt s k more → LocalRun clients_at n s old (more ++ rest) new → Passes clients_at n s rest new
passes clients_at n k s old [] rest new at run = record { mid = old; run = run }
passes clients_at n k s old (t ∷ ts) rest new at run = passes clients_at n k s (moved t.move old) ts rest new at.2 (subst (λ (i : ℕ). LocalRun clients_at n i (moved t.move old) (ts ++ rest) new) at.0 run.1)

pub steps_rise : (clients_at : ℕ → ℕ) (size n at : ℕ) (old : PacketWorld) (ds : List StepMoves) (new : PacketWorld) → AreTheirMoves size ds → LocalRun clients_at n at old (all_moves ds) new → Rising step_moves_key n at ds
steps_rise clients_at size n at old [] new are run = tt
steps_rise clients_at size n at old (d ∷ ds) new are run =
    let p = passes clients_at n d.step.node.0 d.step.stamp (moved d.first.move old) d.more (all_moves ds) new are.0.at.2 (subst (λ (i : ℕ). LocalRun clients_at n i (moved d.first.move old) (d.more ++ all_moves ds) new) are.0.at.0 run.1) in
    (sym are.0.at.1 ∙ run.0.of_node, subst (λ (i : ℕ). at ≤ i) are.0.at.0 run.0.rises, steps_rise clients_at size n d.step.stamp p.mid ds new are.1 p.run)

-- ---- what the moves have of a node

all_mine : (n s k : ℕ) (ts : List TimedMove) → AllAt s k ts → (k == n) ≡ true → of_node move_key n ts ≡ ts
all_mine n s k [] at is = refl
all_mine n s k (t ∷ ts) at is = rw (ap (λ (i : ℕ). i == n) at.1 ∙ is) (ap (λ (l : List TimedMove). t ∷ l) (all_mine n s k ts at.2 is))

none_mine : (n s k : ℕ) (ts : List TimedMove) → AllAt s k ts → (k == n) ≡ false → of_node move_key n ts ≡ []
none_mine n s k [] at is = refl
none_mine n s k (t ∷ ts) at is = rw (ap (λ (i : ℕ). i == n) at.1 ∙ is) (none_mine n s k ts at.2 is)

pub moves_of_node : (size n : ℕ) (ds : List StepMoves) → AreTheirMoves size ds → of_node move_key n (all_moves ds) ≡ all_moves (of_node step_moves_key n ds)
moves_of_node size n [] are = refl
moves_of_node size n (d ∷ ds) are = of_both move_key n (moves_in d) (all_moves ds) ∙ (ap (λ (l : List TimedMove). of_node move_key n (moves_in d) ++ l) (moves_of_node size n ds are.1) ∙ by (d.step.node.0 == n) refl)
  where
    by : (b : Bool) → (d.step.node.0 == n) ≡ b → of_node move_key n (moves_in d) ++ all_moves (of_node step_moves_key n ds) ≡ all_moves (cond b (d ∷ of_node step_moves_key n ds) (of_node step_moves_key n ds))
    by true is = ap (λ (l : List TimedMove). l ++ all_moves (of_node step_moves_key n ds)) (all_mine n d.step.stamp d.step.node.0 (moves_in d) are.0.at is)
    by false is = ap (λ (l : List TimedMove). l ++ all_moves (of_node step_moves_key n ds)) (none_mine n d.step.stamp d.step.node.0 (moves_in d) are.0.at is)

-- ---- they are in order

more_in_order : (size s n : ℕ) (ts rest : List TimedMove) → n < size → AllAt s n ts → InKeyOrder move_key size (s, n) rest → InKeyOrder move_key size (s, n) (ts ++ rest)
more_in_order size s n [] rest in_run at order = order
more_in_order size s n (t ∷ ts) rest in_run at order = (
  subst (λ (k : ℕ). k < size) (sym at.1) in_run,
  subst (λ (k : ℕ). is_after (s, n) t.stamp k ≡ true) (sym at.1) (subst (λ (i : ℕ). is_after (s, n) i n ≡ true) (sym at.0) (itself_after s n)),
  subst (λ (k : ℕ). InKeyOrder move_key size (t.stamp, k) (ts ++ rest)) (sym at.1) (subst (λ (i : ℕ). InKeyOrder move_key size (i, n) (ts ++ rest)) (sym at.0) (more_in_order size s n ts rest in_run at.2 order)),
)

pub moves_in_order : (size : ℕ) (last : ℕ × ℕ) (ds : List StepMoves) → AreTheirMoves size ds → InKeyOrder step_moves_key size last ds → InKeyOrder move_key size last (all_moves ds)
moves_in_order size last [] are order = tt
moves_in_order size last (d ∷ ds) are order = first last (more_in_order size d.step.stamp d.step.node.0 (moves_in d) (all_moves ds) order.0 are.0.at (moves_in_order size (step_moves_key d) ds are.1 order.2)) order.1
  where
    first : (last : ℕ × ℕ) → InKeyOrder move_key size (step_moves_key d) (all_moves (d ∷ ds)) → is_after last d.step.stamp d.step.node.0 ≡ true → InKeyOrder move_key size last (all_moves (d ∷ ds))
    first last inner after = (inner.0, subst (λ (k : ℕ). is_after last d.first.stamp k ≡ true) (sym are.0.at.1) (subst (λ (i : ℕ). is_after last i d.step.node.0 ≡ true) (sym are.0.at.0) after), inner.2)

-- ---- and so are their steps

pub steps_in_order : (size : ℕ) (last : ℕ × ℕ) (ds : List StepMoves) → InKeyOrder step_moves_key size last ds → InKeyOrder step_key size last (map step_of ds)
steps_in_order size last [] order = tt
steps_in_order size last (d ∷ ds) order = (order.0, order.1, steps_in_order size (step_moves_key d) ds order.2)

pub steps_of_node : (n : ℕ) (ds : List StepMoves) → ◌≡◌ {A = List Step} (of_node step_key n (map step_of ds)) (map step_of (of_node step_moves_key n ds))
steps_of_node n [] = refl
steps_of_node n (d ∷ ds) = ap (λ (l : List Step). cond (d.step.node.0 == n) (d.step ∷ l) l) (steps_of_node n ds) ∙ by (d.step.node.0 == n)
  where
    by : (b : Bool) → cond b (d.step ∷ map step_of (of_node step_moves_key n ds)) (map step_of (of_node step_moves_key n ds)) ≡ map step_of (cond b (d ∷ of_node step_moves_key n ds) (of_node step_moves_key n ds))
    by true = refl
    by false = refl

pub steps_only : (n at : ℕ) (ds : List StepMoves) → Rising step_moves_key n at ds → OnlyOf step_key n (map step_of ds)
steps_only n at ds rising = steps_of_node n ds ∙ ap (λ (l : List StepMoves). map step_of l) (rising_only step_moves_key n at ds rising)
