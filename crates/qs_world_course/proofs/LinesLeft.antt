-- A line is left for each crash by plan.
use Rattle.std.proofs.Common.{◌≡◌, ◌≤◌, ◌<◌, ℕ, ◌+◌, Bool, true, false, List, [], ◌∷◌, refl, ap, subst, arith}
use Rattle.std.specs.Prelude.{not, ◌&&◌, nat_lt}
use Rattle.std.specs.List.{list_any}
use Rattle.std.proofs.lemmas.Bool.Decides.{nat_tests}
use Rattle.qs_book_journal.specs.declared.entry.Act.{Act}
use Rattle.qs_cell_chronicle.specs.Points.{names, spent, stops_before}
use Rattle.qs_cell_chronicle.specs.declared.points.Watched.{Watched}
use Rattle.qs_node_kept.specs.declared.kept.KeptLabel.{KeptLabel}
use Rattle.qs_world_course.specs.Lines.{BeforeHasLine, PlanHasLine, SpentIsFired, befores, fired, one_if, past}

one_at_most : (a b : Bool) → one_if (a && b) ≤ one_if a
one_at_most true true = omega arith
one_at_most true false = omega arith
one_at_most false b = omega arith

-- those that stopped the node are among them
fired_few : (ws : List Watched) → fired ws ≤ befores ws
fired_few [] = omega arith
fired_few (w ∷ ws) = sum_most (one_if (not w.point.after && w.passed)) (one_if (not w.point.after)) (fired ws) (befores ws) (one_at_most (not w.point.after) w.passed) (fired_few ws)
  where
    sum_most : (a b c d : ℕ) → a ≤ b → c ≤ d → a + c ≤ b + d
    sum_most a b c d e f = omega (arith, e, f)

line_left : (owing lines p used total f b : ℕ) → lines + p ≡ total + b → owing + p ≡ used + f → used + f < total + b → nat_lt owing lines ≡ true
line_left owing lines p used total f b l o less = grind (arith, nat_tests, l, o, less)

pub plan_has_line : PlanHasLine
plan_has_line course n used total ws node h less = line_left node.owing node.lines (past course n ws) used total (fired ws) (befores ws) h.lines h.owing (sum_less used total (fired ws) (befores ws) less (fired_few ws))
  where
    sum_less : (a b c d : ℕ) → a < b → c ≤ d → a + c < b + d
    sum_less a b c d e f = omega (arith, e, f)

-- ---- in front of an entry

same_befores : (labels : List KeptLabel) (entries : List Act) (ws : List Watched) → befores (spent labels entries ws) ≡ befores ws
same_befores labels entries [] = refl
same_befores labels entries (w ∷ ws) = by (stops_before labels entries w) refl (same_befores labels entries ws)
  where
    by : (b : Bool) → stops_before labels entries w ≡ b → befores (spent labels entries ws) ≡ befores ws → befores (spent labels entries (w ∷ ws)) ≡ befores (w ∷ ws)
    by true is more = rw is refl
    by false is more = rw is (ap (λ (n : ℕ). one_if (not w.point.after) + n) more)

pub before_has_line : BeforeHasLine
before_has_line course n used total ws node labels entries h one = line_left node.owing node.lines (past course n ws) used total (fired ws) (befores ws) h.lines h.owing
    (room used total (fired ws) (befores ws) (fired (spent labels entries ws)) h.used_up one (subst (λ (b : ℕ). fired (spent labels entries ws) ≤ b) (same_befores labels entries ws) (fired_few (spent labels entries ws))))
  where
    room : (u t f b g : ℕ) → u ≤ t → g ≡ f + 1 → g ≤ b → u + f < t + b
    room u t f b g e is few = omega (arith, e, is, few)

pub spent_is_fired : SpentIsFired
spent_is_fired labels entries ws any = (one_more ws any, same_befores labels entries ws)
  where
    unpassed : (w : Watched) → stops_before labels entries w ≡ true → (w.point.after ≡ false) × (w.passed ≡ false)
    unpassed w is = by w.point.after w.passed refl refl is
      where
        by : (a p : Bool) → w.point.after ≡ a → w.passed ≡ p → (not a && (not p && list_any (λ act. names labels act w) entries)) ≡ true → (w.point.after ≡ false) × (w.passed ≡ false)
        by false false e f g = (e, f)
        by false true e f g = absurd (cc g)
        by true p e f g = absurd (cc g)

    one_more : (ws : List Watched) → list_any (stops_before labels entries) ws ≡ true → fired (spent labels entries ws) ≡ fired ws + 1
    one_more [] any = absurd (cc any)
    one_more (w ∷ ws) any = by (stops_before labels entries w) refl (λ rest. one_more ws rest)
      where
        by : (b : Bool) → stops_before labels entries w ≡ b → (list_any (stops_before labels entries) ws ≡ true → fired (spent labels entries ws) ≡ fired ws + 1) → fired (spent labels entries (w ∷ ws)) ≡ fired (w ∷ ws) + 1
        by true is more =
            let it = unpassed w is in
            rw is (rw (it.0, it.1) (plus_one (fired ws)))
          where
            plus_one : (n : ℕ) → 1 + n ≡ 0 + n + 1
            plus_one n = omega arith
        by false is more = rw is (later (one_if (not w.point.after && w.passed)) (fired (spent labels entries ws)) (fired ws) (more (rw is at any)))
          where
            later : (a b c : ℕ) → b ≡ c + 1 → a + b ≡ a + c + 1
            later a b c e = omega (arith, e)
