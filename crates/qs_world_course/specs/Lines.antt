-- Crashes of one node and the fault lines of the script: what the course has of the node, beside what its cell watches for and how many lines have stopped it.
--
-- A line `before` is used once, as it stops the node, and its mark goes with the entry that it names, which comes later; a line `crash` or `stop` is used once at most; a line
-- `after` makes a crash of its own. So no more crashes owe a line than there are lines left.
use Rattle.std.specs.Prelude.{◌≡◌, ⊤, ℕ, ◌≤◌, ◌<◌, ◌+◌, Bool, true, not, ◌&&◌, List, [], ◌∷◌, Some, slice_get, if◌then◌else◌}
use Rattle.std.specs.List.{list_any}
use Rattle.qs_book_journal.specs.declared.entry.Act.{Act}
use Rattle.qs_book_conformance.specs.Begun.{mark_of}
use Rattle.qs_book_conformance.specs.Course.{CourseValue}
use Rattle.qs_book_conformance.specs.Crashes.{has_line}
use Rattle.qs_book_conformance.specs.Effects.{has_mark}
use Rattle.qs_book_conformance.specs.declared.values.NodeCourse.{NodeCourse}
use Rattle.qs_cell_chronicle.specs.Points.{spent, stops_before}
use Rattle.qs_cell_chronicle.specs.declared.points.Watched.{Watched}
use Rattle.qs_node_kept.specs.declared.kept.KeptLabel.{KeptLabel}

abbrev pub one_if : Bool → ℕ
one_if b = if b then 1 else 0

-- of the lines `before`: how many there are, how many have stopped the node, and of how many the entry stands
abbrev pub befores : List Watched → ℕ
befores [] = 0
befores (w ∷ ws) = one_if (not w.point.after) + befores ws

abbrev pub fired : List Watched → ℕ
fired [] = 0
fired (w ∷ ws) = one_if (not w.point.after && w.passed) + fired ws

abbrev pub is_past : CourseValue → ℕ → Watched → Bool
is_past course n w = not w.point.after && not (has_mark course (mark_of (record { 0 = n }) w.point))

abbrev pub past : CourseValue → ℕ → List Watched → ℕ
past course n [] = 0
past course n (w ∷ ws) = one_if (is_past course n w) + past course n ws

-- each line: an entry that stands came after the crash before it
pub record HoldsPoint (course : CourseValue) (n : ℕ) (w : Watched) : Type 0 where
  pub before : is_past course n w ≡ true → w.passed ≡ true
  pub after : w.point.after ≡ true → has_mark course (mark_of (record { 0 = n }) w.point) ≡ not w.passed

abbrev pub EachPoint : CourseValue → ℕ → List Watched → Type 0
EachPoint course n [] = ⊤
EachPoint course n (w ∷ ws) = HoldsPoint course n w × EachPoint course n ws

-- of so many lines `crash` and `stop` of the node in all, `used` have stopped it
pub record HoldsStops (course : CourseValue) (n used total : ℕ) (ws : List Watched) (node : NodeCourse) : Type 0 where
  pub there : slice_get course.nodes n ≡ Some node
  pub points : EachPoint course n ws
  pub lines : node.lines + past course n ws ≡ total + befores ws
  pub owing : node.owing + past course n ws ≡ used + fired ws
  pub used_up : used ≤ total

-- ---- a line is left for one more crash: in place of an event that the script names, or as the fuse trips, since such a line is unused

abbrev pub PlanHasLine : Type 0
PlanHasLine = (course : CourseValue) (n used total : ℕ) (ws : List Watched) (node : NodeCourse) → HoldsStops course n used total ws node → used < total
    → has_line node ≡ true

-- and in front of an entry that a line names, by which that line is used

abbrev pub BeforeHasLine : Type 0
BeforeHasLine = (course : CourseValue) (n used total : ℕ) (ws : List Watched) (node : NodeCourse) (labels : List KeptLabel) (entries : List Act) → HoldsStops course n used total ws node
    → fired (spent labels entries ws) ≡ fired ws + 1 → has_line node ≡ true

abbrev pub SpentIsFired : Type 0
SpentIsFired = (labels : List KeptLabel) (entries : List Act) (ws : List Watched) → list_any (stops_before labels entries) ws ≡ true
    → (fired (spent labels entries ws) ≡ fired ws + 1) × (befores (spent labels entries ws) ≡ befores ws)
