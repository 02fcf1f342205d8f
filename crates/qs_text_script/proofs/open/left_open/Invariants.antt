use Rattle.std.proofs.Common.{◌≡◌, ◌≤◌, List, ℕ, length, drop}
use Rattle.std.specs.List.{list_any}
use Rattle.qs_text_script.specs.Labels.{has_label}
use Rattle.qs_text_script.specs.Script.{ends, left_open}
use Rattle.qs_text_script.proofs.open.left_open.Given as goal

abbrev pub invariant-loop-at : goal.invariant-loop-at
invariant-loop-at l = record {
  inside : l.at ≤ length l.lines;
  found : l.found ≡ left_open (drop l.at l.lines);
  ended : (label : List ℕ) → has_label label l.ended ≡ list_any (ends label) (drop l.at l.lines);
}

abbrev pub decreases-loop-at : goal.decreases-loop-at
decreases-loop-at l = l.at
