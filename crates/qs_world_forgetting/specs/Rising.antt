-- A node that rises over a log that reads like another, and its restart.
use Rattle.std.specs.Prelude.{◌≡◌, ℕ, Bool, true, not, ◌&&◌, List, Some, None, map, slice_get}
use Rattle.std.specs.Global.{Global}
use Rattle.std.specs.List.{list_all}
use Rattle.qs_base.specs.declared.identifiers.NodeNo.{NodeNo}
use Rattle.qs_base.specs.declared.identifiers.Tid.{Tid}
use Rattle.qs_book_journal.specs.declared.entry.Found.{Found}
use Rattle.qs_book_machine.specs.Book.{BookValue}
use Rattle.qs_book_machine.specs.Nodes.{NodeValue}
use Rattle.qs_book_machine.specs.Restart.{broken_restart, restart}
use Rattle.qs_restart.specs.Recovery.{Recovery, open_votes}
use Rattle.qs_restart.specs.declared.recovered.OpenVote.{OpenVote}
use Rattle.qs_restart_state.specs.Alike.{ReadsAlike, is_among}
use Rattle.qs_restart_state.specs.States.{are_unended}
use Rattle.qs_node_kept.specs.declared.kept.Decided.{Decided}
use Rattle.qs_node_kept.specs.declared.kept.Kept.{Kept}
use Rattle.qs_node_kept.specs.declared.kept.KeptLabel.{KeptLabel}
use Rattle.qs_node_step.specs.Opening.{is_left_open, opened_node, recovered_as}
use Rattle.qs_node_step.specs.declared.setting.Setting.{Setting}
use Rattle.qs_world_forgetting.specs.Knowing.{knowing}
use Rattle.qs_world_forgetting.specs.ThinRestarts.{AreOver}

-- what a label names is not over, or its outcome is kept
abbrev pub is_closed : NodeNo → (Tid → Bool) → List Decided → KeptLabel → Bool
is_closed node over outcomes label = elim label.tid [ None ↦ true | Some tid ↦ not (over tid && is_left_open node outcomes tid) ]

-- the node is the same, but for the Commits that it knows of
abbrev pub EachRisesSame : Type 0
EachRisesSame = (alloc : Global) (setting : Setting) (kept : Kept) (over : List Tid) (full thin : Recovery) → are_unended full ≡ true → ReadsAlike over full thin
    → list_all (is_closed setting.node (is_among over) kept.outcomes) kept.labels ≡ true
    → opened_node alloc setting (recovered_as thin) kept ≡ knowing thin.committed (opened_node alloc setting (recovered_as full) kept)

-- ---- its restart, as its entry tells it

abbrev pub found_of : OpenVote → Found
found_of vote = record { tid = vote.tid; server = vote.server; covers = vote.covers }

abbrev pub found_votes : Recovery → List Found
found_votes said = map found_of (open_votes said)

-- over the log that reads alike it is lawful where it is over the full one, and does the same
abbrev pub EachRestartIsSame : Type 0
EachRestartIsSame = (here : ℕ) (book : BookValue) (node : NodeValue) (inc : ℕ) (over : List Tid) (full thin : Recovery) → slice_get book.nodes here ≡ Some node → AreOver here book node (is_among over)
    → are_unended full ≡ true → ReadsAlike over full thin → broken_restart here book node inc (found_votes full) full.committed ≡ None
    → (broken_restart here book node inc (found_votes thin) thin.committed ≡ None) × (restart here inc (found_votes thin) thin.committed book ≡ restart here inc (found_votes full) full.committed book)
