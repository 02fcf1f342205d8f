-- The lines of a script that stop a node before or after the first entry of a kind for a label's transaction.
use Rattle.std.specs.Prelude.{ℕ, Bool, true, false, not, ◌&&◌, ◌||◌, List, [], ◌∷◌, Option, Some, None, if◌then◌else◌}
use Rattle.std.specs.List.{find, list_any}
use Rattle.qs_base.specs.Order.{same_tid}
use Rattle.qs_base.specs.declared.identifiers.Tid.{Tid}
use Rattle.qs_book_journal.specs.declared.entry.Act.{Act}
use Rattle.qs_book_journal.specs.declared.entry.Act.TheVariants as acts
use Rattle.qs_book_journal.specs.declared.script_line.PointKind.{PointKind}
use Rattle.qs_book_journal.specs.declared.script_line.PointKind.TheVariants as kinds
use Rattle.qs_node_kept.specs.Keeping.{has_label}
use Rattle.qs_node_kept.specs.declared.kept.KeptLabel.{KeptLabel}
use Rattle.qs_cell_chronicle.specs.declared.points.Watched.{Watched}

-- ---- which entries a line names: those of its kind, for the transaction of its label, as the node has met it

abbrev pub same_kind : PointKind → PointKind → Bool
same_kind kinds.Serve kinds.Serve = true
same_kind kinds.Vote kinds.Vote = true
same_kind kinds.Decide kinds.Decide = true
same_kind kinds.Learn kinds.Learn = true
same_kind a b = false

abbrev pub is_tid : Tid → Option Tid → Bool
is_tid tid None = false
is_tid tid (Some other) = same_tid tid other

abbrev pub tid_in : Option KeptLabel → Option Tid
tid_in None = None
tid_in (Some met) = met.tid

-- the transaction of a label among those that the node has met
abbrev pub tid_at : List KeptLabel → List ℕ → Option Tid
tid_at labels label = tid_in (find (has_label label) labels)

abbrev pub names_kind : List KeptLabel → PointKind → Tid → Watched → Bool
names_kind labels kind tid watched = same_kind kind watched.point.kind && is_tid tid (tid_at labels watched.point.label)

abbrev pub names : List KeptLabel → Act → Watched → Bool
names labels (acts.Serve tid member from number reply) watched = names_kind labels kinds.Serve tid watched
names labels (acts.Vote tid member vote covers) watched = names_kind labels kinds.Vote tid watched
names labels (acts.Decide tid outcome cause) watched = names_kind labels kinds.Decide tid watched
names labels (acts.Learn tid member outcome) watched = names_kind labels kinds.Learn tid watched
names labels act watched = false

-- a step with these entries makes the first one that the line names
abbrev pub is_first_of : List KeptLabel → List Act → Watched → Bool
is_first_of labels entries watched = not watched.passed && list_any (λ act. names labels act watched) entries

-- the line stops the node in place of such a step
abbrev pub stops_before : List KeptLabel → List Act → Watched → Bool
stops_before labels entries watched = not watched.point.after && is_first_of labels entries watched

-- or right after it
abbrev pub stops_after : List KeptLabel → List Act → Watched → Bool
stops_after labels entries watched = watched.point.after && is_first_of labels entries watched

-- ---- what becomes of the lines

-- the first that stops the node before the step does so once
abbrev pub spent : List KeptLabel → List Act → List Watched → List Watched
spent labels entries [] = []
spent labels entries (watched ∷ rest) =
    if stops_before labels entries watched then record watched { passed = true } ∷ rest else watched ∷ spent labels entries rest

-- a step makes these entries: what a line names is past
abbrev pub after_entries : List KeptLabel → List Act → Watched → Watched
after_entries labels entries watched = record watched { passed = watched.passed || is_first_of labels entries watched }
