-- The first line that stops a node, found in order.
use Rattle.std.proofs.Common.{◌≡◌, ◌∙◌, sym, ap, ℕ, ◌+◌, ◌<◌, Bool, true, List, ◌∷◌, ◌++◌, length, take, drop, get_or, set, if◌then◌else◌}
use Rattle.std.proofs.lemmas.List.{take-append-drop, take-set, drop-set, drop_more}
use Rattle.qs_book_journal.specs.declared.entry.Act.{Act}
use Rattle.qs_node_kept.specs.declared.kept.KeptLabel.{KeptLabel}
use Rattle.qs_cell_chronicle.specs.Points.{stops_before, spent}
use Rattle.qs_cell_chronicle.specs.declared.points.Watched.{Watched}

abbrev past : Watched → Watched
past watched = record watched { passed = true }

spent_at : (labels : List KeptLabel) (entries : List Act) (w : Watched) (rest : List Watched) (stops : Bool) → stops_before labels entries w ≡ stops
    → spent labels entries (w ∷ rest) ≡ (if stops then past w ∷ rest else w ∷ spent labels entries rest)
spent_at labels entries w rest stops is = ap (λ (b : Bool). if b then past w ∷ rest else w ∷ spent labels entries rest) is

-- it is the one at this place
pub spent_here : (labels : List KeptLabel) (entries : List Act) (xs : List Watched) (i : ℕ) (d : Watched) → i < length xs
    → spent labels entries xs ≡ take i xs ++ spent labels entries (drop i xs) → stops_before labels entries (get_or xs i d) ≡ true
    → set xs i (record (get_or xs i d) { passed = true }) ≡ spent labels entries xs
spent_here labels entries xs i d within so_far is =
    sym (take-append-drop i (set xs i (past (get_or xs i d))))
    ∙ ap (λ front. front ++ drop i (set xs i (past (get_or xs i d)))) (take-set xs i (past (get_or xs i d)))
    ∙ ap (λ back. take i xs ++ back)
    (drop-set xs i (past (get_or xs i d)) within
    ∙ sym (ap (spent labels entries) (drop_more xs i d within) ∙ spent_at labels entries (get_or xs i d) (drop (i + 1) xs) true is))
    ∙ sym so_far
