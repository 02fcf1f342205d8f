-- The log closes what the labels say as it closes the transactions that they have, one behind the other.
use Rattle.std.proofs.Common.{◌≡◌, ◌∙◌, ap, sym, ℕ, ◌+◌, ◌<◌, List, Option, length, take, get_or, map}
use Rattle.std.proofs.lemmas.List.Folds.{fold-map}
use Rattle.std.proofs.lemmas.List.Sums.{fold_more}
use Rattle.qs_base.specs.declared.identifiers.NodeNo.{NodeNo}
use Rattle.qs_base.specs.declared.identifiers.Tid.{Tid}
use Rattle.qs_node_kept.specs.Keeping.{KeepingValue, with_now}
use Rattle.qs_node_kept.specs.declared.kept.KeptLabel.{KeptLabel}
use Rattle.qs_node_kept.specs.declared.kept.Decided.{Decided}
use Rattle.qs_restart.specs.declared.recovered.Recovered.{Recovered}
use Rattle.qs_node_step.specs.Opening.{close_tid, closed_kept}
use Rattle.qs_node.specs.Closed.{closed_by}

abbrev with_outcomes : KeepingValue → List Decided → KeepingValue
with_outcomes kept outcomes = with_now (λ now. record now { outcomes = outcomes }) kept

pub closed : (node : NodeNo) (found : Recovered) (kept : KeepingValue)
    → with_now (closed_by node found.committed (map (λ (begun : KeptLabel). begun.tid) kept.now.labels)) kept ≡ with_now (closed_kept node found) kept
closed node found kept =
    ap (with_outcomes kept) (fold-map (close_tid node found.committed) (λ (begun : KeptLabel). begun.tid) kept.now.outcomes kept.now.labels)

pub closed_more : (node : NodeNo) (committed : List Tid) (first : KeepingValue) (tids : List (Option Tid)) (i : ℕ) (d : Option Tid) → i < length tids
    → (now next : KeepingValue) → now ≡ with_now (closed_by node committed (take i tids)) first
    → next ≡ with_now (λ kept. record kept { outcomes = close_tid node committed kept.outcomes (get_or tids i d) }) now
    → next ≡ with_now (closed_by node committed (take (i + 1) tids)) first
closed_more node committed first tids i d within now next so_far step =
    step
    ∙ ap (λ (kept : KeepingValue). with_outcomes kept (close_tid node committed kept.now.outcomes (get_or tids i d))) so_far
    ∙ ap (with_outcomes first) (sym (fold_more (close_tid node committed) first.now.outcomes tids i d within))
