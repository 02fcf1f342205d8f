-- The label that was met last, where no label before is the same, is found by itself.
use Rattle.std.proofs.Common.{◌≡◌, ◌∙◌, ℕ, List, [], ◌∷◌, ◌++◌, ◌-◌, length, refl, sym, subst}
use Rattle.std.specs.Prelude.{Bool, Some, None, true, false, slice_get}
use Rattle.std.specs.List.{find}
use native.Mathlib.Omega.{arith}
use Rattle.std.proofs.lemmas.List.{length-append}
use Rattle.qs_node_kept.specs.Index.{passing}
use Rattle.qs_node_kept.specs.declared.kept.KeptLabel.{KeptLabel}
use Rattle.qs_node_kept.specs.Keeping.{has_label, IsFoundLast}
use Rattle.qs_node_kept.proofs.Indexing.{find-none, get-last, get-none, get-past}
use Rattle.qs_node_kept.proofs.Keys.{own_label}

pub new_last : (before : List KeptLabel) (begun : KeptLabel) → find (has_label begun.label) before ≡ None → IsFoundLast (before ++ begun ∷ [])
new_last before begun none key r found = by (has_label key begun) refl
  where
    place : length (before ++ begun ∷ []) - 1 ≡ length before
    place = rw (length-append before (begun ∷ [])) (omega arith)

    here : passing (has_label key) (slice_get (before ++ begun ∷ []) (length before)) ≡ Some r
    here = subst (λ (n : ℕ). passing (has_label key) (slice_get (before ++ begun ∷ []) n) ≡ Some r) place found

    by : (b : Bool) → has_label key begun ≡ b → find (has_label key) (before ++ begun ∷ []) ≡ Some r
    by true is =
        let missing : find (has_label key) before ≡ None = subst (λ (k : List ℕ). find (has_label k) before ≡ None) (own_label begun key is) none in
        find-none (has_label key) before begun missing ∙ rw is (sym (get-last (has_label key) before begun is) ∙ here)
    by false is =
        let clash : None ≡ Some r = sym (get-none (has_label key) before begun (length before) is (get-past (has_label key) before)) ∙ here in
        absurd (cc)
