-- What a node keeps for its clients, as it is and as it was at the last accept.
use Rattle.std.specs.Prelude.{◌≡◌, ◌-◌, ℕ, Bool, true, false, List, [], Some, None, length}
use Rattle.std.specs.List.{find}
use Rattle.std.specs.BTreeMap.{is_at}
use Rattle.qs_base.specs.Order.{bytes_cmp, tid_cmp, same_tid}
use Rattle.qs_base.specs.declared.identifiers.Tid.{Tid}
use Rattle.qs_node_kept.specs.Index.{IsIndexOf, found_at}
use Rattle.qs_node_kept.specs.declared.kept.KeptLabel.{KeptLabel}
use Rattle.qs_node_kept.specs.declared.kept.Decided.{Decided}
use Rattle.qs_node_kept.specs.declared.kept.Kept.{Kept}

pub record KeepingValue : Type 0 where
  pub now : Kept
  pub saved : Kept  -- what is handed to the next incarnation

abbrev pub no_kept : Kept
no_kept = record { labels = []; loans = []; outcomes = [] }

-- it is what is kept, and accepted
abbrev pub kept_as : Kept → KeepingValue
kept_as kept = record { now = kept; saved = kept }

abbrev pub with_now : (Kept → Kept) → KeepingValue → KeepingValue
with_now f kept = record kept { now = f kept.now }

abbrev pub accepted : KeepingValue → KeepingValue
accepted kept = record kept { saved = kept.now }

-- ---- what is looked for

abbrev pub has_label : List ℕ → KeptLabel → Bool
has_label label begun = is_at (bytes_cmp label) begun.label

abbrev pub is_label_of : Tid → KeptLabel → Bool
is_label_of tid begun = elim begun.tid [ None ↦ false | Some other ↦ same_tid tid other ]

abbrev pub is_outcome_of : Tid → Decided → Bool
is_outcome_of tid decided = same_tid tid decided.tid

-- ---- indexes

-- labels are found by themselves and by their transactions
pub record IsLabelled (by_label : List (List ℕ × ℕ)) (by_tid : List (Tid × ℕ)) (labels : List KeptLabel) : Type 0 where
  pub labels_found : IsIndexOf bytes_cmp has_label by_label labels
  pub tids_found : IsIndexOf tid_cmp is_label_of by_tid labels

-- a search from the front for the label that was met last finds that one
abbrev pub IsFoundLast : List KeptLabel → Type 0
IsFoundLast labels = (key : List ℕ) (begun : KeptLabel) → found_at (has_label key) labels (Some (length labels - 1)) ≡ Some begun → find (has_label key) labels ≡ Some begun

-- labels are found, and the one that was met last, where it was new, by itself
pub record IsFound (by_label : List (List ℕ × ℕ)) (by_tid : List (Tid × ℕ)) (newest_is_new : Bool) (labels : List KeptLabel) : Type 0 where
  pub indexed : IsLabelled by_label by_tid labels
  pub last : newest_is_new ≡ true → IsFoundLast labels

-- outcomes are found by their transactions
abbrev pub IsEnded : List (Tid × ℕ) → List Decided → Type 0
IsEnded by_tid outcomes = IsIndexOf tid_cmp is_outcome_of by_tid outcomes
