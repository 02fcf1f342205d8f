-- What a stable sort leaves is the merge, and no other list is.
use Rattle.std.proofs.Common.{◌≡◌, List, subst}
use Rattle.std.specs.Cmp.{nat_cmp_total, on_total, then_total}
use Rattle.std.specs.List.Sorted.{IsPermutation, IsSorted, IsStable}
use Rattle.std.specs.Ordering.{is_lt}
use Rattle.std.proofs.lemmas.List.Sorted.{ranks_by}
use Rattle.qs_book_journal.specs.Merge.{entry_cmp, flat, IsMerged}
use Rattle.qs_book_journal.specs.declared.entry.Entry.{Entry}
use Rattle.qs_book_journal.proofs.OnceLemmas.{sorted_once}

pub merged_by : (journals : List (List Entry)) (entries after : List Entry) → entries ≡ flat journals → IsPermutation entries after → IsSorted entry_cmp after → IsStable entry_cmp entries after → IsMerged journals after
merged_by journals entries after from all sorted stable = record {
  all = subst (λ xs. IsPermutation xs after) from all;
  in_order = sorted;
  as_they_stood = subst (λ xs. IsStable entry_cmp xs after) from stable;
}

pub merged_once : (journals : List (List Entry)) (one other : List Entry) → IsMerged journals one → IsMerged journals other → one ≡ other
merged_once journals one other a b =
    let order = ranks_by {R = entry_cmp} (then_total (on_total (λ (entry : Entry). entry.stamp) nat_cmp_total) (on_total (λ (entry : Entry). entry.node.0) nat_cmp_total)) (λ (entry : Entry). entry) in
    sorted_once (λ x y. is_lt (entry_cmp x y)) order (flat journals) one other a.in_order b.in_order a.as_they_stood b.as_they_stood
