-- Under a key that is present, a value that is written in its place is a value that is put in.
use Rattle.std.proofs.Common.{◌≡◌, List, [], ◌∷◌, Some, None, refl, ap}
use Rattle.std.specs.Prelude.{cond}
use Rattle.std.specs.declared.cmp.Ordering.{Ordering}
use Rattle.std.specs.declared.cmp.Ordering.TheVariants.{Less, Equal, Greater}
use Rattle.std.specs.Ordering.{match_ordering, is_eq}
use Rattle.std.specs.Cmp.{IsTotalOrder}
use Rattle.std.specs.List.{AllByRecursion}
use Rattle.std.specs.List.Sorted.{IsStrictlySortedBy}
use Rattle.std.specs.Map.{lookup, set_value, keys_of}
use Rattle.std.specs.BTreeMap.{insert_entry, is_at}
use Rattle.std.proofs.lemmas.Cmp.{nat_cmp_total, on_total, then_total}
use Rattle.std.proofs.lemmas.Map.Keys.{sorted_head, sorted_tail}
use Rattle.qs_book_machine.specs.declared.transaction.Link.{Link}
use Rattle.qs_book_machine.specs.declared.transaction.RequestNo.{RequestNo}
use Rattle.qs_book_machine.specs.Transaction.{link_cmp, request_cmp}

pub link_total : IsTotalOrder link_cmp
link_total = then_total (on_total (λ (l : Link). l.from.0) nat_cmp_total) (on_total (λ (l : Link). l.to.0) nat_cmp_total)

pub request_total : IsTotalOrder request_cmp
request_total = then_total (on_total (λ (r : RequestNo). r.link) link_total) (on_total (λ (r : RequestNo). r.number) nat_cmp_total)

less_all : {K : Type 0} (cmp : K → K → Ordering) (total : IsTotalOrder cmp) (k l : K) (ks : List K) → cmp k l ≡ Less → AllByRecursion (λ x. cmp l x ≡ Less) ks → AllByRecursion (λ x. cmp k x ≡ Less) ks
less_all cmp total k l [] less all = tt
less_all cmp total k l (x ∷ ks) less all = (total.trans k l x less all.0, less_all cmp total k l ks less all.1)

lookup_below : {K X : Type 0} (cmp : K → K → Ordering) (k : K) (es : List (K × X)) → AllByRecursion (λ x. cmp k x ≡ Less) (keys_of es) → lookup (is_at (cmp k)) es ≡ None
lookup_below cmp k [] all = refl
lookup_below cmp k (e ∷ es) all = rw all.0 (lookup_below cmp k es all.1)

module _ {K X : Type 0} (cmp : K → K → Ordering) (total : IsTotalOrder cmp) where
  pub insert_present : (es : List (K × X)) (k : K) (old new : X) → IsStrictlySortedBy cmp (keys_of es) → Some old ≡ lookup (is_at (cmp k)) es
      → set_value (is_at (cmp k)) es new ≡ insert_entry cmp es k new
  insert_present [] k old new sorted found = absurd (cc)
  insert_present (e ∷ es) k old new sorted found =
      let head = sorted_head cmp e.0 (keys_of es) sorted in
      let tail = sorted_tail cmp e.0 (keys_of es) sorted in
      (elim (cmp k e.0) as (λ o. cmp k e.0 ≡ o → Some old ≡ cond (is_eq o) (Some e.1) (lookup (is_at (cmp k)) es) → cond (is_eq o) ((e.0, new) ∷ es) (e ∷ set_value (is_at (cmp k)) es new) ≡ match_ordering o ((k, new) ∷ e ∷ es) ((e.0, new) ∷ es) (e ∷ insert_entry cmp es k new)) [
        | Less ↦ λ is there. let gone = lookup_below cmp k es (less_all cmp total k e.0 (keys_of es) is head) in absurd (cc)
        | Equal ↦ λ is there. refl
        | Greater ↦ λ is there. ap (λ l. e ∷ l) (insert_present es k old new tail there)
      ]) refl found
