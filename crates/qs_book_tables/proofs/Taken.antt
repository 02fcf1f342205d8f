-- Who claims a name, told by the holders of the name.
use Rattle.std.proofs.Common.{◌≡◌, ℕ, List, [], ◌∷◌, Some, refl, ap, ◌∙◌}
use Rattle.std.specs.Prelude.{Bool, true, false, not, cond, ◌&&◌, ◌||◌, if◌then◌else◌, unwrap_or}
use Rattle.std.specs.declared.cmp.Ordering.TheVariants.{Less, Greater}
use Rattle.std.specs.Ordering.{ordering_reverse, is_eq}
use Rattle.std.specs.List.{AllByRecursion, list_any}
use Rattle.std.specs.List.Sorted.{IsStrictlySortedBy}
use Rattle.std.specs.Map.{lookup, keys_of}
use Rattle.std.specs.BTreeMap.{is_at}
use Rattle.std.proofs.lemmas.Cmp.{tied_itself}
use Rattle.std.proofs.lemmas.Map.Keys.{sorted_head, sorted_tail}
use Rattle.qs_base.specs.Order.{tid_cmp, same_tid}
use Rattle.qs_base.specs.declared.identifiers.Tid.{Tid}
use Rattle.qs_ops.specs.declared.share.Share.{Share}
use Rattle.qs_ops.specs.Table.{nothing_held, changes_name, is_claim}
use Rattle.qs_book_tables.specs.Held.{share_in}
use Rattle.qs_book_tables.specs.Index.{keys_where}
use Rattle.qs_base.proofs.TidOrder.{tid_total}

-- ---- each entry is found at its key

abbrev IsFound : List (Tid × Share) → Tid × Share → Type 0
IsFound all e = share_in all e.0 ≡ e.1

found_more : (e : Tid × Share) (rest fs : List (Tid × Share)) → AllByRecursion (λ t. tid_cmp e.0 t ≡ Less) (keys_of fs)
    → AllByRecursion (IsFound rest) fs → AllByRecursion (IsFound (e ∷ rest)) fs
found_more e rest [] above found = tt
found_more e rest (f ∷ fs) above found =
    let greater : tid_cmp f.0 e.0 ≡ Greater = tid_total.antisymm f.0 e.0 ∙ ap ordering_reverse above.0 in
    let apart : is_eq (tid_cmp f.0 e.0) ≡ false = ap is_eq greater in
    (ap (λ (b : Bool). unwrap_or (cond b (Some e.1) (lookup (is_at (tid_cmp f.0)) rest)) nothing_held) apart ∙ found.0, found_more e rest fs above.1 found.1)

all_found : (es : List (Tid × Share)) → IsStrictlySortedBy tid_cmp (keys_of es) → AllByRecursion (IsFound es) es
all_found [] sorted = tt
all_found (e ∷ es) sorted = (
  ap (λ (b : Bool). unwrap_or (cond b (Some e.1) (lookup (is_at (tid_cmp e.0)) es)) nothing_held) (ap is_eq (tied_itself tid_total e.0)),
  found_more e es es (sorted_head tid_cmp e.0 (keys_of es) sorted) (all_found es (sorted_tail tid_cmp e.0 (keys_of es) sorted)),
)

-- ---- claims

abbrev is_voter : Tid → List (Tid × Share) → Tid → Bool
is_voter me all t = not (same_tid me t) && (share_in all t).voted

true-right : (a b : Bool) → (a && b) ≡ (a && (b && true))
true-right true true = refl
true-right true false = refl
true-right false b = refl

false-right : (a b c : Bool) → c ≡ ((a && (b && false)) || c)
false-right true true c = refl
false-right true false c = refl
false-right false b c = refl

voters-claim : (me : Tid) (name : List ℕ) (all es : List (Tid × Share)) → AllByRecursion (IsFound all) es
    → list_any (is_voter me all) (keys_where (changes_name name) es) ≡ list_any (is_claim me name) es
voters-claim me name all [] found = refl
voters-claim me name all (e ∷ es) found =
    elim (changes_name name e.1) as (λ b. list_any (is_voter me all) (if b then e.0 ∷ keys_where (changes_name name) es else keys_where (changes_name name) es) ≡ ((not (same_tid me e.0) && (e.1.voted && b)) || list_any (is_claim me name) es)) [
      | true ↦ ap (λ (s : Share). (not (same_tid me e.0) && s.voted) || list_any (is_voter me all) (keys_where (changes_name name) es)) found.0
          ∙ ap (λ (b : Bool). b || list_any (is_voter me all) (keys_where (changes_name name) es)) (true-right (not (same_tid me e.0)) e.1.voted)
          ∙ ap (λ (b : Bool). (not (same_tid me e.0) && (e.1.voted && true)) || b) (voters-claim me name all es found.1)
      | false ↦ voters-claim me name all es found.1 ∙ false-right (not (same_tid me e.0)) e.1.voted (list_any (is_claim me name) es)
    ]

pub claimed-from_holders : (me : Tid) (name : List ℕ) (es : List (Tid × Share)) (tids : List Tid) → IsStrictlySortedBy tid_cmp (keys_of es)
    → tids ≡ keys_where (changes_name name) es → list_any (is_voter me es) tids ≡ list_any (is_claim me name) es
claimed-from_holders me name es tids sorted are = ap (λ (l : List Tid). list_any (is_voter me es) l) are ∙ voters-claim me name es es (all_found es sorted)

pub claimed-from_none : (me : Tid) (name : List ℕ) (es : List (Tid × Share)) → [] ≡ keys_where (changes_name name) es → false ≡ list_any (is_claim me name) es
claimed-from_none me name [] none = refl
claimed-from_none me name (e ∷ es) none =
    (elim (changes_name name e.1) as (λ b. [] ≡ (if b then e.0 ∷ keys_where (changes_name name) es else keys_where (changes_name name) es) → false ≡ ((not (same_tid me e.0) && (e.1.voted && b)) || list_any (is_claim me name) es)) [
      | true ↦ λ bad. absurd (cc)
      | false ↦ λ rest. claimed-from_none me name es rest ∙ false-right (not (same_tid me e.0)) e.1.voted (list_any (is_claim me name) es)
    ]) none
