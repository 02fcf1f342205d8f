-- What is committed, as files in byte order, follows what stands under each name.
use Rattle.std.proofs.Common.{◌≡◌, ℕ, List, [], ◌∷◌, Option, Some, None, Result, Ok, Err, refl, sym, ap, ◌∙◌}
use Rattle.std.specs.Prelude.{Bool, true, false, cond, ◌||◌, OnErr, if◌then◌else◌}
use Rattle.std.specs.List.{fold, list_any, AllByRecursion}
use Rattle.std.specs.List.Sorted.{IsStrictlySortedBy}
use Rattle.std.specs.Map.{keys_of}
use Rattle.std.specs.declared.cmp.Ordering.TheVariants.{Less, Equal, Greater}
use Rattle.std.specs.Ordering.{is_eq, ordering_reverse}
use Rattle.std.specs.Cmp.Lexicographic.{texts_ties, nat_list_eq_equiv}
use Rattle.std.proofs.lemmas.Map.Keys.{sorted_head, sorted_tail}
use Rattle.std.proofs.lemmas.Map.Lookups.{exact_bytes}
use Rattle.qs_base.specs.Order.{bytes_cmp, same_bytes}
use Rattle.qs_base.proofs.Same.{same_bytes-self}
use Rattle.qs_base.specs.declared.identifiers.Tid.{Tid}
use Rattle.qs_ops.specs.declared.file.File.{File}
use Rattle.qs_ops.specs.declared.operation.Op.{Op}
use Rattle.qs_ops.specs.declared.share.Share.{Share}
use Rattle.qs_ops.specs.Files.{file_text}
use Rattle.qs_ops.specs.Places.{IsBelowAll, IsInOrder}
use Rattle.qs_ops.specs.Table.{TableValue, apply_change, is_change_of}
use Rattle.qs_ops.proofs.FileOrder.{same_files, bytes_total}
use Rattle.qs_ops_shares.specs.Shares.{share_in}
use Rattle.qs_ops_shelf.specs.Changed.{changed_at}
use Rattle.qs_ops_shelf.specs.Slots.{Entries, text_in, text_of, slot_in, pending_in, files_in, SameTexts, IsSettled, Follows}
use Rattle.qs_ops_shelf.specs.Texts.{shadowed}
use Rattle.qs_ops_shelf.specs.declared.slot.ShelfText.{ShelfText}
use Rattle.qs_ops_shelf.proofs.Files.{file_text-fold, in_order-fold}

abbrev the_table : List File → List (List ℕ) → List (Tid × Share) → TableValue
the_table contents notes shares = record { contents = contents; notes = notes; shares = shares }

-- ---- order

below_all : (name : List ℕ) (es : Entries) → AllByRecursion (λ k. bytes_cmp name k ≡ Less) (keys_of es) → IsBelowAll name (files_in es)
below_all name [] all = tt
below_all name (e ∷ es) all =
    elim e.1.text as (λ o. IsBelowAll name (elim o [ None ↦ files_in es | Some text ↦ record { name = e.0; content = text } ∷ files_in es ])) [
      | None ↦ below_all name es all.1
      | Some text ↦ (all.0, below_all name es all.1)
    ]

pub in_order-files_in : (es : Entries) → IsStrictlySortedBy bytes_cmp (keys_of es) → IsInOrder (files_in es)
in_order-files_in [] sorted = tt
in_order-files_in (e ∷ es) sorted =
    let head = sorted_head bytes_cmp e.0 (keys_of es) sorted in
    let tail = sorted_tail bytes_cmp e.0 (keys_of es) sorted in
    elim e.1.text as (λ o. IsInOrder (elim o [ None ↦ files_in es | Some text ↦ record { name = e.0; content = text } ∷ files_in es ])) [
      | None ↦ in_order-files_in es tail
      | Some text ↦ (below_all e.0 es head, in_order-files_in es tail)
    ]

-- ---- the text under a name

absent_below : (name : List ℕ) (fs : List File) → IsBelowAll name fs → file_text fs name ≡ None
absent_below name [] all = refl
absent_below name (f ∷ fs) all =
    let apart : same_bytes f.name name ≡ false = texts_ties f.name name ∙ ap is_eq (bytes_total.antisymm f.name name ∙ ap ordering_reverse all.0) in
    rw apart (absent_below name fs all.1)

pub file_text-files_in : (es : Entries) (q : List ℕ) → IsStrictlySortedBy bytes_cmp (keys_of es) → file_text (files_in es) q ≡ text_in es q
file_text-files_in [] q sorted = refl
file_text-files_in (e ∷ es) q sorted =
    let head = sorted_head bytes_cmp e.0 (keys_of es) sorted in
    let tail = sorted_tail bytes_cmp e.0 (keys_of es) sorted in
    (elim (bytes_cmp q e.0) as (λ r. bytes_cmp q e.0 ≡ r → file_text (files_in (e ∷ es)) q ≡ text_of (cond (is_eq r) (Some e.1) (slot_in es q))) [
      | Less ↦ λ is. elsewhere e es q (ap is_eq is) ∙ file_text-files_in es q tail
      | Equal ↦ λ is. here e es q (exact_bytes q e.0 is) head
      | Greater ↦ λ is. elsewhere e es q (ap is_eq is) ∙ file_text-files_in es q tail
    ]) refl
  where
    elsewhere : (e : List ℕ × ShelfText) (es : Entries) (q : List ℕ) → is_eq (bytes_cmp q e.0) ≡ false → file_text (files_in (e ∷ es)) q ≡ file_text (files_in es) q
    elsewhere e es q apart =
        let not_it : same_bytes e.0 q ≡ false = nat_list_eq_equiv.symm e.0 q ∙ texts_ties q e.0 ∙ apart in
        elim e.1.text as (λ o. file_text (elim o [ None ↦ files_in es | Some text ↦ record { name = e.0; content = text } ∷ files_in es ]) q ≡ file_text (files_in es) q) [
          | None ↦ refl
          | Some text ↦ rw not_it refl
        ]

    here : (e : List ℕ × ShelfText) (es : Entries) (q : List ℕ) → q ≡ e.0 → AllByRecursion (λ k. bytes_cmp e.0 k ≡ Less) (keys_of es) → file_text (files_in (e ∷ es)) q ≡ e.1.text
    here e es q is below =
        rw is
        (elim e.1.text as (λ o. file_text (elim o [ None ↦ files_in es | Some text ↦ record { name = e.0; content = text } ∷ files_in es ]) e.0 ≡ o) [
          | None ↦ absent_below e.0 (files_in es) (below_all e.0 es below)
          | Some text ↦ rw (same_bytes-self e.0) refl
        ])

-- ---- whole contents

pub files-same : (old new : Entries) → IsStrictlySortedBy bytes_cmp (keys_of old) → IsStrictlySortedBy bytes_cmp (keys_of new) → SameTexts old new → files_in new ≡ files_in old
files-same old new sorted sorted_new same =
    same_files (files_in new) (files_in old) (in_order-files_in new sorted_new) (in_order-files_in old sorted)
    (λ q. file_text-files_in new q sorted_new ∙ same q ∙ sym (file_text-files_in old q sorted))

-- changes to other names leave the text under a name
unchanged : (ops : List Op) (q : List ℕ) (before : Option (List ℕ)) → list_any (is_change_of q) ops ≡ false → fold (changed_at q) before ops ≡ before
unchanged [] q before none = refl
unchanged (op ∷ ops) q before none =
    (elim (is_change_of q op) as (λ b. is_change_of q op ≡ b → b || list_any (is_change_of q) ops ≡ false → fold (changed_at q) (changed_at q before op) ops ≡ before) [
      | true ↦ λ e bad. absurd (cc)
      | false ↦ λ e rest. rw e (unchanged ops q before rest)
    ]) refl none

settled_text : (b : Bool) (ops : List Op) (q : List ℕ) (pending before : Option (List ℕ)) → list_any (is_change_of q) ops ≡ b → fold (changed_at q) before ops ≡ shadowed pending before
    → (if b then shadowed pending before else before) ≡ fold (changed_at q) before ops
settled_text true ops q pending before e is = sym is
settled_text false ops q pending before e is = sym (unchanged ops q before e)

pub files-committed : (old new : Entries) (shares : List (Tid × Share)) (tid : Tid) → IsStrictlySortedBy bytes_cmp (keys_of old) → IsStrictlySortedBy bytes_cmp (keys_of new)
    → Follows old shares → IsSettled (λ q. list_any (is_change_of q) (share_in shares tid).changes) tid old new
    → files_in new ≡ fold apply_change (files_in old) (share_in shares tid).changes
files-committed old new shares tid sorted sorted_new follows settled =
    let ops = (share_in shares tid).changes in
    same_files (files_in new) (fold apply_change (files_in old) ops) (in_order-files_in new sorted_new) (in_order-fold ops (files_in old) (in_order-files_in old sorted))
    (λ q. file_text-files_in new q sorted_new ∙ settled q
    ∙ settled_text (list_any (is_change_of q) ops) ops q (pending_in old q tid) (text_in old q) refl (follows.texts tid q (text_in old q))
    ∙ ap (λ (o : Option (List ℕ)). fold (changed_at q) o ops) (sym (file_text-files_in old q sorted))
    ∙ sym (file_text-fold ops (files_in old) q))

-- a change that is not pending is to no name that the transaction changed
pub not_pending : (old : Entries) (shares : List (Tid × Share)) (tid : Tid) (q : List ℕ) → Follows old shares → list_any (is_change_of q) (share_in shares tid).changes ≡ false → pending_in old q tid ≡ None
not_pending old shares tid q follows none =
    shadow_none (pending_in old q tid) (sym (follows.texts tid q None) ∙ unchanged (share_in shares tid).changes q None none)
  where
    shadow_none : (p : Option (List ℕ)) → shadowed p None ≡ None → p ≡ None
    shadow_none None e = refl
    shadow_none (Some text) e = e

-- ---- what a transaction sees

pub text-seen : (es : Entries) (shares : List (Tid × Share)) (tid : Tid) (name : List ℕ) → IsStrictlySortedBy bytes_cmp (keys_of es) → Follows es shares
    → shadowed (pending_in es name tid) (text_in es name) ≡ file_text (fold apply_change (files_in es) (share_in shares tid).changes) name
text-seen es shares tid name sorted follows =
    let ops = (share_in shares tid).changes in
    sym (file_text-fold ops (files_in es) name
    ∙ ap (λ (o : Option (List ℕ)). fold (changed_at name) o ops) (file_text-files_in es name sorted)
    ∙ follows.texts tid name (text_in es name))

pub table_is : (fs gs : List File) (notes more : List (List ℕ)) (shares after : List (Tid × Share)) → fs ≡ gs → notes ≡ more → shares ≡ after → the_table fs notes shares ≡ the_table gs more after
table_is fs gs notes more shares after f n s =
    ap (λ (x : List File). the_table x notes shares) f ∙ ap (λ (x : List (List ℕ)). the_table gs x shares) n ∙ ap (λ (x : List (Tid × Share)). the_table gs more x) s

pub on_err_always : {T E P : Type 0} (r : Result T E) → P → OnErr r P
on_err_always (Ok x) p = tt
on_err_always (Err e) p = p
