-- What is committed and what a transaction sees, as files in byte order.
use Rattle.std.proofs.Common.{◌≡◌, ℕ, ◌+◌, List, [], ◌∷◌, ◌++◌, ◌<◌, ◌^◌, length, map, Option, Some, None, refl, sym, ap, ◌∙◌, append-nil, arith}
use Rattle.std.specs.Prelude.{Bool, true, false, cond, unwrap_or, is_some, if◌then◌else◌}
use Rattle.std.specs.List.{fold, list_any, AllByRecursion}
use Rattle.std.specs.List.Sorted.{IsStrictlySortedBy}
use Rattle.std.specs.Map.{keys_of}
use Rattle.std.specs.declared.cmp.Ordering.TheVariants.{Less, Equal, Greater}
use Rattle.std.specs.Ordering.{is_eq, ordering_reverse}
use Rattle.std.specs.Cmp.Lexicographic.{texts_ties, nat_list_eq_equiv}
use Rattle.std.proofs.lemmas.List.{append_assoc}
use Rattle.std.proofs.lemmas.Map.Keys.{sorted_head, sorted_tail}
use Rattle.std.proofs.lemmas.Map.Lookups.{exact_bytes}
use Rattle.qs_base.specs.Order.{bytes_cmp, same_bytes}
use Rattle.qs_base.proofs.Same.{same_bytes-self}
use Rattle.qs_base.specs.declared.identifiers.Tid.{Tid}
use Rattle.qs_ops.specs.declared.file.File.{File}
use Rattle.qs_ops.specs.declared.operation.Op.{Op}
use Rattle.qs_ops.specs.declared.share.Share.{Share}
use Rattle.qs_ops.specs.Files.{file_text}
use Rattle.qs_ops.specs.Places.{IsBelowAll, IsInOrder}
use Rattle.qs_ops.specs.Table.{apply_change, is_change_of}
use Rattle.qs_ops.proofs.FileOrder.{same_files, bytes_total}
use Rattle.qs_ops_shares.specs.Shares.{share_in}
use Rattle.qs_ops_shelf.specs.Changed.{changed_at}
use Rattle.qs_ops_shelf.proofs.Files.{file_text-fold, in_order-fold}
use Rattle.qs_files_contents.specs.Slots.{Entries, slot_in, slot_or_new, new_slot, files_by, files_in, files_seen, text_at, seen_at, edit_at, add_name, add_entry}
use Rattle.qs_files_contents.specs.Texts.{Pieces, flat, text_bytes, piece_count}
use Rattle.qs_files_contents.specs.declared.slot.FileText.{FileText}
use Rattle.qs_files_contents.proofs.Ends.{text_after}
use Rattle.qs_files.specs.Held.{Follows}
use Rattle.qs_files.proofs.Following.{IsEnded, unchanged}
use Rattle.qs_files.proofs.Prepares.{flat-edited, seen-edited}

-- ---- files, as some see each slot

module _ (text : FileText → Option (List ℕ)) (none : text new_slot ≡ None) where
  below_all : (name : List ℕ) (es : Entries) → AllByRecursion (λ k. bytes_cmp name k ≡ Less) (keys_of es) → IsBelowAll name (files_by text es)
  below_all name [] all = tt
  below_all name (e ∷ es) all =
      elim (text e.1) as (λ o. IsBelowAll name (elim o [ None ↦ files_by text es | Some t ↦ record { name = e.0; content = t } ∷ files_by text es ])) [
        | None ↦ below_all name es all.1
        | Some t ↦ (all.0, below_all name es all.1)
      ]

  pub in_order-files : (es : Entries) → IsStrictlySortedBy bytes_cmp (keys_of es) → IsInOrder (files_by text es)
  in_order-files [] sorted = tt
  in_order-files (e ∷ es) sorted =
      let head = sorted_head bytes_cmp e.0 (keys_of es) sorted in
      let tail = sorted_tail bytes_cmp e.0 (keys_of es) sorted in
      elim (text e.1) as (λ o. IsInOrder (elim o [ None ↦ files_by text es | Some t ↦ record { name = e.0; content = t } ∷ files_by text es ])) [
        | None ↦ in_order-files es tail
        | Some t ↦ (below_all e.0 es head, in_order-files es tail)
      ]

  absent_below : (name : List ℕ) (fs : List File) → IsBelowAll name fs → file_text fs name ≡ None
  absent_below name [] all = refl
  absent_below name (f ∷ fs) all =
      let apart : same_bytes f.name name ≡ false = texts_ties f.name name ∙ ap is_eq (bytes_total.antisymm f.name name ∙ ap ordering_reverse all.0) in
      rw apart (absent_below name fs all.1)

  elsewhere : (e : List ℕ × FileText) (es : Entries) (q : List ℕ) → is_eq (bytes_cmp q e.0) ≡ false → file_text (files_by text (e ∷ es)) q ≡ file_text (files_by text es) q
  elsewhere e es q apart =
      let not_it : same_bytes e.0 q ≡ false = nat_list_eq_equiv.symm e.0 q ∙ texts_ties q e.0 ∙ apart in
      elim (text e.1) as (λ o. file_text (elim o [ None ↦ files_by text es | Some t ↦ record { name = e.0; content = t } ∷ files_by text es ]) q ≡ file_text (files_by text es) q) [
        | None ↦ refl
        | Some t ↦ rw not_it refl
      ]

  here : (e : List ℕ × FileText) (es : Entries) (q : List ℕ) → q ≡ e.0 → AllByRecursion (λ k. bytes_cmp e.0 k ≡ Less) (keys_of es) → file_text (files_by text (e ∷ es)) q ≡ text e.1
  here e es q is below =
      rw is
      (elim (text e.1) as (λ o. file_text (elim o [ None ↦ files_by text es | Some t ↦ record { name = e.0; content = t } ∷ files_by text es ]) e.0 ≡ o) [
        | None ↦ absent_below e.0 (files_by text es) (below_all e.0 es below)
        | Some t ↦ rw (same_bytes-self e.0) refl
      ])

  pub file_text-files : (es : Entries) (q : List ℕ) → IsStrictlySortedBy bytes_cmp (keys_of es) → file_text (files_by text es) q ≡ text (slot_or_new es q)
  file_text-files [] q sorted = sym none
  file_text-files (e ∷ es) q sorted =
      let head = sorted_head bytes_cmp e.0 (keys_of es) sorted in
      let tail = sorted_tail bytes_cmp e.0 (keys_of es) sorted in
      (elim (bytes_cmp q e.0) as (λ r. bytes_cmp q e.0 ≡ r → file_text (files_by text (e ∷ es)) q ≡ text (unwrap_or (cond (is_eq r) (Some e.1) (slot_in es q)) new_slot)) [
        | Less ↦ λ is. elsewhere e es q (ap is_eq is) ∙ file_text-files es q tail
        | Equal ↦ λ is. here e es q (exact_bytes q e.0 is) head
        | Greater ↦ λ is. elsewhere e es q (ap is_eq is) ∙ file_text-files es q tail
      ]) refl

-- ---- what is committed

abbrev IsSorted : Entries → Type 0
IsSorted es = IsStrictlySortedBy bytes_cmp (keys_of es)

pub committed-text : (es : Entries) (q : List ℕ) → IsSorted es → file_text (files_in es) q ≡ text_at (slot_or_new es q)
committed-text es q sorted = file_text-files text_at refl es q sorted

pub files-same : (old new : Entries) → IsSorted old → IsSorted new → ((q : List ℕ) → (slot_or_new new q).text ≡ (slot_or_new old q).text) → files_in new ≡ files_in old
files-same old new sorted sorted_new same =
    same_files (files_in new) (files_in old) (in_order-files text_at refl new sorted_new) (in_order-files text_at refl old sorted)
    (λ q. committed-text new q sorted_new ∙ ap (λ (t : Option Pieces). flat t) (same q) ∙ sym (committed-text old q sorted))

-- ---- what a transaction sees

module _ (es : Entries) (shares : List (Tid × Share)) (tid : Tid) (n : ℕ) (f : Follows es shares n) where
  abbrev ops : List Op
  ops = (share_in shares tid).changes

  pub text-seen : (q : List ℕ) → file_text (fold apply_change (files_in es) ops) q ≡ seen_at (slot_or_new es q) tid
  text-seen q =
      file_text-fold ops (files_in es) q
      ∙ ap (λ (o : Option (List ℕ)). fold (changed_at q) o ops) (committed-text es q f.names)
      ∙ f.texts tid q (text_at (slot_or_new es q))
      ∙ sym (seen-edited (slot_or_new es q) tid)

  pub files-seen : fold apply_change (files_in es) ops ≡ files_seen es tid
  files-seen =
      same_files (fold apply_change (files_in es) ops) (files_seen es tid)
      (in_order-fold ops (files_in es) (in_order-files text_at refl es f.names))
      (in_order-files (λ slot. seen_at slot tid) refl es f.names)
      (λ q. text-seen q ∙ sym (file_text-files (λ slot. seen_at slot tid) refl es q f.names))

-- ---- the end of a transaction

module _ (old new : Entries) (shares : List (Tid × Share)) (tid : Tid) (n : ℕ) (f : Follows old shares n) (sorted : IsSorted new)
    (few : (q : List ℕ) → piece_count (slot_or_new old q).text + piece_count (edit_at (slot_or_new old q).edits tid).text < 2 ^ 63) where
  settled : (q : List ℕ) (b : Bool) → list_any (is_change_of q) (share_in shares tid).changes ≡ b
      → flat (if b then text_after tid true (slot_or_new old q) else (slot_or_new old q).text) ≡ fold (changed_at q) (text_at (slot_or_new old q)) (share_in shares tid).changes
  settled q true e = flat-edited (edit_at (slot_or_new old q).edits tid) (slot_or_new old q).text (few q) ∙ sym (f.texts tid q (text_at (slot_or_new old q)))
  settled q false e = sym (unchanged (share_in shares tid).changes q (text_at (slot_or_new old q)) e)

  pub files-committed : ((q : List ℕ) → IsEnded tid true (share_in shares tid).changes (share_in shares tid).reads q (slot_or_new old q) (slot_or_new new q)) → files_in new ≡ fold apply_change (files_in old) (share_in shares tid).changes
  files-committed ended =
      same_files (files_in new) (fold apply_change (files_in old) (share_in shares tid).changes)
      (in_order-files text_at refl new sorted) (in_order-fold (share_in shares tid).changes (files_in old) (in_order-files text_at refl old f.names))
      (λ q. committed-text new q sorted ∙ ap (λ (t : Option Pieces). flat t) (ended q).text
      ∙ settled q (list_any (is_change_of q) (share_in shares tid).changes) refl
      ∙ ap (λ (o : Option (List ℕ)). fold (changed_at q) o (share_in shares tid).changes) (sym (committed-text old q f.names))
      ∙ sym (file_text-fold (share_in shares tid).changes (files_in old) q))

stays_so : (b : Bool) (t : Option Pieces) → (if b then t else t) ≡ t
stays_so true t = refl
stays_so false t = refl

pub files-released : (old new : Entries) (changes : List Op) (reads : List (List ℕ)) (tid : Tid) → IsSorted old → IsSorted new
    → ((q : List ℕ) → IsEnded tid false changes reads q (slot_or_new old q) (slot_or_new new q)) → files_in new ≡ files_in old
files-released old new changes reads tid sorted sorted_new ended =
    files-same old new sorted sorted_new (λ q. (ended q).text ∙ stays_so (list_any (is_change_of q) changes) (slot_or_new old q).text)

-- ---- sums and lists over what is seen

pub names-seen : (tid : Tid) (es : Entries) (names : List (List ℕ)) → fold (add_name tid) names es ≡ names ++ map (λ f. f.name) (files_seen es tid)
names-seen tid [] names = sym (append-nil names)
names-seen tid (e ∷ es) names =
    elim (seen_at e.1 tid) as (λ o. fold (add_name tid) (if is_some o then names ++ e.0 ∷ [] else names) es ≡ names ++ map (λ f. f.name) (elim o as (λ _. List File) [ None ↦ files_seen es tid | Some t ↦ record { name = e.0; content = t } ∷ files_seen es tid ])) [
      | None ↦ names-seen tid es names
      | Some t ↦ names-seen tid es (names ++ e.0 ∷ []) ∙ append_assoc names (e.0 ∷ []) (map (λ f. f.name) (files_seen es tid))
    ]

abbrev add_length : ℕ → File → ℕ
add_length n f = n + length f.content

nothing_more : (n : ℕ) → n + 0 ≡ n
nothing_more n = omega (arith)

pub bytes-seen : (tid : Tid) (es : Entries) (n : ℕ) → fold (add_entry tid) n es ≡ fold add_length n (files_seen es tid)
bytes-seen tid [] n = refl
bytes-seen tid (e ∷ es) n =
    elim (seen_at e.1 tid) as (λ o. fold (add_entry tid) (n + text_bytes o) es ≡ fold add_length n (elim o as (λ _. List File) [ None ↦ files_seen es tid | Some t ↦ record { name = e.0; content = t } ∷ files_seen es tid ])) [
      | None ↦ ap (λ (k : ℕ). fold (add_entry tid) k es) (nothing_more n) ∙ bytes-seen tid es n
      | Some t ↦ bytes-seen tid es (n + length t)
    ]
