-- Gathered texts follow the changes, and committing them commits the changes.
use Rattle.std.proofs.Common.{◌≡◌, ℕ, List, [], ◌∷◌, ◌++◌, Option, Some, None, refl, sym, ap, subst, ◌∙◌, append_assoc, append-nil}
use Rattle.std.specs.Prelude.{Bool, true, false, cond, if◌then◌else◌, unwrap_or}
use Rattle.std.specs.List.{fold, AllByRecursion}
use Rattle.std.specs.List.Sorted.{IsStrictlySortedBy}
use Rattle.std.specs.declared.cmp.Ordering.TheVariants.{Less}
use Rattle.std.specs.Ordering.{is_eq}
use Rattle.std.specs.Map.{lookup, keys_of}
use Rattle.std.specs.BTreeMap.{is_at}
use Rattle.std.specs.Cmp.Lexicographic.{texts_ties, nat_list_eq_equiv}
use Rattle.std.proofs.lemmas.Map.Keys.{sorted_head, sorted_tail}
use Rattle.qs_base.specs.Order.{bytes_cmp, same_bytes}
use Rattle.qs_base.proofs.Same.{same_bytes-true}
use Rattle.qs_ops.specs.declared.operation.Op.{Op}
use Rattle.qs_ops.specs.declared.operation.Op.TheVariants.{Put, Append, Del, Bind, Window, Keep, Note}
use Rattle.qs_ops.specs.declared.file.File.{File}
use Rattle.qs_ops.specs.Files.{file_text}
use Rattle.qs_ops.specs.Places.{IsInOrder}
use Rattle.qs_ops.specs.Table.{is_change_of, apply_change, apply_note, text_or_empty}
use Rattle.qs_book_tables.specs.Edits.{changed_name, text_by}
use Rattle.qs_book_tables.specs.Views.{set_text}
use Rattle.qs_book_tables.specs.Staged.{Texts, text_staged, IsStaged, AreStaged, set_entry, IsWithoutName}
use Rattle.qs_ops.proofs.FileOrder.{in_order-put_file, in_order-remove_file, same_files}
use Rattle.qs_book_tables.proofs.Texts.{file_text-set_text, file_text-fold}

-- ---- one change is gathered

is_change_of-name : (op : Op) (name q : List ℕ) → changed_name op ≡ Some name → is_change_of q op ≡ same_bytes name q
is_change_of-name (Put n text) name q e = let is : n ≡ name = cc e in ap (λ (m : List ℕ). same_bytes m q) is
is_change_of-name (Append n text) name q e = let is : n ≡ name = cc e in ap (λ (m : List ℕ). same_bytes m q) is
is_change_of-name (Del n) name q e = let is : n ≡ name = cc e in ap (λ (m : List ℕ). same_bytes m q) is
is_change_of-name (Bind n text) name q e = let is : n ≡ name = cc e in ap (λ (m : List ℕ). same_bytes m q) is
is_change_of-name (Window n text) name q e = let is : n ≡ name = cc e in ap (λ (m : List ℕ). same_bytes m q) is
is_change_of-name (Keep n text) name q e = let is : n ≡ name = cc e in ap (λ (m : List ℕ). same_bytes m q) is
is_change_of-name op name q e = absurd (cc)

pub staged_step : (files : List File) (old mid new : Texts) (name : List ℕ) (op : Op) (after : Option (List ℕ))
    → changed_name op ≡ Some name
    → IsWithoutName name old mid
    → ((q : List ℕ) → lookup (is_at (bytes_cmp q)) new ≡ cond (is_at (bytes_cmp name) q) (Some after) (lookup (is_at (bytes_cmp q)) mid))
    → after ≡ text_by (text_staged old files name) op
    → IsStaged files op old new
staged_step files old mid new name op after changed others entry is q =
    ap (λ (o : Option (Option (List ℕ))). unwrap_or o (file_text files q)) (entry q)
    ∙ by (is_at (bytes_cmp name) q) refl
    ∙ ap (λ (b : Bool). if b then text_by (text_staged old files q) op else text_staged old files q) (sym (is_change_of-name op name q changed ∙ texts_ties name q))
  where
    by : (b : Bool) → is_at (bytes_cmp name) q ≡ b
        → unwrap_or (cond b (Some after) (lookup (is_at (bytes_cmp q)) mid)) (file_text files q) ≡ (if b then text_by (text_staged old files q) op else text_staged old files q)
    by true at = is ∙ ap (λ (n : List ℕ). text_by (text_staged old files n) op) (same_bytes-true name q (texts_ties name q ∙ at))
    by false at = ap (λ (o : Option (Option (List ℕ))). unwrap_or o (file_text files q)) (others q at)

-- ---- gathered texts are committed

in_order-set_text : (fs : List File) (name : List ℕ) (text : Option (List ℕ)) → IsInOrder fs → IsInOrder (set_text fs name text)
in_order-set_text fs name (Some text) sorted = in_order-put_file fs name text sorted
in_order-set_text fs name None sorted = in_order-remove_file fs name sorted

in_order-texts : (es : Texts) (fs : List File) → IsInOrder fs → IsInOrder (fold set_entry fs es)
in_order-texts [] fs sorted = sorted
in_order-texts (e ∷ es) fs sorted = in_order-texts es (set_entry fs e) (in_order-set_text fs e.0 e.1 sorted)

lookup-below : (q : List ℕ) (es : Texts) → AllByRecursion (λ n. bytes_cmp q n ≡ Less) (keys_of es) → lookup (is_at (bytes_cmp q)) es ≡ None
lookup-below q [] all = refl
lookup-below q (e ∷ es) all = rw all.0 (lookup-below q es all.1)

-- what is under a name once the texts are committed is what was gathered for it
file_text-texts : (es : Texts) (fs : List File) (q : List ℕ) → IsStrictlySortedBy bytes_cmp (keys_of es) → file_text (fold set_entry fs es) q ≡ text_staged es fs q
file_text-texts [] fs q sorted = refl
file_text-texts (e ∷ es) fs q sorted =
    file_text-texts es (set_entry fs e) q (sorted_tail bytes_cmp e.0 (keys_of es) sorted)
    ∙ ap (λ (o : Option (List ℕ)). unwrap_or (lookup (is_at (bytes_cmp q)) es) o) (file_text-set_text fs e.0 e.1 q)
    ∙ ap (λ (b : Bool). unwrap_or (lookup (is_at (bytes_cmp q)) es) (if b then e.1 else file_text fs q)) (nat_list_eq_equiv.symm e.0 q ∙ texts_ties q e.0)
    ∙ by (is_eq (bytes_cmp q e.0)) refl
  where
    by : (b : Bool) → is_eq (bytes_cmp q e.0) ≡ b
        → unwrap_or (lookup (is_at (bytes_cmp q)) es) (if b then e.1 else file_text fs q) ≡ unwrap_or (cond b (Some e.1) (lookup (is_at (bytes_cmp q)) es)) (file_text fs q)
    by true at =
        let is : q ≡ e.0 = same_bytes-true q e.0 (texts_ties q e.0 ∙ at) in
        let none = lookup-below q es (subst (λ n. AllByRecursion (λ m. bytes_cmp n m ≡ Less) (keys_of es)) (sym is) (sorted_head bytes_cmp e.0 (keys_of es) sorted)) in
        ap (λ (o : Option (Option (List ℕ))). unwrap_or o e.1) none
    by false at = refl

-- ---- all changes are committed

in_order-apply_change : (fs : List File) (op : Op) → IsInOrder fs → IsInOrder (apply_change fs op)
in_order-apply_change fs (Put name text) sorted = in_order-put_file fs name text sorted
in_order-apply_change fs (Append name text) sorted = in_order-put_file fs name (text_or_empty fs name ++ text) sorted
in_order-apply_change fs (Del name) sorted = in_order-remove_file fs name sorted
in_order-apply_change fs (Bind name text) sorted = in_order-put_file fs name text sorted
in_order-apply_change fs (Window name text) sorted = in_order-put_file fs name text sorted
in_order-apply_change fs (Keep name text) sorted = in_order-put_file fs name text sorted
in_order-apply_change fs op sorted = sorted

pub in_order-fold : (ops : List Op) (fs : List File) → IsInOrder fs → IsInOrder (fold apply_change fs ops)
in_order-fold [] fs sorted = sorted
in_order-fold (op ∷ ops) fs sorted = in_order-fold ops (apply_change fs op) (in_order-apply_change fs op sorted)

-- committing what was gathered commits the changes
pub staged_files : (fs : List File) (ops : List Op) (es : Texts) → IsInOrder fs → IsStrictlySortedBy bytes_cmp (keys_of es) → AreStaged fs ops es → fold set_entry fs es ≡ fold apply_change fs ops
staged_files fs ops es order sorted staged =
    same_files (fold set_entry fs es) (fold apply_change fs ops) (in_order-texts es fs order) (in_order-fold ops fs order)
    (λ q. file_text-texts es fs q sorted ∙ staged q ∙ sym (file_text-fold ops fs q))

-- ---- notes

one_note : (notes : List (List ℕ)) (op : Op) → apply_note notes op ≡ notes ++ apply_note [] op
one_note notes (Note text) = refl
one_note notes op = sym (append-nil notes)

pub more_notes : (ops : List Op) (notes : List (List ℕ)) → fold apply_note notes ops ≡ notes ++ fold apply_note [] ops
more_notes [] notes = sym (append-nil notes)
more_notes (op ∷ ops) notes =
    more_notes ops (apply_note notes op)
    ∙ ap (λ (l : List (List ℕ)). l ++ fold apply_note [] ops) (one_note notes op)
    ∙ append_assoc notes (apply_note [] op) (fold apply_note [] ops)
    ∙ ap (λ (l : List (List ℕ)). notes ++ l) (sym (more_notes ops (apply_note [] op)))
