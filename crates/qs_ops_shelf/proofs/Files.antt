-- The text under each name, once changes are applied.
use Rattle.std.proofs.Common.{◌≡◌, ℕ, ◌++◌, List, [], ◌∷◌, Option, Some, None, refl, sym, ap, ◌∙◌}
use Rattle.std.specs.Prelude.{Bool, true, false, not, cond, if◌then◌else◌, unwrap_or}
use Rattle.std.specs.List.{fold}
use Rattle.std.specs.declared.cmp.Ordering.TheVariants.{Less, Equal, Greater}
use Rattle.std.specs.Ordering.{match_ordering, is_eq}
use Rattle.std.specs.Cmp.Lexicographic.{texts_ties}
use Rattle.std.proofs.lemmas.Bool.{false≢true}
use Rattle.std.proofs.lemmas.Map.Lookups.{exact_bytes}
use Rattle.qs_base.specs.Order.{bytes_cmp, same_bytes}
use Rattle.qs_base.proofs.Same.{same_bytes-true, same_bytes-self}
use Rattle.qs_ops.specs.declared.file.File.{File}
use Rattle.qs_ops.specs.declared.operation.Op.{Op}
use Rattle.qs_ops.specs.declared.operation.Op.TheVariants.{Put, Append, Del, Bind, Window, Keep}
use Rattle.qs_ops.specs.Files.{file_text, put_file}
use Rattle.qs_ops.specs.Places.{IsInOrder}
use Rattle.qs_ops.specs.Table.{apply_change, remove_file, text_or_empty}
use Rattle.qs_ops.proofs.FileOrder.{in_order-put_file, in_order-remove_file}
use Rattle.qs_ops_shelf.specs.Changed.{changed_at}

-- a file of this name and text
abbrev new_file : List ℕ → List ℕ → File
new_file name text = record { name = name; content = text }

-- ---- two tests, one after the other

swapped : {X : Type 0} (a b : Bool) (x y z : X) → (a ≡ true → b ≡ true → ⊥) → (if a then x else (if b then y else z)) ≡ (if b then y else (if a then x else z))
swapped true true x y z apart = absurd (apart refl refl)
swapped true false x y z apart = refl
swapped false true x y z apart = refl
swapped false false x y z apart = refl

absorbed : {X : Type 0} (a b : Bool) (x y z : X) → (b ≡ true → a ≡ true) → (if a then x else z) ≡ (if a then x else (if b then y else z))
absorbed true b x y z within = refl
absorbed false true x y z within = absurd (false≢true (within refl))
absorbed false false x y z within = refl

either_way : (b : Bool) (o : Option (List ℕ)) → o ≡ (if b then o else o)
either_way true o = refl
either_way false o = refl

-- two names that a third one is
both_same : (x y q : List ℕ) → same_bytes x q ≡ true → same_bytes y q ≡ true → x ≡ y
both_same x y q a b = same_bytes-true x q a ∙ sym (same_bytes-true y q b)

-- ---- one change

apart : (name : List ℕ) (f : File) (q : List ℕ) → same_bytes f.name name ≡ false → same_bytes f.name q ≡ true → same_bytes name q ≡ true → ⊥
apart name f q differ a b =
    let same : same_bytes f.name name ≡ true = ap (λ (n : List ℕ). same_bytes f.name n) (sym (both_same f.name name q a b)) ∙ same_bytes-self f.name in
    false≢true (sym differ ∙ same)

not_equal : (name other : List ℕ) → bytes_cmp name other ≡ Greater → same_bytes other name ≡ false
not_equal name other gt = by (same_bytes other name) refl
  where
    by : (b : Bool) → same_bytes other name ≡ b → b ≡ false
    by false e = refl
    by true e =
        let same : same_bytes name other ≡ true = ap (λ (n : List ℕ). same_bytes n other) (sym (same_bytes-true other name e)) ∙ same_bytes-self other in
        absurd (false≢true (sym (texts_ties name other ∙ ap is_eq gt) ∙ same))

file_text-put_file : (fs : List File) (name text q : List ℕ) → file_text (put_file fs name text) q ≡ (if same_bytes name q then Some text else file_text fs q)
file_text-put_file [] name text q = refl
file_text-put_file (f ∷ fs) name text q =
    (elim (bytes_cmp name f.name) as (λ o. bytes_cmp name f.name ≡ o → file_text (match_ordering o (new_file name text ∷ f ∷ fs) (new_file name text ∷ fs) (f ∷ put_file fs name text)) q ≡ (if same_bytes name q then Some text else file_text (f ∷ fs) q)) [
      | Less ↦ λ is. refl
      | Equal ↦ λ is. absorbed (same_bytes name q) (same_bytes f.name q) (Some text) (Some f.content) (file_text fs q) (λ same. ap (λ (n : List ℕ). same_bytes n q) (exact_bytes name f.name is) ∙ same)
      | Greater ↦ λ is. ap (λ (o : Option (List ℕ)). if same_bytes f.name q then Some f.content else o) (file_text-put_file fs name text q)
          ∙ swapped (same_bytes f.name q) (same_bytes name q) (Some f.content) (Some text) (file_text fs q) (apart name f q (not_equal name f.name is))
    ]) refl

file_text-remove_file : (fs : List File) (name q : List ℕ) → file_text (remove_file fs name) q ≡ (if same_bytes name q then None else file_text fs q)
file_text-remove_file [] name q = either_way (same_bytes name q) None
file_text-remove_file (f ∷ fs) name q =
    (elim (same_bytes f.name name) as (λ b. same_bytes f.name name ≡ b → file_text (cond (not b) (f ∷ remove_file fs name) (remove_file fs name)) q ≡ (if same_bytes name q then None else file_text (f ∷ fs) q)) [
      | true ↦ λ is. file_text-remove_file fs name q
          ∙ absorbed (same_bytes name q) (same_bytes f.name q) None (Some f.content) (file_text fs q) (λ same. ap (λ (n : List ℕ). same_bytes n q) (sym (same_bytes-true f.name name is)) ∙ same)
      | false ↦ λ is. ap (λ (o : Option (List ℕ)). if same_bytes f.name q then Some f.content else o) (file_text-remove_file fs name q)
          ∙ swapped (same_bytes f.name q) (same_bytes name q) (Some f.content) None (file_text fs q) (apart name f q is)
    ]) refl

-- the text under one name, joined to that of a name that is the same
appended : (b : Bool) (fs : List File) (name text q : List ℕ) → same_bytes name q ≡ b
    → (if b then Some (text_or_empty fs name ++ text) else file_text fs q) ≡ (if b then Some (unwrap_or (file_text fs q) [] ++ text) else file_text fs q)
appended true fs name text q is = ap (λ (n : List ℕ). Some (text_or_empty fs n ++ text)) (same_bytes-true name q is)
appended false fs name text q is = refl

file_text-apply_change : (fs : List File) (op : Op) (q : List ℕ) → file_text (apply_change fs op) q ≡ changed_at q (file_text fs q) op
file_text-apply_change fs (Put name text) q = file_text-put_file fs name text q
file_text-apply_change fs (Append name text) q = file_text-put_file fs name (text_or_empty fs name ++ text) q ∙ appended (same_bytes name q) fs name text q refl
file_text-apply_change fs (Del name) q = file_text-remove_file fs name q
file_text-apply_change fs (Bind name text) q = file_text-put_file fs name text q
file_text-apply_change fs (Window name text) q = file_text-put_file fs name text q
file_text-apply_change fs (Keep name text) q = file_text-put_file fs name text q
file_text-apply_change fs op q = refl

-- ---- all changes

pub file_text-fold : (ops : List Op) (fs : List File) (q : List ℕ) → file_text (fold apply_change fs ops) q ≡ fold (changed_at q) (file_text fs q) ops
file_text-fold [] fs q = refl
file_text-fold (op ∷ ops) fs q = file_text-fold ops (apply_change fs op) q ∙ ap (λ (o : Option (List ℕ)). fold (changed_at q) o ops) (file_text-apply_change fs op q)

-- ---- the order stays

in_order-apply_change : (fs : List File) (op : Op) → IsInOrder fs → IsInOrder (apply_change fs op)
in_order-apply_change fs (Put name text) o = in_order-put_file fs name text o
in_order-apply_change fs (Append name text) o = in_order-put_file fs name (text_or_empty fs name ++ text) o
in_order-apply_change fs (Del name) o = in_order-remove_file fs name o
in_order-apply_change fs (Bind name text) o = in_order-put_file fs name text o
in_order-apply_change fs (Window name text) o = in_order-put_file fs name text o
in_order-apply_change fs (Keep name text) o = in_order-put_file fs name text o
in_order-apply_change fs op o = o

pub in_order-fold : (ops : List Op) (fs : List File) → IsInOrder fs → IsInOrder (fold apply_change fs ops)
in_order-fold [] fs o = o
in_order-fold (op ∷ ops) fs o = in_order-fold ops (apply_change fs op) (in_order-apply_change fs op o)
