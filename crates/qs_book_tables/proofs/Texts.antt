-- The text under a name, and the names, once changes are applied.
use Rattle.std.proofs.Common.{◌≡◌, ℕ, ◌+◌, ◌<◌, ◌++◌, List, [], ◌∷◌, length, take, get_or, Option, Some, None, refl, sym, ap, subst, ◌∙◌}
use Rattle.std.specs.Prelude.{Bool, true, false, not, cond, if◌then◌else◌, unwrap_or}
use Rattle.std.specs.List.{fold}
use Rattle.std.specs.declared.cmp.Ordering.TheVariants.{Less, Equal, Greater}
use Rattle.std.specs.Ordering.{match_ordering, is_eq}
use Rattle.std.specs.Cmp.Lexicographic.{texts_ties}
use Rattle.std.proofs.lemmas.Bool.{false≢true}
use Rattle.std.proofs.lemmas.List.Sums.{fold_more}
use Rattle.std.proofs.lemmas.Map.Lookups.{exact_bytes}
use Rattle.qs_base.specs.Order.{bytes_cmp, same_bytes}
use Rattle.qs_base.proofs.Same.{same_bytes-true, same_bytes-self}
use Rattle.qs_ops.specs.declared.file.File.{File}
use Rattle.qs_ops.specs.declared.operation.Op.{Op}
use Rattle.qs_ops.specs.declared.operation.Op.TheVariants.{Put, Append, Del, Bind, Window, Keep}
use Rattle.qs_ops.specs.Files.{file_text, put_file}
use Rattle.qs_ops.specs.Table.{apply_change, remove_file, text_or_empty}
use Rattle.qs_book_tables.specs.Edits.{changed_at}
use Rattle.qs_book_tables.specs.Views.{names_of, set_text, hollow_change}
use Rattle.qs_ops.specs.Places.{IsBelowAll, IsInOrder}
use Rattle.qs_ops.proofs.FileOrder.{new_file}

-- ---- two tests, one after the other

swapped : {X : Type 0} (a b : Bool) (x y z : X) → (a ≡ true → b ≡ true → ⊥) → (if a then x else (if b then y else z)) ≡ (if b then y else (if a then x else z))
swapped true true x y z apart = absurd (apart refl refl)
swapped true false x y z apart = refl
swapped false true x y z apart = refl
swapped false false x y z apart = refl

absorbed : {X : Type 0} (a b : Bool) (x y z : X) → (b ≡ true → a ≡ true) → (if a then x else z) ≡ (if a then x else (if b then y else z))
absorbed true b x y z within = refl
absorbed false true x y z within = absurd (false≢true (within refl))
absorbed false false x y z within = refl

either_way : (b : Bool) (o : Option (List ℕ)) → o ≡ (if b then o else o)
either_way true o = refl
either_way false o = refl

-- two names that a third one is
both_same : (x y q : List ℕ) → same_bytes x q ≡ true → same_bytes y q ≡ true → x ≡ y
both_same x y q a b = same_bytes-true x q a ∙ sym (same_bytes-true y q b)

-- ---- one change

apart : (name : List ℕ) (f : File) (q : List ℕ) → same_bytes f.name name ≡ false → same_bytes f.name q ≡ true → same_bytes name q ≡ true → ⊥
apart name f q differ a b =
    let same : same_bytes f.name name ≡ true = ap (λ (n : List ℕ). same_bytes f.name n) (sym (both_same f.name name q a b)) ∙ same_bytes-self f.name in
    false≢true (sym differ ∙ same)

not_equal : (name other : List ℕ) → bytes_cmp name other ≡ Greater → same_bytes other name ≡ false
not_equal name other gt = by (same_bytes other name) refl
  where
    by : (b : Bool) → same_bytes other name ≡ b → b ≡ false
    by false e = refl
    by true e =
        let same : same_bytes name other ≡ true = ap (λ (n : List ℕ). same_bytes n other) (sym (same_bytes-true other name e)) ∙ same_bytes-self other in
        absurd (false≢true (sym (texts_ties name other ∙ ap is_eq gt) ∙ same))

pub file_text-put_file : (fs : List File) (name text q : List ℕ) → file_text (put_file fs name text) q ≡ (if same_bytes name q then Some text else file_text fs q)
file_text-put_file [] name text q = refl
file_text-put_file (f ∷ fs) name text q =
    (elim (bytes_cmp name f.name) as (λ o. bytes_cmp name f.name ≡ o → file_text (match_ordering o (new_file name text ∷ f ∷ fs) (new_file name text ∷ fs) (f ∷ put_file fs name text)) q ≡ (if same_bytes name q then Some text else file_text (f ∷ fs) q)) [
      | Less ↦ λ is. refl
      | Equal ↦ λ is. absorbed (same_bytes name q) (same_bytes f.name q) (Some text) (Some f.content) (file_text fs q) (λ same. ap (λ (n : List ℕ). same_bytes n q) (exact_bytes name f.name is) ∙ same)
      | Greater ↦ λ is. ap (λ (o : Option (List ℕ)). if same_bytes f.name q then Some f.content else o) (file_text-put_file fs name text q)
          ∙ swapped (same_bytes f.name q) (same_bytes name q) (Some f.content) (Some text) (file_text fs q) (apart name f q (not_equal name f.name is))
    ]) refl

pub file_text-remove_file : (fs : List File) (name q : List ℕ) → file_text (remove_file fs name) q ≡ (if same_bytes name q then None else file_text fs q)
file_text-remove_file [] name q = either_way (same_bytes name q) None
file_text-remove_file (f ∷ fs) name q =
    (elim (same_bytes f.name name) as (λ b. same_bytes f.name name ≡ b → file_text (cond (not b) (f ∷ remove_file fs name) (remove_file fs name)) q ≡ (if same_bytes name q then None else file_text (f ∷ fs) q)) [
      | true ↦ λ is. file_text-remove_file fs name q
          ∙ absorbed (same_bytes name q) (same_bytes f.name q) None (Some f.content) (file_text fs q) (λ same. ap (λ (n : List ℕ). same_bytes n q) (sym (same_bytes-true f.name name is)) ∙ same)
      | false ↦ λ is. ap (λ (o : Option (List ℕ)). if same_bytes f.name q then Some f.content else o) (file_text-remove_file fs name q)
          ∙ swapped (same_bytes f.name q) (same_bytes name q) (Some f.content) None (file_text fs q) (apart name f q is)
    ]) refl

pub file_text-set_text : (fs : List File) (name : List ℕ) (text : Option (List ℕ)) (q : List ℕ) → file_text (set_text fs name text) q ≡ (if same_bytes name q then text else file_text fs q)
file_text-set_text fs name (Some text) q = file_text-put_file fs name text q
file_text-set_text fs name None q = file_text-remove_file fs name q

-- the text under one name, joined to that of a name that is the same
appended : (b : Bool) (fs : List File) (name text q : List ℕ) → same_bytes name q ≡ b
    → (if b then Some (text_or_empty fs name ++ text) else file_text fs q) ≡ (if b then Some (unwrap_or (file_text fs q) [] ++ text) else file_text fs q)
appended true fs name text q is = ap (λ (n : List ℕ). Some (text_or_empty fs n ++ text)) (same_bytes-true name q is)
appended false fs name text q is = refl

pub file_text-apply_change : (fs : List File) (op : Op) (q : List ℕ) → file_text (apply_change fs op) q ≡ changed_at q (file_text fs q) op
file_text-apply_change fs (Put name text) q = file_text-put_file fs name text q
file_text-apply_change fs (Append name text) q = file_text-put_file fs name (text_or_empty fs name ++ text) q ∙ appended (same_bytes name q) fs name text q refl
file_text-apply_change fs (Del name) q = file_text-remove_file fs name q
file_text-apply_change fs (Bind name text) q = file_text-put_file fs name text q
file_text-apply_change fs (Window name text) q = file_text-put_file fs name text q
file_text-apply_change fs (Keep name text) q = file_text-put_file fs name text q
file_text-apply_change fs op q = refl

-- ---- all changes

pub file_text-fold : (ops : List Op) (fs : List File) (q : List ℕ) → file_text (fold apply_change fs ops) q ≡ fold (changed_at q) (file_text fs q) ops
file_text-fold [] fs q = refl
file_text-fold (op ∷ ops) fs q = file_text-fold ops (apply_change fs op) q ∙ ap (λ (o : Option (List ℕ)). fold (changed_at q) o ops) (file_text-apply_change fs op q)

-- ---- names

names-put_file : (fs gs : List File) (name text other : List ℕ) → names_of fs ≡ names_of gs → names_of (put_file fs name text) ≡ names_of (put_file gs name other)
names-put_file [] [] name text other same = refl
names-put_file [] (g ∷ gs) name text other same = absurd (cc)
names-put_file (f ∷ fs) [] name text other same = absurd (cc)
names-put_file (f ∷ fs) (g ∷ gs) name text other same =
    let head : f.name ≡ g.name = cc in
    let tail : names_of fs ≡ names_of gs = cc in
    rw (ap (λ (n : List ℕ). bytes_cmp name n) head)
    (elim (bytes_cmp name g.name) as (λ o. names_of (match_ordering o (new_file name text ∷ f ∷ fs) (new_file name text ∷ fs) (f ∷ put_file fs name text)) ≡ names_of (match_ordering o (new_file name other ∷ g ∷ gs) (new_file name other ∷ gs) (g ∷ put_file gs name other))) [
      | Less ↦ ap (λ l. name ∷ l) same
      | Equal ↦ ap (λ l. name ∷ l) tail
      | Greater ↦ ap (λ n. n ∷ names_of (put_file fs name text)) head ∙ ap (λ l. g.name ∷ l) (names-put_file fs gs name text other tail)
    ])

names-remove_file : (fs gs : List File) (name : List ℕ) → names_of fs ≡ names_of gs → names_of (remove_file fs name) ≡ names_of (remove_file gs name)
names-remove_file [] [] name same = refl
names-remove_file [] (g ∷ gs) name same = absurd (cc)
names-remove_file (f ∷ fs) [] name same = absurd (cc)
names-remove_file (f ∷ fs) (g ∷ gs) name same =
    let head : f.name ≡ g.name = cc in
    let tail : names_of fs ≡ names_of gs = cc in
    rw (ap (λ (n : List ℕ). same_bytes n name) head)
    (elim (same_bytes g.name name) as (λ b. names_of (cond (not b) (f ∷ remove_file fs name) (remove_file fs name)) ≡ names_of (cond (not b) (g ∷ remove_file gs name) (remove_file gs name))) [
      | true ↦ names-remove_file fs gs name tail
      | false ↦ ap (λ n. n ∷ names_of (remove_file fs name)) head ∙ ap (λ l. g.name ∷ l) (names-remove_file fs gs name tail)
    ])

-- a change does to names what it does with no texts
pub names-hollow_change : (files hollow : List File) (op : Op) → names_of hollow ≡ names_of files → names_of (hollow_change hollow op) ≡ names_of (apply_change files op)
names-hollow_change fs gs (Put name text) same = names-put_file gs fs name [] text same
names-hollow_change fs gs (Append name text) same = names-put_file gs fs name [] (text_or_empty fs name ++ text) same
names-hollow_change fs gs (Del name) same = names-remove_file gs fs name same
names-hollow_change fs gs (Bind name text) same = names-put_file gs fs name [] text same
names-hollow_change fs gs (Window name text) same = names-put_file gs fs name [] text same
names-hollow_change fs gs (Keep name text) same = names-put_file gs fs name [] text same
names-hollow_change fs gs op same = same

pub names-more : (files hollow next : List File) (ops : List Op) (i : ℕ) (op : Op) → i < length ops → op ≡ get_or ops i op
    → names_of hollow ≡ names_of (fold apply_change files (take i ops)) → next ≡ hollow_change hollow op
    → names_of next ≡ names_of (fold apply_change files (take (i + 1) ops))
names-more files hollow next ops i op lt is same step =
    ap names_of step ∙ names-hollow_change (fold apply_change files (take i ops)) hollow op same
    ∙ ap (λ (o : Op). names_of (apply_change (fold apply_change files (take i ops)) o)) is
    ∙ sym (ap names_of (fold_more apply_change files ops i op lt))

-- the order is one of names
below_all-names : (x : List ℕ) (fs gs : List File) → names_of gs ≡ names_of fs → IsBelowAll x fs → IsBelowAll x gs
below_all-names x [] [] same all = tt
below_all-names x [] (g ∷ gs) same all = absurd (cc)
below_all-names x (f ∷ fs) [] same all = absurd (cc)
below_all-names x (f ∷ fs) (g ∷ gs) same all =
    let head : g.name ≡ f.name = cc in
    let tail : names_of gs ≡ names_of fs = cc in
    (ap (λ (n : List ℕ). bytes_cmp x n) head ∙ all.0, below_all-names x fs gs tail all.1)

pub in_order-names : (fs gs : List File) → names_of gs ≡ names_of fs → IsInOrder fs → IsInOrder gs
in_order-names [] [] same sorted = tt
in_order-names [] (g ∷ gs) same sorted = absurd (cc)
in_order-names (f ∷ fs) [] same sorted = absurd (cc)
in_order-names (f ∷ fs) (g ∷ gs) same sorted =
    let head : f.name ≡ g.name = cc in
    let tail : names_of gs ≡ names_of fs = cc in
    (subst (λ n. IsBelowAll n gs) head (below_all-names f.name fs gs tail sorted.0), in_order-names fs gs tail sorted.1)
