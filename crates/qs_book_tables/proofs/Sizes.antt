-- How many bytes all files have, once a change is applied.
use Rattle.std.proofs.Common.{◌≡◌, ℕ, ◌+◌, ◌++◌, ◌<◌, List, [], ◌∷◌, length, take, get_or, Option, Some, None, refl, sym, ap, subst, ◌∙◌, arith}
use Rattle.std.specs.Prelude.{Bool, true, false, not, cond, unwrap_or}
use Rattle.std.specs.List.{fold}
use Rattle.std.specs.declared.cmp.Ordering.TheVariants.{Less, Equal, Greater}
use Rattle.std.specs.Ordering.{is_eq}
use Rattle.std.specs.Cmp.Lexicographic.{texts_ties}
use Rattle.std.proofs.lemmas.List.Sums.{fold_more, sum_by-cons}
use Rattle.qs_base.specs.Order.{bytes_cmp, same_bytes}
use Rattle.qs_base.proofs.Same.{same_bytes-true, same_bytes-self}
use Rattle.qs_ops.specs.declared.operation.Op.{Op}
use Rattle.qs_ops.specs.declared.operation.Op.TheVariants.{Put, Append, Del, Bind, Window, Keep}
use Rattle.qs_ops.specs.declared.file.File.{File}
use Rattle.qs_ops.specs.Files.{file_text, put_file}
use Rattle.qs_ops.specs.Places.{IsBelowAll, IsInOrder}
use Rattle.qs_ops.specs.Table.{apply_change, remove_file, text_or_empty}
use Rattle.qs_ops.proofs.FileOrder.{greater_from_less, in_order-put_file, in_order-remove_file, same_files}
use Rattle.qs_book_tables.specs.Edits.{changed_name, text_by, changed_at}
use Rattle.qs_book_tables.specs.Sizes.{files_bytes, text_bytes, CountsText, CountsChange}
use Rattle.qs_book_tables.specs.Staged.{Texts, text_staged, IsStaged, AreStaged}
use Rattle.qs_book_tables.proofs.Staging.{in_order-fold}
use Rattle.qs_book_tables.proofs.Texts.{file_text-put_file, file_text-remove_file, file_text-fold}

-- ---- a file is taken out

text-below : (name : List ℕ) (fs : List File) → IsBelowAll name fs → file_text fs name ≡ None
text-below name [] all = refl
text-below name (f ∷ fs) all =
    let apart : same_bytes f.name name ≡ false = texts_ties f.name name ∙ ap is_eq (greater_from_less name f.name all.0) in
    rw apart (text-below name fs all.1)

bytes-remove_file : (fs : List File) (name : List ℕ) → IsInOrder fs → files_bytes fs ≡ files_bytes (remove_file fs name) + text_bytes (file_text fs name)
bytes-remove_file [] name sorted = refl
bytes-remove_file (f ∷ fs) name sorted = by (bytes-remove_file fs name sorted.1) (same_bytes f.name name) refl
  where
    first : (gs : List File) → files_bytes (f ∷ gs) ≡ length f.content + files_bytes gs
    first gs = sum_by-cons (λ (file : File). length file.content) f gs

    by : files_bytes fs ≡ files_bytes (remove_file fs name) + text_bytes (file_text fs name)
        → (b : Bool) → same_bytes f.name name ≡ b → files_bytes (f ∷ fs) ≡ files_bytes (remove_file (f ∷ fs) name) + text_bytes (file_text (f ∷ fs) name)
    by rest true is =
        let none : text_bytes (file_text fs name) ≡ 0 = ap text_bytes (text-below name fs (subst (λ n. IsBelowAll n fs) (same_bytes-true f.name name is) sorted.0)) in
        rw is (omega (arith, first fs, rest, none))
    by rest false is = rw is (omega (arith, first fs, first (remove_file fs name), rest))

-- ---- a file is put: the others are those that are left without it

text-same : (b : Bool) (x y z : Option (List ℕ)) → (cond b x (cond b y z)) ≡ cond b x z
text-same true x y z = refl
text-same false x y z = refl

without-put : (fs : List File) (name text : List ℕ) → IsInOrder fs → remove_file (put_file fs name text) name ≡ remove_file fs name
without-put fs name text sorted =
    same_files (remove_file (put_file fs name text) name) (remove_file fs name)
    (in_order-remove_file (put_file fs name text) name (in_order-put_file fs name text sorted)) (in_order-remove_file fs name sorted)
    (λ q. file_text-remove_file (put_file fs name text) name q
    ∙ ap (λ (o : Option (List ℕ)). cond (same_bytes name q) None o) (file_text-put_file fs name text q)
    ∙ text-same (same_bytes name q) None (Some text) (file_text fs q)
    ∙ sym (file_text-remove_file fs name q))

text-put : (fs : List File) (name text : List ℕ) → file_text (put_file fs name text) name ≡ Some text
text-put fs name text = file_text-put_file fs name text name ∙ ap (λ (b : Bool). cond b (Some text) (file_text fs name)) (same_bytes-self name)

bytes-put_file : (fs : List File) (name text : List ℕ) → IsInOrder fs → files_bytes (put_file fs name text) ≡ files_bytes (remove_file fs name) + length text
bytes-put_file fs name text sorted =
    bytes-remove_file (put_file fs name text) name (in_order-put_file fs name text sorted)
    ∙ ap (λ (l : List File). files_bytes l + text_bytes (file_text (put_file fs name text) name)) (without-put fs name text sorted)
    ∙ ap (λ (o : Option (List ℕ)). files_bytes (remove_file fs name) + text_bytes o) (text-put fs name text)

-- ---- one change

put_counts : (fs : List File) (name text : List ℕ) → IsInOrder fs → files_bytes (put_file fs name text) + text_bytes (file_text fs name) ≡ files_bytes fs + length text
put_counts fs name text sorted = omega (arith, bytes-put_file fs name text sorted, bytes-remove_file fs name sorted)

at_name : (n name : List ℕ) (fs : List File) (text : List ℕ → List ℕ) → IsInOrder fs → n ≡ name
    → files_bytes (put_file fs n (text n)) + text_bytes (file_text fs name) ≡ files_bytes fs + length (text name)
at_name n name fs text sorted is =
    subst (λ m. files_bytes (put_file fs m (text m)) + text_bytes (file_text fs name) ≡ files_bytes fs + length (text name)) (sym is) (put_counts fs name (text name) sorted)

bytes-changed : (fs : List File) (op : Op) (name : List ℕ) → IsInOrder fs → changed_name op ≡ Some name
    → files_bytes (apply_change fs op) + text_bytes (file_text fs name) ≡ files_bytes fs + text_bytes (text_by (file_text fs name) op)
bytes-changed fs (Put n text) name sorted e = at_name n name fs (λ m. text) sorted (cc e)
bytes-changed fs (Append n text) name sorted e = at_name n name fs (λ m. text_or_empty fs m ++ text) sorted (cc e)
bytes-changed fs (Del n) name sorted e =
    let is : n ≡ name = cc e in
    subst (λ m. files_bytes (remove_file fs m) + text_bytes (file_text fs name) ≡ files_bytes fs + 0) (sym is) (omega (arith, bytes-remove_file fs name sorted))
bytes-changed fs (Bind n text) name sorted e = at_name n name fs (λ m. text) sorted (cc e)
bytes-changed fs (Window n text) name sorted e = at_name n name fs (λ m. text) sorted (cc e)
bytes-changed fs (Keep n text) name sorted e = at_name n name fs (λ m. text) sorted (cc e)
bytes-changed fs op name sorted e = absurd (cc)

unchanged : (fs : List File) (op : Op) → changed_name op ≡ None → apply_change fs op ≡ fs
unchanged fs (Put n text) e = absurd (cc)
unchanged fs (Append n text) e = absurd (cc)
unchanged fs (Del n) e = absurd (cc)
unchanged fs (Bind n text) e = absurd (cc)
unchanged fs (Window n text) e = absurd (cc)
unchanged fs (Keep n text) e = absurd (cc)
unchanged fs op e = refl

-- ---- changes that are gathered in order

-- the texts so far, one more change, and the texts after it
pub staged_more : (files : List File) (ops : List Op) (i : ℕ) (op : Op) (old new : Texts) → i < length ops → op ≡ get_or ops i op
    → AreStaged files (take i ops) old → IsStaged files op old new → AreStaged files (take (i + 1) ops) new
staged_more files ops i op old new lt is staged step name =
    step name
    ∙ ap (λ (o : Option (List ℕ)). changed_at name o op) (staged name)
    ∙ ap (changed_at name (fold (changed_at name) (file_text files name) (take i ops))) is
    ∙ sym (fold_more (changed_at name) (file_text files name) ops i op lt)

-- and the bytes of what they make of the files
pub counted_more : (files : List File) (ops : List Op) (i : ℕ) (op : Op) (texts : Texts) (before after : ℕ) → i < length ops → op ≡ get_or ops i op → IsInOrder files
    → AreStaged files (take i ops) texts → before ≡ files_bytes (fold apply_change files (take i ops))
    → CountsChange (text_staged texts files) op before after → after ≡ files_bytes (fold apply_change files (take (i + 1) ops))
counted_more files ops i op texts before after lt is order staged was counts = by (changed_name op) refl counts
  where
    view : List File
    view = fold apply_change files (take i ops)

    next : files_bytes (apply_change view op) ≡ files_bytes (fold apply_change files (take (i + 1) ops))
    next = ap (λ (o : Op). files_bytes (apply_change view o)) is ∙ ap files_bytes (sym (fold_more apply_change files ops i op lt))

    seen : (name : List ℕ) → text_staged texts files name ≡ file_text view name
    seen name = staged name ∙ sym (file_text-fold (take i ops) files name)

    by : (o : Option (List ℕ)) → changed_name op ≡ o → CountsText (text_staged texts files) op o before after → after ≡ files_bytes (fold apply_change files (take (i + 1) ops))
    by None e same = same ∙ was ∙ ap files_bytes (sym (unchanged view op e)) ∙ next
    by (Some name) e count =
        let there : after + text_bytes (file_text view name) ≡ before + text_bytes (text_by (file_text view name) op) =
        subst (λ (o : Option (List ℕ)). after + text_bytes o ≡ before + text_bytes (text_by o op)) (seen name) count in
        let changed : files_bytes (apply_change view op) + text_bytes (file_text view name) ≡ files_bytes view + text_bytes (text_by (file_text view name) op) =
        bytes-changed view op name (in_order-fold (take i ops) files order) e in
        let same : after ≡ files_bytes (apply_change view op) = omega (arith, there, changed, was) in
        same ∙ next
