-- The changes that write contents, applied in order to empty contents, give them again.
use Rattle.std.proofs.Common.{◌≡◌, ℕ, ◌++◌, List, [], ◌∷◌, take, drop, Some, refl, sym, ap, ◌∙◌}
use Rattle.std.specs.Prelude.{map, ⊤}
use Rattle.std.specs.List.{fold}
use Rattle.std.specs.declared.cmp.Ordering.{Ordering}
use Rattle.std.specs.declared.cmp.Ordering.TheVariants.{Less, Equal, Greater}
use Rattle.std.specs.Ordering.{ordering_reverse}
use Rattle.std.proofs.lemmas.List.{append-nil, append_assoc, take-append-drop}
use Rattle.std.proofs.lemmas.List.Sums.{fold-append}
use Rattle.qs_base.specs.Order.{bytes_cmp}
use Rattle.qs_base.proofs.Same.{same_bytes-self}
use Rattle.qs_ops.specs.declared.file.File.{File}
use Rattle.qs_ops.specs.declared.operation.Op.{Op}
use Rattle.qs_ops.specs.declared.operation.Op.TheVariants.{Append}
use Rattle.qs_ops.specs.Files.{file_text, put_file}
use Rattle.qs_ops.specs.Places.{IsBelowAll, IsInOrder}
use Rattle.qs_ops.specs.Server.{AreAppends, IsFileWritten, AreFilesWritten, none, next, note_of}
use Rattle.qs_ops.specs.Table.{apply_change, apply_note}
use Rattle.qs_ops.proofs.FileOrder.{new_file, bytes_total, greater_from_less, same_bytes-less}

-- each file has a name below this one
abbrev AreBelow : List File → List ℕ → Type 0
AreBelow [] name = ⊤
AreBelow (f ∷ fs) name = (bytes_cmp f.name name ≡ Less) × AreBelow fs name

-- a name compares equal to itself
same_name : (x : List ℕ) → bytes_cmp x x ≡ Equal
same_name x = by (bytes_cmp x x) refl
  where
    by : (o : Ordering) → bytes_cmp x x ≡ o → bytes_cmp x x ≡ Equal
    by Less is = absurd (cc (sym is ∙ bytes_total.antisymm x x ∙ ap ordering_reverse is))
    by Equal is = is
    by Greater is = absurd (cc (sym is ∙ bytes_total.antisymm x x ∙ ap ordering_reverse is))

-- ---- a file behind all others

put_behind : (fs : List File) (name text : List ℕ) → AreBelow fs name → put_file fs name text ≡ fs ++ new_file name text ∷ []
put_behind [] name text low = refl
put_behind (f ∷ fs) name text low = rw (greater_from_less f.name name low.0) (ap (λ l. f ∷ l) (put_behind fs name text low.1))

put_again : (fs : List File) (name old new : List ℕ) → AreBelow fs name → put_file (fs ++ new_file name old ∷ []) name new ≡ fs ++ new_file name new ∷ []
put_again [] name old new low = rw (same_name name) refl
put_again (f ∷ fs) name old new low = rw (greater_from_less f.name name low.0) (ap (λ l. f ∷ l) (put_again fs name old new low.1))

text_behind : (fs : List File) (name text : List ℕ) → AreBelow fs name → file_text (fs ++ new_file name text ∷ []) name ≡ Some text
text_behind [] name text low = rw (same_bytes-self name) refl
text_behind (f ∷ fs) name text low = rw (same_bytes-less f.name name low.0) (text_behind fs name text low.1)

-- ---- a file in pieces

append_behind : (fs : List File) (name text more : List ℕ) → AreBelow fs name → apply_change (fs ++ new_file name text ∷ []) (Append name more) ≡ fs ++ new_file name (text ++ more) ∷ []
append_behind fs name text more low = rw (text_behind fs name text low) (put_again fs name text (text ++ more) low)

pieces : (ops : List Op) (fs : List File) (name text more : List ℕ) → AreBelow fs name → AreAppends name more ops → fold apply_change (fs ++ new_file name text ∷ []) ops ≡ fs ++ new_file name (text ++ more) ∷ []
pieces [] fs name text more low is = ap (λ (t : List ℕ). fs ++ new_file name t ∷ []) (sym (append-nil text) ∙ ap (λ (t : List ℕ). text ++ t) (sym is))
pieces (op ∷ ops) fs name text more low is =
    ap (λ (l : List File). fold apply_change l ops) (ap (apply_change (fs ++ new_file name text ∷ [])) is.0 ∙ append_behind fs name text (take 4096 more) low)
    ∙ pieces ops fs name (text ++ take 4096 more) (drop 4096 more) low is.1.1
    ∙ ap (λ (t : List ℕ). fs ++ new_file name t ∷ []) (append_assoc text (take 4096 more) (drop 4096 more) ∙ ap (λ (t : List ℕ). text ++ t) (take-append-drop 4096 more))

one_file : (ops : List Op) (fs : List File) (file : File) → AreBelow fs file.name → IsFileWritten file ops → fold apply_change fs ops ≡ fs ++ file ∷ []
one_file [] fs file low is = absurd is
one_file (op ∷ ops) fs file low is =
    ap (λ (l : List File). fold apply_change l ops) (ap (apply_change fs) is.0 ∙ put_behind fs file.name (take 4096 file.content) low)
    ∙ pieces ops fs file.name (take 4096 file.content) (drop 4096 file.content) low is.1
    ∙ ap (λ (t : List ℕ). fs ++ new_file file.name t ∷ []) (take-append-drop 4096 file.content)

-- ---- all files

-- each file of the first is below each of the second
abbrev Precede : List File → List File → Type 0
Precede fs [] = ⊤
Precede fs (g ∷ gs) = AreBelow fs g.name × Precede fs gs

one_more : (fs : List File) (file : File) (name : List ℕ) → AreBelow fs name → bytes_cmp file.name name ≡ Less → AreBelow (fs ++ file ∷ []) name
one_more [] file name low lt = (lt, tt)
one_more (f ∷ fs) file name low lt = (low.0, one_more fs file name low.1 lt)

precede_more : (fs : List File) (file : File) (gs : List File) → Precede fs gs → IsBelowAll file.name gs → Precede (fs ++ file ∷ []) gs
precede_more fs file [] low below = tt
precede_more fs file (g ∷ gs) low below = (one_more fs file g.name low.0 below.0, precede_more fs file gs low.1 below.1)

all_files : (gs : List File) (ops : List Op) (fs : List File) → Precede fs gs → IsInOrder gs → AreFilesWritten gs ops → fold apply_change fs ops ≡ fs ++ gs
all_files gs ops fs low sorted none = sym (append-nil fs)
all_files gs ops fs low sorted (next file files first rest is more) =
    fold-append apply_change fs first rest
    ∙ ap (λ (l : List File). fold apply_change l rest) (one_file first fs file low.0 is)
    ∙ all_files files rest (fs ++ file ∷ []) (precede_more fs file files low.1 sorted.0) sorted.1 more
    ∙ append_assoc fs (file ∷ []) files

nothing_precedes : (gs : List File) → Precede [] gs
nothing_precedes [] = tt
nothing_precedes (g ∷ gs) = (tt, nothing_precedes gs)

pub files_again : (files : List File) (changes : List Op) → IsInOrder files → AreFilesWritten files changes → fold apply_change [] changes ≡ files
files_again files changes sorted is = all_files files changes [] (nothing_precedes files) sorted is

-- ---- notes

all_notes : (notes before : List (List ℕ)) → fold apply_note before (map note_of notes) ≡ before ++ notes
all_notes [] before = sym (append-nil before)
all_notes (note ∷ notes) before = all_notes notes (before ++ note ∷ []) ∙ append_assoc before (note ∷ []) notes

pub notes_again : (notes : List (List ℕ)) (changes : List Op) → changes ≡ map note_of notes → fold apply_note [] changes ≡ notes
notes_again notes changes is = ap (fold apply_note []) is ∙ all_notes notes []
