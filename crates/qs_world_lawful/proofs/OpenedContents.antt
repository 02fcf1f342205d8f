-- The contents of files and audit that a log leaves are those that the machine opens with.
use Rattle.qs_world_lawful.proofs.Words.{◌≡◌, ◌++◌, ℕ, true, List, [], ◌∷◌, map, fold, refl, sym, ap, ◌∙◌, Less, append-nil, ⊤, bytes_cmp, put_of, apply_change, apply_note, applied, no_table, File, Op, Put, Append, Del, Get, Listing, Note, Notes, Bind, Find, Timer, Left, Window, Title, Keep, Fetch, Extra, Lend, Every}
use Rattle.qs_ipc.specs.Queue.{is_for}
use Rattle.qs_book_machine.specs.Opening.{note_of}
use Rattle.qs_ops.specs.Files.{put_file}
use Rattle.qs_ops.specs.Places.{IsBelowAll, IsInOrder}
use Rattle.qs_ops.proofs.FileOrder.{greater_from_less, in_order-put_file, in_order-remove_file}

-- ---- files

change_in_order : (op : Op) (fs : List File) → IsInOrder fs → IsInOrder (apply_change fs op)
change_in_order (Put name text) fs h = in_order-put_file fs name text h
change_in_order (Append name text) fs h = in_order-put_file fs name _ h
change_in_order (Del name) fs h = in_order-remove_file fs name h
change_in_order (Get name) fs h = h
change_in_order Listing fs h = h
change_in_order (Note text) fs h = h
change_in_order Notes fs h = h
change_in_order (Bind name text) fs h = in_order-put_file fs name text h
change_in_order (Find name) fs h = h
change_in_order (Timer name ticks) fs h = h
change_in_order (Left name) fs h = h
change_in_order (Window name text) fs h = in_order-put_file fs name text h
change_in_order (Title name) fs h = h
change_in_order (Keep name text) fs h = in_order-put_file fs name text h
change_in_order (Fetch name) fs h = h
change_in_order (Extra code text) fs h = h
change_in_order (Lend client) fs h = h

pub applied_in_order : (ops : List Op) (fs : List File) → IsInOrder fs → IsInOrder (fold apply_change fs ops)
applied_in_order [] fs h = h
applied_in_order (op ∷ ops) fs h = applied_in_order ops (apply_change fs op) (change_in_order op fs h)

-- each of these has a name below that
abbrev AreBelow : List File → List ℕ → Type 0
AreBelow [] name = ⊤
AreBelow (f ∷ fs) name = (bytes_cmp f.name name ≡ Less) × AreBelow fs name

put_behind : (fs : List File) (name text : List ℕ) → AreBelow fs name → put_file fs name text ≡ fs ++ record { name = name; content = text } ∷ []
put_behind [] name text low = refl
put_behind (f ∷ fs) name text low = rw (greater_from_less f.name name low.0) (ap (λ l. f ∷ l) (put_behind fs name text low.1))

below_more : (fs : List File) (f : File) (name : List ℕ) → AreBelow fs name → bytes_cmp f.name name ≡ Less → AreBelow (fs ++ f ∷ []) name
below_more [] f name low less = (less, tt)
below_more (g ∷ fs) f name low less = (low.0, below_more fs f name low.1 less)

all_below : (fs : List File) (f : File) (gs : List File) → Every (λ (g : File). AreBelow fs g.name) gs → IsBelowAll f.name gs → Every (λ (g : File). AreBelow (fs ++ f ∷ []) g.name) gs
all_below fs f [] low above = tt
all_below fs f (g ∷ gs) low above = (below_more fs f g.name low.0 above.0, all_below fs f gs low.1 above.1)

append_more : {A : Type 0} (xs : List A) (y : A) (ys : List A) → (xs ++ y ∷ []) ++ ys ≡ xs ++ y ∷ ys
append_more [] y ys = refl
append_more (x ∷ xs) y ys = ap (λ l. x ∷ l) (append_more xs y ys)

puts_all : (gs fs : List File) → Every (λ (g : File). AreBelow fs g.name) gs → IsInOrder gs → fold apply_change fs (map put_of gs) ≡ fs ++ gs
puts_all [] fs low order = sym (append-nil fs)
puts_all (g ∷ gs) fs low order =
    ap (λ (l : List File). fold apply_change l (map put_of gs)) (put_behind fs g.name g.content low.0)
    ∙ (puts_all gs (fs ++ g ∷ []) (all_below fs g gs low.1 order.0) order.1 ∙ append_more fs g gs)

none_below : (gs : List File) → Every (λ (g : File). AreBelow [] g.name) gs
none_below [] = tt
none_below (g ∷ gs) = (tt, none_below gs)

pub contents_put : (ops : List Op) → fold apply_change [] (map put_of (fold apply_change [] ops)) ≡ fold apply_change [] ops
contents_put ops = puts_all (fold apply_change [] ops) [] (none_below (fold apply_change [] ops)) (applied_in_order ops [] tt)

puts_note : (gs : List File) (notes : List (List ℕ)) → fold apply_note notes (map put_of gs) ≡ notes
puts_note [] notes = refl
puts_note (g ∷ gs) notes = puts_note gs notes

-- ---- notes

notes_all : (texts notes : List (List ℕ)) → fold apply_note notes (map note_of texts) ≡ notes ++ texts
notes_all [] notes = sym (append-nil notes)
notes_all (t ∷ texts) notes = notes_all texts (notes ++ t ∷ []) ∙ append_more notes t texts

notes_put : (texts : List (List ℕ)) (fs : List File) → fold apply_change fs (map note_of texts) ≡ fs
notes_put [] fs = refl
notes_put (t ∷ texts) fs = notes_put texts fs

-- ---- operations of one server alone

no_note : (op : Op) (notes : List (List ℕ)) → is_for (record { 0 = 0 }) op ≡ true → apply_note notes op ≡ notes
no_note (Put name text) notes is = refl
no_note (Append name text) notes is = refl
no_note (Del name) notes is = refl
no_note (Get name) notes is = refl
no_note Listing notes is = refl
no_note (Note text) notes is = absurd (cc is)
no_note Notes notes is = refl
no_note (Bind name text) notes is = refl
no_note (Find name) notes is = refl
no_note (Timer name ticks) notes is = refl
no_note (Left name) notes is = refl
no_note (Window name text) notes is = refl
no_note (Title name) notes is = refl
no_note (Keep name text) notes is = refl
no_note (Fetch name) notes is = refl
no_note (Extra code text) notes is = refl
no_note (Lend client) notes is = refl

no_change : (op : Op) (fs : List File) → is_for (record { 0 = 1 }) op ≡ true → apply_change fs op ≡ fs
no_change (Put name text) fs is = absurd (cc is)
no_change (Append name text) fs is = absurd (cc is)
no_change (Del name) fs is = absurd (cc is)
no_change (Get name) fs is = refl
no_change Listing fs is = refl
no_change (Note text) fs is = refl
no_change Notes fs is = refl
no_change (Bind name text) fs is = absurd (cc is)
no_change (Find name) fs is = refl
no_change (Timer name ticks) fs is = refl
no_change (Left name) fs is = refl
no_change (Window name text) fs is = absurd (cc is)
no_change (Title name) fs is = refl
no_change (Keep name text) fs is = absurd (cc is)
no_change (Fetch name) fs is = refl
no_change (Extra code text) fs is = refl
no_change (Lend client) fs is = refl

abbrev pub AreFor : ℕ → List Op → Type 0
AreFor s ops = Every (λ (op : Op). is_for (record { 0 = s }) op ≡ true) ops

no_notes : (ops : List Op) (notes : List (List ℕ)) → AreFor 0 ops → fold apply_note notes ops ≡ notes
no_notes [] notes all = refl
no_notes (op ∷ ops) notes all = ap (λ (n : List (List ℕ)). fold apply_note n ops) (no_note op notes all.0) ∙ no_notes ops notes all.1

no_changes : (ops : List Op) (fs : List File) → AreFor 1 ops → fold apply_change fs ops ≡ fs
no_changes [] fs all = refl
no_changes (op ∷ ops) fs all = ap (λ (l : List File). fold apply_change l ops) (no_change op fs all.0) ∙ no_changes ops fs all.1

-- what a server opens with is what its changes in the log make
pub files_opened : (ops : List Op) → AreFor 0 ops → (fold apply_change [] (map put_of (applied no_table ops).contents) ≡ (applied no_table ops).contents) × (fold apply_note [] (map put_of (applied no_table ops).contents) ≡ (applied no_table ops).notes)
files_opened ops all = (contents_put ops, puts_note (applied no_table ops).contents [] ∙ sym (no_notes ops [] all))

pub audit_opened : (ops : List Op) → AreFor 1 ops → (fold apply_change [] (map note_of (applied no_table ops).notes) ≡ (applied no_table ops).contents) × (fold apply_note [] (map note_of (applied no_table ops).notes) ≡ (applied no_table ops).notes)
audit_opened ops all = (notes_put (applied no_table ops).notes [] ∙ sym (no_changes ops [] all), notes_all (applied no_table ops).notes [])
