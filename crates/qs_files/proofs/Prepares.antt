-- Prepared changes do to a text what the changes do.
use Rattle.std.proofs.Common.{◌≡◌, ℕ, ◌+◌, ◌<◌, ◌≤◌, ◌^◌, ◌++◌, List, [], ◌∷◌, length, Option, Some, None, refl, sym, ap, ◌∙◌, arith}
use Rattle.std.specs.Prelude.{Bool, true, false, unwrap_or, nat_lt, if◌then◌else◌}
use Rattle.std.specs.List.{fold, concat}
use Rattle.std.proofs.lemmas.List.{append-nil, length-append}
use Rattle.std.proofs.lemmas.List.Sums.{fold-append}
use Rattle.qs_base.specs.Order.{same_bytes}
use Rattle.qs_base.specs.declared.identifiers.Tid.{Tid}
use Rattle.qs_ops.specs.declared.operation.Op.{Op}
use Rattle.qs_ops.specs.declared.operation.Op.TheVariants.{Put, Append, Del, Bind, Window, Keep}
use Rattle.qs_ops_shelf.specs.Changed.{changed_at}
use Rattle.qs_files_contents.specs.Edits.{edited, seen_by, changed, changed_under, prepared_from, add_prepared}
use Rattle.qs_files_contents.specs.Slots.{edit_at, seen_at}
use Rattle.qs_files_contents.specs.Texts.{Pieces, flat, joined, linked, piece_count}
use Rattle.qs_files_contents.specs.declared.edit.Edit.{Edit}
use Rattle.qs_files_contents.specs.declared.edit.Change.TheVariants as changes
use Rattle.qs_files_contents.specs.declared.prepared.Prepared.{Prepared}
use Rattle.qs_files_contents.specs.declared.slot.FileText.{FileText}
use Rattle.qs_files_contents.proofs.Pieces.{flat-linked, joined-assoc}

-- ---- what becomes of a text

flat-unless : (b : Bool) (text : Option Pieces) → flat (if b then None else text) ≡ (if b then None else flat text)
flat-unless true text = refl
flat-unless false text = refl

count-unless : (b : Bool) (text : Option Pieces) (n : ℕ) → piece_count text + n < 2 ^ 63 → piece_count (if b then None else text) + n < 2 ^ 63
count-unless true text n lt = omega (arith, lt)
count-unless false text n lt = lt

pub flat-edited : (edit : Edit) (before : Option Pieces) → piece_count before + piece_count edit.text < 2 ^ 63 → flat (edited edit before) ≡ seen_by edit (flat before)
flat-edited edit before lt =
    flat-linked (if edit.replaces then None else before) edit.text (count-unless edit.replaces before (piece_count edit.text) lt)
    ∙ ap (λ (t : Option (List ℕ)). joined t (flat edit.text)) (flat-unless edit.replaces before)

pub seen-edited : (slot : FileText) (tid : Tid) → seen_at slot tid ≡ seen_by (edit_at slot.edits tid) (flat slot.text)
seen-edited slot tid = ap (λ (t : Option (List ℕ)). joined t (flat (edit_at slot.edits tid).text)) (flat-unless (edit_at slot.edits tid).replaces slot.text)

-- ---- one change

joined-text : (before : Option (List ℕ)) (text : List ℕ) → joined before (Some text) ≡ Some (unwrap_or before [] ++ text)
joined-text None text = refl
joined-text (Some x) text = refl

one_piece : (text : List ℕ) → concat (text ∷ []) ≡ text
one_piece text = append-nil text

put_seen : (text : List ℕ) (before : Option (List ℕ)) → seen_by (record { replaces = true; text = Some (text ∷ []) }) before ≡ Some text
put_seen text before = ap (λ (t : List ℕ). Some t) (one_piece text)

append_seen : (edit : Edit) (text : List ℕ) (before : Option (List ℕ)) → piece_count edit.text + 1 < 2 ^ 63 → seen_by (record edit { text = linked edit.text (Some (text ∷ [])) }) before ≡ Some (unwrap_or (seen_by edit before) [] ++ text)
append_seen edit text before lt =
    ap (λ (t : Option (List ℕ)). joined (if edit.replaces then None else before) t) (flat-linked edit.text (Some (text ∷ [])) lt ∙ ap (λ (t : List ℕ). joined (flat edit.text) (Some t)) (one_piece text))
    ∙ sym (joined-assoc (if edit.replaces then None else before) (flat edit.text) (Some text))
    ∙ joined-text (seen_by edit before) text

-- what a test chooses is seen
chosen : (b : Bool) (edit other : Edit) (before : Option (List ℕ)) (text : Option (List ℕ)) → seen_by other before ≡ text → seen_by (if b then other else edit) before ≡ (if b then text else seen_by edit before)
chosen true edit other before text is = is
chosen false edit other before text is = refl

-- what all prepared changes make of an edit
abbrev pub edit_by : List ℕ → Edit → List Prepared → Edit
edit_by q edit ps = fold (changed_under q) edit ps

pub seen-prepared : (q : List ℕ) (op : Op) (edit : Edit) (before : Option (List ℕ)) → piece_count edit.text + 1 < 2 ^ 63
    → seen_by (elim (prepared_from op) [ None ↦ edit | Some p ↦ changed_under q edit p ]) before ≡ changed_at q (seen_by edit before) op
seen-prepared q (Put name text) edit before lt = chosen (same_bytes name q) edit (changed edit (changes.Put (text ∷ []))) before (Some text) (put_seen text before)
seen-prepared q (Append name text) edit before lt = chosen (same_bytes name q) edit (changed edit (changes.Append (text ∷ []))) before (Some (unwrap_or (seen_by edit before) [] ++ text)) (append_seen edit text before lt)
seen-prepared q (Del name) edit before lt = chosen (same_bytes name q) edit (changed edit changes.Del) before None refl
seen-prepared q (Bind name text) edit before lt = chosen (same_bytes name q) edit (changed edit (changes.Put (text ∷ []))) before (Some text) (put_seen text before)
seen-prepared q (Window name text) edit before lt = chosen (same_bytes name q) edit (changed edit (changes.Put (text ∷ []))) before (Some text) (put_seen text before)
seen-prepared q (Keep name text) edit before lt = chosen (same_bytes name q) edit (changed edit (changes.Put (text ∷ []))) before (Some text) (put_seen text before)
seen-prepared q op edit before lt = refl

-- ---- how many pieces

count-linked : (a b : Option Pieces) → piece_count (linked a b) ≤ piece_count a + piece_count b
count-linked None b = omega (arith)
count-linked (Some x) None = omega (arith)
count-linked (Some x) (Some y) = by (nat_lt (length x + length y) (2 ^ 63))
  where
    by : (b : Bool) → length (if b then x ++ y else x) ≤ length x + length y
    by true = omega (arith, length-append x y)
    by false = omega (arith)

pub count-edited : (edit : Edit) (before : Option Pieces) → piece_count (edited edit before) ≤ piece_count before + piece_count edit.text
count-edited edit before =
    let all = count-linked (if edit.replaces then None else before) edit.text in
    by edit.replaces all
  where
    by : (b : Bool) → piece_count (linked (if b then None else before) edit.text) ≤ piece_count (if b then None else before) + piece_count edit.text → piece_count (linked (if b then None else before) edit.text) ≤ piece_count before + piece_count edit.text
    by true all = omega (arith, all)
    by false all = all

count_chosen : (b : Bool) (edit other : Edit) (n : ℕ) → piece_count other.text ≤ piece_count edit.text + 1 → piece_count (if b then other else edit).text ≤ piece_count edit.text + 1
count_chosen true edit other n le = le
count_chosen false edit other n le = omega (arith)

pub count-prepared : (q : List ℕ) (op : Op) (edit : Edit) → piece_count (elim (prepared_from op) as (λ _. Edit) [ None ↦ edit | Some p ↦ changed_under q edit p ]).text ≤ piece_count edit.text + 1
count-prepared q (Put name text) edit = count_chosen (same_bytes name q) edit (changed edit (changes.Put (text ∷ []))) 0 (omega (arith))
count-prepared q (Append name text) edit = count_chosen (same_bytes name q) edit (changed edit (changes.Append (text ∷ []))) 0 (count-linked edit.text (Some (text ∷ [])))
count-prepared q (Del name) edit = count_chosen (same_bytes name q) edit (changed edit changes.Del) 0 (omega (arith))
count-prepared q (Bind name text) edit = count_chosen (same_bytes name q) edit (changed edit (changes.Put (text ∷ []))) 0 (omega (arith))
count-prepared q (Window name text) edit = count_chosen (same_bytes name q) edit (changed edit (changes.Put (text ∷ []))) 0 (omega (arith))
count-prepared q (Keep name text) edit = count_chosen (same_bytes name q) edit (changed edit (changes.Put (text ∷ []))) 0 (omega (arith))
count-prepared q op edit = omega (arith)

-- ---- a list of changes

-- one more change is prepared
abbrev prepared_edit : List ℕ → Op → Edit → Edit
prepared_edit q op edit = elim (prepared_from op) as (λ _. Edit) [ None ↦ edit | Some p ↦ changed_under q edit p ]

edit-added : (q : List ℕ) (edit : Edit) (ps : List Prepared) (op : Op) → edit_by q edit (add_prepared ps op) ≡ prepared_edit q op (edit_by q edit ps)
edit-added q edit ps op =
    elim (prepared_from op) as (λ o. edit_by q edit (elim o [ None ↦ ps | Some p ↦ ps ++ p ∷ [] ]) ≡ (elim o as (λ _. Edit) [ None ↦ edit_by q edit ps | Some p ↦ changed_under q (edit_by q edit ps) p ])) [
      | None ↦ refl
      | Some p ↦ fold-append (changed_under q) edit ps (p ∷ [])
    ]

pub count-all : (q : List ℕ) (ops : List Op) (ps : List Prepared) (edit : Edit) → piece_count (edit_by q edit (fold add_prepared ps ops)).text ≤ piece_count (edit_by q edit ps).text + length ops
count-all q [] ps edit = omega (arith)
count-all q (op ∷ ops) ps edit =
    let rest = count-all q ops (add_prepared ps op) edit in
    let one = count-prepared q op (edit_by q edit ps) in
    let same = ap (λ (e : Edit). piece_count e.text) (edit-added q edit ps op) in
    omega (arith, rest, one, same)

pub seen-all : (q : List ℕ) (ops : List Op) (ps : List Prepared) (edit : Edit) (before : Option (List ℕ)) → piece_count (edit_by q edit ps).text + length ops < 2 ^ 63
    → seen_by (edit_by q edit (fold add_prepared ps ops)) before ≡ fold (changed_at q) (seen_by (edit_by q edit ps) before) ops
seen-all q [] ps edit before lt = refl
seen-all q (op ∷ ops) ps edit before lt =
    let one = count-prepared q op (edit_by q edit ps) in
    let same = ap (λ (e : Edit). piece_count e.text) (edit-added q edit ps op) in
    seen-all q ops (add_prepared ps op) edit before (omega (arith, lt, one, same))
    ∙ ap (λ (t : Option (List ℕ)). fold (changed_at q) t ops) (ap (λ (e : Edit). seen_by e before) (edit-added q edit ps op) ∙ seen-prepared q op (edit_by q edit ps) before (omega (arith, lt)))
