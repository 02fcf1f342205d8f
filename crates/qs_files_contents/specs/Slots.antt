-- What stands under names.
use Rattle.std.specs.Prelude.{◌≡◌, Bool, true, false, not, ◌&&◌, ◌==◌, is_none, is_some, ℕ, ◌+◌, ◌++◌, List, [], ◌∷◌, length, take, Option, Some, None, unwrap_or, if◌then◌else◌}
use Rattle.std.specs.List.{fold}
use Rattle.std.specs.Map.{lookup, set_value, remove_entry}
use Rattle.std.specs.BTreeMap.{insert_entry, is_at}
use Rattle.qs_base.specs.Order.{bytes_cmp, tid_cmp, same_tid}
use Rattle.qs_base.specs.declared.identifiers.Tid.{Tid}
use Rattle.qs_ops.specs.declared.file.File.{File}
use Rattle.qs_ops.specs.declared.operation.Op.{Op}
use Rattle.qs_files_contents.specs.Edits.{no_edit, is_no_edit, edited, changed, changed_name}
use Rattle.qs_files_contents.specs.Texts.{Pieces, flat, joined, text_bytes}
use Rattle.qs_files_contents.specs.declared.edit.Edit.{Edit}
use Rattle.qs_files_contents.specs.declared.edit.Change.{Change}
use Rattle.qs_files_contents.specs.declared.prepared.Prepared.{Prepared}
use Rattle.qs_files_contents.specs.declared.slot.Look.{Look}
use Rattle.qs_files_contents.specs.declared.slot.Look.TheVariants as looks
use Rattle.qs_files_contents.specs.declared.slot.FileText.{FileText}

-- ---- under one name

abbrev pub new_slot : FileText
new_slot = record { text = None; edits = []; readers = [] }

abbrev pub is_empty_slot : FileText → Bool
is_empty_slot slot = is_none slot.text && ((length slot.edits == 0) && (length slot.readers == 0))

-- what a transaction is about to make of the text
abbrev pub edit_at : List (Tid × Edit) → Tid → Edit
edit_at edits tid = unwrap_or (lookup (is_at (tid_cmp tid)) edits) no_edit

-- it read the text
abbrev pub reader_at : List (Tid × Bool) → Tid → Bool
reader_at readers tid = unwrap_or (lookup (is_at (tid_cmp tid)) readers) false

-- the committed text, unless the transaction replaces it
abbrev pub kept_at : FileText → Tid → Option Pieces
kept_at slot tid = if (edit_at slot.edits tid).replaces then None else slot.text

-- the text that the transaction sees
abbrev pub seen_at : FileText → Tid → Option (List ℕ)
seen_at slot tid = joined (flat (kept_at slot tid)) (flat (edit_at slot.edits tid).text)

-- there is room for changes of the transaction
abbrev pub placed : Tid → FileText → FileText
placed tid slot = if is_some (lookup (is_at (tid_cmp tid)) slot.edits) then slot else record slot { edits = insert_entry tid_cmp slot.edits tid no_edit }

-- one change more, where there is room
abbrev pub slot_changed : Tid → Change → FileText → FileText
slot_changed tid change slot = elim (lookup (is_at (tid_cmp tid)) slot.edits) [
  | None ↦ slot
  | Some edit ↦ record slot { edits = set_value (is_at (tid_cmp tid)) slot.edits (changed edit change) }
]

-- the transaction changes nothing any more
abbrev pub finished : Tid → Bool → FileText → FileText
finished tid commits slot = elim (lookup (is_at (tid_cmp tid)) slot.edits) [
  | None ↦ slot
  | Some edit ↦ record slot { text = if commits then edited edit slot.text else slot.text; edits = set_value (is_at (tid_cmp tid)) slot.edits no_edit }
]

-- the room of a transaction that changes nothing is given back
abbrev pub tidied : Tid → FileText → FileText
tidied tid slot = if is_no_edit (edit_at slot.edits tid) then record slot { edits = remove_entry (is_at (tid_cmp tid)) slot.edits } else slot

-- the transaction is at its end: it changes nothing any more, and its room is given back
abbrev pub ended : Tid → Bool → FileText → FileText
ended tid commits slot = tidied tid (finished tid commits slot)

abbrev pub slot_read : Tid → FileText → FileText
slot_read tid slot = record slot { readers = insert_entry tid_cmp slot.readers tid true }

abbrev pub slot_unread : Tid → FileText → FileText
slot_unread tid slot = record slot { readers = remove_entry (is_at (tid_cmp tid)) slot.readers }

-- the least transaction but one whose value passes a test
abbrev pub first_other : {X : Type 0} → (X → Bool) → Tid → List (Tid × X) → Option Tid
first_other test me [] = None
first_other test me (e ∷ es) = if not (same_tid me e.0) && test e.1 then Some e.0 else first_other test me es

abbrev pub is_edit : Edit → Bool
is_edit edit = not (is_no_edit edit)

abbrev pub is_read : Bool → Bool
is_read read = read

-- what a transaction that looks at the text finds: the least other that is about to change it, else the text as it sees it
abbrev pub look_at : FileText → Tid → Look
look_at slot tid = elim (first_other is_edit tid slot.edits) [ Some other ↦ looks.Held other | None ↦ looks.Free (seen_at slot tid) ]

-- ---- under all names

-- names in byte order, and what stands under each
abbrev pub Entries : Type 0
Entries = List (List ℕ × FileText)

abbrev pub slot_in : Entries → List ℕ → Option FileText
slot_in slots name = lookup (is_at (bytes_cmp name)) slots

abbrev pub slot_or_new : Entries → List ℕ → FileText
slot_or_new slots name = unwrap_or (slot_in slots name) new_slot

-- the slot of a name is changed, where there is one
abbrev pub at_slot : (FileText → FileText) → List ℕ → Entries → Entries
at_slot f name slots = elim (slot_in slots name) [ None ↦ slots | Some slot ↦ set_value (is_at (bytes_cmp name)) slots (f slot) ]

-- it is changed, or made
abbrev pub put_slot : (FileText → FileText) → List ℕ → Entries → Entries
put_slot f name slots = elim (slot_in slots name) [ None ↦ insert_entry bytes_cmp slots name (f new_slot) | Some slot ↦ set_value (is_at (bytes_cmp name)) slots (f slot) ]

-- a slot under which nothing stands is taken out
abbrev pub swept : List ℕ → Entries → Entries
swept name slots = if is_empty_slot (slot_or_new slots name) then remove_entry (is_at (bytes_cmp name)) slots else slots

-- ---- for changes

abbrev pub place_for : Tid → Entries → Prepared → Entries
place_for tid slots p = put_slot (placed tid) p.name slots

abbrev pub change_by : Tid → Entries → Prepared → Entries
change_by tid slots p = at_slot (slot_changed tid p.change) p.name slots

abbrev pub at_change : (FileText → FileText) → Entries → Op → Entries
at_change f slots op = elim (changed_name op) [ None ↦ slots | Some name ↦ at_slot f name slots ]

abbrev pub tidy_change : Tid → Entries → Op → Entries
tidy_change tid slots op = elim (changed_name op) [ None ↦ slots | Some name ↦ swept name (at_slot (tidied tid) name slots) ]

abbrev pub end_change : Tid → Bool → Entries → Op → Entries
end_change tid commits slots op = elim (changed_name op) [ None ↦ slots | Some name ↦ swept name (at_slot (ended tid commits) name slots) ]

abbrev pub unread_name : Tid → Entries → List ℕ → Entries
unread_name tid slots name = swept name (at_slot (slot_unread tid) name slots)

-- ---- as files

-- the text that stands under an entry's name, as some see it
abbrev pub files_by : (FileText → Option (List ℕ)) → Entries → List File
files_by text [] = []
files_by text (e ∷ es) = elim (text e.1) [ None ↦ files_by text es | Some t ↦ record { name = e.0; content = t } ∷ files_by text es ]

abbrev pub text_at : FileText → Option (List ℕ)
text_at slot = flat slot.text

-- what is committed
abbrev pub files_in : Entries → List File
files_in slots = files_by text_at slots

-- what the transaction sees
abbrev pub files_seen : Entries → Tid → List File
files_seen slots tid = files_by (λ slot. seen_at slot tid) slots

abbrev pub add_name : Tid → List (List ℕ) → List ℕ × FileText → List (List ℕ)
add_name tid names e = if is_some (seen_at e.1 tid) then names ++ e.0 ∷ [] else names

abbrev pub add_bytes : Tid → ℕ → FileText → ℕ
add_bytes tid bytes slot = bytes + text_bytes (seen_at slot tid)

abbrev pub add_entry : Tid → ℕ → List ℕ × FileText → ℕ
add_entry tid bytes e = add_bytes tid bytes e.1

-- under each name stands what stood there, room for changes aside
pub record AreAlike (old new : Entries) : Type 0 where
  pub texts : (q : List ℕ) → (slot_or_new new q).text ≡ (slot_or_new old q).text
  pub edits : (q : List ℕ) (t : Tid) → edit_at (slot_or_new new q).edits t ≡ edit_at (slot_or_new old q).edits t
  pub readers : (q : List ℕ) (t : Tid) → reader_at (slot_or_new new q).readers t ≡ reader_at (slot_or_new old q).readers t

-- there is room for some of the changes
abbrev pub SomePlaced : Tid → Entries → Entries → List Prepared → Type 0
SomePlaced tid old new ps = (i : ℕ) × (new ≡ fold (place_for tid) old (take i ps))
