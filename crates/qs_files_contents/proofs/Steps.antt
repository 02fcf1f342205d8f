-- What one step makes of a slot: of its text, of each transaction's edit, and of who read it.
use Rattle.std.proofs.Common.{◌≡◌, List, Option, Some, None, refl, sym, ap, ◌∙◌}
use Rattle.std.specs.Prelude.{Bool, true, false, not, cond, unwrap_or, is_some, is_none, ◌&&◌, if◌then◌else◌}
use Rattle.std.specs.List.Sorted.{IsStrictlySortedBy}
use Rattle.std.specs.Ordering.{is_eq}
use Rattle.std.specs.Map.{lookup, set_value, remove_entry, keys_of}
use Rattle.std.specs.BTreeMap.{insert_entry, is_at}
use Rattle.qs_base.specs.Order.{tid_cmp, same_tid}
use Rattle.qs_base.specs.declared.identifiers.Tid.{Tid}
use Rattle.qs_base.proofs.Same.{same_tid-true, same_tid-self}
use Rattle.qs_base.proofs.TidOrder.{tid_total, tid_exact, same_tid-cmp}
use Rattle.qs_ops_shares.proofs.Held.{same_tid-sym}
use Rattle.qs_files_contents.specs.Edits.{no_edit, is_no_edit, edited, changed}
use Rattle.qs_files_contents.specs.Slots.{edit_at, reader_at, placed, slot_changed, finished, tidied, slot_read, slot_unread}
use Rattle.qs_files_contents.specs.Texts.{Pieces}
use Rattle.qs_files_contents.specs.declared.edit.Edit.{Edit}
use Rattle.qs_files_contents.specs.declared.edit.Change.{Change}
use Rattle.qs_files_contents.specs.declared.slot.FileText.{FileText}
use Rattle.qs_files_contents.proofs.Maps.{lookup-put, lookup-set, lookup-out, sorted-put, sorted-set, sorted-out}
use Rattle.qs_files_contents.proofs.Pieces.{linked-none}

tid_eq : (tid t : Tid) → is_eq (tid_cmp t tid) ≡ same_tid tid t
tid_eq tid t = sym (same_tid-cmp t tid) ∙ same_tid-sym t tid

or_default : {X : Type 0} (b : Bool) (w : X) (o : Option X) (d : X) → unwrap_or (cond b (Some w) o) d ≡ (if b then w else unwrap_or o d)
or_default true w o d = refl
or_default false w o d = refl

none_default : {X : Type 0} (b : Bool) (o : Option X) (d : X) → unwrap_or (cond b None o) d ≡ (if b then d else unwrap_or o d)
none_default true o d = refl
none_default false o d = refl

-- ---- the value of a transaction in a map

module _ {X : Type 0} (es : List (Tid × X)) (tid : Tid) (w d : X) (t : Tid) where
  value-put : unwrap_or (lookup (is_at (tid_cmp t)) (insert_entry tid_cmp es tid w)) d ≡ (if same_tid tid t then w else unwrap_or (lookup (is_at (tid_cmp t)) es) d)
  value-put =
      ap (λ (o : Option X). unwrap_or o d) (lookup-put tid_total tid_exact es tid w t)
      ∙ or_default (is_eq (tid_cmp t tid)) w (lookup (is_at (tid_cmp t)) es) d
      ∙ ap (λ (b : Bool). if b then w else unwrap_or (lookup (is_at (tid_cmp t)) es) d) (tid_eq tid t)

  value-set : (v : X) → lookup (is_at (tid_cmp tid)) es ≡ Some v → unwrap_or (lookup (is_at (tid_cmp t)) (set_value (is_at (tid_cmp tid)) es w)) d ≡ (if same_tid tid t then w else unwrap_or (lookup (is_at (tid_cmp t)) es) d)
  value-set v there =
      ap (λ (o : Option X). unwrap_or o d) (lookup-set tid_total tid_exact es tid v w t there)
      ∙ or_default (is_eq (tid_cmp t tid)) w (lookup (is_at (tid_cmp t)) es) d
      ∙ ap (λ (b : Bool). if b then w else unwrap_or (lookup (is_at (tid_cmp t)) es) d) (tid_eq tid t)

  value-out : IsStrictlySortedBy tid_cmp (keys_of es) → unwrap_or (lookup (is_at (tid_cmp t)) (remove_entry (is_at (tid_cmp tid)) es)) d ≡ (if same_tid tid t then d else unwrap_or (lookup (is_at (tid_cmp t)) es) d)
  value-out sorted =
      ap (λ (o : Option X). unwrap_or o d) (lookup-out tid_total tid_exact es tid t sorted)
      ∙ none_default (is_eq (tid_cmp t tid)) (lookup (is_at (tid_cmp t)) es) d
      ∙ ap (λ (b : Bool). if b then d else unwrap_or (lookup (is_at (tid_cmp t)) es) d) (tid_eq tid t)

-- what is written at a transaction is what stood there
same_there : {X : Type 0} (b : Bool) (f : Tid → X) (tid t : Tid) (x : X) → same_tid tid t ≡ b → x ≡ f tid → (if b then x else f t) ≡ f t
same_there true f tid t x at is = is ∙ ap f (same_tid-true tid t at)
same_there false f tid t x at is = refl

-- where it is the transaction, its value
at_tid : {X : Type 0} (b : Bool) (f : Tid → X) (g : X → X) (tid t : Tid) → same_tid tid t ≡ b → (if b then g (f tid) else f t) ≡ (if b then g (f t) else f t)
at_tid true f g tid t at = ap (λ (s : Tid). g (f s)) (same_tid-true tid t at)
at_tid false f g tid t at = refl

-- ---- room

pub edit-placed : (tid t : Tid) (slot : FileText) → edit_at (placed tid slot).edits t ≡ edit_at slot.edits t
edit-placed tid t slot =
    (elim (lookup (is_at (tid_cmp tid)) slot.edits) as (λ o. lookup (is_at (tid_cmp tid)) slot.edits ≡ o → edit_at (if is_some o then slot else record slot { edits = insert_entry tid_cmp slot.edits tid no_edit }).edits t ≡ edit_at slot.edits t) [
      | None ↦ λ is. value-put slot.edits tid no_edit no_edit t ∙ same_there (same_tid tid t) (λ (s : Tid). edit_at slot.edits s) tid t no_edit refl (sym (ap (λ (o : Option Edit). unwrap_or o no_edit) is))
      | Some edit ↦ λ is. refl
    ]) refl

pub text-placed : (tid : Tid) (slot : FileText) → (placed tid slot).text ≡ slot.text
text-placed tid slot = elim (is_some (lookup (is_at (tid_cmp tid)) slot.edits)) as (λ b. (if b then slot else record slot { edits = insert_entry tid_cmp slot.edits tid no_edit }).text ≡ slot.text) [ true ↦ refl | false ↦ refl ]

pub readers-placed : (tid : Tid) (slot : FileText) → (placed tid slot).readers ≡ slot.readers
readers-placed tid slot = elim (is_some (lookup (is_at (tid_cmp tid)) slot.edits)) as (λ b. (if b then slot else record slot { edits = insert_entry tid_cmp slot.edits tid no_edit }).readers ≡ slot.readers) [ true ↦ refl | false ↦ refl ]

pub sorted-placed : (tid : Tid) (slot : FileText) → IsStrictlySortedBy tid_cmp (keys_of slot.edits) → IsStrictlySortedBy tid_cmp (keys_of (placed tid slot).edits)
sorted-placed tid slot sorted = elim (is_some (lookup (is_at (tid_cmp tid)) slot.edits)) as (λ b. IsStrictlySortedBy tid_cmp (keys_of (if b then slot else record slot { edits = insert_entry tid_cmp slot.edits tid no_edit }).edits)) [
  | true ↦ sorted
  | false ↦ sorted-put tid_total tid_exact slot.edits tid no_edit sorted
]

-- there is room for the transaction
abbrev pub has_room : Tid → FileText → Bool
has_room tid slot = is_some (lookup (is_at (tid_cmp tid)) slot.edits)

self_eq : (tid : Tid) → is_eq (tid_cmp tid tid) ≡ true
self_eq tid = sym (same_tid-cmp tid tid) ∙ same_tid-self tid

pub room-placed : (tid : Tid) (slot : FileText) → has_room tid (placed tid slot) ≡ true
room-placed tid slot =
    (elim (is_some (lookup (is_at (tid_cmp tid)) slot.edits)) as (λ b. is_some (lookup (is_at (tid_cmp tid)) slot.edits) ≡ b → has_room tid (if b then slot else record slot { edits = insert_entry tid_cmp slot.edits tid no_edit }) ≡ true) [
      | true ↦ λ is. is
      | false ↦ λ is. ap (λ (o : Option Edit). is_some o) (lookup-put tid_total tid_exact slot.edits tid no_edit tid ∙ ap (λ (b : Bool). cond b (Some no_edit) (lookup (is_at (tid_cmp tid)) slot.edits)) (self_eq tid))
    ]) refl

-- ---- a change

edit-there : (tid : Tid) (slot : FileText) (edit : Edit) → lookup (is_at (tid_cmp tid)) slot.edits ≡ Some edit → edit ≡ edit_at slot.edits tid
edit-there tid slot edit is = sym (ap (λ (o : Option Edit). unwrap_or o no_edit) is)

no_room : (o : Option Edit) → o ≡ None → is_some o ≡ true → ⊥
no_room None is room = absurd (cc)
no_room (Some e) is room = absurd (cc)

-- whatever a step makes of the edits, where there is one
at_edit : (P : FileText → Type 0) (tid : Tid) (change : Change) (slot : FileText) → (lookup (is_at (tid_cmp tid)) slot.edits ≡ None → P slot) → ((edit : Edit) → lookup (is_at (tid_cmp tid)) slot.edits ≡ Some edit → P (record slot { edits = set_value (is_at (tid_cmp tid)) slot.edits (changed edit change) }))
    → P (slot_changed tid change slot)
at_edit P tid change slot none some =
    (elim (lookup (is_at (tid_cmp tid)) slot.edits) as (λ o. lookup (is_at (tid_cmp tid)) slot.edits ≡ o → P (elim o [ None ↦ slot | Some edit ↦ record slot { edits = set_value (is_at (tid_cmp tid)) slot.edits (changed edit change) } ])) [
      | None ↦ λ is. none is
      | Some edit ↦ λ is. some edit is
    ]) refl

pub edit-changed : (tid t : Tid) (change : Change) (slot : FileText) → has_room tid slot ≡ true → edit_at (slot_changed tid change slot).edits t ≡ (if same_tid tid t then changed (edit_at slot.edits t) change else edit_at slot.edits t)
edit-changed tid t change slot room =
    at_edit (λ s. edit_at s.edits t ≡ (if same_tid tid t then changed (edit_at slot.edits t) change else edit_at slot.edits t)) tid change slot
    (λ is. absurd (no_room (lookup (is_at (tid_cmp tid)) slot.edits) is room))
    (λ edit is. value-set slot.edits tid (changed edit change) no_edit t edit is
    ∙ ap (λ (e : Edit). if same_tid tid t then changed e change else edit_at slot.edits t) (edit-there tid slot edit is)
    ∙ at_tid (same_tid tid t) (λ (s : Tid). edit_at slot.edits s) (λ (e : Edit). changed e change) tid t refl)

pub text-changed : (tid : Tid) (change : Change) (slot : FileText) → (slot_changed tid change slot).text ≡ slot.text
text-changed tid change slot = at_edit (λ s. s.text ≡ slot.text) tid change slot (λ is. refl) (λ edit is. refl)

pub readers-changed : (tid : Tid) (change : Change) (slot : FileText) → (slot_changed tid change slot).readers ≡ slot.readers
readers-changed tid change slot = at_edit (λ s. s.readers ≡ slot.readers) tid change slot (λ is. refl) (λ edit is. refl)

pub sorted-changed : (tid : Tid) (change : Change) (slot : FileText) → IsStrictlySortedBy tid_cmp (keys_of slot.edits) → IsStrictlySortedBy tid_cmp (keys_of (slot_changed tid change slot).edits)
sorted-changed tid change slot sorted =
    at_edit (λ s. IsStrictlySortedBy tid_cmp (keys_of s.edits)) tid change slot (λ is. sorted) (λ edit is. sorted-set tid_total tid_exact slot.edits (is_at (tid_cmp tid)) (changed edit change) sorted)

room-set : (tid : Tid) (slot : FileText) (v w : Edit) → lookup (is_at (tid_cmp tid)) slot.edits ≡ Some v → is_some (lookup (is_at (tid_cmp tid)) (set_value (is_at (tid_cmp tid)) slot.edits w)) ≡ true
room-set tid slot v w is =
    ap (λ (o : Option Edit). is_some o) (lookup-set tid_total tid_exact slot.edits tid v w tid is ∙ ap (λ (b : Bool). cond b (Some w) (lookup (is_at (tid_cmp tid)) slot.edits)) (self_eq tid))

pub room-changed : (tid : Tid) (change : Change) (slot : FileText) → has_room tid slot ≡ true → has_room tid (slot_changed tid change slot) ≡ true
room-changed tid change slot room = at_edit (λ s. has_room tid s ≡ true) tid change slot (λ is. room) (λ edit is. room-set tid slot edit (changed edit change) is)

-- ---- the end of the changes

at_finish : (P : FileText → Type 0) (tid : Tid) (commits : Bool) (slot : FileText) → (lookup (is_at (tid_cmp tid)) slot.edits ≡ None → P slot)
    → ((edit : Edit) → lookup (is_at (tid_cmp tid)) slot.edits ≡ Some edit → P (record slot { text = if commits then edited edit slot.text else slot.text; edits = set_value (is_at (tid_cmp tid)) slot.edits no_edit }))
    → P (finished tid commits slot)
at_finish P tid commits slot none some =
    (elim (lookup (is_at (tid_cmp tid)) slot.edits) as (λ o. lookup (is_at (tid_cmp tid)) slot.edits ≡ o → P (elim o [ None ↦ slot | Some edit ↦ record slot { text = if commits then edited edit slot.text else slot.text; edits = set_value (is_at (tid_cmp tid)) slot.edits no_edit } ])) [
      | None ↦ λ is. none is
      | Some edit ↦ λ is. some edit is
    ]) refl

either : {X : Type 0} (b : Bool) (x : X) → x ≡ (if b then x else x)
either true x = refl
either false x = refl

pub text-finished : (tid : Tid) (commits : Bool) (slot : FileText) → (finished tid commits slot).text ≡ (if commits then edited (edit_at slot.edits tid) slot.text else slot.text)
text-finished tid commits slot =
    at_finish (λ s. s.text ≡ (if commits then edited (edit_at slot.edits tid) slot.text else slot.text)) tid commits slot
    (λ is. either commits slot.text
    ∙ ap (λ (t : Option Pieces). if commits then t else slot.text) (sym (linked-none slot.text))
    ∙ ap (λ (o : Option Edit). if commits then edited (unwrap_or o no_edit) slot.text else slot.text) (sym is))
    (λ edit is. ap (λ (e : Edit). if commits then edited e slot.text else slot.text) (edit-there tid slot edit is))

pub edit-finished : (tid t : Tid) (commits : Bool) (slot : FileText) → edit_at (finished tid commits slot).edits t ≡ (if same_tid tid t then no_edit else edit_at slot.edits t)
edit-finished tid t commits slot =
    at_finish (λ s. edit_at s.edits t ≡ (if same_tid tid t then no_edit else edit_at slot.edits t)) tid commits slot
    (λ is. sym (same_there (same_tid tid t) (λ (s : Tid). edit_at slot.edits s) tid t no_edit refl (sym (ap (λ (o : Option Edit). unwrap_or o no_edit) is))))
    (λ edit is. value-set slot.edits tid no_edit no_edit t edit is)

pub readers-finished : (tid : Tid) (commits : Bool) (slot : FileText) → (finished tid commits slot).readers ≡ slot.readers
readers-finished tid commits slot = at_finish (λ s. s.readers ≡ slot.readers) tid commits slot (λ is. refl) (λ edit is. refl)

pub sorted-finished : (tid : Tid) (commits : Bool) (slot : FileText) → IsStrictlySortedBy tid_cmp (keys_of slot.edits) → IsStrictlySortedBy tid_cmp (keys_of (finished tid commits slot).edits)
sorted-finished tid commits slot sorted =
    at_finish (λ s. IsStrictlySortedBy tid_cmp (keys_of s.edits)) tid commits slot (λ is. sorted) (λ edit is. sorted-set tid_total tid_exact slot.edits (is_at (tid_cmp tid)) no_edit sorted)

pub room-finished : (tid : Tid) (commits : Bool) (slot : FileText) → has_room tid slot ≡ true → has_room tid (finished tid commits slot) ≡ true
room-finished tid commits slot room = at_finish (λ s. has_room tid s ≡ true) tid commits slot (λ is. room) (λ edit is. room-set tid slot edit no_edit is)

-- ---- room that is given back

the_edit : (r : Bool) (t : Option Pieces) → (not r && is_none t) ≡ true → (record { replaces = r; text = t }) ≡ no_edit
the_edit false None is = refl
the_edit false (Some t) is = absurd (cc)
the_edit true t is = absurd (cc)

pub is_none-exact : (edit : Edit) → is_no_edit edit ≡ true → edit ≡ no_edit
is_none-exact edit is = the_edit edit.replaces edit.text is

pub edit-tidied : (tid t : Tid) (slot : FileText) → IsStrictlySortedBy tid_cmp (keys_of slot.edits) → edit_at (tidied tid slot).edits t ≡ edit_at slot.edits t
edit-tidied tid t slot sorted =
    (elim (is_no_edit (edit_at slot.edits tid)) as (λ b. is_no_edit (edit_at slot.edits tid) ≡ b → edit_at (if b then record slot { edits = remove_entry (is_at (tid_cmp tid)) slot.edits } else slot).edits t ≡ edit_at slot.edits t) [
      | true ↦ λ is. value-out slot.edits tid no_edit no_edit t sorted ∙ same_there (same_tid tid t) (λ (s : Tid). edit_at slot.edits s) tid t no_edit refl (sym (is_none-exact (edit_at slot.edits tid) is))
      | false ↦ λ is. refl
    ]) refl

at_tidy : (P : FileText → Type 0) (tid : Tid) (slot : FileText) → P slot → P (record slot { edits = remove_entry (is_at (tid_cmp tid)) slot.edits }) → P (tidied tid slot)
at_tidy P tid slot stays out = elim (is_no_edit (edit_at slot.edits tid)) as (λ b. P (if b then record slot { edits = remove_entry (is_at (tid_cmp tid)) slot.edits } else slot)) [ true ↦ out | false ↦ stays ]

pub text-tidied : (tid : Tid) (slot : FileText) → (tidied tid slot).text ≡ slot.text
text-tidied tid slot = at_tidy (λ s. s.text ≡ slot.text) tid slot refl refl

pub readers-tidied : (tid : Tid) (slot : FileText) → (tidied tid slot).readers ≡ slot.readers
readers-tidied tid slot = at_tidy (λ s. s.readers ≡ slot.readers) tid slot refl refl

pub sorted-tidied : (tid : Tid) (slot : FileText) → IsStrictlySortedBy tid_cmp (keys_of slot.edits) → IsStrictlySortedBy tid_cmp (keys_of (tidied tid slot).edits)
sorted-tidied tid slot sorted = at_tidy (λ s. IsStrictlySortedBy tid_cmp (keys_of s.edits)) tid slot sorted (sorted-out tid_total tid_exact slot.edits (is_at (tid_cmp tid)) sorted)

-- ---- reads

pub reader-read : (tid t : Tid) (slot : FileText) → reader_at (slot_read tid slot).readers t ≡ (if same_tid tid t then true else reader_at slot.readers t)
reader-read tid t slot = value-put slot.readers tid true false t

pub reader-unread : (tid t : Tid) (slot : FileText) → IsStrictlySortedBy tid_cmp (keys_of slot.readers) → reader_at (slot_unread tid slot).readers t ≡ (if same_tid tid t then false else reader_at slot.readers t)
reader-unread tid t slot sorted = value-out slot.readers tid false false t sorted

-- ---- the others

pub other-changed : (tid t : Tid) (change : Change) (slot : FileText) → same_tid tid t ≡ false → edit_at (slot_changed tid change slot).edits t ≡ edit_at slot.edits t
other-changed tid t change slot apart =
    at_edit (λ s. edit_at s.edits t ≡ edit_at slot.edits t) tid change slot (λ is. refl)
    (λ edit is. value-set slot.edits tid (changed edit change) no_edit t edit is ∙ ap (λ (b : Bool). if b then changed edit change else edit_at slot.edits t) apart)
