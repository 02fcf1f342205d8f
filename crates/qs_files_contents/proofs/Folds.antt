-- What several steps make of the slot of each name.
use Rattle.std.proofs.Common.{◌≡◌, ℕ, List, [], ◌∷◌, Some, None, refl, ap, ◌∙◌}
use Rattle.std.specs.Prelude.{Bool, true, false, ◌||◌, if◌then◌else◌}
use Rattle.std.specs.List.{fold, list_any}
use Rattle.std.specs.List.Sorted.{IsStrictlySortedBy}
use Rattle.std.specs.Map.{keys_of}
use Rattle.qs_base.specs.Order.{bytes_cmp, tid_cmp, same_bytes, same_tid}
use Rattle.qs_base.specs.declared.identifiers.Tid.{Tid}
use Rattle.qs_base.proofs.Same.{same_tid-self}
use Rattle.qs_ops.specs.Table.{is_change_of}
use Rattle.qs_ops.specs.declared.operation.Op.{Op}
use Rattle.qs_ops.specs.declared.operation.Op.TheVariants.{Put, Append, Del, Bind, Window, Keep}
use Rattle.qs_files_contents.specs.Edits.{changed, changed_under, changed_name}
use Rattle.qs_files_contents.specs.Slots.{Entries, slot_or_new, new_slot, edit_at, placed, slot_changed, finished, tidied, ended, slot_unread, at_slot, swept, place_for, change_by, at_change, tidy_change, end_change, unread_name}
use Rattle.qs_files_contents.specs.declared.edit.Edit.{Edit}
use Rattle.qs_files_contents.specs.declared.prepared.Prepared.{Prepared}
use Rattle.qs_files_contents.specs.declared.slot.FileText.{FileText}
use Rattle.qs_files_contents.proofs.Named.{slot-put, slot-at, slot-swept, sorted-put_slot, sorted-at_slot, sorted-swept}
use Rattle.qs_files_contents.proofs.Steps.{has_room, edit-placed, text-placed, readers-placed, sorted-placed, room-placed, edit-changed, room-changed, edit-tidied, text-tidied, readers-tidied, sorted-tidied}

abbrev pub AreSorted : Entries → Type 0
AreSorted slots = IsStrictlySortedBy bytes_cmp (keys_of slots)

-- ---- from all names to one

module _ {A : Type 0} (g : Entries → A → Entries) (keeps : (slots : Entries) (a : A) → AreSorted slots → AreSorted (g slots a)) where
  pub fold-sorted : (items : List A) (slots : Entries) → AreSorted slots → AreSorted (fold g slots items)
  fold-sorted [] slots sorted = sorted
  fold-sorted (a ∷ items) slots sorted = fold-sorted items (g slots a) (keeps slots a sorted)

  fold-named : (h : FileText → A → FileText) (q : List ℕ) → ((slots : Entries) (a : A) → AreSorted slots → slot_or_new (g slots a) q ≡ h (slot_or_new slots q) a)
      → (items : List A) (slots : Entries) → AreSorted slots → slot_or_new (fold g slots items) q ≡ fold h (slot_or_new slots q) items
  fold-named h q is [] slots sorted = refl
  fold-named h q is (a ∷ items) slots sorted = fold-named h q is items (g slots a) (keeps slots a sorted) ∙ ap (λ (s : FileText). fold h s items) (is slots a sorted)

-- a step where a test passes
abbrev pub when : {A : Type 0} → (A → Bool) → (FileText → A → FileText) → FileText → A → FileText
when test f slot a = if test a then f slot a else slot

pub fold-keeps : {A : Type 0} (P : FileText → Type 0) (test : A → Bool) (f : FileText → A → FileText) → ((s : FileText) (a : A) → P s → P (f s a)) → (items : List A) (s : FileText) → P s → P (fold (when test f) s items)
fold-keeps P test f keeps [] s p = p
fold-keeps P test f keeps (a ∷ items) s p =
    fold-keeps P test f keeps items (when test f s a) (elim (test a) as (λ b. P (if b then f s a else s)) [ true ↦ keeps s a p | false ↦ p ])

-- ---- the steps at one name

abbrev pub placing : Tid → FileText → Prepared → FileText
placing tid slot p = placed tid slot

abbrev pub changing : Tid → FileText → Prepared → FileText
changing tid slot p = slot_changed tid p.change slot

abbrev pub is_named : List ℕ → Prepared → Bool
is_named q p = same_bytes p.name q

abbrev pub on_op : (FileText → FileText) → FileText → Op → FileText
on_op f slot op = f slot

abbrev pub unreading : Tid → FileText → List ℕ → FileText
unreading tid slot name = slot_unread tid slot

abbrev pub is_name : List ℕ → List ℕ → Bool
is_name q name = same_bytes name q

pub sorted-place : (tid : Tid) (slots : Entries) (p : Prepared) → AreSorted slots → AreSorted (place_for tid slots p)
sorted-place tid slots p sorted = sorted-put_slot (placed tid) p.name slots sorted

pub sorted-change : (tid : Tid) (slots : Entries) (p : Prepared) → AreSorted slots → AreSorted (change_by tid slots p)
sorted-change tid slots p sorted = sorted-at_slot (slot_changed tid p.change) p.name slots sorted

pub sorted-at_change : (f : FileText → FileText) (slots : Entries) (op : Op) → AreSorted slots → AreSorted (at_change f slots op)
sorted-at_change f slots op sorted = elim (changed_name op) as (λ o. AreSorted (elim o [ None ↦ slots | Some name ↦ at_slot f name slots ])) [ None ↦ sorted | Some name ↦ sorted-at_slot f name slots sorted ]

sorted-swept_change : (f : FileText → FileText) (slots : Entries) (op : Op) → AreSorted slots → AreSorted (elim (changed_name op) [ None ↦ slots | Some name ↦ swept name (at_slot f name slots) ])
sorted-swept_change f slots op sorted =
    elim (changed_name op) as (λ o. AreSorted (elim o [ None ↦ slots | Some name ↦ swept name (at_slot f name slots) ])) [
      | None ↦ sorted
      | Some name ↦ sorted-swept name (at_slot f name slots) (sorted-at_slot f name slots sorted)
    ]

pub sorted-tidy : (tid : Tid) (slots : Entries) (op : Op) → AreSorted slots → AreSorted (tidy_change tid slots op)
sorted-tidy tid slots op sorted = sorted-swept_change (tidied tid) slots op sorted

pub sorted-end : (tid : Tid) (commits : Bool) (slots : Entries) (op : Op) → AreSorted slots → AreSorted (end_change tid commits slots op)
sorted-end tid commits slots op sorted = sorted-swept_change (ended tid commits) slots op sorted

pub sorted-unread : (tid : Tid) (slots : Entries) (name : List ℕ) → AreSorted slots → AreSorted (unread_name tid slots name)
sorted-unread tid slots name sorted = sorted-swept name (at_slot (slot_unread tid) name slots) (sorted-at_slot (slot_unread tid) name slots sorted)

-- what a change is to
by_name : (f : FileText → FileText) (slot : FileText) (op : Op) (q : List ℕ) → (elim (changed_name op) [ None ↦ slot | Some name ↦ if same_bytes name q then f slot else slot ]) ≡ (if is_change_of q op then f slot else slot)
by_name f slot (Put name text) q = refl
by_name f slot (Append name text) q = refl
by_name f slot (Del name) q = refl
by_name f slot (Bind name text) q = refl
by_name f slot (Window name text) q = refl
by_name f slot (Keep name text) q = refl
by_name f slot op q = refl

slot-at_change : (f : FileText → FileText) (q : List ℕ) → f new_slot ≡ new_slot → (slots : Entries) (op : Op) → slot_or_new (at_change f slots op) q ≡ when (is_change_of q) (on_op f) (slot_or_new slots q) op
slot-at_change f q none slots op =
    elim (changed_name op) as (λ o. slot_or_new (elim o [ None ↦ slots | Some name ↦ at_slot f name slots ]) q ≡ (elim o [ None ↦ slot_or_new slots q | Some name ↦ if same_bytes name q then f (slot_or_new slots q) else slot_or_new slots q ])) [
      | None ↦ refl
      | Some name ↦ slot-at f name slots q none
    ]
    ∙ by_name f (slot_or_new slots q) op q

slot-swept_change : (f : FileText → FileText) (q : List ℕ) → f new_slot ≡ new_slot → (slots : Entries) (op : Op) → AreSorted slots
    → slot_or_new (elim (changed_name op) [ None ↦ slots | Some name ↦ swept name (at_slot f name slots) ]) q ≡ when (is_change_of q) (on_op f) (slot_or_new slots q) op
slot-swept_change f q none slots op sorted =
    elim (changed_name op) as (λ o. slot_or_new (elim o [ None ↦ slots | Some name ↦ swept name (at_slot f name slots) ]) q ≡ (elim o [ None ↦ slot_or_new slots q | Some name ↦ if same_bytes name q then f (slot_or_new slots q) else slot_or_new slots q ])) [
      | None ↦ refl
      | Some name ↦ slot-swept name (at_slot f name slots) q (sorted-at_slot f name slots sorted) ∙ slot-at f name slots q none
    ]
    ∙ by_name f (slot_or_new slots q) op q

module _ (tid : Tid) (q : List ℕ) where
  pub slot-places : (ps : List Prepared) (slots : Entries) → AreSorted slots → slot_or_new (fold (place_for tid) slots ps) q ≡ fold (when (is_named q) (placing tid)) (slot_or_new slots q) ps
  slot-places ps slots sorted = fold-named (place_for tid) (sorted-place tid) (when (is_named q) (placing tid)) q (λ es p s. slot-put (placed tid) p.name es q) ps slots sorted

  pub slot-changes : (ps : List Prepared) (slots : Entries) → AreSorted slots → slot_or_new (fold (change_by tid) slots ps) q ≡ fold (when (is_named q) (changing tid)) (slot_or_new slots q) ps
  slot-changes ps slots sorted = fold-named (change_by tid) (sorted-change tid) (when (is_named q) (changing tid)) q (λ es p s. slot-at (slot_changed tid p.change) p.name es q refl) ps slots sorted

  pub slot-finishes : (commits : Bool) (ops : List Op) (slots : Entries) → AreSorted slots → slot_or_new (fold (at_change (finished tid commits)) slots ops) q ≡ fold (when (is_change_of q) (on_op (finished tid commits))) (slot_or_new slots q) ops
  slot-finishes commits ops slots sorted = fold-named (at_change (finished tid commits)) (sorted-at_change (finished tid commits)) (when (is_change_of q) (on_op (finished tid commits))) q (λ es op s. slot-at_change (finished tid commits) q refl es op) ops slots sorted

  pub slot-tidies : (ops : List Op) (slots : Entries) → AreSorted slots → slot_or_new (fold (tidy_change tid) slots ops) q ≡ fold (when (is_change_of q) (on_op (tidied tid))) (slot_or_new slots q) ops
  slot-tidies ops slots sorted = fold-named (tidy_change tid) (sorted-tidy tid) (when (is_change_of q) (on_op (tidied tid))) q (λ es op s. slot-swept_change (tidied tid) q refl es op s) ops slots sorted

  pub slot-ends : (commits : Bool) (ops : List Op) (slots : Entries) → AreSorted slots → slot_or_new (fold (end_change tid commits) slots ops) q ≡ fold (when (is_change_of q) (on_op (ended tid commits))) (slot_or_new slots q) ops
  slot-ends commits ops slots sorted = fold-named (end_change tid commits) (sorted-end tid commits) (when (is_change_of q) (on_op (ended tid commits))) q (λ es op s. slot-swept_change (ended tid commits) q refl es op s) ops slots sorted

  slot-unread_name : (slots : Entries) (name : List ℕ) → AreSorted slots → slot_or_new (unread_name tid slots name) q ≡ when (is_name q) (unreading tid) (slot_or_new slots q) name
  slot-unread_name slots name sorted = slot-swept name (at_slot (slot_unread tid) name slots) q (sorted-at_slot (slot_unread tid) name slots sorted) ∙ slot-at (slot_unread tid) name slots q refl

  pub slot-unreads : (names : List (List ℕ)) (slots : Entries) → AreSorted slots → slot_or_new (fold (unread_name tid) slots names) q ≡ fold (when (is_name q) (unreading tid)) (slot_or_new slots q) names
  slot-unreads names slots sorted = fold-named (unread_name tid) (sorted-unread tid) (when (is_name q) (unreading tid)) q slot-unread_name names slots sorted

-- ---- room, made or given back, changes nothing

pub record Like (old new : FileText) : Type 0 where
  pub text : new.text ≡ old.text
  pub edits : (t : Tid) → edit_at new.edits t ≡ edit_at old.edits t
  pub readers : new.readers ≡ old.readers
  pub sorted : IsStrictlySortedBy tid_cmp (keys_of new.edits)

pub like-placed : (tid : Tid) (old slot : FileText) → Like old slot → Like old (placed tid slot)
like-placed tid old slot l = record {
  text = text-placed tid slot ∙ l.text;
  edits = λ t. edit-placed tid t slot ∙ l.edits t;
  readers = readers-placed tid slot ∙ l.readers;
  sorted = sorted-placed tid slot l.sorted;
}

pub like-tidied : (tid : Tid) (old slot : FileText) → Like old slot → Like old (tidied tid slot)
like-tidied tid old slot l = record {
  text = text-tidied tid slot ∙ l.text;
  edits = λ t. edit-tidied tid t slot l.sorted ∙ l.edits t;
  readers = readers-tidied tid slot ∙ l.readers;
  sorted = sorted-tidied tid slot l.sorted;
}

pub like_itself : (slot : FileText) → IsStrictlySortedBy tid_cmp (keys_of slot.edits) → Like slot slot
like_itself slot sorted = record { text = refl; edits = λ t. refl; readers = refl; sorted = sorted }

pub like-places : (tid : Tid) (test : Prepared → Bool) (ps : List Prepared) (old slot : FileText) → Like old slot → Like old (fold (when test (placing tid)) slot ps)
like-places tid test ps old slot l = fold-keeps (λ s. Like old s) test (placing tid) (λ s p k. like-placed tid old s k) ps slot l

pub like-tidies : (tid : Tid) (test : Op → Bool) (ops : List Op) (old slot : FileText) → Like old slot → Like old (fold (when test (on_op (tidied tid))) slot ops)
like-tidies tid test ops old slot l = fold-keeps (λ s. Like old s) test (on_op (tidied tid)) (λ s op k. like-tidied tid old s k) ops slot l

-- ---- changes

pub room-places : (tid : Tid) (test : Prepared → Bool) (ps : List Prepared) (slot : FileText) → list_any test ps ≡ true → has_room tid (fold (when test (placing tid)) slot ps) ≡ true
room-places tid test [] slot any = absurd (cc)
room-places tid test (p ∷ ps) slot any =
    (elim (test p) as (λ b. (b || list_any test ps) ≡ true → has_room tid (fold (when test (placing tid)) (if b then placed tid slot else slot) ps) ≡ true) [
      | true ↦ λ some. fold-keeps (λ s. has_room tid s ≡ true) test (placing tid) (λ s a room. room-again s room) ps (placed tid slot) (room-placed tid slot)
      | false ↦ λ some. room-places tid test ps slot some
    ]) any
  where
    room-again : (s : FileText) → has_room tid s ≡ true → has_room tid (placed tid s) ≡ true
    room-again s room = room-placed tid s

-- one transaction changes, and the others' edits stay
pub record IsChanged (tid : Tid) (old new : FileText) : Type 0 where
  pub text : new.text ≡ old.text
  pub others : (t : Tid) → same_tid tid t ≡ false → edit_at new.edits t ≡ edit_at old.edits t
  pub readers : new.readers ≡ old.readers
  pub sorted : IsStrictlySortedBy tid_cmp (keys_of new.edits)

pub edit-changes : (tid : Tid) (q : List ℕ) (ps : List Prepared) (slot : FileText) → (list_any (is_named q) ps ≡ true → has_room tid slot ≡ true)
    → edit_at (fold (when (is_named q) (changing tid)) slot ps).edits tid ≡ fold (changed_under q) (edit_at slot.edits tid) ps
edit-changes tid q [] slot room = refl
edit-changes tid q (p ∷ ps) slot room =
    (elim (same_bytes p.name q) as (λ b. ((b || list_any (is_named q) ps) ≡ true → has_room tid slot ≡ true)
    → edit_at (fold (when (is_named q) (changing tid)) (if b then slot_changed tid p.change slot else slot) ps).edits tid ≡ fold (changed_under q) (if b then changed (edit_at slot.edits tid) p.change else edit_at slot.edits tid) ps) [
      | true ↦ λ r. edit-changes tid q ps (slot_changed tid p.change slot) (λ any. room-changed tid p.change slot (r refl))
          ∙ ap (λ (e : Edit). fold (changed_under q) e ps) (edit-changed tid tid p.change slot (r refl) ∙ ap (λ (b : Bool). if b then changed (edit_at slot.edits tid) p.change else edit_at slot.edits tid) (same_tid-self tid))
      | false ↦ λ r. edit-changes tid q ps slot r
    ]) room
