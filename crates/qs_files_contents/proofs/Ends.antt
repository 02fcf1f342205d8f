-- What the end of a transaction leaves at one name.
use Rattle.std.proofs.Common.{◌≡◌, List, [], ◌∷◌, refl, sym, ap, ◌∙◌, Option}
use Rattle.std.specs.Prelude.{Bool, true, false, ◌||◌, if◌then◌else◌}
use Rattle.std.specs.List.{fold, list_any}
use Rattle.std.specs.List.Sorted.{IsStrictlySortedBy}
use Rattle.std.specs.BTreeMap.{is_at}
use Rattle.std.specs.Map.{keys_of}
use Rattle.qs_base.specs.Order.{tid_cmp, same_tid}
use Rattle.qs_base.specs.declared.identifiers.Tid.{Tid}
use Rattle.qs_base.proofs.Same.{same_tid-self}
use Rattle.qs_files_contents.specs.Edits.{no_edit, edited}
use Rattle.qs_files_contents.specs.Slots.{edit_at, reader_at, finished, slot_unread}
use Rattle.qs_files_contents.specs.Texts.{Pieces}
use Rattle.qs_files_contents.specs.declared.edit.Edit.{Edit}
use Rattle.qs_files_contents.specs.declared.slot.FileText.{FileText}
use Rattle.qs_files_contents.proofs.Folds.{when, fold-keeps}
use Rattle.qs_files_contents.proofs.Maps.{sorted-out}
use Rattle.qs_files_contents.proofs.Pieces.{linked-none}
use Rattle.qs_files_contents.proofs.Steps.{text-finished, edit-finished, readers-finished, sorted-finished, reader-unread}
use Rattle.qs_base.proofs.TidOrder.{tid_total, tid_exact}

pub here_tid : {X : Type 0} (tid : Tid) (x y : X) → (if same_tid tid tid then x else y) ≡ x
here_tid tid x y = ap (λ (b : Bool). if b then x else y) (same_tid-self tid)

there_tid : {X : Type 0} (tid t : Tid) (x y : X) → same_tid tid t ≡ false → (if same_tid tid t then x else y) ≡ y
there_tid tid t x y apart = ap (λ (b : Bool). if b then x else y) apart

-- ---- no change is pending any more

abbrev pub ending : {A : Type 0} → Tid → Bool → FileText → A → FileText
ending tid commits slot a = finished tid commits slot

-- the text of a slot, once its transaction is done
abbrev pub text_after : Tid → Bool → FileText → Option Pieces
text_after tid commits slot = if commits then edited (edit_at slot.edits tid) slot.text else slot.text

pub done_again : (commits : Bool) (slot : FileText) (tid : Tid) → edit_at slot.edits tid ≡ no_edit → text_after tid commits slot ≡ slot.text
done_again true slot tid none = ap (λ (e : Edit). edited e slot.text) none ∙ linked-none slot.text
done_again false slot tid none = refl

pub record IsDone (tid : Tid) (old new : FileText) : Type 0 where
  pub others : (t : Tid) → same_tid tid t ≡ false → edit_at new.edits t ≡ edit_at old.edits t
  pub readers : new.readers ≡ old.readers
  pub sorted : IsStrictlySortedBy tid_cmp (keys_of new.edits)

pub done-finished : (tid : Tid) (commits : Bool) (old slot : FileText) → IsDone tid old slot → IsDone tid old (finished tid commits slot)
done-finished tid commits old slot d = record {
  others = λ t apart. edit-finished tid t commits slot ∙ there_tid tid t no_edit (edit_at slot.edits t) apart ∙ d.others t apart;
  readers = readers-finished tid commits slot ∙ d.readers;
  sorted = sorted-finished tid commits slot d.sorted;
}

module _ {A : Type 0} (tid : Tid) (commits : Bool) (test : A → Bool) where
  pub done-finishes : (items : List A) (slot : FileText) → IsStrictlySortedBy tid_cmp (keys_of slot.edits) → IsDone tid slot (fold (when test (ending tid commits)) slot items)
  done-finishes items slot sorted =
      fold-keeps (λ s. IsDone tid slot s) test (ending tid commits) (λ s a d. done-finished tid commits slot s d) items slot
      (record { others = λ t apart. refl; readers = refl; sorted = sorted })

  pub edit-finishes : (items : List A) (slot : FileText) → edit_at (fold (when test (ending tid commits)) slot items).edits tid ≡ (if list_any test items then no_edit else edit_at slot.edits tid)
  edit-finishes [] slot = refl
  edit-finishes (a ∷ items) slot =
      (elim (test a) as (λ b. edit_at (fold (when test (ending tid commits)) (if b then finished tid commits slot else slot) items).edits tid ≡ (if b || list_any test items then no_edit else edit_at slot.edits tid)) [
        | true ↦ edit-finishes items (finished tid commits slot) ∙ ap (λ (e : Edit). if list_any test items then no_edit else e) (edit-finished tid tid commits slot ∙ here_tid tid no_edit (edit_at slot.edits tid)) ∙ sym (either (list_any test items))
        | false ↦ edit-finishes items slot
      ])
    where
      either : (b : Bool) → no_edit ≡ (if b then no_edit else no_edit)
      either true = refl
      either false = refl

  pub text-finishes : (items : List A) (slot : FileText) → (fold (when test (ending tid commits)) slot items).text ≡ (if list_any test items then text_after tid commits slot else slot.text)
  text-finishes [] slot = refl
  text-finishes (a ∷ items) slot =
      (elim (test a) as (λ b. (fold (when test (ending tid commits)) (if b then finished tid commits slot else slot) items).text ≡ (if b || list_any test items then text_after tid commits slot else slot.text)) [
        | true ↦ text-finishes items (finished tid commits slot) ∙ again (list_any test items)
        | false ↦ text-finishes items slot
      ])
    where
      none : edit_at (finished tid commits slot).edits tid ≡ no_edit
      none = edit-finished tid tid commits slot ∙ here_tid tid no_edit (edit_at slot.edits tid)

      again : (b : Bool) → (if b then text_after tid commits (finished tid commits slot) else (finished tid commits slot).text) ≡ text_after tid commits slot
      again true = done_again commits (finished tid commits slot) tid none ∙ text-finished tid commits slot
      again false = text-finished tid commits slot

-- ---- nothing is read any more

pub record IsUnread (tid : Tid) (old new : FileText) : Type 0 where
  pub text : new.text ≡ old.text
  pub edits : new.edits ≡ old.edits
  pub others : (t : Tid) → same_tid tid t ≡ false → reader_at new.readers t ≡ reader_at old.readers t
  pub sorted : IsStrictlySortedBy tid_cmp (keys_of new.readers)

abbrev pub unreads : {A : Type 0} → Tid → FileText → A → FileText
unreads tid slot a = slot_unread tid slot

unread-unread : (tid : Tid) (old slot : FileText) → IsUnread tid old slot → IsUnread tid old (slot_unread tid slot)
unread-unread tid old slot u = record {
  text = u.text;
  edits = u.edits;
  others = λ t apart. reader-unread tid t slot u.sorted ∙ there_tid tid t false (reader_at slot.readers t) apart ∙ u.others t apart;
  sorted = sorted-out tid_total tid_exact slot.readers (is_at (tid_cmp tid)) u.sorted;
}

module _ {A : Type 0} (tid : Tid) (test : A → Bool) where
  pub unread-unreads : (items : List A) (slot : FileText) → IsStrictlySortedBy tid_cmp (keys_of slot.readers) → IsUnread tid slot (fold (when test (unreads tid)) slot items)
  unread-unreads items slot sorted =
      fold-keeps (λ s. IsUnread tid slot s) test (unreads tid) (λ s a u. unread-unread tid slot s u) items slot
      (record { text = refl; edits = refl; others = λ t apart. refl; sorted = sorted })

  pub reader-unreads : (items : List A) (slot : FileText) → IsStrictlySortedBy tid_cmp (keys_of slot.readers) → reader_at (fold (when test (unreads tid)) slot items).readers tid ≡ (if list_any test items then false else reader_at slot.readers tid)
  reader-unreads [] slot sorted = refl
  reader-unreads (a ∷ items) slot sorted =
      (elim (test a) as (λ b. reader_at (fold (when test (unreads tid)) (if b then slot_unread tid slot else slot) items).readers tid ≡ (if b || list_any test items then false else reader_at slot.readers tid)) [
        | true ↦ reader-unreads items (slot_unread tid slot) (sorted-out tid_total tid_exact slot.readers (is_at (tid_cmp tid)) sorted)
            ∙ ap (λ (e : Bool). if list_any test items then false else e) (reader-unread tid tid slot sorted ∙ here_tid tid false (reader_at slot.readers tid)) ∙ either (list_any test items)
        | false ↦ reader-unreads items slot sorted
      ])
    where
      either : (b : Bool) → (if b then false else false) ≡ false
      either true = refl
      either false = refl
