-- What the end of a transaction leaves at one name, where each change is finished and tidied at once.
use Rattle.std.proofs.Common.{◌≡◌, List, [], ◌∷◌, refl, ap, ◌∙◌}
use Rattle.std.specs.Prelude.{Bool, true, false, ◌||◌, if◌then◌else◌}
use Rattle.std.specs.List.{fold, list_any}
use Rattle.std.specs.List.Sorted.{IsStrictlySortedBy}
use Rattle.std.specs.Map.{keys_of}
use Rattle.qs_base.specs.Order.{tid_cmp}
use Rattle.qs_base.specs.declared.identifiers.Tid.{Tid}
use Rattle.qs_files_contents.specs.Edits.{no_edit}
use Rattle.qs_files_contents.specs.Slots.{edit_at, finished, ended}
use Rattle.qs_files_contents.specs.declared.edit.Edit.{Edit}
use Rattle.qs_files_contents.specs.declared.slot.FileText.{FileText}
use Rattle.qs_files_contents.proofs.Ends.{IsDone, text_after, done_again, done-finished, here_tid}
use Rattle.qs_files_contents.proofs.Folds.{when, fold-keeps}
use Rattle.qs_files_contents.proofs.Steps.{text-finished, edit-finished, text-tidied, edit-tidied, readers-tidied, sorted-tidied}

abbrev pub stopping : {A : Type 0} → Tid → Bool → FileText → A → FileText
stopping tid commits slot a = ended tid commits slot

done-ended : (tid : Tid) (commits : Bool) (old slot : FileText) → IsDone tid old slot → IsDone tid old (ended tid commits slot)
done-ended tid commits old slot d =
    let mid : FileText = finished tid commits slot in
    let f : IsDone tid old mid = done-finished tid commits old slot d in
    record {
      others = λ t apart. edit-tidied tid t mid f.sorted ∙ f.others t apart;
      readers = readers-tidied tid mid ∙ f.readers;
      sorted = sorted-tidied tid mid f.sorted;
    }

start : (tid : Tid) (slot : FileText) → IsStrictlySortedBy tid_cmp (keys_of slot.edits) → IsDone tid slot slot
start tid slot sorted = record { others = λ t apart. refl; readers = refl; sorted = sorted }

edit-ended : (tid : Tid) (commits : Bool) (slot : FileText) → IsStrictlySortedBy tid_cmp (keys_of slot.edits) → edit_at (ended tid commits slot).edits tid ≡ no_edit
edit-ended tid commits slot sorted =
    edit-tidied tid tid (finished tid commits slot) (done-finished tid commits slot slot (start tid slot sorted)).sorted
    ∙ edit-finished tid tid commits slot
    ∙ here_tid tid no_edit (edit_at slot.edits tid)

text-ended : (tid : Tid) (commits : Bool) (slot : FileText) → (ended tid commits slot).text ≡ text_after tid commits slot
text-ended tid commits slot = text-tidied tid (finished tid commits slot) ∙ text-finished tid commits slot

module _ {A : Type 0} (tid : Tid) (commits : Bool) (test : A → Bool) where
  pub done-ends : (items : List A) (slot : FileText) → IsStrictlySortedBy tid_cmp (keys_of slot.edits) → IsDone tid slot (fold (when test (stopping tid commits)) slot items)
  done-ends items slot sorted =
      fold-keeps (λ s. IsDone tid slot s) test (stopping tid commits) (λ s a d. done-ended tid commits slot s d) items slot (start tid slot sorted)

  pub edit-ends : (items : List A) (slot : FileText) → IsStrictlySortedBy tid_cmp (keys_of slot.edits) → edit_at (fold (when test (stopping tid commits)) slot items).edits tid ≡ (if list_any test items then no_edit else edit_at slot.edits tid)
  edit-ends [] slot sorted = refl
  edit-ends (a ∷ items) slot sorted =
      (elim (test a) as (λ b. edit_at (fold (when test (stopping tid commits)) (if b then ended tid commits slot else slot) items).edits tid ≡ (if b || list_any test items then no_edit else edit_at slot.edits tid)) [
        | true ↦ edit-ends items (ended tid commits slot) (done-ended tid commits slot slot (start tid slot sorted)).sorted
            ∙ ap (λ (e : Edit). if list_any test items then no_edit else e) (edit-ended tid commits slot sorted) ∙ either (list_any test items)
        | false ↦ edit-ends items slot sorted
      ])
    where
      either : (b : Bool) → (if b then no_edit else no_edit) ≡ no_edit
      either true = refl
      either false = refl

  pub text-ends : (items : List A) (slot : FileText) → IsStrictlySortedBy tid_cmp (keys_of slot.edits) → (fold (when test (stopping tid commits)) slot items).text ≡ (if list_any test items then text_after tid commits slot else slot.text)
  text-ends [] slot sorted = refl
  text-ends (a ∷ items) slot sorted =
      (elim (test a) as (λ b. (fold (when test (stopping tid commits)) (if b then ended tid commits slot else slot) items).text ≡ (if b || list_any test items then text_after tid commits slot else slot.text)) [
        | true ↦ text-ends items (ended tid commits slot) (done-ended tid commits slot slot (start tid slot sorted)).sorted ∙ again (list_any test items)
        | false ↦ text-ends items slot sorted
      ])
    where
      again : (b : Bool) → (if b then text_after tid commits (ended tid commits slot) else (ended tid commits slot).text) ≡ text_after tid commits slot
      again true = done_again commits (ended tid commits slot) tid (edit-ended tid commits slot sorted) ∙ text-ended tid commits slot
      again false = text-ended tid commits slot
