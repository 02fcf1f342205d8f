-- What stands under each name, once the slot of one name is changed.
use Rattle.std.proofs.Common.{◌≡◌, ℕ, List, [], ◌∷◌, length, Option, Some, None, refl, sym, ap, ◌∙◌, arith}
use Rattle.std.specs.Prelude.{Bool, true, false, cond, unwrap_or, is_none, ◌&&◌, ◌==◌, if◌then◌else◌}
use Rattle.std.specs.List.Sorted.{IsStrictlySortedBy}
use Rattle.std.specs.Ordering.{is_eq}
use Rattle.std.specs.Cmp.Lexicographic.{texts_ties, nat_list_eq_equiv}
use Rattle.std.specs.Map.{lookup, set_value, remove_entry, keys_of}
use Rattle.std.specs.BTreeMap.{insert_entry, is_at}
use Rattle.std.proofs.lemmas.Bool.Decides.{nat_tests}
use Rattle.std.proofs.lemmas.Map.Lookups.{exact_bytes}
use Rattle.qs_base.specs.Order.{bytes_cmp, same_bytes}
use Rattle.qs_base.specs.declared.identifiers.Tid.{Tid}
use Rattle.qs_base.proofs.Same.{same_bytes-true}
use Rattle.qs_ops.proofs.FileOrder.{bytes_total}
use Rattle.qs_files_contents.specs.Slots.{Entries, slot_in, slot_or_new, new_slot, is_empty_slot, at_slot, put_slot, swept}
use Rattle.qs_files_contents.specs.Texts.{Pieces}
use Rattle.qs_files_contents.specs.declared.edit.Edit.{Edit}
use Rattle.qs_files_contents.specs.declared.slot.FileText.{FileText}
use Rattle.qs_files_contents.proofs.Maps.{lookup-put, lookup-set, lookup-out, sorted-put, sorted-set, sorted-out}

pub same_cmp : (name q : List ℕ) → is_eq (bytes_cmp q name) ≡ same_bytes name q
same_cmp name q = sym (texts_ties q name) ∙ nat_list_eq_equiv.symm q name

or_new : (b : Bool) (w : FileText) (o : Option FileText) → unwrap_or (cond b (Some w) o) new_slot ≡ (if b then w else unwrap_or o new_slot)
or_new true w o = refl
or_new false w o = refl

-- where it is the name, its slot
at_name : (b : Bool) (f : FileText → FileText) (slots : Entries) (name q : List ℕ) → same_bytes name q ≡ b → (if b then f (slot_or_new slots name) else slot_or_new slots q) ≡ (if b then f (slot_or_new slots q) else slot_or_new slots q)
at_name true f slots name q is = ap (λ (n : List ℕ). f (slot_or_new slots n)) (same_bytes-true name q is)
at_name false f slots name q is = refl

module _ (f : FileText → FileText) (name : List ℕ) (slots : Entries) where
  set_there : (slot : FileText) (q : List ℕ) → slot_in slots name ≡ Some slot → (new : Entries)
      → lookup (is_at (bytes_cmp q)) new ≡ cond (is_eq (bytes_cmp q name)) (Some (f slot)) (slot_in slots q)
      → slot_or_new new q ≡ (if same_bytes name q then f (slot_or_new slots q) else slot_or_new slots q)
  set_there slot q is new at =
      ap (λ (o : Option FileText). unwrap_or o new_slot) at
      ∙ or_new (is_eq (bytes_cmp q name)) (f slot) (slot_in slots q)
      ∙ ap (λ (b : Bool). if b then f slot else slot_or_new slots q) (same_cmp name q)
      ∙ ap (λ (o : Option FileText). if same_bytes name q then f (unwrap_or o new_slot) else slot_or_new slots q) (sym is)
      ∙ at_name (same_bytes name q) f slots name q refl

  new_there : (q : List ℕ) → slot_in slots name ≡ None → (new : Entries)
      → lookup (is_at (bytes_cmp q)) new ≡ cond (is_eq (bytes_cmp q name)) (Some (f new_slot)) (slot_in slots q)
      → slot_or_new new q ≡ (if same_bytes name q then f (slot_or_new slots q) else slot_or_new slots q)
  new_there q is new at =
      ap (λ (o : Option FileText). unwrap_or o new_slot) at
      ∙ or_new (is_eq (bytes_cmp q name)) (f new_slot) (slot_in slots q)
      ∙ ap (λ (b : Bool). if b then f new_slot else slot_or_new slots q) (same_cmp name q)
      ∙ ap (λ (o : Option FileText). if same_bytes name q then f (unwrap_or o new_slot) else slot_or_new slots q) (sym is)
      ∙ at_name (same_bytes name q) f slots name q refl

  stays : (b : Bool) (q : List ℕ) → same_bytes name q ≡ b → f new_slot ≡ new_slot → slot_in slots name ≡ None → slot_or_new slots q ≡ (if b then f (slot_or_new slots q) else slot_or_new slots q)
  stays true q is none gone =
      let here : slot_or_new slots q ≡ new_slot = ap (λ (n : List ℕ). slot_or_new slots n) (sym (same_bytes-true name q is)) ∙ ap (λ (o : Option FileText). unwrap_or o new_slot) gone in
      here ∙ sym none ∙ ap f (sym here)
  stays false q is none gone = refl

  -- the slot of a name is changed or made
  pub slot-put : (q : List ℕ) → slot_or_new (put_slot f name slots) q ≡ (if same_bytes name q then f (slot_or_new slots q) else slot_or_new slots q)
  slot-put q =
      (elim (slot_in slots name) as (λ o. slot_in slots name ≡ o → slot_or_new (elim o [ None ↦ insert_entry bytes_cmp slots name (f new_slot) | Some slot ↦ set_value (is_at (bytes_cmp name)) slots (f slot) ]) q ≡ (if same_bytes name q then f (slot_or_new slots q) else slot_or_new slots q)) [
        | None ↦ λ is. new_there q is _ (lookup-put bytes_total exact_bytes slots name (f new_slot) q)
        | Some slot ↦ λ is. set_there slot q is _ (lookup-set bytes_total exact_bytes slots name slot (f slot) q is)
      ]) refl

  -- it is changed, where a new one stays as it is
  pub slot-at : (q : List ℕ) → f new_slot ≡ new_slot → slot_or_new (at_slot f name slots) q ≡ (if same_bytes name q then f (slot_or_new slots q) else slot_or_new slots q)
  slot-at q none =
      (elim (slot_in slots name) as (λ o. slot_in slots name ≡ o → slot_or_new (elim o [ None ↦ slots | Some slot ↦ set_value (is_at (bytes_cmp name)) slots (f slot) ]) q ≡ (if same_bytes name q then f (slot_or_new slots q) else slot_or_new slots q)) [
        | None ↦ λ is. stays (same_bytes name q) q refl none is
        | Some slot ↦ λ is. set_there slot q is _ (lookup-set bytes_total exact_bytes slots name slot (f slot) q is)
      ]) refl

  pub sorted-put_slot : IsStrictlySortedBy bytes_cmp (keys_of slots) → IsStrictlySortedBy bytes_cmp (keys_of (put_slot f name slots))
  sorted-put_slot sorted =
      elim (slot_in slots name) as (λ o. IsStrictlySortedBy bytes_cmp (keys_of (elim o [ None ↦ insert_entry bytes_cmp slots name (f new_slot) | Some slot ↦ set_value (is_at (bytes_cmp name)) slots (f slot) ]))) [
        | None ↦ sorted-put bytes_total exact_bytes slots name (f new_slot) sorted
        | Some slot ↦ sorted-set bytes_total exact_bytes slots (is_at (bytes_cmp name)) (f slot) sorted
      ]

  pub sorted-at_slot : IsStrictlySortedBy bytes_cmp (keys_of slots) → IsStrictlySortedBy bytes_cmp (keys_of (at_slot f name slots))
  sorted-at_slot sorted =
      elim (slot_in slots name) as (λ o. IsStrictlySortedBy bytes_cmp (keys_of (elim o [ None ↦ slots | Some slot ↦ set_value (is_at (bytes_cmp name)) slots (f slot) ]))) [
        | None ↦ sorted
        | Some slot ↦ sorted-set bytes_total exact_bytes slots (is_at (bytes_cmp name)) (f slot) sorted
      ]

-- ---- an empty slot is a new one

no_items : {X : Type 0} (xs : List X) → (length xs == 0) ≡ true → xs ≡ []
no_items [] is = refl
no_items (x ∷ xs) is = absurd (grind (arith, nat_tests, is))

no_text : (t : Option Pieces) → is_none t ≡ true → t ≡ None
no_text None is = refl
no_text (Some t) is = absurd (cc)

first-of : (a b : Bool) → a && b ≡ true → a ≡ true
first-of true b is = refl
first-of false b is = absurd (cc)

second-of : (a b : Bool) → a && b ≡ true → b ≡ true
second-of true b is = is
second-of false b is = absurd (cc)

abbrev slot_of : Option Pieces → List (Tid × Edit) → List (Tid × Bool) → FileText
slot_of text edits readers = record { text = text; edits = edits; readers = readers }

pub empty_is_new : (slot : FileText) → is_empty_slot slot ≡ true → slot ≡ new_slot
empty_is_new slot is =
    let rest = second-of (is_none slot.text) ((length slot.edits == 0) && (length slot.readers == 0)) is in
    ap (λ (t : Option Pieces). slot_of t slot.edits slot.readers) (no_text slot.text (first-of (is_none slot.text) ((length slot.edits == 0) && (length slot.readers == 0)) is))
    ∙ ap (λ (es : List (Tid × Edit)). slot_of None es slot.readers) (no_items slot.edits (first-of (length slot.edits == 0) (length slot.readers == 0) rest))
    ∙ ap (λ (rs : List (Tid × Bool)). slot_of None [] rs) (no_items slot.readers (second-of (length slot.edits == 0) (length slot.readers == 0) rest))

-- an empty slot is taken out
pub slot-swept : (name : List ℕ) (slots : Entries) (q : List ℕ) → IsStrictlySortedBy bytes_cmp (keys_of slots) → slot_or_new (swept name slots) q ≡ slot_or_new slots q
slot-swept name slots q sorted =
    (elim (is_empty_slot (slot_or_new slots name)) as (λ b. is_empty_slot (slot_or_new slots name) ≡ b → slot_or_new (if b then remove_entry (is_at (bytes_cmp name)) slots else slots) q ≡ slot_or_new slots q) [
      | true ↦ λ is. ap (λ (o : Option FileText). unwrap_or o new_slot) (lookup-out bytes_total exact_bytes slots name q sorted) ∙ gone (is_eq (bytes_cmp q name)) refl (empty_is_new (slot_or_new slots name) is)
      | false ↦ λ is. refl
    ]) refl
  where
    gone : (b : Bool) → is_eq (bytes_cmp q name) ≡ b → slot_or_new slots name ≡ new_slot → unwrap_or (cond b None (slot_in slots q)) new_slot ≡ slot_or_new slots q
    gone true at is = sym is ∙ ap (λ (n : List ℕ). slot_or_new slots n) (same_bytes-true name q (sym (same_cmp name q) ∙ at))
    gone false at is = refl

pub sorted-swept : (name : List ℕ) (slots : Entries) → IsStrictlySortedBy bytes_cmp (keys_of slots) → IsStrictlySortedBy bytes_cmp (keys_of (swept name slots))
sorted-swept name slots sorted =
    elim (is_empty_slot (slot_or_new slots name)) as (λ b. IsStrictlySortedBy bytes_cmp (keys_of (if b then remove_entry (is_at (bytes_cmp name)) slots else slots))) [
      | true ↦ sorted-out bytes_total exact_bytes slots (is_at (bytes_cmp name)) sorted
      | false ↦ sorted
    ]
