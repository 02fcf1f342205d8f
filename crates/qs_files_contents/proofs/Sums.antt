-- What a change of one name makes of the bytes of all texts.
use Rattle.std.proofs.Common.{◌≡◌, ℕ, ◌+◌, List, [], ◌∷◌, Option, Some, None, refl, sym, ap, ◌∙◌, arith}
use Rattle.std.specs.Prelude.{Bool, true, false, cond, unwrap_or, IfSome, Result, Ok, Err, OnOk, OnErr, if◌then◌else◌}
use Rattle.std.specs.declared.cmp.Ordering.TheVariants.{Less, Equal, Greater}
use Rattle.std.specs.Ordering.{match_ordering, is_eq}
use Rattle.std.specs.Map.{lookup, set_value, remove_entry}
use Rattle.std.specs.BTreeMap.{insert_entry, is_at}
use Rattle.qs_base.specs.Order.{bytes_cmp}
use Rattle.qs_base.specs.declared.identifiers.Tid.{Tid}
use Rattle.qs_files_contents.specs.Slots.{Entries, slot_in, slot_or_new, new_slot, is_empty_slot, at_slot, put_slot, swept, placed, slot_changed, tidied, slot_read, slot_unread, change_by, unread_name, text_at}
use Rattle.qs_files_contents.specs.Sums.{committed_bytes, IsCommitted, IsReplacedSum}
use Rattle.qs_files_contents.specs.Texts.{Pieces, flat, text_bytes}
use Rattle.qs_files_contents.specs.declared.prepared.Prepared.{Prepared}
use Rattle.qs_files_contents.specs.declared.slot.FileText.{FileText}
use Rattle.qs_files_contents.proofs.Named.{empty_is_new}
use Rattle.qs_files_contents.proofs.Steps.{text-placed, text-changed, text-tidied}

abbrev bytes_in : FileText → ℕ
bytes_in slot = text_bytes (text_at slot)

abbrev found : Option FileText → FileText
found o = unwrap_or o new_slot

-- ---- one entry changed, put in or taken out

pub sum-set : (test : List ℕ → Bool) (es : Entries) (s w : FileText) → lookup test es ≡ Some s → committed_bytes (set_value test es w) + text_bytes (text_at s) ≡ committed_bytes es + text_bytes (text_at w)
sum-set test [] s w is = absurd (cc)
sum-set test (e ∷ es) s w is =
    (elim (test e.0) as (λ b. cond b (Some e.1) (lookup test es) ≡ Some s → committed_bytes (cond b ((e.0, w) ∷ es) (e ∷ set_value test es w)) + bytes_in s ≡ committed_bytes (e ∷ es) + bytes_in w) [
      | true ↦ λ i. let same : bytes_in e.1 ≡ bytes_in s = ap (λ (o : Option FileText). bytes_in (found o)) i in omega (arith, same)
      | false ↦ λ i. let rest = sum-set test es s w i in omega (arith, rest)
    ]) is

sum-put : (es : Entries) (k : List ℕ) (w : FileText) → slot_in es k ≡ None → committed_bytes (insert_entry bytes_cmp es k w) ≡ committed_bytes es + bytes_in w
sum-put [] k w none = omega (arith)
sum-put (e ∷ es) k w none =
    (elim (bytes_cmp k e.0) as (λ r. cond (is_eq r) (Some e.1) (slot_in es k) ≡ None → committed_bytes (match_ordering r ((k, w) ∷ e ∷ es) ((e.0, w) ∷ es) (e ∷ insert_entry bytes_cmp es k w)) ≡ committed_bytes (e ∷ es) + bytes_in w) [
      | Less ↦ λ i. omega (arith)
      | Equal ↦ λ i. absurd (cc)
      | Greater ↦ λ i. let rest = sum-put es k w i in omega (arith, rest)
    ]) none

sum-out : (test : List ℕ → Bool) (es : Entries) → committed_bytes (remove_entry test es) + bytes_in (found (lookup test es)) ≡ committed_bytes es
sum-out test [] = refl
sum-out test (e ∷ es) =
    elim (test e.0) as (λ b. committed_bytes (cond b es (e ∷ remove_entry test es)) + bytes_in (found (cond b (Some e.1) (lookup test es))) ≡ committed_bytes (e ∷ es)) [
      | true ↦ omega (arith)
      | false ↦ let rest = sum-out test es in omega (arith, rest)
    ]

-- ---- no text is another

sum-at : (f : FileText → FileText) (name : List ℕ) (es : Entries) → ((s : FileText) → (f s).text ≡ s.text) → committed_bytes (at_slot f name es) ≡ committed_bytes es
sum-at f name es same =
    (elim (slot_in es name) as (λ o. slot_in es name ≡ o → committed_bytes (elim o [ None ↦ es | Some slot ↦ set_value (is_at (bytes_cmp name)) es (f slot) ]) ≡ committed_bytes es) [
      | None ↦ λ is. refl
      | Some slot ↦ λ is.
          let sum = sum-set (is_at (bytes_cmp name)) es slot (f slot) is in
          let text : bytes_in (f slot) ≡ bytes_in slot = ap (λ (t : Option Pieces). text_bytes (flat t)) (same slot) in
          omega (arith, sum, text)
    ]) refl

sum-put_slot : (f : FileText → FileText) (name : List ℕ) (es : Entries) → ((s : FileText) → (f s).text ≡ s.text) → committed_bytes (put_slot f name es) ≡ committed_bytes es
sum-put_slot f name es same =
    (elim (slot_in es name) as (λ o. slot_in es name ≡ o → committed_bytes (elim o [ None ↦ insert_entry bytes_cmp es name (f new_slot) | Some slot ↦ set_value (is_at (bytes_cmp name)) es (f slot) ]) ≡ committed_bytes es) [
      | None ↦ λ is.
          let sum = sum-put es name (f new_slot) is in
          let text : bytes_in (f new_slot) ≡ 0 = ap (λ (t : Option Pieces). text_bytes (flat t)) (same new_slot) in
          omega (arith, sum, text)
      | Some slot ↦ λ is.
          let sum = sum-set (is_at (bytes_cmp name)) es slot (f slot) is in
          let text : bytes_in (f slot) ≡ bytes_in slot = ap (λ (t : Option Pieces). text_bytes (flat t)) (same slot) in
          omega (arith, sum, text)
    ]) refl

sum-swept : (name : List ℕ) (es : Entries) → committed_bytes (swept name es) ≡ committed_bytes es
sum-swept name es =
    (elim (is_empty_slot (slot_or_new es name)) as (λ b. is_empty_slot (slot_or_new es name) ≡ b → committed_bytes (if b then remove_entry (is_at (bytes_cmp name)) es else es) ≡ committed_bytes es) [
      | true ↦ λ is.
          let sum = sum-out (is_at (bytes_cmp name)) es in
          let none : bytes_in (slot_or_new es name) ≡ 0 = ap bytes_in (empty_is_new (slot_or_new es name) is) in
          omega (arith, sum, none)
      | false ↦ λ is. refl
    ]) refl

-- ---- what is told stays so

keeps : (old new : Entries) (bytes : Option ℕ) → committed_bytes new ≡ committed_bytes old → IsCommitted old bytes → IsCommitted new bytes
keeps old new None same is = tt
keeps old new (Some n) same is = is ∙ sym same

module _ (tid : Tid) (name : List ℕ) (old new : Entries) (bytes : Option ℕ) (told : IsCommitted old bytes) where
  pub told_placed : new ≡ put_slot (placed tid) name old → IsCommitted new bytes
  told_placed is = keeps old new bytes (ap (λ (es : Entries). committed_bytes es) is ∙ sum-put_slot (placed tid) name old (λ s. text-placed tid s)) told

  pub told_read : new ≡ put_slot (slot_read tid) name old → IsCommitted new bytes
  told_read is = keeps old new bytes (ap (λ (es : Entries). committed_bytes es) is ∙ sum-put_slot (slot_read tid) name old (λ s. refl)) told

  pub told_tidied : new ≡ swept name (at_slot (tidied tid) name old) → IsCommitted new bytes
  told_tidied is = keeps old new bytes (ap (λ (es : Entries). committed_bytes es) is ∙ sum-swept name (at_slot (tidied tid) name old) ∙ sum-at (tidied tid) name old (λ s. text-tidied tid s)) told

  pub told_removed : is_empty_slot (slot_or_new old name) ≡ true → new ≡ remove_entry (is_at (bytes_cmp name)) old → IsCommitted new bytes
  told_removed empty is =
      let sum = sum-out (is_at (bytes_cmp name)) old in
      let none : bytes_in (slot_or_new old name) ≡ 0 = ap bytes_in (empty_is_new (slot_or_new old name) empty) in
      let all : committed_bytes new ≡ committed_bytes (remove_entry (is_at (bytes_cmp name)) old) = ap (λ (es : Entries). committed_bytes es) is in
      keeps old new bytes (omega (arith, sum, none, all)) told

  pub told_unread : new ≡ unread_name tid old name → IsCommitted new bytes
  told_unread is = keeps old new bytes (ap (λ (es : Entries). committed_bytes es) is ∙ sum-swept name (at_slot (slot_unread tid) name old) ∙ sum-at (slot_unread tid) name old (λ s. refl)) told

pub told_changed : (tid : Tid) (p : Prepared) (old new : Entries) (bytes : Option ℕ) → IsCommitted old bytes → new ≡ change_by tid old p → IsCommitted new bytes
told_changed tid p old new bytes told is = keeps old new bytes (ap (λ (es : Entries). committed_bytes es) is ∙ sum-at (slot_changed tid p.change) p.name old (λ s. text-changed tid p.change s)) told

-- whatever the result
pub by_result : {T E A B C : Type 0} (r : Result T E) → OnOk r A → OnErr r B → (A → C) → (B → C) → C
by_result (Ok v) a b f g = f a
by_result (Err e) a b f g = g b

pub told_same : (old new : Entries) (bytes : Option ℕ) → IsCommitted old bytes → new ≡ old → IsCommitted new bytes
told_same old new bytes told is = keeps old new bytes (ap (λ (es : Entries). committed_bytes es) is) told

-- a text is another
pub told_set : (test : List ℕ → Bool) (es : Entries) (s w : FileText) (sum before after r : Option ℕ) → lookup test es ≡ Some s → IfSome before (λ n. n ≡ text_bytes (text_at s)) → IfSome after (λ n. n ≡ text_bytes (text_at w))
    → IfSome r (IsReplacedSum sum before after) → IsCommitted es sum → IsCommitted (set_value test es w) r
told_set test es s w sum before after None is b a moved told = tt
told_set test es s w None before after (Some n) is b a moved told = absurd moved
told_set test es s w (Some m) None after (Some n) is b a moved told = absurd moved
told_set test es s w (Some m) (Some x) None (Some n) is b a moved told = absurd moved
told_set test es s w (Some m) (Some x) (Some y) (Some n) is b a moved told = let all = sum-set test es s w is in omega (arith, all, b, a, moved, told)
