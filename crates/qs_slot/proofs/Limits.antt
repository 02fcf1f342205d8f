-- Slots that are not damaged, with their numbers below a limit.
use Rattle.std.proofs.Common.{◌≡◌, ◌≤◌, ◌<◌, ◌^◌, ◌+◌, ◌∙◌, ℕ, Bool, true, false, nat_lt, ◌&&◌, List, Result, Ok, refl, sym, subst, inl, inr}
use Rattle.std.proofs.lemmas.Bool.{and_parts, ltb-true}
use Rattle.sha2.specs.Sha256.{sha256}
use Rattle.qs_base.specs.Order.{same_bytes}
use Rattle.qs_disk.specs.Disk.{range}
use Rattle.qs_slot.proofs.PairLemmas.{stands_in}
use Rattle.qs_slot.proofs.SlotLemmas.{slot_by, slots_in-below}
use Rattle.qs_slot.specs.Slot.{Good, Present, StandBelow, fields_in, is_format, is_open, is_sound, sequence_in, slot_in, slots_in, value_in}
use Rattle.qs_slot.specs.Turning.{other}
use Rattle.qs_slot.specs.declared.value.SlotValue.{SlotValue}

good_is : (gate sound : Bool) (n m : ℕ) (v w : SlotValue) → slot_by gate sound n v ≡ Good m w → (sound ≡ true) × ((n ≡ m) × (v ≡ w))
good_is true true n m v w e = (refl, (cc e, cc e))
good_is true false n m v w e = absurd (cc e)
good_is false sound n m v w e = absurd (cc e)

numbers_below : (limit n : ℕ) (v : SlotValue) (rest : Bool) → nat_lt n limit && (nat_lt v.inc limit && rest) ≡ true → (n < limit) × (v.inc < limit)
numbers_below limit n v rest e =
    let outer = and_parts _ _ e in
    let inner = and_parts _ _ outer.1 in
    (ltb-true n limit outer.0, ltb-true v.inc limit inner.0)

good_below : (limit place m : ℕ) (bytes : List ℕ) (w : SlotValue) → slot_in limit place bytes ≡ Good m w → (m < limit) × (w.inc < limit)
good_below limit place m bytes w e =
    let is = good_is (is_open place bytes) (is_sound limit place bytes) (sequence_in place bytes) m (value_in place bytes) w e in
    let low = numbers_below limit (sequence_in place bytes) (value_in place bytes)
    (is_format (value_in place bytes).format && same_bytes (range (place + 25) 32 bytes) (sha256 (fields_in place bytes))) is.0 in
    (subst (λ (n : ℕ). n < limit) is.1.0 low.0, subst (λ (v : SlotValue). v.inc < limit) is.1.1 low.1)

-- the present numbers are below the limit
pub present_below : (limit : ℕ) (bytes : List ℕ) (p : Present) → 0 < limit → slots_in limit bytes ≡ Ok p → (p.sequence < limit) × (p.value.inc < limit)
present_below limit bytes p some said = elim (stands_in limit p bytes said).1.holds [
  | inl good ↦ good_below limit (other p.next) p.sequence bytes p.value good
  | inr none ↦ (subst (λ (q : Present). q.sequence < limit) (sym none.1) some, subst (λ (q : Present). q.value.inc < limit) (sym none.1) some)
]

-- what slots say they say of one present value, whatever the limit
same_present : (a b : Present) → ◌≡◌ {A = Result Present ℕ} (Ok a) (Ok b) → a ≡ b
same_present a b e = cc e

pub one_present : (limit : ℕ) (bytes : List ℕ) (p q : Present) → limit ≤ 2 ^ 62 → slots_in limit bytes ≡ Ok p → slots_in (2 ^ 62) bytes ≡ Ok q → p ≡ q
one_present limit bytes p q low said all = same_present p q (sym (slots_in-below limit (2 ^ 62) bytes p low said) ∙ all)

-- and so under each greater one
pub stand_below : (limit big : ℕ) (bytes : List ℕ) → limit ≤ big → StandBelow limit bytes → StandBelow big bytes
stand_below limit big bytes low stand = (stand.0, slots_in-below limit big bytes stand.0 low stand.1)
