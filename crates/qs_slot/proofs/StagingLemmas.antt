-- What slots say before the gate of a new value is opened.
use Rattle.std.proofs.Common.{◌≡◌, ◌^◌, inl, inr, ℕ, false, List, Result, Ok, Err, OnErr, refl, sym, ◌∙◌, subst}
use Rattle.qs_disk.specs.Disk.{Frame, MayLeave, Torn, with_range}
use Rattle.qs_slot.specs.declared.value.SlotValue.{SlotValue}
use Rattle.qs_slot.specs.Body.{closing_bytes, staged, IsStaging}
use Rattle.qs_slot.specs.Slot.{is_open}
use Rattle.qs_slot.specs.Turning.{SlotsValue, HoldsSlots, SaysAsBefore}
use Rattle.qs_slot.proofs.PairLemmas.{IsPlace}
use Rattle.qs_slot.proofs.TurningLemmas.{IsTurn, Writes, writes, plain_turn, says_old, behind_same}

-- a slot whose gate is closed
shut_says : (slots : SlotsValue) (content c : List ℕ) → HoldsSlots slots content → IsPlace slots.present.next → Torn slots.present.next 57 content c → is_open slots.present.next c ≡ false
    → SaysAsBefore content c
shut_says slots content c holds at_place torn shut = record {
  says = says_old (2 ^ 62) slots.present content c holds.say torn (inr shut) ∙ sym holds.say;
  behind = behind_same slots.present.next content c at_place torn;
}

staging_says : (slots : SlotsValue) (v : SlotValue) (content body c : List ℕ) → IsTurn slots v content slots.present.next (closing_bytes slots.next_open) body
    → IsStaging slots.present.next (closing_bytes slots.next_open) body content c → SaysAsBefore content c
staging_says slots v content body c t staging =
    let w : Writes slots content body = writes slots content body t.holds t.room t.body_is.as_long in
    elim staging [
      | inl same ↦ subst (SaysAsBefore content) (sym same) (record { says = refl; behind = refl })
      | inr later ↦ elim later [
        | inl closed ↦ subst (SaysAsBefore content) (sym closed)
            (shut_says slots content (with_range content slots.present.next (closing_bytes slots.next_open)) t.holds w.at_place w.closing_torn w.shut)
        | inr ready ↦ subst (SaysAsBefore content) (sym ready)
            (shut_says slots content (staged slots.present.next (closing_bytes slots.next_open) body content) t.holds w.at_place w.staged_torn w.staged_shut)
      ]
    ]

turned_back : (slots : SlotsValue) (v : SlotValue) (place : ℕ) (closing body content : List ℕ) (f : Frame) → IsTurn slots v content place closing body
    → MayLeave (IsStaging place closing body content) f → MayLeave (SaysAsBefore content) f
turned_back slots v place closing body content f t may = record {
  bytes = may.bytes;
  image = may.image;
  has = staging_says slots v content body may.bytes (plain_turn slots v place closing body content t)
      (subst (λ (at : ℕ). IsStaging at (closing_bytes slots.next_open) body content may.bytes) t.place_is
      (subst (λ (bytes : List ℕ). IsStaging place bytes body content may.bytes) t.closing_is may.has));
}

-- where a turn fails a power cut may still leave slots that say what they said
pub unturned : {T E : Type 0} (slots : SlotsValue) (v : SlotValue) (place : ℕ) (closing body content : List ℕ) (f : Frame) (result : Result T E) → IsTurn slots v content place closing body
    → MayLeave (IsStaging place closing body content) f → OnErr result (MayLeave (SaysAsBefore content) f)
unturned slots v place closing body content f (Ok x) t may = tt
unturned slots v place closing body content f (Err e) t may = turned_back slots v place closing body content f t may
