-- Slots as they are found on a disk.
use Rattle.std.specs.Prelude.{◌≡◌, ◌⊎◌, ◌<◌, ◌==◌, ℕ, Bool, true, false, if◌then◌else◌, ⊤}
use Rattle.qs_slot.specs.Slot.{Slot, Closed, Good, Bad, Present, is_format}
use Rattle.qs_slot.specs.declared.place.Place.{Place}
use Rattle.qs_slot.specs.declared.place.Place.TheVariants.{First, Second}
use Rattle.qs_slot.specs.declared.found.FoundSlot.{FoundSlot}
use Rattle.qs_slot.specs.declared.found.FoundSlot.TheVariants.{Shut, Whole, Broken}

-- where a place is
abbrev pub offset_of : Place → ℕ
offset_of First = 0
offset_of Second = 4096

-- the slot that was found
abbrev pub seen : FoundSlot → Slot
seen Shut = Closed
seen (Whole sequence value) = Good sequence value
seen Broken = Bad

-- the gate of a slot is open
abbrev pub opened : Slot → Bool
opened Closed = false
opened (Good n v) = true
opened Bad = true

-- of two slots the one at this place
abbrev pub slot_of_two : ℕ → Slot → Slot → Slot
slot_of_two place s t = if place == 0 then s else t

-- what is found on any disk: numbers below the limit, a known format, and one of the two places
pub record IsWithin (limit : ℕ) (present : Present) : Type 0 where
  pub sequence : (present.sequence < limit) ⊎ (present.sequence ≡ 0)
  pub inc : (present.value.inc < limit) ⊎ (present.value.inc ≡ 0)
  pub format : is_format present.value.format ≡ true
  pub next : (present.next ≡ 0) ⊎ (present.next ≡ 4096)

-- the same of a slot that was found
abbrev pub IsFoundWithin : ℕ → FoundSlot → Type 0
IsFoundWithin limit Shut = ⊤
IsFoundWithin limit (Whole sequence value) = (sequence < limit) × (value.inc < limit) × (is_format value.format ≡ true)
IsFoundWithin limit Broken = ⊤
