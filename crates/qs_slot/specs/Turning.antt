-- How a new value takes the place of the present one.
use Rattle.std.specs.Prelude.{◌≡◌, ◌⊎◌, ◌<◌, ℕ, ◌+◌, ◌==◌, ◌^◌, Bool, List, drop, if◌then◌else◌, Ok}
use Rattle.qs_slot.specs.Slot.{Present, present_in, slots_in, is_open}
use Rattle.qs_slot.specs.declared.value.SlotValue.{SlotValue}

-- the slot that does not stand at this place
abbrev pub other : ℕ → ℕ
other place = if place == 0 then 4096 else 0

-- slots as their holder sees them: what they say, whether the gate where the next value goes is open, and
-- whether the gate of the other slot is, which it is not where no value was ever written
pub record SlotsValue : Type 0 where
  pub present : Present
  pub next_open : Bool
  pub live_open : Bool

-- the bytes hold just these slots
pub record HoldsSlots (slots : SlotsValue) (bytes : List ℕ) : Type 0 where
  pub say : slots_in (2 ^ 62) bytes ≡ Ok slots.present
  pub gate : is_open slots.present.next bytes ≡ slots.next_open
  pub live : is_open (other slots.present.next) bytes ≡ slots.live_open

-- the next sequence, the new value, and the other slot for the one after it
abbrev pub turned : Present → SlotValue → Present
turned present value = present_in (present.sequence + 1) value (other present.next)

-- the slots say what they said, and what stands behind them is as it was
pub record SaysAsBefore (content c : List ℕ) : Type 0 where
  pub says : slots_in (2 ^ 62) c ≡ slots_in (2 ^ 62) content
  pub behind : drop 8192 c ≡ drop 8192 content

-- the slots say the old value or the new one, and what stands behind the slots is as it was; so they do under each limit that leaves room for the new
-- value
pub record IsOldOrNew (old : Present) (value : SlotValue) (content c : List ℕ) : Type 0 where
  pub says : (slots_in (2 ^ 62) c ≡ Ok old) ⊎ (slots_in (2 ^ 62) c ≡ Ok (turned old value))
  pub behind : drop 8192 c ≡ drop 8192 content
  pub below : (limit : ℕ) → slots_in limit content ≡ Ok old → old.sequence + 1 < limit → value.inc < limit
      → (slots_in limit c ≡ Ok old) ⊎ (slots_in limit c ≡ Ok (turned old value))
