-- What the two header slots of a disk say. A slot is a gate byte, and then the sequence, the format, the
-- incarnation and the generation in 24 bytes, and their digest in 32. It counts where its gate is 1.
use Rattle.std.specs.Prelude.{◌≡◌, ℕ, ◌+◌, ◌==◌, Bool, List, get_or, nat_lt, ◌&&◌, if◌then◌else◌, Result, Ok, Err}
use Rattle.sha2.specs.Sha256.{sha256}
use Rattle.qs_base.specs.Order.{same_bytes}
use Rattle.qs_codec.specs.Grammar.{big_endian}
use Rattle.qs_disk.specs.Disk.{range}
use Rattle.qs_slot.specs.declared.value.SlotValue.{SlotValue}

-- the gate at a place is open
abbrev pub is_open : ℕ → List ℕ → Bool
is_open place bytes = get_or bytes place 0 == 1

-- the formats that are known
abbrev pub is_format : ℕ → Bool
is_format format = format == 1

-- the bytes between gate and digest
abbrev pub fields_in : ℕ → List ℕ → List ℕ
fields_in place bytes = range (place + 1) 24 bytes

abbrev pub sequence_in : ℕ → List ℕ → ℕ
sequence_in place bytes = big_endian (range (place + 1) 8 bytes)

abbrev pub value_in : ℕ → List ℕ → SlotValue
value_in place bytes = record {
  format = big_endian (range (place + 9) 4 bytes);
  inc = big_endian (range (place + 13) 8 bytes);
  generation = big_endian (range (place + 21) 4 bytes);
}

-- its numbers are below the limit, its format is known, and its digest is that of its fields
abbrev pub is_sound : ℕ → ℕ → List ℕ → Bool
is_sound limit place bytes =
    nat_lt (sequence_in place bytes) limit
    && (nat_lt (value_in place bytes).inc limit
    && (is_format (value_in place bytes).format
    && same_bytes (range (place + 25) 32 bytes) (sha256 (fields_in place bytes))))

-- a slot: closed, open with a sequence and a value, or damaged
pub data Slot : Type 0 where
  Closed : Slot
  Good : ℕ → SlotValue → Slot
  Bad : Slot

abbrev pub slot_in : ℕ → ℕ → List ℕ → Slot
slot_in limit place bytes =
    if is_open place bytes then (if is_sound limit place bytes then Good (sequence_in place bytes) (value_in place bytes) else Bad)
    else Closed

-- what the slots say together: the present sequence and value, and where the next value goes
pub record Present : Type 0 where
  pub sequence : ℕ
  pub value : SlotValue
  pub next : ℕ

-- slot 1 stands at 4,096
abbrev pub present_in : ℕ → SlotValue → ℕ → Present
present_in sequence value next = record { sequence = sequence; value = value; next = next }

-- with no open slot nothing was ever raised, and the next value goes to slot 0
abbrev pub fresh_value : SlotValue
fresh_value = record { format = 1; inc = 0; generation = 0 }

-- of two open slots the one with the greater sequence; damage is told at its place, slot 0 first
abbrev pub together : Slot → Slot → Result Present ℕ
together Bad t = Err 0
together Closed Closed = Ok (present_in 0 fresh_value 0)
together Closed (Good n w) = Ok (present_in n w 0)
together Closed Bad = Err 4096
together (Good m v) Closed = Ok (present_in m v 4096)
together (Good m v) (Good n w) =
    if m == n then Err 4096 else if nat_lt n m then Ok (present_in m v 4096) else Ok (present_in n w 0)
together (Good m v) Bad = Err 4096

-- what a disk's slots say, or the place of the damage
abbrev pub slots_in : ℕ → List ℕ → Result Present ℕ
slots_in limit bytes = together (slot_in limit 0 bytes) (slot_in limit 4096 bytes)

-- no slot is damaged, with each number below the limit
abbrev pub StandBelow : ℕ → List ℕ → Type 0
StandBelow limit bytes = (present : Present) × (slots_in limit bytes ≡ Ok present)

-- other bytes whose slots say the same, whatever the limit
abbrev pub SayTheSame : List ℕ → List ℕ → Type 0
SayTheSame old new = (limit : ℕ) → slots_in limit new ≡ slots_in limit old
