-- What stands behind the gate of a slot.
use Rattle.std.specs.Prelude.{◌≡◌, ◌+◌, ◌⊎◌, ℕ, Bool, List, [], ◌∷◌, length, if◌then◌else◌}
use Rattle.sha2.specs.Sha256.{sha256}
use Rattle.qs_codec.specs.Grammar.{big_endian}
use Rattle.qs_disk.specs.Disk.{range, with_range, Torn}
use Rattle.qs_slot.specs.declared.value.SlotValue.{SlotValue}

-- a sequence, a value, and their digest
pub record IsBody (sequence : ℕ) (value : SlotValue) (body : List ℕ) : Type 0 where
  pub as_long : length body ≡ 56
  pub sequence_says : big_endian (range 0 8 body) ≡ sequence
  pub format_says : big_endian (range 8 4 body) ≡ value.format
  pub inc_says : big_endian (range 12 8 body) ≡ value.inc
  pub generation_says : big_endian (range 20 4 body) ≡ value.generation
  pub digest_is : range 24 32 body ≡ sha256 (range 0 24 body)

-- what is written to close a gate: nothing where it is closed
abbrev pub closing_bytes : Bool → List ℕ
closing_bytes is_open = if is_open then 0 ∷ [] else []

-- the bytes once a slot's gate is closed and its body written
abbrev pub staged : ℕ → List ℕ → List ℕ → List ℕ → List ℕ
staged place closing body content = with_range (with_range content place closing) (place + 1) body

-- and once its gate is open again
abbrev pub opened_gate : ℕ → List ℕ → List ℕ → List ℕ → List ℕ
opened_gate place closing body content = with_range (staged place closing body content) place (1 ∷ [])

-- before a slot's gate is opened: it is as it was, or its gate is closed, or its body is written too
abbrev pub IsStaging : ℕ → List ℕ → List ℕ → List ℕ → List ℕ → Type 0
IsStaging place closing body content c = (c ≡ content) ⊎ ((c ≡ with_range content place closing) ⊎ (c ≡ staged place closing body content))

-- while a slot is written: its gate is being closed, or its body is being written, or its gate is being opened
abbrev pub IsWriting : ℕ → List ℕ → List ℕ → List ℕ → List ℕ → Type 0
IsWriting place closing body content c =
    Torn place (length closing) content c
    ⊎ (Torn (place + 1) (length body) (with_range content place closing) c ⊎ Torn place 1 (staged place closing body content) c)
