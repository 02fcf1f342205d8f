-- Which bytes spell a field. Each case goes by the bytes, and names neither the reader nor the writer.
use Rattle.std.specs.Prelude.{◌≡◌, ℕ, ◌+◌, ◌*◌, ◌^◌, ◌<◌, ◌≤◌, List, [], ◌∷◌, ◌++◌, length, All}
use Rattle.qs_base.specs.Printable.{IsPrintable}

-- a field: one byte, four bytes, eight bytes, eight bytes of a number below 2^62, or a text
pub data Field : Type 0 where
  Byte : ℕ → Field
  Word : ℕ → Field
  Long : ℕ → Field
  Number : ℕ → Field
  Text : List ℕ → Field

-- a byte
abbrev pub IsByte : ℕ → Type 0
IsByte b = b < 256

-- the number that bytes stand for, the highest first
abbrev pub big_endian : List ℕ → ℕ
big_endian [] = 0
big_endian (b ∷ bytes) = b * 256 ^ length bytes + big_endian bytes

-- so many bytes, the highest first, stand for the number
pub record IsBigEndian (width number : ℕ) (bytes : List ℕ) : Type 0 where
  pub wide : length bytes ≡ width
  pub each : All IsByte bytes
  pub value : number ≡ big_endian bytes

-- four bytes of the text's length, and then the text
pub record IsText (text bytes : List ℕ) : Type 0 where
  pub head : List ℕ
  pub counts : IsBigEndian 4 (length text) head
  pub each : All IsPrintable text
  pub whole : bytes ≡ head ++ text

-- the bytes spell the field
abbrev pub Spells : Field → List ℕ → Type 0
Spells (Byte n) bytes = IsBigEndian 1 n bytes
Spells (Word n) bytes = IsBigEndian 4 n bytes
Spells (Long n) bytes = IsBigEndian 8 n bytes
Spells (Number n) bytes = IsBigEndian 8 n bytes × (n < 2 ^ 62)
Spells (Text text) bytes = IsText text bytes

-- two fields are of one kind
abbrev pub IsSameKind : Field → Field → Type 0
IsSameKind (Byte m) (Byte n) = Unit {0}
IsSameKind (Word m) (Word n) = Unit {0}
IsSameKind (Long m) (Long n) = Unit {0}
IsSameKind (Number m) (Number n) = Unit {0}
IsSameKind (Text s) (Text t) = Unit {0}
IsSameKind f g = ⊥
