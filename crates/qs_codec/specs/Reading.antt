-- What a reader of fields does.
use Rattle.std.specs.Prelude.{◌≡◌, ℕ, ◌+◌, ◌^◌, List, ◌++◌, length, take, drop, Bool, not, nat_lt, nat_le, ◌&&◌, if◌then◌else◌, Option, None, Some, position, Result, Ok, Err}
use Rattle.std.specs.Int.{Width, w32, w64, byte_len, from_be_bytes}
use Rattle.qs_codec.specs.declared.fault.CodecFault.{CodecFault}
use Rattle.qs_codec.specs.declared.fault.CodecFault.TheVariants.{Short, TooLong, BadText, BadNumber}
use Rattle.qs_codec.specs.Grammar.{Field, Spells}

-- the bytes that a reader goes over, and the place where it stands
pub record Reading : Type 0 where
  pub bytes : List ℕ
  pub at : ℕ

-- what is left to read
abbrev pub left_of : Reading → List ℕ
left_of r = drop r.at r.bytes

-- the same reader, so many bytes further
abbrev pub reading_after : Reading → ℕ → Reading
reading_after r n = record { bytes = r.bytes; at = r.at + n }

-- a front of what is left spells the field
pub record IsNext (field : Field) (r : Reading) : Type 0 where
  pub part : List ℕ
  pub rest : List ℕ
  pub spelled : Spells field part
  pub whole : left_of r ≡ part ++ rest

-- a front of what was left spells the field, and just that front was taken
pub record Reads (field : Field) (old new : Reading) : Type 0 where
  pub part : List ℕ
  pub spelled : Spells field part
  pub whole : left_of old ≡ part ++ left_of new
  pub moved : new ≡ reading_after old (length part)

-- What a call gave is this answer, seen by view; after a fault the reader stands where it stood.
abbrev pub Gives : {X Y : Type 0} → (X → Y) → Result X CodecFault → Reading → Reading → Result (Y × Reading) CodecFault → Type 0
Gives view (Ok x) old new answer = answer ≡ Ok (view x, new)
Gives view (Err fault) old new answer = (answer ≡ Err fault) × (new ≡ old)

-- What a look at a place found is this answer, seen by view.
abbrev pub Finds : {X Y : Type 0} → (X → Y) → Result X CodecFault → Result Y CodecFault → Type 0
Finds view (Ok x) answer = answer ≡ Ok (view x)
Finds view (Err fault) answer = answer ≡ Err fault

-- a reader of these bytes at this place
abbrev pub reading_at : List ℕ → ℕ → Reading
reading_at bytes at = record { bytes = bytes; at = at }

-- the bytes ahead, as a number
abbrev pub number_ahead : Width → Reading → ℕ
number_ahead w r = from_be_bytes w (take (byte_len w) (left_of r))

-- a number of the width
unfoldable pub integer_at : Width → Reading → Result (ℕ × Reading) CodecFault
integer_at w r =
    if nat_lt (length (left_of r)) (byte_len w) then Err (Short r.at (byte_len w))
    else Ok (number_ahead w r, reading_after r (byte_len w))

-- eight bytes of a number below 2^62
unfoldable pub number_at : Reading → Result (ℕ × Reading) CodecFault
number_at r =
    if nat_lt (length (left_of r)) 8 then Err (Short r.at 8)
    else if nat_lt (number_ahead w64 r) (2 ^ 62) then Ok (number_ahead w64 r, reading_after r 8)
    else Err (BadNumber r.at)

-- not a character from the blank to the tilde
abbrev pub is_unprintable : ℕ → Bool
is_unprintable b = not (nat_le 32 b && nat_le b 126)

-- the text whose length is ahead
abbrev pub text_ahead : Reading → List ℕ
text_ahead r = take (number_ahead w32 r) (drop 4 (left_of r))

-- the text, or the place of its first byte that is no such character
abbrev pub checked_text : Reading → Option ℕ → Result (List ℕ × Reading) CodecFault
checked_text r (Some place) = Err (BadText (r.at + 4 + place))
checked_text r None = Ok (text_ahead r, reading_after r (4 + number_ahead w32 r))

-- a text of at most max bytes; of several faults the first from the left
unfoldable pub text_at : ℕ → Reading → Result (List ℕ × Reading) CodecFault
text_at max r =
    if nat_lt (length (left_of r)) 4 then Err (Short r.at 4)
    else if nat_lt max (number_ahead w32 r) then Err (TooLong r.at (number_ahead w32 r))
    else if nat_lt (length (left_of r)) (4 + number_ahead w32 r) then Err (Short (r.at + 4) (number_ahead w32 r))
    else checked_text r (position is_unprintable (text_ahead r))
