-- What was written, as it is read again.
use Rattle.std.proofs.Common.{◌≡◌, ◌≤◌, ◌<◌, ◌+◌, ◌^◌, ◌%◌, ℕ, List, [], ◌++◌, length, drop, Result, Ok, Err, OnOk, refl, ap, ◌∙◌, sym, append_assoc, append-nil, length-append, arith}
use Rattle.std.proofs.Math.Seq.{drop-append_seam}
use Rattle.std.proofs.Math.Nat.{mod-lt}
use Rattle.std.proofs.lemmas.List.Elements.{All-from_recursion}
use Rattle.std.proofs.lemmas.Nat.{from_be_bytes-to_be_bytes_8}
use Rattle.std.specs.Int.{w8, w32, w64, to_be_bytes}
use Rattle.qs_codec.specs.declared.fault.CodecFault.{CodecFault}
use Rattle.qs_codec.specs.Grammar.{Field, Byte, Word, Long, Number, Text, IsByte, IsBigEndian}
use Rattle.qs_codec.specs.Reading.{Reading, reading_after, IsNext, reading_at, integer_at, number_at, text_at}
use Rattle.qs_codec.specs.Writing.{Appends}
use Rattle.qs_codec.proofs.GrammarLemmas.{wide64}
use Rattle.qs_codec.proofs.ReadingLemmas.{next_byte, next_word, next_long, next_number, next_text}

-- eight bytes that std makes of a number spell it
long_spelled : (n : ℕ) → n < 2 ^ 64 → IsBigEndian 8 n (to_be_bytes w64 n)
long_spelled n fits = record {
  wide = refl;
  each = All-from_recursion IsByte (to_be_bytes w64 n) (low _, (low _, (low _, (low _, (low _, (low _, (low _, (low _, tt))))))));
  value = sym (from_be_bytes-to_be_bytes_8 n fits) ∙ wide64.same (to_be_bytes w64 n) refl;
}
  where
    low : (m : ℕ) → m % 256 < 256
    low m = mod-lt m (omega arith)

-- a number below 2^62 that was added in eight bytes is one of the smaller kind
pub number_written : {A E : Type 0} (result : Result A E) (n : ℕ) (bytes old new : List ℕ) → n < 2 ^ 64 → bytes ≡ to_be_bytes w64 n → OnOk result (new ≡ old ++ (bytes ++ []))
    → OnOk result (n < 2 ^ 62 → Appends (Number n) old new)
number_written (Ok x) n bytes old new fits is added = λ below. record {
  part = bytes ++ [];
  spelled = (rw (append-nil, is) (long_spelled n fits), below);
  added = added;
}
number_written (Err e) n bytes old new fits is added = tt

-- a field that was added is next at the place where it was added
pub written_next : (field : Field) (old new rest : List ℕ) → Appends field old new → IsNext field (reading_at (new ++ rest) (length old))
written_next field old new rest wrote = record {
  part = wrote.part;
  rest = rest;
  spelled = wrote.spelled;
  whole = ap (λ (xs : List ℕ). drop (length old) (xs ++ rest)) wrote.added
      ∙ ap (drop (length old)) (append_assoc old wrote.part rest) ∙ drop-append_seam old (wrote.part ++ rest);
}

-- an answer at the end of what was added
read_to_end : {A : Type 0} (answer : Result (A × Reading) CodecFault) (x : A) (old new part rest : List ℕ) (n : ℕ) → new ≡ old ++ part → length part ≡ n
    → answer ≡ Ok (x, reading_after (reading_at (new ++ rest) (length old)) n) → answer ≡ Ok (x, reading_at (new ++ rest) (length new))
read_to_end {A} answer x old new part rest n added width read =
    let place : length old + n ≡ length new = rw (added, ← width) (omega (arith, length-append old part)) in
    read ∙ ap (λ (at : ℕ). Ok (x, reading_at (new ++ rest) at)) place

pub byte_back : (n : ℕ) (old new rest : List ℕ) → Appends (Byte n) old new
    → integer_at w8 (reading_at (new ++ rest) (length old)) ≡ Ok (n, reading_at (new ++ rest) (length new))
byte_back n old new rest wrote =
    read_to_end _ n old new wrote.part rest 1 wrote.added wrote.spelled.wide (next_byte n _ (written_next (Byte n) old new rest wrote))

pub word_back : (n : ℕ) (old new rest : List ℕ) → Appends (Word n) old new
    → integer_at w32 (reading_at (new ++ rest) (length old)) ≡ Ok (n, reading_at (new ++ rest) (length new))
word_back n old new rest wrote =
    read_to_end _ n old new wrote.part rest 4 wrote.added wrote.spelled.wide (next_word n _ (written_next (Word n) old new rest wrote))

pub long_back : (n : ℕ) (old new rest : List ℕ) → Appends (Long n) old new
    → integer_at w64 (reading_at (new ++ rest) (length old)) ≡ Ok (n, reading_at (new ++ rest) (length new))
long_back n old new rest wrote =
    read_to_end _ n old new wrote.part rest 8 wrote.added wrote.spelled.wide (next_long n _ (written_next (Long n) old new rest wrote))

pub number_back : (n : ℕ) (old new rest : List ℕ) → Appends (Number n) old new
    → number_at (reading_at (new ++ rest) (length old)) ≡ Ok (n, reading_at (new ++ rest) (length new))
number_back n old new rest wrote =
    read_to_end _ n old new wrote.part rest 8 wrote.added wrote.spelled.0.wide (next_number n _ (written_next (Number n) old new rest wrote))

pub text_back : (max : ℕ) (text old new rest : List ℕ) → length text ≤ max → Appends (Text text) old new
    → text_at max (reading_at (new ++ rest) (length old)) ≡ Ok (text, reading_at (new ++ rest) (length new))
text_back max text old new rest fits wrote =
    let spelled = wrote.spelled in
    let width : length wrote.part ≡ 4 + length text = rw spelled.whole (omega (arith, length-append spelled.head text, spelled.counts.wide)) in
    read_to_end _ text old new wrote.part rest (4 + length text) wrote.added width (next_text max text _ fits (written_next (Text text) old new rest wrote))
