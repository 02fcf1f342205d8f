-- Numbers read from eight bytes, and the bytes of a body.
use Rattle.std.proofs.Common.{◌≡◌, ◌≤◌, ◌<◌, ◌+◌, ◌^◌, ℕ, List, [], ◌∷◌, length, get_or, refl, sym, ◌∙◌, ap, arith}
use Rattle.std.proofs.lemmas.Nat.{from_be_bytes-to_be_bytes_4, from_be_bytes-to_be_bytes_8}
use Rattle.std.specs.Int.{w32, w64, from_be_bytes, to_be_bytes}
use Rattle.sha2.specs.Sha256.{sha256}
use Rattle.qs_codec.specs.Grammar.{big_endian}
use Rattle.qs_codec.proofs.GrammarLemmas.{wide32, wide64}
use Rattle.qs_disk.specs.Disk.{range, with_range}
use Rattle.qs_slot.specs.declared.value.SlotValue.{SlotValue}
use Rattle.qs_slot.specs.Body.{IsBody}
use Rattle.qs_slot.proofs.Ranges.{put_range, put_range_before, put_long}

eight : (part : List ℕ) → length part ≡ 8
    → get_or part 0 0 ∷ get_or part 1 0 ∷ get_or part 2 0 ∷ get_or part 3 0 ∷ get_or part 4 0 ∷ get_or part 5 0 ∷ get_or part 6 0 ∷ get_or part 7 0 ∷ [] ≡ part
eight [] long = absurd (omega (arith, long))
eight (a ∷ []) long = absurd (omega (arith, long))
eight (a ∷ b ∷ []) long = absurd (omega (arith, long))
eight (a ∷ b ∷ c ∷ []) long = absurd (omega (arith, long))
eight (a ∷ b ∷ c ∷ d ∷ []) long = absurd (omega (arith, long))
eight (a ∷ b ∷ c ∷ d ∷ e ∷ []) long = absurd (omega (arith, long))
eight (a ∷ b ∷ c ∷ d ∷ e ∷ f ∷ []) long = absurd (omega (arith, long))
eight (a ∷ b ∷ c ∷ d ∷ e ∷ f ∷ g ∷ []) long = absurd (omega (arith, long))
eight (a ∷ b ∷ c ∷ d ∷ e ∷ f ∷ g ∷ h ∷ []) long = refl
eight (a ∷ b ∷ c ∷ d ∷ e ∷ f ∷ g ∷ h ∷ i ∷ rest) long = absurd (omega (arith, long))

-- eight bytes, one by one, are the number that they stand for
pub long_of : (part : List ℕ) → length part ≡ 8
    → from_be_bytes w64 (get_or part 0 0 ∷ get_or part 1 0 ∷ get_or part 2 0 ∷ get_or part 3 0 ∷ get_or part 4 0 ∷ get_or part 5 0 ∷ get_or part 6 0 ∷ get_or part 7 0 ∷ []) ≡ big_endian part
long_of part long = ap (from_be_bytes w64) (eight part long) ∙ wide64.same part long

word_spelled : (n : ℕ) → n < 2 ^ 32 → big_endian (to_be_bytes w32 n) ≡ n
word_spelled n fits = sym (wide32.same (to_be_bytes w32 n) refl) ∙ from_be_bytes-to_be_bytes_4 n fits

long_spelled : (n : ℕ) → n < 2 ^ 64 → big_endian (to_be_bytes w64 n) ≡ n
long_spelled n fits = sym (wide64.same (to_be_bytes w64 n) refl) ∙ from_be_bytes-to_be_bytes_8 n fits

-- the fields of a body, put one after the other
record IsPut (sequence : ℕ) (v : SlotValue) (body : List ℕ) : Type 0 where
  pub as_long : length body ≡ 56
  pub sequence_says : range 0 8 body ≡ to_be_bytes w64 sequence
  pub format_says : range 8 4 body ≡ to_be_bytes w32 v.format
  pub inc_says : range 12 8 body ≡ to_be_bytes w64 v.inc
  pub generation_says : range 20 4 body ≡ to_be_bytes w32 v.generation

put : (sequence : ℕ) (v : SlotValue) (a : List ℕ) → length a ≡ 56
    → IsPut sequence v (with_range (with_range (with_range (with_range a 0 (to_be_bytes w64 sequence)) 8 (to_be_bytes w32 v.format)) 12 (to_be_bytes w64 v.inc)) 20 (to_be_bytes w32 v.generation))
put sequence v a long =
    let s : List ℕ = to_be_bytes w64 sequence in
    let f : List ℕ = to_be_bytes w32 v.format in
    let i : List ℕ = to_be_bytes w64 v.inc in
    let g : List ℕ = to_be_bytes w32 v.generation in
    let b : List ℕ = with_range a 0 s in
    let c : List ℕ = with_range b 8 f in
    let d : List ℕ = with_range c 12 i in
    let b_long : length b ≡ 56 = put_long 0 a s (omega arith) ∙ long in
    let c_long : length c ≡ 56 = put_long 8 b f (omega arith) ∙ b_long in
    let d_long : length d ≡ 56 = put_long 12 c i (omega arith) ∙ c_long in
    record {
      as_long = put_long 20 d g (omega arith) ∙ d_long;
      sequence_says =
          put_range_before 20 0 8 d g (omega arith) (omega arith) ∙ put_range_before 12 0 8 c i (omega arith) (omega arith)
          ∙ put_range_before 8 0 8 b f (omega arith) (omega arith) ∙ put_range 0 a s (omega arith);
      format_says =
          put_range_before 20 8 4 d g (omega arith) (omega arith) ∙ put_range_before 12 8 4 c i (omega arith) (omega arith) ∙ put_range 8 b f (omega arith);
      inc_says = put_range_before 20 12 8 d g (omega arith) (omega arith) ∙ put_range 12 c i (omega arith);
      generation_says = put_range 20 d g (omega arith);
    }

-- and the digest behind them
digested : (sequence : ℕ) (v : SlotValue) (body digest : List ℕ) → sequence < 2 ^ 64 → v.format < 2 ^ 32 → v.inc < 2 ^ 64 → v.generation < 2 ^ 32
    → IsPut sequence v body → length digest ≡ 32 → digest ≡ sha256 (range 0 24 body) → IsBody sequence v (with_range body 24 digest)
digested sequence v body digest sequence_fits format_fits inc_fits generation_fits p long is_digest =
    let room : 24 + length digest ≤ length body = omega (arith, long, p.as_long) in
    record {
      as_long = put_long 24 body digest room ∙ p.as_long;
      sequence_says = ap big_endian (put_range_before 24 0 8 body digest room (omega arith) ∙ p.sequence_says) ∙ long_spelled sequence sequence_fits;
      format_says = ap big_endian (put_range_before 24 8 4 body digest room (omega arith) ∙ p.format_says) ∙ word_spelled v.format format_fits;
      inc_says = ap big_endian (put_range_before 24 12 8 body digest room (omega arith) ∙ p.inc_says) ∙ long_spelled v.inc inc_fits;
      generation_says = ap big_endian (put_range_before 24 20 4 body digest room (omega arith) ∙ p.generation_says) ∙ word_spelled v.generation generation_fits;
      digest_is =
          ap (λ (n : ℕ). range 24 n (with_range body 24 digest)) (sym long) ∙ put_range 24 body digest room ∙ is_digest
          ∙ ap sha256 (sym (put_range_before 24 0 24 body digest room (omega arith)));
    }

-- a body as it is put together
pub body_is : (sequence : ℕ) (v : SlotValue) (a digest : List ℕ) → sequence < 2 ^ 64 → v.format < 2 ^ 32 → v.inc < 2 ^ 64 → v.generation < 2 ^ 32 → length a ≡ 56 → length digest ≡ 32
    → (b c d body whole : List ℕ) → b ≡ with_range a 0 (to_be_bytes w64 sequence) → c ≡ with_range b 8 (to_be_bytes w32 v.format) → d ≡ with_range c 12 (to_be_bytes w64 v.inc)
    → body ≡ with_range d 20 (to_be_bytes w32 v.generation) → digest ≡ sha256 (range 0 24 body) → whole ≡ with_range body 24 digest → IsBody sequence v whole
body_is sequence v a digest sequence_fits format_fits inc_fits generation_fits long digest_long b c d body whole b_is c_is d_is body_put digest_is whole_is =
    rw whole_is (digested sequence v body digest sequence_fits format_fits inc_fits generation_fits
    (rw (body_put, d_is, c_is, b_is) (put sequence v a long)) digest_long digest_is)
