-- A reader that goes on to the end of its bytes.
use Rattle.std.proofs.Common.{◌≡◌, ◌<◌, ◌+◌, ℕ, length, Bool, true, false, nat_lt, cond, Result, Ok, Err, is_ok, refl, ap, sym, ◌∙◌, length-append, arith}
use Rattle.std.proofs.lemmas.Bool.{ltb-true}
use Rattle.std.specs.Int.{w8}
use Rattle.qs_codec.specs.declared.fault.CodecFault.{CodecFault}
use Rattle.qs_codec.specs.declared.fault.CodecFault.TheVariants.{Short}
use Rattle.qs_codec.specs.Grammar.{Byte}
use Rattle.qs_codec.specs.Reading.{Reading, Reads, left_of, reading_after, number_ahead, integer_at, Gives}

-- the end of the bytes, where the place is one of them
abbrev pub end_of : Reading → ℕ
end_of r = r.at + length (left_of r)

-- a byte that was read leaves the end where it is, and one less is left
pub byte_read : (old new : Reading) (n : ℕ) → Reads (Byte n) old new → (end_of new ≡ end_of old) × (length (left_of new) < length (left_of old))
byte_read old new n r =
    let long : length (left_of old) ≡ 1 + length (left_of new) = ap length r.whole ∙ length-append r.part (left_of new) ∙ ap (λ (k : ℕ). k + length (left_of new)) r.spelled.wide in
    let place : new.at ≡ old.at + 1 = ap (λ (q : Reading). q.at) r.moved ∙ ap (λ (k : ℕ). old.at + k) r.spelled.wide in
    (omega (arith, long, place), omega (arith, long))

-- a test that failed
failed : {A : Type 0} (b : Bool) (fault other : CodecFault) (found : A) → cond b (Err fault) (Ok found) ≡ Err other → (b ≡ true) × (fault ≡ other)
failed true fault other found e = (refl, cc)
failed false fault other found e = absurd cc

-- where no byte is read, none is left
pub no_byte : (r : Reading) (fault : CodecFault) → integer_at w8 r ≡ Err fault → (fault ≡ Short r.at 1) × (length (left_of r) ≡ 0)
unfolding integer_at
no_byte r fault e =
    let test = failed (nat_lt (length (left_of r)) 1) (Short r.at 1) fault (number_ahead w8 r, reading_after r 1) e in
    let none : length (left_of r) < 1 = ltb-true _ _ test.0 in
    (sym test.1, omega (arith, none))

short_at_end : (r : Reading) → length (left_of r) ≡ 0 → integer_at w8 r ≡ Err (Short r.at 1)
unfolding integer_at
short_at_end r none = rw none refl

at_end : (result : Result ℕ CodecFault) (old new : Reading) → is_ok result ≡ false → Gives (λ (n : ℕ). n) result old new (integer_at w8 old)
    → (length (left_of old) ≡ 0) × (new ≡ old)
at_end (Ok n) old new failed gives = absurd cc
at_end (Err fault) old new failed gives = ((no_byte old fault gives.0).1, gives.1)

told_short : (result : Result ℕ CodecFault) (old new : Reading) → integer_at w8 old ≡ Err (Short old.at 1) → Gives (λ (n : ℕ). n) result old new (integer_at w8 old)
    → result ≡ Err (Short old.at 1)
told_short (Ok n) old new short gives = absurd cc
told_short (Err fault) old new short gives = let told : fault ≡ Short old.at 1 = (no_byte old fault gives.0).0 in ap Err told

-- once a read has failed, the next is short at the end
pub end_told : (first second : Result ℕ CodecFault) (r q s : Reading) → is_ok first ≡ false → Gives (λ (n : ℕ). n) first r q (integer_at w8 r)
    → Gives (λ (n : ℕ). n) second q s (integer_at w8 q) → second ≡ Err (Short (end_of r) 1)
end_told first second r q s failed a b =
    let ended = at_end first r q failed a in
    let none : length (left_of q) ≡ 0 = ap (λ (t : Reading). length (left_of t)) ended.1 ∙ ended.0 in
    let told : second ≡ Err (Short q.at 1) = told_short second q s (short_at_end q none) b in
    let place : q.at ≡ end_of r = ap (λ (t : Reading). t.at) ended.1 ∙ omega (arith, ended.0) in
    told ∙ ap (λ (at : ℕ). Err (Short at 1)) place
