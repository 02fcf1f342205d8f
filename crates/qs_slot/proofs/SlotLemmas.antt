-- What the bytes of a slot say, and what two slots say together.
use Rattle.std.proofs.Common.{◌≡◌, ◌≤◌, ◌<◌, ◌+◌, ◌⊎◌, inl, inr, ℕ, Bool, true, false, cond, ◌&&◌, ◌==◌, nat_lt, List, length, Result, Ok, refl, sym, ◌∙◌, ap, arith}
use Rattle.std.proofs.lemmas.Bool.{lt-ltb, ltb-true, and_parts}
use Rattle.std.proofs.lemmas.List.{take_all}
use Rattle.sha2.specs.Sha256.{sha256}
use Rattle.qs_base.specs.Order.{same_bytes}
use Rattle.qs_codec.specs.Grammar.{big_endian}
use Rattle.qs_disk.specs.Disk.{range}
use Rattle.qs_slot.specs.declared.value.SlotValue.{SlotValue}
use Rattle.qs_slot.specs.Slot.{is_open, is_format, fields_in, sequence_in, value_in, is_sound, Slot, Closed, Good, Bad, slot_in, Present, together, slots_in}
use Rattle.qs_slot.specs.Opening.{opened}
use Rattle.qs_slot.proofs.Ranges.{same_within, same_get}

-- ---- one slot

-- a slot by its tests and by what it says
abbrev pub slot_by : Bool → Bool → ℕ → SlotValue → Slot
slot_by gate sound n v = cond gate (cond sound (Good n v) Bad) Closed

closed_gate : (gate sound : Bool) (n : ℕ) (v : SlotValue) → slot_by gate sound n v ≡ Closed → gate ≡ false
closed_gate false sound n v e = refl
closed_gate true true n v e = absurd cc
closed_gate true false n v e = absurd cc

opened_gate : (gate sound : Bool) (n : ℕ) (v : SlotValue) → opened (slot_by gate sound n v) ≡ gate
opened_gate false sound n v = refl
opened_gate true true n v = refl
opened_gate true false n v = refl

-- the gate of a slot
pub opened_in : (limit place : ℕ) (bytes : List ℕ) → opened (slot_in limit place bytes) ≡ is_open place bytes
opened_in limit place bytes = opened_gate (is_open place bytes) (is_sound limit place bytes) (sequence_in place bytes) (value_in place bytes)

pub closed_in : (limit place : ℕ) (bytes : List ℕ) → is_open place bytes ≡ false → slot_in limit place bytes ≡ Closed
closed_in limit place bytes shut = ap (λ (gate : Bool). slot_by gate (is_sound limit place bytes) (sequence_in place bytes) (value_in place bytes)) shut

-- what is behind the gate, at one place and at another
record SameBehind (p q : ℕ) (xs ys : List ℕ) : Type 0 where
  pub sequence : range (p + 1) 8 xs ≡ range (q + 1) 8 ys
  pub format : range (p + 9) 4 xs ≡ range (q + 9) 4 ys
  pub inc : range (p + 13) 8 xs ≡ range (q + 13) 8 ys
  pub generation : range (p + 21) 4 xs ≡ range (q + 21) 4 ys
  pub fields : range (p + 1) 24 xs ≡ range (q + 1) 24 ys
  pub digest : range (p + 25) 32 xs ≡ range (q + 25) 32 ys

same_part : (p q i k m n : ℕ) (xs ys : List ℕ) → range (p + 1) 56 xs ≡ range (q + 1) 56 ys → i + k ≤ 56 → p + 1 + i ≡ m → q + 1 + i ≡ n → range m k xs ≡ range n k ys
same_part p q i k m n xs ys e fits here there =
    ap (λ (at : ℕ). range at k xs) (sym here) ∙ same_within (p + 1) (q + 1) 56 i k xs ys fits e ∙ ap (λ (at : ℕ). range at k ys) there

same_behind : (p q : ℕ) (xs ys : List ℕ) → range (p + 1) 56 xs ≡ range (q + 1) 56 ys → SameBehind p q xs ys
same_behind p q xs ys e = record {
  sequence = same_part p q 0 8 (p + 1) (q + 1) xs ys e (omega arith) (omega arith) (omega arith);
  format = same_part p q 8 4 (p + 9) (q + 9) xs ys e (omega arith) (omega arith) (omega arith);
  inc = same_part p q 12 8 (p + 13) (q + 13) xs ys e (omega arith) (omega arith) (omega arith);
  generation = same_part p q 20 4 (p + 21) (q + 21) xs ys e (omega arith) (omega arith) (omega arith);
  fields = same_part p q 0 24 (p + 1) (q + 1) xs ys e (omega arith) (omega arith) (omega arith);
  digest = same_part p q 24 32 (p + 25) (q + 25) xs ys e (omega arith) (omega arith) (omega arith);
}

-- a value by its bytes
abbrev pub value_by : List ℕ → List ℕ → List ℕ → SlotValue
value_by format inc generation = record { format = big_endian format; inc = big_endian inc; generation = big_endian generation }

value_in-same : (p q : ℕ) (xs ys : List ℕ) → SameBehind p q xs ys → value_in p xs ≡ value_in q ys
value_in-same p q xs ys s =
    ap (λ (part : List ℕ). value_by part (range (p + 13) 8 xs) (range (p + 21) 4 xs)) s.format
    ∙ ap (λ (part : List ℕ). value_by (range (q + 9) 4 ys) part (range (p + 21) 4 xs)) s.inc
    ∙ ap (λ (part : List ℕ). value_by (range (q + 9) 4 ys) (range (q + 13) 8 ys) part) s.generation

-- a slot is sound by what it says
abbrev pub sound_by : ℕ → ℕ → SlotValue → List ℕ → List ℕ → Bool
sound_by limit n v fields digest = nat_lt n limit && (nat_lt v.inc limit && (is_format v.format && same_bytes digest (sha256 fields)))

is_sound-same : (limit p q : ℕ) (xs ys : List ℕ) → SameBehind p q xs ys → is_sound limit p xs ≡ is_sound limit q ys
is_sound-same limit p q xs ys s =
    ap (λ (part : List ℕ). sound_by limit (big_endian part) (value_in p xs) (fields_in p xs) (range (p + 25) 32 xs)) s.sequence
    ∙ ap (λ (v : SlotValue). sound_by limit (sequence_in q ys) v (fields_in p xs) (range (p + 25) 32 xs)) (value_in-same p q xs ys s)
    ∙ ap (λ (part : List ℕ). sound_by limit (sequence_in q ys) (value_in q ys) part (range (p + 25) 32 xs)) s.fields
    ∙ ap (λ (part : List ℕ). sound_by limit (sequence_in q ys) (value_in q ys) (fields_in q ys) part) s.digest

-- a slot goes by its gate and the 56 bytes behind it, wherever it stands
pub slot_in-same : (limit p q : ℕ) (xs ys : List ℕ) → is_open p xs ≡ is_open q ys → range (p + 1) 56 xs ≡ range (q + 1) 56 ys → slot_in limit p xs ≡ slot_in limit q ys
slot_in-same limit p q xs ys gate e =
    let s : SameBehind p q xs ys = same_behind p q xs ys e in
    ap (λ (open_now : Bool). slot_by open_now (is_sound limit p xs) (sequence_in p xs) (value_in p xs)) gate
    ∙ ap (λ (sound : Bool). slot_by (is_open q ys) sound (sequence_in p xs) (value_in p xs)) (is_sound-same limit p q xs ys s)
    ∙ ap (λ (part : List ℕ). slot_by (is_open q ys) (is_sound limit q ys) (big_endian part) (value_in p xs)) s.sequence
    ∙ ap (λ (v : SlotValue). slot_by (is_open q ys) (is_sound limit q ys) (sequence_in q ys) v) (value_in-same p q xs ys s)

-- so by its 57 bytes
pub slot_in-range : (limit p q : ℕ) (xs ys : List ℕ) → range p 57 xs ≡ range q 57 ys → slot_in limit p xs ≡ slot_in limit q ys
slot_in-range limit p q xs ys e =
    slot_in-same limit p q xs ys (ap (λ (b : ℕ). b == 1) (same_get p q xs ys (first e))) (same_within p q 57 1 56 xs ys (omega arith) e)
  where
    first : range p 57 xs ≡ range q 57 ys → range p 1 xs ≡ range q 1 ys
    first e =
        let here : p + 0 ≡ p = omega arith in
        let there : q + 0 ≡ q = omega arith in
        ap (λ (at : ℕ). range at 1 xs) (sym here) ∙ same_within p q 57 0 1 xs ys (omega arith) e ∙ ap (λ (at : ℕ). range at 1 ys) there

-- a slot that was read into a list of its own
pub slot_in-read : (limit place : ℕ) (bytes content : List ℕ) → length bytes ≡ 57 → bytes ≡ range place (length bytes) content → slot_in limit 0 bytes ≡ slot_in limit place content
slot_in-read limit place bytes content long e =
    slot_in-range limit 0 place bytes content (whole ∙ e ∙ ap (λ (n : ℕ). range place n content) long)
  where
    whole : range 0 57 bytes ≡ bytes
    whole = take_all 57 bytes (omega arith)

-- ---- limits

below_big : (n limit big : ℕ) → limit ≤ big → nat_lt n limit ≡ true → nat_lt n big ≡ true
below_big n limit big grows e = let below : n < limit = ltb-true n limit e in lt-ltb n big (omega arith)

sound_below : (limit big n : ℕ) (v : SlotValue) (rest : Bool) → limit ≤ big → nat_lt n limit && (nat_lt v.inc limit && rest) ≡ true → nat_lt n big && (nat_lt v.inc big && rest) ≡ true
sound_below limit big n v rest grows e =
    let outer = and_parts _ _ e in
    let inner = and_parts _ _ outer.1 in
    rw (below_big n limit big grows outer.0, below_big v.inc limit big grows inner.0) inner.1

-- sound below a limit is sound below a greater one
pub is_sound-below : (limit big place : ℕ) (bytes : List ℕ) → limit ≤ big → is_sound limit place bytes ≡ true → is_sound big place bytes ≡ true
is_sound-below limit big place bytes grows e =
    sound_below limit big (sequence_in place bytes) (value_in place bytes)
    (is_format (value_in place bytes).format && same_bytes (range (place + 25) 32 bytes) (sha256 (fields_in place bytes))) grows e

by_below : (gate small large : Bool) (n : ℕ) (v : SlotValue) → (small ≡ true → large ≡ true) → (slot_by gate small n v ≡ slot_by gate large n v) ⊎ (slot_by gate small n v ≡ Bad)
by_below false small large n v grows = inl refl
by_below true false large n v grows = inr refl
by_below true true large n v grows = inl (rw (grows refl) refl)

pub slot_in-below : (limit big place : ℕ) (bytes : List ℕ) → limit ≤ big → (slot_in limit place bytes ≡ slot_in big place bytes) ⊎ (slot_in limit place bytes ≡ Bad)
slot_in-below limit big place bytes grows =
    by_below (is_open place bytes) (is_sound limit place bytes) (is_sound big place bytes) (sequence_in place bytes) (value_in place bytes)
    (is_sound-below limit big place bytes grows)

abbrev said : Present → Result Present ℕ
said p = Ok p

together-bad : (s : Slot) (p : Present) → together s Bad ≡ said p → ⊥
together-bad Closed p e = cc
together-bad (Good m v) p e = cc
together-bad Bad p e = cc

together-below : (s t big_s big_t : Slot) (p : Present) → (s ≡ big_s) ⊎ (s ≡ Bad) → (t ≡ big_t) ⊎ (t ≡ Bad) → together s t ≡ said p → together big_s big_t ≡ said p
together-below s t big_s big_t p (inl a) (inl b) e = rw (sym a, sym b) e
together-below s t big_s big_t p (inl a) (inr b) e = absurd (together-bad s p (rw b at e))
together-below s t big_s big_t p (inr a) b e = let bad : together Bad t ≡ said p = rw a at e in absurd cc

-- what slots say below a limit they say below a greater one
pub slots_in-below : (limit big : ℕ) (bytes : List ℕ) (p : Present) → limit ≤ big → slots_in limit bytes ≡ Ok p → slots_in big bytes ≡ Ok p
slots_in-below limit big bytes p grows e =
    together-below (slot_in limit 0 bytes) (slot_in limit 4096 bytes) (slot_in big 0 bytes) (slot_in big 4096 bytes) p
    (slot_in-below limit big 0 bytes grows) (slot_in-below limit big 4096 bytes grows) e
