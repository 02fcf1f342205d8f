-- What two slots say together, seen from the one where the next value goes.
use Rattle.std.proofs.Common.{◌≡◌, ◌≤◌, ◌<◌, ◌+◌, ◌⊎◌, inl, inr, ℕ, Bool, true, false, cond, nat_eq, nat_lt, List, Result, Ok, Err, refl, sym, ◌∙◌, ap, subst, arith}
use Rattle.std.proofs.lemmas.Bool.{lt-ltb, ltb-true, ltb-false, le-ltb, eqb-false, ne_eqb}
use Rattle.qs_slot.specs.declared.value.SlotValue.{SlotValue}
use Rattle.qs_slot.specs.Slot.{Slot, Closed, Good, Bad, slot_in, Present, present_in, fresh_value, together, slots_in}
use Rattle.qs_slot.specs.Turning.{other, turned}
use Rattle.qs_slot.specs.Opening.{slot_of_two}

-- one of the two places
abbrev pub IsPlace : ℕ → Type 0
IsPlace place = (place ≡ 0) ⊎ (place ≡ 4096)

pub other_place : (place : ℕ) → IsPlace place → IsPlace (other place)
other_place place (inl e) = inr (rw e refl)
other_place place (inr e) = inl (rw e refl)

pub other_other : (place : ℕ) → IsPlace place → other (other place) ≡ place
other_other place (inl e) = rw e refl
other_other place (inr e) = rw e refl

-- closed, or of a lower sequence
abbrev pub IsBelow : Slot → ℕ → Type 0
IsBelow Closed n = Unit {0}
IsBelow (Good m v) n = m < n
IsBelow Bad n = ⊥

-- a slot that may be written over, and one that holds the present value; or no value was ever written
pub record Stands (present : Present) (next live : Slot) : Type 0 where
  pub below : IsBelow next present.sequence
  pub holds : (live ≡ Good present.sequence present.value) ⊎ ((live ≡ Closed) × (present ≡ present_in 0 fresh_value 0))

abbrev said : Present → Result Present ℕ
said p = Ok p

-- slots that say something stand so
abbrev StandsOfTwo : Slot → Slot → Present → Type 0
StandsOfTwo s t p = IsPlace p.next × Stands p (slot_of_two p.next s t) (slot_of_two (other p.next) s t)

said_is : (p q : Present) → said p ≡ said q → p ≡ q
said_is p q e = cc

good_pair : (m n : ℕ) (v w : SlotValue) (p : Present) (same lower : Bool) → nat_eq m n ≡ same → nat_lt n m ≡ lower
    → cond same (Err 4096) (cond lower (said (present_in m v 4096)) (said (present_in n w 0))) ≡ said p → StandsOfTwo (Good m v) (Good n w) p
good_pair m n v w p true lower is_same is_lower e = absurd cc
good_pair m n v w p false true is_same is_lower e =
    subst (StandsOfTwo (Good m v) (Good n w)) (said_is (present_in m v 4096) p e)
    (inr refl, record { below = ltb-true n m is_lower; holds = inl refl })
good_pair m n v w p false false is_same is_lower e =
    subst (StandsOfTwo (Good m v) (Good n w)) (said_is (present_in n w 0) p e)
    (inl refl, record { below = lower_of m n (ltb-false n m is_lower) (eqb-false m n is_same); holds = inl refl })
  where
    lower_of : (m n : ℕ) → m ≤ n → (m ≡ n → ⊥) → m < n
    lower_of m n le ne = omega arith

pub stands_of_two : (s t : Slot) (p : Present) → together s t ≡ Ok p → StandsOfTwo s t p
stands_of_two Bad t p e = absurd cc
stands_of_two Closed Closed p e =
    subst (StandsOfTwo Closed Closed) (said_is (present_in 0 fresh_value 0) p e) (inl refl, record { below = tt; holds = inr (refl, refl) })
stands_of_two Closed (Good n w) p e =
    subst (StandsOfTwo Closed (Good n w)) (said_is (present_in n w 0) p e) (inl refl, record { below = tt; holds = inl refl })
stands_of_two Closed Bad p e = absurd cc
stands_of_two (Good m v) Closed p e =
    subst (StandsOfTwo (Good m v) Closed) (said_is (present_in m v 4096) p e) (inr refl, record { below = tt; holds = inl refl })
stands_of_two (Good m v) (Good n w) p e = good_pair m n v w p (nat_eq m n) (nat_lt n m) refl refl e
stands_of_two (Good m v) Bad p e = absurd cc

-- and slots that stand so say it
together-greater : (m n : ℕ) (v w : SlotValue) → n < m → together (Good m v) (Good n w) ≡ Ok (present_in m v 4096)
together-greater m n v w lower =
    let apart : nat_eq m n ≡ false = ne_eqb m n (λ e. absurd (omega arith)) in
    let lower_test : nat_lt n m ≡ true = lt-ltb n m lower in
    rw (apart, lower_test) refl

together-lower : (m n : ℕ) (v w : SlotValue) → m < n → together (Good m v) (Good n w) ≡ Ok (present_in n w 0)
together-lower m n v w lower =
    let apart : nat_eq m n ≡ false = ne_eqb m n (λ e. absurd (omega arith)) in
    let lower_test : nat_lt n m ≡ false = le-ltb n m (omega arith) in
    rw (apart, lower_test) refl

say_first : (s t : Slot) (n : ℕ) (v : SlotValue) → IsBelow s n → t ≡ Good n v → together s t ≡ Ok (present_in n v 0)
say_first Closed t n v below e = rw e refl
say_first (Good m w) t n v below e = rw e (together-lower m n w v below)
say_first Bad t n v below e = absurd below

say_second : (s t : Slot) (n : ℕ) (v : SlotValue) → IsBelow t n → s ≡ Good n v → together s t ≡ Ok (present_in n v 4096)
say_second s Closed n v below e = rw e refl
say_second s (Good m w) n v below e = rw e (together-greater n m v w below)
say_second s Bad n v below e = absurd below

-- nothing is below 0 but a closed slot
closed_below : (s : Slot) (n : ℕ) → n ≡ 0 → IsBelow s n → s ≡ Closed
closed_below Closed n e below = refl
closed_below (Good m v) n e below = absurd (omega arith)
closed_below Bad n e below = absurd below

say_fresh : (s t : Slot) (p : Present) → p ≡ present_in 0 fresh_value 0 → IsBelow s p.sequence → t ≡ Closed → together s t ≡ Ok p
say_fresh s t p fresh below shut =
    rw (closed_below s p.sequence (ap (λ (q : Present). q.sequence) fresh) below, shut, fresh) refl

say_first_place : (s t : Slot) (p : Present) → p.next ≡ 0 → Stands p s t → together s t ≡ Ok p
say_first_place s t p e stands = elim stands.holds [
  | inl good ↦ say_first s t p.sequence p.value stands.below good ∙ ap (λ (next : ℕ). said (present_in p.sequence p.value next)) (sym e)
  | inr fresh ↦ say_fresh s t p fresh.1 stands.below fresh.0
]

say_second_place : (s t : Slot) (p : Present) → p.next ≡ 4096 → Stands p t s → together s t ≡ Ok p
say_second_place s t p e stands = elim stands.holds [
  | inl good ↦ say_second s t p.sequence p.value stands.below good ∙ ap (λ (next : ℕ). said (present_in p.sequence p.value next)) (sym e)
  | inr fresh ↦ absurd (clash fresh.1)
]
  where
    clash : p ≡ present_in 0 fresh_value 0 → ⊥
    clash fresh = let first : p.next ≡ 0 = ap (λ (q : Present). q.next) fresh in omega arith

abbrev StandsAt : Slot → Slot → Present → ℕ → Type 0
StandsAt s t p place = Stands p (slot_of_two place s t) (slot_of_two (other place) s t)

pub say_of_two : (s t : Slot) (p : Present) → IsPlace p.next → Stands p (slot_of_two p.next s t) (slot_of_two (other p.next) s t) → together s t ≡ Ok p
say_of_two s t p (inl e) stands = say_first_place s t p e (subst (StandsAt s t p) e stands)
say_of_two s t p (inr e) stands = say_second_place s t p e (subst (StandsAt s t p) e stands)

-- the same of bytes

pub slot_at : (limit place : ℕ) (bytes : List ℕ) → IsPlace place → slot_of_two place (slot_in limit 0 bytes) (slot_in limit 4096 bytes) ≡ slot_in limit place bytes
slot_at limit place bytes (inl e) = rw e refl
slot_at limit place bytes (inr e) = rw e refl

-- a disk's slots stand so for the present value
abbrev pub StandsIn : ℕ → Present → List ℕ → Type 0
StandsIn limit p bytes = Stands p (slot_in limit p.next bytes) (slot_in limit (other p.next) bytes)

pub stands_in : (limit : ℕ) (p : Present) (bytes : List ℕ) → slots_in limit bytes ≡ Ok p → IsPlace p.next × StandsIn limit p bytes
stands_in limit p bytes e =
    let both = stands_of_two (slot_in limit 0 bytes) (slot_in limit 4096 bytes) p e in (
      both.0,
      subst (λ (live : Slot). Stands p (slot_in limit p.next bytes) live) (slot_at limit (other p.next) bytes (other_place p.next both.0))
          (subst (λ (next : Slot). Stands p next (slot_of_two (other p.next) (slot_in limit 0 bytes) (slot_in limit 4096 bytes))) (slot_at limit p.next bytes both.0) both.1),
    )

pub say_in : (limit : ℕ) (p : Present) (bytes : List ℕ) → IsPlace p.next → StandsIn limit p bytes → slots_in limit bytes ≡ Ok p
say_in limit p bytes place stands =
    say_of_two (slot_in limit 0 bytes) (slot_in limit 4096 bytes) p place
    (subst (λ (live : Slot). Stands p (slot_of_two p.next (slot_in limit 0 bytes) (slot_in limit 4096 bytes)) live) (sym (slot_at limit (other p.next) bytes (other_place p.next place)))
    (subst (λ (next : Slot). Stands p next (slot_in limit (other p.next) bytes)) (sym (slot_at limit p.next bytes place)) stands))

-- ---- what a turn leaves

-- the slot where the next value goes is as it was, or closed
pub stands_kept : (p : Present) (next live new_next new_live : Slot) → Stands p next live → (new_next ≡ next) ⊎ (new_next ≡ Closed) → new_live ≡ live → Stands p new_next new_live
stands_kept p next live new_next new_live stands (inl same) e =
    rw (same, e) stands
stands_kept p next live new_next new_live stands (inr shut) e =
    rw (shut, e) (record { below = tt; holds = stands.holds })

-- it holds the new value
pub stands_turned : (p : Present) (v : SlotValue) (next live new_next new_live : Slot) → Stands p next live → new_next ≡ Good (p.sequence + 1) v → new_live ≡ live → Stands (turned p v) new_live new_next
stands_turned p v next live new_next new_live stands good e =
    rw (good, e) (record { below = lower live stands.holds; holds = inl refl })
  where
    lower : (s : Slot) → (s ≡ Good p.sequence p.value) ⊎ ((s ≡ Closed) × (p ≡ present_in 0 fresh_value 0)) → IsBelow s (p.sequence + 1)
    lower s (inl good) = rw good (omega arith)
    lower s (inr shut) = rw shut.0 tt
