-- What slots say while a new value is written.
use Rattle.std.proofs.Common.{◌≡◌, ◌≤◌, ◌<◌, ◌+◌, ◌-◌, ◌^◌, ◌⊎◌, inl, inr, ℕ, Bool, true, false, ◌==◌, nat_lt, List, [], ◌∷◌, length, get_or, drop, Ok, refl, sym, ◌∙◌, ap, subst, arith}
use Rattle.std.proofs.lemmas.Bool.{lt-ltb, cases_Bool}
use Rattle.std.proofs.lemmas.List.{take_all}
use Rattle.sha2.specs.Sha256.{sha256}
use Rattle.qs_base.proofs.Same.{same_bytes-self}
use Rattle.qs_codec.specs.Grammar.{big_endian}
use Rattle.qs_disk.specs.Disk.{DiskState, Torn, range, with_range}
use Rattle.qs_disk.specs.Moments.{Keeps}
use Rattle.qs_disk.proofs.Moments.{keeps_weaken, torn_with_range}
use Rattle.qs_slot.specs.declared.value.SlotValue.{SlotValue}
use Rattle.qs_slot.specs.Slot.{is_open, is_format, Good, slot_in, Present, present_in, slots_in}
use Rattle.qs_slot.specs.Turning.{SlotsValue, HoldsSlots, IsOldOrNew, other, turned}
use Rattle.qs_slot.specs.Body.{IsBody, closing_bytes, staged, opened_gate, IsWriting}
use Rattle.qs_slot.proofs.Ranges.{torn_get_before, torn_get_behind, torn_range_before, torn_range_behind, torn_drop, torn_nowhere, torn_wider, torn_again, put_range, put_get, put_nothing, put_long}
use Rattle.qs_slot.proofs.SlotLemmas.{slot_by, sound_by, value_by, slot_in-same, slot_in-range, closed_in}
use Rattle.qs_slot.proofs.PairLemmas.{IsPlace, stands_in, say_in, stands_kept, stands_turned, other_place, other_other}

-- ---- the other slot, and what stands behind both

other_same : (limit place : ℕ) (old new : List ℕ) → IsPlace place → Torn place 57 old new → slot_in limit (other place) new ≡ slot_in limit (other place) old
other_same limit place old new (inl e) torn =
    rw e (slot_in-range limit 4096 4096 new old (torn_range_behind place 57 4096 57 old new torn (omega arith)))
other_same limit place old new (inr e) torn =
    rw e (slot_in-range limit 0 0 new old (torn_range_before place 57 0 57 old new torn (omega arith)))

pub behind_same : (place : ℕ) (old new : List ℕ) → IsPlace place → Torn place 57 old new → drop 8192 new ≡ drop 8192 old
behind_same place old new at_place torn = torn_drop place 57 8192 old new torn (elim at_place [ inl e ↦ omega arith | inr e ↦ omega arith ])

-- ---- what is said

-- the slot where the next value goes is as it was, or closed
pub says_old : (limit : ℕ) (p : Present) (old new : List ℕ) → slots_in limit old ≡ Ok p → Torn p.next 57 old new
    → (slot_in limit p.next new ≡ slot_in limit p.next old) ⊎ (is_open p.next new ≡ false) → slots_in limit new ≡ Ok p
says_old limit p old new said torn next =
    let stands = stands_in limit p old said in
    say_in limit p new stands.0
    (stands_kept p (slot_in limit p.next old) (slot_in limit (other p.next) old) (slot_in limit p.next new) (slot_in limit (other p.next) new) stands.1
    (elim next [ inl same ↦ inl same | inr shut ↦ inr (closed_in limit p.next new shut) ])
    (other_same limit p.next old new stands.0 torn))

-- it holds the new value
pub says_new : (limit : ℕ) (p : Present) (v : SlotValue) (old new : List ℕ) → slots_in limit old ≡ Ok p → Torn p.next 57 old new
    → slot_in limit p.next new ≡ Good (p.sequence + 1) v → slots_in limit new ≡ Ok (turned p v)
says_new limit p v old new said torn good =
    let stands = stands_in limit p old said in
    let same = other_same limit p.next old new stands.0 torn in
    say_in limit (turned p v) new (other_place p.next stands.0)
    (stands_turned p v (slot_in limit p.next old) (slot_in limit (other p.next) old) (slot_in limit (other (other p.next)) new) (slot_in limit (other p.next) new) stands.1
    (ap (λ (place : ℕ). slot_in limit place new) (other_other p.next stands.0) ∙ good)
    same)

-- ---- the bytes behind a gate

good_by : (limit n sequence : ℕ) (v value : SlotValue) (fields digest : List ℕ) → n ≡ sequence → v ≡ value → digest ≡ sha256 fields
    → sequence < limit → value.inc < limit → is_format value.format ≡ true → slot_by true (sound_by limit n v fields digest) n v ≡ Good sequence value
good_by limit n sequence v value fields digest n_is v_is digest_is below inc_below known =
    let sequence_test : nat_lt sequence limit ≡ true = lt-ltb sequence limit below in
    let inc_test : nat_lt value.inc limit ≡ true = lt-ltb value.inc limit inc_below in
    rw (n_is, v_is, digest_is, sequence_test, inc_test, known, same_bytes-self (sha256 fields)) refl

value_from : (format inc generation : List ℕ) (v : SlotValue) → big_endian format ≡ v.format → big_endian inc ≡ v.inc → big_endian generation ≡ v.generation → value_by format inc generation ≡ v
value_from format inc generation v a b c = rw (a, b, c) refl

-- an open gate before a body is a slot that holds its value
pub good_body : (limit place sequence : ℕ) (v : SlotValue) (bytes body : List ℕ) → IsBody sequence v body → range (place + 1) 56 bytes ≡ body → is_open place bytes ≡ true
    → sequence < limit → v.inc < limit → is_format v.format ≡ true → slot_in limit place bytes ≡ Good sequence v
good_body limit place sequence v bytes body b behind gate below inc_below known =
    slot_in-same limit place 0 bytes (1 ∷ body) gate (behind ∙ sym (take_all 56 body (omega (arith, b.as_long))))
    ∙ good_by limit (big_endian (range 0 8 body)) sequence (value_by (range 8 4 body) (range 12 8 body) (range 20 4 body)) v (range 0 24 body) (range 24 32 body)
    b.sequence_says (value_from (range 8 4 body) (range 12 8 body) (range 20 4 body) v b.format_says b.inc_says b.generation_says) b.digest_is below inc_below known

-- ---- the gate

gate_same : (place : ℕ) (a b : List ℕ) → get_or a place 0 ≡ get_or b place 0 → is_open place a ≡ is_open place b
gate_same place a b e = ap (λ (byte : ℕ). byte == 1) e

-- while it is closed
pub closing_gate : (limit place : ℕ) (gate : Bool) (old new : List ℕ) → is_open place old ≡ gate → Torn place (length (closing_bytes gate)) old new
    → (slot_in limit place new ≡ slot_in limit place old) ⊎ (is_open place new ≡ false)
closing_gate limit place false old new was torn = inl (ap (slot_in limit place) (torn_nowhere place old new torn))
closing_gate limit place true old new was torn = elim (cases_Bool (is_open place new)) [
  | inl gate ↦ inl (slot_in-same limit place place new old (gate ∙ sym was) (torn_range_behind place 1 (place + 1) 56 old new torn (omega arith)))
  | inr shut ↦ inr shut
]

closing_long : (gate : Bool) → length (closing_bytes gate) ≤ 1
closing_long false = omega arith
closing_long true = omega arith

-- once it is
pub closed_gate : (place : ℕ) (gate : Bool) (old : List ℕ) → is_open place old ≡ gate → place < length old → is_open place (with_range old place (closing_bytes gate)) ≡ false
closed_gate place false old was inside = ap (is_open place) (put_nothing place old) ∙ was
closed_gate place true old was inside = ap (λ (byte : ℕ). byte == 1) (put_get place 0 old inside)

-- ---- a turn

-- a new value that is being written
pub record IsTurn (slots : SlotsValue) (v : SlotValue) (content : List ℕ) (place : ℕ) (closing body : List ℕ) : Type 0 where
  pub place_is : place ≡ slots.present.next
  pub closing_is : closing ≡ closing_bytes slots.next_open
  pub body_is : IsBody (slots.present.sequence + 1) v body
  pub holds : HoldsSlots slots content
  pub room : 8192 ≤ length content
  pub below : slots.present.sequence < 2 ^ 62 - 1
  pub inc_below : v.inc < 2 ^ 62
  pub known : is_format v.format ≡ true

-- with the place and the bytes of the slots
pub plain_turn : (slots : SlotsValue) (v : SlotValue) (place : ℕ) (closing body content : List ℕ) → IsTurn slots v content place closing body
    → IsTurn slots v content slots.present.next (closing_bytes slots.next_open) body
plain_turn slots v place closing body content t = record {
  place_is = refl;
  closing_is = refl;
  body_is = t.body_is;
  holds = t.holds;
  room = t.room;
  below = t.below;
  inc_below = t.inc_below;
  known = t.known;
}

-- where and what is written, in the words of the slots
pub record Writes (slots : SlotsValue) (content body : List ℕ) : Type 0 where
  pub at_place : IsPlace slots.present.next
  pub shut : is_open slots.present.next (with_range content slots.present.next (closing_bytes slots.next_open)) ≡ false
  pub closing_torn : Torn slots.present.next 57 content (with_range content slots.present.next (closing_bytes slots.next_open))
  pub staged_torn : Torn slots.present.next 57 content (staged slots.present.next (closing_bytes slots.next_open) body content)
  pub staged_shut : is_open slots.present.next (staged slots.present.next (closing_bytes slots.next_open) body content) ≡ false
  pub staged_body : range (slots.present.next + 1) 56 (staged slots.present.next (closing_bytes slots.next_open) body content) ≡ body
  pub staged_long : length (staged slots.present.next (closing_bytes slots.next_open) body content) ≡ length content

within : (place : ℕ) → IsPlace place → place + 57 ≤ 8192
within place (inl e) = omega arith
within place (inr e) = omega arith

pub writes : (slots : SlotsValue) (content body : List ℕ) → HoldsSlots slots content → 8192 ≤ length content → length body ≡ 56 → Writes slots content body
writes slots content body holds room long =
    let p : Present = slots.present in
    let at_place : IsPlace p.next = (stands_in (2 ^ 62) p content holds.say).0 in
    let inside : p.next + 57 ≤ 8192 = within p.next at_place in
    let short : length (closing_bytes slots.next_open) ≤ 1 = closing_long slots.next_open in
    let closed : List ℕ = with_range content p.next (closing_bytes slots.next_open) in
    let shut : is_open p.next closed ≡ false = closed_gate p.next slots.next_open content holds.gate (omega arith) in
    let closed_long : length closed ≡ length content = put_long p.next content (closing_bytes slots.next_open) (omega arith) in
    let closing_torn : Torn p.next 57 content closed =
    torn_wider p.next (length (closing_bytes slots.next_open)) p.next 57 content closed (omega arith) (omega arith)
    (torn_with_range p.next (closing_bytes slots.next_open) content (omega arith)) in
    let body_torn : Torn (p.next + 1) (length body) closed (with_range closed (p.next + 1) body) = torn_with_range (p.next + 1) body closed (omega arith) in
    record {
      at_place = at_place;
      shut = shut;
      closing_torn = closing_torn;
      staged_torn = torn_again p.next 57 content closed (with_range closed (p.next + 1) body) closing_torn
          (torn_wider (p.next + 1) (length body) p.next 57 closed (with_range closed (p.next + 1) body) (omega arith) (omega arith) body_torn);
      staged_shut = gate_same p.next (with_range closed (p.next + 1) body) closed
          (torn_get_before (p.next + 1) (length body) p.next closed (with_range closed (p.next + 1) body) body_torn (omega arith)) ∙ shut;
      staged_body = subst (λ (n : ℕ). range (p.next + 1) n (with_range closed (p.next + 1) body) ≡ body) long (put_range (p.next + 1) closed body (omega arith));
      staged_long = put_long (p.next + 1) closed body (omega arith) ∙ closed_long;
    }

-- images while the gate is closed, while the body is written, and while the gate is opened
closing_says : (slots : SlotsValue) (v : SlotValue) (content body c : List ℕ) → HoldsSlots slots content → Writes slots content body
    → Torn slots.present.next (length (closing_bytes slots.next_open)) content c → IsOldOrNew slots.present v content c
closing_says slots v content body c holds w torn =
    let p : Present = slots.present in
    let short : length (closing_bytes slots.next_open) ≤ 1 = closing_long slots.next_open in
    let wide : Torn p.next 57 content c = torn_wider p.next (length (closing_bytes slots.next_open)) p.next 57 content c (omega arith) (omega arith) torn in
    record {
      says = inl (says_old (2 ^ 62) p content c holds.say wide (closing_gate (2 ^ 62) p.next slots.next_open content c holds.gate torn));
      behind = behind_same p.next content c w.at_place wide;
      below = λ limit said fits inc_fits. inl (says_old limit p content c said wide (closing_gate limit p.next slots.next_open content c holds.gate torn));
    }

body_says : (slots : SlotsValue) (v : SlotValue) (content body c : List ℕ) → HoldsSlots slots content → Writes slots content body → length body ≡ 56
    → Torn (slots.present.next + 1) (length body) (with_range content slots.present.next (closing_bytes slots.next_open)) c → IsOldOrNew slots.present v content c
body_says slots v content body c holds w long torn =
    let p : Present = slots.present in
    let closed : List ℕ = with_range content p.next (closing_bytes slots.next_open) in
    let wide : Torn p.next 57 content c = torn_again p.next 57 content closed c w.closing_torn
    (torn_wider (p.next + 1) (length body) p.next 57 closed c (omega arith) (omega arith) torn) in
    let shut : is_open p.next c ≡ false = gate_same p.next c closed (torn_get_before (p.next + 1) (length body) p.next closed c torn (omega arith)) ∙ w.shut in
    record {
      says = inl (says_old (2 ^ 62) p content c holds.say wide (inr shut));
      behind = behind_same p.next content c w.at_place wide;
      below = λ limit said fits inc_fits. inl (says_old limit p content c said wide (inr shut));
    }

-- a body whose gate is open
open_says : (slots : SlotsValue) (v : SlotValue) (content closing body c : List ℕ) → (t : IsTurn slots v content slots.present.next closing body)
    → Torn slots.present.next 57 content c → range (slots.present.next + 1) 56 c ≡ body → is_open slots.present.next c ≡ true → slots_in (2 ^ 62) c ≡ Ok (turned slots.present v)
open_says slots v content closing body c t wide behind gate =
    let below : slots.present.sequence + 1 < 2 ^ 62 = omega (arith, t.below) in
    says_new (2 ^ 62) slots.present v content c t.holds.say wide
    (good_body (2 ^ 62) slots.present.next (slots.present.sequence + 1) v c body t.body_is behind gate below t.inc_below t.known)

opening_says : (slots : SlotsValue) (v : SlotValue) (content closing body c : List ℕ) → (t : IsTurn slots v content slots.present.next closing body) → Writes slots content body
    → Torn slots.present.next 1 (staged slots.present.next (closing_bytes slots.next_open) body content) c → IsOldOrNew slots.present v content c
opening_says slots v content closing body c t w torn =
    let p : Present = slots.present in
    let ready : List ℕ = staged p.next (closing_bytes slots.next_open) body content in
    let wide : Torn p.next 57 content c = torn_again p.next 57 content ready c w.staged_torn (torn_wider p.next 1 p.next 57 ready c (omega arith) (omega arith) torn) in
    let behind : range (p.next + 1) 56 c ≡ body = torn_range_behind p.next 1 (p.next + 1) 56 ready c torn (omega arith) ∙ w.staged_body in
    record {
      says = elim (cases_Bool (is_open p.next c)) [
        | inl gate ↦ inr (open_says slots v content closing body c t wide behind gate)
        | inr shut ↦ inl (says_old (2 ^ 62) p content c t.holds.say wide (inr shut))
      ];
      behind = behind_same p.next content c w.at_place wide;
      below = λ limit said fits inc_fits. elim (cases_Bool (is_open p.next c)) [
        | inl gate ↦ inr (says_new limit p v content c said wide (good_body limit p.next (p.sequence + 1) v c body t.body_is behind gate fits inc_fits t.known))
        | inr shut ↦ inl (says_old limit p content c said wide (inr shut))
      ];
    }

writing_says : (slots : SlotsValue) (v : SlotValue) (content body c : List ℕ) → IsTurn slots v content slots.present.next (closing_bytes slots.next_open) body
    → IsWriting slots.present.next (closing_bytes slots.next_open) body content c → IsOldOrNew slots.present v content c
writing_says slots v content body c t writing =
    let w : Writes slots content body = writes slots content body t.holds t.room t.body_is.as_long in
    elim writing [
      | inl closing ↦ closing_says slots v content body c t.holds w closing
      | inr later ↦ elim later [
        | inl filling ↦ body_says slots v content body c t.holds w t.body_is.as_long filling
        | inr opening ↦ opening_says slots v content (closing_bytes slots.next_open) body c t w opening
      ]
    ]

-- each image while a slot is written says the old value or the new one
pub turning : (slots : SlotsValue) (v : SlotValue) (place : ℕ) (closing body : List ℕ) (old new : DiskState) → IsTurn slots v old.content place closing body
    → Keeps (IsWriting place closing body old.content) old new → Keeps (IsOldOrNew slots.present v old.content) old new
turning slots v place closing body old new t =
    keeps_weaken (IsWriting place closing body old.content) (IsOldOrNew slots.present v old.content) old new (says place closing t)
  where
    says : (place : ℕ) (closing : List ℕ) → IsTurn slots v old.content place closing body → (c : List ℕ) → IsWriting place closing body old.content c → IsOldOrNew slots.present v old.content c
    says place closing t c writing =
        writing_says slots v old.content body c (plain_turn slots v place closing body old.content t)
        (subst (λ (at : ℕ). IsWriting at (closing_bytes slots.next_open) body old.content c) t.place_is
        (subst (λ (bytes : List ℕ). IsWriting place bytes body old.content c) t.closing_is writing))

-- ---- once it is written

-- the slots after a turn
abbrev pub turned_slots : SlotsValue → SlotValue → SlotsValue
turned_slots slots v = record { present = turned slots.present v; next_open = slots.live_open; live_open = true }

opened_torn : (slots : SlotsValue) (content body : List ℕ) → 8192 ≤ length content → Writes slots content body
    → Torn slots.present.next 1 (staged slots.present.next (closing_bytes slots.next_open) body content) (opened_gate slots.present.next (closing_bytes slots.next_open) body content)
opened_torn slots content body room w =
    let inside : slots.present.next + 57 ≤ 8192 = within slots.present.next w.at_place in
    torn_with_range slots.present.next (1 ∷ []) (staged slots.present.next (closing_bytes slots.next_open) body content) (omega (arith, w.staged_long, room))

behind_opened : (slots : SlotsValue) (v : SlotValue) (content body : List ℕ) → IsTurn slots v content slots.present.next (closing_bytes slots.next_open) body
    → drop 8192 (opened_gate slots.present.next (closing_bytes slots.next_open) body content) ≡ drop 8192 content
behind_opened slots v content body t =
    let w : Writes slots content body = writes slots content body t.holds t.room t.body_is.as_long in
    (opening_says slots v content (closing_bytes slots.next_open) body (opened_gate slots.present.next (closing_bytes slots.next_open) body content) t w
    (opened_torn slots content body t.room w)).behind

holds_opened : (slots : SlotsValue) (v : SlotValue) (content body : List ℕ) → IsTurn slots v content slots.present.next (closing_bytes slots.next_open) body
    → HoldsSlots (turned_slots slots v) (opened_gate slots.present.next (closing_bytes slots.next_open) body content)
holds_opened slots v content body t =
    let p : Present = slots.present in
    let w : Writes slots content body = writes slots content body t.holds t.room t.body_is.as_long in
    let inside : p.next + 57 ≤ 8192 = within p.next w.at_place in
    let ready : List ℕ = staged p.next (closing_bytes slots.next_open) body content in
    let done : List ℕ = with_range ready p.next (1 ∷ []) in
    let torn : Torn p.next 1 ready done = opened_torn slots content body t.room w in
    let wide : Torn p.next 57 content done = torn_again p.next 57 content ready done w.staged_torn (torn_wider p.next 1 p.next 57 ready done (omega arith) (omega arith) torn) in
    let behind : range (p.next + 1) 56 done ≡ body = torn_range_behind p.next 1 (p.next + 1) 56 ready done torn (omega arith) ∙ w.staged_body in
    let gate : is_open p.next done ≡ true = ap (λ (byte : ℕ). byte == 1) (put_get p.next 1 ready (omega (arith, w.staged_long, t.room))) in
    record {
      say = open_says slots v content (closing_bytes slots.next_open) body done t wide behind gate;
      gate = live_gate p.next w.at_place content done wide ∙ t.holds.live;
      live = ap (λ (place : ℕ). is_open place done) (other_other p.next w.at_place) ∙ gate;
    }
  where
    live_gate : (place : ℕ) → IsPlace place → (old new : List ℕ) → Torn place 57 old new → is_open (other place) new ≡ is_open (other place) old
    live_gate place (inl e) old new torn = rw e (gate_same 4096 new old (torn_get_behind place 57 4096 old new torn (omega arith)))
    live_gate place (inr e) old new torn = rw e (gate_same 0 new old (torn_get_before place 57 0 old new torn (omega arith)))

-- the slots hold the new value, and what stands behind them is as it was
pub turned_holds : (slots : SlotsValue) (v : SlotValue) (place : ℕ) (closing body old new : List ℕ) → IsTurn slots v old place closing body
    → new ≡ opened_gate place closing body old → HoldsSlots (turned_slots slots v) new × (drop 8192 new ≡ drop 8192 old)
turned_holds slots v place closing body old new t e = rw (e, t.place_is, t.closing_is) (after (plain_turn slots v place closing body old t))
  where
    after : IsTurn slots v old slots.present.next (closing_bytes slots.next_open) body
        → HoldsSlots (turned_slots slots v) (opened_gate slots.present.next (closing_bytes slots.next_open) body old)
        × (drop 8192 (opened_gate slots.present.next (closing_bytes slots.next_open) body old) ≡ drop 8192 old)
    after plain = (holds_opened slots v old body plain, behind_opened slots v old body plain)

pub turned_is : (slots : SlotsValue) (v : SlotValue) (sequence next : ℕ) (live : Bool) → slots.present.sequence ≡ sequence → other slots.present.next ≡ next → slots.live_open ≡ live
    → turned_slots slots v ≡ record { present = present_in (sequence + 1) v next; next_open = live; live_open = true }
turned_is slots v sequence next live a b c = rw (a, b, c) refl
