-- Slots that are found on a disk.
use Rattle.std.proofs.Common.{◌≡◌, ◌<◌, ◌^◌, ℕ, Bool, List, Result, Ok, Err, IfOk, IsErrAnd, sym, ◌∙◌, ap, subst, arith}
use Rattle.qs_disk.specs.Disk.{DiskState}
use Rattle.qs_disk.specs.Moments.{Keeps}
use Rattle.qs_disk.proofs.Moments.{keeps_weaken, keeps_trans}
use Rattle.qs_slot.specs.declared.fault.SlotFault.{SlotFault}
use Rattle.qs_slot.specs.declared.fault.SlotFault.TheVariants.{DiskFailed, Damaged}
use Rattle.qs_slot.specs.Slot.{is_open, Slot, Present, slot_in, slots_in, together}
use Rattle.qs_slot.specs.Turning.{SlotsValue, HoldsSlots, other}
use Rattle.qs_slot.specs.Opening.{opened, slot_of_two}
use Rattle.qs_slot.proofs.SlotLemmas.{opened_in, slots_in-below}
use Rattle.qs_slot.proofs.PairLemmas.{IsPlace, stands_in, slot_at, other_place}

-- a fault of the disk is no damage
pub no_damage : {T : Type 0} (result : Result T SlotFault) (at : ℕ) (P : Type 0) → IsErrAnd result (λ fault. fault ≡ DiskFailed) → result ≡ Err (Damaged at) → P
no_damage (Ok x) at P p e = absurd p
no_damage (Err fault) at P p e = absurd cc

-- what two slots of the bytes say together
says : (limit : ℕ) (bytes : List ℕ) (s t : Slot) (r : Result Present ℕ) → s ≡ slot_in limit 0 bytes → t ≡ slot_in limit 4096 bytes → together s t ≡ r → slots_in limit bytes ≡ r
says limit bytes s t r a b e = rw (sym a, sym b) e

-- slots with the gates that were found
record IsFound (slots : SlotsValue) (s t : Slot) : Type 0 where
  pub say : together s t ≡ Ok slots.present
  pub next : slots.next_open ≡ opened (slot_of_two slots.present.next s t)
  pub live : slots.live_open ≡ opened (slot_of_two (other slots.present.next) s t)

gate_of : (limit place : ℕ) (bytes : List ℕ) (gate : Bool) → IsPlace place → gate ≡ opened (slot_of_two place (slot_in limit 0 bytes) (slot_in limit 4096 bytes)) → is_open place bytes ≡ gate
gate_of limit place bytes gate at_place e = sym (opened_in limit place bytes) ∙ ap opened (sym (slot_at limit place bytes at_place)) ∙ sym e

holds_of : (limit : ℕ) (bytes : List ℕ) (slots : SlotsValue) → limit < 2 ^ 62 → IsFound slots (slot_in limit 0 bytes) (slot_in limit 4096 bytes) → HoldsSlots slots bytes
holds_of limit bytes slots below found =
    let at_place : IsPlace slots.present.next = (stands_in limit slots.present bytes found.say).0 in
    record {
      say = slots_in-below limit (2 ^ 62) bytes slots.present (omega arith) found.say;
      gate = gate_of limit slots.present.next bytes slots.next_open at_place found.next;
      live = gate_of limit (other slots.present.next) bytes slots.live_open (other_place slots.present.next at_place) found.live;
    }

-- ---- two slots, of which the second was read from bytes that are the same

pub found_damage : (limit : ℕ) (bytes again : List ℕ) (s t : Slot) (at : ℕ) → s ≡ slot_in limit 0 bytes → t ≡ slot_in limit 4096 again → again ≡ bytes
    → together s t ≡ Err at → slots_in limit bytes ≡ Err at
found_damage limit bytes again s t at a b same e = says limit bytes s t (Err at) a (b ∙ ap (slot_in limit 4096) same) e

pub found_value : {E : Type 0} (limit : ℕ) (bytes again : List ℕ) (s t : Slot) (result : Result SlotsValue E) → s ≡ slot_in limit 0 bytes → t ≡ slot_in limit 4096 again → again ≡ bytes
    → IfOk result (λ slots. together s t ≡ Ok slots.present) → IfOk result (λ slots. slots_in limit bytes ≡ Ok slots.present)
found_value limit bytes again s t (Ok slots) a b same e = says limit bytes s t (Ok slots.present) a (b ∙ ap (slot_in limit 4096) same) e
found_value limit bytes again s t (Err fault) a b same e = tt

pub found_holds : {E : Type 0} (limit : ℕ) (bytes again : List ℕ) (s t : Slot) (result : Result SlotsValue E) → s ≡ slot_in limit 0 bytes → t ≡ slot_in limit 4096 again → again ≡ bytes → limit < 2 ^ 62
    → IfOk result (λ slots. together s t ≡ Ok slots.present) → IfOk result (λ slots. slots.next_open ≡ opened (slot_of_two slots.present.next s t))
    → IfOk result (λ slots. slots.live_open ≡ opened (slot_of_two (other slots.present.next) s t)) → IfOk result (λ slots. HoldsSlots slots bytes)
found_holds limit bytes again s t (Ok slots) a b same below say next live =
    holds_of limit bytes slots below
    (subst (λ (x : Slot). IsFound slots x (slot_in limit 4096 bytes)) a
    (subst (IsFound slots s) (b ∙ ap (slot_in limit 4096) same) (record { say = say; next = next; live = live })))
found_holds limit bytes again s t (Err fault) a b same below say next live = tt

-- two stretches in which the content is the only image
pub same_keeps : (a b c : DiskState) → b.content ≡ a.content → Keeps (λ (bytes : List ℕ). bytes ≡ a.content) a b → Keeps (λ (bytes : List ℕ). bytes ≡ b.content) b c → Keeps (λ (bytes : List ℕ). bytes ≡ a.content) a c
same_keeps a b c e k l =
    keeps_trans (λ (bytes : List ℕ). bytes ≡ a.content) a b c k
    (keeps_weaken (λ (bytes : List ℕ). bytes ≡ b.content) (λ (bytes : List ℕ). bytes ≡ a.content) b c (λ bytes same. same ∙ e) l)
