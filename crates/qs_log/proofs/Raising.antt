-- The moments of a raise: the slots turn, and the areas stay.
use Rattle.std.proofs.Common.{◌≡◌, ◌<◌, ◌+◌, ℕ, List, length, drop, Result, Ok, Err, OnErr, refl, ap, subst, inl, inr, arith}
use Rattle.qs_disk.specs.Disk.{DiskState, IsStill, IsSize}
use Rattle.qs_disk.specs.Moments.{Keeps}
use Rattle.qs_disk.proofs.Moments.{keeps_weaken}
use Rattle.qs_slot.specs.Slot.{Present, StandBelow, slots_in}
use Rattle.qs_slot.specs.Turning.{HoldsSlots, IsOldOrNew, turned}
use Rattle.qs_slot.specs.declared.value.SlotValue.{SlotValue}
use Rattle.qs_log.specs.Image.{IsLog}
use Rattle.qs_log.specs.Log.{LogValue, Stands, IsOldOrRaised, raised_of, top_of}
use Rattle.qs_log.proofs.Images.{log_slots}

-- the value with the incarnation one higher
abbrev pub raised_value : Present → SlotValue
raised_value present = record present.value { inc = present.value.inc + 1 }

raised_here : {D : Type 0} (log : LogValue D) (content c : List ℕ) → IsLog log.slots.present log.forced log.used content → 8192 < length content
    → IsOldOrNew log.slots.present (raised_value log.slots.present) content c → IsOldOrRaised log c
raised_here log content c stands least old_or_new =
    elim old_or_new.says [
      | inl old ↦ inl (log_slots log.slots.present log.slots.present log.forced log.used content c stands least old_or_new.behind old refl refl)
      | inr new ↦ inr (log_slots log.slots.present (raised_of log.slots.present) log.forced log.used content c stands least old_or_new.behind new refl refl)
    ]

-- at each moment an image has the slots of before or the raised ones, and the same records
pub raising : {D : Type 0} (log : LogValue D) (value : SlotValue) (a b : DiskState) → Stands log a → 8192 < length a.content → value ≡ raised_value log.slots.present
    → Keeps (IsOldOrNew log.slots.present value a.content) a b → Keeps (IsOldOrRaised log) a b
raising log value a b stands least is_raised p =
    keeps_weaken (IsOldOrNew log.slots.present (raised_value log.slots.present) a.content) (IsOldOrRaised log) a b
    (λ c image. raised_here log a.content c stands.forced least image)
    (subst (λ (v : SlotValue). Keeps (IsOldOrNew log.slots.present v a.content) a b) is_raised p)

-- and below a limit with room for the raised ones the slots say one or the other
pub raising_below : {D : Type 0} (log : LogValue D) (value : SlotValue) (a b : DiskState) (limit : ℕ) → slots_in limit a.content ≡ Ok log.slots.present
    → top_of log.slots.present + 1 < limit → value ≡ raised_value log.slots.present → Keeps (IsOldOrNew log.slots.present value a.content) a b → Keeps (StandBelow limit) a b
raising_below log value a b limit said fits is_raised =
    keeps_weaken (IsOldOrNew log.slots.present value a.content) (StandBelow limit) a b
    (λ c image. elim (image.below limit said (omega (arith, fits)) (omega (arith, fits, ap (λ (v : SlotValue). v.inc) is_raised))) [
      | inl old ↦ (log.slots.present, old)
      | inr new ↦ (turned log.slots.present value, new)
    ])

-- and then the log with the raised slots stands
pub raised_stands : {D : Type 0} (log new : LogValue D) (a b : DiskState) → Stands log a → 8192 < length a.content
    → new.slots.present ≡ raised_of log.slots.present → new.forced ≡ log.forced → new.used ≡ log.used
    → IsStill b → HoldsSlots new.slots b.content → drop 8192 b.content ≡ drop 8192 a.content → Stands new b
raised_stands log new a b stands least turns same_forced same_used still holds behind = record {
  still = still;
  slots = holds;
  forced = rw (same_forced, same_used) (log_slots log.slots.present new.slots.present log.forced log.used a.content b.content stands.forced least behind holds.say
      (ap (λ (p : Present). p.value.format) turns) (ap (λ (p : Present). p.value.generation) turns));
}

-- each disk is longer than its slots
pub enough : (s : DiskState) (size : ℕ) → length s.content ≡ size → IsSize size → 8192 < length s.content
enough s size sized allowed = omega (arith, sized, allowed.least)

-- what holds where a call failed
pub left_if : {T E : Type 0} (P : Type 0) (result : Result T E) → P → OnErr result P
left_if P (Ok x) left = tt
left_if P (Err e) left = left
