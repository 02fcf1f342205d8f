-- What is read of a log's disk.
use Rattle.std.proofs.Common.{◌≡◌, ◌+◌, ◌^◌, ℕ, List, length, Bool, Ok, refl, sym, ◌∙◌, ap, subst, ◌⊎◌, inl, inr}
use Rattle.qs_log_batch.specs.Batch.{IsCounted, IsBroken}
use Rattle.qs_disk.specs.Disk.{DiskState, IsImage, Syncs}
use Rattle.qs_disk.specs.Moments.{Keeps}
use Rattle.qs_disk.proofs.Moments.{keeps_trans, keeps_weaken, sync_keeps}
use Rattle.qs_record.specs.declared.record.Record.{Record}
use Rattle.qs_slot.specs.Slot.{Present, slots_in}
use Rattle.qs_slot.specs.declared.value.SlotValue.{SlotValue}
use Rattle.qs_log.specs.Image.{area_start, live_area, IsLog, IsDamaged, InBatch, IsBrokenBehind}

-- the area that was read is the live one
pub record IsRead (present : Present) (value : SlotValue) (content area : List ℕ) : Type 0 where
  pub value_is : value ≡ present.value
  pub area_is : area ≡ live_area value.generation content

-- what it counts is the log
pub log_read : (present : Present) (value : SlotValue) (content area : List ℕ) (records : List Record) (used : ℕ) → IsRead present value content area
    → slots_in (2 ^ 62) content ≡ Ok present → IsCounted value.format area records used → IsLog present records used content
log_read present value content area records used r says counted = record {
  slots = says;
  counted = subst (λ (v : SlotValue). IsCounted v.format (live_area v.generation content) records used) r.value_is
      (subst (λ (xs : List ℕ). IsCounted value.format xs records used) r.area_is counted);
}

-- where it is broken the disk is damaged
pub damage_read : (limit : ℕ) (present : Present) (value : SlotValue) (content area : List ℕ) (size start at : ℕ) → IsRead present value content area
    → slots_in limit content ≡ Ok present → length content ≡ size → start ≡ area_start size value.generation → IsBrokenBehind start value.format area at
    → IsDamaged limit content at
damage_read limit present value content area size start at r says long begins b =
    InBatch present b.place says
    (subst (λ (v : SlotValue). IsBroken v.format (live_area v.generation content) b.place) r.value_is
    (subst (λ (xs : List ℕ). IsBroken value.format xs b.place) r.area_is b.broken))
    (b.behind ∙ ap (λ (n : ℕ). n + b.place) (begins ∙ ap (λ (n : ℕ). area_start n value.generation) (sym long) ∙ ap (λ (v : SlotValue). area_start (length content) v.generation) r.value_is))

-- the images of before, and the content
abbrev WasOrIs : DiskState → List ℕ → Type 0
WasOrIs a d = IsImage a.now d ⊎ (d ≡ a.content)

-- a sync leaves no other image
pub synced_was : (ok : Bool) (a b : DiskState) → Syncs ok a b → Keeps (λ (d : List ℕ). IsImage a.now d ⊎ (d ≡ a.content)) a b
synced_was ok a b s = sync_keeps (WasOrIs a) ok a b (λ d image. inl image) (inr refl) s

-- nor do calls after it that leave each image as the content
pub synced_on : (ok : Bool) (a b c : DiskState) → Syncs ok a b → Keeps (λ (d : List ℕ). d ≡ b.content) b c → Keeps (λ (d : List ℕ). IsImage a.now d ⊎ (d ≡ a.content)) a c
synced_on ok a b c s q =
    keeps_trans (WasOrIs a) a b c (synced_was ok a b s) (keeps_weaken (λ (d : List ℕ). d ≡ b.content) (WasOrIs a) b c (λ d e. inr (e ∙ s.content)) q)
