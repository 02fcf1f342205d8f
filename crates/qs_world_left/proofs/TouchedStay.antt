-- Each image of a disk that was touched has the records of an image of before, in its incarnation or the next.
use Rattle.std.proofs.Common.{◌≡◌, ◌⊎◌, ◌∙◌, ap, inl, inr, subst, sym, ℕ, ◌+◌, ◌<◌, ◌≤◌, List, [], length, arith, slice_get, Some}
use Rattle.std.specs.Global.{Global}
use Rattle.qs_disk.specs.Disk.{DiskState, IsImage}
use Rattle.qs_log.specs.Image.{IsLog}
use Rattle.qs_log.specs.Log.{raised_of}
use Rattle.qs_log_start.proofs.Beginning.{one_log}
use Rattle.qs_log_start.specs.Incarnation.{IsOldOrRaised, IsTouched}
use Rattle.qs_record.specs.declared.record.Record.{Record}
use Rattle.qs_slot.specs.Slot.{Present}
use Rattle.qs_world_left.proofs.Chosen.{same_present}
use Rattle.qs_world_left.proofs.Choosing.{Choice, choose}
use Rattle.qs_world_left.proofs.Raised.{no_present}
use Rattle.qs_world_left.specs.Disks.{AreCoherentDisks, AreImagesOf, ShowLogs, ShowsLog}
use Rattle.qs_world_left.specs.Touched.{TouchedStayCoherent, WasTouched, WereTouched}
use Rattle.qs_world_nodes.proofs.Places.{found, low_of, same_some}
use Rattle.qs_world_opening.specs.Coherent.{AreCoherentLogs}
use Rattle.qs_world_opening.specs.Scripts.{StayCoherent}

upto : (a b : ℕ) → a ≡ b → a ≤ b
upto a b is = omega (arith, is)

upto_next : (a b : ℕ) → a + 1 ≡ b → a ≤ b
upto_next a b is = omega (arith, is)

one_more : (a b : ℕ) → a ≤ b → a + 1 ≤ b + 1
one_more a b is = omega (arith, is)

-- ---- an image of before with the same records, in an incarnation up to this one

record Before (old : DiskState) (inc : ℕ) (records : List Record) (image : List ℕ) (present : Present) : Type 0 where
  left : IsImage old.now image
  shows : ShowsLog image present records
  within : present.value.inc ≤ inc

abbrev Found : DiskState → ℕ → List Record → Type 0
Found old inc records = (x : List ℕ × Present) × Before old inc records x.0 x.1

module _ (old : DiskState) (read : IsImage old.now old.content) (image : List ℕ) (present : Present) (records : List Record) (used : ℕ) (log : IsLog present records used image) where
  of_content : IsOldOrRaised old.content image → Found old present.value.inc records
  of_content was = ((old.content, was.present), record { left = read; shows = record { used = was.used; log = its was.says }; within = inc was.says })
    where
      with_records : was.records ≡ records → IsLog was.present records was.used old.content
      with_records same = subst (λ (l : List Record). IsLog was.present l was.used old.content) same was.log

      its : IsLog was.present was.records was.used image ⊎ IsLog (raised_of was.present) was.records was.used image → IsLog was.present records was.used old.content
      its (inl says) = with_records (one_log was.present present was.records records was.used used image says log)
      its (inr says) = with_records (one_log (raised_of was.present) present was.records records was.used used image says log)

      inc : IsLog was.present was.records was.used image ⊎ IsLog (raised_of was.present) was.records was.used image → was.present.value.inc ≤ present.value.inc
      inc (inl says) = upto was.present.value.inc present.value.inc (ap (λ (p : Present). p.value.inc) (same_present (sym says.slots ∙ log.slots)))
      inc (inr says) = upto_next was.present.value.inc present.value.inc (ap (λ (p : Present). p.value.inc) (same_present (sym says.slots ∙ log.slots)))

  before : IsTouched old image → Found old present.value.inc records
  before (inl was) = ((image, present), record { left = was; shows = record { used = used; log = log }; within = omega arith })
  before (inr (inl same)) = ((old.content, present), record { left = read; shows = record { used = used; log = subst (IsLog present records used) same log }; within = omega arith })
  before (inr (inr was)) = of_content was

-- ---- all disks

module _ (stay : (alloc : Global) (size : ℕ) (incs later : ℕ → ℕ) (logs : ℕ → List Record) → StayCoherent alloc size incs later logs) (old new : List DiskState) (touched : WereTouched old new) (coherent : AreCoherentDisks old)
    (images : ℕ → List ℕ) (left_are : AreImagesOf new images) (presents : ℕ → Present) (records : ℕ → List Record) (show : ShowLogs (length new) images presents records) where
  abbrev WasBefore : ℕ → List ℕ × Present → Type 0
  WasBefore n x = (disk : DiskState) → slice_get old n ≡ Some disk → Before disk (presents n).value.inc (records n) x.0 x.1

  was : (n : ℕ) → n < length old → (x : List ℕ × Present) × WasBefore n x
  was n low = by (found old n low) (found new n (omega (arith, low, touched.count)))
    where
      by : (a : DiskState) × (slice_get old n ≡ Some a) → (b : DiskState) × (slice_get new n ≡ Some b) → (x : List ℕ × Present) × WasBefore n x
      by (a, of_old) (b, of_new) =
          let t : WasTouched a b = touched.each n a b of_old of_new in
          let s : ShowsLog (images n) (presents n) (records n) = show n (low_of new n b of_new) in
          let f : Found a (presents n).value.inc (records n) = before a t.read (images n) (presents n) (records n) s.used s.log (t.images (images n) (left_are n b of_new)) in
          (f.0, λ disk is. subst (λ (d : DiskState). Before d (presents n).value.inc (records n) f.0.0 f.0.1) (same_some a disk (sym of_old ∙ is)) f.1)

  chosen : Choice (length old) WasBefore
  chosen = choose (length old) WasBefore ([], no_present) was

  its : (n : ℕ) (low : n < length old) → (a : DiskState) × Before a (presents n).value.inc (records n) (chosen.at n).0 (chosen.at n).1
  its n low = let f : (a : DiskState) × (slice_get old n ≡ Some a) = found old n low in (f.0, chosen.has n low f.0 f.1)

  stay_so : (alloc : Global) → AreCoherentLogs alloc (length new) (λ n. (presents n).value.inc + 1) records
  stay_so alloc = subst (λ (size : ℕ). AreCoherentLogs alloc size (λ n. (presents n).value.inc + 1) records) (sym touched.count)
      (stay alloc (length old) (λ n. (chosen.at n).1.value.inc + 1) (λ n. (presents n).value.inc + 1) records (λ n low. one_more (chosen.at n).1.value.inc (presents n).value.inc (its n low).1.within)
      (coherent alloc (λ n. (chosen.at n).0) (λ n disk is. (chosen.has n (low_of old n disk is) disk is).left) (λ n. (chosen.at n).1) records (λ n low. (its n low).1.shows)))

pub each_touched : ((alloc : Global) (size : ℕ) (incs later : ℕ → ℕ) (logs : ℕ → List Record) → StayCoherent alloc size incs later logs) → (old new : List DiskState) → TouchedStayCoherent old new
each_touched stay old new touched coherent alloc images left_are presents records show = stay_so stay old new touched coherent images left_are presents records show alloc
