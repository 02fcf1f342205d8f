-- Bytes of a part of a disk, where the disk is torn.
use Rattle.std.proofs.Common.{◌≡◌, ◌≤◌, ◌+◌, ◌-◌, ◌%◌, ◌==◌, ℕ, Bool, true, false, List, length, take, drop, if◌then◌else◌, sym, ◌∙◌, ap, subst, arith}
use Rattle.std.proofs.lemmas.List.{length-take, length-drop, take-take, drop-drop, drop-take}
use Rattle.qs_disk.specs.Disk.{range, Torn}
use Rattle.qs_slot.specs.Slot.{slot_in, slots_in}
use Rattle.qs_slot.proofs.Ranges.{range_within, torn_range_before}
use Rattle.qs_slot.proofs.SlotLemmas.{slot_in-range}
use Rattle.qs_log.specs.Image.{half, area_start, live_area}

-- what is left of a range
drop_range : (start long at : ℕ) (bytes : List ℕ) → at ≤ long → drop at (range start long bytes) ≡ range (start + at) (long - at) bytes
drop_range start long at bytes fits =
    let e : long ≡ at + (long - at) = omega arith in
    ap (λ (n : ℕ). drop at (take n (drop start bytes))) e ∙ drop-take at (long - at) (drop start bytes) ∙ ap (take (long - at)) (drop-drop at start bytes)

take_range : (start long at : ℕ) (bytes : List ℕ) → at ≤ long → take at (range start long bytes) ≡ drop start (take (start + at) bytes)
take_range start long at bytes fits = take-take at long (drop start bytes) fits ∙ sym (drop-take start at bytes)

-- tears

pub torn_range : (start long at count : ℕ) (old new : List ℕ) → Torn (start + at) count old new → at + count ≤ long → Torn at count (range start long old) (range start long new)
torn_range start long at count old new torn fits =
    let before : at ≤ long = omega arith in
    let place : start + (at + count) ≡ start + at + count = omega arith in
    let after : drop (start + (at + count)) new ≡ drop (start + (at + count)) old = rw place torn.after in
    record {
      before = take_range start long at new before ∙ ap (drop start) torn.before ∙ sym (take_range start long at old before);
      after = drop_range start long (at + count) new fits ∙ ap (take (long - (at + count))) after ∙ sym (drop_range start long (at + count) old fits);
      as_long = omega (arith, length-take {A = ℕ}, length-drop {A = ℕ}, torn.as_long);
    }

-- the live area

-- an area lies behind the slots and within the disk
pub record Within (start size : ℕ) : Type 0 where
  pub least : 8192 ≤ start
  pub most : start + half size ≤ size

within_either : (even : Bool) (size : ℕ) → 8192 ≤ size → Within (if even then 8192 else 8192 + half size) size
within_either true size least = record { least = omega arith; most = omega arith }
within_either false size least = record { least = omega arith; most = omega arith }

pub area_within : (size generation : ℕ) → 8192 ≤ size → Within (area_start size generation) size
area_within size generation least = within_either (generation % 2 == 0) size least

-- the live area holds what the disk holds there
pub live_range : (generation at count : ℕ) (bytes : List ℕ) → at + count ≤ half (length bytes) → range at count (live_area generation bytes) ≡ range (area_start (length bytes) generation + at) count bytes
live_range generation at count bytes fits = range_within at count (area_start (length bytes) generation) (half (length bytes)) bytes fits

-- a tear within the live area
pub live_torn : (generation at count : ℕ) (old new : List ℕ) → Torn (area_start (length old) generation + at) count old new → at + count ≤ half (length old)
    → Torn at count (live_area generation old) (live_area generation new)
live_torn generation at count old new torn fits =
    subst (λ (n : ℕ). Torn at count (live_area generation old) (range (area_start n generation) (half n) new)) (sym torn.as_long)
    (torn_range (area_start (length old) generation) (half (length old)) at count old new torn fits)

-- a tear behind the slots leaves them
pub slots_torn : (limit at count : ℕ) (old new : List ℕ) → Torn at count old new → 8192 ≤ at → slots_in limit new ≡ slots_in limit old
slots_torn limit at count old new torn behind =
    let first : slot_in limit 0 new ≡ slot_in limit 0 old = slot_in-range limit 0 0 new old (torn_range_before at count 0 57 old new torn (omega arith)) in
    let second : slot_in limit 4096 new ≡ slot_in limit 4096 old = slot_in-range limit 4096 4096 new old (torn_range_before at count 4096 57 old new torn (omega arith)) in
    cc
