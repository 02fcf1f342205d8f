-- What the log of an image is where some of its bytes change.
use Rattle.std.proofs.Common.{◌≡◌, ◌≢◌, ◌≤◌, ◌<◌, ◌+◌, ◌-◌, ◌^◌, ◌==◌, ℕ, Bool, true, false, List, [], ◌∷◌, ◌++◌, length, get_or, take, drop, if◌then◌else◌, Ok, sym, ◌∙◌, ap, subst, arith, ◌⊎◌, inl, inr}
use Rattle.std.proofs.lemmas.List.{length-append, length-drop, drop-drop, get_or-take, get_or-drop}
use Rattle.std.proofs.lemmas.Bool.{cases_eq}
use Rattle.qs_log_batch.specs.Batch.{SpellsBatch, IsCounted, batch_length}
use Rattle.qs_disk.specs.Disk.{range, with_range, Torn}
use Rattle.qs_disk.proofs.Moments.{torn_with_range}
use Rattle.qs_record.specs.declared.record.Record.{Record}
use Rattle.qs_slot.specs.Slot.{Present, slots_in}
use Rattle.qs_slot.specs.Turning.{SlotsValue, HoldsSlots, other}
use Rattle.qs_log.specs.Image.{half, area_start, live_area, IsLog}
use Rattle.qs_slot.proofs.Ranges.{torn_get_before, put_range}
use Rattle.qs_log.proofs.Areas.{live_range, live_torn, slots_torn, area_within}
use Rattle.qs_log.proofs.Batches.{counted_behind, counted_closed, counted_whole}

-- where the batch behind the counted ones has its gate
abbrev pub gate_of : Present → ℕ → List ℕ → ℕ
gate_of present used c = area_start (length c) present.value.generation + used

-- ---- tears behind the next gate

-- a tear behind the next gate leaves the log
pub log_behind : (present : Present) (records : List Record) (used count : ℕ) (c d : List ℕ) → IsLog present records used c → 8192 ≤ length c
    → Torn (gate_of present used c + 1) count c d → used + 1 + count ≤ half (length c) → IsLog present records used d
log_behind present records used count c d log least torn fits =
    let within = area_within (length c) present.value.generation least in
    let place : area_start (length c) present.value.generation + used + 1 ≡ area_start (length c) present.value.generation + (used + 1) = omega arith in
    let moved : Torn (area_start (length c) present.value.generation + (used + 1)) count c d = subst (λ (n : ℕ). Torn n count c d) place torn in
    record {
      slots = slots_torn (2 ^ 62) (gate_of present used c + 1) count c d torn (omega (arith, within)) ∙ log.slots;
      counted = counted_behind present.value.format count (live_area present.value.generation c) (live_area present.value.generation d) records used log.counted
          (live_torn present.value.generation (used + 1) count c d moved fits);
    }

either_within : (first : Bool) → (if first then 4096 else 0) < 8192
either_within true = omega arith
either_within false = omega arith

-- both slots stand before the areas
pub other_within : (place : ℕ) → other place < 8192
other_within place = either_within (place == 0)

-- slots that a disk holds it holds where it is torn behind them
pub holds_torn : (slots : SlotsValue) (at count : ℕ) (c d : List ℕ) → HoldsSlots slots c → slots.present.next < 8192 → Torn at count c d → 8192 ≤ at → HoldsSlots slots d
holds_torn slots at count c d holds within torn behind = record {
  say = slots_torn (2 ^ 62) at count c d torn behind ∙ holds.say;
  gate = ap (λ (b : ℕ). b == 1) (torn_get_before at count slots.present.next c d torn (omega arith)) ∙ holds.gate;
  live = ap (λ (b : ℕ). b == 1) (torn_get_before at count (other slots.present.next) c d torn (omega (arith, other_within slots.present.next))) ∙ holds.live;
}

-- ---- the next gate

-- the batch that waits stands behind the next gate, which is closed, and a closed gate stands behind it
pub record IsStaged (present : Present) (records waiting : List Record) (used : ℕ) (part c : List ℕ) : Type 0 where
  pub log : IsLog present records used c
  pub format : present.value.format ≡ 1
  pub spelled : SpellsBatch 1 waiting (1 ∷ part)
  pub there : range (gate_of present used c + 1) (length part + 1) c ≡ part ++ 0 ∷ []
  pub fits : used + 1 + (length part + 1) ≤ half (length c)
  pub least : 8192 ≤ length c

-- a byte of the live area
live_byte : (generation at : ℕ) (c : List ℕ) → at < half (length c) → get_or (live_area generation c) at 0 ≡ get_or c (area_start (length c) generation + at) 0
live_byte generation at c within =
    get_or-take (half (length c)) (drop (area_start (length c) generation) c) at 0 within ∙ get_or-drop (area_start (length c) generation) c at 0

module _ (present : Present) (records waiting : List Record) (used : ℕ) (part c d : List ℕ) (staged : IsStaged present records waiting used part c)
    (torn : Torn (gate_of present used c) 1 c d) where
  gate_torn : Torn used 1 (live_area present.value.generation c) (live_area present.value.generation d)
  gate_torn = live_torn present.value.generation used 1 c d torn (omega (arith, staged.fits))

  gate_slots : slots_in (2 ^ 62) d ≡ Ok present
  gate_slots =
      let within = area_within (length c) present.value.generation staged.least in
      slots_torn (2 ^ 62) (gate_of present used c) 1 c d torn (omega (arith, within)) ∙ staged.log.slots

  gate_byte : get_or (live_area present.value.generation d) used 0 ≡ get_or d (gate_of present used c) 0
  gate_byte =
      let within : used < half (length d) = subst (λ (n : ℕ). used < half n) (sym torn.as_long) (omega (arith, staged.fits)) in
      live_byte present.value.generation used d within
      ∙ ap (λ (n : ℕ). get_or d (area_start n present.value.generation + used) 0) torn.as_long

  batch_there : range (used + 1) (length part + 1) (live_area present.value.generation d) ≡ part ++ 0 ∷ []
  batch_there =
      let place : area_start (length c) present.value.generation + (used + 1) ≡ gate_of present used c + 1 = omega arith in
      ap (take (length part + 1)) gate_torn.after
      ∙ live_range present.value.generation (used + 1) (length part + 1) c staged.fits
      ∙ ap (λ (n : ℕ). range n (length part + 1) c) place ∙ staged.there

  -- with the gate closed it is the log of before
  pub log_closed : get_or d (gate_of present used c) 0 ≢ 1 → IsLog present records used d
  log_closed closed = record {
    slots = gate_slots;
    counted = counted_closed present.value.format (live_area present.value.generation c) (live_area present.value.generation d) records used staged.log.counted gate_torn.before
        (λ is_one. closed (sym gate_byte ∙ is_one));
  }

  -- with the gate open the waiting batch is part of it
  pub log_whole : get_or d (gate_of present used c) 0 ≡ 1 → IsLog present (records ++ waiting) (used + batch_length waiting) d
  log_whole is_one = record {
    slots = gate_slots;
    counted = subst (λ (f : ℕ). IsCounted f (live_area present.value.generation d) (records ++ waiting) (used + batch_length waiting)) (sym staged.format)
        (counted_whole (live_area present.value.generation c) (live_area present.value.generation d) records waiting used part
        (subst (λ (f : ℕ). IsCounted f (live_area present.value.generation c) records used) staged.format staged.log.counted) gate_torn.before staged.spelled batch_there
        (gate_byte ∙ is_one));
  }

  -- one of the two, whatever the byte
  pub log_old_or_whole : IsLog present records used d ⊎ IsLog present (records ++ waiting) (used + batch_length waiting) d
  log_old_or_whole = elim (cases_eq (get_or d (gate_of present used c) 0) 1) [ inl is_one ↦ inr (log_whole is_one) | inr closed ↦ inl (log_closed closed) ]

-- ---- what was written

pub log_staged : (present : Present) (records waiting : List Record) (used : ℕ) (part bytes c d : List ℕ) → IsLog present records used c → present.value.format ≡ 1
    → SpellsBatch 1 waiting (1 ∷ part) → bytes ≡ part ++ 0 ∷ [] → used + 1 + length bytes ≤ half (length c) → 8192 ≤ length c
    → d ≡ with_range c (gate_of present used c + 1) bytes → IsStaged present records waiting used part d
log_staged present records waiting used part bytes c d log format spelled closed fits least written =
    let within = area_within (length c) present.value.generation least in
    let in_range : gate_of present used c + 1 + length bytes ≤ length c = omega (arith, within) in
    let long : length bytes ≡ length part + 1 = ap length closed ∙ length-append part (0 ∷ []) in
    let torn : Torn (gate_of present used c + 1) (length bytes) c d =
    subst (Torn (gate_of present used c + 1) (length bytes) c) (sym written) (torn_with_range (gate_of present used c + 1) bytes c in_range) in
    let there : range (gate_of present used c + 1) (length bytes) d ≡ bytes =
    ap (range (gate_of present used c + 1) (length bytes)) written ∙ put_range (gate_of present used c + 1) c bytes in_range in
    record {
      log = log_behind present records used (length bytes) c d log least torn fits;
      format = format;
      spelled = spelled;
      there = subst (λ (n : ℕ). range (area_start n present.value.generation + used + 1) (length part + 1) d ≡ part ++ 0 ∷ []) (sym torn.as_long)
          (subst (λ (n : ℕ). range (gate_of present used c + 1) n d ≡ part ++ 0 ∷ []) long (there ∙ closed));
      fits = subst (λ (n : ℕ). used + 1 + (length part + 1) ≤ half n) (sym torn.as_long) (subst (λ (n : ℕ). used + 1 + n ≤ half (length c)) long fits);
      least = omega (arith, torn.as_long, least);
    }

-- ---- the slots

drop_behind : (at : ℕ) (c d : List ℕ) → 8192 ≤ at → drop 8192 d ≡ drop 8192 c → drop at d ≡ drop at c
drop_behind at c d behind same =
    let e : at ≡ 8192 + (at - 8192) = omega arith in
    ap (λ (n : ℕ). drop n d) e ∙ sym (drop-drop (at - 8192) 8192 d) ∙ ap (drop (at - 8192)) same ∙ drop-drop (at - 8192) 8192 c ∙ ap (λ (n : ℕ). drop n c) (sym e)

pub as_long_behind : (c d : List ℕ) → 8192 < length c → drop 8192 d ≡ drop 8192 c → length d ≡ length c
as_long_behind c d least same = omega (arith, sym (length-drop 8192 d) ∙ ap length same ∙ length-drop 8192 c)

-- another image with the same bytes behind the slots has the same records, and what its own slots say
pub log_slots : (old new : Present) (records : List Record) (used : ℕ) (c d : List ℕ) → IsLog old records used c → 8192 < length c → drop 8192 d ≡ drop 8192 c
    → slots_in (2 ^ 62) d ≡ Ok new → new.value.format ≡ old.value.format → new.value.generation ≡ old.value.generation → IsLog new records used d
log_slots old new records used c d log least same says format generation =
    let within = area_within (length c) old.value.generation (omega arith) in
    let area : live_area old.value.generation d ≡ live_area old.value.generation c =
    ap (λ (n : ℕ). range (area_start n old.value.generation) (half n) d) (as_long_behind c d least same)
    ∙ ap (take (half (length c))) (drop_behind (area_start (length c) old.value.generation) c d within.least same) in
    record {
      slots = says;
      counted = rw (format, generation, area) log.counted;
    }
