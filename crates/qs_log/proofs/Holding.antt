-- What holds of each log, and what is seen of its parts.
use Rattle.std.proofs.Common.{◌≡◌, ◌≤◌, ◌<◌, ◌+◌, ◌-◌, ◌^◌, ◌==◌, ℕ, Bool, true, false, Result, Ok, Err, List, [], ◌∷◌, ◌++◌, length, take, drop, refl, sym, ◌∙◌, ap, subst, arith, inl}
use Rattle.std.specs.Prelude.{OnOk, OnErr}
use Rattle.std.proofs.lemmas.List.{append-nil, length-append, take-append-drop, take_all, drop_all, drop-append-le, take-append-le}
use Rattle.std.proofs.lemmas.Bool.Decides.{nat_tests}
use Rattle.std.proofs.lemmas.List.Sums.{sum_by-cons, sum_by_push}
use Rattle.qs_log_batch.specs.Batch.{batch_length}
use Rattle.qs_disk.specs.Disk.{DiskState, IsSize, IsStill}
use Rattle.qs_disk.specs.Moments.{Keeps}
use Rattle.qs_disk.proofs.Moments.{keeps_none, each_still}
use Rattle.qs_record.specs.Grammar.{record_length}
use Rattle.qs_record.specs.declared.record.Record.{Record}
use Rattle.qs_record.specs.declared.record.Record.TheVariants.{Prepare, Commit, Aborted, End}
use Rattle.qs_slot.specs.Opening.{IsWithin}
use Rattle.qs_slot.specs.Slot.{Present, is_format}
use Rattle.qs_slot.specs.Turning.{SlotsValue, HoldsSlots}
use Rattle.qs_log.specs.Image.{half, area_start, IsLog}
use Rattle.qs_log.specs.Log.{LogValue, Stands, IsKept, IsReady, IsForced, IsOldOrWhole, forced_of, records_of, room_of, need_of, waiting_length, raised_of}
use Rattle.qs_log.proofs.Areas.{area_within}
use Rattle.qs_log.proofs.Forcing.{waiting_is}
use Rattle.qs_log.proofs.Images.{other_within}

-- the test that none waits
pub some_waits : (batch : List Record) (none : Bool) → none ≡ (length batch == 0) → none ≡ false → 0 < length batch
some_waits [] none is_none waits = absurd (cc)
some_waits (r ∷ rs) none is_none waits = omega arith

-- parts of a list that are all of it
pub front_all : (records : List Record) (n : ℕ) → n ≡ length records → take n records ≡ records
front_all records n all = take_all n records (omega arith)

pub back_none : (records : List Record) (n : ℕ) → n ≡ length records → drop n records ≡ []
back_none records n all = drop_all n records (omega arith)

-- another disk of the same size, and the same batch
pub kept_same : (size next_size : ℕ) (slots : SlotsValue) (records : List Record) (forced : ℕ) (batch next_batch : List Record) (used : ℕ)
    → IsKept size slots records forced batch used → next_size ≡ size → next_batch ≡ batch → IsKept next_size slots records forced next_batch used
kept_same size next_size slots records forced batch next_batch used kept sizes batches = rw (sizes, batches) kept

-- what waits is short
pub waiting_short : (size : ℕ) (slots : SlotsValue) (records : List Record) (forced : ℕ) (batch : List Record) (used : ℕ)
    → IsKept size slots records forced batch used → 0 < length batch → used + waiting_length batch + 1 ≤ 8388608
waiting_short size slots records forced batch used kept some = let fits = kept.fits some in omega (arith, fits, kept.allowed.most)

-- the batch lies within the disk
pub gate_within : (size start : ℕ) (slots : SlotsValue) (records : List Record) (forced : ℕ) (batch : List Record) (used : ℕ)
    → IsKept size slots records forced batch used → 0 < length batch → start ≡ area_start size slots.present.value.generation
    → start + used + waiting_length batch + 1 ≤ size
gate_within size start slots records forced batch used kept some begins =
    let fits = kept.fits some in
    let within = area_within size slots.present.value.generation (omega (arith, kept.allowed.least)) in
    omega (arith, fits, within, begins)

-- a log that stands, with records that wait, is ready to be forced
pub ready_kept : {D : Type 0} (log : LogValue D) (size start : ℕ) (slots : SlotsValue) (records : List Record) (forced : ℕ) (batch : List Record) (used : ℕ) (disk : DiskState)
    → IsKept size slots records forced batch used → log.slots ≡ slots → log.waiting ≡ drop forced records → log.used ≡ used
    → 0 < length batch → start ≡ area_start size slots.present.value.generation → Stands log disk → length disk.content ≡ size
    → IsReady log batch size (start + used) disk
ready_kept log size start slots records forced batch used disk kept same_slots same_waiting same_used some begins stands sized =
    let waits : batch ≡ log.waiting = kept.gathered ∙ sym same_waiting in
    let fits = kept.fits some in
    record {
      stands = stands;
      waiting = waits;
      some = some;
      sized = sized;
      least = omega (arith, kept.allowed.least);
      format = ap (λ (s : SlotsValue). s.present.value.format) same_slots ∙ kept.format;
      next = subst (λ (s : SlotsValue). s.present.next < 8192) (sym same_slots) kept.next;
      fits = subst (λ (rs : List Record). log.used + waiting_length rs + 1 ≤ half size) waits (subst (λ (n : ℕ). n + waiting_length batch + 1 ≤ half size) (sym same_used) fits);
      place = ap (λ (n : ℕ). n + used) begins ∙ ap (λ (n : ℕ). area_start size slots.present.value.generation + n) (sym same_used)
          ∙ ap (λ (s : SlotsValue). area_start size s.present.value.generation + log.used) (sym same_slots);
    }

-- once all are forced none waits
pub kept_forced : (size next_size : ℕ) (slots : SlotsValue) (records : List Record) (forced count : ℕ) (batch next_batch : List Record) (used taken : ℕ)
    → IsKept size slots records forced batch used → 0 < length batch → taken ≡ waiting_length batch → count ≡ length records → next_batch ≡ [] → next_size ≡ size
    → IsKept next_size slots records count next_batch (used + taken)
kept_forced size next_size slots records forced count batch next_batch used taken kept some takes all none sizes =
    let fits = kept.fits some in
    rw (sizes, none) (record {
      allowed = kept.allowed;
      split = omega arith;
      gathered = sym (back_none records count all);
      format = kept.format;
      next = kept.next;
      within = omega (arith, fits, takes);
      fits = λ waits. absurd (omega (arith, waits));
    })

-- logs with the same slots, records and bytes stand alike
pub stands_same : {D : Type 0} (log next : LogValue D) (disk : DiskState) → Stands log disk → next.slots ≡ log.slots → next.forced ≡ log.forced → next.used ≡ log.used → Stands next disk
stands_same log next disk stands same_slots same_forced same_used = record {
  still = stands.still;
  slots = rw same_slots stands.slots;
  forced = rw (same_slots, same_forced, same_used) stands.forced;
}

-- one more waits
pub kept_more : (size : ℕ) (slots : SlotsValue) (records next_records : List Record) (forced : ℕ) (batch next_batch : List Record) (used : ℕ) (r : Record)
    → IsKept size slots records forced batch used → next_records ≡ records ++ r ∷ [] → next_batch ≡ batch ++ r ∷ []
    → used + waiting_length (batch ++ r ∷ []) + 1 ≤ half size → IsKept size slots next_records forced next_batch used
kept_more size slots records next_records forced batch next_batch used r kept more_records more_batch fits = rw (more_records, more_batch) (record {
  allowed = kept.allowed;
  split = omega (arith, kept.split, length-append records (r ∷ []));
  gathered = ap (λ (rs : List Record). rs ++ r ∷ []) kept.gathered ∙ sym (drop-append-le forced records (r ∷ []) kept.split);
  format = kept.format;
  next = kept.next;
  within = kept.within;
  fits = λ waits. fits;
})

-- what a record needs is what the waiting batch grows by
pub waiting_more : (batch : List Record) (r : Record) → waiting_length (batch ++ r ∷ []) ≡ waiting_length batch + need_of batch r
waiting_more [] r = omega (arith, sum_by-cons record_length r [])
waiting_more (w ∷ ws) r = omega (arith, sum_by_push record_length (w ∷ ws) r)

-- the raised slots are known and in range
pub kept_raised : (size next_size : ℕ) (slots next_slots : SlotsValue) (records : List Record) (forced : ℕ) (batch : List Record) (used : ℕ)
    → IsKept size slots records forced batch used → next_size ≡ size → next_slots.present ≡ raised_of slots.present → IsKept next_size next_slots records forced batch used
kept_raised size next_size slots next_slots records forced batch used kept sizes turns = rw sizes (record {
  allowed = kept.allowed;
  split = kept.split;
  gathered = kept.gathered;
  format = ap (λ (p : Present). p.value.format) turns ∙ kept.format;
  next = subst (λ (p : Present). p.next < 8192) (sym turns) (other_within slots.present.next);
  within = kept.within;
  fits = kept.fits;
})

-- the slots are as they were
pub kept_slots : (size next_size : ℕ) (slots next_slots : SlotsValue) (records : List Record) (forced : ℕ) (batch : List Record) (used : ℕ)
    → IsKept size slots records forced batch used → next_size ≡ size → next_slots ≡ slots → IsKept next_size next_slots records forced batch used
kept_slots size next_size slots next_slots records forced batch used kept sizes same = rw (sizes, same) kept

-- ---- one record more

record_some : (r : Record) → 0 < record_length r
record_some (Prepare tid server covers changes) = omega arith
record_some (Commit tid told) = omega arith
record_some (Aborted tid) = omega arith
record_some (End tid) = omega arith

need_some : (batch : List Record) (r : Record) → 0 < need_of batch r
need_some [] r = omega arith
need_some (w ∷ ws) r = record_some r

-- a log with the parts of its holder
pub record IsSeen {D : Type 0} (log : LogValue D) (slots : SlotsValue) (records : List Record) (forced used : ℕ) : Type 0 where
  pub slots_are : log.slots ≡ slots
  pub forced_are : log.forced ≡ take forced records
  pub waiting_are : log.waiting ≡ drop forced records
  pub used_is : log.used ≡ used

-- the view of a holder's parts
abbrev pub view_of : {D : Type 0} → D → SlotsValue → List Record → ℕ → ℕ → LogValue D
view_of disk slots records forced used = record { disk = disk; slots = slots; forced = take forced records; waiting = drop forced records; used = used }

pub seen_view : {D : Type 0} (log : LogValue D) (disk : D) (slots : SlotsValue) (records : List Record) (forced used : ℕ)
    → view_of disk slots records forced used ≡ log → IsSeen log slots records forced used
seen_view {D} log disk slots records forced used is = subst (λ (v : LogValue D). IsSeen v slots records forced used) is
    (record { slots_are = refl; forced_are = refl; waiting_are = refl; used_is = refl })

pub all_seen : {D : Type 0} (log : LogValue D) (slots : SlotsValue) (records : List Record) (forced used : ℕ) → IsSeen log slots records forced used → records_of log ≡ records
all_seen log slots records forced used seen = rw (seen.forced_are, seen.waiting_are) (take-append-drop forced records)

-- a record for which there is room fits behind the waiting ones
pub more_fits : {D : Type 0} (log : LogValue D) (size : ℕ) (slots : SlotsValue) (records : List Record) (forced : ℕ) (batch : List Record) (used need room : ℕ) (r : Record)
    → IsKept size slots records forced batch used → IsSeen log slots records forced used → need ≡ need_of log.waiting r → room ≡ room_of size log → need ≤ room
    → used + waiting_length (batch ++ r ∷ []) + 1 ≤ half size
more_fits log size slots records forced batch used need room r kept seen need_is room_is fits =
    let waits : log.waiting ≡ batch = seen.waiting_are ∙ sym kept.gathered in
    let needs : need ≡ need_of batch r = need_is ∙ ap (λ (rs : List Record). need_of rs r) waits in
    let rooms : room ≡ half size - used - waiting_length batch - 1 =
    room_is ∙ ap (λ (n : ℕ). half size - n - waiting_length log.waiting - 1) seen.used_is ∙ ap (λ (rs : List Record). half size - used - waiting_length rs - 1) waits in
    let some = need_some batch r in
    omega (arith, needs, rooms, fits, some, waiting_more batch r)

pub batch_small : (size used : ℕ) (batch : List Record) (r : Record) → IsSize size → used + waiting_length (batch ++ r ∷ []) + 1 ≤ half size → batch_length (batch ++ r ∷ []) < 2 ^ 32
batch_small size used batch r allowed fits =
    let is = waiting_is (batch ++ r ∷ []) (omega (arith, length-append batch (r ∷ []))) in omega (arith, allowed.most, fits, is)

-- the parts after a record was added, or none was
pub kept_added : {T E : Type 0} (result : Result T E) (size : ℕ) (slots : SlotsValue) (records next_records : List Record) (forced : ℕ) (batch next_batch : List Record) (used : ℕ) (r : Record)
    → IsKept size slots records forced batch used → OnOk result (next_records ≡ records ++ r ∷ []) → OnOk result (next_batch ≡ batch ++ r ∷ [])
    → OnErr result (next_records ≡ records) → OnErr result (next_batch ≡ batch)
    → used + waiting_length (batch ++ r ∷ []) + 1 ≤ half size → IsKept size slots next_records forced next_batch used
kept_added (Ok value) size slots records next_records forced batch next_batch used r kept more_records more_batch same_records same_batch fits =
    kept_more size slots records next_records forced batch next_batch used r kept more_records more_batch fits
kept_added (Err error) size slots records next_records forced batch next_batch used r kept more_records more_batch same_records same_batch fits = rw (same_records, same_batch) kept

-- what is seen with one record more
pub seen_more : {D : Type 0} (log next : LogValue D) (slots : SlotsValue) (records next_records : List Record) (forced used : ℕ) (r : Record)
    → IsSeen log slots records forced used → IsSeen next slots next_records forced used → next.disk ≡ log.disk → forced ≤ length records → next_records ≡ records ++ r ∷ []
    → next ≡ record log { waiting = log.waiting ++ r ∷ [] }
seen_more log next slots records next_records forced used r seen seen_next same split more =
    let front : next.forced ≡ log.forced = seen_next.forced_are ∙ ap (take forced) more ∙ take-append-le forced records (r ∷ []) split ∙ sym seen.forced_are in
    let back : next.waiting ≡ log.waiting ++ r ∷ [] =
    seen_next.waiting_are ∙ ap (drop forced) more ∙ drop-append-le forced records (r ∷ []) split ∙ ap (λ (rs : List Record). rs ++ r ∷ []) (sym seen.waiting_are) in
    let same_slots : next.slots ≡ log.slots = seen_next.slots_are ∙ sym seen.slots_are in
    let same_used : next.used ≡ log.used = seen_next.used_is ∙ sym seen.used_is in
    rw (sym same, sym same_slots, sym front, sym back, sym same_used) refl

-- whether a record was added or not, the log stands as before
pub added_stands : {D T E : Type 0} (result : Result T E) (log next : LogValue D) (slots : SlotsValue) (records next_records : List Record) (forced used : ℕ) (r : Record) (disk : DiskState)
    → IsSeen log slots records forced used → IsSeen next slots next_records forced used → forced ≤ length records
    → OnOk result (next_records ≡ records ++ r ∷ []) → OnErr result (next_records ≡ records) → Stands log disk → Stands next disk
added_stands (Ok value) log next slots records next_records forced used r disk seen seen_next split more same stands =
    stands_same log next disk stands (seen_next.slots_are ∙ sym seen.slots_are)
    (seen_next.forced_are ∙ ap (take forced) more ∙ take-append-le forced records (r ∷ []) split ∙ sym seen.forced_are) (seen_next.used_is ∙ sym seen.used_is)
added_stands (Err error) log next slots records next_records forced used r disk seen seen_next split more same stands =
    stands_same log next disk stands (seen_next.slots_are ∙ sym seen.slots_are) (seen_next.forced_are ∙ ap (take forced) same ∙ sym seen.forced_are) (seen_next.used_is ∙ sym seen.used_is)

-- the room shrinks by the need
pub room_less : {D : Type 0} (log next : LogValue D) (size need room : ℕ) (r : Record) → next ≡ record log { waiting = log.waiting ++ r ∷ [] }
    → need ≡ need_of log.waiting r → room ≡ room_of size log → need ≤ room → room_of size next + need_of log.waiting r ≡ room_of size log
room_less log next size need room r more need_is room_is fits = rw more (omega (arith, waiting_more log.waiting r, need_is, room_is, fits))

-- ---- forcing

pub none_waits : (batch : List Record) (none : Bool) → none ≡ (length batch == 0) → none ≡ true → batch ≡ []
none_waits [] none is_none holds = refl
none_waits (r ∷ rs) none is_none holds = absurd (grind (arith, nat_tests))

-- some records are not none
pub some_wait : (batch waiting : List Record) → 0 < length batch → batch ≡ waiting → waiting ≡ [] → ⊥
some_wait batch waiting some same none = let empty : length batch ≡ 0 = ap length (same ∙ none) in omega (arith, some, empty)

-- where none waits all is as it was
pub old_stays : {D : Type 0} (log : LogValue D) (s : DiskState) → Stands log s → Keeps (IsOldOrWhole log) s s
old_stays log s stands = keeps_none (IsOldOrWhole log) s (each_still (IsOldOrWhole log) s stands.still (inl stands.forced))

pub none_forced : {D : Type 0} (log : LogValue D) (batch : List Record) (none : Bool) → batch ≡ log.waiting → none ≡ (length batch == 0) → none ≡ true → IsForced log log
none_forced log batch none waits is_none holds =
    let empty : log.waiting ≡ [] = sym waits ∙ none_waits batch none is_none holds in
    record {
      none = empty;
      all = sym (append-nil log.forced) ∙ ap (λ (rs : List Record). log.forced ++ rs) (sym empty);
      used = rw empty (omega arith);
    }

-- the parts of a log once all its records are forced
pub forced_seen : {D : Type 0} (log next : LogValue D) (slots : SlotsValue) (records : List Record) (forced used count taken : ℕ) (batch : List Record)
    → IsSeen log slots records forced used → IsSeen next slots records count (used + taken) → batch ≡ drop forced records → taken ≡ waiting_length batch → count ≡ length records
    → IsForced log next
forced_seen log next slots records forced used count taken batch seen seen_next gathered takes all = record {
  none = seen_next.waiting_are ∙ back_none records count all;
  all = seen_next.forced_are ∙ front_all records count all ∙ sym (all_seen log slots records forced used seen);
  used = seen_next.used_is ∙ ap (λ (n : ℕ). n + taken) (sym seen.used_is) ∙ ap (λ (n : ℕ). log.used + n) (takes ∙ ap waiting_length (gathered ∙ sym seen.waiting_are));
}

pub forced_stands : {D : Type 0} (log next : LogValue D) (disk : DiskState) → IsForced log next → next.slots ≡ log.slots → Stands (forced_of log) disk → Stands next disk
forced_stands log next disk is_forced same stands = stands_same (forced_of log) next disk stands same is_forced.all is_forced.used

-- wherever the records are split, they are all
pub all_same : {D : Type 0} (log : LogValue D) (slots : SlotsValue) (records : List Record) (forced used count : ℕ) → IsSeen log slots records forced used
    → take count records ++ drop count records ≡ records_of log
all_same log slots records forced used count seen = take-append-drop count records ∙ sym (all_seen log slots records forced used seen)

-- ---- opening

known_format : (format : ℕ) → is_format format ≡ true → format ≡ 1
known_format format known = grind (arith, nat_tests)

pub kept_opened : (limit size : ℕ) (slots : SlotsValue) (records : List Record) (count : ℕ) (batch : List Record) (used : ℕ) → IsWithin limit slots.present → used ≤ half size → IsSize size
    → count ≡ length records → batch ≡ [] → IsKept size slots records count batch used
kept_opened limit size slots records count batch used below within allowed all none = rw none (record {
  allowed = allowed;
  split = omega arith;
  gathered = sym (back_none records count all);
  format = known_format slots.present.value.format below.format;
  next = let places = below.next in omega (arith, places);
  within = within;
  fits = λ waits. absurd (omega (arith, waits));
})

pub opened_stands : {D : Type 0} (disk : D) (slots : SlotsValue) (records : List Record) (count used : ℕ) (a b : DiskState) → b.content ≡ a.content → IsStill b
    → HoldsSlots slots a.content → IsLog slots.present records used a.content → count ≡ length records → Stands (view_of disk slots records count used) b
opened_stands disk slots records count used a b same still holds log all = record {
  still = still;
  slots = rw same holds;
  forced = rw (same, front_all records count all) log;
}
