-- The moments of a force: the batch is written behind the closed gate, and then the gate is opened.
use Rattle.std.specs.Prelude.{OnOk}
use Rattle.std.proofs.Common.{◌≡◌, ◌≤◌, ◌<◌, ◌+◌, ℕ, Result, Ok, Err, List, [], ◌∷◌, ◌++◌, length, get_or, refl, sym, ◌∙◌, ap, subst, arith, ◌⊎◌, inl}
use Rattle.std.proofs.lemmas.List.{length-append}
use Rattle.qs_log_batch.specs.Batch.{SpellsBatch, batch_length}
use Rattle.qs_log_batch.specs.Gathering.{IsSealed}
use Rattle.qs_disk.specs.Disk.{DiskState, IsStill, Torn, with_range}
use Rattle.qs_disk.specs.Moments.{Keeps}
use Rattle.qs_disk.proofs.Moments.{each_still, keeps_none, keeps_trans, keeps_weaken, torn_with_range}
use Rattle.qs_record.specs.declared.record.Record.{Record}
use Rattle.qs_log.specs.Image.{half, area_start, IsLog}
use Rattle.qs_log.specs.Log.{LogValue, Stands, IsOldOrWhole, IsReady, forced_of, waiting_length}
use Rattle.qs_log.proofs.Areas.{area_within, slots_torn}
use Rattle.qs_log_batch.proofs.BatchLemmas.{batch_long}
use Rattle.qs_slot.proofs.Ranges.{put_get}
use Rattle.qs_slot.specs.Slot.{SayTheSame}
use Rattle.qs_log.proofs.Images.{gate_of, IsStaged, log_behind, log_staged, log_whole, log_old_or_whole, holds_torn}

-- where some wait, they take a batch
pub waiting_is : (waiting : List Record) → 0 < length waiting → waiting_length waiting ≡ batch_length waiting
waiting_is [] some = absurd (omega (arith, some))
waiting_is (w ∷ ws) some = refl

module _ {D : Type 0} (log : LogValue D) (batch : List Record) (size gate : ℕ) (bytes : List ℕ) (s0 s1 s2 : DiskState) (r : IsReady log batch size gate s0)
    (sealed : IsSealed batch bytes) where
  spelled : SpellsBatch 1 log.waiting (1 ∷ sealed.part)
  spelled = subst (λ (rs : List Record). SpellsBatch 1 rs (1 ∷ sealed.part)) r.waiting sealed.spelled

  some : 0 < length log.waiting
  some = subst (λ (rs : List Record). 0 < length rs) r.waiting r.some

  batch_is : waiting_length log.waiting ≡ length sealed.part + 1
  batch_is = waiting_is log.waiting some ∙ sym (batch_long 1 log.waiting (1 ∷ sealed.part) spelled) ∙ omega arith

  bytes_are : length bytes ≡ waiting_length log.waiting
  bytes_are = ap length sealed.whole ∙ length-append sealed.part (0 ∷ []) ∙ sym batch_is

  gate_is : gate ≡ gate_of log.slots.present log.used s0.content
  gate_is = r.place ∙ ap (λ (n : ℕ). area_start n log.slots.present.value.generation + log.used) (sym r.sized)

  batch_fits : log.used + 1 + length bytes ≤ half (length s0.content)
  batch_fits = subst (λ (n : ℕ). log.used + 1 + length bytes ≤ half n) (sym r.sized) (omega (arith, bytes_are, r.fits))

  enough : 8192 ≤ length s0.content
  enough = omega (arith, r.sized, r.least)

  -- the batch lies within the disk
  pub batch_within : gate + 1 + length bytes ≤ size
  batch_within = let within = area_within size log.slots.present.value.generation (omega (arith, r.least)) in omega (arith, within, bytes_are, r.fits, r.place)

  left_old : (c : List ℕ) → Torn (gate + 1) (length bytes) s0.content c → IsOldOrWhole log c
  left_old c torn = inl (log_behind log.slots.present log.forced log.used (length bytes) s0.content c r.stands.forced enough
      (subst (λ (n : ℕ). Torn (n + 1) (length bytes) s0.content c) gate_is torn) batch_fits)

  -- while the batch is written each image has the old list
  pub first : Keeps (Torn (gate + 1) (length bytes) s0.content) s0 s1 → Keeps (IsOldOrWhole log) s0 s1
  first = keeps_weaken (Torn (gate + 1) (length bytes) s0.content) (IsOldOrWhole log) s0 s1 left_old

  staged : s1.content ≡ with_range s0.content (gate + 1) bytes → IsStaged log.slots.present log.forced log.waiting log.used sealed.part s1.content
  staged written = log_staged log.slots.present log.forced log.waiting log.used sealed.part bytes s0.content s1.content r.stands.forced r.format spelled sealed.whole batch_fits enough
      (subst (λ (n : ℕ). s1.content ≡ with_range s0.content (n + 1) bytes) gate_is written)

  as_long : s1.content ≡ with_range s0.content (gate + 1) bytes → length s1.content ≡ length s0.content
  as_long written = ap length written ∙ (torn_with_range (gate + 1) bytes s0.content (omega (arith, batch_within, r.sized))).as_long

  gate_is_here : s1.content ≡ with_range s0.content (gate + 1) bytes → gate ≡ gate_of log.slots.present log.used s1.content
  gate_is_here written = gate_is ∙ ap (λ (n : ℕ). area_start n log.slots.present.value.generation + log.used) (sym (as_long written))

  left_one : s1.content ≡ with_range s0.content (gate + 1) bytes → (c : List ℕ) → Torn gate 1 s1.content c → IsOldOrWhole log c
  left_one written c torn =
      subst (λ (n : ℕ). IsLog log.slots.present log.forced log.used c ⊎ IsLog log.slots.present (log.forced ++ log.waiting) (log.used + n) c) (sym (waiting_is log.waiting some))
      (log_old_or_whole log.slots.present log.forced log.waiting log.used sealed.part s1.content c (staged written)
      (subst (λ (n : ℕ). Torn n 1 s1.content c) (gate_is_here written) torn))

  -- while the gate is opened each image has the old list or the whole
  pub second : s1.content ≡ with_range s0.content (gate + 1) bytes → Keeps (Torn (gate + 1) (length bytes) s0.content) s0 s1 → Keeps (Torn gate 1 s1.content) s1 s2
      → Keeps (IsOldOrWhole log) s0 s2
  second written before after =
      keeps_trans (IsOldOrWhole log) s0 s1 s2 (first before) (keeps_weaken (Torn gate 1 s1.content) (IsOldOrWhole log) s1 s2 (left_one written) after)

  -- then the log with no record waiting stands
  pub settled : s1.content ≡ with_range s0.content (gate + 1) bytes → s2.content ≡ with_range s1.content gate (1 ∷ []) → IsStill s2
      → Stands (forced_of log) s2
  settled written opened still =
      let within = area_within size log.slots.present.value.generation (omega (arith, r.least)) in
      let in_range : gate + 1 ≤ length s1.content = omega (arith, batch_within, r.sized, as_long written) in
      let torn : Torn gate 1 s1.content s2.content = subst (Torn gate 1 s1.content) (sym opened) (torn_with_range gate (1 ∷ []) s1.content in_range) in
      let torn_before : Torn (gate + 1) (length bytes) s0.content s1.content =
      subst (Torn (gate + 1) (length bytes) s0.content) (sym written) (torn_with_range (gate + 1) bytes s0.content (omega (arith, batch_within, r.sized))) in
      let held = holds_torn log.slots (gate + 1) (length bytes) s0.content s1.content r.stands.slots r.next torn_before (omega (arith, within, r.place)) in
      record {
        still = still;
        slots = holds_torn log.slots gate 1 s1.content s2.content held r.next torn (omega (arith, within, r.place));
        forced = subst (λ (n : ℕ). IsLog log.slots.present (log.forced ++ log.waiting) (log.used + n) s2.content) (sym (waiting_is log.waiting some))
            (log_whole log.slots.present log.forced log.waiting log.used sealed.part s1.content s2.content (staged written)
            (subst (λ (n : ℕ). Torn n 1 s1.content s2.content) (gate_is_here written) torn)
            (subst (λ (n : ℕ). get_or s2.content n 0 ≡ 1) (gate_is_here written) (ap (λ (xs : List ℕ). get_or xs gate 0) opened ∙ put_get gate 1 s1.content (omega arith))));
      }

-- a sealed batch is as long as the batch
pub sealed_long : (batch : List Record) (bytes : List ℕ) → 0 < length batch → IsSealed batch bytes → length bytes ≡ waiting_length batch
sealed_long batch bytes some sealed =
    ap length sealed.whole ∙ length-append sealed.part (0 ∷ []) ∙ omega arith ∙ batch_long 1 batch (1 ∷ sealed.part) sealed.spelled ∙ sym (waiting_is batch some)

-- what an `Ok` gives of two facts that it gives
pub on_ok_both : {T E A B C : Type 0} (result : Result T E) → (A → B → C) → OnOk result A → OnOk result B → OnOk result C
on_ok_both (Ok value) f a b = f a b
on_ok_both (Err error) f a b = tt

pub on_ok_all : {T E C : Type 0} (result : Result T E) → C → OnOk result C
on_ok_all (Ok value) c = c
on_ok_all (Err error) c = tt

pub on_ok_map : {T E A B : Type 0} (result : Result T E) → (A → B) → OnOk result A → OnOk result B
on_ok_map (Ok value) f a = f a
on_ok_map (Err error) f a = tt

-- ---- the slots

-- they say the same while a batch is written behind them
pub header_stays : (s : DiskState) → IsStill s → Keeps (SayTheSame s.content) s s
header_stays s still = keeps_none (SayTheSame s.content) s (each_still (SayTheSame s.content) s still (λ limit. refl))

module _ (gate : ℕ) (bytes : List ℕ) (s0 s1 s2 : DiskState) (behind : 8192 ≤ gate) where
  pub header_first : Keeps (Torn (gate + 1) (length bytes) s0.content) s0 s1 → Keeps (SayTheSame s0.content) s0 s1
  header_first = keeps_weaken (Torn (gate + 1) (length bytes) s0.content) (SayTheSame s0.content) s0 s1
      (λ c torn limit. slots_torn limit (gate + 1) (length bytes) s0.content c torn (omega (arith, behind)))

  -- and while its gate is opened
  pub header_second : gate + 1 + length bytes ≤ length s0.content → s1.content ≡ with_range s0.content (gate + 1) bytes
      → Keeps (Torn (gate + 1) (length bytes) s0.content) s0 s1 → Keeps (Torn gate 1 s1.content) s1 s2 → Keeps (SayTheSame s0.content) s0 s2
  header_second fits written before after =
      let torn : Torn (gate + 1) (length bytes) s0.content s1.content =
      subst (Torn (gate + 1) (length bytes) s0.content) (sym written) (torn_with_range (gate + 1) bytes s0.content fits) in
      keeps_trans (SayTheSame s0.content) s0 s1 s2 (header_first before)
      (keeps_weaken (Torn gate 1 s1.content) (SayTheSame s0.content) s1 s2
      (λ c later limit. slots_torn limit gate 1 s1.content c later behind ∙ slots_torn limit (gate + 1) (length bytes) s0.content s1.content torn (omega (arith, behind)))
      after)
