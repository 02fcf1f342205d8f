-- What stands on the disk while the log of a node begins an incarnation: the records of before, whatever is opened and raised.
use Rattle.std.proofs.Common.{◌≡◌, ◌⊎◌, ◌∙◌, ◌<◌, ◌≤◌, ◌+◌, ◌^◌, ap, subst, sym, refl, inl, inr, ℕ, Bool, List, [], ◌∷◌, IsTrue, arith}
use Rattle.std.proofs.lemmas.List.{append_cancel_left}
use Rattle.std.specs.Prelude.{Result, Ok, Err, IfOk, IfErr, is_ok}
use Rattle.qs_log_batch.proofs.AreaLemmas.{broken_not_counted, counted_one}
use Rattle.qs_log_batch.specs.Batch.{Counts, IsCounted}
use Rattle.qs_disk.proofs.Moments.{keeps_trans, keeps_weaken, cut_keeps, cut_content}
use Rattle.qs_disk.specs.Disk.{DiskState, Frame, IsImage, EachImage, Cuts}
use Rattle.qs_disk.specs.Moments.{AtEach, Keeps}
use Rattle.qs_disk.specs.Fuse.{FusedValue}
use Rattle.qs_log_start.specs.Incarnation.{reopen_limit, IsRaisedLog, IsReopened, IsOldOrRaised, IsTouched, MayLeaveUnraised, IsLeftOrRaised, HasOneOf, IsLeftDamaged, HasLogBelow}
use Rattle.qs_log.specs.Image.{IsLog, live_area, InBatch, InSlot, IsDamaged}
use Rattle.qs_log.specs.Log.{LogValue, Stands, HasSameRecords, IsSameButFuse, raised_of, top_of, disk_of as log_disk}
use Rattle.qs_log.specs.Log.{IsOldOrRaised as IsOldOrRaisedLog}
use Rattle.qs_log.specs.declared.fault.LogOpen.{LogOpen}
use Rattle.qs_log.specs.declared.fault.OpenFault.TheVariants as open_faults
use Rattle.qs_record.specs.declared.record.Record.{Record}
use Rattle.qs_slot.specs.Slot.{Present, slots_in, StandBelow}
use Rattle.qs_slot.specs.Turning.{SlotsValue, SaysAsBefore}
use Rattle.qs_slot.proofs.Limits.{one_present, present_below, stand_below}
use Rattle.qs_slot.proofs.SlotLemmas.{slots_in-below}

-- ---- an image has one log

same_present : (a b : Present) → ◌≡◌ {A = Result Present ℕ} (Ok a) (Ok b) → a ≡ b
same_present a b e = cc e

pub one_log : (p q : Present) (a b : List Record) (m n : ℕ) (image : List ℕ) → IsLog p a m image → IsLog q b n image → a ≡ b
one_log p q a b m n image left right =
    let same : p ≡ q = same_present p q (sym left.slots ∙ right.slots) in
    (counted_one p.value.format (live_area p.value.generation image) a b m n left.counted
    (subst (λ (r : Present). IsCounted r.value.format (live_area r.value.generation image) b n) (sym same) right.counted)).0

-- ---- facts at each moment of one stretch

at_each_both : {A : Type 0} (P : List ℕ → Type 0) (Q : A → List ℕ → Type 0) (frames : List Frame) → AtEach P frames → ((x : A) → AtEach (Q x) frames)
    → AtEach (λ c. P c × ((x : A) → Q x c)) frames
at_each_both P Q [] here each = tt
at_each_both P Q (f ∷ fs) here each = ((λ c image. (here.0 c image, λ x. (each x).0 c image)), at_each_both P Q fs here.1 (λ x. (each x).1))

keeps_each : {A : Type 0} (P : List ℕ → Type 0) (Q : A → List ℕ → Type 0) (a b : DiskState) → Keeps P a b → ((x : A) → Keeps (Q x) a b)
    → Keeps (λ c. P c × ((x : A) → Q x c)) a b
keeps_each P Q a b kept each = record {
  between = kept.between;
  grows = kept.grows;
  each = at_each_both P Q kept.between kept.each
      (λ x. subst (AtEach (Q x)) (append_cancel_left a.past (each x).between kept.between (sym (each x).grows ∙ kept.grows)) (each x).each);
  here = λ c image. (kept.here c image, λ x. (each x).here c image);
}

-- ---- opening and raising

-- the content is a log that is raised, where what was opened stands with its content
pub raised_log : {D : Type 0} (limit : ℕ) (old new : LogValue D) (a b : DiskState) → Stands old b → b.content ≡ a.content
    → slots_in limit a.content ≡ Ok old.slots.present → old.waiting ≡ [] → new.slots.present ≡ raised_of old.slots.present → HasSameRecords old new
    → IsRaisedLog limit a.content new
raised_log limit old new a b stands content slots waiting raised same = record {
  present = old.slots.present;
  slots = slots;
  records = subst (λ (records : List Record). IsLog old.slots.present records new.used a.content) (sym same.forced)
      (subst (λ (used : ℕ). IsLog old.slots.present old.forced used a.content) (sym same.used)
      (subst (λ (c : List ℕ). IsLog old.slots.present old.forced old.used c) content stands.forced));
  raised = raised;
  waiting = same.waiting ∙ waiting;
}

pub raised_if : {D E : Type 0} (limit : ℕ) (old : LogValue D) (result : Result (LogValue D) E) (a b : DiskState) → Stands old b → b.content ≡ a.content
    → slots_in limit a.content ≡ Ok old.slots.present → old.waiting ≡ [] → IfOk result (λ new. new.slots.present ≡ raised_of old.slots.present)
    → IfOk result (HasSameRecords old) → IfOk result (IsRaisedLog limit a.content)
raised_if limit old (Ok new) a b stands content slots waiting raised same = raised_log limit old new a b stands content slots waiting raised same
raised_if limit old (Err e) a b stands content slots waiting raised same = raised

pub waiting_if : {D E : Type 0} (old : LogValue D) (result : Result (LogValue D) E) → old.waiting ≡ [] → IfOk result (HasSameRecords old) → IfOk result (λ new. new.waiting ≡ [])
waiting_if old (Ok new) waiting same = same.waiting ∙ waiting
waiting_if old (Err e) waiting same = same

-- a raise that fails finds no damage
pub not_damaged : {D T : Type 0} (P : ℕ → Type 0) (result : Result T (LogOpen D)) → IfErr result (λ back. back.why ≡ open_faults.DiskFailed)
    → IfErr result (λ back. (at : ℕ) → back.why ≡ open_faults.Damaged at → P at)
not_damaged P (Ok new) failed = failed
not_damaged P (Err back) failed = λ at damaged. absurd (cc (sym failed ∙ damaged))

-- another fuse before the disk changes nothing of it
pub armed_log : {D : Type 0} (limit : ℕ) (content : List ℕ) (old new : LogValue (FusedValue D)) → IsSameButFuse old new → IsRaisedLog limit content old → IsRaisedLog limit content new
armed_log limit content old new same raised = record {
  present = raised.present;
  slots = raised.slots;
  records = subst (λ (records : List Record). IsLog raised.present records new.used content) (sym same.records.forced)
      (subst (λ (used : ℕ). IsLog raised.present old.forced used content) (sym same.records.used) raised.records);
  raised = ap (λ (s : SlotsValue). s.present) same.slots ∙ raised.raised;
  waiting = same.records.waiting ∙ raised.waiting;
}

-- whatever the opening left is an image of before, or its content
pub opened_touches : (a b : DiskState) → Keeps (λ c. IsImage a.now c ⊎ (c ≡ a.content)) a b → Keeps (IsTouched a) a b
opened_touches a b keeps = keeps_weaken (λ c. IsImage a.now c ⊎ (c ≡ a.content)) (IsTouched a) a b (λ c here. elim here [ inl image ↦ inl image | inr same ↦ inr (inl same) ]) keeps

-- a limit that leaves the slots of the log room for the next ones
abbrev HasRoomIn : {D : Type 0} → LogValue D → List ℕ → Type 0
HasRoomIn log content = (limit : ℕ) × ((slots_in limit content ≡ Ok log.slots.present) × (top_of log.slots.present + 1 < limit))

-- and then whatever the raise leaves
pub raise_touches : {D : Type 0} (log : LogValue D) (a b c : DiskState) → Stands log b → b.content ≡ a.content
    → Keeps (λ x. IsImage a.now x ⊎ (x ≡ a.content)) a b → Keeps (IsOldOrRaisedLog log) b c
    → ((limit : ℕ) → slots_in limit b.content ≡ Ok log.slots.present → top_of log.slots.present + 1 < limit → Keeps (StandBelow limit) b c) → Keeps (IsTouched a) a c
raise_touches log a b c stands content opening raising below =
    keeps_trans (IsTouched a) a b c (opened_touches a b opening)
    (keeps_weaken (λ x. IsOldOrRaisedLog log x × ((room : HasRoomIn log b.content) → StandBelow room.0 x)) (IsTouched a) b c
    (λ image both. inr (inr (record {
      present = log.slots.present;
      records = log.forced;
      used = log.used;
      log = subst (λ (x : List ℕ). IsLog log.slots.present log.forced log.used x) content stands.forced;
      says = both.0;
      below = λ limit said fits. both.1 (limit, (subst (λ (x : List ℕ). slots_in limit x ≡ Ok log.slots.present) (sym content) said, fits));
    })))
    (keeps_each (IsOldOrRaisedLog log) (λ (room : HasRoomIn log b.content) x. StandBelow room.0 x) b c raising (λ room. below room.0 room.1.0 room.1.1)))

-- the slots of a log that was raised stand below one more
pub raised_below : {D : Type 0} (limit : ℕ) (log : LogValue (FusedValue D)) (state : D → DiskState) (a b : DiskState) (result : Result (LogValue (FusedValue D)) (LogOpen (FusedValue D)))
    → 0 < limit → b.content ≡ a.content → slots_in limit a.content ≡ Ok log.slots.present
    → ((big : ℕ) → slots_in big b.content ≡ Ok log.slots.present → top_of log.slots.present + 1 < big → Keeps (StandBelow big) b (state (log_disk result).disk))
    → IfOk result (λ new. EachImage (StandBelow (limit + 1)) (state new.disk.disk).now)
raised_below limit log state a b (Ok new) some content says below =
    let numbers = present_below limit a.content log.slots.present some says in
    (below (limit + 1)
    (subst (λ (x : List ℕ). slots_in (limit + 1) x ≡ Ok log.slots.present) (sym content) (slots_in-below limit (limit + 1) a.content log.slots.present (omega arith) says))
    (omega (arith, numbers.0, numbers.1))).here
raised_below limit log state a b (Err back) some content says below = tt

-- a log that was not opened may still be left as it was
pub unopened_leaves : (a b : DiskState) → IsImage b.now a.content → MayLeaveUnraised a b
unopened_leaves a b image = record { bytes = a.content; image = image; has = record { says = refl; behind = refl } }

-- nor is more lost where the raise fails
pub unraised_if : {D T : Type 0} (state : D → DiskState) (a b : DiskState) (result : Result T (LogOpen (FusedValue D))) → b.content ≡ a.content
    → IfErr result (λ back. MayLeaveUnraised b (state back.disk.disk)) → IfErr result (λ back. MayLeaveUnraised a (state back.disk.disk))
unraised_if state a b (Ok log) content left = left
unraised_if state a b (Err back) content left =
    record { bytes = left.bytes; image = left.image; has = subst (λ (c : List ℕ). SaysAsBefore c left.bytes) content left.has }

-- ---- records of before

held_on : (a b : List Record) (content image : List ℕ) → HasOneOf a b content → IsOldOrRaised content image → HasOneOf a b image
held_on a b content image (inl has) touched = inl (elim touched.says [
  | inl old ↦ (record { present = touched.present; used = touched.used; log = subst (λ (r : List Record). IsLog touched.present r touched.used image) same old })
  | inr new ↦ (record { present = raised_of touched.present; used = touched.used; log = subst (λ (r : List Record). IsLog (raised_of touched.present) r touched.used image) same new })
])
  where
    same : touched.records ≡ a
    same = one_log touched.present has.present touched.records a touched.used has.used content touched.log has.log
held_on a b content image (inr has) touched = inr (elim touched.says [
  | inl old ↦ (record { present = touched.present; used = touched.used; log = subst (λ (r : List Record). IsLog touched.present r touched.used image) same old })
  | inr new ↦ (record { present = raised_of touched.present; used = touched.used; log = subst (λ (r : List Record). IsLog (raised_of touched.present) r touched.used image) same new })
])
  where
    same : touched.records ≡ b
    same = one_log touched.present has.present touched.records b touched.used has.used content touched.log has.log

-- a disk that was touched after a power cut has them
pub touched_holds : (a b : List Record) (s t u : DiskState) (ok : Bool) → EachImage (HasOneOf a b) s.now → Cuts ok s t → IsTrue ok → Keeps (IsTouched t) t u → Keeps (HasOneOf a b) s u
touched_holds a b s t u ok here cuts done keeps =
    keeps_trans (HasOneOf a b) s t u (cut_keeps (HasOneOf a b) ok s t here cuts)
    (keeps_weaken (IsTouched t) (HasOneOf a b) t u (λ c touched. elim touched [
      | inl image ↦ here c (cuts.images c image)
      | inr other ↦ elim other [
        | inl same ↦ subst (HasOneOf a b) (sym same) (cut_content (HasOneOf a b) ok s t here cuts done)
        | inr raised ↦ held_on a b t.content c (cut_content (HasOneOf a b) ok s t here cuts done) raised
      ]
    ]) keeps)

-- and the log that was opened has one of them
pub found_holds : {D : Type 0} (limit : ℕ) (a b : List Record) (content : List ℕ) (log : LogValue D) → HasOneOf a b content → IsRaisedLog limit content log
    → (log.forced ≡ a) ⊎ (log.forced ≡ b)
found_holds limit a b content log (inl has) raised = inl (one_log raised.present has.present log.forced a log.used has.used content raised.records has.log)
found_holds limit a b content log (inr has) raised = inr (one_log raised.present has.present log.forced b log.used has.used content raised.records has.log)

-- ---- a power cut that did not fail

cut_is_done : {A E : Type 0} (cut : Result A E) (x : A) → cut ≡ Ok x → IsTrue (is_ok cut)
cut_is_done cut x e = rw e refl

pub reopened_if : {D A E F : Type 0} (s t : DiskState) (cut : Result A E) (x : A) (result : Result (LogValue D) F) → cut ≡ Ok x → Cuts (is_ok cut) s t
    → IfOk result (IsRaisedLog reopen_limit t.content) → IfOk result (IsReopened s)
reopened_if s t cut x (Ok log) done cuts raised = record { content = t.content; image = cuts.left (cut_is_done cut x done); raised = raised }
reopened_if s t cut x (Err e) done cuts raised = raised

pub found_if : {D A E F : Type 0} (s t : DiskState) (cut : Result A E) (x : A) (result : Result (LogValue D) F) → cut ≡ Ok x → Cuts (is_ok cut) s t
    → IfOk result (IsRaisedLog reopen_limit t.content)
    → IfOk result (λ log. (a b : List Record) → EachImage (HasOneOf a b) s.now → (log.forced ≡ a) ⊎ (log.forced ≡ b))
found_if s t cut x (Ok log) done cuts raised = λ a b here.
    found_holds reopen_limit a b t.content log (cut_content (HasOneOf a b) (is_ok cut) s t here cuts (cut_is_done cut x done)) raised
found_if s t cut x (Err e) done cuts raised = raised

pub kept_moments : {A E : Type 0} (s t u : DiskState) (cut : Result A E) (x : A) → cut ≡ Ok x → Cuts (is_ok cut) s t → Keeps (IsTouched t) t u
    → (a b : List Record) → EachImage (HasOneOf a b) s.now → Keeps (HasOneOf a b) s u
kept_moments s t u cut x done cuts keeps a b here = touched_holds a b s t u (is_ok cut) here cuts (cut_is_done cut x done) keeps

pub left_by_cut : (ok : Bool) (s t : DiskState) → Cuts ok s t → Keeps (IsLeftOrRaised s) s t
left_by_cut ok s t cuts = cut_keeps (IsLeftOrRaised s) ok s t (λ c image. inl image) cuts

-- each image is one that a power cut might have left, or has the log of one that is raised
left_or_raised : (s t u : DiskState) (ok : Bool) → Cuts ok s t → IsTrue ok → Keeps (IsTouched t) t u → Keeps (IsLeftOrRaised s) s u
left_or_raised s t u ok cuts done keeps =
    keeps_trans (IsLeftOrRaised s) s t u (left_by_cut ok s t cuts)
    (keeps_weaken (IsTouched t) (IsLeftOrRaised s) t u (λ c touched. elim touched [
      | inl image ↦ inl (cuts.images c image)
      | inr other ↦ elim other [
        | inl same ↦ inl (subst (IsImage s.now) (sym same) (cuts.left done))
        | inr raised ↦ inr (record { content = t.content; image = cuts.left done; says = raised })
      ]
    ]) keeps)

pub left_moments : {A E : Type 0} (s t u : DiskState) (cut : Result A E) (x : A) → cut ≡ Ok x → Cuts (is_ok cut) s t → Keeps (IsTouched t) t u → Keeps (IsLeftOrRaised s) s u
left_moments s t u cut x done cuts keeps = left_or_raised s t u (is_ok cut) cuts (cut_is_done cut x done) keeps

-- ---- damage

-- what is damaged once the power was cut is an image of before
pub damaged_left : {A E D F : Type 0} (s t : DiskState) (cut : Result A E) (x : A) (result : Result D (LogOpen F)) → cut ≡ Ok x → Cuts (is_ok cut) s t
    → IfErr result (λ back. (at : ℕ) → back.why ≡ open_faults.Damaged at → IsDamaged reopen_limit t.content at)
    → IfErr result (λ back. (at : ℕ) → back.why ≡ open_faults.Damaged at → IsLeftDamaged s at)
damaged_left s t cut x (Ok log) done cuts damaged = tt
damaged_left s t cut x (Err back) done cuts damaged = λ at is. record { content = t.content; image = cuts.left (cut_is_done cut x done); damaged = damaged at is }

-- an image with a log whose slots stand below the limit is damaged nowhere
has_no_damage : (limit at : ℕ) (image : List ℕ) → limit ≤ 2 ^ 62 → HasLogBelow limit image → IsDamaged limit image at → ⊥
has_no_damage limit at image low has (InSlot slots) = absurd (cc (sym has.below.1 ∙ slots))
has_no_damage limit at image low has (InBatch present place slots broken is) =
    let same : has.present ≡ present = same_present has.present present (sym has.log.slots ∙ slots_in-below limit (2 ^ 62) image present low slots) in
    broken_not_counted present.value.format has.log.counted.batches (live_area present.value.generation image) place
    (subst (λ (p : Present). Counts p.value.format has.log.counted.batches (live_area p.value.generation image)) same has.log.counted.counted) broken

pub never_damaged : (old : DiskState) (P : Type 0) (at : ℕ) → EachImage (HasLogBelow reopen_limit) old.now → IsLeftDamaged old at → P
never_damaged old P at each left = absurd (has_no_damage reopen_limit at left.content (omega arith) (each left.content left.image) left.damaged)

-- ---- slots below a limit

-- where those of the content stand below it, those of its log in the next incarnation stand below one more
raised_stand : (limit : ℕ) (content c : List ℕ) → 0 < limit → limit ≤ 2 ^ 62 → StandBelow limit content → IsOldOrRaised content c → StandBelow (limit + 1) c
raised_stand limit content c some low stand raised =
    let said : slots_in limit content ≡ Ok raised.present =
    subst (λ (p : Present). slots_in limit content ≡ Ok p) (one_present limit content stand.0 raised.present low stand.1 raised.log.slots) stand.1 in
    let numbers = present_below limit content raised.present some said in
    raised.below (limit + 1) (slots_in-below limit (limit + 1) content raised.present (omega arith) said) (omega (arith, numbers.0, numbers.1))

-- so do those of each image that a restart leaves
pub left_stand : (limit : ℕ) (old a b : DiskState) → 0 < limit → limit ≤ 2 ^ 62 → EachImage (StandBelow limit) old.now → Keeps (IsLeftOrRaised old) a b
    → Keeps (StandBelow (limit + 1)) a b
left_stand limit old a b some low here =
    keeps_weaken (IsLeftOrRaised old) (StandBelow (limit + 1)) a b (λ c left. elim left [
      | inl image ↦ stand_below limit (limit + 1) c (omega arith) (here c image)
      | inr raised ↦ raised_stand limit raised.content c some low (here raised.content raised.image) raised.says
    ])

-- an image that has one of two logs has it below that limit
pub has_below : (limit : ℕ) (a b : List Record) (image : List ℕ) → HasOneOf a b image → StandBelow limit image → HasLogBelow limit image
has_below limit a b image (inl has) stand = record { present = has.present; records = a; used = has.used; log = has.log; below = stand }
has_below limit a b image (inr has) stand = record { present = has.present; records = b; used = has.used; log = has.log; below = stand }
