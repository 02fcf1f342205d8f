-- What a step makes of the log, and what stands on the disk meanwhile: the records of before, or those of after it.
use Rattle.std.proofs.Common.{◌≡◌, ◌≢◌, ◌∙◌, refl, sym, subst, ap, inl, Bool, true, List, [], ◌∷◌, fold, append_assoc}
use Rattle.std.proofs.lemmas.List.{append-nil}
use Rattle.std.specs.Prelude.{Result, Ok, Err, OnErr}
use Rattle.std.proofs.lemmas.List.Sums.{fold-append}
use Rattle.qs_disk.specs.Disk.{DiskState, IsStill}
use Rattle.qs_disk.specs.Moments.{Keeps}
use Rattle.qs_disk.proofs.Moments.{keeps_none, each_still}
use Rattle.qs_log.specs.Log.{LogValue, Stands, IsOldOrWhole, records_of}
use Rattle.qs_record.specs.declared.record.Record.{Record}
use Rattle.qs_node_room.specs.Room.{Tids, after_record, unended}
use Rattle.qs_slot.specs.Slot.{SayTheSame}
use Rattle.qs_node_step.specs.declared.event.Effects.{Effects}
use Rattle.qs_node_step.specs.State.{NodeValue}
use Rattle.qs_node_host.specs.Host.{HostValue, AreUnended, HasBatch, HasEither, IsOldOrAfter, IsLogAfter, appended, with_record, forced_if}

-- ---- records that wait

-- one after the other
pub appended_each : {D : Type 0} (log : LogValue D) (records : List Record) → fold with_record log records ≡ appended records log
appended_each log [] = ap (λ (waiting : List Record). record log { waiting = waiting }) (sym (append-nil log.waiting))
appended_each log (r ∷ rs) =
    appended_each (with_record log r) rs ∙ ap (λ (waiting : List Record). record log { waiting = waiting }) (append_assoc log.waiting (r ∷ []) rs)

-- those of a list that was lent
pub appended_as : {D : Type 0} (old mid : LogValue D) (lent records : List Record) → lent ≡ records → mid ≡ fold with_record old lent → mid ≡ appended records old
appended_as old mid lent records same is = is ∙ appended_each old lent ∙ ap (λ (rs : List Record). appended rs old) same

-- the transactions that are not ended are those of the log, also once one more record waits
pub unended_one_more : {D : Type 0} (old new : LogValue D) (rec : Record) (before after : Tids) → new ≡ with_record old rec → after ≡ after_record before rec
    → AreUnended before old → AreUnended after new
unended_one_more {D} old new rec before after grown turned is =
    turned ∙ ap (λ (tids : Tids). after_record tids rec) is ∙ sym (fold-append after_record [] (records_of old) (rec ∷ []))
    ∙ ap unended (sym (ap (λ (log : LogValue D). records_of log) grown ∙ sym (append_assoc old.forced old.waiting (rec ∷ []))))

-- and where both stay
pub unended_same : {D : Type 0} (old new : LogValue D) (before after : Tids) → new ≡ old → after ≡ before → AreUnended before old → AreUnended after new
unended_same {D} old new before after same stays is = stays ∙ is ∙ ap (λ (log : LogValue D). unended (records_of log)) (sym same)

-- and where the records stay
pub unended_forced : {D : Type 0} (old new : LogValue D) (tids : Tids) → records_of new ≡ records_of old → AreUnended tids old → AreUnended tids new
unended_forced old new tids same is = is ∙ ap unended (sym same)

-- ---- a force, where one is due

pub forced_moments : {D : Type 0} (due : Bool) (log : LogValue D) (a b : DiskState) → due ≡ true → Keeps (IsOldOrWhole log) a b → Keeps (HasEither log (forced_if due log)) a b
forced_moments due log a b is kept = rw is kept

-- nothing was written
pub unwritten : {D : Type 0} (log new : LogValue D) (s t : DiskState) → t ≡ s → Stands log s → Keeps (HasEither log new) s t
unwritten log new s t same stands = rw same (keeps_none (HasEither log new) s (each_still (HasEither log new) s stands.still (inl stands.forced)))

-- and its slots say the same
pub unwritten_header : (s t : DiskState) → t ≡ s → IsStill s → Keeps (SayTheSame s.content) s t
unwritten_header s t same still = rw same (keeps_none (SayTheSame s.content) s (each_still (SayTheSame s.content) s still (λ limit. refl)))

-- they are those of the log that is forced
pub header_moments : (s a b : DiskState) → a ≡ s → Keeps (SayTheSame a.content) a b → Keeps (SayTheSame s.content) s b
header_moments s a b same kept = subst (λ (x : DiskState). Keeps (SayTheSame x.content) x b) same kept

-- where none waits it does not fail
pub some_waits : {D E : Type 0} (log : LogValue D) (P : Type 0) (result : Result Unit E) → (log.waiting ≡ [] → (result ≡ Ok tt) × P) → OnErr result (log.waiting ≢ [])
some_waits log P (Ok done) idle = tt
some_waits log P (Err fault) idle = λ none. cc ((idle none).0)

-- ---- the step

pub after_is : {D : Type 0} (out : Effects) (old mid new : LogValue D) → mid ≡ appended out.records old → new ≡ record (forced_if out.force mid) { disk = new.disk } → IsLogAfter out old new
after_is out old mid new is log = subst (λ (m : LogValue _). new ≡ record (forced_if out.force m) { disk = new.disk }) is log

pub after_moments : {D : Type 0} (out : Effects) (old mid : LogValue D) (s a b : DiskState) → mid ≡ appended out.records old → a ≡ s
    → Keeps (HasEither mid (forced_if out.force mid)) a b → Keeps (IsOldOrAfter out old) s b
after_moments out old mid s a b is same kept =
    subst (λ (m : LogValue _). Keeps (HasEither m (forced_if out.force m)) s b) is (subst (λ (x : DiskState). Keeps (HasEither mid (forced_if out.force mid)) x b) same kept)

pub batch_waits : {D : Type 0} (out : Effects) (old mid : LogValue D) → mid ≡ appended out.records old → out.force ≡ true → mid.waiting ≢ [] → HasBatch out old
batch_waits {D} out old mid is force some = record { force = force; batch = λ none. some (ap (λ (l : LogValue D). l.waiting) is ∙ none) }

-- ---- a node with its log

abbrev pub host_with : {D : Type 0} → NodeValue → LogValue D → HostValue D
host_with node log = record { node = node; log = log }

-- seen as one
pub host_moments : {D : Type 0} (out : Effects) (host : HostValue D) (node : NodeValue) (log : LogValue D) (state : D → DiskState) (end : DiskState)
    → host_with node log ≡ host → Keeps (IsOldOrAfter out log) (state log.disk) end → Keeps (IsOldOrAfter out host.log) (state host.log.disk) end
host_moments {D} out host node log state end is kept = subst (λ (h : HostValue D). Keeps (IsOldOrAfter out h.log) (state h.log.disk) end) is kept

pub host_header : {D : Type 0} (host : HostValue D) (node : NodeValue) (log : LogValue D) (state : D → DiskState) (end : DiskState) → host_with node log ≡ host
    → Keeps (SayTheSame (state log.disk).content) (state log.disk) end → Keeps (SayTheSame (state host.log.disk).content) (state host.log.disk) end
host_header {D} host node log state end is kept = subst (λ (h : HostValue D). Keeps (SayTheSame (state h.log.disk).content) (state h.log.disk) end) is kept
