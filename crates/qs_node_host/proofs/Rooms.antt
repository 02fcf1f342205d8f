-- A host whose log has room for all that is kept there stays so, and a step of it finds room for its records.
use Rattle.std.proofs.Common.{◌≡◌, ◌∙◌, ℕ, ◌+◌, ◌-◌, ◌≤◌, ◌<◌, arith, sym, subst, ap, refl, inl, inr, Bool, true, false, List, ◌∷◌, ◌++◌, length, get_or, take, drop, fold, suc}
use Rattle.std.proofs.Math.Seq.{drop-cons}
use Rattle.std.proofs.lemmas.List.{append-nil, take-append-drop}
use Rattle.std.specs.Prelude.{◌↔◌, Result, Ok, Err, IsErrAnd, IsErrOf}
use Rattle.std.specs.Global.{Global}
use Rattle.qs_disk.specs.Disk.{DiskState}
use Rattle.qs_disk.specs.Moments.{Keeps}
use Rattle.qs_disk.proofs.Moments.{keeps_weaken}
use Rattle.qs_node_room.proofs.EachOpens.{each_opens}
use Rattle.qs_node_room.proofs.LogsFit.{each_step_logs}
use Rattle.qs_node_room.specs.Fits.{AgreesAll, BeginsNew, IsEnough}
use Rattle.qs_node_room.specs.Kept.{kept_of, total}
use Rattle.qs_node_room.specs.Logs.{HasRooms, IsRoomyAfter}
use Rattle.qs_node_kept.specs.declared.kept.Kept.{Kept}
use Rattle.qs_log.specs.Image.{half}
use Rattle.qs_log.specs.Log.{IsFull, LogValue, need_of, records_of, room_of}
use Rattle.qs_log.specs.declared.fault.AppendFault.{AppendFault}
use Rattle.qs_log.specs.declared.fault.AppendFault.TheVariants as append_faults
use Rattle.qs_record.specs.declared.record.Record.{Record}
use Rattle.qs_restart.specs.declared.recovered.Recovered.{Recovered}
use Rattle.qs_node_room.specs.Room.{free_room, unended}
use Rattle.qs_node_step.specs.Opening.{opened_node, recovered_of}
use Rattle.qs_node_step.specs.Restarts.{begin_incarnation}
use Rattle.qs_node_step.specs.State.{NodeValue, work_on}
use Rattle.qs_node_step.specs.Step.{accept, after_step, effects_of}
use Rattle.qs_node_step.specs.declared.event.Effects.{Effects}
use Rattle.qs_node_step.specs.declared.event.Event.{Event}
use Rattle.qs_node_step.specs.declared.setting.Setting.{Setting}
use Rattle.qs_node_host.proofs.Carrying.{appended_each, host_with}
use Rattle.qs_node_host.specs.Host.{HostValue, IsLogAfter, IsOldOrAfter, appended, effects_at, forced_if, log_after, node_after, opened_host, with_record, worked_node}
use Rattle.qs_node_host.specs.Roomy.{BeginsNewAt, HasRoomyLog, IsFullFor, IsRoomyHost, IsWorkedRoomy, LacksRoom, OpensRoomy, refusal_of}
use Rattle.qs_node_host.specs.declared.fault.HostFault.{HostFault}
use Rattle.qs_node_host.specs.declared.fault.HostFault.TheVariants as faults

-- ---- a step

pub worked_roomy : {D : Type 0} (keep size : ℕ) (old new : HostValue D) (event : Event) (out : Effects) → IsRoomyHost keep size old → BeginsNewAt size old event
    → new.node ≡ worked_node size old event → new.log ≡ old.log → out ≡ effects_at size old event → IsWorkedRoomy keep size new out
worked_roomy {D} keep size old new event out roomy fresh node log is = record {
  enough = roomy.enough;
  after = subst (λ (n : NodeValue). After new.log out.records (accept n)) (sym node)
      (subst (λ (l : LogValue D). After l out.records (node_after size old event)) (sym log)
      (subst (λ (o : Effects). After old.log o.records (node_after size old event)) (sym is)
      (subst (λ (k : ℕ). After old.log (effects_of old.node event (free k)).records (after_step old.node event (free k))) (sym roomy.agrees.keep_is)
      (each_step_logs keep (half size) old.log.used old.log.forced old.log.waiting old.node event roomy.enough roomy.agrees roomy.rooms
      (subst (λ (k : ℕ). BeginsNew event (begin_incarnation (work_on old.node (free k)))) roomy.agrees.keep_is fresh)))));
}
  where
    After : LogValue D → List Record → NodeValue → Type 0
    After l made later = IsRoomyAfter keep (half size) l.used l.forced l.waiting made later

    free : ℕ → ℕ
    free k = free_room (room_of size old.log) k (unended (records_of old.log))

-- there is room for each record as its turn comes
pub lacks_none : {D : Type 0} (keep size : ℕ) (host : HostValue D) (out : Effects) → IsWorkedRoomy keep size host out → LacksRoom size host.log out.records → ⊥
lacks_none keep size host out roomy lacks = below _ _ (roomy.after.room.appends lacks.done lacks.rec lacks.more lacks.split) lacks.full
  where
    below : (n r : ℕ) → n ≤ r → r < n → ⊥
    below n r h k = absurd (omega (arith, h, k))

pub after_roomy : {D : Type 0} (keep size : ℕ) (host new : HostValue D) (out : Effects) → IsWorkedRoomy keep size host out → new.node ≡ accept host.node
    → IsLogAfter out host.log new.log → IsRoomyHost keep size new
after_roomy {D} keep size host new out roomy node log = record {
  enough = roomy.enough;
  agrees = subst (λ (n : NodeValue). AgreesAll keep 0 n (kept_of keep 0 (records_of new.log))) (sym node)
      (subst (λ (l : LogValue D). AgreesAll keep 0 (accept host.node) (kept_of keep 0 (records_of l))) (sym log) (agrees out.force));
  rooms = subst (λ (l : LogValue D). HasRooms keep (half size) l.used l.forced l.waiting) (sym log) (rooms out.force);
}
  where
    agrees : (due : Bool) → AgreesAll keep 0 (accept host.node) (kept_of keep 0 (records_of (forced_if due (appended out.records host.log))))
    agrees true = subst (λ (rs : List Record). AgreesAll keep 0 (accept host.node) (kept_of keep 0 rs)) (sym (append-nil (host.log.forced ++ (host.log.waiting ++ out.records)))) roomy.after.agrees
    agrees false = roomy.after.agrees

    rooms : (due : Bool) → HasRooms keep (half size) (forced_if due (appended out.records host.log)).used (forced_if due (appended out.records host.log)).forced
        (forced_if due (appended out.records host.log)).waiting
    rooms true = roomy.after.room.is_forced
    rooms false = roomy.after.room.waits

-- ---- what a power cut leaves of it

pub images_roomy : {D : Type 0} (keep size : ℕ) (host : HostValue D) (out : Effects) (old new : DiskState) → IsWorkedRoomy keep size host out
    → Keeps (IsOldOrAfter out host.log) old new → Keeps (HasRoomyLog keep size) old new
images_roomy {D} keep size host out old new roomy keeps = keeps_weaken (IsOldOrAfter out host.log) (HasRoomyLog keep size) old new each keeps
  where
    later : (due : Bool) → (forced_if due (appended out.records host.log)).used + 1 + total (kept_of keep 0 (forced_if due (appended out.records host.log)).forced) ≤ half size
    later true = roomy.after.room.is_forced.on_disk
    later false = roomy.after.room.is_lost.on_disk

    each : (image : List ℕ) → IsOldOrAfter out host.log image → HasRoomyLog keep size image
    each image (inl is) = record { present = host.log.slots.present; records = host.log.forced; used = host.log.used; log = is; rooms = roomy.after.room.is_lost.on_disk }
    each image (inr is) = record { present = (log_after out host.log).slots.present; records = (log_after out host.log).forced; used = (log_after out host.log).used; log = is; rooms = later out.force }

-- ---- a node opens

pub opened_roomy : {D : Type 0} (alloc : Global) (keep size : ℕ) (setting : Setting) (kept : Kept) (log : LogValue D) → OpensRoomy keep size setting log
    → IsRoomyHost keep size (opened_host alloc setting kept log)
opened_roomy alloc keep size setting kept log opens = record {
  enough = opens.enough;
  agrees = subst (λ (k : ℕ). AgreesAll k 0 node (kept_of k 0 (records_of log))) opens.keep_is
      (subst (λ (e : ℕ). AgreesAll setting.keep e node (kept_of setting.keep e (records_of log))) opens.extra_is
      (each_opens alloc setting (records_of log) kept enough opens.short opens.named));
  rooms = opens.rooms;
}
  where
    node : NodeValue
    node = opened_node alloc setting (recovered_of (records_of log)) kept

    enough : IsEnough setting.keep setting.extra
    enough = subst (λ (e : ℕ). IsEnough setting.keep e) (sym opens.extra_is) (subst (λ (k : ℕ). IsEnough k 0) (sym opens.keep_is) opens.enough)

-- ---- records that wait

-- there is none for the record whose turn it is
pub lacks_at : {D : Type 0} (size : ℕ) (old mid : LogValue D) (records : List Record) (i : ℕ) (rec d : Record) → i < length records → mid ≡ fold with_record old (take i records)
    → rec ≡ get_or records i d → IsFullFor size mid rec → LacksRoom size old records
lacks_at {D} size old mid records i rec d within so_far item full = record {
  done = take i records;
  rec = rec;
  more = drop (suc i) records;
  split = sym (take-append-drop i records) ∙ ap (λ (rest : List Record). take i records ++ rest) (drop-cons records i d within ∙ ap (λ (r : Record). r ∷ drop (suc i) records) (sym item));
  full = subst (λ (l : LogValue D). IsFullFor size l rec) (so_far ∙ appended_each old (take i records)) full;
}

-- the log takes a record exactly where it has room for it, but for want of memory
pub full_is : {D : Type 0} (size : ℕ) (log : LogValue D) (rec : Record) (result : Result ℕ AppendFault)
    → ((need room : ℕ) → IsErrOf result (append_faults.LogFull need room) ↔ IsFull size log rec need room)
    → (fault : AppendFault) → result ≡ Err fault → refusal_of fault ≡ faults.NoRoom → IsFullFor size log rec
full_is size log rec result full (append_faults.LogFull need room) is same =
    let f : IsFull size log rec need room = (full need room).0 is in
    subst (λ (n : ℕ). room_of size log < n) f.need_is (subst (λ (r : ℕ). r < need) f.room_is f.above)
full_is size log rec result full append_faults.NoMemory is same = absurd (cc same)

pub full_told : {D : Type 0} (size : ℕ) (log : LogValue D) (rec : Record) (result : Result ℕ AppendFault)
    → ((need room : ℕ) → IsErrOf result (append_faults.LogFull need room) ↔ IsFull size log rec need room)
    → IsFullFor size log rec → result ≡ Err (append_faults.LogFull (need_of log.waiting rec) (room_of size log))
full_told size log rec result full is = (full (need_of log.waiting rec) (room_of size log)).1 (record { need_is = refl; room_is = refl; above = is })

-- the error that a conversion gives
pub err_gives : {T E : Type 0} (r : Result T E) (P : E → Type 0) (e : E) → r ≡ Err e → IsErrAnd r P → P e
err_gives r P e is gives = subst (λ (x : Result _ _). IsErrAnd x P) is gives

pub gives_err : {T E : Type 0} (r : Result T E) (P : E → Type 0) (e : E) → ((x : E) → P x → x ≡ e) → IsErrAnd r P → r ≡ Err e
gives_err (Ok done) P e only gives = absurd gives
gives_err (Err x) P e only gives = ap Err (only x gives)

pub same_told : (f h : HostFault) → ◌≡◌ {A = Result Unit HostFault} (Err f) (Err h) → f ≡ h
same_told f h is = cc is

same_fault : (f h : AppendFault) → ◌≡◌ {A = Result ℕ AppendFault} (Err f) (Err h) → f ≡ h
same_fault f h is = cc is

-- what the log refused is told to have found no room exactly where there was none
pub refused_full : {D : Type 0} (size : ℕ) (log : LogValue D) (rec : Record) (result : Result ℕ AppendFault) (fault : AppendFault) (answer : Result Unit HostFault)
    → ((need room : ℕ) → IsErrOf result (append_faults.LogFull need room) ↔ IsFull size log rec need room) → result ≡ Err fault → IsErrAnd answer (λ e. e ≡ refusal_of fault)
    → (answer ≡ Err faults.NoRoom) ↔ IsFullFor size log rec
refused_full size log rec result fault answer full is gives = (
  (λ told. full_is size log rec result full fault is (sym (err_gives answer (λ e. e ≡ refusal_of fault) faults.NoRoom told gives))),
  (λ room. gives_err answer (λ e. e ≡ refusal_of fault) faults.NoRoom
      (λ e same. same ∙ ap refusal_of (same_fault fault (append_faults.LogFull (need_of log.waiting rec) (room_of size log)) (sym is ∙ full_told size log rec result full room))) gives),
)

-- ---- a node with its log, seen as one

module _ {D : Type 0} (keep : ℕ) (size : D → ℕ) (out : Effects) (host : HostValue D) (node : NodeValue) (log : LogValue D) (is : host_with node log ≡ host) where
  pub host_lacks : LacksRoom (size log.disk) log out.records → LacksRoom (size host.log.disk) host.log out.records
  host_lacks lacks = subst (λ (h : HostValue D). LacksRoom (size h.log.disk) h.log out.records) is lacks

  pub host_finds : IsWorkedRoomy keep (size host.log.disk) host out → LacksRoom (size log.disk) log out.records → ⊥
  host_finds worked lacks = lacks_none keep (size host.log.disk) host out worked (host_lacks lacks)

  pub host_stays : (later : NodeValue) (after : LogValue D) → later ≡ accept node → IsLogAfter out log after → IsWorkedRoomy keep (size host.log.disk) host out
      → IsRoomyHost keep (size host.log.disk) (host_with later after)
  host_stays later after node_is log_is =
      subst (λ (h : HostValue D). IsWorkedRoomy keep (size h.log.disk) h out → IsRoomyHost keep (size h.log.disk) (host_with later after)) is
      (λ worked. after_roomy keep (size log.disk) (host_with node log) (host_with later after) out worked node_is log_is)

  pub host_left : (state : D → DiskState) (end : DiskState) → Keeps (IsOldOrAfter out log) (state log.disk) end → IsWorkedRoomy keep (size host.log.disk) host out
      → Keeps (HasRoomyLog keep (size host.log.disk)) (state host.log.disk) end
  host_left state end keeps =
      subst (λ (h : HostValue D). IsWorkedRoomy keep (size h.log.disk) h out → Keeps (HasRoomyLog keep (size h.log.disk)) (state h.log.disk) end) is
      (λ worked. images_roomy keep (size log.disk) (host_with node log) out (state log.disk) end worked keeps)

-- as it opens
pub opens_roomy : {D : Type 0} (alloc : Global) (keep size : ℕ) (setting : Setting) (kept : Kept) (found : Recovered) (log mid : LogValue D) (node : NodeValue)
    → node ≡ opened_node alloc setting found kept → found ≡ recovered_of (records_of log) → mid ≡ log → OpensRoomy keep size setting log → IsRoomyHost keep size (host_with node mid)
opens_roomy {D} alloc keep size setting kept found log mid node node_is found_is same opens =
    subst (λ (n : NodeValue). IsRoomyHost keep size (host_with n mid)) (sym (node_is ∙ ap (λ (f : Recovered). opened_node alloc setting f kept) found_is))
    (subst (λ (l : LogValue D). IsRoomyHost keep size (host_with (opened_node alloc setting (recovered_of (records_of log)) kept) l)) (sym same)
    (opened_roomy alloc keep size setting kept log opens))
