-- A node whose log has room for all that is kept there is roomy after each event, and as it starts again over what a power cut leaves.
use Rattle.std.proofs.Common.{◌≡◌, ◌⊎◌, ◌∙◌, ap, subst, sym, refl, inl, inr, ℕ, ◌+◌, ◌≤◌, arith, Bool, true, false, List, [], ◌++◌}
use Rattle.std.proofs.lemmas.List.{append-nil}
use Rattle.std.specs.Global.{Global}
use Rattle.std.specs.List.{list_all}
use Rattle.std.specs.Prelude.{Result, Ok}
use Rattle.qs_log_batch.proofs.AreaLemmas.{counted_one}
use Rattle.qs_log_batch.specs.Batch.{IsCounted}
use Rattle.qs_disk.proofs.Moments.{keeps_weaken}
use Rattle.qs_disk.specs.Disk.{DiskState, EachImage}
use Rattle.qs_disk.specs.Fuse.{FusedValue}
use Rattle.qs_disk.specs.Moments.{Keeps}
use Rattle.qs_files.specs.declared.files.Files.{Files}
use Rattle.qs_node_room.proofs.Short.{each_log_is_short}
use Rattle.qs_node_room.specs.Kept.{kept_of, total}
use Rattle.qs_node_room.specs.Logs.{HasRooms}
use Rattle.qs_node_room.specs.Opens.{are_named, is_short}
use Rattle.qs_node_host.proofs.Rooms.{after_roomy, images_roomy, lacks_none, opened_roomy, worked_roomy}
use Rattle.qs_node_host.specs.Host.{HostValue, IsOldOrAfter, worked_node}
use Rattle.qs_node_host.specs.Roomy.{HasRoomyLog, IsRoomyHost, IsWorkedRoomy}
use Rattle.qs_log_start.specs.Incarnation.{IsLeftOrRaised, IsOldOrRaised, IsReopened}
use Rattle.qs_log_start.specs.declared.counts.FaultCounts.{FaultCounts}
use Rattle.qs_book_journal.specs.declared.entry.CrashCause.{CrashCause}
use Rattle.qs_log.specs.Image.{IsLog, half, live_area}
use Rattle.qs_log.specs.Log.{LogValue, raised_of, records_of}
use Rattle.qs_ops.specs.declared.no_server.NoServer.{NoServer}
use Rattle.qs_record.specs.declared.record.Record.{Record}
use Rattle.qs_restart.specs.Recovery.{recovery}
use Rattle.qs_slot.specs.Slot.{Present}
use Rattle.qs_node_step.specs.declared.setting.Setting.{Setting}
use Rattle.qs_cell_chronicle.specs.Occasions.{event_of}
use Rattle.qs_cell_chronicle.specs.declared.occasion.Occasion.{Occasion}
use Rattle.qs_cell.specs.Cell.{IsFaulted, IsOutcome, IsRefused, out_of}
use Rattle.qs_cell.specs.Outcomes.{Outcome, outcome_of}
use Rattle.qs_cell.specs.Outcomes as outcomes
use Rattle.qs_cell.specs.Restart.{IsRestarted}
use Rattle.qs_cell.specs.Roomy.{ComesNew, ComesNewTo, IsRoomyNode, IsRoomyOutcome, IsSetToKeep, RisesRoomy, StartsRoomy}
use Rattle.qs_cell.specs.State.{Up, carried_of, disk_of, state_after, state_of}
use Rattle.qs_cell.specs.Within.{Begins}
use Rattle.qs_cell.specs.declared.running.Fate.{Fate}
use Rattle.qs_cell.specs.declared.running.Fate.TheVariants as fates
use Rattle.qs_cell.specs.declared.running.Running.{Running}
use Rattle.qs_cell.specs.declared.state.CellState.{CellState}
use Rattle.qs_cell.specs.declared.state.CellState.TheVariants as states
use Rattle.qs_cell.specs.declared.stopped.Rest.{Rest}
use Rattle.qs_cell.specs.declared.stopped.Restarted.{Restarted}
use Rattle.qs_cell.specs.declared.stopped.Restarted.TheVariants as restarts
use Rattle.qs_cell.specs.declared.stopped.Stopped.{Stopped}

-- ---- an event

module _ {D F X : Type 0} (keep size : ℕ) (occasion : Occasion) (old : Running D F X) (roomy : IsRoomyHost keep size old.host) (fresh : ComesNew size occasion old) where
  -- the host as it has worked the event out
  abbrev worked : HostValue (FusedValue D)
  worked = record { node = worked_node size old.host (event_of occasion); log = old.host.log }

  finds : IsWorkedRoomy keep size worked (out_of size occasion old)
  finds = worked_roomy keep size old.host worked (event_of occasion) (out_of size occasion old) roomy fresh refl refl refl

  -- a step that is cut off is so for want of memory, or by the disk
  not_full : (own : D → ℕ) (new : Stopped D) (b : Bool) → new.is_full ≡ b → IsRefused size occasion old new ⊎ IsFaulted own size occasion old new → new.is_full ≡ false
  not_full own new false is why = is
  not_full own new true is (inl refused) = absurd (lacks_none keep size worked (out_of size occasion old) finds (refused.full is))
  not_full own new true is (inr faulted) = faulted.full

  pub outcome_roomy : (own : D → ℕ) (outcome : Outcome D F X) → IsOutcome own size occasion old outcome → IsRoomyOutcome keep size outcome
  outcome_roomy own (outcomes.Whole running answers) is = after_roomy keep size worked running.host (out_of size occasion old) finds is.node is.log
  outcome_roomy own (outcomes.Followed stopped answers) is = is.full
  outcome_roomy own (outcomes.Replaced stopped) is = is.full
  outcome_roomy own (outcomes.CutOff stopped) is = not_full own stopped stopped.is_full refl is.why

  pub moments_roomy : (a b : DiskState) → Keeps (IsOldOrAfter (out_of size occasion old) old.host.log) a b → Keeps (HasRoomyLog keep size) a b
  moments_roomy a b keeps = images_roomy keep size worked (out_of size occasion old) a b finds keeps

-- a node that stops in place of an event does so for no full log
pub replaced_roomy : {D F X : Type 0} (keep size : ℕ) (fate : Fate) (cause : CrashCause) (running : Running D F X) → fate ≡ fates.Replaced cause
    → IsRoomyOutcome keep size (outcome_of fate running)
replaced_roomy keep size fate cause running is = subst (λ (f : Fate). IsRoomyOutcome keep size (outcome_of f running)) (sym is) refl

-- ---- an image has one log

same_present : (a b : Present) → ◌≡◌ {A = Result Present ℕ} (Ok a) (Ok b) → a ≡ b
same_present a b e = cc e

one_log : (p q : Present) (a b : List Record) (m n : ℕ) (image : List ℕ) → IsLog p a m image → IsLog q b n image → (a ≡ b) × (m ≡ n)
one_log p q a b m n image left right =
    let same : p ≡ q = same_present p q (sym left.slots ∙ right.slots) in
    counted_one p.value.format (live_area p.value.generation image) a b m n left.counted
    (subst (λ (r : Present). IsCounted r.value.format (live_area r.value.generation image) b n) (sym same) right.counted)

-- it has room whichever way it is told
pub room_as : (keep size : ℕ) (image : List ℕ) (present : Present) (records : List Record) (used : ℕ) → HasRoomyLog keep size image → IsLog present records used image
    → used + 1 + total (kept_of keep 0 records) ≤ half size
room_as keep size image present records used has log =
    let same = one_log has.present present has.records records has.used used image has.log log in
    subst (λ (n : ℕ). n + 1 + total (kept_of keep 0 records) ≤ half size) same.1 (subst (λ (rs : List Record). has.used + 1 + total (kept_of keep 0 rs) ≤ half size) same.0 has.rooms)

-- ---- a restart

pub raised_roomy : (keep size : ℕ) (content image : List ℕ) → HasRoomyLog keep size content → IsOldOrRaised content image → HasRoomyLog keep size image
raised_roomy keep size content image has touched = by touched.says
  where
    room : touched.used + 1 + total (kept_of keep 0 touched.records) ≤ half size
    room = room_as keep size content touched.present touched.records touched.used has touched.log

    by : IsLog touched.present touched.records touched.used image ⊎ IsLog (raised_of touched.present) touched.records touched.used image → HasRoomyLog keep size image
    by (inl log) = record { present = touched.present; records = touched.records; used = touched.used; log = log; rooms = room }
    by (inr log) = record { present = raised_of touched.present; records = touched.records; used = touched.used; log = log; rooms = room }

pub touched_roomy : (keep size : ℕ) (old a b : DiskState) → EachImage (HasRoomyLog keep size) old.now → Keeps (IsLeftOrRaised old) a b → Keeps (HasRoomyLog keep size) a b
touched_roomy keep size old a b here keeps = keeps_weaken (IsLeftOrRaised old) (HasRoomyLog keep size) a b each keeps
  where
    each : (image : List ℕ) → IsLeftOrRaised old image → HasRoomyLog keep size image
    each image (inl left) = here image left
    each image (inr raised) = raised_roomy keep size raised.content image (here raised.content raised.image) raised.says

-- the log that was opened has room where the content has
pub rooms_in : {D : Type 0} (keep size : ℕ) (content : List ℕ) (present : Present) (log : LogValue D) → HasRoomyLog keep size content → IsLog present log.forced log.used content
    → log.waiting ≡ [] → HasRooms keep (half size) log.used log.forced log.waiting × (list_all is_short (records_of log) ≡ true)
rooms_in keep size content present log has is waiting = (
  subst (λ (w : List Record). HasRooms keep (half size) log.used log.forced w) (sym waiting) (record { on_disk = room; with_waiting = none }),
  subst (λ (w : List Record). list_all is_short (log.forced ++ w) ≡ true) (sym waiting)
      (subst (λ (rs : List Record). list_all is_short rs ≡ true) (sym (append-nil log.forced)) (each_log_is_short present log.forced log.used content is)),
)
  where
    room : log.used + 1 + total (kept_of keep 0 log.forced) ≤ half size
    room = room_as keep size content present log.forced log.used has is

    zeros : (u t h : ℕ) → u + 1 + t ≤ h → u + 0 + 1 + t ≤ h
    zeros u t h all = grind (arith)

    none : log.used + 0 + 1 + total (kept_of keep 0 (log.forced ++ [])) ≤ half size
    none = subst (λ (rs : List Record). log.used + 0 + 1 + total (kept_of keep 0 rs) ≤ half size) (sym (append-nil log.forced)) (zeros log.used (total (kept_of keep 0 log.forced)) (half size) room)

-- and so has that of an image, where each has
pub rooms_of : {D : Type 0} (keep size : ℕ) (old : DiskState) (log : LogValue D) → EachImage (HasRoomyLog keep size) old.now → IsReopened old log
    → HasRooms keep (half size) log.used log.forced log.waiting × (list_all is_short (records_of log) ≡ true)
rooms_of keep size old log here is = rooms_in keep size is.content is.raised.present log (here is.content is.image) is.raised.records is.raised.waiting

-- a node that begins over it is roomy
pub begun_roomy : {D F X : Type 0} (own : D → ℕ) (alloc : Global) (keep size : ℕ) (old : DiskState) (log : LogValue (FusedValue D)) (rest : Rest) (before : FaultCounts)
    (restarted : Restarted D F X) → Begins own alloc log rest before restarted → IsSetToKeep keep rest.carried.setting → EachImage (HasRoomyLog keep size) old.now
    → IsReopened old log → RisesRoomy keep size restarted
begun_roomy {D} own alloc keep size old log rest before (restarts.Up running) is set here reopened =
    subst (λ (h : HostValue (FusedValue D)). are_named (recovery (records_of h.log)) ≡ true → IsRoomyHost keep size h) (sym is.host) (λ named.
    let found = rooms_of keep size old log here reopened in
    opened_roomy alloc keep size running.carried.setting rest.kept log (record {
      enough = set.enough;
      keep_is = ap (λ (s : Setting). s.keep) is.setting ∙ set.keep_is;
      extra_is = ap (λ (s : Setting). s.extra) is.setting ∙ set.extra_is;
      short = found.1;
      named = named;
      rooms = found.0;
    }))
begun_roomy own alloc keep size old log rest before (restarts.Down stopped why) is set here reopened = tt

-- ---- a node that is up, or down

pub state_roomy : {D : Type 0} (keep size : ℕ) (outcome : Outcome D Files NoServer) → IsRoomyOutcome keep size outcome → IsRoomyNode keep size (state_of outcome)
state_roomy keep size (outcomes.Whole running answers) is = is
state_roomy keep size (outcomes.Followed stopped answers) is = is
state_roomy keep size (outcomes.Replaced stopped) is = is
state_roomy keep size (outcomes.CutOff stopped) is = is

-- by how the event left it
pub node_roomy : {D : Type 0} (keep : ℕ) (size : D → ℕ) (occasion : Occasion) (from new : CellState D) (old running : Up D) (fate : Fate) → from ≡ states.Up old
    → new ≡ state_of (outcome_of fate running)
    → ((k : ℕ) → IsRoomyHost k (size old.host.log.disk.disk) old.host → ComesNew (size old.host.log.disk.disk) occasion old
    → IsRoomyOutcome k (size old.host.log.disk.disk) (outcome_of fate running))
    → IsRoomyNode keep (size (disk_of from).disk) from → ComesNewTo (size (disk_of from).disk) occasion from → IsRoomyNode keep (size (disk_of from).disk) new
node_roomy {D} keep size occasion from new old running fate up node rooms =
    subst (λ (n : CellState D). IsRoomyNode keep (size (disk_of n).disk) n → ComesNewTo (size (disk_of n).disk) occasion n → IsRoomyNode keep (size (disk_of n).disk) new) (sym up)
    (λ roomy fresh. subst (IsRoomyNode keep (size old.host.log.disk.disk)) (sym node) (state_roomy keep (size old.host.log.disk.disk) (outcome_of fate running) (rooms keep roomy fresh)))

starts_roomy : {D : Type 0} (own : D → ℕ) (alloc : Global) (keep size : ℕ) (old : Stopped D) (restarted : Restarted D Files NoServer) → old.is_full ≡ false
    → IsRestarted own alloc old restarted → RisesRoomy keep size restarted → StartsRoomy keep size (state_after restarted)
starts_roomy own alloc keep size old (restarts.Up running) none is rises = rises
starts_roomy own alloc keep size old (restarts.Down stopped why) none is rises = is.0.full ∙ none

pub restarted_roomy : {D : Type 0} (own : D → ℕ) (alloc : Global) (keep : ℕ) (size : D → ℕ) (state : D → DiskState) (from : CellState D) (old : Stopped D)
    (restarted : Restarted D Files NoServer) (new : CellState D) → from ≡ states.Down old → new ≡ state_after restarted → IsRestarted own alloc old restarted
    → ((k : ℕ) → IsSetToKeep k old.carried.setting → EachImage (HasRoomyLog k (size old.disk.disk)) (state old.disk.disk).now → RisesRoomy k (size old.disk.disk) restarted)
    → IsSetToKeep keep (carried_of from).setting → IsRoomyNode keep (size (disk_of from).disk) from
    → EachImage (HasRoomyLog keep (size (disk_of from).disk)) (state (disk_of from).disk).now → StartsRoomy keep (size (disk_of from).disk) new
restarted_roomy {D} own alloc keep size state from old restarted new down node is rises =
    subst (λ (n : CellState D). IsSetToKeep keep (carried_of n).setting → IsRoomyNode keep (size (disk_of n).disk) n
    → EachImage (HasRoomyLog keep (size (disk_of n).disk)) (state (disk_of n).disk).now → StartsRoomy keep (size (disk_of n).disk) new) (sym down)
    (λ set none here. subst (StartsRoomy keep (size old.disk.disk)) (sym node) (starts_roomy own alloc keep (size old.disk.disk) old restarted none is (rises keep set here)))

-- one that is left alone
pub stays_roomy : {D : Type 0} (keep size : ℕ) (node : CellState D) → IsRoomyNode keep size node → StartsRoomy keep size node
stays_roomy keep size (states.Up running) is = λ named. is
stays_roomy keep size (states.Down stopped) is = is
