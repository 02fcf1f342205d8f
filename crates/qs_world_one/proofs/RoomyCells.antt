-- A cell that has room in its log has it after each event and each restart, and as a run begins: so has each image of its disk, whether the node is up or down.
-- What is asked of the world, that what a client begins is new to the node and that what is found in its log is of transactions, is given.
use Rattle.std.proofs.Common.{◌≡◌, ◌∙◌, ap, subst, sym, ℕ, arith, true, List, ◌++◌}
use Rattle.std.proofs.lemmas.List.{append-nil}
use Rattle.std.specs.Global.{Global}
use Rattle.std.specs.List.{list_all}
use Rattle.std.specs.Prelude.{Result, Bool}
use Rattle.qs_cell.proofs.Rooms.{moments_roomy, outcome_roomy, rooms_in, rooms_of, state_roomy, touched_roomy}
use Rattle.qs_cell.specs.Cell.{IsOutcome, IsUnplanned, out_of}
use Rattle.qs_cell.specs.Outcomes.{Outcome}
use Rattle.qs_cell.specs.Outcomes as outcomes
use Rattle.qs_cell.specs.Restart.{IsStillDown, IsUp}
use Rattle.qs_cell.specs.Roomy.{ComesNew, IsRoomyNode, IsRoomyOutcome, IsSetToKeep}
use Rattle.qs_cell.specs.Starts.{Begins, setting_in}
use Rattle.qs_cell.specs.State.{IsSeenAs, Restarts, Up, carried_of, disk_of, state_of}
use Rattle.qs_cell.specs.declared.state.CellState.{CellState}
use Rattle.qs_cell.specs.declared.state.CellState.TheVariants as states
use Rattle.qs_cell.specs.declared.state.RestartFault.{RestartFault}
use Rattle.qs_cell.specs.declared.stopped.Stopped.{Stopped}
use Rattle.qs_cell_chronicle.specs.Carried.{Seen}
use Rattle.qs_cell_chronicle.specs.declared.occasion.Occasion.{Occasion}
use Rattle.qs_disk.specs.Disk.{DiskState}
use Rattle.qs_disk.specs.Fuse.{FusedValue}
use Rattle.qs_disk.specs.Moments.{Keeps}
use Rattle.qs_files.specs.declared.files.Files.{Files}
use Rattle.qs_node_room.specs.Fits.{IsEnough}
use Rattle.qs_node_room.specs.Logs.{HasRooms}
use Rattle.qs_node_room.specs.Opens.{are_named, is_short}
use Rattle.qs_node_host.proofs.Rooms.{opened_roomy}
use Rattle.qs_node_host.specs.Host.{HostValue, IsOldOrAfter, opened_host}
use Rattle.qs_node_host.specs.Roomy.{HasRoomyLog, IsRoomyHost}
use Rattle.qs_log_start.specs.Incarnation.{IsRaisedLog, IsReopened, open_limit}
use Rattle.qs_book_journal.specs.declared.script_line.Point.{Point}
use Rattle.qs_node_kept.specs.Keeping.{no_kept}
use Rattle.qs_log.specs.Image.{IsLog, half}
use Rattle.qs_log.specs.Log.{LogValue, Stands, records_of}
use Rattle.qs_ops.specs.declared.no_server.NoServer.{NoServer}
use Rattle.qs_record.specs.declared.record.Record.{Record}
use Rattle.qs_restart.specs.Recovery.{recovery}
use Rattle.qs_node_step.specs.State.{NodeValue}
use Rattle.qs_node_step.specs.declared.setting.Setting.{Setting}
use Rattle.qs_world_one.specs.Rooms.{Began, BeganRoomy, IsRoomyCell, IsRoomyDisk}

-- a setting is to keep the same, whatever its incarnation
set_as : (old new : Setting) → new.keep ≡ old.keep → new.extra ≡ old.extra → IsSetToKeep 128 old → IsSetToKeep 128 new
set_as old new keep extra set = record { enough = set.enough; keep_is = keep ∙ set.keep_is; extra_is = extra ∙ set.extra_is }

-- ---- an event

module _ {D : Type 0} (state : D → DiskState) (own size : D → ℕ) (began : Began) (occasion : Occasion) (old : Up D)
    (fresh : IsUnplanned (size old.host.log.disk.disk) occasion old → ComesNew (size old.host.log.disk.disk) occasion old) (was : IsRoomyCell state size began (states.Up old)) where
  abbrev bytes : ℕ
  bytes = size old.host.log.disk.disk

  -- a step that was to be made found room
  step_roomy : (o : Outcome D Files NoServer) → IsUnplanned bytes occasion old → IsOutcome own bytes occasion old o
      → Keeps (IsOldOrAfter (out_of bytes occasion old) old.host.log) (state old.host.log.disk.disk) (state (disk_of (state_of o)).disk)
      → IsRoomyOutcome 128 bytes o × IsRoomyDisk bytes (state (disk_of (state_of o)).disk)
  step_roomy o unplanned is keeps = (
    outcome_roomy 128 bytes occasion old was.roomy (fresh unplanned) own o is,
    (moments_roomy 128 bytes occasion old was.roomy (fresh unplanned) (state old.host.log.disk.disk) (state (disk_of (state_of o)).disk) keeps).here,
  )

  found : (o : Outcome D Files NoServer) → IsOutcome own bytes occasion old o
      → Keeps (IsOldOrAfter (out_of bytes occasion old) old.host.log) (state old.host.log.disk.disk) (state (disk_of (state_of o)).disk)
      → (IsRoomyOutcome 128 bytes o × IsRoomyDisk bytes (state (disk_of (state_of o)).disk)) × ((carried_of (state_of o)).setting ≡ old.carried.setting)
  found (outcomes.Whole running said) is keeps = (step_roomy (outcomes.Whole running said) is.unplanned is keeps, is.setting)
  found (outcomes.Followed stopped said) is keeps = (step_roomy (outcomes.Followed stopped said) is.unplanned is keeps, is.setting)
  found (outcomes.Replaced stopped) is keeps = ((is.full, subst (λ (d : FusedValue D). IsRoomyDisk bytes (state d.disk)) (sym is.disk) was.disk), is.setting)
  found (outcomes.CutOff stopped) is keeps = (step_roomy (outcomes.CutOff stopped) is.unplanned is keeps, is.setting)

  pub event_roomy : (o : Outcome D Files NoServer) → IsOutcome own bytes occasion old o → size (disk_of (state_of o)).disk ≡ bytes
      → Keeps (IsOldOrAfter (out_of bytes occasion old) old.host.log) (state old.host.log.disk.disk) (state (disk_of (state_of o)).disk) → IsRoomyCell state size began (state_of o)
  event_roomy o is same keeps =
      let now = found o is keeps in
      record {
        set = subst (IsSetToKeep 128) (sym now.1) was.set;
        roomy = subst (λ (n : ℕ). IsRoomyNode 128 n (state_of o)) (sym same) (state_roomy 128 bytes o now.0.0);
        disk = subst (λ (n : ℕ). IsRoomyDisk n (state (disk_of (state_of o)).disk)) (sym same) now.0.1;
        bytes = same ∙ was.bytes;
      }

-- ---- a restart

module _ {D : Type 0} (told : Type 0) (state : D → DiskState) (own size : D → ℕ) (alloc : Global) (began : Began) (old : Stopped D) (t : told) (new : CellState D) (answer : Result Bool RestartFault)
    (r : Restarts told state own size alloc old new answer) (was : IsRoomyCell state size began (states.Down old)) where
  -- each image that it left is one of before, or its raised log
  left : (node : CellState D) → new ≡ node → IsRoomyDisk (size (disk_of node).disk) (state (disk_of node).disk) × (size (disk_of node).disk ≡ began.bytes)
  left node same =
      subst (λ (n : CellState D). IsRoomyDisk (size (disk_of n).disk) (state (disk_of n).disk) × (size (disk_of n).disk ≡ began.bytes)) same (
        subst (λ (n : ℕ). IsRoomyDisk n (state (disk_of new).disk)) (sym r.bytes)
            (touched_roomy 128 (size old.disk.disk) (state old.disk.disk) (state old.disk.disk) (state (disk_of new).disk) was.disk (r.touched t)).here,
        r.bytes ∙ was.bytes,
      )

  pub down_roomy : (stopped : Stopped D) → new ≡ states.Down stopped → IsStillDown old stopped → IsRoomyCell state size began (states.Down stopped)
  down_roomy stopped same still = record {
    set = subst (IsSetToKeep 128) (sym still.setting) was.set;
    roomy = still.full ∙ was.roomy;
    disk = (left (states.Down stopped) same).0;
    bytes = (left (states.Down stopped) same).1;
  }

  pub up_roomy : (running : Up D) → new ≡ states.Up running → IsUp alloc old running → IsReopened (state old.disk.disk) running.host.log
      → are_named (recovery (records_of running.host.log)) ≡ true → IsRoomyCell state size began (states.Up running)
  up_roomy running same is reopened named = record {
    set = set;
    roomy = subst (λ (n : ℕ). IsRoomyHost 128 n running.host) same_bytes
        (subst (λ (n : NodeValue). IsRoomyHost 128 (size old.disk.disk) (record { node = n; log = running.host.log })) (sym is.node)
        (opened_roomy alloc 128 (size old.disk.disk) running.carried.setting old.kept running.host.log (record {
          enough = set.enough;
          keep_is = set.keep_is;
          extra_is = set.extra_is;
          short = rooms.1;
          named = named;
          rooms = rooms.0;
        })));
    disk = (left (states.Up running) same).0;
    bytes = (left (states.Up running) same).1;
  }
    where
      set : IsSetToKeep 128 running.carried.setting
      set = set_as old.carried.setting running.carried.setting (ap (λ (s : Setting). s.keep) is.setting) (ap (λ (s : Setting). s.extra) is.setting) was.set

      same_bytes : size old.disk.disk ≡ size running.host.log.disk.disk
      same_bytes = sym r.bytes ∙ ap (λ (n : CellState D). size (disk_of n).disk) same

      rooms : HasRooms 128 (half (size old.disk.disk)) running.host.log.used running.host.log.forced running.host.log.waiting × (list_all is_short (records_of running.host.log) ≡ true)
      rooms = rooms_of 128 (size old.disk.disk) (state old.disk.disk) running.host.log was.disk reopened

-- ---- a run begins

module _ {D : Type 0} (state : D → DiskState) (size : D → ℕ) (alloc : Global) (given : Setting) (crashes : List ℕ) (points : List Point) (running : Up D) (began : Began)
    (begins : Begins alloc given crashes points running.host.log running) (raised : IsRaisedLog open_limit began.content running.host.log) (stands : Stands running.host.log (state running.host.log.disk.disk))
    (bytes_are : size running.host.log.disk.disk ≡ began.bytes) (set : IsSetToKeep 128 given) (room : BeganRoomy began) where
  abbrev log : LogValue (FusedValue D)
  log = running.host.log

  rooms : HasRooms 128 (half began.bytes) log.used log.forced log.waiting × (list_all is_short (records_of log) ≡ true)
  rooms = rooms_in 128 began.bytes began.content raised.present log room raised.records raised.waiting

  all_forced : records_of log ≡ log.forced
  all_forced = ap (λ (l : List Record). log.forced ++ l) raised.waiting ∙ append-nil log.forced

  pub begun_roomy : are_named (recovery log.forced) ≡ true → IsRoomyCell state size began (states.Up running)
  begun_roomy named = record {
    set = subst (IsSetToKeep 128) (sym begins.setting) (record { enough = set.enough; keep_is = set.keep_is; extra_is = set.extra_is });
    roomy = subst (λ (h : HostValue (FusedValue D)). IsRoomyHost 128 (size running.host.log.disk.disk) h) (sym begins.host)
        (subst (λ (n : ℕ). IsRoomyHost 128 n (opened_host alloc (setting_in log given) no_kept log)) (sym bytes_are)
        (opened_roomy alloc 128 began.bytes (setting_in log given) no_kept log (record {
          enough = set.enough;
          keep_is = set.keep_is;
          extra_is = set.extra_is;
          short = rooms.1;
          named = subst (λ (l : List Record). are_named (recovery l) ≡ true) (sym all_forced) named;
          rooms = rooms.0;
        })));
    disk = λ image at. subst (λ (n : ℕ). HasRoomyLog 128 n image) (sym bytes_are) (record {
      present = log.slots.present;
      records = log.forced;
      used = log.used;
      log = subst (λ (c : List ℕ). IsLog log.slots.present log.forced log.used c) (sym (stands.still image at)) stands.forced;
      rooms = rooms.0.on_disk;
    });
    bytes = bytes_are;
  }

-- as a script sets each node
pub is_set : (setting : Setting) → setting.keep ≡ 128 → setting.extra ≡ 0 → IsSetToKeep 128 setting
is_set setting keep extra = record { enough = enough; keep_is = keep; extra_is = extra }
  where
    enough : IsEnough 128 0
    enough = omega arith

-- ---- what is seen changes alone

pub seen_roomy : {D : Type 0} (f : Seen → Seen) (state : D → DiskState) (size : D → ℕ) (began : Began) (old new : CellState D) → IsSeenAs f old new → IsRoomyCell state size began old
    → IsRoomyCell state size began new
seen_roomy {D} f state size began (states.Up old) (states.Up new) is was = record {
  set = subst (IsSetToKeep 128) (sym is.1.1) was.set;
  roomy = subst (λ (h : HostValue (FusedValue D)). IsRoomyHost 128 (size h.log.disk.disk) h) (sym is.0.0) was.roomy;
  disk = subst (λ (h : HostValue (FusedValue D)). IsRoomyDisk (size h.log.disk.disk) (state h.log.disk.disk)) (sym is.0.0) was.disk;
  bytes = ap (λ (h : HostValue (FusedValue D)). size h.log.disk.disk) is.0.0 ∙ was.bytes;
}
seen_roomy {D} f state size began (states.Down old) (states.Down new) is was = record {
  set = subst (IsSetToKeep 128) (sym is.1.1.1.1) was.set;
  roomy = is.1.1.0.1 ∙ was.roomy;
  disk = subst (λ (d : FusedValue D). IsRoomyDisk (size d.disk) (state d.disk)) (sym is.0) was.disk;
  bytes = ap (λ (d : FusedValue D). size d.disk) is.0 ∙ was.bytes;
}
seen_roomy f state size began (states.Up old) (states.Down new) is was = absurd is
seen_roomy f state size began (states.Down old) (states.Up new) is was = absurd is
