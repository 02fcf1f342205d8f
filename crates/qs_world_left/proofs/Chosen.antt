-- A cell where its node has come to, and an image of its disk: what the cell tells is of a local run to a world that has the log of that image. Where the node is up it is
-- the world that it has come to; where it is down, the one of two that has this log.
use Rattle.std.proofs.Common.{◌≡◌, ◌∙◌, ap, inl, inr, subst, sym, ℕ, ◌+◌, ◌<◌, ◌≤◌, Bool, true, false, List, Option, None, Some, arith, slice_get}
use Rattle.std.specs.Prelude.{Ok, Result, is_none}
use Rattle.qs_cell.specs.State.{Up, carried_of, cause_of, disk_of}
use Rattle.qs_cell.specs.declared.state.CellState.{CellState}
use Rattle.qs_cell.specs.declared.state.CellState.TheVariants as states
use Rattle.qs_cell.specs.declared.stopped.Stopped.{Stopped}
use Rattle.qs_cell_chronicle.specs.Chronicle.{last_stamp}
use Rattle.qs_disk.specs.Disk.{DiskState, IsImage}
use Rattle.qs_log.specs.Image.{IsLog}
use Rattle.qs_log.specs.Log.{Stands}
use Rattle.qs_log_start.proofs.Beginning.{one_log}
use Rattle.qs_log_start.specs.Incarnation.{HasLogOf, HasOneOf}
use Rattle.qs_record.specs.declared.record.Record.{Record}
use Rattle.qs_slot.specs.Slot.{Present}
use Rattle.qs_world.specs.World.{Host, Opening}
use Rattle.qs_world_left.specs.Disks.{HasSomeLog, ShowsLog}
use Rattle.qs_world_merge.proofs.Reaches.{each_reached_up_to}
use Rattle.qs_world_merge.specs.Observed.{IsOfLocalRun, Observed}
use Rattle.qs_world_merge.specs.Reaching.{HasReached}
use Rattle.qs_world_packets.specs.PacketWorld.{PacketWorld}
use Rattle.qs_world_rounds.specs.Rounds.{Cast}
use Rattle.qs_world_seats.specs.Cells.{IsCellIn, IsDownIn, IsUpIn}
use Rattle.qs_world_seats.specs.Reached.{IsInOrPast}
use Rattle.qs_world_seats.specs.Shown.{Reaches, ShowsDown, observed_of}

pub same_present : {a b : Present} → ◌≡◌ {A = Result Present ℕ} (Ok a) (Ok b) → a ≡ b
same_present e = cc e

below : (a b c : ℕ) → a ≡ b → b ≤ c → a < c + 1
below a b c is least = omega (arith, is, least)

least : (a b c : ℕ) → a ≡ b → a ≡ c → b ≤ c
least a b c same is = omega (arith, same, is)

-- the stamp of the last step of each cell
abbrev pub stamp_by : {D : Type 0} → Option (Cast D) → ℕ
stamp_by None = 0
stamp_by (Some site) = (carried_of site.node.seat.node).chronicle.told.stamp

abbrev pub stamp_at : {D : Type 0} → List (Cast D) → ℕ → ℕ
stamp_at sites n = stamp_by (slice_get sites n)

-- a local run, whose last step has this stamp at most
pub record RunsTo (o : Opening) (n stamp : ℕ) (observed : Observed) : Type 0 where
  pub local : IsOfLocalRun o n observed
  pub upto : (local.world.hosts n).stamp ≤ stamp
  pub within : stamp ≤ last_stamp

-- in the world the node has this log, in an incarnation below the next
pub record HasLog (n : ℕ) (up : Bool) (inc : ℕ) (log : List Record) (world : PacketWorld) : Type 0 where
  pub up_is : world.network.up n ≡ up
  pub log_is : log ≡ (world.hosts n).log
  pub later : world.network.inc n < inc + 1

pub record ComesTo (o : Opening) (n stamp : ℕ) (observed : Observed) (up : Bool) (inc : ℕ) (log : List Record) : Type 0 where
  pub to : RunsTo o n stamp observed
  pub has : HasLog n up inc log to.local.world

abbrev runs_to : {o : Opening} {n : ℕ} {observed : Observed} {stamp : ℕ} {world : PacketWorld} → HasReached o n observed stamp world → stamp ≤ last_stamp → RunsTo o n stamp observed
runs_to {o} {n} {observed} {stamp} {world} r within = record {
  local = record { steps = r.steps; are = r.are; world = world; run = r.run; journal_is = r.journal_is; trace_is = r.trace_is; puts = r.puts; takes = r.takes };
  upto = (each_reached_up_to o n observed stamp world r).host;
  within = within;
}

module _ {D : Type 0} (told : Type 0) (state : D → DiskState) (o : Opening) (n : ℕ) (t : told) where
  -- the log of a node that is up stands on its disk
  own : (running : Up D) → IsUpIn told state o n running → (image : List ℕ) → IsImage (state running.host.log.disk.disk).now image → IsLog running.host.log.slots.present running.host.log.forced running.host.log.used image
  own running was image at = subst (λ (c : List ℕ). IsLog running.host.log.slots.present running.host.log.forced running.host.log.used c) (sym (stands.still image at)) stands.forced
    where
      stands : Stands running.host.log (state running.host.log.disk.disk)
      stands = was.stands t

  up : (running : Up D) → IsUpIn told state o n running → (image : List ℕ) → IsImage (state running.host.log.disk.disk).now image → (present : Present) (records : List Record) (used : ℕ) → IsLog present records used image
      → ComesTo o n running.carried.chronicle.told.stamp (observed_of running.carried.chronicle.told) true present.value.inc records
  up running was image at present records used log = record {
    to = runs_to was.reached.reached was.reached.shows.carried.within;
    has = record {
      up_is = was.reached.shows.up;
      log_is = sym (ap (λ (h : Host). h.log) was.reached.shows.host
          ∙ one_log running.host.log.slots.present present running.host.log.forced records running.host.log.used used image its log);
      later = below _ running.carried.setting.inc present.value.inc was.reached.shows.carried.inc
          (least running.host.log.slots.present.value.inc _ _ was.inc (ap (λ (p : Present). p.value.inc) (same_present (sym its.slots ∙ log.slots))));
    };
  }
    where
      its : IsLog running.host.log.slots.present running.host.log.forced running.host.log.used image
      its = own running was image at

  down : (stopped : Stopped D) (was : IsDownIn told state o n stopped) (image : List ℕ) → IsImage (state stopped.disk.disk).now image → (present : Present) (records : List Record) (used : ℕ) → IsLog present records used image
      → HasOneOf was.first was.other image → ComesTo o n stopped.carried.chronicle.told.stamp (observed_of stopped.carried.chronicle.told) false present.value.inc records
  down stopped was image at present records used log one = elim one [ inl has ↦ of_log was.first was.to_first has | inr has ↦ of_log was.other was.to_other has ]
    where
      before : IsInOrPast stopped.carried.setting.inc image
      before = was.incs t image at

      of_log : (found : List Record) → Reaches o n stopped.carried.chronicle.told (ShowsDown n stopped found) → HasLogOf found image
          → ComesTo o n stopped.carried.chronicle.told.stamp (observed_of stopped.carried.chronicle.told) false present.value.inc records
      of_log found r log_of = record {
        to = runs_to r.reached r.shows.carried.within;
        has = record {
          up_is = r.shows.down;
          log_is = sym (r.shows.log_is ∙ one_log log_of.present present found records log_of.used used image log_of.log log);
          later = below _ stopped.carried.setting.inc present.value.inc r.shows.carried.inc
              (subst (λ (p : Present). stopped.carried.setting.inc ≤ p.value.inc) (same_present (sym before.slots ∙ log.slots)) before.reached);
        };
      }

  pub comes : (node : CellState D) → IsCellIn told state o n node → (image : List ℕ) → IsImage (state (disk_of node).disk).now image → (present : Present) (records : List Record) → ShowsLog image present records
      → ComesTo o n (carried_of node).chronicle.told.stamp (observed_of (carried_of node).chronicle.told) (is_none (cause_of node)) present.value.inc records
  comes (states.Up running) was image at present records shows = up running was image at present records shows.used shows.log
  comes (states.Down stopped) was image at present records shows = down stopped was image at present records shows.used shows.log (was.images t image at)

-- some world, whichever image there is
pub runs : {D : Type 0} (told : Type 0) (state : D → DiskState) (o : Opening) (n : ℕ) (node : CellState D) → IsCellIn told state o n node
    → RunsTo o n (carried_of node).chronicle.told.stamp (observed_of (carried_of node).chronicle.told)
runs told state o n (states.Up running) was = runs_to was.reached.reached was.reached.shows.carried.within
runs told state o n (states.Down stopped) was = runs_to was.to_first.reached was.to_first.shows.carried.within

-- ---- each image has a log

pub has_log : {D : Type 0} (told : Type 0) (state : D → DiskState) (o : Opening) (n : ℕ) → told → (node : CellState D) → IsCellIn told state o n node
    → (image : List ℕ) → IsImage (state (disk_of node).disk).now image → HasSomeLog image
has_log told state o n t (states.Up running) was image at = record {
  present = running.host.log.slots.present;
  records = running.host.log.forced;
  shows = record { used = running.host.log.used; log = own told state o n t running was image at };
}
has_log told state o n t (states.Down stopped) was image at = elim (was.images t image at) [
  | inl has ↦ record { present = has.present; records = was.first; shows = record { used = has.used; log = has.log } }
  | inr has ↦ record { present = has.present; records = was.other; shows = record { used = has.used; log = has.log } }
]
