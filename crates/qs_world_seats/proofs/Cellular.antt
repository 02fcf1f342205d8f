-- A cell with its clients in the world is one without them, which tells of a local run; and room that is made for a crash leaves one that is down there.
use Rattle.std.proofs.Common.{refl, subst, sym, ℕ, List}
use Rattle.qs_cell.specs.State.{Up}
use Rattle.qs_cell.specs.Visits.{IsSameNode}
use Rattle.qs_cell.specs.declared.state.CellState.{CellState}
use Rattle.qs_cell.specs.declared.state.CellState.TheVariants as states
use Rattle.qs_cell.specs.declared.stopped.Stopped.{Stopped}
use Rattle.qs_cell_chronicle.specs.Carried.{seen}
use Rattle.qs_client.specs.declared.cell.ClientCell.{ClientCell}
use Rattle.qs_disk.specs.Disk.{DiskState, EachImage}
use Rattle.qs_disk.specs.Fuse.{FusedValue}
use Rattle.qs_link.specs.declared.ends.NodeEnds.{NodeEnds}
use Rattle.qs_log_start.specs.Incarnation.{HasOneOf}
use Rattle.qs_node_step.specs.declared.setting.Setting.{Setting}
use Rattle.qs_record.specs.declared.record.Record.{Record}
use Rattle.qs_world.specs.World.{Opening}
use Rattle.qs_world_merge.proofs.Reaches.{each_reached_locally}
use Rattle.qs_world_rounds.specs.Rounds.{Cast}
use Rattle.qs_world_seats.proofs.Alike.{IsAlike, reached_alike, shows_down}
use Rattle.qs_world_seats.specs.Cells.{CellTells, IsCellIn, IsDownIn, IsUpIn, SiteHasCell}
use Rattle.qs_world_seats.specs.Reached.{IsHalted, IsInOrPast, IsInWorld, IsRunning}
use Rattle.qs_world_seats.specs.Seats.{SeatDown}
use Rattle.qs_world_seats.specs.Shown.{Reaches, ShowsDown, observed_of}

module _ {D : Type 0} (told : Type 0) (state : D → DiskState) (o : Opening) (n : ℕ) where
  pub up_of : (running : Up D) (ends : List NodeEnds) (clients : List ClientCell) → IsRunning told state o n running ends clients → IsUpIn told state o n running
  up_of running ends clients was = record {
    reached = record { world = was.reached.world; reached = was.reached.reached; shows = was.reached.shows.node };
    inc = was.inc;
    stands = was.stands;
  }

  down_of : (stopped : Stopped D) (ends : List NodeEnds) (clients : List ClientCell) → IsHalted told state o n stopped ends clients → IsDownIn told state o n stopped
  down_of stopped ends clients was = record {
    first = was.first;
    other = was.other;
    to_first = alone was.first was.to_first;
    to_other = alone was.other was.to_other;
    images = was.images;
    incs = was.incs;
  }
    where
      alone : (log : List Record) → Reaches o n stopped.carried.chronicle.told (SeatDown o n stopped ends clients log) → Reaches o n stopped.carried.chronicle.told (ShowsDown n stopped log)
      alone log r = record { world = r.world; reached = r.reached; shows = r.shows.node }

  pub cell_of : (node : CellState D) (ends : List NodeEnds) (clients : List ClientCell) → IsInWorld told state o n node ends clients → IsCellIn told state o n node
  cell_of (states.Up running) ends clients was = up_of running ends clients was
  cell_of (states.Down stopped) ends clients was = down_of stopped ends clients was

  -- the same but for the room
  pub room_down : (old new : Stopped D) → IsSameNode (states.Down old) (states.Down new) → IsDownIn told state o n old → IsDownIn told state o n new
  room_down old new (disk, (kept, (causes, (seen_is, setting)))) was = record {
    first = was.first;
    other = was.other;
    to_first = still was.first was.to_first;
    to_other = still was.other was.to_other;
    images = λ t. subst (λ (d : FusedValue D). EachImage (HasOneOf was.first was.other) (state d.disk).now) (sym disk) (was.images t);
    incs = λ t. subst (λ (s : Setting). EachImage (IsInOrPast s.inc) (state new.disk.disk).now) (sym setting)
        (subst (λ (d : FusedValue D). EachImage (IsInOrPast old.carried.setting.inc) (state d.disk).now) (sym disk) (was.incs t));
  }
    where
      alike : IsAlike (seen old.carried) (seen new.carried)
      alike = subst (IsAlike (seen old.carried)) (sym seen_is) (record { node = refl; stamp = refl; journal = refl; trace = refl; commands = refl })

      still : (log : List Record) → Reaches o n old.carried.chronicle.told (ShowsDown n old log) → Reaches o n new.carried.chronicle.told (ShowsDown n new log)
      still log r = record {
        world = r.world;
        reached = reached_alike o n old.carried new.carried alike setting r.world r.reached;
        shows = shows_down o n old new r.world log kept alike setting r.shows;
      }

pub each_site_cell : {D : Type 0} (told : Type 0) (state : D → DiskState) (o : Opening) (n : ℕ) (cast : Cast D) → SiteHasCell told state o n cast
each_site_cell told state o n cast was = cell_of told state o n cast.node.seat.node cast.node.seat.ends cast.clients was.there.there

pub each_cell_tells : {D : Type 0} (told : Type 0) (state : D → DiskState) (o : Opening) (n : ℕ) (node : CellState D) → CellTells told state o n node
each_cell_tells told state o n (states.Up running) was = each_reached_locally o n (observed_of running.carried.chronicle.told) running.carried.chronicle.told.stamp was.reached.world was.reached.reached
each_cell_tells told state o n (states.Down stopped) was = each_reached_locally o n (observed_of stopped.carried.chronicle.told) stopped.carried.chronicle.told.stamp was.to_first.world was.to_first.reached
