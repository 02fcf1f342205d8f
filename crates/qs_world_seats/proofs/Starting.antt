-- A cell and the clients of its node begin in the world; and what a cell tells that is there is of a local run.
use Rattle.std.proofs.Common.{◌∙◌, ap, sym, ℕ, List, []}
use Rattle.std.specs.Global.{Global}
use Rattle.qs_book_journal.specs.declared.script_line.Point.{Point}
use Rattle.qs_cell.specs.Restart.{inc_of}
use Rattle.qs_cell.specs.Starts.{setting_in}
use Rattle.qs_cell.specs.State.{Up}
use Rattle.qs_cell.specs.declared.state.CellState.{CellState}
use Rattle.qs_cell_chronicle.specs.Carried.{Seen}
use Rattle.qs_client.specs.declared.cell.ClientCell.{ClientCell}
use Rattle.qs_disk.specs.Disk.{DiskState}
use Rattle.qs_disk.specs.Fuse.{FusedValue}
use Rattle.qs_link.specs.declared.ends.NodeEnds.{NodeEnds}
use Rattle.qs_log.specs.Log.{LogValue}
use Rattle.qs_node_host.specs.Host.{HostValue}
use Rattle.qs_node_step.specs.declared.setting.Setting.{Setting}
use Rattle.qs_world.specs.World.{Opening}
use Rattle.qs_world_packets.specs.PacketWorld.{start}
use Rattle.qs_world_seats.proofs.Begins.{each_begins}
use Rattle.qs_world_seats.proofs.Cellular.{cell_of, each_cell_tells}
use Rattle.qs_world_seats.proofs.InHands.{none_waits}
use Rattle.qs_world_seats.proofs.Seated.{up_with}
use Rattle.qs_world_seats.specs.Reached.{SeatBegins, TellsOfRun}
use Rattle.qs_world_seats.specs.Shown.{IsUp, Reaches}

pub each_seat_begins : {D : Type 0} (told : Type 0) (state : D → DiskState) (o : Opening) (n : ℕ) (alloc : Global) (given : Setting) (crashes : List ℕ) (points : List Point) (log : LogValue (FusedValue D)) (new : Up D) (ends : List NodeEnds) (clients : List ClientCell)
    → SeatBegins told state o n alloc given crashes points log new ends clients
each_seat_begins {D = D} told state o n alloc given crashes points log new ends clients is none opens stands each = record {
  reached = record {
    world = r.world;
    reached = r.reached;
    shows = up_with o n new (setting_in log given) [] ends (start o).clients clients r.world is.setting (ap (λ (s : Seen). s.commands) is.seen) r.shows tt (λ client held has. absurd (cc has))
        (none_waits new.host.node.commands [] (ap (λ (h : HostValue (FusedValue D)). h.node.commands) is.host)) each;
  };
  inc = ap (λ (h : HostValue (FusedValue D)). inc_of h.log) is.host ∙ sym (ap (λ (s : Setting). s.inc) is.setting);
  stands = stands;
}
  where
    r : Reaches o n new.carried.chronicle.told (IsUp n new (start o).clients)
    r = each_begins o n alloc given crashes points log new is none opens

pub each_tells : {D : Type 0} (told : Type 0) (state : D → DiskState) (o : Opening) (n : ℕ) (node : CellState D) (ends : List NodeEnds) (clients : List ClientCell) → TellsOfRun told state o n node ends clients
each_tells told state o n node ends clients was = each_cell_tells told state o n node (cell_of told state o n node ends clients was)
