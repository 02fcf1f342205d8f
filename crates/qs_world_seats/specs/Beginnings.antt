-- How a node among others begins in a world over packets, and begins again.
use Rattle.std.specs.Prelude.{◌≡◌, ℕ, ◌<◌, List, []}
use Rattle.std.specs.Global.{Global}
use Rattle.qs_book_journal.specs.declared.script_line.Point.{Point}
use Rattle.qs_cell.specs.Restart as restart
use Rattle.qs_cell.specs.Restart.{IsStillDown, inc_of}
use Rattle.qs_cell.specs.Starts.{Begins, setting_in}
use Rattle.qs_cell.specs.State.{Up}
use Rattle.qs_cell.specs.declared.running.Running.{Running}
use Rattle.qs_cell.specs.declared.stopped.Stopped.{Stopped}
use Rattle.qs_disk.specs.Fuse.{FusedValue}
use Rattle.qs_log.specs.Log.{LogValue}
use Rattle.qs_node_step.specs.declared.setting.Setting.{Setting}
use Rattle.qs_record.specs.declared.record.Record.{Record}
use Rattle.qs_world.specs.Moves.{node_no}
use Rattle.qs_world.specs.World.{Opening}
use Rattle.qs_world_merge.specs.Reaching.{HasReached}
use Rattle.qs_world_packets.specs.PacketWorld.{PacketWorld, start}
use Rattle.qs_world_seats.specs.Shown.{IsDown, IsUp, Reaches, ShowsDown, observed_of}

-- node n of the opening has that setting, and what its log held
pub record OpensWith (n : ℕ) (alloc : Global) (setting : Setting) (log : List Record) (o : Opening) : Type 0 where
  pub alloc_is : o.alloc ≡ alloc
  pub in_run : n < o.size
  pub nodes : setting.nodes ≡ o.size
  pub node : setting.node ≡ node_no n
  pub setting_is : o.settings n ≡ setting
  pub log_is : o.logs n ≡ log

-- it is up in the world that the opening starts with
abbrev pub CellBegins : {D : Type 0} → Opening → ℕ → Global → Setting → List ℕ → List Point → LogValue (FusedValue D) → Up D → Type 0
CellBegins o n alloc given crashes points log new =
    Begins alloc given crashes points log new → log.waiting ≡ [] → OpensWith n alloc (setting_in log given) log.forced o
    → Reaches o n new.carried.chronicle.told (IsUp n new (start o).clients)

-- a restart over the log that the world shows raises the node to a later incarnation
abbrev pub CellRises : {D F X : Type 0} → Opening → ℕ → Global → Stopped D → Running D F X → PacketWorld → Type 0
CellRises o n alloc old new world =
    restart.IsUp alloc old new → new.host.log.waiting ≡ [] → old.carried.setting.inc < inc_of new.host.log
    → HasReached o n (observed_of old.carried.chronicle.told) old.carried.chronicle.told.stamp world → ShowsDown n old new.host.log.forced world
    → Reaches o n new.carried.chronicle.told (IsUp n new world.clients)

-- and where it is still down nothing happens there
abbrev pub CellStaysDown : {D : Type 0} → Opening → ℕ → Stopped D → Stopped D → List Record → PacketWorld → Type 0
CellStaysDown o n old new log world =
    IsStillDown old new → HasReached o n (observed_of old.carried.chronicle.told) old.carried.chronicle.told.stamp world → ShowsDown n old log world
    → Reaches o n new.carried.chronicle.told (IsDown n new log world.clients)
