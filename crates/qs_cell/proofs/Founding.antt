-- Where a refusal of memory is told in place of a fault of the disk, a restart did what it would have done.
use Rattle.std.proofs.Common.{◌≡◌, ◌⊎◌, ◌∙◌, subst, sym, inl, inr, ℕ, Bool, List}
use Rattle.std.specs.Prelude.{Result, Err}
use Rattle.std.specs.Global.{Global}
use Rattle.qs_disk.specs.Disk.{DiskState, EachImage}
use Rattle.qs_disk.specs.Fuse.{GoesOn, mended}
use Rattle.qs_disk.specs.Moments.{Keeps}
use Rattle.qs_files.specs.declared.files.Files.{Files}
use Rattle.qs_log_start.specs.Incarnation.{HasOneOf, IsLeftOrRaised}
use Rattle.qs_log_start.specs.declared.incarnation.ReopenFault.TheVariants as reopen_faults
use Rattle.qs_ops.specs.declared.no_server.NoServer.{NoServer}
use Rattle.qs_record.specs.declared.record.Record.{Record}
use Rattle.qs_cell.specs.Restart.{IsRestarted}
use Rattle.qs_cell.specs.State.{Restarts, StartsAgain, answer_after, disk_of, state_after}
use Rattle.qs_cell.specs.declared.state.CellState.{CellState}
use Rattle.qs_cell.specs.declared.state.CellState.TheVariants as states
use Rattle.qs_cell.specs.declared.state.RestartFault.{RestartFault}
use Rattle.qs_cell.specs.declared.state.RestartFault.TheVariants as restart_faults
use Rattle.qs_cell.specs.declared.stopped.Restarted.{Restarted}
use Rattle.qs_cell.specs.declared.stopped.Restarted.TheVariants as restarts
use Rattle.qs_cell.specs.declared.stopped.Stopped.{Stopped}

module _ {D : Type 0} (told : Type 0) (state : D → DiskState) (own size : D → ℕ) (alloc : Global) where
  refused : (old : Stopped D) (new : CellState D) (said : Result Bool RestartFault) (restarted : Restarted D Files NoServer) → IsRestarted own alloc old restarted
      → new ≡ state_after restarted → answer_after restarted ≡ Err restart_faults.DiskFailed → said ≡ Err restart_faults.NoMemory
      → (told → (a b : List Record) → EachImage (HasOneOf a b) (state old.disk.disk).now → Keeps (HasOneOf a b) (state old.disk.disk) (state (disk_of new).disk))
      → (told → Keeps (IsLeftOrRaised (state old.disk.disk)) (state old.disk.disk) (state (disk_of new).disk))
      → GoesOn (mended old.disk.fuse) (disk_of new).fuse → size (disk_of new).disk ≡ size old.disk.disk → Restarts told state own size alloc old new said
  refused old new said (restarts.Up running) is node failed said_is moments touched goes bytes = absurd (cc failed)
  refused old new said (restarts.Down stopped reopen_faults.Tripped) is node failed said_is moments touched goes bytes = absurd (cc failed)
  refused old new said (restarts.Down stopped (reopen_faults.Damaged at)) is node failed said_is moments touched goes bytes = absurd (cc failed)
  refused old new said (restarts.Down stopped reopen_faults.NoMemory) is node failed said_is moments touched goes bytes = absurd (cc failed)
  refused old new said (restarts.Down stopped reopen_faults.DiskFailed) is node failed said_is moments touched goes bytes = record {
    restarted = restarts.Down stopped reopen_faults.NoMemory;
    is = (
      is.0,
      record {
        tripped = ((λ never. absurd (cc never)), (λ tripped. absurd (cc (is.1.tripped.1 tripped))));
        failed = λ never. absurd (cc never);
      },
    );
    node = node;
    said = said_is;
    reopened = λ yes. tt;
    found = λ yes. tt;
    moments = moments;
    stands = λ yes. tt;
    touched = touched;
    damaged = λ yes at is. absurd (cc (sym said_is ∙ is));
    goes = goes;
    bytes = bytes;
  }

  pub starts_founded : (old new : CellState D) (answer said : Result Bool RestartFault) → StartsAgain told state own size alloc old new answer
      → (said ≡ answer) ⊎ ((answer ≡ Err restart_faults.DiskFailed) × (said ≡ Err restart_faults.NoMemory)) → StartsAgain told state own size alloc old new said
  starts_founded old new answer said starts (inl same) = subst (StartsAgain told state own size alloc old new) (sym same) starts
  starts_founded (states.Up running) new answer said starts (inr other) = absurd (cc (sym starts.1 ∙ other.0))
  starts_founded (states.Down stopped) new answer said starts (inr other) =
      refused stopped new said starts.restarted starts.is starts.node (sym starts.said ∙ other.0) other.1 starts.moments starts.touched starts.goes starts.bytes
