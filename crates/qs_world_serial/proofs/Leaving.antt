-- A site leaves its disk, and what is told of its node.
use Rattle.std.proofs.Common.{◌≡◌, ◌∙◌, ap, subst, sym, List}
use Rattle.std.specs.Prelude.{Result, IfOk}
use Rattle.qs_base.specs.declared.memory.NoMemory.{NoMemory}
use Rattle.qs_book_journal.specs.declared.entry.Entry.{Entry}
use Rattle.qs_book_machine.specs.declared.opened.Opened.{Opened}
use Rattle.qs_cell.specs.Logged.{HasLog}
use Rattle.qs_cell.specs.Starts.{CellValue, journal_of, trace_of}
use Rattle.qs_cell.specs.State.{LogStands, disk_of}
use Rattle.qs_disk.specs.Disk.{DiskState, EachImage}
use Rattle.qs_disk.specs.Fuse.{FusedValue}
use Rattle.qs_node_step.specs.declared.trace.Step.{Step}
use Rattle.qs_world_rounds.specs.Rounds.{Cast}
use Rattle.qs_world_serial.specs.Behind.{IsMadeOf}
use Rattle.qs_world_serial.specs.Serial.{IsToldBy, LeavesDisk}
use Rattle.qs_world_serial.specs.declared.serial.SiteTold.{SiteTold}

module _ {D : Type 0} (site : Cast D) (node : CellValue D) (node_is : node ≡ site.node) where
  pub left_at : (told : Type 0) (state : D → DiskState) (fused : FusedValue D) (after : D) → fused ≡ disk_of node.seat.node → after ≡ fused.disk → (told → LogStands state node.seat.node)
      → (told → EachImage (HasLog node.opened) (state fused.disk).now) → LeavesDisk told state site after
  left_at told state fused after fused_is after_is stands logged = record {
    disk = after_is ∙ (ap (λ (f : FusedValue D). f.disk) fused_is ∙ ap (λ (cell : CellValue D). (disk_of cell.seat.node).disk) node_is);
    stands = λ yes. subst (λ (cell : CellValue D). LogStands state cell.seat.node) node_is (stands yes);
    logged = λ yes. subst (λ (cell : CellValue D). EachImage (HasLog cell.opened) (state after).now) node_is (subst (λ (d : D). EachImage (HasLog node.opened) (state d).now) (sym after_is) (logged yes));
  }

  pub told_at : (opened : Result Opened NoMemory) (journal : List Entry) (trace : List Step) → IfOk opened (λ found. found ≡ node.opened) → journal ≡ journal_of node → trace ≡ trace_of node → (tells : SiteTold)
      → IsMadeOf opened journal trace tells → IsToldBy site tells
  told_at opened journal trace found journal_is trace_is tells made = record {
    opened = subst (λ (r : Result Opened NoMemory). IfOk r (λ found. found ≡ node.opened)) made.opened_is found ∙ ap (λ (cell : CellValue D). cell.opened) node_is;
    journal = made.journal_is ∙ (journal_is ∙ ap (λ (cell : CellValue D). journal_of cell) node_is);
    trace = made.trace_is ∙ (trace_is ∙ ap (λ (cell : CellValue D). trace_of cell) node_is);
  }
