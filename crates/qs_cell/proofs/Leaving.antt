-- A node that memory was refused to is still down with what it carried.
use Rattle.std.proofs.Common.{◌≡◌, ◌≢◌, ◌↔◌, ◌∙◌, ap, subst, ℕ, List}
use Rattle.std.specs.Global.{Global}
use Rattle.qs_base.specs.Causes.{Rose}
use Rattle.qs_disk.specs.Fuse.{FusedValue}
use Rattle.qs_log_start.specs.declared.counts.FaultCounts.{FaultCounts}
use Rattle.qs_log_start.specs.declared.incarnation.ReopenFault.TheVariants as reopen_faults
use Rattle.qs_log.specs.Log.{LogValue}
use Rattle.qs_cell_chronicle.specs.declared.points.Watched.{Watched}
use Rattle.qs_cell_chronicle.specs.Carried.{Commands, seen}
use Rattle.qs_cell_chronicle.specs.Chronicle.{Told}
use Rattle.qs_cell_chronicle.specs.declared.carried.Carried.{Carried}
use Rattle.qs_cell.specs.Within.{IsLeftDown, Begins}
use Rattle.qs_cell.specs.declared.stopped.Rest.{Rest}
use Rattle.qs_cell.specs.declared.stopped.Restarted.{Restarted}
use Rattle.qs_cell.specs.declared.stopped.Restarted.TheVariants as restarts

pub seen_is : (a b : Carried) → a.chronicle.told ≡ b.chronicle.told → a.commands ≡ b.commands → a.crashes ≡ b.crashes → a.points.items ≡ b.points.items → seen a ≡ seen b
seen_is a b told commands crashes points =
    ap (λ (t : Told). record { told = t; commands = a.commands; crashes = a.crashes; points = a.points.items }) told
    ∙ ap (λ (held : Commands). record { told = b.chronicle.told; commands = held; crashes = a.crashes; points = a.points.items }) commands
    ∙ ap (λ (planned : List ℕ). record { told = b.chronicle.told; commands = b.commands; crashes = planned; points = a.points.items }) crashes
    ∙ ap (λ (watched : List Watched). record { told = b.chronicle.told; commands = b.commands; crashes = b.crashes; points = watched }) points

pub left_begins : {D F X : Type 0} (own : D → ℕ) (alloc : Global) (log : LogValue (FusedValue D)) (rest kept : Rest) (before : FaultCounts) (back : LogValue (FusedValue D))
    (result : Restarted D F X) → back ≡ log → kept.kept ≡ rest.kept → kept.cause ≡ rest.cause → kept.is_full ≡ rest.is_full → kept.carried.setting ≡ rest.carried.setting
    → seen kept.carried ≡ seen rest.carried → IsLeftDown own kept before back.disk result → Begins own alloc log rest before result
left_begins own alloc log rest kept before back (restarts.Up running) same is_kept cause full setting seen_same left = absurd left
left_begins {D} own alloc log rest kept before back (restarts.Down stopped why) is_log is_kept cause full setting seen_same left =
    let same : back.disk ≡ log.disk = ap (λ (l : LogValue (FusedValue D)). l.disk) is_log in
    record {
      disk = left.disk ∙ same;
      kept = left.kept ∙ is_kept;
      cause = left.cause ∙ cause;
      full = left.full ∙ full;
      setting = left.setting ∙ setting;
      seen = left.seen ∙ seen_same;
      tripped = subst (λ (d : FusedValue D). (why ≡ reopen_faults.Tripped) ↔ (d.fuse.trips ≢ before.trips)) same left.tripped;
      failed = λ failed. subst (λ (d : FusedValue D). Rose before.own (own d.disk)) same (left.failed failed);
      sound = left.sound;
    }
