-- What the machine opens with is what the log of the disk held.
use Rattle.std.proofs.Common.{◌≡◌, ℕ, ◌+◌, List, [], ◌++◌, ap, ◌∙◌, append-nil}
use Rattle.std.specs.Global.{Global}
use Rattle.qs_base.specs.declared.identifiers.NodeNo.{NodeNo}
use Rattle.qs_cell.specs.Restart.{inc_of, found_in}
use Rattle.qs_disk.specs.Disk.{DiskState}
use Rattle.qs_disk.specs.Fuse.{FusedValue}
use Rattle.qs_log_start.specs.Incarnation.{open_limit, IsRaisedLog}
use Rattle.qs_log.specs.Log.{LogValue}
use Rattle.qs_world_plans.specs.Plan.{setting_of}
use Rattle.qs_record.specs.declared.record.Record.{Record}
use Rattle.qs_world_rounds.specs.Rounds.{Cast}
use Rattle.qs_world_rounds.specs.Seats.{BeginsAt}
use Rattle.qs_slot.specs.Slot.{Present}
use Rattle.qs_book_script.specs.declared.script.Script.{Script}
use Rattle.qs_node_step.specs.Opening.{recovered_of}
use Rattle.qs_world.specs.Histories.{opened_with}
use Rattle.qs_top.specs.Disks.{IsHeldBy}

-- no record waits behind those of the batches
no_more : {A : Type 0} (xs ys : List A) → ys ≡ [] → xs ++ ys ≡ xs
no_more xs ys is = ap (λ (more : List _). xs ++ more) is ∙ append-nil xs

pub held_at : {D : Type 0} (told : Type 0) (state : D → DiskState) (own : D → ℕ) (alloc : Global) (script : Script) (nodes : ℕ) (node : NodeNo) (disk : D) (cast : Cast D) → BeginsAt told state own alloc script nodes node disk cast → told
    → IsHeldBy script nodes node (state disk).content cast.node.opened
held_at {D} told state own alloc script nodes node disk cast begins is = record {
  present = raised.present;
  records = log.forced;
  used = log.used;
  log = raised.records;
  opened_is = begins.started.opened ∙ (ap (λ (inc : ℕ). opened_with (setting_of script nodes node inc) (found_in log)) inc ∙ ap (λ (records : List Record). opened_with (setting_of script nodes node (raised.present.value.inc + 1)) (recovered_of records)) (no_more log.forced log.waiting raised.waiting));
}
  where
    log : LogValue (FusedValue D)
    log = begins.started.running.host.log

    raised : IsRaisedLog open_limit (state disk).content log
    raised = begins.started.raised is

    inc : inc_of log ≡ raised.present.value.inc + 1
    inc = ap (λ (present : Present). present.value.inc) raised.raised
