-- Logs that stand together, whatever the scripts of a run over them: what a run may begin with, as far as that is up to its disks.
use Rattle.std.specs.Prelude.{◌≡◌, ℕ, ◌+◌, List, [], None, true}
use Rattle.std.specs.Global.{Global}
use Rattle.std.specs.List.{list_all}
use Rattle.qs_disk.specs.Disk.{DiskState, EachImage}
use Rattle.qs_log.specs.Image.{IsLog}
use Rattle.qs_record.specs.declared.record.Record.{Record}
use Rattle.qs_restart.specs.Recovery.{recovery}
use Rattle.qs_slot.specs.Slot.{Present}
use Rattle.qs_node_step.specs.declared.setting.Setting.{Setting}
use Rattle.qs_world.specs.Openings.{are_unended, each_below, is_open_vote, is_record, is_whole_log}
use Rattle.qs_world.specs.World.{Opening}

-- those of an opening
pub record IsCoherent (o : Opening) : Type 0 where
  pub logs : each_below o.size (λ n. list_all (is_record o n) (o.logs n)) ≡ true
  pub votes : each_below o.size (λ n. list_all (is_open_vote o n) (recovery (o.logs n)).prepared) ≡ true
  pub unended : each_below o.size (λ n. are_unended (recovery (o.logs n))) ≡ true
  pub whole : each_below o.size (λ n. is_whole_log (recovery (o.logs n))) ≡ true

-- a run of so many nodes with no clients, each node in its incarnation over its log
abbrev pub bare_setting : ℕ → (ℕ → ℕ) → ℕ → Setting
bare_setting size incs n = record { node = record { 0 = n }; inc = incs n; nodes = size; quota = 0; audit = None; extra = 0; keep = 128; age = None }

abbrev pub over_logs : Global → ℕ → (ℕ → ℕ) → (ℕ → List Record) → Opening
over_logs alloc size incs logs = record { alloc = alloc; size = size; settings = bare_setting size incs; logs = logs; clients = λ k. (0, []) }

abbrev pub AreCoherentLogs : Global → ℕ → (ℕ → ℕ) → (ℕ → List Record) → Type 0
AreCoherentLogs alloc size incs logs = IsCoherent (over_logs alloc size incs logs)

-- ---- of one node

-- what the image of its disk has for a log is coherent, in the incarnation after its last
abbrev pub IsCoherentImage : Global → List ℕ → Type 0
IsCoherentImage alloc image = (present : Present) (records : List Record) (used : ℕ) → IsLog present records used image → AreCoherentLogs alloc 1 (λ n. present.value.inc + 1) (λ n. records)

-- so is that of each image of the disk
abbrev pub IsCoherentDisk : DiskState → Type 0
IsCoherentDisk disk = (alloc : Global) → EachImage (IsCoherentImage alloc) disk.now
