-- What a script asks of one node and of one client.
use Rattle.std.specs.Prelude.{ℕ, ◌==◌, List, [], ◌∷◌, None, if◌then◌else◌}
use Rattle.std.specs.List.{flat_map}
use Rattle.qs_base.specs.declared.identifiers.ClientNo.{ClientNo}
use Rattle.qs_base.specs.declared.identifiers.NodeNo.{NodeNo}
use Rattle.qs_book_journal.specs.declared.script_line.Point.{Point}
use Rattle.qs_book_journal.specs.declared.script_line.ScriptLine.{ScriptLine}
use Rattle.qs_book_script.specs.declared.script.FaultLine.{FaultLine}
use Rattle.qs_book_script.specs.declared.script.Planned.{Planned}
use Rattle.qs_book_script.specs.declared.script.Planned.TheVariants as faults
use Rattle.qs_book_script.specs.declared.script.Quota.{Quota}
use Rattle.qs_book_script.specs.declared.script.Script.{Script}
use Rattle.qs_node_step.specs.declared.setting.Setting.{Setting}

-- ---- how a node is set

-- the bytes that the files of a node may have where no line says so
abbrev pub default_quota : ℕ
default_quota = 1048576

-- the bytes that a log keeps free for each transaction that is not ended
abbrev pub kept_bytes : ℕ
kept_bytes = 128

-- the bytes that the files of the node may have
abbrev pub quota_of : NodeNo → List Quota → ℕ
quota_of node [] = default_quota
quota_of node (quota ∷ quotas) = if quota.node.0 == node.0 then quota.bytes else quota_of node quotas

-- the node of a run of so many nodes, in an incarnation
abbrev pub setting_of : Script → ℕ → NodeNo → ℕ → Setting
setting_of script nodes node inc = record {
  node = node;
  inc = inc;
  nodes = nodes;
  quota = quota_of node script.quotas;
  audit = script.audit;
  extra = 0;
  keep = kept_bytes;
  age = None;
}

-- ---- what stops a node

-- the event in place of which the line stops it
abbrev pub crash_in : NodeNo → Planned → List ℕ
crash_in node (faults.Crash at event) = if at.0 == node.0 then event ∷ [] else []
crash_in node _ = []

-- the disk call that the line trips
abbrev pub stop_in : NodeNo → Planned → List ℕ
stop_in node (faults.Stop at call) = if at.0 == node.0 then call ∷ [] else []
stop_in node _ = []

-- the entry before or after which the line stops it
abbrev pub point_in : NodeNo → Planned → List Point
point_in node (faults.At at point) = if at.0 == node.0 then point ∷ [] else []
point_in node _ = []

-- each in the order of the lines
abbrev pub crashes_of : NodeNo → List FaultLine → List ℕ
crashes_of node lines = flat_map (λ line. crash_in node line.fault) lines

abbrev pub stops_of : NodeNo → List FaultLine → List ℕ
stops_of node lines = flat_map (λ line. stop_in node line.fault) lines

abbrev pub points_of : NodeNo → List FaultLine → List Point
points_of node lines = flat_map (λ line. point_in node line.fault) lines

-- ---- what a client is to say

abbrev pub line_of : ClientNo → ScriptLine → List ScriptLine
line_of client line = if line.client.0 == client.0 then line ∷ [] else []

-- its commands, in the order of their lines
abbrev pub commands_of : ClientNo → List ScriptLine → List ScriptLine
commands_of client lines = flat_map (line_of client) lines
