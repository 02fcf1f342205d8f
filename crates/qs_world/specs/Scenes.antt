-- What whole runs are made of: nodes, clients, names.
use Rattle.std.specs.Prelude.{ℕ, ◌==◌, List, [], codes, None, if◌then◌else◌}
use Rattle.std.specs.Global.{Global}
use Rattle.qs_base.specs.declared.identifiers.ClientNo.{ClientNo}
use Rattle.qs_base.specs.declared.identifiers.Member.{Member}
use Rattle.qs_base.specs.declared.identifiers.NodeNo.{NodeNo}
use Rattle.qs_base.specs.declared.identifiers.Tid.{Tid}
use Rattle.qs_ops.specs.declared.operation.Op.{Op}
use Rattle.qs_ops.specs.declared.operation.Op.TheVariants.{Put}
use Rattle.qs_book_journal.specs.declared.script_line.Command.{Command}
use Rattle.qs_book_journal.specs.declared.script_line.ScriptLine.{ScriptLine}
use Rattle.qs_node_step.specs.declared.setting.Setting.{Setting}
use Rattle.qs_world.specs.World.{Opening}

abbrev pub setting_of : ℕ → ℕ → Setting
setting_of nodes n = record { node = record { 0 = n }; inc = 1; nodes = nodes; quota = 1048576; audit = None; extra = 0; keep = 128; age = None }

abbrev pub member : ℕ → ℕ → Member
member n server = record { node = record { 0 = n }; server = record { 0 = server } }

abbrev pub client_0 : ClientNo
client_0 = record { 0 = 0 }

-- the first transaction of node 0
abbrev pub first_tid : Tid
first_tid = record { home = record { 0 = 0 }; inc = 1; seq = 1 }

abbrev pub second_tid : Tid
second_tid = record { home = record { 0 = 0 }; inc = 1; seq = 2 }

-- a line of client 0
abbrev pub line : ℕ → List ℕ → Command → ScriptLine
line number label command = record { client = client_0; line = number; label = label; command = command }

-- a node by number
abbrev pub node : ℕ → NodeNo
node n = record { 0 = n }

abbrev pub put_hello : Op
put_hello = Put (codes "f") (codes "hello")

-- a script of client 0 at node 0, over empty logs
abbrev pub alone : Global → ℕ → List ScriptLine → Opening
alone alloc nodes lines = record {
  alloc = alloc;
  size = nodes;
  settings = setting_of nodes;
  logs = λ n. [];
  clients = λ k. (0, if k == 0 then lines else []);
}

-- room in the log of a fresh disk
abbrev pub fresh_room : ℕ
fresh_room = 8384511
