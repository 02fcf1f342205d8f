-- Which servers a node has. Files and the further server may be of any type; the others are those of this repository.
use Rattle.std.specs.Prelude.{◌≡◌, List, if◌then◌else◌}
use Rattle.qs_ops.specs.Server.{ServerValue, number_of, is_logged}
use Rattle.qs_ops.specs.Servers.{files_no, extra_no}
use Rattle.qs_ops.specs.Table.{no_table, applied}
use Rattle.qs_ops.specs.Timers.{no_timers}
use Rattle.qs_ops.specs.declared.operation.Op.{Op}
use Rattle.qs_ops.specs.declared.server.ServerKind.{ServerKind}
use Rattle.qs_ops.specs.declared.server.ServerKind.TheVariants as kinds
use Rattle.qs_node_servers.specs.Servers.{ServersValue}

-- each is the one that its number says
pub record AreKinds (files extra : ServerValue) : Type 0 where
  pub files_kind : number_of files.kind ≡ files_no
  pub extra_kind : number_of extra.kind ≡ extra_no

-- a server of that kind that has and holds nothing
abbrev pub empty_server : ServerKind → ServerValue
empty_server kind = record { kind = kind; table = no_table; timers = no_timers }

-- these files and that further server, and the others empty
abbrev pub new_servers : ServerValue → ServerValue → ServersValue
new_servers files extra = record {
  files = files;
  audit = empty_server kinds.Audit;
  names = empty_server kinds.Names;
  timers = empty_server kinds.Timers;
  windows = empty_server kinds.Windows;
  scratch = empty_server kinds.Scratch;
  extra = extra;
}

-- an empty server takes in the committed changes that a log keeps of it
abbrev pub taken_in : List Op → ServerValue → ServerValue
taken_in changes server = if is_logged server.kind then record server { table = applied no_table changes } else server
