-- Servers whose votes a log keeps have only changes of their own pending, and so has each Prepare in a log: what an opening asks of one.
use Rattle.std.specs.Prelude.{◌≡◌, ℕ, ◌<◌, ◌||◌, not, Bool, true, [], List}
use Rattle.std.specs.List.{list_all}
use Rattle.qs_base.specs.declared.identifiers.ServerNo.{ServerNo}
use Rattle.qs_base.specs.declared.identifiers.Tid.{Tid}
use Rattle.qs_ipc.specs.Queue.{is_for}
use Rattle.qs_book_machine.specs.Nodes.{is_recoverable}
use Rattle.qs_ops.specs.Server.{ServerValue}
use Rattle.qs_ops.specs.Table.{TableValue}
use Rattle.qs_ops.specs.declared.server.ServerKind.TheVariants.{Nothing}
use Rattle.qs_ops.specs.declared.share.Share.{Share}
use Rattle.qs_record.specs.declared.record.Record.{Record}
use Rattle.qs_record.specs.declared.record.Record.TheVariants as records
use Rattle.qs_restart.specs.Recovery.{audit_no, files_no}
use Rattle.qs_node_servers.specs.Servers.{ServersValue}
use Rattle.qs_world.specs.Moves.{Move}
use Rattle.qs_world.specs.Openings.{IsOpening}
use Rattle.qs_world.specs.Runs.{Run}
use Rattle.qs_world.specs.World.{Host, Opening, World, start}
use Rattle.qs_world_runs.specs.Stores.{Store}

-- ---- servers

abbrev pub is_own_share : ServerNo → Tid × Share → Bool
is_own_share me entry = list_all (is_for me) entry.1.changes

abbrev pub HasOwn : ServerNo → TableValue → Type 0
HasOwn me table = list_all (is_own_share me) table.shares ≡ true

-- the further server takes no changes
pub record HasNone (value : ServerValue) : Type 0 where
  pub kind : value.kind ≡ Nothing
  pub none : value.table.shares ≡ []

pub record HaveOwn (values : ServersValue) : Type 0 where
  pub files : HasOwn files_no values.files.table
  pub audit : HasOwn audit_no values.audit.table
  pub extra : HasNone values.extra

-- ---- records

-- a Prepare of a server whose votes a log keeps
abbrev pub is_own_vote : Record → Bool
is_own_vote (records.Prepare tid server covers changes) = not (is_recoverable server.0) || list_all (is_for server) changes
is_own_vote (records.Commit tid told) = true
is_own_vote (records.Aborted tid) = true
is_own_vote (records.End tid) = true

-- in the middle of a step
pub record HasOwnStore (s : Store) : Type 0 where
  pub servers : HaveOwn s.servers
  pub records : list_all is_own_vote s.records ≡ true

-- ---- a world

pub record HasOwnChanges (host : Host) : Type 0 where
  pub servers : HaveOwn host.node.servers
  pub logged : list_all is_own_vote host.log ≡ true
  pub waits : list_all is_own_vote host.waiting ≡ true

abbrev pub OwnChangesAt : World → Type 0
OwnChangesAt world = (n : ℕ) → n < world.size → HasOwnChanges (world.hosts n)

-- so it is in each world of a run
abbrev pub EachHasOwnChanges : Type 0
EachHasOwnChanges = (o : Opening) (moves : List Move) (world : World) → IsOpening o → Run (start o) moves world → OwnChangesAt world
