-- What the servers of a node hold, and what the machine has of it: all but what is held of transactions that are crossed there.
use Rattle.std.specs.Prelude.{◌≡◌, ℕ, Bool, true, not, Option, Some, None}
use Rattle.std.specs.List.{filter}
use Rattle.qs_base.specs.Order.{tid_cmp}
use Rattle.qs_base.specs.declared.identifiers.NodeNo.{NodeNo}
use Rattle.qs_base.specs.declared.identifiers.Tid.{Tid}
use Rattle.qs_book_laws.proofs.Rising.{IsRising}
use Rattle.qs_book_machine.specs.Book.{BookValue, find_transaction}
use Rattle.qs_book_machine.specs.Nodes as machine
use Rattle.qs_book_machine.specs.Transaction.{TransactionValue, is_crossed}
use Rattle.qs_ops.specs.Servers.{files_no, audit_no, names_no, timers_no, windows_no, scratch_no}
use Rattle.qs_ops.specs.Table.{TableValue}
use Rattle.qs_ops.specs.Timers.{TimersValue}
use Rattle.qs_ops.specs.declared.server.ServerKind.TheVariants as kinds
use Rattle.qs_node_servers.specs.Servers.{ServersValue}
use Rattle.qs_world_lawful.specs.Doubts.{HoldsDoubts}

-- the transaction is not crossed at that server of the node
abbrev pub seen_in : NodeNo → ℕ → Option TransactionValue → Bool
seen_in here server None = true
seen_in here server (Some tx) = not (is_crossed tx (record { node = here; server = record { 0 = server } }))

abbrev pub is_seen : BookValue → NodeNo → ℕ → Tid → Bool
is_seen book here server tid = seen_in here server (find_transaction book tid)

-- an entry of a transaction that passes
abbrev pub of_seen : {S : Type 0} → (Tid → Bool) → Tid × S → Bool
of_seen seen entry = seen entry.0

pub record HoldsTable (seen : Tid → Bool) (kept held : TableValue) : Type 0 where
  pub contents : kept.contents ≡ held.contents
  pub notes : kept.notes ≡ held.notes
  pub shares : kept.shares ≡ filter (of_seen seen) held.shares
  pub rising : IsRising tid_cmp held.shares

pub record HoldsTimers (seen : Tid → Bool) (kept held : TimersValue) : Type 0 where
  pub ticks : kept.ticks ≡ held.ticks
  pub shares : kept.shares ≡ filter (of_seen seen) held.shares
  pub rising : IsRising tid_cmp held.shares

-- each server is the one that its number says
pub record HoldsKinds (servers : ServersValue) : Type 0 where
  pub quota : ℕ
  pub files : servers.files.kind ≡ kinds.Files quota
  pub audit : servers.audit.kind ≡ kinds.Audit
  pub names : servers.names.kind ≡ kinds.Names
  pub timers : servers.timers.kind ≡ kinds.Timers
  pub windows : servers.windows.kind ≡ kinds.Windows
  pub scratch : servers.scratch.kind ≡ kinds.Scratch
  pub extra : servers.extra.kind ≡ kinds.Nothing

pub record HoldsServers (seen : ℕ → Tid → Bool) (state : machine.NodeValue) (servers : ServersValue) : Type 0 where
  pub kinds : HoldsKinds servers
  pub files : HoldsTable (seen files_no) state.files servers.files.table
  pub audit : HoldsTable (seen audit_no) state.audit servers.audit.table
  pub names : HoldsTable (seen names_no) state.names servers.names.table
  pub timers : HoldsTimers (seen timers_no) state.timers servers.timers.timers
  pub windows : HoldsTable (seen windows_no) state.windows servers.windows.table
  pub scratch : HoldsTable (seen scratch_no) state.scratch servers.scratch.table
  pub doubts : HoldsDoubts (seen names_no) state.doubts servers.names.table  -- clause 42
