-- What the reference machine keeps of a node: its servers by number, and its disk's format.
use Rattle.std.specs.Prelude.{ℕ, ◌==◌, Bool, not, ◌&&◌, ◌||◌, List, [], ◌∷◌, ◌++◌, Option, Some, None, if◌then◌else◌}
use Rattle.std.specs.List.{list_any, flat_map}
use Rattle.std.specs.Ordering.{nat_cmp, ordering_then}
use Rattle.std.specs.declared.cmp.Ordering.{Ordering}
use Rattle.std.specs.Map.{lookup, remove_entry, set_value}
use Rattle.std.specs.BTreeMap.{insert_entry, is_at}
use Rattle.qs_base.specs.Order.{tid_cmp, same_tid, same_bytes}
use Rattle.qs_base.specs.declared.identifiers.Tid.{Tid}
use Rattle.qs_ops.specs.declared.operation.Op.{Op}
use Rattle.qs_ops.specs.declared.operation.Op.TheVariants.{Bind}
use Rattle.qs_ops.specs.Table.{TableValue, share_of, released}
use Rattle.qs_ops.specs.Timers.{TimersValue, timers_ended}
use Rattle.qs_ops.specs.Servers.{files_no, audit_no, names_no, timers_no, windows_no, scratch_no, extra_no}
use Rattle.qs_book_machine.specs.declared.state.OnRecord.{OnRecord}
use Rattle.qs_book_machine.specs.declared.state.Voter.{Voter}

pub record NodeValue : Type 0 where
  pub up : Bool
  pub inc : ℕ  -- its incarnation; while it is down, the one that stopped
  pub past : List ℕ  -- its earlier incarnations of this run, in order
  pub begun : ℕ  -- how many transactions were begun there in its incarnation
  pub format : ℕ  -- of its disk, 1 or 2
  pub ticked : ℕ  -- the stamp of its last tick
  pub stopped : ℕ  -- the place in the history at which it last stopped
  pub files : TableValue
  pub audit : TableValue
  pub names : TableValue
  pub windows : TableValue
  pub scratch : TableValue
  pub timers : TimersValue
  pub extra : List (List ℕ)  -- the committed texts of the further server
  pub records : List (Voter × OnRecord)  -- what its log holds of each recoverable member that can still be committed
  pub committed : List Tid  -- the Commits that its log held at the opening
  pub doubts : List (Tid × List (List ℕ))  -- names that crossed transactions may have bound here

-- ---- formats of disks

-- bytes before each record of a batch
abbrev pub extra_of : ℕ → ℕ
extra_of format = if format == 1 then 0 else 8

-- bytes that are kept free for each transaction that is not ended
abbrev pub keep_of : ℕ → ℕ
keep_of format = if format == 1 then 128 else 144

-- ---- servers: 0 files, 1 audit, 2 names, 4 windows, 5 scratch have a table

abbrev pub table_of : NodeValue → ℕ → Option TableValue
table_of node server =
    if server == files_no then Some node.files
    else if server == audit_no then Some node.audit
    else if server == names_no then Some node.names
    else if server == windows_no then Some node.windows
    else if server == scratch_no then Some node.scratch
    else None

abbrev pub with_table : ℕ → (TableValue → TableValue) → NodeValue → NodeValue
with_table server f node =
    if server == files_no then record node { files = f node.files }
    else if server == audit_no then record node { audit = f node.audit }
    else if server == names_no then record node { names = f node.names }
    else if server == windows_no then record node { windows = f node.windows }
    else if server == scratch_no then record node { scratch = f node.scratch }
    else node

-- a server whose changes a log keeps: files, audit and the further server
abbrev pub is_recoverable : ℕ → Bool
is_recoverable server = (server == files_no) || ((server == audit_no) || (server == extra_no))

-- ---- what is on record

abbrev pub voter : Tid → ℕ → Voter
voter tid server = record { tid = tid; server = record { 0 = server } }

abbrev pub voter_cmp : Voter → Voter → Ordering
voter_cmp v w = ordering_then (tid_cmp v.tid w.tid) (nat_cmp v.server.0 w.server.0)

abbrev pub record_of : NodeValue → Tid → ℕ → Option OnRecord
record_of node tid server = lookup (is_at (voter_cmp (voter tid server))) node.records

-- it is on record no more
abbrev pub without_record : Tid → ℕ → NodeValue → NodeValue
without_record tid server node = record node { records = remove_entry (is_at (voter_cmp (voter tid server))) node.records }

abbrev pub changes_of : Option OnRecord → List Op
changes_of None = []
changes_of (Some rec) = rec.changes

-- the changes that are pending at the server; none where it keeps none
abbrev pub pending_at : NodeValue → Tid → ℕ → List Op
pending_at node tid server = elim (table_of node server) [ None ↦ [] | Some table ↦ (share_of table tid).changes ]

-- ---- crossed transactions: what they hold is not known, so the tables hold nothing of theirs

abbrev pub bound_name : Op → List (List ℕ)
bound_name (Bind name text) = name ∷ []
bound_name _ = []

-- the names that these operations bind
abbrev pub bound_names : List Op → List (List ℕ)
bound_names ops = flat_map bound_name ops

-- the transaction may have bound these names too
abbrev pub with_names : Tid → List (List ℕ) → List (Tid × List (List ℕ)) → List (Tid × List (List ℕ))
with_names tid names doubts = elim (lookup (is_at (tid_cmp tid)) doubts) [
  | None ↦ insert_entry tid_cmp doubts tid names
  | Some known ↦ set_value (is_at (tid_cmp tid)) doubts (known ++ names)
]

abbrev pub with_doubts : Tid → List (List ℕ) → NodeValue → NodeValue
with_doubts tid names node = record node { doubts = with_names tid names node.doubts }

abbrev pub without_doubts : Tid → NodeValue → NodeValue
without_doubts tid node = record node { doubts = remove_entry (is_at (tid_cmp tid)) node.doubts }

-- another transaction may have bound that name
abbrev pub is_doubt : Tid → List ℕ → Tid × List (List ℕ) → Bool
is_doubt tid name entry = not (same_tid entry.0 tid) && list_any (same_bytes name) entry.1

abbrev pub is_doubtful : NodeValue → Tid → List ℕ → Bool
is_doubtful node tid name = list_any (is_doubt tid name) node.doubts

-- from now on the transaction holds nothing at that server's table; what it bound is in doubt
abbrev pub crossed_table : Tid → ℕ → NodeValue → NodeValue
crossed_table tid server node = with_table server (λ table. released table tid) node

abbrev pub crossed_names : Tid → NodeValue → NodeValue
crossed_names tid node = crossed_table tid names_no (with_doubts tid (bound_names (pending_at node tid names_no)) node)

abbrev pub crossed_server : Tid → ℕ → NodeValue → NodeValue
crossed_server tid server node =
    if server == names_no then crossed_names tid node
    else if server == timers_no then record node { timers = timers_ended node.timers tid }
    else crossed_table tid server node

-- while its node is down, the server stays as it stopped
abbrev pub crossed_node : Tid → ℕ → NodeValue → NodeValue
crossed_node tid server node = if node.up then crossed_server tid server node else node
