-- What a run may begin with: settings that fit, scripts that are well-formed, and logs that stand together.
use Rattle.std.specs.Prelude.{◌≡◌, ℕ, ◌==◌, Bool, true, false, not, ◌&&◌, ◌||◌, List, [], ◌∷◌, ◌++◌, Option, Some, None, nat_lt, nat_le, zero, suc}
use Rattle.std.specs.List.{list_all, list_any, flat_map}
use Rattle.std.specs.BTreeMap.{is_at}
use Rattle.qs_base.specs.Order.{bytes_cmp, same_tid}
use Rattle.qs_base.specs.declared.identifiers.NodeNo.{NodeNo}
use Rattle.qs_base.specs.declared.identifiers.ServerNo.{ServerNo}
use Rattle.qs_base.specs.declared.identifiers.Tid.{Tid}
use Rattle.qs_engage.specs.Nodes.{same_node}
use Rattle.qs_ipc.specs.Queue.{is_for}
use Rattle.qs_ops.specs.declared.operation.Op.{Op}
use Rattle.qs_book_journal.specs.declared.script_line.Command.{Command}
use Rattle.qs_book_journal.specs.declared.script_line.Command.TheVariants as commands
use Rattle.qs_book_journal.specs.declared.script_line.ScriptLine.{ScriptLine}
use Rattle.qs_record.specs.declared.record.Record.{Record}
use Rattle.qs_record.specs.declared.record.Record.TheVariants as records
use Rattle.qs_book_machine.specs.Nodes.{is_recoverable}
use Rattle.qs_node_step.specs.declared.setting.Setting.{Setting}
use Rattle.qs_restart.specs.Recovery.{Prepared, Untold, Recovery, recovery, names_transaction, is_untold_of}
use Rattle.qs_world.specs.World.{Opening}
use Rattle.qs_world.specs.Moves.{client_count}

-- a test of each number below one
abbrev pub each_below : ℕ → (ℕ → Bool) → Bool
each_below zero test = true
each_below (suc n) test = test n && each_below n test

-- what the numbers below one give, in order
abbrev pub all_below : {A : Type 0} → ℕ → (ℕ → List A) → List A
all_below zero f = []
all_below (suc n) f = all_below n f ++ f n

-- ---- settings

-- the bytes before each record and those that are kept, by the format of the disk
abbrev pub is_format : ℕ → ℕ → Bool
is_format extra keep = ((extra == 0) && (keep == 128)) || ((extra == 8) && (keep == 144))

abbrev pub is_in_run : ℕ → NodeNo → Bool
is_in_run size node = nat_lt node.0 size

abbrev pub is_audit : ℕ → Option NodeNo → Bool
is_audit size None = true
is_audit size (Some node) = is_in_run size node

-- a transaction may be aborted for its age from its first tick on, not before
abbrev pub is_age : Option ℕ → Bool
is_age None = true
is_age (Some age) = nat_lt 0 age

abbrev pub is_setting : ℕ → ℕ → Setting → Bool
is_setting size n setting =
    ((setting.node.0 == n) && (setting.nodes == size))
    && (nat_lt 0 setting.inc && (is_age setting.age && (is_format setting.extra setting.keep && is_audit size setting.audit)))

-- ---- scripts

abbrev pub same_label : List ℕ → List ℕ → Bool
same_label label other = is_at (bytes_cmp label) other

-- the label that a line begins a transaction under
abbrev pub label_begun : ScriptLine → List (List ℕ)
label_begun line = elim line.command [
  | commands.Begin ↦ line.label ∷ []
  | commands.Commit ↦ []
  | commands.Abort ↦ []
  | commands.Take ↦ []
  | commands.Yield ↦ []
  | commands.Request member op ↦ []
]

abbrev pub labels_begun : List ScriptLine → List (List ℕ)
labels_begun lines = flat_map label_begun lines

abbrev pub has_label : List (List ℕ) → List ℕ → Bool
has_label labels label = list_any (same_label label) labels

-- no label stands twice
abbrev pub are_apart : List (List ℕ) → Bool
are_apart [] = true
are_apart (label ∷ labels) = not (has_label labels label) && are_apart labels

-- a request goes to the server whose operation it is, at a node of the run; no client takes what it began itself
abbrev pub is_command : ℕ → List (List ℕ) → List ℕ → Command → Bool
is_command size begun label commands.Begin = true
is_command size begun label commands.Commit = true
is_command size begun label commands.Abort = true
is_command size begun label commands.Take = not (has_label begun label)
is_command size begun label commands.Yield = true
is_command size begun label (commands.Request member op) = is_in_run size member.node && is_for member.server op

-- a line of that client
abbrev pub is_line : ℕ → ℕ → List (List ℕ) → ScriptLine → Bool
is_line size k begun line = (line.client.0 == k) && is_command size begun line.label line.command

-- the lines rise, from behind one
abbrev pub are_rising : ℕ → List ScriptLine → Bool
are_rising last [] = true
are_rising last (line ∷ lines) = nat_lt last line.line && are_rising line.line lines

-- the node of a client, and its script
abbrev pub is_script : ℕ → ℕ → ℕ × List ScriptLine → Bool
is_script size k client =
    nat_lt client.0 size && (are_rising 0 client.1 && list_all (is_line size k (labels_begun client.1)) client.1)

-- all labels that are begun, of all clients
abbrev pub all_labels : Opening → List (List ℕ)
all_labels o = all_below client_count (λ k. labels_begun (o.clients k).1)

-- ---- logs

-- what began at a node of the run began in an earlier incarnation of it
abbrev pub is_earlier : Opening → Tid → Bool
is_earlier o tid = not (is_in_run o.size tid.home) || nat_lt tid.inc (o.settings tid.home.0).inc

abbrev pub is_commit_of : Tid → Record → Bool
is_commit_of tid (records.Prepare other server covers changes) = false
is_commit_of tid (records.Commit other told) = same_tid tid other
is_commit_of tid (records.Aborted other) = false
is_commit_of tid (records.End other) = false

-- its home is not in the run, or its home's log has a Commit of it
abbrev pub is_committed_at_home : Opening → Tid → Bool
is_committed_at_home o tid = not (is_in_run o.size tid.home) || list_any (is_commit_of tid) (o.logs tid.home.0)

abbrev pub has_node : List NodeNo → NodeNo → Bool
has_node nodes node = list_any (same_node node) nodes

-- a Commit with a list stands at the home, and does not name it
abbrev pub is_list : ℕ → Tid → List NodeNo → Bool
is_list n tid [] = true
is_list n tid (first ∷ others) = (tid.home.0 == n) && not (has_node (first ∷ others) tid.home)

-- a record in the log of node n
abbrev pub is_record : Opening → ℕ → Record → Bool
is_record o n (records.Prepare tid server covers changes) =
    is_earlier o tid && (is_recoverable server.0 && list_all (is_for server) changes)
is_record o n (records.Commit tid told) = is_earlier o tid && (is_committed_at_home o tid && is_list n tid told)
is_record o n (records.Aborted tid) = is_earlier o tid
is_record o n (records.End tid) = is_earlier o tid

-- a Commit that is not ended names the node
abbrev pub names_it : Tid → ℕ → Untold → Bool
names_it tid n commit = same_tid tid commit.tid && has_node commit.told (record { 0 = n })

-- where its home's log has a Commit, that has no End, and names the node
abbrev pub is_still_told : Opening → ℕ → Tid → Bool
is_still_told o n tid =
    not (list_any (is_commit_of tid) (o.logs tid.home.0)) || list_any (names_it tid n) (recovery (o.logs tid.home.0)).untold

-- a Prepare in the log of node n that is not ended
abbrev pub is_open_vote : Opening → ℕ → Prepared → Bool
is_open_vote o n vote = (vote.tid.home.0 == n) || (not (is_in_run o.size vote.tid.home) || is_still_told o n vote.tid)

-- a Prepare in doubt is of a transaction, and the log has no Commit of it, be it told to all or not
abbrev pub is_doubt : Recovery → Prepared → Bool
is_doubt said vote =
    vote.committed
    || (names_transaction vote.tid && (not (list_any (is_untold_of vote.tid) said.untold) && not (list_any (same_tid vote.tid) said.committed)))

-- a Commit that waits for its End is of a transaction
abbrev pub is_untold : Untold → Bool
is_untold commit = names_transaction commit.tid

-- what a log says of the transactions that are not ended
abbrev pub are_unended : Recovery → Bool
are_unended said = list_all (is_doubt said) said.prepared && list_all is_untold said.untold

-- a Commit that waits for its End is the only one of its transaction that does, and names nodes that some run may have
abbrev pub names_nodes : Untold → Bool
names_nodes commit = list_all (is_in_run 16) commit.told

abbrev pub is_commit_of_other : Tid → Untold → Bool
is_commit_of_other tid commit = not (is_untold_of tid commit)

abbrev pub are_once : List Untold → Bool
are_once [] = true
are_once (commit ∷ commits) = list_all (is_commit_of_other commit.tid) commits && are_once commits

-- so a restart can take up the log whole
abbrev pub is_whole_log : Recovery → Bool
is_whole_log said = list_all names_nodes said.untold && are_once said.untold

-- ---- all of it

pub record IsOpening (o : Opening) : Type 0 where
  pub size : (nat_le 1 o.size && nat_le o.size 16) ≡ true
  pub settings : each_below o.size (λ n. is_setting o.size n (o.settings n)) ≡ true
  pub scripts : each_below client_count (λ k. is_script o.size k (o.clients k)) ≡ true
  pub labels : are_apart (all_labels o) ≡ true
  pub logs : each_below o.size (λ n. list_all (is_record o n) (o.logs n)) ≡ true
  pub votes : each_below o.size (λ n. list_all (is_open_vote o n) (recovery (o.logs n)).prepared) ≡ true
  pub unended : each_below o.size (λ n. are_unended (recovery (o.logs n))) ≡ true
  pub whole : each_below o.size (λ n. is_whole_log (recovery (o.logs n))) ≡ true
