-- The machine as a run begins, from what the logs of its nodes hold.
use Rattle.std.specs.Prelude.{ℕ, ◌==◌, Bool, true, false, List, [], ◌∷◌, length, map, fold, replicate, Some, None, nat_lt, suc, if◌then◌else◌}
use Rattle.std.specs.List.{list_any, flat_map}
use Rattle.std.specs.BTreeMap.{insert_entry}
use Rattle.std.specs.BTreeSet.{insert_key}
use Rattle.qs_base.specs.Order.{tid_cmp}
use Rattle.qs_base.specs.declared.identifiers.Tid.{Tid}
use Rattle.qs_ops.specs.declared.answer.Cause.TheVariants as causes
use Rattle.qs_ops.specs.declared.operation.Op.{Op}
use Rattle.qs_ops.specs.declared.operation.Op.TheVariants.{Put, Note}
use Rattle.qs_ops.specs.declared.file.File.{File}
use Rattle.qs_ops.specs.Table.{no_table, restarted}
use Rattle.qs_ops.specs.Timers.{no_timers}
use Rattle.qs_ops.specs.declared.share.KeptChanges.{KeptChanges}
use Rattle.qs_ops.specs.Servers.{files_no, audit_no}
use Rattle.qs_book_machine.specs.Transaction.{TransactionValue, opened_as, found_at}
use Rattle.qs_book_machine.specs.declared.transaction.Cell.TheVariants as cells
use Rattle.qs_book_machine.specs.Book.{BookValue, find_transaction, with_transaction}
use Rattle.qs_book_machine.specs.Nodes.{NodeValue, voter, voter_cmp}
use Rattle.qs_book_machine.specs.Restart.{is_among, member_at}
use Rattle.qs_book_machine.specs.declared.opened.Opened.{Opened}
use Rattle.qs_book_machine.specs.declared.opened.Pending.{Pending}
use Rattle.qs_book_machine.specs.declared.state.OnRecord.{OnRecord}
use Rattle.qs_book_machine.specs.declared.state.Owner.{Owner}
use Rattle.qs_book_machine.specs.declared.state.Voter.{Voter}

-- ---- nodes

-- the votes of a server that its log holds
abbrev pub keep_pending : ℕ → Pending → List KeptChanges
keep_pending server pending =
    if pending.server.0 == server then record { tid = pending.tid; changes = pending.changes } ∷ [] else []

abbrev pub put_of : File → Op
put_of file = Put file.name file.content

abbrev pub note_of : List ℕ → Op
note_of text = Note text

abbrev pub put_record : List (Voter × OnRecord) → Pending → List (Voter × OnRecord)
put_record records pending =
    insert_entry voter_cmp records (voter pending.tid pending.server.0)
    (record { changes = pending.changes; covers = pending.covers; pending = length pending.changes })

abbrev pub put_tid : List Tid → Tid → List Tid
put_tid tids tid = insert_key tid_cmp tids tid

-- a node is up, with what its log holds committed, and its votes pending
abbrev pub opened_node : Opened → NodeValue
opened_node opened = record {
  up = true;
  inc = opened.inc;
  past = [];
  begun = 0;
  format = opened.format;
  ticked = 0;
  stopped = 0;
  files = restarted no_table (map put_of opened.files) (flat_map (keep_pending files_no) opened.pending);
  audit = restarted no_table (map note_of opened.audit) (flat_map (keep_pending audit_no) opened.pending);
  names = no_table;
  windows = no_table;
  scratch = no_table;
  timers = no_timers;
  extra = opened.extra;
  records = fold put_record [] opened.pending;
  committed = fold put_tid [] opened.committed;
  doubts = [];
}

-- ---- transactions

-- the log of the node has its Commit
abbrev pub has_commit : Tid → NodeValue → Bool
has_commit tid node = is_among node.committed tid

-- commit where any log of the run has its Commit; abort where its home is in the run and none has it; else open
abbrev pub opened_transaction : List NodeValue → Tid → TransactionValue
opened_transaction nodes tid =
    if list_any (has_commit tid) nodes then opened_as cells.Commit None
    else if nat_lt tid.home.0 (length nodes) then opened_as cells.Abort (Some (causes.Home tid.inc))
    else opened_as cells.Open None

-- a transaction that a log names stands in the machine
abbrev pub name_transaction : BookValue → Tid → BookValue
name_transaction book tid = elim (find_transaction book tid) [
  | Some tx ↦ book
  | None ↦ record book { transactions = insert_entry tid_cmp book.transactions tid (opened_transaction book.nodes tid) }
]

-- and a vote that a log holds was left to its member
abbrev pub name_pending : ℕ → ℕ → BookValue → Pending → BookValue
name_pending here inc book pending =
    with_transaction pending.tid
    (found_at (member_at here pending.server.0) inc pending.covers (length pending.changes))
    (name_transaction book pending.tid)

-- what the log of a node names
abbrev pub name_all : ℕ → Opened → BookValue → BookValue
name_all here one book =
    fold (name_pending here one.inc) (fold name_transaction book one.committed) one.pending

-- the logs from this number on
abbrev pub name_from : ℕ → List Opened → BookValue → BookValue
name_from here [] book = book
name_from here (one ∷ more) book = name_from (suc here) more (name_all here one book)

-- ---- the whole

abbrev pub no_owner : Owner
no_owner = record { line = 0; committed = false; causes = []; waiting = [] }

abbrev pub opening : List Opened → BookValue
opening opened = name_from 0 opened (record {
  stamp = 0;
  node = 0;
  place = 0;
  nodes = map opened_node opened;
  labels = [];
  transactions = [];
  owners = replicate 256 no_owner;
})
