-- The reference machine: its state, the lawful step, what a step does, and lawful histories.
use Rattle.std.specs.Prelude.{ℕ, ◌-◌, ◌==◌, Bool, true, false, ◌&&◌, List, [], ◌∷◌, ◌++◌, fold, Option, Some, None, slice_get, slice_set, map, if◌then◌else◌}
use Rattle.std.specs.Map.{lookup}
use Rattle.std.specs.BTreeMap.{insert_entry, is_at}
use Rattle.std.specs.BTreeSet.{insert_key}
use Rattle.qs_base.specs.Order.{bytes_cmp, tid_cmp}
use Rattle.qs_base.specs.declared.identifiers.ClientNo.{ClientNo}
use Rattle.qs_base.specs.declared.identifiers.Member.{Member}
use Rattle.qs_base.specs.declared.identifiers.NodeNo.{NodeNo}
use Rattle.qs_base.specs.declared.identifiers.Outcome.{Outcome}
use Rattle.qs_base.specs.declared.identifiers.Outcome.TheVariants as outcomes
use Rattle.qs_base.specs.declared.identifiers.Tid.{Tid}
use Rattle.qs_ops.specs.declared.answer.Cause.{Cause}
use Rattle.qs_ops.specs.declared.file.File.{File}
use Rattle.qs_ops.specs.declared.operation.Op.{Op}
use Rattle.qs_ops.specs.declared.reply.Reply.{Reply}
use Rattle.qs_ops.specs.declared.reply.Reply.TheVariants as replies
use Rattle.qs_ops.specs.declared.vote.Vote.{Vote}
use Rattle.qs_ops.specs.declared.vote.Vote.TheVariants as votes
use Rattle.qs_ops.specs.Table.{served, released, committed, with_vote}
use Rattle.qs_ops.specs.Timers.{timer_served, ticked, timers_ended}
use Rattle.qs_ops.specs.Servers.{names_no, timers_no, is_client_no}
use Rattle.qs_book_machine.specs.Transaction.{TransactionValue, part_of, changed_value, begun, issued, served_in, voted, decided_at, learnt, heard, is_crossed, standing_request, requests_at, counted, ended, lent, given_back}
use Rattle.qs_book_machine.specs.declared.transaction.Cell.{Cell}
use Rattle.qs_book_machine.specs.declared.transaction.Request.{Request}
use Rattle.qs_book_machine.specs.declared.transaction.RequestNo.{RequestNo}
use Rattle.qs_book_machine.specs.Causes.{cause_cmp}
use Rattle.qs_book_machine.specs.Clauses.{link_to, borrower_at}
use Rattle.qs_book_machine.specs.Nodes.{NodeValue, with_table, crossed_node, bound_names, with_doubts, without_doubts, pending_at, voter, voter_cmp, without_record}
use Rattle.qs_book_machine.specs.declared.state.Asking.{Asking}
use Rattle.qs_book_machine.specs.declared.state.Owner.{Owner}

pub record BookValue : Type 0 where
  pub stamp : ℕ  -- of the last entry
  pub node : ℕ  -- of the last entry
  pub place : ℕ  -- how many entries stand before the next one
  pub nodes : List NodeValue  -- by number
  pub labels : List (List ℕ × Tid)  -- of the transactions that were begun
  pub transactions : List (Tid × TransactionValue)
  pub owners : List Owner  -- what each client may be told, by number

-- ---- look-ups

abbrev pub find_transaction : BookValue → Tid → Option TransactionValue
find_transaction book tid = lookup (is_at (tid_cmp tid)) book.transactions

abbrev pub find_label : BookValue → List ℕ → Option Tid
find_label book label = lookup (is_at (bytes_cmp label)) book.labels

abbrev pub inc_of : Option NodeValue → Option ℕ
inc_of None = None
inc_of (Some node) = Some node.inc

abbrev pub files_of : Option NodeValue → Option (List File)
files_of None = None
files_of (Some node) = Some node.files.contents

abbrev pub notes_of : Option NodeValue → Option (List (List ℕ))
notes_of None = None
notes_of (Some node) = Some node.audit.notes

abbrev pub extra_of_node : Option NodeValue → Option (List (List ℕ))
extra_of_node None = None
extra_of_node (Some node) = Some node.extra

abbrev pub cell_of_transaction : Option TransactionValue → Option Cell
cell_of_transaction None = None
cell_of_transaction (Some tx) = Some tx.cell

-- the incarnation of a node; 0 where it is none of the run's
abbrev pub inc_at : BookValue → NodeNo → ℕ
inc_at book node = elim (slice_get book.nodes node.0) [ None ↦ 0 | Some state ↦ state.inc ]

-- ---- changes

-- the item at a place is changed; nothing where there is none
abbrev pub changed_at : {A : Type 0} → ℕ → (A → A) → List A → List A
changed_at place f xs = elim (slice_get xs place) [ None ↦ xs | Some x ↦ slice_set xs place (f x) ]

abbrev pub with_node : ℕ → (NodeValue → NodeValue) → BookValue → BookValue
with_node here f book = record book { nodes = changed_at here f book.nodes }

abbrev pub with_transaction : Tid → (TransactionValue → TransactionValue) → BookValue → BookValue
with_transaction tid f book = record book { transactions = changed_value (is_at (tid_cmp tid)) f book.transactions }

abbrev pub with_owner : ℕ → (Owner → Owner) → BookValue → BookValue
with_owner client f book = record book { owners = changed_at client f book.owners }

-- the owner of a decided transaction may be told the outcome
abbrev pub told : Outcome → Option Cause → Owner → Owner
told outcomes.Commit cause owner = record owner { committed = true }
told outcomes.Abort None owner = owner
told outcomes.Abort (Some cause) owner = record owner { causes = insert_key cause_cmp owner.causes cause }

abbrev pub owner_of : Option TransactionValue → Option ClientNo
owner_of None = None
owner_of (Some tx) = tx.owner

abbrev pub told_owner : Option ClientNo → Outcome → Option Cause → List Owner → List Owner
told_owner None outcome cause owners = owners
told_owner (Some client) outcome cause owners = changed_at client.0 (told outcome cause) owners

-- the cell of a transaction gets its outcome, at this place of the history
abbrev pub decide : Tid → Outcome → Option Cause → BookValue → BookValue
decide tid outcome cause book = record book {
  transactions = changed_value (is_at (tid_cmp tid)) (decided_at book.place outcome cause) book.transactions;
  owners = told_owner (owner_of (find_transaction book tid)) outcome cause book.owners;
}

-- ---- what a lawful step does, kind by kind

-- how many ticks the node made in its incarnation
abbrev pub ticks_at : Option NodeValue → ℕ
ticks_at None = 0
ticks_at (Some node) = node.timers.ticks

abbrev pub begin : ℕ → Tid → List ℕ → ClientNo → BookValue → BookValue
begin here tid label client book = record (with_node here (λ node. record node { begun = tid.seq }) book) {
  labels = insert_entry bytes_cmp book.labels label tid;
  transactions = insert_entry tid_cmp book.transactions tid (begun label client (ticks_at (slice_get book.nodes here)));
}

-- a client waits for the answer to its request
abbrev pub with_waiting : Tid → Member → Member → BookValue → BookValue
with_waiting tid issuer member book =
    if is_client_no issuer.server.0
    then with_owner (issuer.server.0 - 32)
    (λ owner. record owner { waiting = owner.waiting ++ record { tid = tid; node = member.node } ∷ [] }) book
    else book

-- a request of this number stands at the member already: the transaction is crossed there
abbrev pub crosses : Option TransactionValue → RequestNo → Member → Bool
crosses None at member = false
crosses (Some tx) at member = elim (standing_request tx at member) [ None ↦ false | Some request ↦ true ]

abbrev pub with_crossing : Bool → Tid → Member → BookValue → BookValue
with_crossing true tid member book = with_node member.node.0 (crossed_node tid member.server.0) book
with_crossing false tid member book = book

abbrev pub issue : ℕ → Tid → Member → Member → ℕ → Op → BookValue → BookValue
issue here tid issuer member number op book =
    with_crossing (crosses (find_transaction book tid) at member) tid member
    (with_waiting tid issuer member
    (with_transaction tid (issued at request (inc_at book member.node) book.place) book))
  where
    at : RequestNo
    at = record { link = link_to here member; number = number }

    request : Request
    request = record { issuer = issuer; member = member; op = op; inc = inc_at book (record { 0 = here }); served = false }

abbrev pub is_done : Reply → Bool
is_done replies.Done = true
is_done reply = false

-- what a serve does at its server
abbrev pub server_serve : ℕ → Tid → Op → Reply → NodeValue → NodeValue
server_serve server tid op reply node =
    if server == timers_no then record node { timers = timer_served node.timers tid op reply }
    else with_table server (λ table. served table tid op reply) node

-- a crossed transaction may have bound the name of any request of that number
abbrev pub crossed_serve : ℕ → Tid → List Request → Reply → NodeValue → NodeValue
crossed_serve server tid requests reply node =
    if (server == names_no) && is_done reply
    then with_doubts tid (bound_names (map (λ (request : Request). request.op) requests)) node
    else node

abbrev pub serve_node : Option TransactionValue → RequestNo → Tid → Member → Reply → NodeValue → NodeValue
serve_node None at tid member reply node = node
serve_node (Some tx) at tid member reply node =
    if is_crossed tx member then crossed_serve member.server.0 tid (requests_at tx at) reply node
    else elim (standing_request tx at member) [
      | None ↦ node
      | Some request ↦ server_serve member.server.0 tid request.op reply node
    ]

abbrev pub serve : ℕ → Tid → Member → NodeNo → ℕ → ℕ → Reply → BookValue → BookValue
serve here tid member from number stamp reply book =
    with_transaction tid (served_in at member (inc_at book (record { 0 = here })) stamp (is_done reply))
    (with_node here (serve_node (find_transaction book tid) at tid member reply) book)
  where
    at : RequestNo
    at = record { link = record { from = from; to = member.node }; number = number }

-- a read-only vote ends the reads; a volatile one claims the names; a recoverable one goes on record
-- with its covers and the count of the changes that the member has pending
abbrev pub vote_node : ℕ → Bool → Tid → ℕ → Vote → ℕ → NodeValue → NodeValue
vote_node count crossed tid server votes.ReadOnly covers node = with_table server (λ table. released table tid) node
vote_node count true tid server (votes.Abort reason) covers node = node
vote_node count false tid server (votes.Abort reason) covers node = with_table server (λ table. with_vote table tid false) node
vote_node count true tid server votes.Volatile covers node = node
vote_node count false tid server votes.Volatile covers node = with_table server (λ table. with_vote table tid true) node
vote_node count crossed tid server votes.Recoverable covers node = record node {
  records = insert_entry voter_cmp node.records (voter tid server)
      (record { changes = pending_at node tid server; covers = covers; pending = count });
}

abbrev pub crossed_in : Option TransactionValue → Member → Bool
crossed_in None member = false
crossed_in (Some tx) member = is_crossed tx member

-- how many changes the member has pending in that incarnation
abbrev pub pending_in : Option TransactionValue → Member → ℕ → ℕ
pending_in None member inc = 0
pending_in (Some tx) member inc = (part_of tx member inc).pending

-- a member of this node votes
abbrev pub vote_here : ℕ → Tid → Member → Vote → ℕ → Option TransactionValue → BookValue → BookValue
vote_here here tid member ballot covers tx book =
    with_node here
    (vote_node (pending_in tx member (inc_at book (record { 0 = here }))) (crossed_in tx member) tid member.server.0 ballot covers) book

abbrev pub vote : ℕ → Tid → Member → Vote → ℕ → BookValue → BookValue
vote here tid member ballot covers book =
    with_transaction tid (voted member (inc_at book (record { 0 = here })) ballot)
    (vote_here here tid member ballot covers (find_transaction book tid) book)

-- commit applies what is pending, and is on record no more; abort drops it
abbrev pub learn_node : Outcome → Tid → ℕ → NodeValue → NodeValue
learn_node outcomes.Commit tid server node = without_record tid server (with_table server (λ table. committed table tid) node)
learn_node outcomes.Abort tid server node = with_table server (λ table. released table tid) node

-- and nothing is in doubt at names any more
abbrev pub doubts_after : Tid → ℕ → NodeValue → NodeValue
doubts_after tid server node = if server == names_no then without_doubts tid node else node

abbrev pub learn : ℕ → Tid → Member → Outcome → BookValue → BookValue
learn here tid member outcome book =
    with_transaction tid (learnt member (inc_at book (record { 0 = here })) outcome)
    (with_node here (λ node. doubts_after tid member.server.0 (learn_node outcome tid member.server.0 node)) book)

-- an answer ends the wait for each request of that client
abbrev pub hear : BookValue → Asking → BookValue
hear book asking = with_transaction asking.tid (heard asking.node (inc_at book asking.node)) book

abbrev pub waiting_of : Option Owner → List Asking
waiting_of None = []
waiting_of (Some owner) = owner.waiting

abbrev pub answer : ClientNo → ℕ → BookValue → BookValue
answer client line book =
    fold hear (with_owner client.0 (λ owner. record owner { line = line; waiting = [] }) book)
    (waiting_of (slice_get book.owners client.0))

abbrev pub tick_node : ℕ → NodeValue → NodeValue
tick_node stamp node = record node { timers = ticked node.timers; ticked = stamp }

abbrev pub crash_node : ℕ → NodeValue → NodeValue
crash_node place node = record node { up = false; stopped = place }

-- a peer's answer is counted
abbrev pub count : ℕ → Tid → NodeNo → ℕ → BookValue → BookValue
count here tid peer up_to book =
    with_transaction tid
    (counted (record { from = record { 0 = here }; to = peer }) (inc_at book (record { 0 = here })) up_to (inc_at book peer)) book

-- a timers server is told that the transaction ends
abbrev pub end_node : Tid → NodeValue → NodeValue
end_node tid node = record node { timers = timers_ended node.timers tid }

abbrev pub end : ℕ → Tid → Member → BookValue → BookValue
end here tid member book =
    with_transaction tid (ended member (inc_at book (record { 0 = here }))) (with_node here (end_node tid) book)

-- a client of this node takes a loan, or gives one back
abbrev pub loan_to : ℕ → Tid → Option Member → BookValue → BookValue
loan_to inc tid None book = book
loan_to inc tid (Some member) book = with_transaction tid (lent member inc) book

abbrev pub loan : ℕ → Tid → ClientNo → BookValue → BookValue
loan here tid client book = loan_to (inc_at book (record { 0 = here })) tid (borrower_at client here) book

abbrev pub give_back_from : ℕ → Tid → Option Member → BookValue → BookValue
give_back_from inc tid None book = book
give_back_from inc tid (Some member) book = with_transaction tid (given_back member inc) book

abbrev pub give_back : ℕ → Tid → ClientNo → BookValue → BookValue
give_back here tid client book = give_back_from (inc_at book (record { 0 = here })) tid (borrower_at client here) book
