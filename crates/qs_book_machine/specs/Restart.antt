-- A restart: what its found lists have to be, and what it does.
use Rattle.std.specs.Prelude.{ℕ, ◌==◌, Bool, true, false, not, ◌&&◌, ◌||◌, List, [], ◌∷◌, ◌++◌, fold, Option, Some, None, is_some, nat_lt, nat_le, suc, zero, slice_get, if◌then◌else◌}
use Rattle.std.specs.List.{list_any, list_all, flat_map, filter}
use Rattle.std.specs.BTreeMap.{insert_entry, is_at}
use Rattle.std.specs.BTreeSet.{insert_key}
use Rattle.std.specs.Ordering.{nat_cmp}
use Rattle.qs_base.specs.Order.{same_tid}
use Rattle.qs_base.specs.declared.identifiers.Member.{Member}
use Rattle.qs_base.specs.declared.identifiers.Outcome.TheVariants as outcomes
use Rattle.qs_base.specs.declared.identifiers.Tid.{Tid}
use Rattle.qs_ops.specs.declared.answer.Cause.TheVariants as causes
use Rattle.qs_ops.specs.declared.operation.Op.{Op}
use Rattle.qs_ops.specs.declared.vote.Vote.TheVariants as votes
use Rattle.qs_book_journal.specs.declared.entry.Found.{Found}
use Rattle.qs_ops.specs.Table.{no_table, restarted}
use Rattle.qs_ops.specs.Timers.{no_timers}
use Rattle.qs_ops.specs.declared.share.KeptChanges.{KeptChanges}
use Rattle.qs_ops.specs.Servers.{files_no, audit_no, extra_no}
use Rattle.qs_book_machine.specs.Transaction.{TransactionValue, is_open, is_commit, is_abort, part_of, was_crossed, is_covering, is_unanimous, has_learnt, with_learnt, found_at, was_in_commit, is_empty}
use Rattle.qs_book_machine.specs.Clauses.{has_vote}
use Rattle.qs_book_machine.specs.Book.{BookValue, find_transaction, with_node, with_transaction, decide, crossed_in, pending_in, inc_at}
use Rattle.qs_book_machine.specs.Nodes.{NodeValue, without_record, record_of, changes_of, pending_at, is_recoverable, voter, voter_cmp}
use Rattle.qs_book_machine.specs.declared.state.Reopened.{Reopened}
use Rattle.qs_book_machine.specs.declared.state.OnRecord.{OnRecord}
use Rattle.qs_book_machine.specs.declared.state.Voter.{Voter}

abbrev pub member_at : ℕ → ℕ → Member
member_at here server = record { node = record { 0 = here }; server = record { 0 = server } }

-- the transaction is among these
abbrev pub is_among : List Tid → Tid → Bool
is_among tids tid = list_any (same_tid tid) tids

-- ---- 111: found votes are votes

-- it is on record with these covers
abbrev pub is_on_record : NodeValue → Found → Bool
is_on_record node found = elim (record_of node found.tid found.server.0) [
  | None ↦ false
  | Some rec ↦ rec.covers == found.covers
]

-- as the node stopped, its member could vote recoverable: a vote that its server has; asked and not committed, something
-- served since its last vote, covers that count, something pending or the transaction crossed there
abbrev pub could_vote : ℕ → NodeValue → TransactionValue → Found → Bool
could_vote here node tx found =
    has_vote found.server.0 votes.Recoverable
    && (was_in_commit node.stopped tx
    && ((nat_lt (part_of tx (member_at here found.server.0) node.inc).voted (part_of tx (member_at here found.server.0) node.inc).served
    && is_covering tx (member_at here found.server.0) node.inc found.covers)
    && (was_crossed node.stopped tx (member_at here found.server.0) || not (is_empty (pending_at node found.tid found.server.0)))))

abbrev pub is_new_vote : ℕ → NodeValue → Option TransactionValue → Found → Bool
is_new_vote here node None found = false
is_new_vote here node (Some tx) found = not (is_on_record node found) && could_vote here node tx found

-- it was applied: its Commit is found too, and its member learnt commit, or the log had the Commit at the opening
abbrev pub was_applied : ℕ → NodeValue → List Tid → Option TransactionValue → Found → Bool
was_applied here node done None found = false
was_applied here node done (Some tx) found =
    is_among done found.tid && (has_learnt tx (member_at here found.server.0) || is_among node.committed found.tid)

-- a member that keeps its votes in a log made it
abbrev pub is_found_vote : ℕ → BookValue → NodeValue → List Tid → Found → Bool
is_found_vote here book node done found =
    is_recoverable found.server.0
    && (is_on_record node found
    || (is_new_vote here node (find_transaction book found.tid) found
    || was_applied here node done (find_transaction book found.tid) found))

-- a vote of the same member for the same transaction
abbrev pub is_same_vote : Found → Found → Bool
is_same_vote found other = same_tid other.tid found.tid && (other.server.0 == found.server.0)

abbrev pub voter_of : Found → Voter
voter_of found = voter found.tid found.server.0

-- a vote of the same member for the same transaction was seen
abbrev pub is_seen : List Voter → Found → Bool
is_seen seen found = list_any (is_at (voter_cmp (voter_of found))) seen

-- each member's vote for a transaction is found once
abbrev pub votes_once : List Found → Bool
votes_once [] = true
votes_once (found ∷ more) = not (list_any (is_same_vote found) more) && votes_once more

-- ---- 112: no vote is lost

abbrev pub is_found_as : Voter → ℕ → Found → Bool
is_found_as at covers found =
    same_tid found.tid at.tid && ((found.server.0 == at.server.0) && nat_le covers found.covers)

abbrev pub may_be_lost : ℕ → Tid → Option TransactionValue → Bool
may_be_lost here tid None = false
may_be_lost here tid (Some tx) = is_abort tx.cell || (is_open tx.cell && (tid.home.0 == here))

-- what is on record is found, with its covers at least, or committed; or it was or is aborted
abbrev pub is_kept : ℕ → BookValue → List Found → List Tid → Voter × OnRecord → Bool
is_kept here book pend done entry =
    may_be_lost here entry.0.tid (find_transaction book entry.0.tid)
    || (is_among done entry.0.tid || list_any (is_found_as entry.0 entry.1.covers) pend)

-- ---- 113: found commits are commits

abbrev pub is_committed : ℕ → Tid → Option TransactionValue → Bool
is_committed here tid None = false
is_committed here tid (Some tx) = is_commit tx.cell || ((is_open tx.cell && (tid.home.0 == here)) && is_unanimous tx)

abbrev pub is_found_commit : ℕ → BookValue → NodeValue → Tid → Bool
is_found_commit here book node tid =
    is_among node.committed tid || is_committed here tid (find_transaction book tid)

-- 110 incarnation rises, 111, 112, 113
abbrev pub broken_restart : ℕ → BookValue → NodeValue → ℕ → List Found → List Tid → Option ℕ
broken_restart here book node inc pend done =
    if not (nat_lt node.inc inc) then Some 110
    else if not (list_all (is_found_vote here book node done) pend && votes_once pend) then Some 111
    else if not (list_all (is_kept here book pend done) node.records) then Some 112
    else if not (list_all (is_found_commit here book node) done) then Some 113
    else None

-- ---- what it does

-- the vote with what was pending as the node stopped
abbrev pub vote_as_stopped : ℕ → BookValue → NodeValue → Found → OnRecord
vote_as_stopped here book node found = record {
  changes = pending_at node found.tid found.server.0;
  covers = found.covers;
  pending = pending_in (find_transaction book found.tid) (member_at here found.server.0) node.inc;
}

-- a vote that was found and is new goes on record
abbrev pub new_vote : ℕ → BookValue → NodeValue → Found → List (Voter × OnRecord)
new_vote here book node found =
    if is_new_vote here node (find_transaction book found.tid) found
    then (voter found.tid found.server.0, vote_as_stopped here book node found) ∷ []
    else []

abbrev pub new_votes_at : ℕ → BookValue → Option NodeValue → List Found → List (Voter × OnRecord)
new_votes_at here book None pend = []
new_votes_at here book (Some node) pend = flat_map (new_vote here book node) pend

abbrev pub new_votes : ℕ → BookValue → List Found → List (Voter × OnRecord)
new_votes here book pend = new_votes_at here book (slice_get book.nodes here) pend

abbrev pub with_vote : NodeValue → Voter × OnRecord → NodeValue
with_vote node vote = record node { records = insert_entry voter_cmp node.records vote.0 vote.1 }

abbrev pub with_votes : List (Voter × OnRecord) → NodeValue → NodeValue
with_votes votes node = fold with_vote node votes

-- what the log of a node holds of a transaction at a server
abbrev pub record_at : ℕ → BookValue → Tid → ℕ → Option OnRecord
record_at here book tid server = elim (slice_get book.nodes here) [ None ↦ None | Some node ↦ record_of node tid server ]

abbrev pub changes_at : ℕ → BookValue → ℕ → Tid → List Op
changes_at here book server tid = changes_of (record_at here book tid server)

-- a vote of a server that is pending again; what a crossed transaction holds is not known
abbrev pub is_kept_at : ℕ → BookValue → ℕ → List Tid → Found → Bool
is_kept_at here book server done found =
    (found.server.0 == server)
    && not (is_among done found.tid || crossed_in (find_transaction book found.tid) (member_at here server))

abbrev pub keep_found : ℕ → BookValue → ℕ → List Tid → Found → List KeptChanges
keep_found here book server done found =
    if is_kept_at here book server done found
    then record { tid = found.tid; changes = changes_at here book server found.tid } ∷ []
    else []

-- the transactions with something on record whose Commits are found, each once, in their order
abbrev pub has_record : ℕ → BookValue → Tid → Bool
has_record here book tid = is_some (record_at here book tid files_no) || is_some (record_at here book tid audit_no)

abbrev pub add_commit : ℕ → BookValue → List Tid → Tid → List Tid
add_commit here book tids tid = if has_record here book tid && not (is_among tids tid) then tids ++ tid ∷ [] else tids

abbrev pub commits_found : ℕ → BookValue → List Tid → List Tid
commits_found here book done = fold (add_commit here book) [] done

-- what files and audit of a node begin with: the changes of the Commits that were found, and the votes that are pending
abbrev pub reopened : ℕ → ℕ → List Found → List Tid → BookValue → Reopened
reopened here inc pend done book = record {
  inc = inc;
  files = flat_map (changes_at here book files_no) (commits_found here book done);
  files_kept = flat_map (keep_found here book files_no done) pend;
  audit = flat_map (changes_at here book audit_no) (commits_found here book done);
  audit_kept = flat_map (keep_found here book audit_no done) pend;
}

-- what is on record of a transaction whose Commit is found is so no more
abbrev pub without_records : NodeValue → Tid → NodeValue
without_records node tid = without_record tid extra_no (without_record tid audit_no (without_record tid files_no node))

-- the node in its new incarnation: found commits applied, found votes pending again, what is volatile gone
abbrev pub reopened_node : Reopened → NodeValue → NodeValue
reopened_node left node = record node {
  up = true;
  inc = left.inc;
  past = insert_key nat_cmp node.past node.inc;
  begun = 0;
  files = restarted node.files left.files left.files_kept;
  audit = restarted node.audit left.audit left.audit_kept;
  names = no_table;
  windows = no_table;
  scratch = no_table;
  timers = no_timers;
  doubts = [];
}

-- the member's vote for that transaction is found, with whatever covers
abbrev pub is_found : List Found → Voter → Bool
is_found pend at = list_any (is_found_as at 0) pend

-- what is on record and not found is so no more: it was or is aborted, and a later vote of that member for the same
-- transaction, which may have as many covers, is not to be taken for it
abbrev pub found_only : List Found → NodeValue → NodeValue
found_only pend node = record node { records = filter (λ (entry : Voter × OnRecord). is_found pend entry.0) node.records }

abbrev pub restarted_node : Reopened → List Found → List Tid → NodeValue → NodeValue
restarted_node left pend done node = reopened_node left (found_only pend (fold without_records node done))

-- a member with a vote on record learns commit as its transaction's Commit is found
abbrev pub learn_found : ℕ → Tid → ℕ → BookValue → BookValue
learn_found here tid server book =
    if is_some (record_at here book tid server)
    then with_transaction tid (with_learnt (member_at here server)) book
    else book

-- at the home an open cell becomes commit
abbrev pub is_open_here : ℕ → Tid → Option TransactionValue → Bool
is_open_here here tid None = false
is_open_here here tid (Some tx) = (tid.home.0 == here) && is_open tx.cell

abbrev pub decide_found : ℕ → Tid → BookValue → BookValue
decide_found here tid book =
    if is_open_here here tid (find_transaction book tid) then decide tid outcomes.Commit None book else book

abbrev pub commit_found : ℕ → BookValue → Tid → BookValue
commit_found here book tid =
    decide_found here tid (learn_found here tid extra_no (learn_found here tid audit_no (learn_found here tid files_no book)))

-- how many changes were pending at the vote; the changes of a crossed member are not known, and their count is
abbrev pub count_of : Option OnRecord → ℕ
count_of None = 0
count_of (Some rec) = rec.pending

-- a member whose vote is pending again
abbrev pub vote_found : ℕ → ℕ → List Tid → BookValue → Found → BookValue
vote_found here inc done book found =
    if is_among done found.tid then book
    else with_transaction found.tid
    (found_at (member_at here found.server.0) inc found.covers (count_of (record_at here book found.tid found.server.0))) book

-- a transaction that was begun in the incarnation that ended, and is open still, is aborted
abbrev pub begun_tid : ℕ → ℕ → ℕ → Tid
begun_tid here inc seq = record { home = record { 0 = here }; inc = inc; seq = seq }

abbrev pub abort_begun : ℕ → ℕ → BookValue → ℕ → BookValue
abort_begun here inc book seq =
    if is_open_here here (begun_tid here inc seq) (find_transaction book (begun_tid here inc seq))
    then decide (begun_tid here inc seq) outcomes.Abort (Some (causes.Home inc)) book
    else book

-- 1, 2, .. to that number
abbrev pub up_to : ℕ → List ℕ
up_to zero = []
up_to (suc n) = up_to n ++ suc n ∷ []

abbrev pub begun_at : ℕ → BookValue → ℕ
begun_at here book = elim (slice_get book.nodes here) [ None ↦ 0 | Some node ↦ node.begun ]

abbrev pub restart_found : ℕ → ℕ → List Found → List Tid → BookValue → BookValue
restart_found here inc pend done book =
    with_node here (restarted_node (reopened here inc pend done book) pend done)
    (fold (abort_begun here (inc_at book (record { 0 = here })))
    (fold (vote_found here inc done) (fold (commit_found here) book done) pend)
    (up_to (begun_at here book)))

-- the votes that were found and are new go on record
abbrev pub put_new_votes : ℕ → List Found → BookValue → BookValue
put_new_votes here pend book = with_node here (with_votes (new_votes here book pend)) book

abbrev pub restart : ℕ → ℕ → List Found → List Tid → BookValue → BookValue
restart here inc pend done book =
    restart_found here inc pend done (put_new_votes here pend book)
