-- What the machine has of a world, as tests: a twin of each conjunct, so that it can be tried on the states of runs.
use Rattle.std.specs.Prelude.{ℕ, ◌+◌, ◌==◌, Bool, true, false, not, ◌&&◌, ◌||◌, List, [], ◌∷◌, ◌++◌, length, Option, Some, None, is_some, is_none, slice_get, nat_le, if◌then◌else◌}
use Rattle.std.specs.List.{list_all, list_any, find}
use Rattle.std.specs.Ordering.{is_lt}
use Rattle.qs_base.specs.Order.{same_bytes, same_tid, tid_cmp}
use Rattle.qs_base.specs.declared.identifiers.ClientNo.{ClientNo}
use Rattle.qs_base.specs.declared.identifiers.NodeNo.{NodeNo}
use Rattle.qs_base.specs.declared.identifiers.Outcome.{Outcome}
use Rattle.qs_base.specs.declared.identifiers.Outcome.TheVariants as outcomes
use Rattle.qs_base.specs.declared.identifiers.Tid.{Tid}
use Rattle.qs_node_kept.specs.Keeping.{is_outcome_of}
use Rattle.qs_node_kept.specs.declared.kept.KeptLabel.{KeptLabel}
use Rattle.qs_node_kept.specs.declared.kept.Decided.{Decided}
use Rattle.qs_node_kept.specs.declared.kept.Kept.{Kept}
use Rattle.qs_node_kept.specs.declared.kept.Lent.{Lent}
use Rattle.qs_book_machine.specs.Book.{BookValue, crossed_in, find_transaction}
use Rattle.qs_book_machine.specs.Nodes as machine
use Rattle.qs_book_machine.specs.Restart.{could_vote, count_of, is_among, is_committed, is_found_as, is_on_record, may_be_lost, member_at, record_at, reopened}
use Rattle.qs_book_machine.specs.Transaction.{TransactionValue, has_learnt, is_abort, is_commit, is_empty, is_open}
use Rattle.qs_book_machine.specs.declared.state.OnRecord.{OnRecord}
use Rattle.qs_book_machine.specs.declared.state.Voter.{Voter}
use Rattle.qs_book_machine.specs.declared.transaction.Life.{Life}
use Rattle.qs_book_machine.specs.declared.transaction.Link.{Link}
use Rattle.qs_book_machine.specs.declared.transaction.Noted.{Noted}
use Rattle.qs_book_machine.specs.declared.transaction.Part.{Part}
use Rattle.qs_book_machine.specs.declared.transaction.Sent.{Sent}
use Rattle.qs_ops.specs.Servers.{files_no}
use Rattle.qs_ops.specs.Table.{TableValue, no_table, applied}
use Rattle.qs_ops.specs.declared.operation.Op.{Op}
use Rattle.qs_restart.specs.Recovery.{Prepared, Recovery, recovery, names_transaction}
use Rattle.qs_tm.specs.Manager as tm
use Rattle.qs_tm.specs.declared.manager.Manager.{Manager}
use Rattle.qs_tm.specs.declared.participant.Participant.{Participant}
use Rattle.qs_world.specs.World.{Host, World, inc_of}
use Rattle.qs_world_lawful.specs.Logs.{found_of, found_votes}
use Rattle.qs_world_lawful.specs.Said.{book_found}
use Rattle.std.specs.Cmp.Lexicographic.{pointwise}
use Rattle.qs_world_lawful.specs.TableTests.{same_file, same_op}
use Rattle.qs_world_lawful.specs.Tests.{ended_ok, holds_test, implied, label_ok}

-- ---- the log and the machine

abbrev tx_at : BookValue → Tid → (TransactionValue → Bool) → Bool
tx_at book tid test = elim (find_transaction book tid) [ None ↦ false | Some tx ↦ test tx ]

abbrev has_aborted : BookValue → Tid → Bool
has_aborted book tid = tx_at book tid (λ tx. is_abort tx.cell)

abbrev has_committed : BookValue → Tid → Bool
has_committed book tid = tx_at book tid (λ tx. is_commit tx.cell)

abbrev applied_ok : ℕ → BookValue → machine.NodeValue → Recovery → Prepared → Bool
applied_ok here book state log vote = is_among log.committed vote.tid && tx_at book vote.tid (λ tx. has_learnt tx (member_at here vote.server.0) || is_among state.committed vote.tid)

abbrev logged_vote_ok : ℕ → BookValue → machine.NodeValue → Recovery → Prepared → Bool
logged_vote_ok here book state log vote = is_on_record state (found_of vote) || applied_ok here book state log vote

abbrev marked_ok : Recovery → Prepared → Bool
marked_ok log vote = implied vote.committed (is_among log.committed vote.tid)

abbrev stands_ok : BookValue → Prepared → Bool
stands_ok book vote = tx_at book vote.tid (λ tx. true)

abbrev record_ok : BookValue → Recovery → Voter × OnRecord → Bool
record_ok book log entry = has_aborted book entry.0.tid || (is_among log.committed entry.0.tid || list_any (is_found_as entry.0 entry.1.covers) (found_votes log))

abbrev logged_ok : ℕ → BookValue → machine.NodeValue → Recovery → Bool
logged_ok here book state log =
    (list_all (λ (vote : Prepared). machine.is_recoverable vote.server.0) log.prepared && list_all (stands_ok book) log.prepared)
    && ((list_all (logged_vote_ok here book state log) log.prepared && list_all (marked_ok log) log.prepared)
    && (list_all (record_ok book log) state.records && list_all (λ (tid : Tid). is_among state.committed tid || has_committed book tid) log.committed))

-- ---- the log and the node

abbrev is_prepared : Option Participant → Bool
is_prepared None = false
is_prepared (Some part) = part.log.prepared

abbrev known_ok : Manager → Prepared → Bool
known_ok manager vote = implied (names_transaction vote.tid && not vote.committed) (is_prepared (tm.part_of vote.tid manager))

abbrev is_known_as : Outcome → Option Outcome → Bool
is_known_as outcomes.Commit (Some outcomes.Commit) = true
is_known_as outcomes.Abort (Some outcomes.Abort) = true
is_known_as outcome other = false

abbrev keeps_ok : BookValue → Recovery → Tid × Participant → Bool
keeps_ok book log entry =
    implied entry.1.log.prepared (entry.1.involved && (not (is_known_as outcomes.Commit entry.1.outcome) && implied (is_known_as outcomes.Abort entry.1.outcome) (has_aborted book entry.0)))
    && implied entry.1.log.listed (is_known_as outcomes.Commit entry.1.outcome && (has_committed book entry.0 && is_among log.committed entry.0))

abbrev rises : List (Tid × Participant) → Bool
rises [] = true
rises (e ∷ []) = true
rises (e ∷ f ∷ es) = is_lt (tid_cmp e.0 f.0) && rises (f ∷ es)

abbrev knows_ok : BookValue → Manager → Recovery → Bool
knows_ok book manager log = rises manager.known && (list_all (known_ok manager) log.prepared && list_all (keeps_ok book log) manager.known)

abbrev pub host_ok : ℕ → BookValue → machine.NodeValue → Host → Bool
host_ok n book state host =
    (logged_ok n book state (recovery (host.log ++ host.waiting)) && knows_ok book host.node.manager (recovery (host.log ++ host.waiting)))
    && (logged_ok n book state (recovery host.log) && pointwise same_tid (recovery (host.log ++ host.waiting)).committed (recovery host.log).committed)

-- ---- contents and changes

abbrev made_ok : TableValue → List Op → Bool
made_ok table changes =
    pointwise same_file table.contents (applied no_table changes).contents && pointwise same_bytes table.notes (applied no_table changes).notes

abbrev recorded_ok : ℕ → BookValue → Option OnRecord → Prepared → Bool
recorded_ok here book rec vote =
    (crossed_in (find_transaction book vote.tid) (member_at here vote.server.0) || pointwise same_op (machine.changes_of rec) vote.changes)
    && implied (vote.server.0 == files_no) (count_of rec == length vote.changes)

abbrev as_recorded_ok : ℕ → BookValue → machine.NodeValue → Prepared → Bool
as_recorded_ok here book state vote = is_none (machine.record_of state vote.tid vote.server.0) || recorded_ok here book (machine.record_of state vote.tid vote.server.0) vote

abbrev apart_ok : Recovery → Prepared → Bool
apart_ok log vote = implied (names_transaction vote.tid && not vote.committed) (not (is_among log.committed vote.tid))

abbrev gone_ok : Recovery → Voter × OnRecord → Bool
gone_ok log entry = not (is_among log.committed entry.0.tid)

abbrev undone_ok : ℕ → BookValue → Prepared → Bool
undone_ok here book vote = implied ((vote.tid.home.0 == here) && (names_transaction vote.tid && not vote.committed)) (not (has_committed book vote.tid))

abbrev pub said_ok : ℕ → BookValue → machine.NodeValue → Recovery → Bool
said_ok n book state log =
    (made_ok state.files log.files && made_ok state.audit log.audit)
    && (list_all (as_recorded_ok n book state) log.prepared && (list_all (apart_ok log) log.prepared && (list_all (gone_ok log) state.records && list_all (undone_ok n book) log.prepared)))

abbrev to_be_recorded_ok : ℕ → BookValue → Recovery → Prepared → Bool
to_be_recorded_ok here book log vote = implied (names_transaction vote.tid && not vote.committed) (recorded_ok here book (record_at here (book_found here book log) vote.tid vote.server.0) vote)

abbrev left_ok : ℕ → BookValue → machine.NodeValue → Recovery → Bool
left_ok n book state log =
    (made_ok (applied state.files (reopened n 0 (found_votes log) log.committed (book_found n book log)).files) log.files
    && made_ok (applied state.audit (reopened n 0 (found_votes log) log.committed (book_found n book log)).audit) log.audit)
    && (list_all (to_be_recorded_ok n book log) log.prepared && (list_all (apart_ok log) log.prepared && list_all (undone_ok n book) log.prepared))

-- ---- a node that is down

abbrev cut_ok : ℕ → BookValue → machine.NodeValue → Prepared → Bool
cut_ok here book state vote = tx_at book vote.tid (λ tx. could_vote here state tx (found_of vote))

abbrev kept_ok : ℕ → BookValue → Recovery → Voter × OnRecord → Bool
kept_ok here book log entry =
    may_be_lost here entry.0.tid (find_transaction book entry.0.tid) || (is_among log.committed entry.0.tid || list_any (is_found_as entry.0 entry.1.covers) (found_votes log))

abbrev stopped_ok : ℕ → BookValue → machine.NodeValue → Recovery → Bool
stopped_ok here book state log =
    (list_all (λ (vote : Prepared). machine.is_recoverable vote.server.0) log.prepared && (list_all (stands_ok book) log.prepared && list_all (marked_ok log) log.prepared))
    && (list_all (λ (vote : Prepared). logged_vote_ok here book state log vote || cut_ok here book state vote) log.prepared
    && (list_all (kept_ok here book log) state.records && list_all (λ (tid : Tid). is_among state.committed tid || is_committed here tid (find_transaction book tid)) log.committed))

-- ---- what is kept for clients

abbrev has_owner : BookValue → Option ClientNo → Bool
has_owner book None = true
has_owner book (Some client) = is_some (slice_get book.owners client.0)

abbrev left_open_ok : ℕ → BookValue → List Decided → KeptLabel → Bool
left_open_ok here book outcomes begun = elim begun.tid [
  | None ↦ true
  | Some tid ↦ implied ((tid.home.0 == here) && is_none (find (is_outcome_of tid) outcomes)) (tx_at book tid (λ tx. is_open tx.cell && has_owner book tx.owner))
]

abbrev loan_ok : BookValue → ℕ → Lent → Bool
loan_ok book inc loan = is_some (find_transaction book loan.tid) && nat_le loan.inc inc

abbrev clients_ok : ℕ → ℕ → BookValue → Kept → Bool
clients_ok here inc book kept =
    (list_all (label_ok book) kept.labels && list_all (ended_ok book) kept.outcomes)
    && (list_all (left_open_ok here book kept.outcomes) kept.labels && list_all (loan_ok book inc) kept.loans)

-- ---- what lasts

abbrev inc_up_to : BookValue → NodeNo → ℕ → Bool
inc_up_to book node inc = elim (slice_get book.nodes node.0) [ None ↦ false | Some state ↦ nat_le inc state.inc ]

abbrev home_ok : BookValue → Tid → TransactionValue → Bool
home_ok book tid tx = elim (slice_get book.nodes tid.home.0) [
  | None ↦ true
  | Some state ↦ nat_le tid.inc state.inc && implied (is_open tx.cell) ((tid.inc == state.inc) && nat_le tid.seq state.begun)
]

abbrev is_past : ℕ → Option ℕ → Bool
is_past place None = true
is_past place (Some at) = nat_le (at + 1) place

abbrev lasts_tx_ok : BookValue → Tid × TransactionValue → Bool
lasts_tx_ok book entry =
    (names_transaction entry.0 && (home_ok book entry.0 entry.1 && is_past book.place entry.1.decided))
    && ((list_all (λ (e : Life × Part). inc_up_to book e.0.member.node e.0.inc) entry.1.parts && list_all (λ (e : Link × Sent). inc_up_to book e.0.from e.1.inc) entry.1.sent)
    && (list_all (λ (e : Noted). inc_up_to book e.node e.inc) entry.1.noted && implied (is_commit entry.1.cell) (is_empty entry.1.crossed)))

abbrev pub lasts_ok : BookValue → Bool
lasts_ok book = list_all (lasts_tx_ok book) book.transactions && list_all (λ (state : machine.NodeValue). list_all (has_committed book) state.committed && nat_le state.stopped book.place) book.nodes

-- ---- a node, and the world

abbrev pub up_ok : ℕ → BookValue → machine.NodeValue → Host → Bool
up_ok n book state host =
    (holds_test book host.node && host_ok n book state host)
    && (said_ok n book state (recovery (host.log ++ host.waiting)) && said_ok n book state (recovery host.log))

abbrev pub down_ok : ℕ → BookValue → machine.NodeValue → Host → Bool
down_ok n book state host = stopped_ok n book state (recovery host.log) && (left_ok n book state (recovery host.log) && is_empty host.waiting)

abbrev pub node_ok : BookValue → World → ℕ → Bool
node_ok book world n = elim (slice_get book.nodes n) [
  | None ↦ false
  | Some state ↦ (state.inc == inc_of world n)
      && (clients_ok n (inc_of world n) book (world.hosts n).node.kept.saved
      && (if world.channels.up n then state.up && up_ok n book state (world.hosts n) else not state.up && down_ok n book state (world.hosts n)))
]
