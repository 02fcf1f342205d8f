-- Where a log last says what of a transaction.
use Rattle.std.specs.Prelude.{◌≡◌, ℕ, ◌==◌, Bool, true, false, ◌&&◌, not, List, [], ◌∷◌, ◌++◌, length, Option, Some, None, nat_lt, suc, slice_get, if◌then◌else◌}
use Rattle.std.specs.Map.{lookup}
use Rattle.std.specs.BTreeMap.{insert_entry, is_at}
use Rattle.std.specs.Ordering.{nat_cmp, ordering_then}
use Rattle.std.specs.declared.cmp.Ordering.{Ordering}
use Rattle.qs_base.specs.Order.{tid_cmp, same_tid}
use Rattle.qs_base.specs.declared.identifiers.NodeNo.{NodeNo}
use Rattle.qs_base.specs.declared.identifiers.ServerNo.{ServerNo}
use Rattle.qs_base.specs.declared.identifiers.Tid.{Tid}
use Rattle.qs_ops.specs.declared.operation.Op.{Op}
use Rattle.qs_record.specs.declared.record.Record.{Record}
use Rattle.qs_record.specs.declared.record.Record.TheVariants as records
use Rattle.qs_restart.specs.declared.places.Ballot.{Ballot}
use Rattle.qs_restart.specs.declared.recovered.OpenVote.{OpenVote}
use Rattle.qs_restart.specs.Recovery.{names_transaction}

-- ---- what a record says

-- a vote of that transaction and server
abbrev pub is_prepare_of : Tid → ServerNo → Record → Bool
is_prepare_of tid server (records.Prepare other from covers changes) = same_tid tid other && (server.0 == from.0)
is_prepare_of tid server (records.Commit other told) = false
is_prepare_of tid server (records.Aborted other) = false
is_prepare_of tid server (records.End other) = false

abbrev pub has_none : List NodeNo → Bool
has_none [] = true
has_none (node ∷ nodes) = false

-- a Commit of it with a list
abbrev pub is_listed_of : Tid → Record → Bool
is_listed_of tid (records.Prepare other from covers changes) = false
is_listed_of tid (records.Commit other told) = not (has_none told) && same_tid tid other
is_listed_of tid (records.Aborted other) = false
is_listed_of tid (records.End other) = false

-- a record that ends it
abbrev pub is_end_of : Tid → Record → Bool
is_end_of tid (records.Prepare other from covers changes) = false
is_end_of tid (records.Commit other told) = has_none told && same_tid tid other
is_end_of tid (records.Aborted other) = same_tid tid other
is_end_of tid (records.End other) = same_tid tid other

-- ---- places

-- of the last record that passes
abbrev pub last_place : (Record → Bool) → List Record → Option ℕ
last_place test [] = None
last_place test (rec ∷ rest) = elim (last_place test rest) [ None ↦ if test rec then Some 0 else None | Some place ↦ Some (suc place) ]

-- the place lies behind
abbrev pub is_behind : ℕ → Option ℕ → Bool
is_behind at None = false
is_behind at (Some place) = nat_lt at place

-- that of the vote, where no record behind it ends the transaction
abbrev pub pending_place : Option ℕ → Option ℕ → Option ℕ
pending_place None end = None
pending_place (Some place) end = if is_behind place end then None else Some place

-- ---- the same in maps

abbrev pub ballot : Tid → ServerNo → Ballot
ballot tid server = record { tid = tid; server = server }

abbrev pub ballot_cmp : Ballot → Ballot → Ordering
ballot_cmp b c = ordering_then (tid_cmp b.tid c.tid) (nat_cmp b.server.0 c.server.0)

abbrev pub prepares_after : Record → ℕ → List (Ballot × ℕ) → List (Ballot × ℕ)
prepares_after (records.Prepare tid server covers changes) at prepares = insert_entry ballot_cmp prepares (ballot tid server) at
prepares_after (records.Commit tid told) at prepares = prepares
prepares_after (records.Aborted tid) at prepares = prepares
prepares_after (records.End tid) at prepares = prepares

abbrev pub listed_after : Record → ℕ → List (Tid × ℕ) → List (Tid × ℕ)
listed_after (records.Prepare tid server covers changes) at listed = listed
listed_after (records.Commit tid told) at listed = if has_none told then listed else insert_entry tid_cmp listed tid at
listed_after (records.Aborted tid) at listed = listed
listed_after (records.End tid) at listed = listed

abbrev pub ends_after : Record → ℕ → List (Tid × ℕ) → List (Tid × ℕ)
ends_after (records.Prepare tid server covers changes) at ends = ends
ends_after (records.Commit tid told) at ends = if has_none told then insert_entry tid_cmp ends tid at else ends
ends_after (records.Aborted tid) at ends = insert_entry tid_cmp ends tid at
ends_after (records.End tid) at ends = insert_entry tid_cmp ends tid at

-- the maps tell the last places in these records
pub record Follows (prepares : List (Ballot × ℕ)) (listed ends : List (Tid × ℕ)) (log : List Record) : Type 0 where
  pub prepare : (tid : Tid) (server : ServerNo) → lookup (is_at (ballot_cmp (ballot tid server))) prepares ≡ last_place (is_prepare_of tid server) log
  pub list : (tid : Tid) → lookup (is_at (tid_cmp tid)) listed ≡ last_place (is_listed_of tid) log
  pub end : (tid : Tid) → lookup (is_at (tid_cmp tid)) ends ≡ last_place (is_end_of tid) log

abbrev pub pending_in : List (Ballot × ℕ) → List (Tid × ℕ) → Tid → ServerNo → Option ℕ
pending_in prepares ends tid server = pending_place (lookup (is_at (ballot_cmp (ballot tid server))) prepares) (lookup (is_at (tid_cmp tid)) ends)

-- ---- what a record adds

abbrev pub changes_of : Option Record → List Op
changes_of None = []
changes_of (Some (records.Prepare tid server covers changes)) = changes
changes_of (Some (records.Commit tid told)) = []
changes_of (Some (records.Aborted tid)) = []
changes_of (Some (records.End tid)) = []

abbrev pub changes_in : List Record → Option ℕ → List Op
changes_in log None = []
changes_in log (Some place) = changes_of (slice_get log place)

-- the changes that a Commit commits at a server
abbrev pub committed_at : ServerNo → Record → List Record → List (Ballot × ℕ) → List (Tid × ℕ) → List Op
committed_at server (records.Prepare tid from covers changes) log prepares ends = []
committed_at server (records.Commit tid told) log prepares ends = changes_in log (pending_in prepares ends tid server)
committed_at server (records.Aborted tid) log prepares ends = []
committed_at server (records.End tid) log prepares ends = []

abbrev pub committed_by : Record → List Tid
committed_by (records.Prepare tid server covers changes) = []
committed_by (records.Commit tid told) = if names_transaction tid then tid ∷ [] else []
committed_by (records.Aborted tid) = []
committed_by (records.End tid) = []

abbrev pub is_open_vote : ℕ → Tid → ServerNo → List (Ballot × ℕ) → List (Tid × ℕ) → Bool
is_open_vote at tid server prepares ends =
    (names_transaction tid && not (is_behind at (lookup (is_at (ballot_cmp (ballot tid server))) prepares))) && not (is_behind at (lookup (is_at (tid_cmp tid)) ends))

abbrev pub is_open_commit : ℕ → Tid → Bool → List (Tid × ℕ) → Bool
is_open_commit at tid no_list ends = (names_transaction tid && not no_list) && not (is_behind at (lookup (is_at (tid_cmp tid)) ends))

abbrev pub votes_of : Record → ℕ → List (Ballot × ℕ) → List (Tid × ℕ) → List OpenVote
votes_of (records.Prepare tid server covers changes) at prepares ends =
    if is_open_vote at tid server prepares ends then record { tid = tid; server = server; covers = covers } ∷ [] else []
votes_of (records.Commit tid told) at prepares ends = []
votes_of (records.Aborted tid) at prepares ends = []
votes_of (records.End tid) at prepares ends = []

abbrev pub doubts_of : Record → ℕ → List (Ballot × ℕ) → List (Tid × ℕ) → List (Tid × ℕ) → List Record
doubts_of (records.Prepare tid server covers changes) at prepares listed ends =
    if is_open_vote at tid server prepares ends && not (is_behind at (lookup (is_at (tid_cmp tid)) listed)) then records.Prepare tid server covers changes ∷ [] else []
doubts_of (records.Commit tid told) at prepares listed ends = []
doubts_of (records.Aborted tid) at prepares listed ends = []
doubts_of (records.End tid) at prepares listed ends = []

abbrev pub untold_of : Record → ℕ → List (Tid × ℕ) → List Record
untold_of (records.Prepare tid server covers changes) at ends = []
untold_of (records.Commit tid told) at ends = if is_open_commit at tid (has_none told) ends then records.Commit tid told ∷ [] else []
untold_of (records.Aborted tid) at ends = []
untold_of (records.End tid) at ends = []
