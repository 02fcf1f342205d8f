-- How a transaction is decided, told, learnt and acknowledged, and what of it is taken up from the log.
use Rattle.std.specs.Prelude.{ℕ, ◌==◌, Bool, true, false, not, ◌&&◌, ◌||◌, List, length, Option, Some, None, is_some, if◌then◌else◌}
use Rattle.qs_base.specs.declared.identifiers.NodeNo.{NodeNo}
use Rattle.qs_base.specs.declared.identifiers.Outcome.{Outcome}
use Rattle.qs_base.specs.declared.identifiers.Outcome.TheVariants as outcomes
use Rattle.qs_base.specs.declared.identifiers.ServerNo.{ServerNo}
use Rattle.qs_base.specs.declared.identifiers.Tid.{Tid}
use Rattle.qs_engage.specs.Engage.{sent_to}
use Rattle.qs_engage.specs.Nodes.{no_nodes, has_node, put_node, drop_node, joined, union, without, has_all, is_no_node, listed}
use Rattle.qs_engage.specs.declared.nodes.Nodes.{Nodes}
use Rattle.qs_record.specs.declared.record.Record.{Record}
use Rattle.qs_record.specs.declared.record.Record.TheVariants as records
use Rattle.qs_tm.specs.declared.members.Ballot.TheVariants as ballots
use Rattle.qs_tm.specs.declared.participant.InLog.{InLog}
use Rattle.qs_tm.specs.declared.participant.Participant.{Participant}
use Rattle.qs_tm.specs.Participant.{new_participant, member_of, with_member}

-- ---- who is to be told

-- the nodes that this one drew in: those that a request was sent to, and those of the told set
abbrev pub drawn_in : Participant → Nodes
drawn_in part = union (sent_to part.engage) part.told

-- the told set that goes with this node's answer: the node itself is in it where it is to be told
abbrev pub told_with_own : NodeNo → Participant → Nodes
told_with_own me part = if part.involved then put_node part.told me else part.told

-- on abort the home tells all whom it drew in
abbrev pub tell_of : Outcome → Participant → Nodes
tell_of outcomes.Commit part = part.told
tell_of outcomes.Abort part = drawn_in part

-- the nodes that a Told on abort names: all that this one drew in, the home left out
abbrev pub named_by : NodeNo → Participant → Nodes
named_by home part = drop_node (drawn_in part) home

-- ---- deciding, at the home

-- a Commit is written where the log has a Prepare of it, or a node is to be told
abbrev pub writes_commit : Participant → Bool
writes_commit part = part.log.prepared || not (is_no_node part.told)

-- the record of the decision
abbrev pub record_of : Tid → Outcome → Participant → Option Record
record_of tid outcomes.Commit part = if writes_commit part then Some (records.Commit tid (listed part.told)) else None
record_of tid outcomes.Abort part = if part.log.prepared then Some (records.Aborted tid) else None

abbrev pub decided : Outcome → Participant → Participant
decided outcome part = record part { outcome = Some outcome; tell = tell_of outcome part }

-- ---- learning

abbrev pub took_outcome : Outcome → Participant → Participant
took_outcome outcome part = record part { outcome = Some outcome }

-- a server learnt how the transaction ends
abbrev pub settled : ServerNo → Participant → Participant
settled server part = with_member server (record (member_of part server) { fresh = false }) part

-- ---- the log

abbrev pub in_log : Record → InLog → InLog
in_log (records.Prepare tid server covers changes) log = record log { unended = true; prepared = true }
in_log (records.Commit tid told) log = record { unended = not (length told == 0); prepared = false; listed = not (length told == 0) }
in_log (records.Aborted tid) log = record { unended = false; prepared = false; listed = false }
in_log (records.End tid) log = record { unended = false; prepared = false; listed = false }

-- the record is appended to the log
abbrev pub logged : Record → Participant → Participant
logged rec part = record part { log = in_log rec part.log }

-- ---- acknowledging, at the home

abbrev pub acknowledged : NodeNo → Participant → Participant
acknowledged peer part = record part { acknowledged = put_node part.acknowledged peer }

-- all that were to be told a commit took it in
abbrev pub is_all_told : Participant → Bool
is_all_told part = part.log.listed && has_all part.acknowledged part.tell

-- the nodes that a Told names and that were not told; the home is in no told set
abbrev pub new_names : NodeNo → List NodeNo → Participant → Nodes
new_names home further part = drop_node (without (joined no_nodes further) part.tell) home

abbrev pub take_names : NodeNo → List NodeNo → Participant → Participant
take_names home further part = record part { tell = union part.tell (new_names home further part) }

abbrev pub add_tell : NodeNo → Participant → Participant
add_tell node part = record part { tell = put_node part.tell node }

abbrev pub is_abort : Option Outcome → Bool
is_abort (Some outcomes.Abort) = true
is_abort _ = false

-- a node that restarted is told again: a commit where it did not take it in, an abort in any case
abbrev pub is_told_again : NodeNo → Participant → Bool
is_told_again peer part =
    (is_some part.outcome && has_node part.tell peer) && (is_abort part.outcome || not (has_node part.acknowledged peer))

-- one that is kept as aborted
abbrev pub aborted_participant : Bool → Participant
aborted_participant home = record (new_participant home) { outcome = Some outcomes.Abort }

-- ---- what is taken up from the log

-- a Prepare is taken as its vote; at the home it means abort, since there is no Commit
abbrev pub voted_before : Bool → ServerNo → ℕ → Participant → Participant
voted_before home server covers part =
    record (with_member server (record { served = covers; fresh = true; vote = Some (record { ballot = ballots.Recoverable; covers = covers }) }) part) {
      involved = true;
      outcome = if home then Some outcomes.Abort else part.outcome;
      log = record part.log { unended = true; prepared = true };
    }

-- a Commit whose list is still to be told
abbrev pub committed_before : Bool → List NodeNo → Participant
committed_before home told = record (new_participant home) {
  outcome = Some outcomes.Commit;
  tell = joined no_nodes told;
  log = record { unended = true; prepared = false; listed = true };
}
