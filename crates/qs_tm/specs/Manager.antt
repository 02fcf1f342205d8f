-- The transactions that a node knows, and what each call of its manager makes of them.
use Rattle.std.specs.Prelude.{ℕ, ◌+◌, ◌==◌, ◌^◌, ◌-◌, min, Bool, false, not, ◌&&◌, ◌||◌, List, [], ◌∷◌, ◌++◌, length, Option, Some, None, is_some, nat_lt, nat_le, fold, if◌then◌else◌}
use Rattle.std.specs.List.{list_any}
use Rattle.std.specs.Map.{lookup, set_value, remove_entry}
use Rattle.std.specs.BTreeMap.{insert_entry, is_at}
use Rattle.qs_base.specs.Order.{tid_cmp}
use Rattle.qs_base.specs.declared.identifiers.ClientNo.{ClientNo}
use Rattle.qs_base.specs.declared.identifiers.Member.{Member}
use Rattle.qs_base.specs.declared.identifiers.NodeNo.{NodeNo}
use Rattle.qs_base.specs.declared.identifiers.Outcome.{Outcome}
use Rattle.qs_base.specs.declared.identifiers.Outcome.TheVariants as outcomes
use Rattle.qs_base.specs.declared.identifiers.ServerNo.{ServerNo}
use Rattle.qs_base.specs.declared.identifiers.Tid.{Tid}
use Rattle.qs_engage.specs.Engage.{engaged, next_sent, release_of, last_number, is_idle_with}
use Rattle.qs_engage.specs.Nodes.{no_nodes, has_node, listed, same_node}
use Rattle.qs_engage.specs.declared.engage.Engaged.{Engaged}
use Rattle.qs_engage.specs.declared.engage.Engaged.TheVariants as engagements
use Rattle.qs_engage.specs.declared.nodes.Nodes.{Nodes}
use Rattle.qs_ops.specs.declared.answer.Cause.{Cause}
use Rattle.qs_ops.specs.declared.vote.Vote.{Vote}
use Rattle.qs_record.specs.declared.record.Record.{Record}
use Rattle.qs_record.specs.declared.record.Record.TheVariants as records
use Rattle.qs_tm.specs.declared.manager.Decision.{Decision}
use Rattle.qs_tm.specs.declared.manager.Manager.{Manager}
use Rattle.qs_tm.specs.declared.manager.Standing.{Standing}
use Rattle.qs_tm.specs.declared.manager.Standing.TheVariants as standings
use Rattle.qs_tm.specs.declared.manager.Which.{Which}
use Rattle.qs_tm.specs.declared.manager.Which.TheVariants as whiches
use Rattle.qs_tm.specs.declared.manager.BeginFault.{BeginFault}
use Rattle.qs_tm.specs.declared.manager.BeginFault.TheVariants as faults
use Rattle.qs_tm.specs.declared.participant.Outstanding.{Outstanding}
use Rattle.qs_tm.specs.declared.participant.Participant.{Participant}
use Rattle.qs_tm.specs.Participant as participant
use Rattle.qs_tm.specs.Participant.{new_participant, begun_participant, is_undecided, is_learning, waits_for, answered_to}
use Rattle.qs_tm.specs.Outcomes as outcome_rules
use Rattle.qs_tm.specs.Outcomes.{aborted_participant, voted_before, committed_before}

-- ---- what is kept of a transaction

-- the value at a key is changed; nothing where there is none
abbrev pub changed_value : {K V : Type 0} → (K → Bool) → (V → V) → List (K × V) → List (K × V)
changed_value test f entries = elim (lookup test entries) [ None ↦ entries | Some v ↦ set_value test entries (f v) ]

abbrev pub part_of : Tid → Manager → Option Participant
part_of tid manager = lookup (is_at (tid_cmp tid)) manager.known

-- it is changed; nothing where the transaction is unknown
abbrev pub with_part : Tid → (Participant → Participant) → Manager → Manager
with_part tid f manager = record manager { known = changed_value (is_at (tid_cmp tid)) f manager.known }

-- the transaction is known from now on
abbrev pub put_part : Tid → Participant → Manager → Manager
put_part tid part manager = record manager { known = insert_entry tid_cmp manager.known tid part }

-- an answer that is told of what is kept, or of nothing
abbrev pub told_of : {A : Type 0} → Tid → A → (Participant → A) → Manager → A
told_of tid unknown f manager = elim (part_of tid manager) [ None ↦ unknown | Some part ↦ f part ]

abbrev pub is_home : Tid → Manager → Bool
is_home tid manager = same_node tid.home manager.node

-- ---- beginning, meeting, forgetting

abbrev pub next_tid : Manager → Tid
next_tid manager = record { home = manager.node; inc = manager.inc; seq = manager.begun + 1 }

abbrev pub begin : ClientNo → Manager → Manager
begin owner manager =
    put_part (next_tid manager) (begun_participant owner manager.ticks) (record manager { begun = manager.begun + 1 })

-- why no transaction can begin: the log has no room for its records, or the last number was given
abbrev pub begin_fault : ℕ → Manager → Option BeginFault
begin_fault free manager =
    if nat_lt free manager.keep then Some (faults.LogFull manager.keep free)
    else if manager.begun == last_number then Some (faults.Last last_number)
    else None

abbrev pub knows : Tid → Manager → Bool
knows tid manager = is_some (part_of tid manager)

abbrev pub meet : Tid → Manager → Manager
meet tid manager = if knows tid manager then manager else put_part tid (new_participant (is_home tid manager)) manager

-- one that is not known is kept as aborted
abbrev pub keep_abort : Tid → Manager → Manager
keep_abort tid manager = if knows tid manager then manager else put_part tid (aborted_participant (is_home tid manager)) manager

abbrev pub forget : Tid → Manager → Manager
forget tid manager = record manager { known = remove_entry (is_at (tid_cmp tid)) manager.known }

abbrev pub tick : Manager → Manager
tick manager = record manager { ticks = min (manager.ticks + 1) (2 ^ 64 - 1) }

-- ---- what a rule changes of one transaction

abbrev pub sent : Tid → NodeNo → Manager → Manager
sent tid to manager = with_part tid (participant.sent to) manager

-- the number of the request
abbrev pub sent_as : Tid → NodeNo → Manager → Option ℕ
sent_as tid to manager = told_of tid None (λ part. next_sent to part.engage) manager

abbrev pub issued : Tid → Outstanding → Manager → Manager
issued tid request manager = with_part tid (participant.issued request) manager

abbrev pub drop_waiting : Tid → Member → ℕ → Manager → Manager
drop_waiting tid member number manager = with_part tid (participant.drop_waiting member number) manager

abbrev pub note_served : Tid → ℕ → Manager → Manager
note_served tid count manager = with_part tid (participant.note_served count) manager

abbrev pub requested : Tid → NodeNo → ℕ → Manager → Manager
requested tid from number manager = with_part tid (participant.requested from number) manager

abbrev pub engaged_at : Tid → NodeNo → Manager → Engaged
engaged_at tid from manager = told_of tid engagements.Elsewhere (λ part. engaged from part.engage) manager

abbrev pub served : Tid → ServerNo → Manager → Manager
served tid server manager = with_part tid (participant.served server) manager

-- how many requests the server then served
abbrev pub served_as : Tid → ServerNo → Manager → Option ℕ
served_as tid server manager = told_of tid None (participant.next_served server) manager

abbrev pub voted : Tid → Member → Vote → ℕ → Manager → Manager
voted tid member vote covers manager = with_part tid (participant.voted member vote covers) manager

abbrev pub ask : Tid → Manager → Manager
ask tid manager = with_part tid participant.ask manager

abbrev pub refused : Tid → Manager → Manager
refused tid manager = with_part tid participant.refused manager

abbrev pub add_cause : Tid → Cause → Manager → Manager
add_cause tid cause manager = with_part tid (participant.add_cause cause) manager

abbrev pub causes_at : Tid → Manager → List Cause
causes_at tid manager = told_of tid [] (λ part. part.causes) manager

abbrev pub take_causes : Tid → Manager → Manager
take_causes tid manager = with_part tid participant.take_causes manager

abbrev pub counted : Tid → NodeNo → ℕ → List NodeNo → Manager → Manager
counted tid peer up_to told manager = with_part tid (participant.counted tid.home peer up_to told) manager

abbrev pub is_ready : Tid → Bool → Manager → Bool
is_ready tid busy manager = told_of tid false (participant.is_ready busy) manager

abbrev pub released : Tid → Manager → Manager
released tid manager = with_part tid participant.released manager

-- the superior that is answered, and the number of its last request
abbrev pub released_to : Tid → Manager → Option (NodeNo × ℕ)
released_to tid manager = told_of tid None (λ part. release_of part.engage) manager

abbrev pub add_told : Tid → NodeNo → Manager → Manager
add_told tid node manager = with_part tid (participant.add_told node) manager

abbrev pub told_at : Tid → Manager → List NodeNo
told_at tid manager = told_of tid [] (λ part. listed part.told) manager

abbrev pub decide : Tid → Outcome → Manager → Manager
decide tid outcome manager = with_part tid (outcome_rules.decided outcome) manager

abbrev pub took_outcome : Tid → Outcome → Manager → Manager
took_outcome tid outcome manager = with_part tid (outcome_rules.took_outcome outcome) manager

abbrev pub settled : Tid → ServerNo → Manager → Manager
settled tid server manager = with_part tid (outcome_rules.settled server) manager

abbrev pub logged : Tid → Record → Manager → Manager
logged tid rec manager = with_part tid (outcome_rules.logged rec) manager

abbrev pub acknowledged : Tid → NodeNo → Manager → Manager
acknowledged tid peer manager = with_part tid (outcome_rules.acknowledged peer) manager

-- all that were to be told a commit took it in, that node too
abbrev pub all_acknowledged : Tid → NodeNo → Manager → Bool
all_acknowledged tid peer manager = told_of tid false (λ part. outcome_rules.is_all_told (outcome_rules.acknowledged peer part)) manager

abbrev pub take_names : Tid → List NodeNo → Manager → Manager
take_names tid further manager = with_part tid (outcome_rules.take_names tid.home further) manager

abbrev pub new_names : Tid → List NodeNo → Manager → Nodes
new_names tid further manager = told_of tid no_nodes (outcome_rules.new_names tid.home further) manager

abbrev pub add_tell : Tid → NodeNo → Manager → Manager
add_tell tid node manager = with_part tid (outcome_rules.add_tell node) manager

abbrev pub restarted : Tid → NodeNo → Manager → Manager
restarted tid peer manager = with_part tid (participant.restarted peer) manager

-- ---- an outcome that is asked for

-- what stands of a transaction
abbrev pub standing_of : Option Outcome → Standing
standing_of None = standings.Running
standing_of (Some outcomes.Commit) = standings.Committed
standing_of (Some outcomes.Abort) = standings.Unknown

abbrev pub standing : Tid → Manager → Standing
standing tid manager = told_of tid standings.Unknown (λ part. standing_of part.outcome) manager

abbrev pub no_decision : Decision
no_decision = record { rec = None; tell = [] }

-- the record of a decision, and the nodes that are to be told
abbrev pub decision : Tid → Outcome → Manager → Decision
decision tid outcome manager =
    told_of tid no_decision (λ part. record { rec = outcome_rules.record_of tid outcome part; tell = listed (outcome_rules.tell_of outcome part) }) manager

-- ---- room for a Commit

-- the bytes of a batch beside its records, and those of a Commit beside its list
abbrev pub batch_frame : ℕ
batch_frame = 41

abbrev pub commit_frame : ℕ
commit_frame = 15

-- the bytes that a Commit of its own needs, with what is kept for the transaction
abbrev pub commit_need : Manager → Participant → ℕ
commit_need manager part = batch_frame + manager.extra + (commit_frame + length (listed part.told)) + manager.keep

-- a Commit is to be written, and finds no room, and nothing is kept for it
abbrev pub lacks_room : ℕ → Manager → Participant → Bool
lacks_room free manager part =
    outcome_rules.writes_commit part && (not part.log.unended && nat_lt free (commit_need manager part))

-- the bytes that it needs then
abbrev pub need_of : ℕ → Manager → Participant → Option ℕ
need_of free manager part = if lacks_room free manager part then Some (commit_need manager part) else None

abbrev pub need_past : Tid → ℕ → Manager → Option ℕ
need_past tid free manager = told_of tid None (need_of free manager) manager

-- ---- what is taken up from the log

abbrev pub take_up_vote : Tid → ServerNo → ℕ → Manager → Manager
take_up_vote tid server covers manager = with_part tid (voted_before (is_home tid manager) server covers) (meet tid manager)

abbrev pub take_up_commit : Tid → List NodeNo → Manager → Manager
take_up_commit tid told manager =
    if length told == 0 then manager else put_part tid (committed_before (is_home tid manager) told) manager

abbrev pub take_up : Record → Manager → Manager
take_up (records.Prepare tid server covers changes) manager = take_up_vote tid server covers manager
take_up (records.Commit tid told) manager = take_up_commit tid told manager
take_up (records.Aborted tid) manager = manager
take_up (records.End tid) manager = manager

-- ---- which transactions

-- it has to do with that node: it began there, or something went to or came from it, or is to
abbrev pub concerns : NodeNo → Tid → Participant → Bool
concerns peer tid part =
    (same_node tid.home peer || not (is_idle_with peer part.engage))
    || (answered_to peer part || (has_node part.tell peer || waits_for peer part))

-- not decided here, and: no more; asked, or not to be committed any more, so that something may be due at the end of a
-- step; begun here at least so many ticks before
abbrev pub is_one : Which → Tid → Participant → Bool
is_one whiches.Undecided tid part = is_undecided part
is_one whiches.Due tid part = is_undecided part && (part.asked || part.blocked)
is_one (whiches.Aged ticks age) tid part = is_undecided part && (part.engage.home && nat_le age (ticks - part.begun_at))
is_one (whiches.Concerned peer) tid part = concerns peer tid part

abbrev pub put_tid : Which → List Tid → Tid × Participant → List Tid
put_tid which tids entry = if is_one which entry.0 entry.1 then tids ++ entry.0 ∷ [] else tids

-- in order of identifiers
abbrev pub tids_of : Which → Manager → List Tid
tids_of which manager = fold (put_tid which) [] manager.known

abbrev pub undecided : Manager → List Tid
undecided manager = tids_of whiches.Undecided manager

abbrev pub due : Manager → List Tid
due manager = tids_of whiches.Due manager

abbrev pub aged : ℕ → Manager → List Tid
aged age manager = tids_of (whiches.Aged manager.ticks age) manager

abbrev pub concerned : NodeNo → Manager → List Tid
concerned peer manager = tids_of (whiches.Concerned peer) manager

-- this node is the home of a transaction that it has not decided
abbrev pub is_open : Participant → Bool
is_open part = part.engage.home && is_undecided part

abbrev pub has_undecided : Manager → Bool
has_undecided manager = list_any (λ (entry : Tid × Participant). is_open entry.1) manager.known

-- a server of this node is still to learn the outcome of a transaction
abbrev pub has_learners : Manager → Bool
has_learners manager = list_any (λ (entry : Tid × Participant). is_learning entry.1) manager.known
