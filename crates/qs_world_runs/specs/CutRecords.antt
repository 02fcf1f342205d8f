-- Where the records of a step come from: from what it entered, from an outcome that it was told, from the last acknowledgement, or from what the node opened with.
use Rattle.std.specs.Prelude.{◌≡◌, ◌⊎◌, ◌≤◌, ◌+◌, ℕ, Bool, true, false, List, [], ◌∷◌, ◌++◌, Option, Some, if◌then◌else◌}
use Rattle.qs_base.specs.Order.{same_tid}
use Rattle.qs_base.specs.declared.identifiers.NodeNo.{NodeNo}
use Rattle.qs_base.specs.declared.identifiers.Outcome.{Outcome}
use Rattle.qs_base.specs.declared.identifiers.Outcome.TheVariants as outcomes
use Rattle.qs_base.specs.declared.identifiers.Tid.{Tid}
use Rattle.qs_engage.specs.Nodes.{same_node}
use Rattle.qs_book_journal.specs.declared.entry.Act.{Act}
use Rattle.qs_book_journal.specs.declared.entry.Act.TheVariants as acts
use Rattle.qs_book_machine.specs.Transaction.{is_empty}
use Rattle.qs_ops.specs.declared.answer.Cause.{Cause}
use Rattle.qs_ops.specs.declared.vote.Vote.TheVariants as votes
use Rattle.qs_packet.specs.declared.message.Message.TheVariants as messages
use Rattle.qs_record.specs.declared.record.Record.{Record}
use Rattle.qs_record.specs.declared.record.Record.TheVariants as made
use Rattle.qs_node_step.specs.State.{NodeValue}
use Rattle.qs_node_step.specs.Step.{effects_of}
use Rattle.qs_node_step.specs.Telling.{end_record}
use Rattle.qs_node_step.specs.declared.event.Event.{Event}
use Rattle.qs_node_step.specs.declared.event.Event.TheVariants as events
use Rattle.qs_tm.specs.Manager as tm
use Rattle.qs_tm.specs.declared.participant.Participant.{Participant}
use Rattle.qs_world_lawful.specs.Logs.{Every}
use Rattle.qs_world_runs.specs.CutVotes.{EntersVote}

-- ---- what was entered

pub record EntersDecide (tid : Tid) (outcome : Outcome) (done : List Act) : Type 0 where
  pub before : List Act
  pub cause : Option Cause
  pub after : List Act
  pub is : done ≡ before ++ acts.Decide tid outcome cause ∷ after

-- a record of what the step itself entered; a vote is of some changes
abbrev pub IsEntered : NodeNo → List Act → Record → Type 0
IsEntered me done (made.Prepare tid server covers changes) = EntersVote tid (record { node = me; server = server }) votes.Recoverable covers done × (is_empty changes ≡ false)
IsEntered me done (made.Commit tid told) = EntersDecide tid outcomes.Commit done
IsEntered me done (made.Aborted tid) = EntersDecide tid outcomes.Abort done
IsEntered me done (made.End tid) = ⊥

abbrev pub one_if : Bool → ℕ
one_if b = if b then 1 else 0

abbrev pub is_commit_record : Tid → Record → Bool
is_commit_record tid (made.Commit t told) = same_tid t tid
is_commit_record tid rec = false

abbrev pub decides_commit : Tid → Act → Bool
decides_commit tid (acts.Decide t outcomes.Commit cause) = same_tid t tid
decides_commit tid act = false

-- how many Commits of a transaction, and how many entries that decide it so
abbrev pub commits_of : Tid → List Record → ℕ
commits_of tid [] = 0
commits_of tid (rec ∷ records) = one_if (is_commit_record tid rec) + commits_of tid records

abbrev pub decides_of : Tid → List Act → ℕ
decides_of tid [] = 0
decides_of tid (act ∷ done) = one_if (decides_commit tid act) + decides_of tid done

-- ---- what came, and what the node opened with

-- the outcome of what another home began, and this node has in doubt
pub record IsTold (node : NodeValue) (event : Event) (rec : Record) : Type 0 where
  pub peer : NodeNo
  pub tid : Tid
  pub outcome : Outcome
  pub comes : event ≡ events.Received peer (messages.Tell tid outcome)
  pub away : same_node tid.home node.setting.node ≡ false
  pub part : Participant
  pub known : tm.part_of tid node.manager ≡ Some part
  pub prepared : part.log.prepared ≡ true
  pub is : rec ≡ end_record tid outcome

-- the last acknowledgement of a Commit that stands in the log
pub record IsLastTold (node : NodeValue) (rec : Record) : Type 0 where
  pub tid : Tid
  pub part : Participant
  pub known : tm.part_of tid node.manager ≡ Some part
  pub listed : part.log.listed ≡ true
  pub is : rec ≡ made.End tid

-- a home that opened with what it has in doubt has aborted it
pub record IsResumed (node : NodeValue) (rec : Record) : Type 0 where
  pub tid : Tid
  pub part : Participant
  pub known : tm.part_of tid node.manager ≡ Some part
  pub prepared : part.log.prepared ≡ true
  pub aborted : part.outcome ≡ Some outcomes.Abort
  pub is : rec ≡ made.Aborted tid

-- ---- a step

abbrev pub IsSource : NodeValue → Event → List Act → Record → Type 0
IsSource node event done rec = IsEntered node.setting.node done rec ⊎ (IsTold node event rec ⊎ (IsLastTold node rec ⊎ IsResumed node rec))

-- a commit of another home is told
abbrev pub told_commit : Event → Tid → ℕ
told_commit (events.Received peer (messages.Tell t outcomes.Commit)) tid = one_if (same_tid t tid)
told_commit event tid = 0

pub record MakesRecords (node : NodeValue) (event : Event) (free : ℕ) : Type 0 where
  pub sources : Every (IsSource node event (effects_of node event free).entries) (effects_of node event free).records
  pub once : (tid : Tid) → commits_of tid (effects_of node event free).records ≤ decides_of tid (effects_of node event free).entries + told_commit event tid

abbrev pub StepsMakeRecords : Type 0
StepsMakeRecords = (node : NodeValue) (event : Event) (free : ℕ) → MakesRecords node event free
