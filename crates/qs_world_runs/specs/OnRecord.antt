-- What is on record of a vote at a node that runs, it has found in its log or voted itself since it began: so the vote stands in the log still, or its Commit does, or the node
-- keeps that the transaction is aborted, and votes on it no more.
use Rattle.std.specs.Prelude.{◌≡◌, ◌⊎◌, ◌&&◌, ◌==◌, ⊤, ℕ, ◌<◌, Bool, true, false, List, ◌++◌, Some, slice_get}
use Rattle.std.specs.List.{list_any}
use Rattle.qs_base.specs.Order.{same_tid}
use Rattle.qs_base.specs.declared.identifiers.Outcome.TheVariants as outcomes
use Rattle.qs_base.specs.declared.identifiers.Tid.{Tid}
use Rattle.qs_book_journal.specs.declared.entry.Act.{Act}
use Rattle.qs_book_journal.specs.declared.entry.Act.TheVariants as acts
use Rattle.qs_book_machine.specs.Book.{BookValue}
use Rattle.qs_book_machine.specs.Nodes as machine
use Rattle.qs_book_machine.specs.Restart.{is_among, is_found, is_found_as}
use Rattle.qs_book_machine.specs.declared.state.OnRecord.{OnRecord}
use Rattle.qs_book_machine.specs.declared.state.Voter.{Voter}
use Rattle.qs_ops.specs.declared.vote.Vote.TheVariants as votes
use Rattle.qs_record.specs.declared.record.Record.{Record}
use Rattle.qs_record.specs.declared.record.Record.TheVariants as made
use Rattle.qs_restart.specs.Recovery.{Recovery, recovery}
use Rattle.qs_node_step.specs.State.{NodeValue}
use Rattle.qs_node_step.specs.Step.{effects_of}
use Rattle.qs_node_step.specs.declared.event.Event.{Event}
use Rattle.qs_tm.specs.Manager as tm
use Rattle.qs_tm.specs.declared.manager.Manager.{Manager}
use Rattle.qs_tm.specs.declared.participant.Participant.{Participant}
use Rattle.qs_world.specs.World.{Host, World}
use Rattle.qs_world_lawful.specs.Logged.{HasAborted}
use Rattle.qs_world_lawful.specs.Logs.{Every, found_votes}

-- ---- one node

-- it keeps that the transaction is aborted, as long as it runs
pub record KeepsAbort (manager : Manager) (tid : Tid) : Type 0 where
  pub part : Participant
  pub known : tm.part_of tid manager ≡ Some part
  pub aborted : part.outcome ≡ Some outcomes.Abort

-- the vote stands in the log, with whatever covers, or its Commit does
abbrev pub IsInLog : Recovery → Voter → Type 0
IsInLog log at = (is_among log.committed at.tid ≡ true) ⊎ (is_found (found_votes log) at ≡ true)

abbrev pub RecordsKnown : machine.NodeValue → Manager → Recovery → Type 0
RecordsKnown state manager log = (tid : Tid) (server : ℕ) (rec : OnRecord) → machine.record_of state tid server ≡ Some rec → KeepsAbort manager tid ⊎ IsInLog log (machine.voter tid server)

-- ---- each node that runs

abbrev pub HostKnown : BookValue → ℕ → Host → Type 0
HostKnown book n host = (state : machine.NodeValue) → slice_get book.nodes n ≡ Some state → RecordsKnown state host.node.manager (recovery (host.log ++ host.waiting))

abbrev pub HoldsRecords : BookValue → World → Type 0
HoldsRecords book world = (n : ℕ) → n < world.size → world.channels.up n ≡ true → HostKnown book n (world.hosts n)

-- ---- the votes of a step are fresh: what is on record of the member, where the transaction is aborted, is found in the log

abbrev pub IsFreshVote : BookValue → machine.NodeValue → Recovery → Record → Type 0
IsFreshVote book state log (made.Prepare tid server covers changes) = (rec : OnRecord) → machine.record_of state tid server.0 ≡ Some rec → HasAborted book tid → list_any (is_found_as (machine.voter tid server.0) rec.covers) (found_votes log) ≡ false → (rec.covers == covers) ≡ false
IsFreshVote book state log rec = ⊤

-- ---- the votes of a step

-- a vote that goes on record
abbrev pub is_recording : Tid → ℕ → Act → Bool
is_recording tid server (acts.Vote t member votes.Recoverable covers) = same_tid t tid && (member.server.0 == server)
is_recording tid server act = false

abbrev pub is_prepare_at : Tid → ℕ → Record → Bool
is_prepare_at tid server (made.Prepare t s covers changes) = same_tid t tid && (s.0 == server)
is_prepare_at tid server rec = false

-- its Prepare is in the step's batch
abbrev pub IsPut : List Record → Act → Type 0
IsPut batch (acts.Vote t member votes.Recoverable covers) = list_any (is_prepare_at t member.server.0) batch ≡ true
IsPut batch act = ⊤

abbrev pub StepsPutVotes : Type 0
StepsPutVotes = (node : NodeValue) (event : Event) (free : ℕ) → Every (IsPut (effects_of node event free).records) (effects_of node event free).entries
