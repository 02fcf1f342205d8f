-- What the records of a step's batch are, of what the machine had before the step: so that a restart which finds the batch, and none of the step's entries, finds what could be so.
use Rattle.std.specs.Prelude.{◌≡◌, ◌==◌, ⊤, ℕ, Bool, true, false, List, [], ◌∷◌, ◌++◌, length, Some, is_some, nat_lt, slice_get}
use Rattle.std.specs.List.{list_any}
use Rattle.qs_base.specs.Order.{same_tid}
use Rattle.qs_base.specs.declared.identifiers.ServerNo.{ServerNo}
use Rattle.qs_base.specs.declared.identifiers.Tid.{Tid}
use Rattle.qs_book_laws.specs.Served.{keeps_contents}
use Rattle.qs_book_machine.specs.Book.{BookValue, crossed_in, find_transaction, pending_in}
use Rattle.qs_book_machine.specs.Nodes as machine
use Rattle.qs_book_machine.specs.Restart.{is_among, is_found_as, may_be_lost, member_at}
use Rattle.qs_book_machine.specs.Transaction.{is_empty}
use Rattle.qs_book_machine.specs.declared.state.OnRecord.{OnRecord}
use Rattle.qs_ops.specs.Server.{changes_in}
use Rattle.qs_ops.specs.Servers.{files_no}
use Rattle.qs_ops.specs.declared.operation.Op.{Op}
use Rattle.qs_record.specs.declared.record.Record.{Record}
use Rattle.qs_record.specs.declared.record.Record.TheVariants as made
use Rattle.qs_restart.specs.Recovery.{Recovery, names_transaction, recovery}
use Rattle.qs_node_servers.specs.Servers.{server_at}
use Rattle.qs_node_step.specs.State.{NodeValue}
use Rattle.qs_node_step.specs.Step.{effects_of}
use Rattle.qs_node_step.specs.declared.event.Event.{Event}
use Rattle.qs_world.specs.Moves.{Source}
use Rattle.qs_world.specs.World.{Opening, World}
use Rattle.qs_world_lawful.specs.Logged.{HasAborted}
use Rattle.qs_world_lawful.specs.Logs.{Every, found_votes}
use Rattle.qs_world_runs.specs.Agrees.{MakesStep}
use Rattle.qs_world_runs.specs.CutVotes.{IsVoteDue}
use Rattle.qs_world_runs.specs.Joined.{Joined, book_in}

abbrev pub is_record_of : Tid → Record → Bool
is_record_of tid (made.Prepare t server covers changes) = same_tid t tid
is_record_of tid (made.Commit t told) = same_tid t tid
is_record_of tid (made.Aborted t) = same_tid t tid
is_record_of tid (made.End t) = same_tid t tid

-- ---- one record, of a node with that state as the step began, whose log had these Commits, behind other records of the step

-- what is on record of its member has other covers than a vote, and fewer where the transaction is not aborted
pub record IsBeyond (book : BookValue) (state : machine.NodeValue) (tid : Tid) (server : ServerNo) (covers : ℕ) : Type 0 where
  pub apart : (rec : OnRecord) → machine.record_of state tid server.0 ≡ Some rec → (rec.covers == covers) ≡ false
  pub more : (HasAborted book tid → ⊥) → (rec : OnRecord) → machine.record_of state tid server.0 ≡ Some rec → nat_lt rec.covers covers ≡ true

-- a vote of what its member had pending as the step began, and it had something
pub record IsOfPending (here : ℕ) (book : BookValue) (state : machine.NodeValue) (tid : Tid) (server : ServerNo) (covers : ℕ) (changes : List Op) : Type 0 where
  pub has : is_empty changes ≡ false
  pub pending : crossed_in (find_transaction book tid) (member_at here server.0) ≡ false → machine.pending_at state tid server.0 ≡ changes
  pub count : server.0 ≡ files_no → pending_in (find_transaction book tid) (member_at here server.0) state.inc ≡ length changes
  pub beyond : IsBeyond book state tid server covers

-- and it was due then
pub record IsOwnVote (here : ℕ) (book : BookValue) (state : machine.NodeValue) (tid : Tid) (server : ServerNo) (covers : ℕ) (changes : List Op) : Type 0 where
  pub keeps : keeps_contents server.0 ≡ true
  pub due : IsVoteDue book tid (member_at here server.0) state.inc covers
  pub of : IsOfPending here book state tid server covers changes

-- a first Commit, and the first record of its transaction in the step
pub record IsOwnCommit (committed : List Tid) (before : List Record) (tid : Tid) : Type 0 where
  pub named : names_transaction tid ≡ true
  pub fresh : is_among committed tid ≡ false
  pub first : list_any (is_record_of tid) before ≡ false

-- what is aborted was so, or could be; and what is ended was committed
abbrev pub FitsCut : ℕ → BookValue → machine.NodeValue → List Tid → List Record → Record → Type 0
FitsCut here book state committed before (made.Prepare tid server covers changes) = IsOwnVote here book state tid server covers changes
FitsCut here book state committed before (made.Commit tid told) = IsOwnCommit committed before tid
FitsCut here book state committed before (made.Aborted tid) = is_some (find_transaction book tid) ≡ true → may_be_lost here tid (find_transaction book tid) ≡ true
FitsCut here book state committed before (made.End tid) = is_among committed tid ≡ true

-- ---- a batch

abbrev pub FitCut : ℕ → BookValue → machine.NodeValue → List Tid → List Record → List Record → Type 0
FitCut here book state committed before [] = ⊤
FitCut here book state committed before (rec ∷ records) = FitsCut here book state committed before rec × FitCut here book state committed (before ++ rec ∷ []) records

abbrev pub EachBatchFits : (Opening → World → Type 0) → Type 0
EachBatchFits P = (o : Opening) (world : World) (n stamp free : ℕ) (source : Source) (event : Event) → Joined P o world → MakesStep world n stamp source event
    → (state : machine.NodeValue) → slice_get (book_in o world).nodes n ≡ Some state
    → FitCut n (book_in o world) state (recovery ((world.hosts n).log ++ (world.hosts n).waiting)).committed [] (effects_of (world.hosts n).node event free).records

-- ---- what is shown of each vote

-- a vote of what its server had pending as the step began; it covers more than what is on record and found in the log, and not as many as what is on record of an aborted transaction that
-- the log has ended
pub record IsOfStart (node : NodeValue) (book : BookValue) (state : machine.NodeValue) (log : Recovery) (tid : Tid) (server : ServerNo) (covers : ℕ) (changes : List Op) : Type 0 where
  pub same : changes ≡ changes_in (server_at node.servers server) tid
  pub beyond : (rec : OnRecord) → machine.record_of state tid server.0 ≡ Some rec → list_any (is_found_as (machine.voter tid server.0) rec.covers) (found_votes log) ≡ true → nat_lt rec.covers covers ≡ true
  pub fresh : (rec : OnRecord) → machine.record_of state tid server.0 ≡ Some rec → HasAborted book tid → list_any (is_found_as (machine.voter tid server.0) rec.covers) (found_votes log) ≡ false → (rec.covers == covers) ≡ false

abbrev pub IsVoteOfStart : NodeValue → BookValue → machine.NodeValue → Recovery → Record → Type 0
IsVoteOfStart node book state log (made.Prepare tid server covers changes) = IsOfStart node book state log tid server covers changes
IsVoteOfStart node book state log rec = ⊤

abbrev pub EachVoteOfStart : (Opening → World → Type 0) → Type 0
EachVoteOfStart P = (o : Opening) (world : World) (n stamp free : ℕ) (source : Source) (event : Event) → Joined P o world → MakesStep world n stamp source event
    → (state : machine.NodeValue) → slice_get (book_in o world).nodes n ≡ Some state
    → Every (IsVoteOfStart (world.hosts n).node (book_in o world) state (recovery ((world.hosts n).log ++ (world.hosts n).waiting))) (effects_of (world.hosts n).node event free).records
