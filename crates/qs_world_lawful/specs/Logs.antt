-- What the log of a node says, and what the machine has on record of it.
use Rattle.std.specs.Prelude.{◌≡◌, ◌⊎◌, ℕ, true, List, [], ◌∷◌, map, Some, ⊤}
use Rattle.std.specs.List.{list_any}
use Rattle.qs_base.specs.declared.identifiers.Tid.{Tid}
use Rattle.qs_book_machine.specs.Transaction.{TransactionValue, has_learnt}
use Rattle.qs_book_machine.specs.Book.{BookValue, find_transaction}
use Rattle.qs_book_machine.specs.Nodes as machine
use Rattle.qs_book_machine.specs.Restart.{is_among, is_on_record, could_vote, may_be_lost, is_found_as, is_committed, member_at}
use Rattle.qs_book_machine.specs.declared.state.OnRecord.{OnRecord}
use Rattle.qs_book_machine.specs.declared.state.Voter.{Voter}
use Rattle.qs_book_journal.specs.declared.entry.Found.{Found}
use Rattle.qs_restart.specs.Recovery.{Prepared, Recovery, open_vote, open_votes}
use Rattle.qs_world.specs.Moves as moves

-- ---- the votes that a log says, as a restart finds them

abbrev pub found_of : Prepared → Found
found_of vote = moves.found_of (open_vote vote)

abbrev pub found_votes : Recovery → List Found
found_votes said = map moves.found_of (open_votes said)

-- ---- all of a list

abbrev pub Every : {A : Type 0} → (A → Type 0) → List A → Type 0
Every P [] = ⊤
Every P (x ∷ xs) = P x × Every P xs

-- ---- a node that runs, after a whole step

-- its Commit stands beside the vote: its member has learnt commit, or the log had both at the opening
pub record IsApplied (here : ℕ) (book : BookValue) (state : machine.NodeValue) (log : Recovery) (vote : Prepared) : Type 0 where
  pub tx : TransactionValue
  pub found : find_transaction book vote.tid ≡ Some tx
  pub has_commit : is_among log.committed vote.tid ≡ true
  pub learnt : (has_learnt tx (member_at here vote.server.0) ≡ true) ⊎ (is_among state.committed vote.tid ≡ true)

-- what a crash within a step leaves of a vote: its Prepare is on the disk, its entry is not in the history
pub record IsCutVote (here : ℕ) (book : BookValue) (state : machine.NodeValue) (vote : Prepared) : Type 0 where
  pub tx : TransactionValue
  pub found : find_transaction book vote.tid ≡ Some tx
  pub could : could_vote here state tx (found_of vote) ≡ true

abbrev pub IsVoteLogged : ℕ → BookValue → machine.NodeValue → Recovery → Prepared → Type 0
IsVoteLogged here book state log vote = (is_on_record state (found_of vote) ≡ true) ⊎ IsApplied here book state log vote

abbrev pub IsRecordKept : ℕ → BookValue → Recovery → Voter × OnRecord → Type 0
IsRecordKept here book log entry =
    (may_be_lost here entry.0.tid (find_transaction book entry.0.tid) ≡ true)
    ⊎ ((is_among log.committed entry.0.tid ≡ true) ⊎ (list_any (is_found_as entry.0 entry.1.covers) (found_votes log) ≡ true))

abbrev pub IsCommitLogged : ℕ → BookValue → machine.NodeValue → Tid → Type 0
IsCommitLogged here book state tid = (is_among state.committed tid ≡ true) ⊎ (is_committed here tid (find_transaction book tid) ≡ true)

pub record HoldsLog (here : ℕ) (book : BookValue) (state : machine.NodeValue) (log : Recovery) : Type 0 where
  pub kinds : Every (λ (vote : Prepared). machine.is_recoverable vote.server.0 ≡ true) log.prepared
  pub votes : Every (IsVoteLogged here book state log) log.prepared
  pub kept : Every (IsRecordKept here book log) state.records
  pub commits : Every (IsCommitLogged here book state) log.committed

-- ---- a node that is down: the same, and votes of a step that was cut off

pub record HoldsStopped (here : ℕ) (book : BookValue) (state : machine.NodeValue) (log : Recovery) : Type 0 where
  pub kinds : Every (λ (vote : Prepared). machine.is_recoverable vote.server.0 ≡ true) log.prepared
  pub votes : Every (λ (vote : Prepared). IsVoteLogged here book state log vote ⊎ IsCutVote here book state vote) log.prepared
  pub kept : Every (IsRecordKept here book log) state.records
  pub commits : Every (IsCommitLogged here book state) log.committed
