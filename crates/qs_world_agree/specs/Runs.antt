-- Whole runs, so that what is said of every run is not empty.
use Rattle.std.specs.Prelude.{◌≡◌, ℕ, ◌+◌, ◌==◌, Bool, true, false, List, [], ◌∷◌, if◌then◌else◌}
use Rattle.qs_world_agree.specs.World.{Committed, Aborted, Class, Recoverable, Volatile, OnePhase, Activity, World, Opening, IsOpening, start}
use Rattle.qs_world_agree.specs.Origins.{Reopening, IsReopening, reopened}
use Rattle.qs_world_agree.specs.Step.{Event, Abort, Abort_logged, Acknowledge, Answer_abort, Answer_commit, Ask, Checkpoint, Commit, Commit_cut, Count, Cover, Crash, Drop_engage, End, Engage, Force, Inquire, Inquire_lost, Issue, Issue_local, Join, Learn, Learn_abort, Learn_cut, Learn_home, Lend, Meet, Name_again, Notice, Restart, Restart_home, Restart_in_doubt, Serve, Serve_told, Take_names, Take_told, Tell, Tell_abort, Vote_recoverable, Vote_volatile, Yes, Yield}
use Rattle.qs_world_agree.specs.Laws.{Run}

-- four nodes, 0 to 3: places 1 to 4 are their first ones, and 5 to 8 the next
abbrev pub node_of : ℕ → ℕ
node_of p = if p == 1 then 0 else (if p == 5 then 0 else (if p == 2 then 1 else (if p == 6 then 1 else (if p == 3 then 2 else (if p == 7 then 2 else 3)))))

abbrev pub first : ℕ → ℕ
first n = n + 1

-- at each node server 0 is recoverable, 1 volatile, 2 one-phase, and 3 a client
abbrev pub class_of : ℕ → ℕ → Class
class_of n s = if s == 0 then Recoverable else (if s == 1 then Volatile else (if s == 2 then OnePhase else Activity))

-- the transaction begins at place 1, and no session has met another
abbrev pub four_nodes : Opening
four_nodes = record { node = node_of; class = class_of; home = 1; present = first; up = λ p. p == first (node_of p); peer = λ p m. 0 }

-- Node 1 is lent the transaction and draws in node 2, late. Node 2 is asked by two nodes, votes one server after the other, serves once more, which withdraws a vote, and votes in a second pass. Then it crashes. Commit is decided, node 2 asks, all learn, and the Commit is ended. The home restarts and knows it still.
abbrev pub late_join : List Event
late_join =
    Meet 1 2 ∷ Meet 2 1 ∷ Meet 1 3 ∷ Meet 3 1 ∷ Meet 2 3 ∷ Meet 3 2
    ∷ Issue_local 1 2 ∷ Serve_told 1 2 ∷ Issue 1 1 0 ∷ Engage 2 1 ∷ Serve 2 0 ∷ Issue 1 1 3 ∷ Join 2 1 ∷ Lend 2 3
    ∷ Issue 2 2 0 ∷ Engage 3 2 ∷ Serve 3 0 ∷ Issue 1 2 1 ∷ Cover 3 1 ∷ Serve 3 1 ∷ Count 1 3
    ∷ Ask 3 ∷ Vote_recoverable 3 0 ∷ Vote_volatile 3 1 ∷ Issue 2 2 0 ∷ Join 3 2 ∷ Serve 3 0 ∷ Yield 2 ∷ Vote_recoverable 3 0 ∷ Yes 3 ∷ Count 2 3
    ∷ Crash 3 ∷ Restart_in_doubt 7 0
    ∷ Ask 2 ∷ Vote_recoverable 2 0 ∷ Yes 2 ∷ Count 1 2 ∷ Ask 1 ∷ Commit
    ∷ Notice 1 7 ∷ Meet 7 1 ∷ Inquire 7 ∷ Answer_commit 1 7 ∷ Learn 7 ∷ Tell 1 1 ∷ Learn 2 ∷ Take_told 1 7 ∷ Take_told 1 2 ∷ End 1
    ∷ Crash 1 ∷ Restart_home 5 ∷ []

-- it leads to a commit that all have learnt and that is ended
pub record LateJoin : Type 0 where
  pub opens : IsOpening four_nodes
  pub new : World
  pub run : Run (start four_nodes) late_join new
  pub cell : new.cell ≡ Committed
  pub learnt : (new.learnt_commit 0 ≡ true) × (new.learnt_commit 1 ≡ true) × (new.learnt_commit 2 ≡ true)
  pub listed : (new.commit_list 1 ≡ true) × (new.commit_list 2 ≡ true) × (new.commit_list 3 ≡ false)
  pub prepared : (new.prepared 1 0 ≡ false) × (new.prepared 2 0 ≡ false)
  pub ended : new.unended ≡ false
  pub known : new.outcome 5 ≡ Committed

-- The home draws in node 1, that one node 2, and that one node 3, which votes and leaves a Prepare. Node 1 crashes: nobody that runs has sent a request to node 2. The home decides abort; node 2 asks and is told. The home crashes before it takes the Told of node 2, which sends it again, with the name of node 3. So node 3 is told too, and drops a request that comes late.
abbrev pub abort_chain : List Event
abort_chain =
    Meet 1 2 ∷ Meet 2 1 ∷ Meet 2 3 ∷ Meet 3 2 ∷ Meet 3 4 ∷ Meet 4 3 ∷ Meet 3 1 ∷ Meet 1 3
    ∷ Issue 1 1 0 ∷ Engage 2 1 ∷ Issue 2 2 0 ∷ Engage 3 2 ∷ Issue 3 3 0 ∷ Engage 4 3 ∷ Serve 4 0 ∷ Ask 4 ∷ Vote_recoverable 4 0 ∷ Yes 4 ∷ Count 3 4 ∷ Issue 3 3 0
    ∷ Crash 2 ∷ Restart 6 ∷ Notice 1 6 ∷ Abort
    ∷ Notice 3 6 ∷ Inquire_lost 3 ∷ Answer_abort 1 3 ∷ Learn_abort 3
    ∷ Crash 1 ∷ Restart_home 5 ∷ Notice 3 5 ∷ Name_again 3 ∷ Take_names 5 3 3 ∷ Tell_abort 5 3
    ∷ Meet 4 5 ∷ Learn_abort 4 ∷ Abort_logged 4 ∷ Drop_engage 4 3 ∷ []

-- it leads to an abort that nodes 2 and 3 have learnt
pub record AbortChain : Type 0 where
  pub opens : IsOpening four_nodes
  pub new : World
  pub run : Run (start four_nodes) abort_chain new
  pub cell : new.cell ≡ Aborted
  pub learnt : (new.learnt_abort 2 ≡ true) × (new.learnt_abort 3 ≡ true)
  pub known : (new.outcome 3 ≡ Aborted) × (new.outcome 4 ≡ Aborted) × (new.outcome 5 ≡ Aborted)
  pub prepared : new.prepared 3 0 ≡ false
  pub dropped : (new.last 4 3 ≡ 2) × (new.arrived 4 0 ≡ 1) × (new.served 4 0 ≡ 1)

-- Node 1 votes one server after the other, and is cut off when the first has left its Prepare. It restarts with that Prepare in doubt; the home sees the restart and aborts; node 1 asks, and drops the Prepare.
abbrev pub cut_pass : List Event
cut_pass =
    Meet 1 2 ∷ Meet 2 1 ∷ Issue 1 1 0 ∷ Engage 2 1 ∷ Issue 1 1 1 ∷ Join 2 1 ∷ Serve 2 0 ∷ Serve 2 1 ∷ Ask 2 ∷ Force 2 0
    ∷ Crash 2 ∷ Restart_in_doubt 6 0 ∷ Notice 1 6 ∷ Meet 6 1 ∷ Abort ∷ Inquire 6 ∷ Answer_abort 1 6 ∷ Learn_abort 6 ∷ Abort_logged 6 ∷ []

-- it leads to an abort that leaves nothing in doubt
pub record CutPass : Type 0 where
  pub opens : IsOpening four_nodes
  pub new : World
  pub run : Run (start four_nodes) cut_pass new
  pub cell : new.cell ≡ Aborted
  pub learnt : new.learnt_abort 1 ≡ true
  pub prepared : new.prepared 1 0 ≡ false
  pub votes : (new.voted 2 0 ≡ 0) × (new.voted 2 1 ≡ 0)

-- The home is cut off in its decision with the Commit kept, and so is node 1 when it learns. Both restart, and the Commit is ended and dropped by a checkpoint.
abbrev pub cut_commit : List Event
cut_commit =
    Meet 1 2 ∷ Meet 2 1 ∷ Issue 1 1 0 ∷ Engage 2 1 ∷ Serve 2 0 ∷ Ask 2 ∷ Vote_recoverable 2 0 ∷ Yes 2 ∷ Count 1 2 ∷ Ask 1 ∷ Commit_cut
    ∷ Restart_home 5 ∷ Learn_home 5 ∷ Notice 2 5 ∷ Tell 5 1 ∷ Learn_cut 2 ∷ Restart 6 ∷ Meet 6 5 ∷ Acknowledge 6 ∷ Take_told 5 6 ∷ End 5 ∷ Checkpoint 5 ∷ []

-- it leads to a commit that both have learnt, with nothing left in a log
pub record CutCommit : Type 0 where
  pub opens : IsOpening four_nodes
  pub new : World
  pub run : Run (start four_nodes) cut_commit new
  pub cell : new.cell ≡ Committed
  pub learnt : (new.learnt_commit 0 ≡ true) × (new.learnt_commit 1 ≡ true)
  pub logs : (new.commit_logged ≡ false) × (new.unended ≡ false) × (new.prepared 1 0 ≡ false)

-- ---- what an earlier run left: the home's node has restarted as place 5, and the others as 6 to 8; node 1 has a vote in doubt, and the home's log a Commit that names nodes 1 and 2, or none

abbrev pub left_over : Bool → Reopening
left_over committed = record {
  node = node_of;
  class = class_of;
  home = 1;
  present = λ n. n + 5;
  up = λ p. p == node_of p + 5;
  peer = λ p m. 0;
  prepared = λ n s. if n == 1 then s == 0 else false;
  doubts = λ n. n == 1;
  committed = committed;
  unended = committed;
  list = λ n. if n == 1 then true else n == 2;
}

-- The Commit is told, and node 1 asks too. It learns the commit, and takes the answer for a Tell that came again. Node 2 knows nothing of the transaction. Both acknowledge, and the Commit is ended.
abbrev pub left_commit : List Event
left_commit =
    Meet 5 6 ∷ Meet 6 5 ∷ Tell 5 1 ∷ Inquire 6 ∷ Learn 6 ∷ Answer_commit 5 6 ∷ Acknowledge 6 ∷ Take_told 5 6
    ∷ Meet 5 7 ∷ Meet 7 5 ∷ Tell 5 2 ∷ Acknowledge 7 ∷ Take_told 5 7 ∷ End 5 ∷ []

-- it leads to a commit with nothing left in doubt
pub record LeftCommit : Type 0 where
  pub opens : IsReopening (left_over true)
  pub new : World
  pub run : Run (reopened (left_over true)) left_commit new
  pub cell : new.cell ≡ Committed
  pub learnt : (new.learnt_commit 1 ≡ true) × (new.outcome 6 ≡ Committed)
  pub acknowledged : (new.acknowledged 1 ≡ true) × (new.acknowledged 2 ≡ true)
  pub ended : (new.unended ≡ false) × (new.prepared 1 0 ≡ false)

-- The home's log has no Commit: node 1 asks, is answered abort, and drops its vote.
abbrev pub left_doubt : List Event
left_doubt = Meet 5 6 ∷ Meet 6 5 ∷ Inquire 6 ∷ Answer_abort 5 6 ∷ Learn_abort 6 ∷ Abort_logged 6 ∷ []

-- it leads to an abort with nothing left in doubt
pub record LeftDoubt : Type 0 where
  pub opens : IsReopening (left_over false)
  pub new : World
  pub run : Run (reopened (left_over false)) left_doubt new
  pub cell : new.cell ≡ Aborted
  pub learnt : new.learnt_abort 1 ≡ true
  pub known : (new.outcome 5 ≡ Aborted) × (new.outcome 6 ≡ Aborted)
  pub prepared : new.prepared 1 0 ≡ false
