-- Whole runs, so that what is said of every run is not empty; and the moments of others.
use Rattle.std.specs.Prelude.{◌≡◌, true, false, List, [], ◌∷◌, ◌++◌}
use Rattle.qs_world_agree.specs.World.{Open, Aborted, World, IsOpening, start}
use Rattle.qs_world_agree.specs.Origins.{Begun}
use Rattle.qs_world_agree.specs.Step.{Event, Abort, Ask, Count, Crash, Engage, Ignore, Issue, Join, Learn_abort, Meet, Notice, Restart, Serve, Take_names, Tell_abort, Vote_recoverable, Yes}
use Rattle.qs_world_agree.specs.Doomed.{IsLeft}
use Rattle.qs_world_agree.specs.Laws.{Run}
use Rattle.qs_world_agree.specs.Runs.{four_nodes, late_join, abort_chain}
use Rattle.qs_world_agree_ends.specs.Requests.{IsUncovered, IsComing, IsOwed}
use Rattle.qs_world_agree_ends.specs.Moments.{engaged_at, yes_at}
use Rattle.qs_world_agree_ends.specs.Still.{IsStill}
use Rattle.qs_world_agree_ends.specs.Waiting.{AwaitsWord}
use Rattle.qs_world_agree_ends.specs.Word.{NoneIsNext}

-- the home sends a request to node 1
abbrev pub asking : List Event
asking = Meet 1 2 ∷ Meet 2 1 ∷ Meet 2 3 ∷ Meet 3 2 ∷ Issue 1 1 0 ∷ []

-- node 1 is drawn in and sends one to node 2; the home decides abort, and node 2, which does not know it, is drawn in
abbrev pub drawing : List Event
drawing = Engage 2 1 ∷ Issue 2 2 0 ∷ Abort ∷ Engage 3 2 ∷ []

-- node 2 votes and says yes
abbrev pub saying : List Event
saying = Serve 3 0 ∷ Ask 3 ∷ Vote_recoverable 3 0 ∷ Yes 3 ∷ []

-- so does node 1, to the home, which drops its answer
abbrev pub ending : List Event
ending = Count 2 3 ∷ Serve 2 0 ∷ Ask 2 ∷ Vote_recoverable 2 0 ∷ Yes 2 ∷ Ignore 1 2 ∷ []

abbrev pub down_chain : List Event
down_chain = asking ++ (drawing ++ (saying ++ ending))

pub record ChainIsSeen : Type 0 where
  pub opens : IsOpening four_nodes
  pub asked : World
  pub asks : Run (start four_nodes) asking asked
  pub left : IsUncovered asked 1 2 1 × IsLeft asked 1 2 1  -- the home's request is still to be handed up
  pub drawn : World
  pub draws : Run asked drawing drawn
  pub aborted : drawn.cell ≡ Aborted
  pub owed : IsUncovered drawn 2 3 1 × IsOwed drawn 3 2 1  -- node 2 owes an answer
  pub told : World
  pub tells : Run drawn saying told
  pub answered : IsUncovered told 2 3 1 × IsComing told 3 2 1  -- which is on its way
  pub done : World
  pub ends : Run told ending done
  pub dropped : (done.covered 1 1 ≡ 0) × (done.sent 1 1 ≡ 1) × (done.closers_taken 1 2 ≡ done.closers 2 1)  -- the home has decided: no answer is on its way, and its request is not covered
  pub released : (done.engager 3 ≡ 2) × (done.engaged 3 ≡ false) × (done.engaged 2 ≡ false)
  pub moments : (engaged_at down_chain 2 ≡ 6) × (engaged_at down_chain 3 ≡ 9) × (yes_at down_chain 3 ≡ 13) × (yes_at down_chain 2 ≡ 18)  -- who was engaged first said yes last

-- where a node joins late, the home engages place 2, which engages place 3; and where an abort goes down a chain, place 4 said yes, and is engaged anew by the request that it drops
pub record MomentsAreSeen : Type 0 where
  pub late_join : (engaged_at late_join 2 ≡ 10) × (engaged_at late_join 3 ≡ 16) × (yes_at late_join 3 ≡ 30) × (yes_at late_join 2 ≡ 36)
  pub abort_chain : (engaged_at abort_chain 2 ≡ 10) × (engaged_at abort_chain 3 ≡ 12) × (engaged_at abort_chain 4 ≡ 38) × (yes_at abort_chain 4 ≡ 18) × (yes_at abort_chain 3 ≡ 0)

-- ---- a ring

-- The home draws in node 1, and that one node 2. Node 1 stops and restarts as place 6, which node 2 draws in; place 6 sends a request to node 2, which takes it from its superior's node.
abbrev pub drawing_back : List Event
drawing_back =
    Meet 1 2 ∷ Meet 2 1 ∷ Meet 2 3 ∷ Meet 3 2 ∷ Issue 1 1 0 ∷ Engage 2 1 ∷ Issue 2 2 0 ∷ Engage 3 2 ∷ Crash 2 ∷ Restart 6
    ∷ Notice 3 6 ∷ Issue 3 1 0 ∷ Meet 6 3 ∷ Engage 6 3 ∷ Issue 6 2 0 ∷ Join 3 6 ∷ []

-- two places that run owe each other an answer, where the place that engaged one of them has stopped
pub record RingIsSeen : Type 0 where
  pub ring : World
  pub leads : Run (start four_nodes) drawing_back ring
  pub run : (ring.up 3 ≡ true) × (ring.up 6 ≡ true)
  pub owed : IsOwed ring 3 6 1 × IsOwed ring 6 3 1
  pub stopped : (ring.engager 3 ≡ 2) × (ring.up 2 ≡ false)

-- ---- what is left to do

-- node 1 is drawn in, votes and says yes, and the home is asked
abbrev pub voting : List Event
voting = Meet 1 2 ∷ Meet 2 1 ∷ Issue 1 1 0 ∷ Engage 2 1 ∷ Serve 2 0 ∷ Ask 2 ∷ Vote_recoverable 2 0 ∷ Yes 2 ∷ Count 1 2 ∷ Ask 1 ∷ []

-- nothing of the votes is left to do
pub record VotesAreSeen : Type 0 where
  pub voted : World
  pub votes : Run (start four_nodes) voting voted
  pub still : IsStill voted
  pub runs : voted.up voted.home ≡ true
  pub undecided : voted.outcome voted.home ≡ Open

-- ---- what is left to tell

-- the home draws in node 1, and that one node 2, and the home aborts
abbrev pub aborting : List Event
aborting = Meet 1 2 ∷ Meet 2 1 ∷ Meet 2 3 ∷ Meet 3 2 ∷ Meet 3 1 ∷ Issue 1 1 0 ∷ Engage 2 1 ∷ Issue 2 2 0 ∷ Engage 3 2 ∷ Abort ∷ []

-- it tells node 1, whose Told names node 2, which is told too
abbrev pub telling : List Event
telling = Tell_abort 1 1 ∷ Learn_abort 2 ∷ Take_names 1 2 2 ∷ Tell_abort 1 2 ∷ Learn_abort 3 ∷ []

-- two nodes await word, until nothing of the abort is left to tell
pub record AbortIsSeen : Type 0 where
  pub decided : World
  pub decides : Run (start four_nodes) aborting decided
  pub awaits : AwaitsWord decided 2 × AwaitsWord decided 3
  pub told : World
  pub tells : Run decided telling told
  pub none : NoneIsNext (Begun four_nodes) (aborting ++ telling) told
  pub aborted : told.cell ≡ Aborted
  pub known : (told.outcome 1 ≡ Aborted) × (told.outcome 2 ≡ Aborted) × (told.outcome 3 ≡ Aborted)
