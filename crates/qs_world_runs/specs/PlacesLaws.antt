-- What all places hold of each transaction, as a run begins and through every move, and what it gives a step.
use Rattle.qs_world.specs.World.{Opening, World}
use Rattle.qs_world_runs.specs.AlongRun.{AlongRun}
use Rattle.qs_world_runs.specs.Awaiting.{AwaitedAt}
use Rattle.qs_world_runs.specs.CutBatches.{EachVoteOfStart}
use Rattle.qs_world_runs.specs.JoinedLaws.{AfterStep, IsBetweenSteps, Keeps, Opens, StaysUnanimousThen, WholeSteps}
use Rattle.qs_world_runs.specs.JoinedPlaces.{PlacesAt}

-- what the induction over a run takes for granted of what all places hold, and of what stands beside that
pub record GoesOn (P : Opening → World → Type 0) : Type 0 where
  pub opens : Opens P  -- over old logs too: what an earlier run left undecided has no Commit in a log, and is aborted
  pub between : Keeps P IsBetweenSteps P  -- a crash, a restart and a first meeting
  pub unanimous : AfterStep P StaysUnanimousThen
  pub steps : WholeSteps P
  pub votes : EachVoteOfStart P  -- the votes of a step, where it is cut off with its batch kept

abbrev pub OpensPlaces : Type 0
OpensPlaces = Opens AwaitedAt

abbrev pub KeepsPlaces : Type 0
KeepsPlaces = Keeps AwaitedAt IsBetweenSteps AwaitedAt

abbrev pub StepsStayUnanimous : Type 0
StepsStayUnanimous = AfterStep PlacesAt StaysUnanimousThen

abbrev pub PlacesGoOn : Type 0
PlacesGoOn = GoesOn AlongRun
