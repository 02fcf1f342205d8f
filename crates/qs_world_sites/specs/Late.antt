-- How often nodes are visited and started again.
use Rattle.std.specs.Prelude.{◌≡◌, ◌≤◌, ◌<◌, ℕ, ◌+◌, List, Some, slice_get}
use Rattle.qs_cell.specs.Logged.{most_rounds}
use Rattle.qs_world_rounds.specs.Rounds.{Cast, visits_of}

-- at most so often more
pub record RisesBy {D : Type 0} (more : ℕ) (old new : Cast D) : Type 0 where
  pub most : visits_of new ≤ visits_of old + more

-- some node was visited so often that with so many more visits its log may open as damaged
pub record IsLate {D : Type 0} (more : ℕ) (sites : List (Cast D)) : Type 0 where
  pub node : ℕ
  pub site : Cast D
  pub is : slice_get sites node ≡ Some site
  pub late : most_rounds < visits_of site + more
