-- How a run ends whose journal conforms.
use Rattle.std.specs.Prelude.{ℕ, Bool, true, false, List, [], ◌∷◌}
use Rattle.qs_book_script.specs.declared.status.Status.{Status}
use Rattle.qs_book_script.specs.declared.status.Status.TheVariants.{Finished, Unfinished}
use Rattle.qs_book_script.specs.declared.status.Waiting.{Waiting}

-- after so many rounds, with all work done or not, where these clients wait
abbrev pub status_of : ℕ → Bool → List Waiting → Status
status_of rounds true [] = Finished
status_of rounds true (one ∷ more) = Unfinished rounds (one ∷ more)
status_of rounds false waiting = Unfinished rounds waiting
