-- What holds of each coherent log, and so of each that a checkpoint may take.
use Rattle.std.specs.Prelude.{◌≡◌, Bool, true, false, not, ◌&&◌, ◌||◌, List, [], ◌∷◌}
use Rattle.std.specs.List.{filter, list_any, list_all}
use Rattle.qs_base.specs.declared.identifiers.Tid.{Tid}
use Rattle.qs_record.specs.declared.record.Record.{Record}
use Rattle.qs_restart.specs.Recovery.{Prepared, Untold, Recovery, is_vote_of, is_untold_of, recovery}
use Rattle.qs_restart_state.specs.Alike.{is_among}
use Rattle.qs_restart_state.specs.States.{are_unended, is_numbered, is_undecided}

abbrev pub has_list : Untold → Bool
has_list commit = elim commit.told [ [] ↦ false | node ∷ nodes ↦ true ]

-- no vote in doubt is of a Commit that waits for its End
abbrev pub is_of_none : List Untold → Prepared → Bool
is_of_none commits vote = not (list_any (is_untold_of vote.tid) commits)

-- no other vote of its transaction and server stands behind it
abbrev pub are_once : List Prepared → Bool
are_once [] = true
are_once (vote ∷ votes) = not (list_any (is_vote_of vote.tid vote.server) votes) && are_once votes

-- a vote has a Commit behind it exactly where its transaction is among the Commits
abbrev pub same_flag : Bool → Bool → Bool
same_flag true b = b
same_flag false b = not b

abbrev pub is_flagged : List Tid → Prepared → Bool
is_flagged committed vote = same_flag vote.committed (is_among committed vote.tid)

abbrev pub is_listed_among : List Tid → Untold → Bool
is_listed_among committed commit = is_among committed commit.tid

-- a vote with a Commit behind it waits with it for the End
abbrev pub is_waiting : List Untold → Prepared → Bool
is_waiting commits vote = not vote.committed || list_any (is_untold_of vote.tid) commits

pub record MayTake (said : Recovery) : Type 0 where
  pub once : are_once (filter is_undecided said.prepared) ≡ true
  pub apart : list_all (is_of_none said.untold) (filter is_undecided said.prepared) ≡ true
  pub listed : list_all has_list said.untold ≡ true
  pub numbered : list_all is_numbered said.untold ≡ true
  pub flagged : list_all (is_flagged said.committed) said.prepared ≡ true
  pub known : list_all (is_listed_among said.committed) said.untold ≡ true
  pub waiting : list_all (is_waiting said.untold) said.prepared ≡ true

abbrev pub EachMayTake : Type 0
EachMayTake = (log : List Record) → are_unended (recovery log) ≡ true → MayTake (recovery log)
