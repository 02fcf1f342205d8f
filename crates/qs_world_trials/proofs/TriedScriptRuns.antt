-- That histories of runs keep to scripts, each by evaluation.
use Rattle.std.proofs.Common.{◌≡◌, true, false, refl}
use Rattle.std.specs.Fmt.{digits}
use Rattle.std.specs.Global.{Global}
use Rattle.qs_engage.specs.Nodes.{all_nodes}
use Rattle.qs_world_lawful.specs.Tried.{rich}
use Rattle.qs_tm.specs.Members.{all_servers}
use Rattle.qs_world_trials.specs.NotedCuts.{cut_away, cut_here, found_votes, noting_away, noting_here}
use Rattle.qs_world_trials.specs.ScriptTests.{keeps_to_script}
use Rattle.qs_world_trials.specs.SmallRuns.{asked_early, borrowed_again, cut_as_served, cut_as_voted, in_doubt, stopped_alone, told_one}
use Rattle.qs_world_trials.specs.TriedScripts.{keeps, keeps_cut, with_less, with_notes_here, with_other_seats}
use Rattle.qs_world.specs.Driven.{rounds}
use Rattle.qs_world.specs.DrivenRuns.{late, late_world, taken, taken_world}
use Rattle.qs_world.specs.Faults.{both}
use Rattle.qs_world.specs.World.{start}

pub late_join_keeps : (alloc : Global) → keeps_to_script (late alloc) 2 (late_world alloc) ≡ true
unfolding all_nodes all_servers digits
late_join_keeps alloc = refl

pub taken_name_keeps : (alloc : Global) → keeps_to_script (taken alloc) 2 (taken_world alloc) ≡ true
unfolding all_nodes all_servers digits
taken_name_keeps alloc = refl

pub conflicts_keeps : (alloc : Global) → keeps_to_script (rich alloc) 3 (rounds 3 12 (start (rich alloc))) ≡ true
unfolding all_nodes all_servers digits
conflicts_keeps alloc = refl

pub kept_keeps : (alloc : Global) → keeps_cut (both alloc) true 0 90 ≡ true
unfolding all_nodes all_servers digits
kept_keeps alloc = refl

pub lost_keeps : (alloc : Global) → keeps_cut (both alloc) false 0 90 ≡ true
unfolding all_nodes all_servers digits
lost_keeps alloc = refl

pub served_keeps : (alloc : Global) → keeps alloc cut_as_served ≡ true
unfolding all_nodes all_servers digits
served_keeps alloc = refl

pub voted_keeps : (alloc : Global) → keeps alloc cut_as_voted ≡ true
unfolding all_nodes all_servers digits
voted_keeps alloc = refl

pub asked_keeps : (alloc : Global) → keeps alloc asked_early ≡ true
unfolding all_nodes all_servers digits
asked_keeps alloc = refl

pub borrowed_keeps : (alloc : Global) → keeps alloc borrowed_again ≡ true
unfolding all_nodes all_servers digits
borrowed_keeps alloc = refl

pub told_keeps : (alloc : Global) → keeps alloc told_one ≡ true
unfolding all_nodes all_servers digits
told_keeps alloc = refl

pub stopped_keeps : (alloc : Global) → keeps alloc stopped_alone ≡ true
unfolding all_nodes all_servers digits
stopped_keeps alloc = refl

pub doubt_keeps : (alloc : Global) → keeps alloc in_doubt ≡ true
unfolding all_nodes all_servers digits
doubt_keeps alloc = refl

pub noted_here_keeps : (alloc : Global) → keeps_to_script (noting_here alloc) 1 (cut_here alloc) ≡ true
unfolding all_nodes all_servers digits
noted_here_keeps alloc = refl

pub noted_away_keeps : (alloc : Global) → keeps_to_script (noting_away alloc) 1 (cut_away alloc) ≡ true
unfolding all_nodes all_servers digits
noted_away_keeps alloc = refl

pub finds_here : (alloc : Global) → found_votes (cut_here alloc) ≡ 2
unfolding all_nodes all_servers digits
finds_here alloc = refl

pub finds_away : (alloc : Global) → found_votes (cut_away alloc) ≡ 1
unfolding all_nodes all_servers digits
finds_away alloc = refl

pub notes_breaks : (alloc : Global) → keeps_to_script (with_notes_here (noting_away alloc)) 1 (cut_away alloc) ≡ false
unfolding all_nodes all_servers digits
notes_breaks alloc = refl

pub lines_breaks : (alloc : Global) → keeps_to_script (with_less (late alloc)) 2 (late_world alloc) ≡ false
unfolding all_nodes all_servers digits
lines_breaks alloc = refl

pub seats_breaks : (alloc : Global) → keeps_to_script (with_other_seats (late alloc)) 2 (late_world alloc) ≡ false
unfolding all_nodes all_servers digits
seats_breaks alloc = refl

pub clients_breaks : (alloc : Global) → keeps_to_script (late alloc) 1 (late_world alloc) ≡ false
unfolding all_nodes all_servers digits
clients_breaks alloc = refl
