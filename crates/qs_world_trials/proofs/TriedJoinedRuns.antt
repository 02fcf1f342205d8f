-- The tests of what machines and nodes have together, each group by evaluation.
use Rattle.std.proofs.Common.{◌≡◌, true, false, None, refl}
use Rattle.std.specs.Fmt.{digits}
use Rattle.std.specs.Global.{Global}
use Rattle.qs_engage.specs.Nodes.{all_nodes}
use Rattle.qs_world_runs.specs.TriedStale.{opens}
use Rattle.qs_world_lawful.specs.Tried.{rich}
use Rattle.qs_world_lawful.specs.TriedOpenings.{old}
use Rattle.qs_tm.specs.Members.{all_servers}
use Rattle.qs_world_trials.specs.Broken.{in_later_incarnation, who_knows_later, with_fast_clocks, with_later_managers, with_moved_clients, with_uncounted_changes, without_history, without_labels, without_logs, without_messages, without_outcomes}
use Rattle.qs_world_trials.specs.MachineTests.{is_at_home, is_beside, is_labelled, is_placed, is_queued}
use Rattle.qs_world_trials.specs.Runs.{sole, stale}
use Rattle.qs_world_trials.specs.TriedJoined.{is_joined, is_owned_by_none}
use Rattle.qs_world_trials.specs.Walks.{all_after, all_along, all_in, changed}
use Rattle.qs_world_trials.specs.WorldTests.{has_facts, has_room, is_born, is_clocked, is_logged, is_met, is_scripted}
use Rattle.qs_world.specs.Driven.{first_fault, rounds}
use Rattle.qs_world.specs.DrivenRuns.{late}
use Rattle.qs_world.specs.Faults.{both}
use Rattle.qs_world.specs.Openings.{IsOpening}
use Rattle.qs_world.specs.World.{start}

pub opens_conflicts_holds : (alloc : Global) → IsOpening (rich alloc)
opens_conflicts_holds alloc = record { size = refl; settings = refl; scripts = refl; labels = refl; logs = refl; votes = refl; unended = refl; whole = refl }

pub opens_sole_holds : (alloc : Global) → IsOpening (sole alloc)
opens_sole_holds alloc = record { size = refl; settings = refl; scripts = refl; labels = refl; logs = refl; votes = refl; unended = refl; whole = refl }

pub opens_stale_holds : (alloc : Global) → IsOpening (opens alloc)
opens_stale_holds alloc = record { size = refl; settings = refl; scripts = refl; labels = refl; logs = refl; votes = refl; unended = refl; whole = refl }

pub lawful_holds : (alloc : Global) → first_fault (rich alloc) (rounds 3 16 (start (rich alloc))) ≡ None
unfolding all_nodes all_servers digits
lawful_holds alloc = refl

pub conflicts_holds : (alloc : Global) → all_in is_joined (rich alloc) 3 0 600 ≡ true
unfolding all_nodes all_servers digits
conflicts_holds alloc = refl

pub late_join_holds : (alloc : Global) → all_in is_joined (late alloc) 2 0 432 ≡ true
unfolding all_nodes all_servers digits
late_join_holds alloc = refl

pub stale_record_holds : (alloc : Global) → all_along is_joined (opens alloc) stale ≡ true
unfolding all_nodes all_servers digits
stale_record_holds alloc = refl

pub kept_holds : (alloc : Global) → all_after is_joined (both alloc) 1 true 15 0 150 ≡ true
unfolding all_nodes all_servers digits
kept_holds alloc = refl

pub lost_holds : (alloc : Global) → all_after is_joined (both alloc) 1 false 15 0 150 ≡ true
unfolding all_nodes all_servers digits
lost_holds alloc = refl

pub conflicts_kept_holds : (alloc : Global) → all_after is_joined (rich alloc) 3 true 25 200 30 ≡ true
unfolding all_nodes all_servers digits
conflicts_kept_holds alloc = refl

pub old_kept_holds : (alloc : Global) → all_after is_joined (old alloc) 1 true 15 0 60 ≡ true
unfolding all_nodes all_servers digits
old_kept_holds alloc = refl

pub placed_holds : (alloc : Global) → all_in is_placed (both alloc) 1 0 120 ≡ true
unfolding all_nodes all_servers digits
placed_holds alloc = refl

pub placed_late_holds : (alloc : Global) → all_in is_placed (late alloc) 2 0 432 ≡ true
unfolding all_nodes all_servers digits
placed_late_holds alloc = refl

pub facts_fails : (alloc : Global) → all_in (changed has_facts with_later_managers) (both alloc) 1 0 200 ≡ false
unfolding all_nodes all_servers digits
facts_fails alloc = refl

pub clocked_fails : (alloc : Global) → all_in (changed is_clocked with_fast_clocks) (both alloc) 1 0 200 ≡ false
unfolding all_nodes all_servers digits
clocked_fails alloc = refl

pub logged_fails : (alloc : Global) → all_in (changed is_logged without_logs) (old alloc) 1 0 200 ≡ false
unfolding all_nodes all_servers digits
logged_fails alloc = refl

pub born_fails : (alloc : Global) → all_in (changed is_born in_later_incarnation) (both alloc) 1 0 200 ≡ false
unfolding all_nodes all_servers digits
born_fails alloc = refl

pub met_fails : (alloc : Global) → all_in (changed is_met who_knows_later) (both alloc) 1 0 200 ≡ false
unfolding all_nodes all_servers digits
met_fails alloc = refl

pub room_fails : (alloc : Global) → all_in (changed has_room with_uncounted_changes) (both alloc) 1 0 200 ≡ false
unfolding all_nodes all_servers digits
room_fails alloc = refl

pub scripted_fails : (alloc : Global) → all_in (changed is_scripted with_moved_clients) (both alloc) 1 0 200 ≡ false
unfolding all_nodes all_servers digits
scripted_fails alloc = refl

pub home_fails : (alloc : Global) → all_in (changed is_at_home without_outcomes) (both alloc) 1 0 200 ≡ false
unfolding all_nodes all_servers digits
home_fails alloc = refl

pub labelled_fails : (alloc : Global) → all_in (changed is_labelled without_labels) (both alloc) 1 0 200 ≡ false
unfolding all_nodes all_servers digits
labelled_fails alloc = refl

pub queued_fails : (alloc : Global) → all_in (changed is_queued without_history) (both alloc) 1 0 200 ≡ false
unfolding all_nodes all_servers digits
queued_fails alloc = refl

pub beside_fails : (alloc : Global) → all_in (changed is_beside with_fast_clocks) (both alloc) 1 0 200 ≡ false
unfolding all_nodes all_servers digits
beside_fails alloc = refl

pub placed_fails : (alloc : Global) → all_in (changed is_placed without_messages) (both alloc) 1 0 200 ≡ false
unfolding all_nodes all_servers digits
placed_fails alloc = refl

pub issued_fails : (alloc : Global) → all_in (changed is_placed in_later_incarnation) (both alloc) 1 0 200 ≡ false
unfolding all_nodes all_servers digits
issued_fails alloc = refl

pub owned_fails : (alloc : Global) → is_owned_by_none (both alloc) ≡ false
unfolding all_nodes all_servers digits
owned_fails alloc = refl
