-- What the machine and the nodes have together, field by field, where it was not tried elsewhere: in each world of whole runs, also while a node is down.
use Rattle.std.specs.Prelude.{◌≡◌, Bool, true, false, ◌&&◌, [], None}
use Rattle.std.specs.Global.{Global}
use Rattle.qs_book_machine.specs.Book.{BookValue}
use Rattle.qs_book_machine.specs.Lawful.{book_after}
use Rattle.qs_world.specs.DrivenRuns.{late}
use Rattle.qs_world.specs.Driven.{first_fault, rounds}
use Rattle.qs_world.specs.Faults.{both}
use Rattle.qs_world.specs.Histories.{book_of}
use Rattle.qs_world.specs.Openings.{IsOpening}
use Rattle.qs_world.specs.World.{Opening, World, start}
use Rattle.qs_world_lawful.specs.Tried.{rich}
use Rattle.qs_world_lawful.specs.TriedOpenings.{old}
use Rattle.qs_world_runs.specs.TriedStale.{opens}
use Rattle.qs_world_trials.specs.Broken.{in_later_incarnation, who_knows_later, with_fast_clocks, with_later_managers, with_moved_clients, with_uncounted_changes, without_history, without_labels, without_logs, without_messages, without_outcomes}
use Rattle.qs_world_trials.specs.MachineTests.{is_at_home, is_beside, is_labelled, is_owned, is_placed, is_queued}
use Rattle.qs_world_trials.specs.Runs.{sole, stale}
use Rattle.qs_world_trials.specs.Walks.{all_after, all_along, all_in, changed}
use Rattle.qs_world_trials.specs.WorldTests.{has_facts, has_room, is_born, is_clocked, is_logged, is_met, is_scripted}

abbrev is_world_so : Opening → BookValue → World → Bool
is_world_so o book world =
    (has_facts o book world && is_clocked o book world) && ((is_logged o book world && is_born o book world) && (is_met o book world && (has_room o book world && is_scripted o book world)))

abbrev is_machine_so : Opening → BookValue → World → Bool
is_machine_so o book world = (is_at_home o book world && is_owned o book world) && (is_labelled o book world && (is_queued o book world && is_beside o book world))

abbrev pub is_joined : Opening → BookValue → World → Bool
is_joined o book world = is_world_so o book world && is_machine_so o book world

-- of a machine that has no client
abbrev pub is_owned_by_none : Opening → Bool
is_owned_by_none o = is_owned o (record (book_after (book_of o) (rounds 1 4 (start o)).journal) { owners = [] }) (start o)

pub record TriedJoined (alloc : Global) : Type 0 where
  pub opens_conflicts : IsOpening (rich alloc)
  pub opens_sole : IsOpening (sole alloc)
  pub opens_stale : IsOpening (opens alloc)
  pub lawful : first_fault (rich alloc) (rounds 3 16 (start (rich alloc))) ≡ None
  pub conflicts : all_in is_joined (rich alloc) 3 0 600 ≡ true
  pub late_join : all_in is_joined (late alloc) 2 0 432 ≡ true
  pub stale_record : all_along is_joined (opens alloc) stale ≡ true
  pub kept : all_after is_joined (both alloc) 1 true 15 0 150 ≡ true
  pub lost : all_after is_joined (both alloc) 1 false 15 0 150 ≡ true
  pub conflicts_kept : all_after is_joined (rich alloc) 3 true 25 200 30 ≡ true
  pub old_kept : all_after is_joined (old alloc) 1 true 15 0 60 ≡ true
  pub placed : all_in is_placed (both alloc) 1 0 120 ≡ true
  pub placed_late : all_in is_placed (late alloc) 2 0 432 ≡ true

-- each of them fails where it should
pub record FailsJoined (alloc : Global) : Type 0 where
  pub facts : all_in (changed has_facts with_later_managers) (both alloc) 1 0 200 ≡ false
  pub clocked : all_in (changed is_clocked with_fast_clocks) (both alloc) 1 0 200 ≡ false
  pub logged : all_in (changed is_logged without_logs) (old alloc) 1 0 200 ≡ false
  pub born : all_in (changed is_born in_later_incarnation) (both alloc) 1 0 200 ≡ false
  pub met : all_in (changed is_met who_knows_later) (both alloc) 1 0 200 ≡ false
  pub room : all_in (changed has_room with_uncounted_changes) (both alloc) 1 0 200 ≡ false
  pub scripted : all_in (changed is_scripted with_moved_clients) (both alloc) 1 0 200 ≡ false
  pub home : all_in (changed is_at_home without_outcomes) (both alloc) 1 0 200 ≡ false
  pub labelled : all_in (changed is_labelled without_labels) (both alloc) 1 0 200 ≡ false
  pub queued : all_in (changed is_queued without_history) (both alloc) 1 0 200 ≡ false
  pub beside : all_in (changed is_beside with_fast_clocks) (both alloc) 1 0 200 ≡ false
  pub placed : all_in (changed is_placed without_messages) (both alloc) 1 0 200 ≡ false
  pub issued : all_in (changed is_placed in_later_incarnation) (both alloc) 1 0 200 ≡ false
  pub owned : is_owned_by_none (both alloc) ≡ false
