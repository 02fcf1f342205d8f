use Rattle.qs_world_trials.proofs.TriedJoinedRuns.{beside_fails, born_fails, clocked_fails, facts_fails, home_fails, issued_fails, labelled_fails, logged_fails, met_fails, owned_fails, placed_fails, queued_fails, room_fails, scripted_fails}
use Rattle.qs_world_trials.proofs.joined.joined_may_fail.Goals as goal

pub returns : goal.returns
returns c = record { shown = λ alloc. record { facts = facts_fails alloc; clocked = clocked_fails alloc; logged = logged_fails alloc; born = born_fails alloc; met = met_fails alloc; room = room_fails alloc; scripted = scripted_fails alloc; home = home_fails alloc; labelled = labelled_fails alloc; queued = queued_fails alloc; beside = beside_fails alloc; placed = placed_fails alloc; issued = issued_fails alloc; owned = owned_fails alloc } }
