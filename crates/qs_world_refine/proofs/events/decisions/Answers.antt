use Rattle.qs_world_refine.proofs.EventGoes.{commit, commit_unlogged, tell}
use Rattle.qs_world_refine.proofs.Aborting.{abort}
use Rattle.qs_world_refine.proofs.OutcomeGoes.{commit_alone}
use Rattle.qs_world_refine.proofs.events.decisions.Goals as goal

pub returns : goal.returns
returns c = record { commit = commit; commit_unlogged = commit_unlogged; tell = tell; commit_alone = commit_alone; abort = abort }
