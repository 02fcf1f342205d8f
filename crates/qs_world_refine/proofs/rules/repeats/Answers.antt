use Rattle.qs_world_refine.proofs.ToldAgain.{tell_commit_unknown, tell_commit_again, tell_home, told_elsewhere, told_running, told_nobody}
use Rattle.qs_world_refine.proofs.rules.repeats.Goals as goal

pub returns : goal.returns
returns c = record { commit_unknown = tell_commit_unknown; commit_again = tell_commit_again; tell_home = tell_home; told_elsewhere = told_elsewhere; told_running = told_running; told_nobody = told_nobody }
