use Rattle.qs_world_runs.proofs.CommitsHome.{home_logged, steps_commit_home}
use Rattle.qs_world_runs.proofs.CommitsHomeRuns.{each_commits_home}
use Rattle.qs_world_runs.proofs.coherent_again.homes_log_commits.Goals as goal

pub returns : goal.returns
returns c = record { logged = home_logged; steps = steps_commit_home; runs = each_commits_home }
