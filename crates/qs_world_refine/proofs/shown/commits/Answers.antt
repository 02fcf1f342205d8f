use Rattle.qs_world_refine.proofs.CommitIdles.{off_idle, commit_idle, commit_clear, commit_unmet}
use Rattle.qs_world_refine.proofs.shown.commits.Goals as goal

pub returns : goal.returns
returns c = record { off = off_idle; idle = commit_idle; clear = commit_clear; unmet = commit_unmet }
