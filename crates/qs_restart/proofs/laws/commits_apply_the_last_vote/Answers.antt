use Rattle.qs_restart.proofs.Applied.{files_applied, audit_applied, extra_applied}
use Rattle.qs_restart.proofs.laws.commits_apply_the_last_vote.Goals as goal

pub returns : goal.returns
returns c = record { files = files_applied; audit = audit_applied; extra = extra_applied }
