use Rattle.qs_world_filed.proofs.Unasked.{runs_without_audit}
use Rattle.qs_world_filed.proofs.runs.runs_without_audit_keep_files_rules.Goals as goal

pub returns : goal.returns
returns c = runs_without_audit
