use Rattle.qs_world_lawful.proofs.LogCrashes.{may_crash}
use Rattle.qs_world_lawful.proofs.lawful_logs.crash_is_lawful.Goals as goal

pub returns : goal.returns
returns c = may_crash
