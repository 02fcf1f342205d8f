use Rattle.qs_world_lawful.proofs.LogLaws.{others_keep}
use Rattle.qs_world_lawful.proofs.lawful_logs.others_keep_the_log.Goals as goal

pub returns : goal.returns
returns c = others_keep
