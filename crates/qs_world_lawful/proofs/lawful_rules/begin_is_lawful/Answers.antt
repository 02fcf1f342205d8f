use Rattle.qs_world_lawful.proofs.Beginning.{by_begin}
use Rattle.qs_world_lawful.proofs.lawful_rules.begin_is_lawful.Goals as goal

pub returns : goal.returns
returns c = by_begin
