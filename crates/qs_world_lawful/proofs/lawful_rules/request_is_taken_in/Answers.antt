use Rattle.qs_world_lawful.proofs.RequestsCame.{by_request_came}
use Rattle.qs_world_lawful.proofs.lawful_rules.request_is_taken_in.Goals as goal

pub returns : goal.returns
returns c = by_request_came
