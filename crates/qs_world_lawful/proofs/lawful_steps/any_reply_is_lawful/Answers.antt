use Rattle.qs_world_lawful.proofs.Replied.{by_replied}
use Rattle.qs_world_lawful.proofs.lawful_steps.any_reply_is_lawful.Goals as goal

pub returns : goal.returns
returns c = by_replied
