use Rattle.qs_world_lawful.proofs.Replying.{by_reply}
use Rattle.qs_world_lawful.proofs.lawful_outcomes.reply_is_lawful.Goals as goal

pub returns : goal.returns
returns c = by_reply
