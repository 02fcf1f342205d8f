use Rattle.qs_world_lawful.proofs.GivenServing.{may_reply, may_serve}
use Rattle.qs_world_lawful.proofs.lawful_given.serving_is_given.Goals as goal

pub returns : goal.returns
returns c = record { serves = may_serve; replies = may_reply }
