use Rattle.qs_world_lawful.proofs.Replied.{by_serve_all}
use Rattle.qs_world_lawful.proofs.lawful_steps.serving_all_is_lawful.Goals as goal

pub returns : goal.returns
returns c = by_serve_all
