use Rattle.qs_world_lawful.proofs.PassingAll.{by_pass}
use Rattle.qs_world_lawful.proofs.lawful_steps.vote_pass_is_lawful.Goals as goal

pub returns : goal.returns
returns c = λ stamp before work tid part h. by_pass stamp before tid work h part
