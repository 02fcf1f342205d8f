use Rattle.qs_world_lawful.proofs.ReadAlone.{by_forget_rule}
use Rattle.qs_world_lawful.proofs.lawful_steps.forgetting_is_lawful.Goals as goal

pub returns : goal.returns
returns c = λ stamp before work tid part h. by_forget_rule stamp before tid work h part
