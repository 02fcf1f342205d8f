use Rattle.qs_world_lawful.proofs.TellingOn.{by_told_came}
use Rattle.qs_world_lawful.proofs.lawful_outcomes.told_is_lawful.Goals as goal

pub returns : goal.returns
returns c = λ stamp before tid peer further work h aborted. by_told_came stamp before tid peer further work h (λ none names. aborted none)
