use Rattle.qs_world_lawful.proofs.Obeying.{by_commit_came}
use Rattle.qs_world_lawful.proofs.lawful_commands.coming_commit_is_lawful.Goals as goal

pub returns : goal.returns
returns c = λ x0 x1 x2 x3 x4 x5 x6 x7 x8 x9 x10 x11 home inc. by_commit_came x0 x1 x2 x3 x4 x5 x6 x7 x8 x9 x10 x11 (λ kept. (home, inc)) (λ part known unknown. inc)
