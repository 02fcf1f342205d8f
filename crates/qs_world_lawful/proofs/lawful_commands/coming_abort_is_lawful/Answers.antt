use Rattle.qs_world_lawful.proofs.FilesHeld.{files_held}
use Rattle.qs_world_lawful.proofs.Obeying.{by_abort_came}
use Rattle.qs_world_lawful.proofs.lawful_commands.coming_abort_is_lawful.Goals as goal

pub returns : goal.returns
returns c = λ x0 x1 x2 x3 x4 x5 x6 x7 x8 x9 x10 x11 home inc aborts. by_abort_came x0 x1 x2 x3 x4 x5 x6 x7 x8 x9 x10 x11 (λ kept. (home, inc)) (λ part known unknown. inc) aborts (files_held x0 x1 x2 x3)
