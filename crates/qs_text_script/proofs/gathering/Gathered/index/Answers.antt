use Rattle.std.proofs.Common.{◌∙◌, ap}
use Rattle.std.proofs.lemmas.Result.{on_ok_weaker}
use Rattle.qs_text_script.specs.Users.{users_of}
use Rattle.qs_text_script.proofs.UserLemmas.{users_put}
use Rattle.qs_text_script.proofs.gathering.Gathered.index.Goals as goal

pub returns-in-Begin-clause-labels : goal.returns-in-Begin-clause-labels
returns-in-Begin-clause-labels c =
    on_ok_weaker c.add.result (λ e label. ap (users_of label) e ∙ users_put label c.args.line.now c.args.self.now.labels.users.entries) c.add.ensures
