use Rattle.std.proofs.Common.{◌≡◌, OnOk, subst, rules, Some}
use Rattle.qs_node.specs.Begun.{kept_answer}
use Rattle.qs_node.proofs.Told.{told}
use Rattle.qs_node.proofs.owning.owner_command.Goals as goal

pub returns-in-Some-kept-clause-ok : goal.returns-in-Some-kept-clause-ok
returns-in-Some-kept-clause-ok g c =
    let is : kept_answer c.in-Some.tid c.args.command c.args.work.now.node ≡ Some c.in-Some-kept.said = search rules in
    rw c.in-Some.is
    (subst (λ w. OnOk c.answer-in-Some-kept.result (c.answer-in-Some-kept.new.work ≡ w))
    (told c.args.client c.in-Some.tid c.args.command c.args.work.now c.in-Some-kept.said is)
    c.answer-in-Some-kept.ensures.ok)
