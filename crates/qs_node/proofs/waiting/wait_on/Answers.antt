use Rattle.std.proofs.Common.{◌≡◌, OnOk, subst}
use Rattle.qs_node.specs.declared.waiting.CommandDue.{CommandDue}
use Rattle.qs_node.specs.Due.{do_due}
use Rattle.qs_node.proofs.Waits.{waits}
use Rattle.qs_node.proofs.waiting.wait_on.Goals as goal

pub returns-clause-ok : goal.returns-clause-ok
returns-clause-ok g c =
    subst (λ w. OnOk c.do_due.result (c.do_due.new.work ≡ w)) (waits c.args.client c.args.work.now)
    (subst (λ (due : CommandDue). OnOk c.do_due.result (c.do_due.new.work ≡ do_due c.args.client due c.args.work.now)) c.in_ok-due.ensures c.do_due.ensures.ok)
