use Rattle.std.proofs.Common.{◌≡◌, OnOk, subst, Some}
use Rattle.qs_tm.specs.Manager as tm
use Rattle.qs_tm.specs.declared.manager.BeginFault.TheVariants as faults
use Rattle.qs_node.proofs.Refused.{full, last}
use Rattle.qs_node.proofs.beginning.begin_command.Goals as goal

pub returns-in-Err-LogFull-clause-ok : goal.returns-in-Err-LogFull-clause-ok
returns-in-Err-LogFull-clause-ok g c =
    let is : tm.begin_fault c.args.work.now.room c.args.work.now.node.manager ≡ Some (faults.LogFull c.in-Err-LogFull.need c.in-Err-LogFull.room) =
    (c.begin.ensures.full c.in-Err-LogFull.need c.in-Err-LogFull.room).0 (cc (c.in-Err-LogFull.is, c.in-Err-LogFull.field-0-is)) in
    subst (λ w. OnOk c.refuse_begin.result (c.refuse_begin.new.work ≡ w))
    (full c.args.line.now c.args.work.now c.begin.new.self c.in-Err-LogFull.need c.in-Err-LogFull.room c.in-Err-LogFull.ensures.err is)
    c.refuse_begin.ensures.ok

pub returns-in-Err-Last-clause-ok : goal.returns-in-Err-Last-clause-ok
returns-in-Err-Last-clause-ok g c =
    let is : tm.begin_fault c.args.work.now.room c.args.work.now.node.manager ≡ Some (faults.Last c.in-Err-Last.field-0-0) =
    (c.begin.ensures.last c.in-Err-Last.field-0-0).0 (cc (c.in-Err-Last.is, c.in-Err-Last.field-0-is)) in
    last c.args.line.now c.args.work.now c.begin.new.self c.in-Err-Last.field-0-0 c.in-Err-Last.ensures.err is
