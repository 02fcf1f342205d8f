use Rattle.std.proofs.Common.{rules}
use Rattle.qs_record.proofs.Ops.{changes_on}
use Rattle.qs_record.proofs.op_taking.take_each.Goals as goal

pub loop-turn-preserved : goal.loop-turn-preserved
loop-turn-preserved c =
    rw c.in_ok-push.ensures.ok
    (changes_on c.args.count c.loop-turn._turn c.in_ok-take_change.field-0 c.loop-turn.changes c.args.reader.now c.loop-turn.reader c.take_change.new.reader
    (search rules) c.loop-turn.invariant c.in_ok-take_change.ensures.exact c.in_ok-take_change.ensures.valid c.in_ok-take_change.ensures.value)
