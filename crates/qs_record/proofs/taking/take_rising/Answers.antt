use Rattle.std.proofs.Common.{rules}
use Rattle.qs_record.specs.Reading.{rising_at}
use Rattle.qs_record.proofs.Readers.{fault_passed}
use Rattle.qs_record.proofs.Rising.{rising_begun, rising_on, rising_ended, rising_done, rising_taken}
use Rattle.qs_record.proofs.taking.take_rising.Goals as goal

pub loop-turn-init : goal.loop-turn-init
loop-turn-init c = rw c.new-nodes.ensures (rising_begun c.args.count c.args.reader.now)

pub returns-in_err-node-clause-exact : goal.returns-in_err-node-clause-exact
returns-in_err-node-clause-exact c =
    let e = rising_ended c.args.count c.loop-turn._turn c.loop-turn.least c.loop-turn.nodes c.args.reader.now c.loop-turn.reader _ (search rules) c.loop-turn.invariant c.in_err-node.ensures.exact in
    fault_passed c.from_residual.result c.in_err-node.field-0.0 c.take_node_from.new.reader (rising_at c.args.count 0 c.args.reader.now) c.from_residual.ensures.1 e

pub loop-turn-preserved : goal.loop-turn-preserved
loop-turn-preserved c =
    rw c.in_ok-push.ensures.ok
    (rising_on c.args.count c.loop-turn._turn c.loop-turn.least c.in_ok-node.node c.loop-turn.nodes c.args.reader.now c.loop-turn.reader c.take_node_from.new.reader
    (search rules) c.loop-turn.invariant c.in_ok-node.ensures.exact c.in_ok-node.ensures.holds c.in_ok-node.ensures.value)

pub returns-clause-exact : goal.returns-clause-exact
returns-clause-exact c = rising_done c.args.count c.loop-turn._turn c.loop-turn.least c.loop-turn.nodes c.args.reader.now c.loop-turn.reader (search rules) c.loop-turn.invariant

pub returns-clause-value : goal.returns-clause-value
returns-clause-value c =
    rising_taken c.args.count c.loop-turn._turn c.loop-turn.least c.loop-turn.nodes c.args.reader.now c.loop-turn.reader (search rules) c.loop-turn.invariant
