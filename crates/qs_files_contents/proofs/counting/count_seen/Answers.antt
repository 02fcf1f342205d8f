use Rattle.qs_files_contents.proofs.Counted.{counted-on, counted-all}
use Rattle.qs_files_contents.proofs.counting.count_seen.Goals as goal

pub loop-change-preserved : goal.loop-change-preserved
loop-change-preserved c =
    counted-on c.args.tid c.args.names.now c.args.changes.now c.loop-change.change-index c.change-item.result c.loop-change.count c.count_change.new.count
    c.loop-change-test.true c.change-item.is c.requires.changes.names c.loop-change.invariant c.in_ok-count_change.ensures

pub returns : goal.returns
returns c = counted-all c.args.tid c.args.names.now c.args.changes.now c.loop-change.change-index c.loop-change.count c.loop-change-test.false c.requires.changes c.loop-change.invariant
