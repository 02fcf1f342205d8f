use Rattle.std.proofs.Common.{List, ℕ, take}
use Rattle.std.specs.List.{list_any}
use Rattle.qs_ops.specs.Table.{is_change_of}
use Rattle.qs_ops_shelf.proofs.Steps.{staged_more, settled_more, list_any-take_more}
use Rattle.qs_ops_shelf.proofs.slots.ShelfTexts.settle_all.Goals as goal

-- one more change is settled
pub loop-change-preserved : goal.loop-change-preserved
loop-change-preserved c =
    let old = c.args.self.now.names.entries in
    let mid = c.loop-change.self.names.entries in
    let so_far = λ (q : List ℕ). list_any (is_change_of q) (take c.loop-change.change-index c.args.changes.now) in
    let this = λ (q : List ℕ). is_change_of q c.change-item.result in
    let both = λ (q : List ℕ). list_any-take_more (is_change_of q) c.args.changes.now c.loop-change.change-index c.change-item.result c.loop-change-test.true c.change-item.is in
    record {
      staged = staged_more old mid _ so_far this _ c.args.tid c.loop-change.invariant.staged c.settle_change.ensures.staged both;
      settled = settled_more old mid _ so_far this _ c.args.tid c.args.commits c.loop-change.invariant.staged c.loop-change.invariant.settled c.settle_change.ensures.settled both;
    }
