use Rattle.std.proofs.Common.{◌∙◌, sym, length}
use Rattle.std.proofs.lemmas.List.{length-set}
use Rattle.qs_node_kept.proofs.Undoing.{undone-more, below-last}
use Rattle.qs_node_kept.proofs.ledger.go_back.Goals as goal

pub put_back-requires : goal.put_back-requires
put_back-requires g c =
    (below-last (length c.loop-change.items.items) c.pop.new.self.items c.in-Some.change.0 c.in-Some.change.1 (rw c.in-Some.ensures.items at c.loop-change.invariant.below)).0

pub loop-change-preserved : goal.loop-change-preserved
loop-change-preserved g c = record {
  same = rw c.put_back.ensures (sym (undone-more c.pop.new.self.items c.in-Some.change.0 c.in-Some.change.1 c.loop-change.items.items)) ∙ rw c.in-Some.ensures.items at c.loop-change.invariant.same;
  below = rw (c.put_back.ensures, length-set c.loop-change.items.items c.in-Some.change.0 c.in-Some.change.1)
      (below-last (length c.loop-change.items.items) c.pop.new.self.items c.in-Some.change.0 c.in-Some.change.1 (rw c.in-Some.ensures.items at c.loop-change.invariant.below)).1;
}
