use Rattle.std.proofs.Common.{◌∙◌, ap, sym, slice_set}
use Rattle.std.proofs.lemmas.List.Edits.{map_over_more}
use Rattle.qs_ipc.specs.Queue.{mark_stale}
use Rattle.qs_ipc.proofs.queue.mark_each.Goals as goal

pub loop-delivery-preserved : goal.loop-delivery-preserved
loop-delivery-preserved c =
    ap (slice_set c.loop-delivery.waiting c.loop-delivery.delivery-index) (c.mark.ensures ∙ ap (mark_stale c.args.peer) (sym c.delivery-item.is))
    ∙ map_over_more (mark_stale c.args.peer) c.args.waiting.now c.loop-delivery.waiting c.loop-delivery.delivery-index c.delivery-item.result
    c.loop-delivery-test.true c.loop-delivery.invariant c.delivery-item.is
