use Rattle.std.proofs.Common.{List, sym, subst}
use Rattle.qs_base.specs.declared.identifiers.Tid.{Tid}
use Rattle.qs_ipc.specs.declared.queue.QueueCounts.{QueueCounts}
use Rattle.qs_ipc.specs.Queue.{IsCounted}
use Rattle.qs_ipc.proofs.Counting.{served_counted}
use Rattle.qs_ipc.proofs.queue.Queue.take.Goals as goal

pub invariant_of-self-2 : goal.invariant_of-self-2
invariant_of-self-2 c =
    let rest = c.pop_front.new.self.items in
    let old = c.self.inside.counts.entries in
    subst (λ (es : List (Tid × QueueCounts)). IsCounted rest es) (sym c.serve_one.ensures)
    (served_counted c.in_ok-delivery.delivery rest old (subst (λ xs. IsCounted xs old) c.in_ok-delivery.ensures.items c.self.invariant))
