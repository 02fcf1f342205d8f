use Rattle.std.proofs.Common.{◌≡◌, ◌∙◌, List, map, length, ap, sym, subst}
use Rattle.std.proofs.lemmas.List.{length-map}
use Rattle.std.specs.List.{refill}
use Rattle.qs_ipc.specs.declared.delivery.Delivery.{Delivery}
use Rattle.qs_ipc.specs.Queue.{IsCounted, mark_stale}
use Rattle.qs_ipc.proofs.Marking.{marked_counted}
use Rattle.qs_ipc.proofs.queue.Queue.mark_stale.Goals as goal

pub invariant_of-self : goal.invariant_of-self
invariant_of-self c =
    let mark = mark_stale c.args.peer in
    let long : length c.mark_each.new.waiting ≡ c.self.inside.waiting.len =
    ap length c.mark_each.ensures ∙ length-map c.make_contiguous.result.now mark ∙ c.make_contiguous.ensures.len in
    let marked : refill c.self.inside.waiting.len c.self.inside.waiting.items c.mark_each.new.waiting ≡ map mark c.self.inside.waiting.items =
    c.make_contiguous.ensures.writes_back c.mark_each.new.waiting long ∙ c.mark_each.ensures ∙ ap (map mark) c.make_contiguous.ensures.value in
    subst (λ (ds : List Delivery). IsCounted ds c.self.inside.counts.entries) (sym marked)
    (marked_counted c.args.peer c.self.inside.waiting.items c.self.inside.counts.entries c.self.invariant)
