use Rattle.std.proofs.Common.{◌∙◌, ◌≡◌, ◌++◌, [], ◌∷◌, ◌==◌, cond, Option, Some, false, List, sym, ap, subst}
use Rattle.std.specs.Map.{lookup}
use Rattle.std.specs.BTreeMap.{is_at}
use Rattle.qs_base.specs.Order.{tid_cmp}
use Rattle.qs_base.specs.declared.identifiers.Tid.{Tid}
use Rattle.qs_ipc.specs.declared.delivery.Delivery.{Delivery}
use Rattle.qs_ipc.specs.declared.queue.QueueCounts.{QueueCounts}
use Rattle.qs_ipc.specs.Queue.{QueueValue, IsCounted, is_full_at, waits_more}
use Rattle.qs_ipc.proofs.Counting.{added_counted, Replaced}
use Rattle.qs_ipc.proofs.queue.Queue.add.Goals as goal

pub invariant_of-self-2 : goal.invariant_of-self-2
invariant_of-self-2 c =
    let d = c.args.delivery in
    let old = c.self.inside.counts.entries in
    let new = c.insert.new.self.entries in
    subst (λ (xs : List Delivery). IsCounted xs new) (sym (c.push_back_reserved.ensures.items ∙ ap (λ (l : List Delivery). l ++ d ∷ []) c.reserve.ensures.items))
    (added_counted c.self.inside.waiting.items old new d c.self.invariant (ap (is_full_at d.tid) c.self.view_is ∙ c.requires)
    (subst (λ (counts : QueueCounts). Replaced old new d.tid (Some (waits_more counts))) c.counts_at-counts.ensures c.in-Ok-insert.ensures.updates.0))
