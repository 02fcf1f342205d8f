use Rattle.std.proofs.Common.{◌∙◌, ap}
use Rattle.qs_ipc.specs.Queue.{waits_at}
use Rattle.qs_ipc.proofs.Counting.{forgotten_counted}
use Rattle.qs_ipc.proofs.queue.Queue.forget.Goals as goal

pub invariant_of-self : goal.invariant_of-self
invariant_of-self c =
    forgotten_counted c.self.inside.waiting.items c.self.inside.counts.entries c.remove.new.self.entries c.args.tid c.self.invariant (ap (waits_at c.args.tid) c.self.view_is ∙ c.requires) c.remove.ensures.updates.0
