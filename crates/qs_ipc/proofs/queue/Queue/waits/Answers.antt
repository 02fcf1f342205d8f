use Rattle.std.proofs.Common.{◌∙◌, ap}
use Rattle.std.specs.Prelude.{nat_lt}
use Rattle.qs_ipc.specs.declared.queue.QueueCounts.{QueueCounts}
use Rattle.qs_ipc.specs.Queue.{waits_at}
use Rattle.qs_ipc.proofs.Counting.{some_wait}
use Rattle.qs_ipc.proofs.queue.Queue.waits.Goals as goal

pub returns : goal.returns
returns c =
    ap (λ (counts : QueueCounts). nat_lt 0 counts.waiting) c.counts_at.ensures ∙ ap (nat_lt 0) (c.self.invariant.waits c.args.tid)
    ∙ some_wait c.args.tid c.self.inside.waiting.items ∙ ap (waits_at c.args.tid) c.self.view_is
