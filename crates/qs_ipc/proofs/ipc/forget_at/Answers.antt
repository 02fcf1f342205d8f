use Rattle.std.specs.BTreeMap.{is_at}
use Rattle.qs_ipc.specs.Ipc.{server_cmp}
use Rattle.qs_ipc.proofs.Forgetting.{quiet_at}
use Rattle.qs_ipc.proofs.ipc.forget_at.Goals as goal

pub forget-requires : goal.forget-requires
forget-requires c = quiet_at (is_at (server_cmp c.args.server)) c.args.tid c.args.queues.now.entries c.in-Some.queue.now c.in-Some.ensures.value c.requires
