use Rattle.std.proofs.Common.{refl, sym}
use Rattle.qs_node_work.proofs.Quiet.{none_taken}
use Rattle.qs_node_work.proofs.serving.serve_next.Goals as goal

pub returns-in-None-clause-ok : goal.returns-in-None-clause-ok
returns-in-None-clause-ok g c =
    let none = sym c.in-None.ensures.answer in
    rw (none, c.in-None.ensures.state, none_taken c.args.server c.args.work.now.node.queues none) refl
