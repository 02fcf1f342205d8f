use Rattle.std.proofs.Common.{refl}
use Rattle.qs_node_host.specs.Host.{forced_if}
use Rattle.qs_node_host.proofs.Carrying.{forced_moments, some_waits, unwritten, unwritten_header}
use Rattle.qs_node_host.proofs.appending.force_if.Goals as goal

pub returns-then-due-clause-moments : goal.returns-then-due-clause-moments
returns-then-due-clause-moments g c = λ told. forced_moments c.args.due c.args.log.now _ _ c.if-due.true (c.force.ensures.moments told)

pub returns-clause-moments : goal.returns-clause-moments
returns-clause-moments g c = λ told. let s = (g.D.Disk.state c.args.log.now.disk) in unwritten c.args.log.now (forced_if c.args.due c.args.log.now) s s refl (c.requires.stands told)

pub returns-then-due-clause-some : goal.returns-then-due-clause-some
returns-then-due-clause-some g c = some_waits c.args.log.now _ c.force.result c.force.ensures.idle

pub returns-clause-header : goal.returns-clause-header
returns-clause-header g c = λ told. let s = (g.D.Disk.state c.args.log.now.disk) in unwritten_header s s refl (c.requires.stands told).still
