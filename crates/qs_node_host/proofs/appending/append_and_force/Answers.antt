use Rattle.std.proofs.Common.{ap}
use Rattle.qs_node_host.specs.Host.{log_after}
use Rattle.qs_node_host.proofs.Carrying.{unwritten, unwritten_header, appended_as, unended_forced, after_is, after_moments, header_moments, batch_waits}
use Rattle.qs_node_host.proofs.appending.append_and_force.Goals as goal

pub returns-in_err-append_all-clause-moments : goal.returns-in_err-append_all-clause-moments
returns-in_err-append_all-clause-moments g c = λ told.
    unwritten c.args.log.now (log_after c.args.out.now c.args.log.now) (g.D.Disk.state c.args.log.now.disk) (g.D.Disk.state c.append_all.new.log.disk)
    (ap g.D.Disk.state c.append_all.ensures.disk) (c.requires.stands told)

pub force_if-requires : goal.force_if-requires
force_if-requires g c = record { stands = λ told. c.append_all.ensures.stands told (c.requires.stands told) }

pub returns-in_err-force_if-clause-moments : goal.returns-in_err-force_if-clause-moments
returns-in_err-force_if-clause-moments g c = λ told.
    after_moments c.args.out.now c.args.log.now c.append_all.new.log (g.D.Disk.state c.args.log.now.disk) (g.D.Disk.state c.append_all.new.log.disk)
    (g.D.Disk.state c.force_if.new.log.disk) (appended_as c.args.log.now c.append_all.new.log c.as_slice.result.now _ c.as_slice.ensures c.in_ok-append_all.ensures.log)
    (ap g.D.Disk.state c.append_all.ensures.disk) (c.force_if.ensures.moments told)

pub returns-clause-moments : goal.returns-clause-moments
returns-clause-moments g c = λ told.
    after_moments c.args.out.now c.args.log.now c.append_all.new.log (g.D.Disk.state c.args.log.now.disk) (g.D.Disk.state c.append_all.new.log.disk)
    (g.D.Disk.state c.force_if.new.log.disk) (appended_as c.args.log.now c.append_all.new.log c.as_slice.result.now _ c.as_slice.ensures c.in_ok-append_all.ensures.log)
    (ap g.D.Disk.state c.append_all.ensures.disk) (c.force_if.ensures.moments told)

pub returns-clause-log : goal.returns-clause-log
returns-clause-log g c = after_is c.args.out.now c.args.log.now c.append_all.new.log c.force_if.new.log
    (appended_as c.args.log.now c.append_all.new.log c.as_slice.result.now _ c.as_slice.ensures c.in_ok-append_all.ensures.log) c.in_ok-force_if.ensures.log

pub returns-in_err-force_if-clause-unended : goal.returns-in_err-force_if-clause-unended
returns-in_err-force_if-clause-unended g c = λ before.
    unended_forced c.append_all.new.log c.force_if.new.log c.append_all.new.unended c.force_if.ensures.records (c.append_all.ensures.unended before)

pub returns-clause-unended : goal.returns-clause-unended
returns-clause-unended g c = λ before.
    unended_forced c.append_all.new.log c.force_if.new.log c.append_all.new.unended c.force_if.ensures.records (c.append_all.ensures.unended before)

pub returns-in_err-force_if-clause-batch : goal.returns-in_err-force_if-clause-batch
returns-in_err-force_if-clause-batch g c = λ _.
    batch_waits c.args.out.now c.args.log.now c.append_all.new.log
    (appended_as c.args.log.now c.append_all.new.log c.as_slice.result.now _ c.as_slice.ensures c.in_ok-append_all.ensures.log)
    c.in_err-force_if.ensures.due c.in_err-force_if.ensures.some

pub returns-in_err-append_all-clause-header : goal.returns-in_err-append_all-clause-header
returns-in_err-append_all-clause-header g c = λ told.
    unwritten_header (g.D.Disk.state c.args.log.now.disk) (g.D.Disk.state c.append_all.new.log.disk) (ap g.D.Disk.state c.append_all.ensures.disk) (c.requires.stands told).still

pub returns-in_err-force_if-clause-header : goal.returns-in_err-force_if-clause-header
returns-in_err-force_if-clause-header g c = λ told.
    header_moments (g.D.Disk.state c.args.log.now.disk) (g.D.Disk.state c.append_all.new.log.disk) (g.D.Disk.state c.force_if.new.log.disk)
    (ap g.D.Disk.state c.append_all.ensures.disk) (c.force_if.ensures.header told)

pub returns-clause-header : goal.returns-clause-header
returns-clause-header g c = λ told.
    header_moments (g.D.Disk.state c.args.log.now.disk) (g.D.Disk.state c.append_all.new.log.disk) (g.D.Disk.state c.force_if.new.log.disk)
    (ap g.D.Disk.state c.append_all.ensures.disk) (c.force_if.ensures.header told)
