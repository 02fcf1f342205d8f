use Rattle.std.proofs.Common.{◌∙◌, Err, ap, sym}
use Rattle.qs_node_host.proofs.Carrying.{host_header, host_moments, host_with}
use Rattle.qs_node_host.proofs.Rooms.{err_gives, host_finds, host_lacks, host_left, host_stays}
use Rattle.qs_node_host.proofs.host.Host.carry_out.Goals as goal

pub returns-in_err-log_out-clause-moments : goal.returns-in_err-log_out-clause-moments
returns-in_err-log_out-clause-moments g c = λ told.
    host_moments c.args.out.now c.args.self.now c.self.inside.node c.deref_mut.result.now.log g.D.Disk.state (g.D.Disk.state c.log_out.new.logged.log.disk)
    (ap (λ logged. host_with c.self.inside.node logged.log) c.deref_mut.ensures.value ∙ c.self.view_is) (c.log_out.ensures.moments told)

pub returns-clause-moments : goal.returns-clause-moments
returns-clause-moments g c = λ told.
    host_moments c.args.out.now c.args.self.now c.self.inside.node c.deref_mut.result.now.log g.D.Disk.state (g.D.Disk.state c.log_out.new.logged.log.disk)
    (ap (λ logged. host_with c.self.inside.node logged.log) c.deref_mut.ensures.value ∙ c.self.view_is) (c.log_out.ensures.moments told)

pub returns-in_err-log_out-clause-left : goal.returns-in_err-log_out-clause-left
returns-in_err-log_out-clause-left g c = λ told keep worked.
    host_left keep g.D.Disk.byte_count c.args.out.now c.args.self.now c.self.inside.node c.deref_mut.result.now.log
    (ap (λ logged. host_with c.self.inside.node logged.log) c.deref_mut.ensures.value ∙ c.self.view_is)
    g.D.Disk.state (g.D.Disk.state c.log_out.new.logged.log.disk) (c.log_out.ensures.moments told) worked

pub returns-clause-left : goal.returns-clause-left
returns-clause-left g c = λ told keep worked.
    host_left keep g.D.Disk.byte_count c.args.out.now c.args.self.now c.self.inside.node c.deref_mut.result.now.log
    (ap (λ logged. host_with c.self.inside.node logged.log) c.deref_mut.ensures.value ∙ c.self.view_is)
    g.D.Disk.state (g.D.Disk.state c.log_out.new.logged.log.disk) (c.log_out.ensures.moments told) worked

pub returns-in_err-log_out-clause-full : goal.returns-in_err-log_out-clause-full
returns-in_err-log_out-clause-full g c = λ told.
    host_lacks 0 g.D.Disk.byte_count c.args.out.now c.args.self.now c.self.inside.node c.deref_mut.result.now.log
    (ap (λ logged. host_with c.self.inside.node logged.log) c.deref_mut.ensures.value ∙ c.self.view_is) (c.log_out.ensures.full (c.in_err-log_out.was ∙ ap Err (sym (err_gives c.from_residual.result _ _ told c.from_residual.ensures.1))))

pub returns-in_err-log_out-clause-room : goal.returns-in_err-log_out-clause-room
returns-in_err-log_out-clause-room g c = λ keep worked told.
    host_finds keep g.D.Disk.byte_count c.args.out.now c.args.self.now c.self.inside.node c.deref_mut.result.now.log
    (ap (λ logged. host_with c.self.inside.node logged.log) c.deref_mut.ensures.value ∙ c.self.view_is) worked (c.log_out.ensures.full (c.in_err-log_out.was ∙ ap Err (sym (err_gives c.from_residual.result _ _ told c.from_residual.ensures.1))))

pub returns-clause-roomy : goal.returns-clause-roomy
returns-clause-roomy g c = λ keep worked.
    host_stays keep g.D.Disk.byte_count c.args.out.now c.args.self.now c.self.inside.node c.deref_mut.result.now.log
    (ap (λ logged. host_with c.self.inside.node logged.log) c.deref_mut.ensures.value ∙ c.self.view_is) c.accept.new.self c.log_out.new.logged.log c.accept.ensures
    c.in_ok-log_out.ensures.log worked

pub returns-in_err-log_out-clause-header : goal.returns-in_err-log_out-clause-header
returns-in_err-log_out-clause-header g c = λ told.
    host_header c.args.self.now c.self.inside.node c.deref_mut.result.now.log g.D.Disk.state (g.D.Disk.state c.log_out.new.logged.log.disk)
    (ap (λ logged. host_with c.self.inside.node logged.log) c.deref_mut.ensures.value ∙ c.self.view_is) (c.log_out.ensures.header told)

pub returns-clause-header : goal.returns-clause-header
returns-clause-header g c = λ told.
    host_header c.args.self.now c.self.inside.node c.deref_mut.result.now.log g.D.Disk.state (g.D.Disk.state c.log_out.new.logged.log.disk)
    (ap (λ logged. host_with c.self.inside.node logged.log) c.deref_mut.ensures.value ∙ c.self.view_is) (c.log_out.ensures.header told)
