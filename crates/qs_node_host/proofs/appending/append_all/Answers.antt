use Rattle.std.proofs.Common.{◌∙◌, Err, ap, subst, sym}
use Rattle.qs_base_map.proofs.Loops.{one_more}
use Rattle.qs_node_host.specs.Host.{with_record}
use Rattle.qs_node_host.specs.Roomy.{IsFullFor}
use Rattle.qs_node_host.proofs.Carrying.{unended_one_more, unended_same}
use Rattle.qs_node_host.proofs.Rooms.{err_gives, lacks_at}
use Rattle.qs_node_host.proofs.appending.append_all.Goals as goal

pub loop-rec-preserved : goal.loop-rec-preserved
loop-rec-preserved g c = record {
  log = one_more with_record c.args.log.now c.args.records.now c.loop-rec.rec-index c.rec-item.result c.loop-rec-test.true c.loop-rec.log c.append.new.log c.loop-rec.invariant.log
      (c.in_ok-append.ensures.log ∙ ap (with_record c.loop-rec.log) c.rec-item.is);
  unended = λ before. unended_one_more c.loop-rec.log c.append.new.log c.rec-item.result c.loop-rec.unended c.append.new.unended
      c.in_ok-append.ensures.log c.in_ok-append.ensures.unended (c.loop-rec.invariant.unended before);
  disk = c.append.ensures.disk ∙ c.loop-rec.invariant.disk;
  stands = λ told before. c.append.ensures.stands told (c.loop-rec.invariant.stands told before);
}

pub returns-in_err-append-clause-stands : goal.returns-in_err-append-clause-stands
returns-in_err-append-clause-stands g c = λ told before. c.append.ensures.stands told (c.loop-rec.invariant.stands told before)

pub returns-in_err-append-clause-unended : goal.returns-in_err-append-clause-unended
returns-in_err-append-clause-unended g c = λ before. unended_same c.loop-rec.log c.append.new.log c.loop-rec.unended c.append.new.unended
    c.in_err-append.ensures.log_stays c.in_err-append.ensures.unended_stays (c.loop-rec.invariant.unended before)

pub returns-in_err-append-clause-full : goal.returns-in_err-append-clause-full
returns-in_err-append-clause-full g c = λ told.
    lacks_at (g.D.Disk.byte_count c.args.log.now.disk) c.args.log.now c.loop-rec.log c.args.records.now c.loop-rec.rec-index c.rec-item.result _ c.loop-rec-test.true
    c.loop-rec.invariant.log c.rec-item.is
    (subst (λ disk. IsFullFor (g.D.Disk.byte_count disk) c.loop-rec.log c.rec-item.result) c.loop-rec.invariant.disk (c.append.ensures.full (c.in_err-append.was ∙ ap Err (sym (err_gives c.from_residual.result _ _ told c.from_residual.ensures.1)))))
