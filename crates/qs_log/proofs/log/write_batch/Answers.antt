use Rattle.std.proofs.Common.{◌≡◌, length, arith}
use Rattle.qs_log.specs.Log.{waiting_length}
use Rattle.qs_log.proofs.Forcing.{first, header_first, header_second, second, settled, sealed_long, on_ok_both}
use Rattle.qs_log.proofs.log.write_batch.Goals as goal

pub write_behind-requires-clause-in_range : goal.write_behind-requires-clause-in_range
write_behind-requires-clause-in_range g c =
    let long : length c.seal.result.now ≡ waiting_length c.args.batch.now = sealed_long c.args.batch.now c.seal.result.now c.requires.some c.seal.ensures.bytes in omega arith

pub returns-in_err-write_behind-clause-moments : goal.returns-in_err-write_behind-clause-moments
returns-in_err-write_behind-clause-moments g c = λ told log ready.
    first log c.args.batch.now _ c.args.gate c.seal.result.now (g.D.Disk.state c.args.disk.now) (g.D.Disk.state c.write_behind.new.disk) (g.D.Disk.state c.write_behind.new.disk)
    ready c.seal.ensures.bytes (c.write_behind.ensures.moments told)

pub returns-clause-moments : goal.returns-clause-moments
returns-clause-moments g c = λ told log ready.
    second log c.args.batch.now _ c.args.gate c.seal.result.now (g.D.Disk.state c.args.disk.now) (g.D.Disk.state c.write_behind.new.disk) (g.D.Disk.state c.open_gate.new.disk)
    ready c.seal.ensures.bytes (c.in_ok-write_behind.ensures.written told) (c.write_behind.ensures.moments told) (c.open_gate.ensures.moments told)

pub returns-clause-stands : goal.returns-clause-stands
returns-clause-stands g c = λ told log ready.
    on_ok_both c.open_gate.result
    (settled log c.args.batch.now _ c.args.gate c.seal.result.now (g.D.Disk.state c.args.disk.now) (g.D.Disk.state c.write_behind.new.disk) (g.D.Disk.state c.open_gate.new.disk)
    ready c.seal.ensures.bytes (c.in_ok-write_behind.ensures.written told))
    (c.open_gate.ensures.written told) (c.open_gate.ensures.still told)

pub returns-in_err-write_behind-clause-header : goal.returns-in_err-write_behind-clause-header
returns-in_err-write_behind-clause-header g c = λ told behind.
    header_first c.args.gate c.seal.result.now (g.D.Disk.state c.args.disk.now) (g.D.Disk.state c.write_behind.new.disk) (g.D.Disk.state c.write_behind.new.disk) behind
    (c.write_behind.ensures.moments told)

pub returns-clause-header : goal.returns-clause-header
returns-clause-header g c = λ told behind.
    let long : length c.seal.result.now ≡ waiting_length c.args.batch.now = sealed_long c.args.batch.now c.seal.result.now c.requires.some c.seal.ensures.bytes in
    header_second c.args.gate c.seal.result.now (g.D.Disk.state c.args.disk.now) (g.D.Disk.state c.write_behind.new.disk) (g.D.Disk.state c.open_gate.new.disk) behind
    (omega (arith, long, c.requires.in_range, g.met.D.Disk.sized c.args.disk.now told)) (c.in_ok-write_behind.ensures.written told) (c.write_behind.ensures.moments told) (c.open_gate.ensures.moments told)
