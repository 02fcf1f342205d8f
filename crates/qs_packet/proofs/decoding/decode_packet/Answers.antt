use Rattle.std.proofs.Common.{rules, Ok, Err, arith}
use Rattle.qs_packet.specs.declared.fault.PacketFault.TheVariants.{Trailing}
use Rattle.qs_packet.proofs.Decoded.{refused, trailing, answered, spelled, only}
use Rattle.qs_packet.proofs.decoding.decode_packet.Goals as goal

pub returns-in_err-packet-clause-exact : goal.returns-in_err-packet-clause-exact
returns-in_err-packet-clause-exact c =
    refused c.from_residual.result c.in_err-packet.field-0.0 c.take_packet.new.source c.args.bytes.now (search rules) (search rules)

pub returns-then-left-gt0-clause-exact : goal.returns-then-left-gt0-clause-exact
returns-then-left-gt0-clause-exact c =
    let found = c.in_ok-packet.ensures.exact in
    rw c.place.ensures (trailing c.in_ok-packet.packet c.take_packet.new.source c.args.bytes.now (search rules) (omega (arith, c.left.ensures, c.if-left-gt0.true)))

pub returns-clause-value : goal.returns-clause-value
returns-clause-value c =
    spelled c.in_ok-packet.packet c.take_packet.new.source c.args.bytes.now c.in_ok-packet.ensures.numbered (search rules) (omega (arith, c.left.ensures, c.if-left-gt0.false))

pub returns-clause-exact : goal.returns-clause-exact
returns-clause-exact c =
    answered c.in_ok-packet.packet c.take_packet.new.source c.args.bytes.now (search rules) (omega (arith, c.left.ensures, c.if-left-gt0.false))

pub returns-in_err-packet-clause-only : goal.returns-in_err-packet-clause-only
returns-in_err-packet-clause-only c = λ packet s. only c.from_residual.result c.args.bytes.now packet (returns-in_err-packet-clause-exact c) s

pub returns-then-left-gt0-clause-only : goal.returns-then-left-gt0-clause-only
returns-then-left-gt0-clause-only c = λ packet s. only (Err (Trailing c.place.result)) c.args.bytes.now packet (returns-then-left-gt0-clause-exact c) s

pub returns-clause-only : goal.returns-clause-only
returns-clause-only c = λ packet s. only (Ok c.in_ok-packet.packet) c.args.bytes.now packet (returns-clause-exact c) s
