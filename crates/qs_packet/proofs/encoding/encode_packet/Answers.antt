use Rattle.std.proofs.Common.{rules}
use Rattle.qs_packet.proofs.Adding.{encoded}
use Rattle.qs_packet.proofs.encoding.encode_packet.Goals as goal

pub returns : goal.returns
returns c =
    encoded c.from_slice.result c.args.packet.now c.new-out.result c.add_parts.new.out c.add_message.new.out c.new-out.ensures c.requires.numbered
    c.in_ok-add_parts.ensures c.in_ok-add_message.ensures (search rules)
