use Rattle.std.proofs.Common.{[], ◌∷◌}
use Rattle.qs_packet.specs.Grammar.{ATag, AMember, reason_parts}
use Rattle.qs_packet.proofs.Adding.{then_added}
use Rattle.qs_packet.proofs.encoding.add_cause.Goals as goal

pub returns-in_ok-add_parts-in-Voted : goal.returns-in_ok-add_parts-in-Voted
returns-in_ok-add_parts-in-Voted c =
    let v = c.in-Voted in
    rw v.is
    (then_added c.add_reason.result (ATag 2 ∷ AMember v.member ∷ []) (reason_parts v.reason) c.args.out.now c.add_parts-in-Voted.new.out c.add_reason.new.out
    c.in_ok-add_parts-in-Voted.ensures c.add_reason.ensures)
