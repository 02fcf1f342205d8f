use Rattle.std.proofs.Common.{[], ◌∷◌}
use Rattle.qs_packet.specs.Grammar.{ATag, ATid, AMember, AWord, reply_parts, cause_parts}
use Rattle.qs_packet.proofs.Adding.{then_added}
use Rattle.qs_packet.proofs.encoding.add_message.Goals as goal

pub returns-in_ok-add_parts-in-Answered : goal.returns-in_ok-add_parts-in-Answered
returns-in_ok-add_parts-in-Answered c =
    let m = c.in-Answered in
    rw m.is
    (then_added c.add_reply.result (ATag 2 ∷ ATid m.tid ∷ AMember m.member ∷ AWord m.number ∷ []) (reply_parts m.reply) c.args.out.now c.add_parts-in-Answered.new.out c.add_reply.new.out
    c.in_ok-add_parts-in-Answered.ensures c.add_reply.ensures)

pub returns-in_ok-add_parts-in-VotedAbort : goal.returns-in_ok-add_parts-in-VotedAbort
returns-in_ok-add_parts-in-VotedAbort c =
    let m = c.in-VotedAbort in
    rw m.is
    (then_added c.add_cause.result (ATag 6 ∷ ATid m.tid ∷ []) (cause_parts m.cause) c.args.out.now c.add_parts-in-VotedAbort.new.out c.add_cause.new.out
    c.in_ok-add_parts-in-VotedAbort.ensures c.add_cause.ensures)
