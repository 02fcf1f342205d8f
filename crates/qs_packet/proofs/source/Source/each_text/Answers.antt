use Rattle.std.proofs.Common.{rules}
use Rattle.qs_packet.proofs.Texts.{texts_on}
use Rattle.qs_packet.proofs.source.Source.each_text.Goals as goal

pub loop-turn-preserved : goal.loop-turn-preserved
loop-turn-preserved c =
    rw c.in_ok-push.ensures.ok
    (texts_on c.args.limit c.args.count c.loop-turn._turn c.in_ok-text.field-0 c.loop-turn.texts c.args.self.now c.loop-turn.self c.text.new.self
    (search rules) c.loop-turn.invariant c.in_ok-text.ensures.exact c.in_ok-text.ensures.value)
