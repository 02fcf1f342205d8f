use Rattle.qs_packet.proofs.Texts.{TextsRead}
use Rattle.qs_packet.proofs.source.Source.each_text.Given as goal

abbrev pub invariant-loop-turn : goal.invariant-loop-turn
invariant-loop-turn l = TextsRead l.limit l.count l._turn l.texts l.fn.self l.self
