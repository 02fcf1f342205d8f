use Rattle.std.proofs.Common.{rules}
use Rattle.qs_packet.proofs.Texts.{texts_taken}
use Rattle.qs_packet.proofs.source.Source.texts.Goals as goal

pub returns-clause-value : goal.returns-clause-value
returns-clause-value c =
    texts_taken c.args.limit c.in_ok-count.count c.each_text.result c.args.self.now c.word.new.self c.each_text.new.self (search rules) c.in_ok-count.ensures.value c.each_text.ensures.value
