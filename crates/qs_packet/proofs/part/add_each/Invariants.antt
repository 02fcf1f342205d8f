use Rattle.std.proofs.Common.{take, map}
use Rattle.qs_codec.specs.Grammar.{Text}
use Rattle.qs_record.specs.Grammar.{SpellsAll}
use Rattle.qs_record.specs.Writing.{Adds}
use Rattle.qs_packet.proofs.part.add_each.Given as goal

abbrev pub invariant-loop-text : goal.invariant-loop-text
invariant-loop-text l = Adds (SpellsAll (map Text (take l.text-index l.texts))) l.fn.out l.out
