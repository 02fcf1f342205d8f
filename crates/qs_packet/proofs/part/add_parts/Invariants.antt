use Rattle.std.proofs.Common.{take, map}
use Rattle.qs_packet.specs.Grammar.{SpellsParts}
use Rattle.qs_packet.specs.Writing.{seen}
use Rattle.qs_record.specs.Writing.{Adds}
use Rattle.qs_packet.proofs.part.add_parts.Given as goal

abbrev pub invariant-loop-part : goal.invariant-loop-part
invariant-loop-part l = Adds (SpellsParts (map seen (take l.part-index l.parts))) l.fn.out l.out
