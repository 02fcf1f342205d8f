use Rattle.std.proofs.Common.{arith, string_bytes}
use Rattle.qs_gen.proofs.HexLemmas.{written_eight}
use Rattle.qs_gen.proofs.lines.hex_text.Goals as goal

pub returns : goal.returns
returns c =
    written_eight c.format.result (λ s. string_bytes s) c.args.word (omega arith) (rw (c.laid_out.ensures, c.in_radix.ensures) at c.format.ensures.ok)
