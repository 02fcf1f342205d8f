use Rattle.std.proofs.Common.{◌∙◌, ap, rules}
use Rattle.qs_codec.specs.Grammar.{big_endian}
use Rattle.qs_slot.proofs.BodyLemmas.{long_of}
use Rattle.qs_slot.proofs.found.long_at.Goals as goal

pub returns : goal.returns
returns c = c.from_be_bytes.ensures ∙ long_of c.part_at-part.result.now (search rules) ∙ ap big_endian c.part_at-part.ensures.exact
