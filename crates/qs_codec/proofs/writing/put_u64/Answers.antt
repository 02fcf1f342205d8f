use Rattle.std.proofs.Common.{rules}
use Rattle.qs_codec.proofs.WritingLemmas.{number_written}
use Rattle.qs_codec.proofs.writing.put_u64.Goals as goal

-- src/writing.rt:29:1
pub returns-clause-number : goal.returns-clause-number
returns-clause-number c = number_written c.append.result c.args.value c.to_be_bytes.result c.args.out.now c.append.new.out (search rules) c.to_be_bytes.ensures c.append.ensures.ok
