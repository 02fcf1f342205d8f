use Rattle.std.proofs.Common.{rules, ◌+◌, ◌≤◌, length}
use Rattle.qs_io.proofs.StreamLemmas.{takes_more}
use Rattle.qs_io.proofs.reading.read_text.Goals as goal

-- src/reading.rt:41:9
pub returns-in_err-append-clause-bound : goal.returns-in_err-append-clause-bound
returns-in_err-append-clause-bound g c =
    let few : length c.loop-buf.text + length c.take.new.buf ≤ c.args.limit + 1 = search rules in
    takes_more (c.args.limit + 1) c.in_ok-count.count (g.S.Source.left c.args.source.now) (g.S.Source.left c.loop-buf.source) (g.S.Source.left c.take.new.self)
    c.loop-buf.text c.take.new.buf c.loop-buf.invariant.text c.in_ok-count.ensures.bytes.0 c.in_ok-count.ensures.bound.0 few
