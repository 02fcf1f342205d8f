use Rattle.std.proofs.Common.{Ok, ap}
use Rattle.qs_record.specs.Grammar.{SpellsTid}
use Rattle.qs_record.specs.Reading.{tid_at}
use Rattle.qs_record.proofs.Ahead.{tid_found}
use Rattle.qs_record.proofs.Fronts.{found_ahead, value_only, fault_only}
use Rattle.qs_record.proofs.reading.read_tid.Goals as goal

pub returns-in_err-tid-clause-only : goal.returns-in_err-tid-clause-only
returns-in_err-tid-clause-only c = λ tid next.
    absurd (fault_only (tid_at c.ahead-ahead.result) c.in_err-tid.field-0.0 tid c.in_err-tid.ensures.exact
    (found_ahead tid_at (SpellsTid tid) tid c.args.reader.now c.ahead-ahead.result (tid_found tid) c.ahead-ahead.ensures next))

pub returns-clause-only : goal.returns-clause-only
returns-clause-only c = λ tid next.
    ap Ok (value_only (tid_at c.ahead-ahead.result) c.in_ok-tid.tid tid c.take_tid.new.reader c.in_ok-tid.ensures.exact
    (found_ahead tid_at (SpellsTid tid) tid c.args.reader.now c.ahead-ahead.result (tid_found tid) c.ahead-ahead.ensures next))
