use Rattle.qs_record.specs.Grammar.{SpellsRecord}
use Rattle.qs_record.specs.Reading.{record_at}
use Rattle.qs_record.proofs.Ahead.{record_found}
use Rattle.qs_record.proofs.Fronts.{found_ahead, value_only, refused_only}
use Rattle.qs_record.proofs.decoding.decode.Goals as goal

pub returns-in_err-rec-clause-only : goal.returns-in_err-rec-clause-only
returns-in_err-rec-clause-only c = λ rec next.
    refused_only c.from_residual.result c.in_err-rec.field-0.0 c.take_record.new.reader (record_at c.ahead-ahead.result) rec c.from_residual.ensures.1 c.in_err-rec.ensures.exact
    (found_ahead record_at (SpellsRecord rec) rec c.args.reader.now c.ahead-ahead.result (record_found rec) c.ahead-ahead.ensures next)

pub returns-clause-only : goal.returns-clause-only
returns-clause-only c = λ rec next.
    value_only (record_at c.ahead-ahead.result) c.in_ok-rec.rec rec c.take_record.new.reader c.in_ok-rec.ensures.exact
    (found_ahead record_at (SpellsRecord rec) rec c.args.reader.now c.ahead-ahead.result (record_found rec) c.ahead-ahead.ensures next)
