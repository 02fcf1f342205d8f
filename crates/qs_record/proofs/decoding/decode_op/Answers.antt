use Rattle.qs_record.specs.Grammar.{SpellsOp}
use Rattle.qs_record.specs.Reading.{op_at}
use Rattle.qs_record.proofs.Ahead.{op_found}
use Rattle.qs_record.proofs.Fronts.{found_ahead, value_only, refused_only}
use Rattle.qs_record.proofs.decoding.decode_op.Goals as goal

pub returns-in_err-op-clause-only : goal.returns-in_err-op-clause-only
returns-in_err-op-clause-only c = λ op next.
    refused_only c.from_residual.result c.in_err-op.field-0.0 c.take_op.new.reader (op_at c.ahead-ahead.result) op c.from_residual.ensures.1 c.in_err-op.ensures.exact
    (found_ahead op_at (SpellsOp op) op c.args.reader.now c.ahead-ahead.result (op_found op) c.ahead-ahead.ensures next)

pub returns-clause-only : goal.returns-clause-only
returns-clause-only c = λ op next.
    value_only (op_at c.ahead-ahead.result) c.in_ok-op.op op c.take_op.new.reader c.in_ok-op.ensures.exact
    (found_ahead op_at (SpellsOp op) op c.args.reader.now c.ahead-ahead.result (op_found op) c.ahead-ahead.ensures next)
