use Rattle.qs_record.specs.Grammar.{SpellsNodes}
use Rattle.qs_record.specs.Reading.{nodes_at}
use Rattle.qs_record.proofs.Ahead.{nodes_found}
use Rattle.qs_record.proofs.Fronts.{found_ahead, value_only, refused_only}
use Rattle.qs_record.proofs.reading.read_nodes.Goals as goal

pub returns-in_err-nodes-clause-only : goal.returns-in_err-nodes-clause-only
returns-in_err-nodes-clause-only c = λ nodes next.
    refused_only c.from_residual.result c.in_err-nodes.field-0.0 c.take_nodes.new.reader (nodes_at c.ahead-ahead.result) nodes c.from_residual.ensures.1 c.in_err-nodes.ensures.exact
    (found_ahead nodes_at (SpellsNodes nodes) nodes c.args.reader.now c.ahead-ahead.result (nodes_found nodes) c.ahead-ahead.ensures next)

pub returns-clause-only : goal.returns-clause-only
returns-clause-only c = λ nodes next.
    value_only (nodes_at c.ahead-ahead.result) c.in_ok-nodes.nodes nodes c.take_nodes.new.reader c.in_ok-nodes.ensures.exact
    (found_ahead nodes_at (SpellsNodes nodes) nodes c.args.reader.now c.ahead-ahead.result (nodes_found nodes) c.ahead-ahead.ensures next)
