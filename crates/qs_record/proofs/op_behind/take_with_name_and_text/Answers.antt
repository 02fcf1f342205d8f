use Rattle.qs_record.proofs.Ops.{two_taken}
use Rattle.qs_record.proofs.op_behind.take_with_name_and_text.Goals as goal

pub returns-clause-value : goal.returns-clause-value
returns-clause-value c =
    two_taken c.args.tag c.with_name_and_text.result c.in_ok-name.name c.in_ok-name.text c.args.reader.now c.take_name_and_text.new.reader
    c.with_name_and_text.ensures.fields c.with_name_and_text.ensures.changes
    (c.with_name_and_text.ensures.valid c.in_ok-name.ensures.name c.in_ok-name.ensures.text) c.in_ok-name.ensures.value
