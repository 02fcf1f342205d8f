use Rattle.qs_record.proofs.Lengths.{tid_one, member_one, nodes_one, op_one, changes_one, record_one}
use Rattle.qs_record.proofs.laws.one_spelling.Goals as goal

pub returns : goal.returns
returns c = record { tid = tid_one; member = member_one; nodes = nodes_one; op = op_one; changes = changes_one; rec = record_one }
