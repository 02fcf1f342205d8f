use Rattle.qs_record.proofs.Lengths.{tid_long, member_long, nodes_long, op_long, changes_long, record_long}
use Rattle.qs_record.proofs.laws.spelled_length.Goals as goal

pub returns : goal.returns
returns c = record { tid = tid_long; member = member_long; nodes = nodes_long; op = op_long; changes = changes_long; rec = record_long }
