use Rattle.qs_record.proofs.Fronts.{tid_back, member_back, nodes_back, op_back, changes_back, record_back}
use Rattle.qs_record.proofs.laws.reads_back.Goals as goal

pub returns : goal.returns
returns c = record { tid = tid_back; member = member_back; nodes = nodes_back; op = op_back; changes = changes_back; rec = record_back }
