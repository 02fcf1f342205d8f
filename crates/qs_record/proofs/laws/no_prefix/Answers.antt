use Rattle.qs_record.proofs.Fronts.{tid_front, member_front, nodes_front, op_front, changes_front, record_front}
use Rattle.qs_record.proofs.laws.no_prefix.Goals as goal

pub returns : goal.returns
returns c = record { tid = tid_front; member = member_front; nodes = nodes_front; op = op_front; changes = changes_front; rec = record_front }
