use Rattle.qs_world_filed.proofs.Judged.{filed_by_setting}
use Rattle.qs_world_filed.proofs.Leaves.{entries_leave}
use Rattle.qs_world_filed.proofs.reads.entries_leave_the_setting.Goals as goal

pub returns : goal.returns
returns c = record { leaves = entries_leave; judged = filed_by_setting }
