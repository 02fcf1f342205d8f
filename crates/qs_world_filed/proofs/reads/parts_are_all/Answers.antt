use Rattle.qs_world_filed.proofs.PartsAll.{filed_are_these}
use Rattle.qs_world_filed.proofs.reads.parts_are_all.Goals as goal

pub returns : goal.returns
returns c = filed_are_these
