use Rattle.qs_world_refine.proofs.ToldCame.{told_commit, told_last}
use Rattle.qs_world_refine.proofs.ForgetRead.{forget_read}
use Rattle.qs_world_refine.proofs.ToldAbort.{told_abort}
use Rattle.qs_world_refine.proofs.ToldUnknown.{told_unknown_goes}
use Rattle.qs_world_refine.proofs.rules.endings.Goals as goal

pub returns : goal.returns
returns c = record { told_commit = told_commit; told_last = told_last; told_abort = told_abort; told_unknown = told_unknown_goes; forget_read = forget_read }
