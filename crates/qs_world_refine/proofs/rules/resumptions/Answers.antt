use Rattle.qs_world_refine.proofs.InquireSent.{resume_doubt}
use Rattle.qs_world_refine.proofs.Resuming.{resume_commit, resume_abort}
use Rattle.qs_world_refine.proofs.rules.resumptions.Goals as goal

pub returns : goal.returns
returns c = record { commit = resume_commit; abort = resume_abort; doubt = resume_doubt }
