use Rattle.qs_world_refine.proofs.Inquired.{answer_running, answer_commit, answer_abort}
use Rattle.qs_world_refine.proofs.Inquiring.{inquire, inquire_waits}
use Rattle.qs_world_refine.proofs.TakingNames.{take_name}
use Rattle.qs_world_refine.proofs.events.inquiries.Goals as goal

pub returns : goal.returns
returns c = record { inquire = inquire; inquire_waits = inquire_waits; running = answer_running; commit = answer_commit; abort = answer_abort; take_name = take_name }
