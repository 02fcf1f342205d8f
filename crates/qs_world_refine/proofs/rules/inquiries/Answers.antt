use Rattle.qs_world_refine.proofs.InquiryCame.{running, commit, past, abort}
use Rattle.qs_world_refine.proofs.InquiryUnknown.{unknown}
use Rattle.qs_world_refine.proofs.rules.inquiries.Goals as goal

pub returns : goal.returns
returns c = record { running = running; commit = commit; past = past; abort = abort; unknown = unknown }
