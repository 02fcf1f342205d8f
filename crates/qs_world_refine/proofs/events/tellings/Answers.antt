use Rattle.qs_world_refine.proofs.Telling.{tell_waits, tell_abort, tell_abort_waits}
use Rattle.qs_world_refine.proofs.Lasting.{acks_stay}
use Rattle.qs_world_refine.proofs.TakingTold.{take_told}
use Rattle.qs_world_refine.proofs.ForgettingRead.{forget_read}
use Rattle.qs_world_refine.proofs.events.tellings.Goals as goal

pub returns : goal.returns
returns c = record { tell_waits = tell_waits; tell_abort = tell_abort; tell_abort_waits = tell_abort_waits; take_told = take_told; acks_stay = acks_stay; forget = forget_read }
