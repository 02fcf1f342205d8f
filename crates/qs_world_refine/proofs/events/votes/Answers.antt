use Rattle.qs_world_refine.proofs.Answering.{answer}
use Rattle.qs_world_refine.proofs.Asking.{ask}
use Rattle.qs_world_refine.proofs.Ballots.{vote_read, vote_volatile, vote_abort}
use Rattle.qs_world_refine.proofs.EventGoes.{prepare, agree, count}
use Rattle.qs_world_refine.proofs.Taking.{ignore}
use Rattle.qs_world_refine.proofs.events.votes.Goals as goal

pub returns : goal.returns
returns c = record { ask = ask; read = vote_read; volatile = vote_volatile; against = vote_abort; prepare = prepare; agree = agree; answer = answer; count = count; ignore = ignore }
