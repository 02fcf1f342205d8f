use Rattle.std.proofs.Common.{refl}
use Rattle.qs_session_channels.proofs.Streaming.{streams, still_direct, next_of}
use Rattle.qs_session_channels.proofs.laws.streams.Goals as goal

pub returns-clause-opening : goal.returns-clause-opening
returns-clause-opening g c = λ is inc n m. refl

pub returns-clause-direct : goal.returns-clause-direct
returns-clause-direct g c = still_direct

pub returns-clause-appends : goal.returns-clause-appends
returns-clause-appends g c = streams

pub returns-clause-next : goal.returns-clause-next
returns-clause-next g c = next_of
