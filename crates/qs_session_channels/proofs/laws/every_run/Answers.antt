use Rattle.qs_session_channels.specs.Network.{start}
use Rattle.qs_session_channels.specs.Channels.{opening}
use Rattle.qs_session_channels.proofs.RunShown.{runs, start_shown}
use Rattle.qs_session_channels.proofs.laws.every_run.Goals as goal

pub returns-clause-runs : goal.returns-clause-runs
returns-clause-runs g c = λ hello inc es w run. runs hello es (start inc) w (opening inc) (start_shown inc) run

pub returns-clause-ordered : goal.returns-clause-ordered
returns-clause-ordered g c = λ w c r n m i j. (_, (r.between n m).prefix i j)
