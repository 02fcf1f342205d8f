use Rattle.qs_session_settling.proofs.Leaving.{run_leaves, run_settles}
use Rattle.qs_session_settling.proofs.laws.runs_settle.Goals as goal

pub returns-clause-leaves : goal.returns-clause-leaves
returns-clause-leaves g c = run_leaves

pub returns-clause-settles : goal.returns-clause-settles
returns-clause-settles g c = run_settles
