use Rattle.qs_session_settling.proofs.GoingOn.{goes_on}
use Rattle.qs_session_settling.proofs.Delivering.{delivers, run_delivers}
use Rattle.qs_session_settling.proofs.laws.runs_deliver.Goals as goal

pub returns-clause-goes : goal.returns-clause-goes
returns-clause-goes g c = goes_on

pub returns-clause-delivers : goal.returns-clause-delivers
returns-clause-delivers g c = delivers

pub returns-clause-whole : goal.returns-clause-whole
returns-clause-whole g c = run_delivers
