use Rattle.qs_world_runs.proofs.AgreesPasses.{passes_agree, waits_agree}
use Rattle.qs_world_runs.proofs.AgreesWhole.{event_agrees}
use Rattle.qs_world_runs.proofs.joined_agrees.steps_agree.Goals as goal

pub returns : goal.returns
returns c = record { events = event_agrees; passes = passes_agree; waits = waits_agree }
