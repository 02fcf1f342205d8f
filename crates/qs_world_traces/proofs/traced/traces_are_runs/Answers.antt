use Rattle.qs_world_traces.proofs.TracesRun.{each_traced}
use Rattle.qs_world_traces.proofs.traced.traces_are_runs.Goals as goal

pub returns : goal.returns
returns c = each_traced
