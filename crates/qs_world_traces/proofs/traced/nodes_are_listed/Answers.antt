use Rattle.qs_world_traces.proofs.AreListed.{each_journal_listed, each_trace_listed}
use Rattle.qs_world_traces.proofs.traced.nodes_are_listed.Goals as goal

pub returns : goal.returns
returns c = record { journals = each_journal_listed; traces = each_trace_listed }
