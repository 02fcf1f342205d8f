-- Each vote that a step puts on record is of what its server had pending for the transaction as the step began.
use Rattle.std.specs.Prelude.{◌≡◌, ⊤, ℕ}
use Rattle.qs_ops.specs.Server.{changes_in}
use Rattle.qs_record.specs.declared.record.Record.{Record}
use Rattle.qs_record.specs.declared.record.Record.TheVariants as records
use Rattle.qs_node_servers.specs.Servers.{server_at}
use Rattle.qs_node_step.specs.State.{NodeValue}
use Rattle.qs_node_step.specs.Step.{effects_of}
use Rattle.qs_node_step.specs.declared.event.Event.{Event}
use Rattle.qs_world.specs.Moves.{Source}
use Rattle.qs_world.specs.World.{Opening, World}
use Rattle.qs_world_lawful.specs.Logs.{Every}
use Rattle.qs_world_runs.specs.Agrees.{MakesStep}
use Rattle.qs_world_runs.specs.Joined.{Joined}

abbrev pub IsVoteSame : NodeValue → Record → Type 0
IsVoteSame node (records.Prepare tid server covers changes) = changes ≡ changes_in (server_at node.servers server) tid
IsVoteSame node rec = ⊤

abbrev pub EachVoteSame : (Opening → World → Type 0) → Type 0
EachVoteSame P = (o : Opening) (world : World) (n stamp free : ℕ) (source : Source) (event : Event) → Joined P o world → MakesStep world n stamp source event
    → Every (IsVoteSame (world.hosts n).node) (effects_of (world.hosts n).node event free).records
