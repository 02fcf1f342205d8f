-- What goes on along a run beside what its machines and nodes have together: each law of a step takes what it needs of it.
use Rattle.qs_world.specs.World.{Opening, World}
use Rattle.qs_world_runs.specs.Awaiting.{AwaitedAt}
use Rattle.qs_world_runs.specs.Counted.{CountedAt}
use Rattle.qs_world_runs.specs.RecordLaws.{CoversAt, RecordsAt}
use Rattle.qs_world_runs.specs.RepliesTrue.{RepliesAt}

pub record AlongRun (o : Opening) (world : World) : Type 0 where
  pub awaited : AwaitedAt o world  -- what all places hold of each transaction, and what its requests wait for
  pub replies : RepliesAt o world  -- what is on its way and what waits: each reply is of a request that stands no more
  pub records : RecordsAt o world  -- what the machine has on record of a node that runs: it is in its log, committed there, or known there to be aborted
  pub covers : CoversAt o world  -- the last vote of each member covers at least what its node's log says in doubt
  pub counted : CountedAt o world  -- what the only node of a run has served, and what waits there: it has numbers that were given
