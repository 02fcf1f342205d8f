-- What a world holds of what comes to one of its nodes that runs: scripts, channels, and counts, where requests are served, and ages that have room.
use Rattle.std.specs.Prelude.{◌≡◌, ℕ, true, nat_lt}
use Rattle.qs_ipc.specs.Ipc as ipc
use Rattle.qs_book_machine.specs.Book.{BookValue}
use Rattle.qs_node_step.specs.Serving.{serve_next}
use Rattle.qs_node_step.specs.State.{work_on}
use Rattle.qs_world.specs.Moves.{Queues, Source}
use Rattle.qs_world.specs.World.{Opening, World}
use Rattle.qs_world_walk.specs.Walked.{AtEach}
use Rattle.qs_world_lawful.specs.NodeFacts.{AreYoung}
use Rattle.qs_world_lawful.specs.Parcels.{HoldsChannels, HoldsWays}
use Rattle.qs_world_lawful.specs.Scripts.{HoldsScripts}
use Rattle.qs_world_lawful.specs.Standing.{CanCount}

pub record WorldGives (o : Opening) (book : BookValue) (world : World) (n free : ℕ) (source : Source) : Type 0 where
  pub size : world.size ≡ o.size
  pub in_run : nat_lt n world.size ≡ true
  pub up : world.channels.up n ≡ true
  pub node : (world.hosts n).node.setting.node.0 ≡ n
  pub nodes : (world.hosts n).node.setting.nodes ≡ world.size
  pub scripts : HoldsScripts o book world
  pub channels : HoldsChannels book world.size world.channels
  pub ways : HoldsWays book world
  pub room : source ≡ Queues → AtEach CanCount serve_next (work_on (world.hosts n).node free) (ipc.turns (world.hosts n).node.queues)
  pub young : AreYoung (world.hosts n).node
