-- What a world that is steady gives of a node that runs, and of a transaction that has not begun.
use Rattle.std.specs.Prelude.{◌≡◌, ℕ, ◌<◌, ◌≤◌, true, false, Some, None}
use Rattle.std.specs.List.{list_any}
use Rattle.qs_base.specs.Order.{same_tid}
use Rattle.qs_base.specs.declared.identifiers.Tid.{Tid}
use Rattle.qs_ipc.specs.Ipc as ipc
use Rattle.qs_node_kept.specs.Loans.{is_standing_loan}
use Rattle.qs_restart.specs.Recovery.{recovery, names_transaction, is_untold_of}
use Rattle.qs_node_step.specs.Answering.{kept_outcome, was_committed}
use Rattle.qs_node_step.specs.State.{NodeValue, work_on}
use Rattle.qs_tm.specs.Manager as tm
use Rattle.qs_tm.specs.declared.participant.Participant.{Participant}
use Rattle.qs_world.specs.World.{World}
use Rattle.qs_world_refine.specs.Begun.{may_be_known}
use Rattle.qs_world_refine.specs.Links.{node_no}
use Rattle.qs_world_refine.specs.NodeFaces.{began_here}
use Rattle.qs_world_refine.specs.PassLaws.{HasKinds}
use Rattle.qs_world_refine.specs.RestartWhole.{IsTakenUp}
use Rattle.qs_world_refine.specs.Sound.{has_doubt, keeps_owned, keeps_commits, is_past}
use Rattle.qs_world_refine.specs.Steadies.{IsSteadyWorld}
use Rattle.qs_world_refine.specs.Tidy.{are_servers_apart}

-- a node between its steps
pub record NodeFacts (node : NodeValue) : Type 0 where
  pub kinds : HasKinds node
  pub owned : keeps_owned node ≡ true  -- what its clients own is decided, and kept so, or runs here
  pub commits : keeps_commits node ≡ true  -- what it committed in this incarnation is kept as committed
  pub queues : are_servers_apart node.queues ≡ true  -- each server has one queue
  pub unknown : tm.part_of (tm.next_tid node.manager) node.manager ≡ None  -- the next number that it gives is new
  pub fresh : was_committed (tm.next_tid node.manager) node ≡ false
  pub past : (t : Tid) → began_here node t ≡ true → names_transaction t ≡ true → t.seq ≤ node.manager.begun → is_past node t ≡ true  -- what began here, and is known no more, is committed

abbrev pub SteadyNodeFacts : Type 0
SteadyNodeFacts = (world : World) (n : ℕ) → IsSteadyWorld world → n < world.size → world.channels.up n ≡ true → NodeFacts (world.hosts n).node

-- whom a node answers to it knows
abbrev pub SteadySuperior : Type 0
SteadySuperior = (world : World) (n m : ℕ) (t : Tid) (part : Participant) → IsSteadyWorld world → n < world.size → tm.part_of t (world.hosts n).node.manager ≡ Some part → part.engage.superior ≡ Some (node_no m)
    → 1 ≤ world.channels.peer n m

-- what it took up from its log, and has not looked at yet
abbrev pub SteadyTakenUp : Type 0
SteadyTakenUp = (world : World) (n free : ℕ) (t : Tid) → IsSteadyWorld world → n < world.size → IsTakenUp t (work_on (world.hosts n).node free)

-- of a transaction that has not begun a node knows nothing, nothing of it waits, no loan stands, and no outcome is kept; and its log says nothing of it
pub record KnowsNothing (tid : Tid) (world : World) (n : ℕ) : Type 0 where
  pub part : tm.part_of tid (world.hosts n).node.manager ≡ None
  pub waits : ipc.waits tid (world.hosts n).node.queues ≡ false
  pub lent : list_any (is_standing_loan tid (world.hosts n).node.setting.inc) (world.hosts n).node.kept.now.loans ≡ false
  pub outcome : kept_outcome tid (world.hosts n).node ≡ None
  pub doubt : has_doubt tid (recovery (world.hosts n).log) ≡ false
  pub untold : list_any (is_untold_of tid) (recovery (world.hosts n).log).untold ≡ false
  pub committed : list_any (same_tid tid) (recovery (world.hosts n).log).committed ≡ false

abbrev pub UnbegunUnknown : Type 0
UnbegunUnknown = (tid : Tid) (world : World) (n : ℕ) → IsSteadyWorld world → n < world.size → names_transaction tid ≡ true → may_be_known world tid ≡ false → KnowsNothing tid world n
