-- Worlds in which each node that knows a commit is to tell it to all whom the Commit in its log names, and a restart can take up each log whole.
use Rattle.std.specs.Prelude.{◌≡◌, ℕ, ◌<◌, ◌||◌, not, nat_lt, nat_le, Bool, true, ◌++◌}
use Rattle.std.specs.List.{list_all}
use Rattle.qs_base.specs.declared.identifiers.Tid.{Tid}
use Rattle.qs_record.specs.declared.record.Record.{Record}
use Rattle.qs_restart.specs.Recovery.{recovery}
use Rattle.qs_node_step.specs.Bringing.{tid_of}
use Rattle.qs_world.specs.Moves.{Move, may_move, moved}
use Rattle.qs_world.specs.Openings.{IsOpening, is_whole_log}
use Rattle.qs_world.specs.World.{Opening, World, start}
use Rattle.qs_world_refine.specs.Lists.{AreListed, AreTaken}
use Rattle.qs_world_refine.specs.SaidLaws.{lists_others}
use Rattle.qs_world_refine.specs.Steadies.{IsSteadyWorld, MachineMoves}
use Rattle.qs_world_refine.specs.Steady.{IsSteady}

-- ---- records

-- of an incarnation that its home had, where that is a node of the run
abbrev pub is_past_tid : World → Tid → Bool
is_past_tid world tid = not (nat_lt tid.home.0 world.size) || nat_le tid.inc (world.channels.inc tid.home.0)

abbrev pub is_past_record : World → Record → Bool
is_past_record world rec = is_past_tid world (tid_of rec)

-- ---- a world

pub record IsListedWorld (world : World) : Type 0 where
  pub nodes : (n : ℕ) → n < world.size → world.channels.up n ≡ true → AreListed (world.hosts n).node (recovery ((world.hosts n).log ++ (world.hosts n).waiting))
  pub logs : (n : ℕ) → n < world.size → AreTaken (recovery (world.hosts n).log)
  pub whole : (n : ℕ) → n < world.size → is_whole_log (recovery ((world.hosts n).log ++ (world.hosts n).waiting)) ≡ true
  pub others : (n : ℕ) → n < world.size → list_all lists_others ((world.hosts n).log ++ (world.hosts n).waiting) ≡ true  -- each Commit names others than the home
  pub past : (n : ℕ) → n < world.size → list_all (is_past_record world) ((world.hosts n).log ++ (world.hosts n).waiting) ≡ true
  pub whole_logs : (n : ℕ) → n < world.size → is_whole_log (recovery (world.hosts n).log) ≡ true

-- so it is after each move, and where a world begins, if the logs of its opening are such
abbrev pub StartListed : Type 0
StartListed = (o : Opening) → IsOpening o → ((n : ℕ) → n < o.size → AreTaken (recovery (o.logs n))) → IsListedWorld (start o)

abbrev pub MoveListed : Type 0
MoveListed = (world : World) (move : Move) → may_move world move ≡ true → MachineMoves world move → IsSteadyWorld world → IsListedWorld world → IsListedWorld (moved move world)

-- ---- then all holds that the law of a move asks of nodes, logs and channels

abbrev pub SteadyGives : Type 0
SteadyGives = (world : World) → IsSteadyWorld world → IsListedWorld world → IsSteady world
