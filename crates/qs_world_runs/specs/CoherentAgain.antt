-- The logs that a run leaves stand together: another run may begin over them, with later incarnations of its nodes.
use Rattle.std.specs.Prelude.{◌≡◌, ◌≢◌, ℕ, ◌+◌, ◌<◌, ◌==◌, ◌++◌, nat_lt, true, false, List}
use Rattle.std.specs.List.{list_any}
use Rattle.qs_base.specs.Order.{same_tid}
use Rattle.qs_base.specs.declared.identifiers.Tid.{Tid}
use Rattle.qs_restart.specs.Recovery.{names_transaction, recovery}
use Rattle.qs_node_step.specs.Answering.{was_committed}
use Rattle.qs_node_step.specs.Step.{effects_of}
use Rattle.qs_node_step.specs.declared.event.Event.{Event}
use Rattle.qs_node_step.specs.declared.setting.Setting.{Setting}
use Rattle.qs_world.specs.Moves.{Move, Source, client_count}
use Rattle.qs_world.specs.Openings.{IsOpening, all_labels, are_apart, each_below, is_commit_of, is_script, is_setting}
use Rattle.qs_world.specs.Runs.{Run}
use Rattle.qs_world.specs.World.{Opening, World, start}
use Rattle.qs_world_refine.specs.ShownWorlds.{IsShownWorld}
use Rattle.qs_world_refine.specs.Sound.{has_doubt}
use Rattle.qs_world_runs.specs.Agrees.{MakesStep}
use Rattle.qs_world_runs.specs.Joined.{Joined}

-- ---- what begins over the logs of a world, whether its nodes run or not: settings, scripts and labels that a run may begin with, and each node in a later incarnation

pub record IsNextOpening (world : World) (next : Opening) : Type 0 where
  pub size : next.size ≡ world.size
  pub logs : (n : ℕ) → n < world.size → next.logs n ≡ (world.hosts n).log
  pub later : (n : ℕ) → n < world.size → world.channels.inc n < (next.settings n).inc
  pub settings : each_below next.size (λ n. is_setting next.size n (next.settings n)) ≡ true
  pub scripts : each_below client_count (λ k. is_script next.size k (next.clients k)) ≡ true
  pub labels : are_apart (all_labels next) ≡ true

-- ---- where the log of another node has a Commit, so has the home's

-- of what a record that waits for a force commits, too
abbrev pub CommitsHome : World → Type 0
CommitsHome world = (n : ℕ) → n < world.size → (tid : Tid) → names_transaction tid ≡ true → nat_lt tid.home.0 world.size ≡ true → (tid.home.0 == n) ≡ false
    → list_any (is_commit_of tid) ((world.hosts n).log ++ (world.hosts n).waiting) ≡ true → list_any (is_commit_of tid) (world.hosts tid.home.0).log ≡ true

-- what the home has committed and another node's log has in doubt, the home's log has committed
abbrev pub HomeLogged : Type 0
HomeLogged = (tid : Tid) (world : World) (n : ℕ) → IsShownWorld world → names_transaction tid ≡ true → tid.home.0 < world.size → n < world.size → n ≢ tid.home.0
    → was_committed tid (world.hosts tid.home.0).node ≡ true → has_doubt tid (recovery (world.hosts n).log) ≡ true
    → list_any (same_tid tid) (recovery (world.hosts tid.home.0).log).committed ≡ true

-- a step commits of what began elsewhere what the log of its home has committed
abbrev pub StepCommitsHome : (Opening → World → Type 0) → Type 0
StepCommitsHome P = (o : Opening) (world : World) (n stamp free : ℕ) (source : Source) (event : Event) → Joined P o world → MakesStep world n stamp source event
    → (tid : Tid) → names_transaction tid ≡ true → nat_lt tid.home.0 world.size ≡ true → (tid.home.0 == n) ≡ false
    → list_any (is_commit_of tid) (effects_of (world.hosts n).node event free).records ≡ true → list_any (is_commit_of tid) (world.hosts tid.home.0).log ≡ true

-- so it is in every world of a run, whatever names it
abbrev pub EachCommitsHome : Type 0
EachCommitsHome = (o : Opening) (moves : List Move) (world : World) → IsOpening o → Run (start o) moves world → (n : ℕ) → n < world.size → (tid : Tid) → nat_lt tid.home.0 world.size ≡ true
    → list_any (is_commit_of tid) (world.hosts n).log ≡ true → list_any (is_commit_of tid) (world.hosts tid.home.0).log ≡ true

-- ---- the law

abbrev pub EachRunCoherent : Type 0
EachRunCoherent = (o : Opening) (moves : List Move) (world : World) (next : Opening) → IsOpening o → Run (start o) moves world → IsNextOpening world next → IsOpening next

-- so after each run another may follow: the same nodes over their logs, each in the incarnation after its last, with the same clients
abbrev pub next_setting : Setting → ℕ → Setting
next_setting setting inc = record setting { inc = inc + 1 }

abbrev pub next_of : Opening → World → Opening
next_of o world = record { alloc = o.alloc; size = world.size; settings = λ n. next_setting (o.settings n) (world.channels.inc n); logs = λ n. (world.hosts n).log; clients = o.clients }

abbrev pub EachRunMayFollow : Type 0
EachRunMayFollow = (o : Opening) (moves : List Move) (world : World) → IsOpening o → Run (start o) moves world → IsOpening (next_of o world)
