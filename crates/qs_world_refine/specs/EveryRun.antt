-- The law of every run of the world: each transaction that has begun is shown by a lawful world of the agreement machine; so nodes agree, and nobody is forgotten.
use Rattle.std.specs.Prelude.{◌≡◌, ◌≢◌, ℕ, ◌<◌, ◌≤◌, ◌++◌, Bool, true, List}
use Rattle.std.specs.List.{list_all, list_any}
use Rattle.qs_base.specs.Order.{same_tid}
use Rattle.qs_base.specs.declared.identifiers.Outcome.TheVariants as outcomes
use Rattle.qs_base.specs.declared.identifiers.Tid.{Tid}
use Rattle.qs_record.specs.declared.record.Record.{Record}
use Rattle.qs_restart.specs.Recovery.{Recovery, recovery, names_transaction, is_untold_of}
use Rattle.qs_node_step.specs.Bringing.{tid_of}
use Rattle.qs_world.specs.Moves.{Move}
use Rattle.qs_world.specs.Openings.{IsOpening, is_whole_log}
use Rattle.qs_world.specs.Runs.{Run}
use Rattle.qs_world.specs.World.{Host, Opening, World, start}
use Rattle.qs_world_agree.specs.World as machine
use Rattle.qs_world_refine.specs.Begun.{has_begun}
use Rattle.qs_world_refine.specs.EachMove.{ShowsAll, AllGoes}
use Rattle.qs_world_refine.specs.Links.{names_node, node_no}
use Rattle.qs_world_refine.specs.Lists.{AreTaken}
use Rattle.qs_world_refine.specs.ShownWorlds.{IsShownWorld}
use Rattle.qs_world_refine.specs.Sights.{list_of}
use Rattle.qs_world_refine.specs.Sound.{has_doubt}
use Rattle.qs_world_refine.specs.WorldLaws.{IsToLearn, Knows}

-- ---- whoever is named by a log that a restart can take up whole is taken up

abbrev pub WholeTaken : Type 0
WholeTaken = (said : Recovery) → is_whole_log said ≡ true → AreTaken said

-- ---- a world that some run from such an opening leads to

pub record IsReached (world : World) : Type 0 where
  pub opening : Opening
  pub opens : IsOpening opening
  pub moves : List Move
  pub run : Run (start opening) moves world

-- each transaction that has begun, in the run or before, is shown, and what holds of all nodes, logs and channels holds
abbrev pub EveryRunShown : Type 0
EveryRunShown = (world : World) → IsReached world → IsShownWorld world

-- and it goes on to be, by the events of its machine
abbrev pub EveryRunGoes : Type 0
EveryRunGoes = (tid : Tid) (moves : List Move) (old new : World) (w : machine.World) → IsReached old → Run old moves new → has_begun old tid ≡ true → ShowsAll tid old w → AllGoes tid new w

-- so nobody knows a commit where another knows an abort
abbrev pub EveryRunAgrees : Type 0
EveryRunAgrees = (tid : Tid) (world : World) (n m : ℕ) → IsReached world → tid.home.0 < world.size → Knows tid world n outcomes.Commit → Knows tid world m outcomes.Abort → ⊥

-- and nobody is forgotten: where the home's log has the Commit, each other node whose log has a vote in doubt is named by it, and it has no End
abbrev pub EveryRunTells : Type 0
EveryRunTells = (tid : Tid) (world : World) (n : ℕ) → IsReached world → names_transaction tid ≡ true → tid.home.0 < world.size → n < world.size → n ≢ tid.home.0
    → list_any (same_tid tid) (recovery (world.hosts tid.home.0).log).committed ≡ true → has_doubt tid (recovery (world.hosts n).log) ≡ true
    → (list_any (is_untold_of tid) (recovery (world.hosts tid.home.0).log).untold ≡ true) × (names_node (list_of tid (recovery (world.hosts tid.home.0).log)) (node_no n) ≡ true)

-- nor is a node that runs and is to learn the outcome
abbrev pub EveryRunTellsLearners : Type 0
EveryRunTellsLearners = (tid : Tid) (world : World) (n : ℕ) → IsReached world → tid.home.0 < world.size → n ≢ tid.home.0
    → list_any (same_tid tid) (recovery (world.hosts tid.home.0).log).committed ≡ true → IsToLearn tid world n
    → (list_any (is_untold_of tid) (recovery (world.hosts tid.home.0).log).untold ≡ true) × (names_node (list_of tid (recovery (world.hosts tid.home.0).log)) (node_no n) ≡ true)

-- ---- logs only grow, by records that name transactions

abbrev pub is_named_record : Record → Bool
is_named_record rec = names_transaction (tid_of rec)

pub record GrewFrom (old : List Record) (host : Host) : Type 0 where
  pub more : List Record
  pub is : host.log ≡ old ++ more
  pub named : list_all is_named_record more ≡ true
  pub waiting : list_all is_named_record host.waiting ≡ true

abbrev pub EveryLogGrows : Type 0
EveryLogGrows = (o : Opening) (moves : List Move) (world : World) → IsOpening o → Run (start o) moves world → (n : ℕ) → n < world.size → GrewFrom (o.logs n) (world.hosts n)
