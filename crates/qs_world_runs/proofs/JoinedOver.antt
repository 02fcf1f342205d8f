-- All stands together as a run begins, and over the run; so the run's history is lawful.
use Rattle.qs_world_runs.proofs.Words.{◌≡◌, ℕ, ◌<◌, ◌≤◌, List, [], ◌∷◌, refl, sym, subst, arith, nat_tests, no_kept, recovered_of, book_of, Move, moved, Run, Opening, World, start, world_held, Joined, eqb-self, zero_le}
use Rattle.qs_world_refine.proofs.EveryRunShown.{every_run_shown}
use Rattle.qs_world_lawful.proofs.OpenedScripts.{opens_scripts, opens_ways}
use Rattle.qs_world_runs.specs.JoinedRuns.{EachOpensJoined, EachRunJoined, EachRunLawful}
use Rattle.qs_world_runs.specs.PlacesLaws.{GoesOn}
use Rattle.qs_world_runs.proofs.BornMoves.{born_start}
use Rattle.qs_world_runs.proofs.JoinedFacts.{opens_facts}
use Rattle.qs_world_runs.proofs.JoinedClocks.{opens_on_time}
use Rattle.qs_world_runs.proofs.JoinedHomes.{own_has}
use Rattle.qs_world_runs.proofs.OwingFresh.{opens_owing}
use Rattle.qs_world_runs.proofs.JoinedMoves.{each_move_joined}
use Rattle.qs_world_runs.proofs.LabelsMoves.{labels_start}
use Rattle.qs_world_runs.proofs.OpensRunning.{opens_owned, opens_running}
use Rattle.qs_world_runs.proofs.RoomsMoves.{rooms_start}

pub each_opens_joined : (P : Opening → World → Type 0) → GoesOn P → EachOpensJoined P
each_opens_joined P goes o opens = record {
  opens = opens;
  size = refl;
  lawful = tt;
  shown = every_run_shown (start o) (record { opening = o; opens = opens; moves = []; run = refl });
  held = world_held o opens;
  running = opens_running o opens;
  facts = λ n low. opens_facts o opens n low;
  homes = λ tid tx found committed in_run. let low : tid.home.0 < o.size = grind (arith, nat_tests, in_run) in
      own_has (book_of o) ((start o).hosts tid.home.0).node tid.home.0 ((world_held o opens).nodes tid.home.0 low).node (opens_running o opens tid.home.0 low refl).beside tid tx found committed (eqb-self tid.home.0);
  owners = opens_owned o opens;
  logged = λ n low tid among. among;
  clocks = λ n low. none ((start o).hosts n).node.manager.ticks (opens_on_time o.alloc (o.settings n) (recovered_of (o.logs n)));
  labels = labels_start o;
  born = born_start o;
  rooms = rooms_start o opens;
  channels = record { posted = λ n m i j. tt; waits = λ n m. tt; known = λ n m. zero_le ((start o).channels.inc m) };
  unmet = λ n m some. refl;
  queued = λ n low tid server none. refl;
  ways = opens_ways o opens;
  clients = λ n low client command there. absurd (cc there);
  scripts = opens_scripts o opens;
  owing = λ n low up. opens_owing o.alloc (o.settings n) (recovered_of (o.logs n)) no_kept [];
  places = goes.opens o opens;
}
  where
    none : (t : ℕ) → t ≡ 0 → t ≤ 0
    none t is = grind (arith, is)

module _ (P : Opening → World → Type 0) (goes : GoesOn P) where
  over : (o : Opening) (moves : List Move) (old new : World) → Joined P o old → Run old moves new → Joined P o new
  over o [] old new j run = subst (λ (w : World). Joined P o w) (sym run) j
  over o (move ∷ moves) old new j run = over o moves (moved move old) new (each_move_joined P goes o old move j run.0) run.1

  pub each_run_joined : EachRunJoined P
  each_run_joined o moves new opens run = over o moves (start o) new (each_opens_joined P goes o opens) run

  pub each_run_lawful : EachRunLawful
  each_run_lawful o moves new opens run = (each_run_joined o moves new opens run).lawful
