-- From an opening on each transaction that has begun is shown, move by move.
use Rattle.qs_world_refine.proofs.Words.{◌≤◌, nat_le, arith, nat_tests, recovery, IsOpening, is_whole_log, Opening, start, each_is, IsShownWorld}
use Rattle.qs_world_refine.specs.EveryRun.{EveryRunShown, EveryRunGoes, EveryRunAgrees, EveryRunTells, EveryRunTellsLearners}
use Rattle.qs_world_refine.proofs.Listing.{start_listed}
use Rattle.qs_world_refine.proofs.NodesAgree.{nodes_agree, learners_stand, logs_stand}
use Rattle.qs_world_refine.proofs.ShownBegins.{each_begun_shown, start_all_shown}
use Rattle.qs_world_refine.proofs.ShownMoves.{run_shown, shown_run_goes}
use Rattle.qs_world_refine.proofs.SoundParts.{and_both}
use Rattle.qs_world_refine.proofs.SteadyStarts.{start_steady}
use Rattle.qs_world_refine.proofs.WholeLogs.{whole_taken}

pub start_shown : (o : Opening) → IsOpening o → IsShownWorld (start o)
start_shown o opens = record {
  steady = start_steady o opens;
  listed = start_listed o opens (λ n low. whole_taken (recovery (o.logs n)) (each_is o.size (λ k. is_whole_log (recovery (o.logs k))) opens.whole n low));
  shown = start_all_shown o opens;
}

pub every_run_shown : EveryRunShown
every_run_shown world is = run_shown is.moves (start is.opening) world each_begun_shown is.run (start_shown is.opening is.opens)

pub every_run_goes : EveryRunGoes
every_run_goes tid moves old new w is run begun shows = shown_run_goes tid moves old new w each_begun_shown run (every_run_shown old is) begun shows

pub every_run_agrees : EveryRunAgrees
every_run_agrees tid world n m is home_in commit abort = nodes_agree tid world n m (every_run_shown world is) home_in commit abort

pub every_run_tells : EveryRunTells
every_run_tells tid world n is numbered home_in n_in other committed doubt = logs_stand tid world n (every_run_shown world is) numbered home_in n_in other committed doubt

pub every_run_tells_learners : EveryRunTellsLearners
every_run_tells_learners tid world n is home_in other committed learns = learners_stand tid world n (every_run_shown world is) home_in other committed learns
