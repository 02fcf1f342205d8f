use Rattle.qs_world_runs.proofs.LeftOutcomes.{begin_leaves}
use Rattle.qs_world_runs.proofs.LeftSteps.{rest_leaves, settle_leaves}
use Rattle.qs_world_runs.proofs.PlacedAmid.{left_on}
use Rattle.qs_world_runs.proofs.PlacedIssue.{issued_away, issued_here}
use Rattle.qs_world_runs.proofs.PlacedServe.{serve_placed}
use Rattle.qs_world_runs.proofs.PlacedVotes.{vote_placed, yield_placed}
use Rattle.qs_world_runs.proofs.placed.rules.Goals as goal

pub returns : goal.returns
returns c = record {
  left = λ t base knows n stamp before work new i l. left_on t base knows n stamp before i work new l;
  begins = begin_leaves;
  others = λ t tid work far. settle_leaves t tid far work;
  rest = rest_leaves;
  issues_here = λ t base knows n stamp before work request op is fits own. issued_here t base knows n stamp before is.inv request op work is.here is.in_run fits own is.up is.inc;
  issues_away = λ t base knows n stamp before work request op is in_run other reach. issued_away t base knows n stamp before is.inv request op work is.here is.in_run in_run other is.up is.inc reach;
  serves = λ t base knows n stamp before work server delivery reply is first own fits. serve_placed t base knows n stamp before is.inv server delivery reply work is.here is.in_run is.up first own fits is.inc;
  votes = λ t base knows n stamp before work server ballot is for_it. vote_placed t base knows n stamp before is.inv work is.here is.in_run is.up is.inc server ballot for_it;
  yields = λ t base knows n stamp before work client is. yield_placed t base knows n stamp before is.inv work is.here is.in_run is.up is.inc client;
}
