use Rattle.qs_world_runs.proofs.OthersBeside.{others_beside}
use Rattle.qs_world_runs.proofs.PlacedSettles.{placed_settles}
use Rattle.qs_world_runs.proofs.TurnsBegan.{turns_began}
use Rattle.qs_world_runs.proofs.TurnsGo.{finds_settle, turns_go}
use Rattle.qs_world_runs.proofs.TurnsSettle.{turns_settle}
use Rattle.qs_world_runs.proofs.TurnsShown.{turns_follow, turns_shown}
use Rattle.qs_world_runs.proofs.placed.at_turns.Goals as goal

pub returns : goal.returns
returns c = record { follow = turns_follow; shown = turns_shown; began = turns_began; settle = turns_settle; others = others_beside; commits = placed_settles; goes = turns_go; finds = finds_settle }
