use Rattle.qs_world_lawful.proofs.StopsWhole.{by_quiet, by_said}
use Rattle.qs_world_lawful.proofs.lawful_worlds.kept_cut_is_held.Goals as goal

pub returns : goal.returns
returns c = record { quiet = by_quiet; said = by_said }
