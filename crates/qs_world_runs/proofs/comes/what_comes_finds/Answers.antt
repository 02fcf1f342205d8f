use Rattle.qs_world_runs.proofs.ComesFind.{comes_find, comes_later}
use Rattle.qs_world_runs.proofs.ComesUnknown.{commands_unbegun, comes_unknown}
use Rattle.qs_world_runs.proofs.comes.what_comes_finds.Goals as goal

pub returns : goal.returns
returns c = record { finds = comes_find; later = comes_later; unknown = comes_unknown; unbegun = commands_unbegun }
