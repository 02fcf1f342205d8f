-- Each lawful history has what stands at every time, from logs that are coherent and numbered, and so from each opening of a run.
use Rattle.qs_world_lawful.proofs.Words.{opened_from}
use Rattle.qs_world_lawful.specs.LastingLaws.{EachLasts, EachRunLasts}
use Rattle.qs_world_lawful.proofs.CoherentOpenings.{opens_soundly}
use Rattle.qs_world_lawful.proofs.LastsOpening.{lasts_always}
use Rattle.qs_world_lawful.proofs.NumberedLogs.{opened_numbered, opening_named}

pub always : EachLasts
always opened entries coherent numbered lawful = lasts_always opened entries coherent (opening_named opened numbered) lawful

pub in_runs : EachRunLasts
in_runs o entries opens lawful = always (opened_from o 0 o.size) entries (opens_soundly o opens) (opened_numbered o 0 o.size) lawful
