-- When what the logs of an opening hold is what the laws want of an opening.
use Rattle.qs_book_laws.specs.Laws.{IsCoherent}
use Rattle.qs_world.specs.Histories.{opened_from}
use Rattle.qs_world.specs.Openings.{IsOpening}
use Rattle.qs_world.specs.World.{Opening}

abbrev pub EachOpensSoundly : Type 0
EachOpensSoundly = (o : Opening) → IsOpening o → IsCoherent (opened_from o 0 o.size)
