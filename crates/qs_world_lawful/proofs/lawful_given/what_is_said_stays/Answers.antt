use Rattle.qs_world_lawful.proofs.SaidStays.{said_stays}
use Rattle.qs_world_lawful.proofs.lawful_given.what_is_said_stays.Goals as goal

pub returns : goal.returns
returns c = said_stays
