use Rattle.qs_world_lawful.proofs.ParcelsKept.{channels_moved, channels_posted}
use Rattle.qs_world_lawful.proofs.SaidStays.{channels_stay}
use Rattle.qs_world_lawful.proofs.lawful_given.channels_hold_what_is_so.Goals as goal

pub returns : goal.returns
returns c = record { moved = channels_moved; posted = channels_posted; later = channels_stay }
