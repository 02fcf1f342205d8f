use Rattle.qs_world_refine.proofs.Refusing.{drop_cover, drop_home}
use Rattle.qs_world_refine.proofs.Taking.{drop_engage, drop_join}
use Rattle.qs_world_refine.proofs.events.drops.Goals as goal

pub returns : goal.returns
returns c = record { engage = drop_engage; join = drop_join; cover = drop_cover; home = drop_home }
