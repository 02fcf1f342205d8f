use Rattle.qs_world_agree_ends.proofs.EngagementLaws.{engaged_hangs, engager_is_nearer, busy_is_engaged, home_is_engaged}
use Rattle.qs_world_agree_ends.proofs.laws.engaged_hang.Goals as goal

pub returns : goal.returns
returns c = record { hangs = engaged_hangs; nearer = engager_is_nearer; busy = busy_is_engaged; home = home_is_engaged }
