use Rattle.std.proofs.Common.{length}
use Rattle.qs_world_sites.proofs.carrying.+carry_lanes.Given as goal

abbrev pub decreases-carry_lanes : goal.decreases-carry_lanes
decreases-carry_lanes g l = length l.sites.now
