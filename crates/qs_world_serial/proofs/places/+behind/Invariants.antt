use Rattle.std.proofs.Common.{length, ◌+◌, ◌*◌}
use Rattle.qs_world_serial.proofs.places.+behind.Given as goal

abbrev pub decreases-over_places : goal.decreases-over_places
decreases-over_places g l = 4 * length l.places.now

abbrev pub decreases-over_place : goal.decreases-over_place
decreases-over_place g l = 4 * length l.places.now + 2

abbrev pub decreases-over_disk : goal.decreases-over_disk
decreases-over_disk g l = 4 * length l.rest.now.places.now + 1
