-- A disk of zeros has an empty log, which has room for all that is kept there.
use Rattle.std.proofs.Common.{◌+◌, ◌-◌, ◌≤◌, ◌/◌, ℕ, [], replicate, arith}
use Rattle.qs_disk.specs.Disk.{IsSize}
use Rattle.qs_node_host.specs.Roomy.{HasRoomyLog}
use Rattle.qs_log.proofs.Fresh.{fresh_log}
use Rattle.qs_log.specs.Image.{half}
use Rattle.qs_slot.specs.Slot.{fresh_value, present_in}

pub fresh_roomy : (keep size : ℕ) → IsSize size → HasRoomyLog keep size (replicate size 0)
fresh_roomy keep size allowed = record {
  present = present_in 0 fresh_value 0;
  records = [];
  used = 0;
  log = fresh_log size;
  rooms = omega (arith, allowed.least);
}
