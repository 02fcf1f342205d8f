use Rattle.std.proofs.Common.{◌≡◌, ℕ, length, sym, subst, refl, arith, rules}
use Rattle.qs_disk.specs.Disk.{IsSize}
use Rattle.qs_test_storage.proofs.slot.disk_of.Goals as goal

size : (n : ℕ) → n ≡ 65536 → IsSize n
size n e = subst IsSize (sym e) (record { pages = 16; whole = refl; least = omega arith; most = omega arith })

pub from_bytes-requires : goal.from_bytes-requires
from_bytes-requires c = size (length c.as_slice.result.now) (search rules)
