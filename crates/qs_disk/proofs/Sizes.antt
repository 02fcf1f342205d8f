-- Which numbers of bytes a disk may have.
use Rattle.std.proofs.Common.{◌≡◌, ◌≤◌, ◌%◌, ◌/◌, ◌↔◌, ℕ, IsTrue, arith}
use Rattle.std.specs.Prelude.{nat_le}
use Rattle.std.proofs.lemmas.Bool.Decides.{nat_tests}
use Rattle.qs_disk.specs.Disk.{IsSize}

pub sized : (n : ℕ) → n % 4096 ≡ 0 → 65536 ≤ n → IsTrue (nat_le n 16777216) ↔ IsSize n
sized n pages least = (λ most. record { pages = n / 4096; whole = omega arith; least = least; most = grind (arith, nat_tests, most) }, λ size. grind (arith, nat_tests, size.most))
