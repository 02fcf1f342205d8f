-- What a test for the same bytes, the same transaction or the same member tells, and that each is the same as itself.
use Rattle.std.proofs.Common.{◌≡◌, ℕ, true, List, refl, arith}
use Rattle.std.proofs.lemmas.Bool.Decides.{nat_tests}
use Rattle.std.specs.Cmp.Lexicographic.{pointwise, pointwise_decides, bytes_decides}
use Rattle.qs_base.specs.Order.{same_bytes, same_tid, same_member}
use Rattle.qs_base.specs.declared.identifiers.Member.{Member}
use Rattle.qs_base.specs.declared.identifiers.Tid.{Tid}

pub same_bytes-true : (xs ys : List ℕ) → same_bytes xs ys ≡ true → xs ≡ ys
same_bytes-true xs ys = (bytes_decides xs ys).0

pub same_bytes-self : (xs : List ℕ) → same_bytes xs xs ≡ true
same_bytes-self xs = (bytes_decides xs xs).1 refl

pub same_lists-true : (xs ys : List (List ℕ)) → pointwise same_bytes xs ys ≡ true → xs ≡ ys
same_lists-true xs ys = (pointwise_decides bytes_decides xs ys).0

pub same_lists-self : (xs : List (List ℕ)) → pointwise same_bytes xs xs ≡ true
same_lists-self xs = (pointwise_decides bytes_decides xs xs).1 refl

pub same_tid-true : (s t : Tid) → same_tid s t ≡ true → s ≡ t
same_tid-true s t h = grind (arith, nat_tests)

pub same_tid-self : (t : Tid) → same_tid t t ≡ true
same_tid-self t = grind (arith, nat_tests)

pub same_member-true : (m n : Member) → same_member m n ≡ true → m ≡ n
same_member-true m n h = grind (arith, nat_tests)

pub same_member-self : (m : Member) → same_member m m ≡ true
same_member-self m = grind (arith, nat_tests)
