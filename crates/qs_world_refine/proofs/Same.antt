-- A place is told by its number, and a transaction by its identifier.
use Rattle.qs_world_refine.proofs.Words.{◌≡◌, ℕ, ◌<◌, true, arith, nat_tests, same_tid, Tid, place}

pub same_place : (n m i j : ℕ) → n < 256 → m < 256 → place n i ≡ place m j → (n ≡ m) × (i ≡ j)
same_place n m i j a b e = (omega (arith, a, b, e), omega (arith, a, b, e))

pub tid_same : (tid : Tid) → same_tid tid tid ≡ true
tid_same tid = grind (arith, nat_tests)
