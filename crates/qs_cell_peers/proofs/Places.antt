-- Each other node has a place of its own in a list of as many as there are others.
use Rattle.std.proofs.Common.{◌≡◌, ◌≢◌, ℕ, ◌+◌, ◌<◌, true, List, arith, get_or, length, set}
use Rattle.std.proofs.lemmas.Bool.Decides.{nat_tests}
use Rattle.std.proofs.lemmas.List.{get_or-set_other, get_or-set_same}
use Rattle.qs_cell_peers.specs.Peers.{is_peer, place}

pub peer_is : (size n m : ℕ) → is_peer size n m ≡ true → (m < size) × (m ≢ n)
peer_is size n m is = grind (arith, nat_tests, is)

pub is_peer_from : (size n m : ℕ) → m < size → m ≢ n → is_peer size n m ≡ true
is_peer_from size n m lt other = grind (arith, nat_tests, lt, other)

pub place_below : (others n m : ℕ) → n < others + 1 → is_peer (others + 1) n m ≡ true → place n m < others
place_below others n m lt is = grind (arith, nat_tests, lt, is)

pub place_apart : (n m k : ℕ) → m ≢ n → k ≢ n → place n k ≡ place n m → k ≡ m
place_apart n m k m_other k_other is = grind (arith, nat_tests, m_other, k_other, is)

module _ {A : Type 0} (xs : List A) (n m : ℕ) (x d : A) where
  pub there : n < length xs + 1 → is_peer (length xs + 1) n m ≡ true → get_or (set xs (place n m) x) (place n m) d ≡ x
  there lt is = get_or-set_same xs (place n m) x d (place_below (length xs) n m lt is)

  pub elsewhere : (k : ℕ) → m ≢ n → k ≢ n → k ≢ m → get_or (set xs (place n m) x) (place n k) d ≡ get_or xs (place n k) d
  elsewhere k m_other k_other apart = get_or-set_other xs (place n m) (place n k) x d (λ is. apart (place_apart n m k m_other k_other is))
