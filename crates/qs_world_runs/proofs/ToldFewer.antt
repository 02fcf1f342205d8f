-- A set that has nodes of the run alone, and lacks one of them, has fewer nodes than the run.
use Rattle.qs_world_runs.proofs.Words.{length-append, ◌≡◌, ℕ, ◌+◌, ◌-◌, ◌<◌, ◌≤◌, ◌==◌, ◌&&◌, Bool, true, false, List, [], ◌∷◌, ◌++◌, length, fold, refl, subst, arith, nat_le, nat_lt, if◌then◌else◌, nat_tests, list_all, NodeNo, listed, Nodes, where_so}
use Rattle.qs_engage.specs.Nodes.{all_nodes, has_node, with_listed}
use Rattle.qs_world_refine.proofs.SoundParts.{and_both}
use Rattle.qs_base_lemmas.proofs.Tests.{eqb_turned}

-- in order, from that number on
abbrev are_up : ℕ → List NodeNo → Bool
are_up low [] = true
are_up low (node ∷ rest) = nat_le low node.0 && are_up (node.0 + 1) rest

nodes_up : are_up 0 all_nodes ≡ true
unfolding all_nodes
nodes_up = refl

module _ (nodes : Nodes) (size : ℕ) where
  abbrev is_in : NodeNo → Bool
  is_in node = where_so (has_node nodes node) (nat_lt node.0 size)

  low_in : (node : NodeNo) → is_in node ≡ true → has_node nodes node ≡ true → node.0 < size
  low_in node so has = by (has_node nodes node) (nat_lt node.0 size) refl has so
    where
      by : (a b : Bool) → nat_lt node.0 size ≡ b → a ≡ true → where_so a b ≡ true → node.0 < size
      by true true is has so = grind (arith, nat_tests, is)
      by true false is has so = absurd (cc so)
      by false b is has so = absurd (cc has)

  at_most : (low : ℕ) (xs acc : List NodeNo) → are_up low xs ≡ true → list_all is_in xs ≡ true → length (fold (with_listed nodes) acc xs) ≤ length acc + (size - low)
  at_most low [] acc up all = grind (arith)
  at_most low (x ∷ xs) acc up all = by (has_node nodes x) refl (at_most (x.0 + 1) xs (acc ++ x ∷ []) ups.1 both.1) (at_most (x.0 + 1) xs acc ups.1 both.1)
    where
      ups : (nat_le low x.0 ≡ true) × (are_up (x.0 + 1) xs ≡ true)
      ups = and_both (nat_le low x.0) (are_up (x.0 + 1) xs) up

      both : (is_in x ≡ true) × (list_all is_in xs ≡ true)
      both = and_both (is_in x) (list_all is_in xs) all

      by : (b : Bool) → has_node nodes x ≡ b → length (fold (with_listed nodes) (acc ++ x ∷ []) xs) ≤ length (acc ++ x ∷ []) + (size - (x.0 + 1)) → length (fold (with_listed nodes) acc xs) ≤ length acc + (size - (x.0 + 1))
          → length (fold (with_listed nodes) (if b then acc ++ x ∷ [] else acc) xs) ≤ length acc + (size - low)
      by true is p q = let e = length-append acc (x ∷ []) in let below = low_in x both.0 is in let above = ups.0 in grind (arith, nat_tests, p, e, below, above)
      by false is p q = let above = ups.0 in grind (arith, nat_tests, q, above)

  module _ (other : ℕ) (inside : other < size) (lacks : has_node nodes (record { 0 = other }) ≡ false) where
    fewer : (low : ℕ) (xs acc : List NodeNo) → low ≤ other → are_up low xs ≡ true → list_all is_in xs ≡ true → length (fold (with_listed nodes) acc xs) < length acc + (size - low)
    fewer low [] acc least up all = let it = inside in grind (arith, least, it)
    fewer low (x ∷ xs) acc least up all = by (nat_lt x.0 other) refl (λ more below. fewer (x.0 + 1) xs more below ups.1 both.1) (has_node nodes x) refl
      where
        ups : (nat_le low x.0 ≡ true) × (are_up (x.0 + 1) xs ≡ true)
        ups = and_both (nat_le low x.0) (are_up (x.0 + 1) xs) up

        both : (is_in x ≡ true) × (list_all is_in xs ≡ true)
        both = and_both (is_in x) (list_all is_in xs) all

        differs : has_node nodes x ≡ true → nat_lt x.0 other ≡ false → other < x.0
        differs has not_below = by (x.0 == other) refl
          where
            by : (b : Bool) → (x.0 == other) ≡ b → other < x.0
            by true same = absurd (let off : has_node nodes x ≡ false = subst (λ (k : ℕ). has_node nodes (record { 0 = k }) ≡ false) (eqb_turned x.0 other same) lacks in cc (off, has))
            by false apart = let n = not_below in grind (arith, nat_tests, apart, n)

        by : (c : Bool) → nat_lt x.0 other ≡ c → ((more : List NodeNo) → x.0 + 1 ≤ other → length (fold (with_listed nodes) more xs) < length more + (size - (x.0 + 1))) → (b : Bool) → has_node nodes x ≡ b → length (fold (with_listed nodes) (if b then acc ++ x ∷ [] else acc) xs) < length acc + (size - low)
        by true below rest true is = let p = rest (acc ++ x ∷ []) (grind (arith, nat_tests, below)) in let e = length-append acc (x ∷ []) in let low_x = low_in x both.0 is in let above = ups.0 in grind (arith, nat_tests, p, e, low_x, above)
        by true below rest false is = let p = rest acc (grind (arith, nat_tests, below)) in let above = ups.0 in grind (arith, nat_tests, p, above)
        by false past rest true is = let p = at_most (x.0 + 1) xs (acc ++ x ∷ []) ups.1 both.1 in let e = length-append acc (x ∷ []) in let low_x = low_in x both.0 is in let far = differs is past in grind (arith, nat_tests, p, e, low_x, far, least)
        by false past rest false is = let p = at_most (x.0 + 1) xs acc ups.1 both.1 in let it = inside in let above = ups.0 in grind (arith, nat_tests, p, it, least, past, above)

    pub fewer_listed : list_all is_in all_nodes ≡ true → length (listed nodes) < size
    fewer_listed all = let p = fewer 0 all_nodes [] (grind (arith)) nodes_up all in grind (arith, p)
