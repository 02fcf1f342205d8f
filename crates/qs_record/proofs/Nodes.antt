-- Lists of nodes that rise.
use Rattle.std.proofs.Common.{◌≡◌, ◌≤◌, ◌<◌, ◌+◌, ℕ, true, false, Bool, List, [], ◌∷◌, length, nat_le, ◌&&◌, arith}
use Rattle.std.proofs.lemmas.Bool.{ltb-true, leb-true}
use Rattle.qs_base.specs.declared.identifiers.NodeNo.{NodeNo}
use Rattle.qs_record.specs.Grammar.{is_node, is_rising}

pub both_hold : (a b : Bool) → (a && b) ≡ true → (a ≡ true) × (b ≡ true)
both_hold true b e = (cc, e)
both_hold false b e = absurd cc

-- the first rises, and so do the others behind it
pub rising_split : (least : ℕ) (n : NodeNo) (ns : List NodeNo) → is_rising least (n ∷ ns) ≡ true
    → (nat_le least n.0 ≡ true) × (is_node n.0 ≡ true) × (is_rising (n.0 + 1) ns ≡ true)
rising_split least n ns e =
    let first = both_hold (nat_le least n.0) (is_node n.0 && is_rising (n.0 + 1) ns) e in
    let second = both_hold (is_node n.0) (is_rising (n.0 + 1) ns) first.1 in
    (first.0, second.0, second.1)

-- there are at most 16
pub rising_from : (least : ℕ) (nodes : List NodeNo) → least ≤ 16 → is_rising least nodes ≡ true → least + length nodes ≤ 16
rising_from least [] below e = omega arith
rising_from least (n ∷ ns) below e =
    let split = rising_split least n ns e in
    let from : least ≤ n.0 = leb-true _ _ split.0 in
    let node : n.0 < 16 = ltb-true _ _ split.1 in
    let others : n.0 + 1 + length ns ≤ 16 = rising_from (n.0 + 1) ns (omega arith) split.2 in
    omega arith

pub rising_few : (nodes : List NodeNo) → is_rising 0 nodes ≡ true → length nodes ≤ 16
rising_few nodes e = omega (arith, rising_from 0 nodes (omega arith) e)
