-- Which nodes are in a set that is built from a list or from a test, and which a set lists.
use Rattle.qs_world_refine.proofs.Words.{◌≡◌, ℕ, ◌<◌, ◌≤◌, ◌==◌, ◌&&◌, ◌||◌, Bool, true, false, List, [], ◌∷◌, ◌++◌, length, fold, arith, refl, sym, subst, ap, ◌∙◌, if◌then◌else◌, nat_lt, list_any, eqb-true, not-true, nat_tests, length-set, get_or_past, get_or-set_other, NodeNo, put_node, is_no_node, put_where, joined, with_listed, listed, Nodes, node_no, names_node, false-or, or-true, or-false}
use Rattle.qs_engage.specs.Nodes.{all_nodes, has_node}
use Rattle.qs_world_refine.proofs.Arrays.{node_put}

-- ---- a list of nodes is put into a set

pub put_length : (nodes : Nodes) (node : NodeNo) → length (put_node nodes node).has ≡ length nodes.has
put_length nodes node = length-set nodes.has node.0 true

pub joined_length : (more : List NodeNo) (nodes : Nodes) → length (joined nodes more).has ≡ length nodes.has
joined_length [] nodes = refl
joined_length (node ∷ more) nodes = joined_length more (put_node nodes node) ∙ put_length nodes node

pub joined_has : (more : List NodeNo) (nodes : Nodes) (k : ℕ) → (names_node more (node_no k) ≡ true → k < length nodes.has) → has_node (joined nodes more) (node_no k) ≡ (has_node nodes (node_no k) || names_node more (node_no k))
joined_has [] nodes k within = false-or (has_node nodes (node_no k))
joined_has (node ∷ more) nodes k within = by (k == node.0) refl within (λ named. joined_has more (put_node nodes node) k (λ is. subst (λ (n : ℕ). k < n) (sym (put_length nodes node)) (named is)))
  where
    put_here : k ≡ node.0 → k < length nodes.has → has_node (put_node nodes node) (node_no k) ≡ true
    put_here same below = node_put node.0 k nodes (subst (λ (n : ℕ). n < length nodes.has) same below) ∙ picked (k == node.0) (grind (arith, nat_tests, same))
      where
        picked : (b : Bool) → b ≡ true → (if b then true else has_node nodes (node_no k)) ≡ true
        picked b is = rw is refl

    put_there : (k == node.0) ≡ false → has_node (put_node nodes node) (node_no k) ≡ has_node nodes (node_no k)
    put_there other = unchanged (nat_lt node.0 (length nodes.has)) refl
      where
        picked : (b : Bool) → b ≡ false → (if b then true else has_node nodes (node_no k)) ≡ has_node nodes (node_no k)
        picked b is = rw is refl

        unchanged : (b : Bool) → nat_lt node.0 (length nodes.has) ≡ b → has_node (put_node nodes node) (node_no k) ≡ has_node nodes (node_no k)
        unchanged true below = node_put node.0 k nodes (grind (arith, nat_tests, below)) ∙ picked (k == node.0) other
        unchanged false past = get_or-set_other nodes.has node.0 k true false (λ same. grind (arith, nat_tests, other, same))

    by : (b : Bool) → (k == node.0) ≡ b → ((b || names_node more (node_no k)) ≡ true → k < length nodes.has)
        → ((names_node more (node_no k) ≡ true → k < length nodes.has) → has_node (joined (put_node nodes node) more) (node_no k) ≡ (has_node (put_node nodes node) (node_no k) || names_node more (node_no k)))
        → has_node (joined (put_node nodes node) more) (node_no k) ≡ (has_node nodes (node_no k) || (b || names_node more (node_no k)))
    by true is within rest =
        rest (λ named. within refl)
        ∙ (ap (λ (b : Bool). b || names_node more (node_no k)) (put_here (eqb-true k node.0 is) (within refl)) ∙ sym (or-true (has_node nodes (node_no k))))
    by false is within rest = rest within ∙ ap (λ (b : Bool). b || names_node more (node_no k)) (put_there is)

-- ---- all nodes that a run may have

pub all_named : (k : ℕ) → k < 16 → names_node all_nodes (node_no k) ≡ true
unfolding all_nodes
all_named k below = grind (arith, nat_tests, below)

pub none_past : (k : ℕ) → 16 ≤ k → names_node all_nodes (node_no k) ≡ false
unfolding all_nodes
none_past k past = grind (arith, nat_tests, past)

-- ---- the nodes that pass a test

pub where_length : (test : NodeNo → Bool) (list : List NodeNo) (nodes : Nodes) → length (fold (put_where test) nodes list).has ≡ length nodes.has
where_length test [] nodes = refl
where_length test (node ∷ list) nodes = by (test node) (where_length test list (put_node nodes node)) (where_length test list nodes)
  where
    by : (b : Bool) → length (fold (put_where test) (put_node nodes node) list).has ≡ length (put_node nodes node).has → length (fold (put_where test) nodes list).has ≡ length nodes.has
        → length (fold (put_where test) (if b then put_node nodes node else nodes) list).has ≡ length nodes.has
    by true put left = put ∙ put_length nodes node
    by false put left = left

-- ---- what a set lists

named_last : (k : ℕ) (node : NodeNo) (xs : List NodeNo) → names_node (xs ++ node ∷ []) (node_no k) ≡ (names_node xs (node_no k) || (k == node.0))
named_last k node [] = or-false (k == node.0)
named_last k node (x ∷ xs) = with_first (k == x.0) (named_last k node xs)
  where
    with_first : (a : Bool) → names_node (xs ++ node ∷ []) (node_no k) ≡ (names_node xs (node_no k) || (k == node.0)) → (a || names_node (xs ++ node ∷ []) (node_no k)) ≡ ((a || names_node xs (node_no k)) || (k == node.0))
    with_first true more = refl
    with_first false more = more

pub list_has : (nodes : Nodes) (k : ℕ) (list so_far : List NodeNo) → names_node (fold (with_listed nodes) so_far list) (node_no k) ≡ (names_node so_far (node_no k) || (names_node list (node_no k) && has_node nodes (node_no k)))
list_has nodes k [] so_far = false-or (names_node so_far (node_no k))
list_has nodes k (node ∷ list) so_far = by (has_node nodes node) refl (list_has nodes k list (so_far ++ node ∷ [])) (list_has nodes k list so_far)
  where
    kept : (a b c d : Bool) → (b ≡ true → d ≡ true) → ((a || b) || (c && d)) ≡ (a || ((b || c) && d))
    kept true b c d is = refl
    kept false true c d is = rw (is refl) refl
    kept false false c d is = refl

    dropped : (a b c d : Bool) → (b ≡ true → d ≡ false) → (a || (c && d)) ≡ (a || ((b || c) && d))
    dropped true b c d is = refl
    dropped false true true d is = rw (is refl) refl
    dropped false true false d is = rw (is refl) refl
    dropped false false c d is = refl

    same_flag : (k == node.0) ≡ true → has_node nodes (node_no k) ≡ has_node nodes node
    same_flag is = ap (λ (n : ℕ). has_node nodes (node_no n)) (eqb-true k node.0 is)

    by : (b : Bool) → has_node nodes node ≡ b
        → names_node (fold (with_listed nodes) (so_far ++ node ∷ []) list) (node_no k) ≡ (names_node (so_far ++ node ∷ []) (node_no k) || (names_node list (node_no k) && has_node nodes (node_no k)))
        → names_node (fold (with_listed nodes) so_far list) (node_no k) ≡ (names_node so_far (node_no k) || (names_node list (node_no k) && has_node nodes (node_no k)))
        → names_node (fold (with_listed nodes) (if b then so_far ++ node ∷ [] else so_far) list) (node_no k) ≡ (names_node so_far (node_no k) || (((k == node.0) || names_node list (node_no k)) && has_node nodes (node_no k)))
    by true has more less =
        more
        ∙ (ap (λ (b : Bool). b || (names_node list (node_no k) && has_node nodes (node_no k))) (named_last k node so_far)
        ∙ kept (names_node so_far (node_no k)) (k == node.0) (names_node list (node_no k)) (has_node nodes (node_no k)) (λ is. same_flag is ∙ has))
    by false lacks more less =
        less
        ∙ dropped (names_node so_far (node_no k)) (k == node.0) (names_node list (node_no k)) (has_node nodes (node_no k)) (λ is. same_flag is ∙ lacks)

pub listed_has : (nodes : Nodes) (k : ℕ) → length nodes.has ≡ 16 → names_node (listed nodes) (node_no k) ≡ has_node nodes (node_no k)
listed_has nodes k whole = list_has nodes k all_nodes [] ∙ by (nat_lt k 16) refl
  where
    by : (b : Bool) → nat_lt k 16 ≡ b → (names_node all_nodes (node_no k) && has_node nodes (node_no k)) ≡ has_node nodes (node_no k)
    by true below = ap (λ (b : Bool). b && has_node nodes (node_no k)) (all_named k (grind (arith, nat_tests, below)))
    by false past =
        ap (λ (b : Bool). b && has_node nodes (node_no k)) (none_past k (grind (arith, nat_tests, past)))
        ∙ sym (get_or_past nodes.has k false (rw whole (grind (arith, nat_tests, past))))

none_of : (nodes : Nodes) (k : ℕ) (list : List NodeNo) → list_any (has_node nodes) list ≡ false → names_node list (node_no k) ≡ true → has_node nodes (node_no k) ≡ false
none_of nodes k [] clear named = absurd (cc named)
none_of nodes k (node ∷ list) clear named = here (has_node nodes node) (k == node.0) refl refl clear named (none_of nodes k list)
  where
    here : (b c : Bool) → has_node nodes node ≡ b → (k == node.0) ≡ c → (b || list_any (has_node nodes) list) ≡ false → (c || names_node list (node_no k)) ≡ true
        → (list_any (has_node nodes) list ≡ false → names_node list (node_no k) ≡ true → has_node nodes (node_no k) ≡ false) → has_node nodes (node_no k) ≡ false
    here true c has is clear named more = absurd (cc clear)
    here false true has is clear named more = ap (λ (n : ℕ). has_node nodes (node_no n)) (eqb-true k node.0 is) ∙ has
    here false false has is clear named more = more clear named

-- an empty set has none
pub none_listed : (nodes : Nodes) (k : ℕ) → length nodes.has ≡ 16 → is_no_node nodes ≡ true → has_node nodes (node_no k) ≡ false
none_listed nodes k whole none = by (nat_lt k 16) refl
  where
    by : (b : Bool) → nat_lt k 16 ≡ b → has_node nodes (node_no k) ≡ false
    by true below = none_of nodes k all_nodes (not-true (list_any (has_node nodes) all_nodes) none) (all_named k (grind (arith, nat_tests, below)))
    by false past = get_or_past nodes.has k false (rw whole (grind (arith, nat_tests, past)))
