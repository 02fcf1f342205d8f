-- Which nodes are in a set of those that pass a test, and in the sets that are built so.
use Rattle.qs_world_refine.proofs.Words.{◌≡◌, ℕ, ◌<◌, ◌≤◌, ◌==◌, ◌&&◌, ◌||◌, not, Bool, true, false, List, [], ◌∷◌, length, fold, arith, refl, sym, ap, ◌∙◌, if◌then◌else◌, nat_lt, slice_index_or, eqb-true, nat_tests, set_past, get_or_past, NodeNo, no_peer, peer_of, no_nodes, put_node, put_where, without, has_all, Nodes, drawn_in, Participant, node_no, names_node, IsWhole, false-or}
use Rattle.qs_engage.specs.Engage.{has_sent, sent_to}
use Rattle.qs_engage.specs.Nodes.{all_nodes, has_node, nodes_where}
use Rattle.qs_world_refine.proofs.Arrays.{node_put}
use Rattle.qs_world_refine.proofs.NodeSets.{put_length, where_length, all_named, none_listed}
use Rattle.qs_world_refine.proofs.StartWorlds.{nobody}

put_past : (nodes : Nodes) (node : NodeNo) (k : ℕ) → nat_lt node.0 (length nodes.has) ≡ false → has_node (put_node nodes node) (node_no k) ≡ has_node nodes (node_no k)
put_past nodes node k past = ap (λ (l : List Bool). slice_index_or l k false) (set_past nodes.has node.0 true (grind (arith, nat_tests, past)))

-- what is put into a set is there, and all else is as it was
put_is : (nodes : Nodes) (node : NodeNo) (k : ℕ) → length nodes.has ≡ 16 → k < 16 → has_node (put_node nodes node) (node_no k) ≡ (if k == node.0 then true else has_node nodes (node_no k))
put_is nodes node k whole below = by (nat_lt node.0 (length nodes.has)) refl
  where
    apart : nat_lt node.0 (length nodes.has) ≡ false → (k == node.0) ≡ false
    apart past = off (length nodes.has) whole past
      where
        off : (l : ℕ) → l ≡ 16 → nat_lt node.0 l ≡ false → (k == node.0) ≡ false
        off l is past = grind (arith, nat_tests, is, past, below)

    by : (b : Bool) → nat_lt node.0 (length nodes.has) ≡ b → has_node (put_node nodes node) (node_no k) ≡ (if k == node.0 then true else has_node nodes (node_no k))
    by true within = node_put node.0 k nodes (grind (arith, nat_tests, within))
    by false past = put_past nodes node k past ∙ rw (apart past) refl

module _ (test : NodeNo → Bool) (k : ℕ) (below : k < 16) where
  -- a fold puts just those of its list that pass
  where_fold : (list : List NodeNo) (nodes : Nodes) → length nodes.has ≡ 16 → has_node (fold (put_where test) nodes list) (node_no k) ≡ (has_node nodes (node_no k) || (names_node list (node_no k) && test (node_no k)))
  where_fold [] nodes whole = false-or (has_node nodes (node_no k))
  where_fold (node ∷ list) nodes whole = by (test node) refl (where_fold list (put_node nodes node) (put_length nodes node ∙ whole)) (where_fold list nodes whole)
    where
      same : (k == node.0) ≡ true → test (node_no k) ≡ test node
      same is = ap (λ (n : ℕ). test (node_no n)) (eqb-true k node.0 is)

      with_it : (c h l t : Bool) → (c ≡ true → t ≡ true) → ((if c then true else h) || (l && t)) ≡ (h || ((c || l) && t))
      with_it true h l t is = rw (is refl) (one h)
        where
          one : (h : Bool) → true ≡ (h || true)
          one true = refl
          one false = refl
      with_it false h l t is = refl

      without_it : (c h l t : Bool) → (c ≡ true → t ≡ false) → (h || (l && t)) ≡ (h || ((c || l) && t))
      without_it true h l t is = rw (is refl) (both h l)
        where
          both : (h l : Bool) → (h || (l && false)) ≡ (h || false)
          both h true = refl
          both h false = refl
      without_it false h l t is = refl

      by : (b : Bool) → test node ≡ b → has_node (fold (put_where test) (put_node nodes node) list) (node_no k) ≡ (has_node (put_node nodes node) (node_no k) || (names_node list (node_no k) && test (node_no k)))
          → has_node (fold (put_where test) nodes list) (node_no k) ≡ (has_node nodes (node_no k) || (names_node list (node_no k) && test (node_no k)))
          → has_node (fold (put_where test) (if b then put_node nodes node else nodes) list) (node_no k) ≡ (has_node nodes (node_no k) || (((k == node.0) || names_node list (node_no k)) && test (node_no k)))
      by true is more less = more ∙ (ap (λ (b : Bool). b || (names_node list (node_no k) && test (node_no k))) (put_is nodes node k whole below) ∙ with_it (k == node.0) (has_node nodes (node_no k)) (names_node list (node_no k)) (test (node_no k)) (λ c. same c ∙ is))
      by false is more less = less ∙ without_it (k == node.0) (has_node nodes (node_no k)) (names_node list (node_no k)) (test (node_no k)) (λ c. same c ∙ is)

  pub where_is : has_node (nodes_where test) (node_no k) ≡ test (node_no k)
  where_is = where_fold all_nodes no_nodes refl ∙ (ap (λ (b : Bool). has_node no_nodes (node_no k) || (b && test (node_no k))) (all_named k below) ∙ ap (λ (b : Bool). b || test (node_no k)) (nobody k))

pub where_past : (test : NodeNo → Bool) (k : ℕ) → 16 ≤ k → has_node (nodes_where test) (node_no k) ≡ false
where_past test k past = get_or_past (nodes_where test).has k false (rw (where_length test all_nodes no_nodes) past)

pub in_run : (nodes : Nodes) (k : ℕ) → length nodes.has ≡ 16 → has_node nodes (node_no k) ≡ true → k < 16
in_run nodes k whole has = within (nat_lt k 16) refl
  where
    within : (b : Bool) → nat_lt k 16 ≡ b → k < 16
    within true is = grind (arith, nat_tests, is)
    within false past = absurd (let none : has_node nodes (node_no k) ≡ false = get_or_past nodes.has k false (rw whole (grind (arith, nat_tests, past))) in cc (has, none))

-- ---- one set has all of another

pub has_all_of : (nodes other : Nodes) (k : ℕ) → length other.has ≡ 16 → has_all nodes other ≡ true → has_node other (node_no k) ≡ true → has_node nodes (node_no k) ≡ true
has_all_of nodes other k whole all has = by (has_node nodes (node_no k)) refl
  where
    by : (b : Bool) → has_node nodes (node_no k) ≡ b → b ≡ true
    by true is = refl
    by false lacks = absurd (
        let there : has_node (without other nodes) (node_no k) ≡ true = where_is (λ node. has_node other node && not (has_node nodes node)) k (in_run other k whole has) ∙ rw (has, lacks) refl in
        let none : has_node (without other nodes) (node_no k) ≡ false = none_listed (without other nodes) k (where_length (λ node. has_node other node && not (has_node nodes node)) all_nodes no_nodes) all in cc (there, none))

-- ---- those that a node drew in are those of its told set, and those that it sent a request

pub drawn_has : (part : Participant) (k : ℕ) → IsWhole part → has_node (drawn_in part) (node_no k) ≡ (if has_node part.told (node_no k) then true else (if (peer_of part.engage (node_no k)).sent == 0 then false else true))
drawn_has part k whole = by (nat_lt k 16) refl
  where
    either : (a b c : Bool) → b ≡ (if c then false else true) → (b || a) ≡ (if a then true else (if c then false else true))
    either true true c is = refl
    either false true true is = is
    either false true false is = refl
    either true false c is = refl
    either false false c is = is

    some : (n : ℕ) → nat_lt 0 n ≡ (if n == 0 then false else true)
    some n = by (n == 0) refl
      where
        by : (b : Bool) → (n == 0) ≡ b → nat_lt 0 n ≡ (if b then false else true)
        by true is = grind (arith, nat_tests, is)
        by false is = grind (arith, nat_tests, is)

    none_past : 16 ≤ k → (if has_node part.told (node_no k) then true else (if (peer_of part.engage (node_no k)).sent == 0 then false else true)) ≡ false
    none_past past = rw (get_or_past part.told.has k false (rw whole.told past), get_or_past part.engage.peers k no_peer (rw whole.peers past)) refl

    by : (b : Bool) → nat_lt k 16 ≡ b → has_node (drawn_in part) (node_no k) ≡ (if has_node part.told (node_no k) then true else (if (peer_of part.engage (node_no k)).sent == 0 then false else true))
    by true is =
        where_is (λ node. has_node (sent_to part.engage) node || has_node part.told node) k (grind (arith, nat_tests, is))
        ∙ either (has_node part.told (node_no k)) (has_node (sent_to part.engage) (node_no k)) ((peer_of part.engage (node_no k)).sent == 0)
        (where_is (λ peer. has_sent peer part.engage) k (grind (arith, nat_tests, is)) ∙ some (peer_of part.engage (node_no k)).sent)
    by false is = where_past (λ node. has_node (sent_to part.engage) node || has_node part.told node) k (grind (arith, nat_tests, is)) ∙ sym (none_past (grind (arith, nat_tests, is)))
