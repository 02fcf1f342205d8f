-- What is kept of the requests of clients that have no answer: by client, and by transaction and node; and that both say the same.
use Rattle.qs_book_laws.proofs.Words.{◌≡◌, ℕ, ◌+◌, ◌-◌, ◌==◌, ◌&&◌, Bool, true, false, List, [], ◌∷◌, ◌++◌, Option, Some, None, refl, sym, ap, subst, ◌∙◌, if◌then◌else◌, arith, nat_tests, is_some, unwrap_or, lookup, is_at, insert_entry, Ordering, Less, Equal, Greater, tied_itself, nat_cmp_total, exact_unsigned, same_tid, NodeNo, Tid, TransactionValue, changed_value, peer_of, node_cmp, heard, heard_by, Peer, Asking, zero_plus}
use Rattle.qs_book_machine.specs.Transaction.{no_peer}
use Rattle.qs_book_laws.proofs.Holding.{clash, same_number}
use Rattle.qs_book_laws.proofs.Maps.{lookup_changed, changed_apart, changed_none, lookup_put, lookup_put_apart}
use Rattle.qs_base_lemmas.proofs.Tests.{plus_zero}

-- a request of a client that has no answer since
pub record Waits : Type 0 where
  pub client : ℕ
  pub asking : Asking

abbrev pub is_to : Tid → NodeNo → Asking → Bool
is_to tid node asking = same_tid asking.tid tid && (asking.node.0 == node.0)

-- how many of them are of the transaction, to the node
abbrev pub times : Tid → NodeNo → List Asking → ℕ
times tid node [] = 0
times tid node (asking ∷ askings) = (if is_to tid node asking then 1 else 0) + times tid node askings

abbrev pub all_of : List Waits → List Asking
all_of [] = []
all_of (w ∷ ws) = w.asking ∷ all_of ws

-- those of a client, and those of the others
abbrev pub own_of : ℕ → List Waits → List Asking
own_of client [] = []
own_of client (w ∷ ws) = if w.client == client then w.asking ∷ own_of client ws else own_of client ws

abbrev pub without : ℕ → List Waits → List Waits
without client [] = []
without client (w ∷ ws) = if w.client == client then without client ws else w ∷ without client ws

-- ---- lists

add_over : (a b c : ℕ) → a + (b + c) ≡ b + (a + c)
add_over a b c = omega arith

add_assoc : (a b c : ℕ) → a + (b + c) ≡ (a + b) + c
add_assoc a b c = omega arith

pub times_split : (tid : Tid) (node : NodeNo) (client : ℕ) (ws : List Waits) → times tid node (all_of ws) ≡ times tid node (own_of client ws) + times tid node (all_of (without client ws))
times_split tid node client [] = refl
times_split tid node client (w ∷ ws) = by (w.client == client) (times_split tid node client ws)
  where
    one : ℕ
    one = if is_to tid node w.asking then 1 else 0

    by : (b : Bool) → times tid node (all_of ws) ≡ times tid node (own_of client ws) + times tid node (all_of (without client ws))
        → one + times tid node (all_of ws) ≡ times tid node (if b then w.asking ∷ own_of client ws else own_of client ws) + times tid node (all_of (if b then without client ws else w ∷ without client ws))
    by true h = ap (λ (n : ℕ). one + n) h ∙ add_assoc one (times tid node (own_of client ws)) (times tid node (all_of (without client ws)))
    by false h = ap (λ (n : ℕ). one + n) h ∙ add_over one (times tid node (own_of client ws)) (times tid node (all_of (without client ws)))

pub own_without : (client : ℕ) (ws : List Waits) → own_of client (without client ws) ≡ []
own_without client [] = refl
own_without client (w ∷ ws) = by (w.client == client) refl (own_without client ws)
  where
    by : (b : Bool) → (w.client == client) ≡ b → own_of client (without client ws) ≡ [] → own_of client (if b then without client ws else w ∷ without client ws) ≡ []
    by true is h = h
    by false is h = rw is h

pub own_others : (k client : ℕ) (ws : List Waits) → (client == k) ≡ false → own_of k (without client ws) ≡ own_of k ws
own_others k client [] far = refl
own_others k client (w ∷ ws) far = by (w.client == client) (w.client == k) refl refl (own_others k client ws far)
  where
    by : (b c : Bool) → (w.client == client) ≡ b → (w.client == k) ≡ c → own_of k (without client ws) ≡ own_of k ws
        → own_of k (if b then without client ws else w ∷ without client ws) ≡ (if c then w.asking ∷ own_of k ws else own_of k ws)
    by true true is has h = absurd (clash (subst (λ (n : ℕ). (n == k) ≡ true) (same_number w.client client is) has) far)
    by true false is has h = h
    by false true is has h = rw has (ap (λ (xs : List Asking). w.asking ∷ xs) h)
    by false false is has h = rw has h

pub own_more : (k : ℕ) (ws : List Waits) (w : Waits) → own_of k (ws ++ w ∷ []) ≡ own_of k ws ++ (if w.client == k then w.asking ∷ [] else [])
own_more k [] w = by (w.client == k)
  where
    by : (b : Bool) → (if b then w.asking ∷ [] else []) ≡ (if b then w.asking ∷ [] else [])
    by b = refl
own_more k (x ∷ ws) w = by (x.client == k) (own_more k ws w)
  where
    last : List Asking
    last = if w.client == k then w.asking ∷ [] else []

    by : (b : Bool) → own_of k (ws ++ w ∷ []) ≡ own_of k ws ++ last → (if b then x.asking ∷ own_of k (ws ++ w ∷ []) else own_of k (ws ++ w ∷ [])) ≡ (if b then x.asking ∷ own_of k ws else own_of k ws) ++ last
    by true h = ap (λ (xs : List Asking). x.asking ∷ xs) h
    by false h = h

pub times_more : (tid : Tid) (node : NodeNo) (ws : List Waits) (w : Waits) → times tid node (all_of (ws ++ w ∷ [])) ≡ times tid node (all_of ws) + (if is_to tid node w.asking then 1 else 0)
times_more tid node [] w = plus_zero (if is_to tid node w.asking then 1 else 0) ∙ sym (zero_plus (if is_to tid node w.asking then 1 else 0))
times_more tid node (x ∷ ws) w =
    ap (λ (n : ℕ). (if is_to tid node x.asking then 1 else 0) + n) (times_more tid node ws w)
    ∙ add_assoc (if is_to tid node x.asking then 1 else 0) (times tid node (all_of ws)) (if is_to tid node w.asking then 1 else 0)

-- ---- peers

pub node_itself : (n : NodeNo) → node_cmp n n ≡ Equal
node_itself n = tied_itself nat_cmp_total n.0

pub node_exact : (m n : NodeNo) → is_at (node_cmp m) n ≡ true → m ≡ n
node_exact m n = by (node_cmp m n) refl
  where
    node_of : ℕ → NodeNo
    node_of k = record { 0 = k }

    by : (o : Ordering) → node_cmp m n ≡ o → is_at (node_cmp m) n ≡ true → m ≡ n
    by Less is h = absurd (cc (rw is at h))
    by Equal is h = ap node_of (exact_unsigned m.0 n.0 is)
    by Greater is h = absurd (cc (rw is at h))

pub same_node : (m n : NodeNo) → (m.0 == n.0) ≡ true → m ≡ n
same_node m n h = ap node_of (same_number m.0 n.0 h)
  where
    node_of : ℕ → NodeNo
    node_of k = record { 0 = k }

far_node : (m n : NodeNo) → (m.0 == n.0) ≡ false → is_at (node_cmp n) m ≡ false
far_node m n h = by (is_at (node_cmp n) m) refl
  where
    equal : (a b : ℕ) → a ≡ b → (b == a) ≡ true
    equal a b e = grind (arith, nat_tests)

    by : (b : Bool) → is_at (node_cmp n) m ≡ b → b ≡ false
    by false is = refl
    by true is = absurd (clash (equal n.0 m.0 (ap (λ (x : NodeNo). x.0) (node_exact n m is))) h)

module _ (node : NodeNo) where
  abbrev peer_in : List (NodeNo × Peer) → Peer
  peer_in peers = unwrap_or (lookup (is_at (node_cmp node)) peers) no_peer

  -- a peer that is put in its place
  pub put_peer : (peers : List (NodeNo × Peer)) (to : NodeNo) (peer : Peer) → peer_in (insert_entry node_cmp peers to peer) ≡ (if to.0 == node.0 then peer else peer_in peers)
  put_peer peers to peer = by (to.0 == node.0) refl
    where
      at : (n : NodeNo) → lookup (is_at (node_cmp n)) (insert_entry node_cmp peers n peer) ≡ Some peer
      at n = lookup_put node_cmp n peer (node_itself n) peers

      exact : (x : NodeNo) → node_cmp to x ≡ Equal → to ≡ x
      exact x same = node_exact to x (rw same refl)

      by : (b : Bool) → (to.0 == node.0) ≡ b → peer_in (insert_entry node_cmp peers to peer) ≡ (if b then peer else peer_in peers)
      by true is = subst (λ (n : NodeNo). peer_in (insert_entry node_cmp peers n peer) ≡ peer) (sym (same_node to node is)) (ap (λ (o : Option Peer). unwrap_or o no_peer) (at node))
      by false is = ap (λ (o : Option Peer). unwrap_or o no_peer) (lookup_put_apart node_cmp to peer exact (is_at (node_cmp node)) (far_node to node is) peers)

  -- or changed where it is
  pub change_peer : (peers : List (NodeNo × Peer)) (to : NodeNo) (f : Peer → Peer)
      → peer_in (changed_value (is_at (node_cmp to)) f peers) ≡ (if (to.0 == node.0) && is_some (lookup (is_at (node_cmp node)) peers) then f (peer_in peers) else peer_in peers)
  change_peer peers to f = by (to.0 == node.0) refl
    where
      here : (o : Option Peer) → lookup (is_at (node_cmp node)) peers ≡ o → peer_in (changed_value (is_at (node_cmp node)) f peers) ≡ (if is_some o then f (peer_in peers) else peer_in peers)
      here None is = ap (λ (o : Option Peer). unwrap_or o no_peer) (changed_none (is_at (node_cmp node)) f peers is ∙ sym is)
      here (Some peer) is = ap (λ (o : Option Peer). unwrap_or o no_peer) (lookup_changed (is_at (node_cmp node)) f peers peer is) ∙ ap (λ (o : Option Peer). f (unwrap_or o no_peer)) (sym is)

      apart : (to.0 == node.0) ≡ false → (k : NodeNo) → is_at (node_cmp node) k ≡ true → is_at (node_cmp to) k ≡ false
      apart is k at = subst (λ (x : NodeNo). is_at (node_cmp to) x ≡ false) (node_exact node k at) (far_node node to (swapped is))
        where
          swapped : (to.0 == node.0) ≡ false → (node.0 == to.0) ≡ false
          swapped h = grind (arith, nat_tests)

      by : (b : Bool) → (to.0 == node.0) ≡ b → peer_in (changed_value (is_at (node_cmp to)) f peers) ≡ (if b && is_some (lookup (is_at (node_cmp node)) peers) then f (peer_in peers) else peer_in peers)
      by true is =
          subst (λ (n : NodeNo). peer_in (changed_value (is_at (node_cmp n)) f peers) ≡ (if is_some (lookup (is_at (node_cmp node)) peers) then f (peer_in peers) else peer_in peers)) (sym (same_node to node is))
          (here (lookup (is_at (node_cmp node)) peers) refl)
      by false is = ap (λ (o : Option Peer). unwrap_or o no_peer) (changed_apart (is_at (node_cmp to)) (is_at (node_cmp node)) (apart is) f peers)

-- ---- an answer

less_one : (n : ℕ) → n - 0 ≡ n
less_one n = omega arith

-- it lowers what waits by each request that it answers
module _ (tid : Tid) (node : NodeNo) where
  abbrev pub waiting : TransactionValue → ℕ
  waiting tx = (peer_of tx node).waiting

  pub heard_waiting : (to : NodeNo) (inc : ℕ) (tx : TransactionValue) → waiting (heard to inc tx) ≡ waiting tx - (if to.0 == node.0 then 1 else 0)
  heard_waiting to inc tx = ap (λ (p : Peer). p.waiting) (change_peer node tx.peers to (heard_by inc)) ∙ by (to.0 == node.0) (lookup (is_at (node_cmp node)) tx.peers)
    where
      by : (b : Bool) (o : Option Peer) → (if b && is_some o then heard_by inc (unwrap_or o no_peer) else unwrap_or o no_peer).waiting ≡ (unwrap_or o no_peer).waiting - (if b then 1 else 0)
      by true (Some peer) = refl
      by true None = refl
      by false o = sym (less_one (unwrap_or o no_peer).waiting)
