-- What is found in the arrays of what a node keeps of a transaction, after a change at one place.
use Rattle.qs_world_refine.proofs.Words.{◌≡◌, ℕ, ◌<◌, ◌==◌, Bool, true, false, length, refl, arith, if◌then◌else◌, eqb-true, nat_tests, get_or-set_other, no_peer, peer_of, with_peer, put_node, PeerPart, Nodes, no_member, member_of, with_member, MemberPart, Participant, node_no, server_no}
use Rattle.std.specs.Prelude.{slice_set}
use Rattle.std.proofs.lemmas.List.{get_or-set_same}
use Rattle.qs_engage.specs.Nodes.{has_node, drop_node}
use Rattle.qs_engage.specs.declared.engage.Engage.{Engage}

pub peer_put : (m k : ℕ) (p : PeerPart) (e : Engage) → m < length e.peers → peer_of (with_peer (node_no m) p e) (node_no k) ≡ (if k == m then p else peer_of e (node_no k))
peer_put m k p e within = by (k == m) refl
  where
    by : (b : Bool) → (k == m) ≡ b → peer_of (with_peer (node_no m) p e) (node_no k) ≡ (if b then p else peer_of e (node_no k))
    by true is = rw (eqb-true k m is) (get_or-set_same e.peers m p no_peer within)
    by false is = get_or-set_other e.peers m k p no_peer (λ same. grind (arith, nat_tests, is, same))

pub member_put : (s r : ℕ) (member : MemberPart) (part : Participant) → s < length part.members → member_of (with_member (server_no s) member part) (server_no r) ≡ (if r == s then member else member_of part (server_no r))
member_put s r member part within = by (r == s) refl
  where
    by : (b : Bool) → (r == s) ≡ b → member_of (with_member (server_no s) member part) (server_no r) ≡ (if b then member else member_of part (server_no r))
    by true is = rw (eqb-true r s is) (get_or-set_same part.members s member no_member within)
    by false is = get_or-set_other part.members s r member no_member (λ same. grind (arith, nat_tests, is, same))

flag_put : (m k : ℕ) (flag : Bool) (nodes : Nodes) → m < length nodes.has → has_node (record nodes { has = slice_set nodes.has m flag }) (node_no k) ≡ (if k == m then flag else has_node nodes (node_no k))
flag_put m k flag nodes within = by (k == m) refl
  where
    by : (b : Bool) → (k == m) ≡ b → has_node (record nodes { has = slice_set nodes.has m flag }) (node_no k) ≡ (if b then flag else has_node nodes (node_no k))
    by true is = rw (eqb-true k m is) (get_or-set_same nodes.has m flag false within)
    by false is = get_or-set_other nodes.has m k flag false (λ same. grind (arith, nat_tests, is, same))

pub node_put : (m k : ℕ) (nodes : Nodes) → m < length nodes.has → has_node (put_node nodes (node_no m)) (node_no k) ≡ (if k == m then true else has_node nodes (node_no k))
node_put m k nodes within = flag_put m k true nodes within

pub node_dropped : (m k : ℕ) (nodes : Nodes) → m < length nodes.has → has_node (drop_node nodes (node_no m)) (node_no k) ≡ (if k == m then false else has_node nodes (node_no k))
node_dropped m k nodes within = flag_put m k false nodes within
