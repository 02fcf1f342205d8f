-- A node stays sound where it counts what answers for requests that it sent.
use Rattle.qs_world_refine.proofs.Words.{◌≡◌, ℕ, ◌<◌, ◌≤◌, ◌==◌, ◌&&◌, ◌||◌, not, max, Bool, true, false, List, [], ◌∷◌, length, Option, Some, None, nat_le, nat_lt, refl, sym, ap, subst, ◌∙◌, arith, if◌then◌else◌, list_all, eqb-true, nat_tests, length-set, NodeNo, Tid, peer_of, same_node, joined, PeerPart, is_undecided, Participant, count, NodeValue, part_of, is_audit, names_node, node_no, is_sound, fits_setting, is_sound_part, where_so, is_whole, is_sound_peer, StaysSound}
use Rattle.qs_engage.specs.Nodes.{all_nodes, has_node}
use Rattle.qs_tm.specs.Participant as participant
use Rattle.qs_world_refine.specs.SoundLaws.{CloserCameSound}
use Rattle.qs_world_refine.proofs.Arrays.{peer_put, node_dropped}
use Rattle.qs_world_refine.proofs.NodeSets.{joined_length, joined_has}
use Rattle.qs_world_refine.proofs.SoundParts.{and_both, all_found, part_sound}
use Rattle.qs_world_refine.proofs.SoundBegin.{all_implied}
use Rattle.qs_world_refine.proofs.SoundViews.{PartSound, seen, part_seen, part_as}

-- what holds of each node of a list holds of one that it names
pub all_at : (q : NodeNo → Bool) (nodes : List NodeNo) (k : ℕ) → list_all q nodes ≡ true → names_node nodes (node_no k) ≡ true → q (node_no k) ≡ true
all_at q [] k all named = absurd (cc (named))
all_at q (node ∷ nodes) k all named = by (k == node.0) refl (all_at q nodes k (and_both (q node) (list_all q nodes) all).1)
  where
    by : (b : Bool) → (k == node.0) ≡ b → (names_node nodes (node_no k) ≡ true → q (node_no k) ≡ true) → q (node_no k) ≡ true
    by true is more = subst (λ (n : ℕ). q (node_no n) ≡ true) (sym (eqb-true k node.0 is)) (and_both (q node) (list_all q nodes) all).0
    by false is more = more (rw is at named)

-- a run has at most 16 nodes
pub few_nodes : (node : NodeValue) → fits_setting node ≡ true → nat_le node.setting.nodes 16 ≡ true
few_nodes node fits =
    (and_both (nat_le node.setting.nodes 16) (nat_lt 0 node.setting.inc)
    (and_both (nat_lt node.setting.node.0 node.setting.nodes) (nat_le node.setting.nodes 16 && nat_lt 0 node.setting.inc)
    (and_both (nat_lt node.setting.node.0 node.setting.nodes && (nat_le node.setting.nodes 16 && nat_lt 0 node.setting.inc)) _ fits).0).1).0

-- the node at which files note their changes is of the run
pub audit_fits : (node : NodeValue) → fits_setting node ≡ true → is_audit node.setting.nodes node.setting.audit ≡ true
audit_fits node fits =
    (and_both (node.manager.keep == node.setting.keep) (is_audit node.setting.nodes node.setting.audit)
    (and_both (node.manager.extra == node.setting.extra) _ (and_both (node.manager.inc == node.setting.inc) _ (and_both (same_node node.manager.node node.setting.node) _
    (and_both (nat_lt node.setting.node.0 node.setting.nodes && (nat_le node.setting.nodes 16 && nat_lt 0 node.setting.inc)) _ fits).1).1).1).1).1

pub peers_length : (part : Participant) → is_whole part ≡ true → length part.engage.peers ≡ 16
peers_length part is = eqb-true (length part.engage.peers) 16 (and_both (length part.engage.peers == 16) (length part.members == 7) (and_both ((length part.engage.peers == 16) && (length part.members == 7)) _ is).0).0

pub told_length : (part : Participant) → is_whole part ≡ true → length part.told.has ≡ 16
told_length part is = eqb-true (length part.told.has) 16 (and_both (length part.told.has == 16) _ (and_both ((length part.engage.peers == 16) && (length part.members == 7)) _ is).1).0

module _ (tid : Tid) (peer : NodeNo) (up_to : ℕ) (told : List NodeNo) (node : NodeValue) (small : nat_le node.setting.nodes 16 ≡ true) (within : peer.0 < 16) (home_in : tid.home.0 < 16)
    (named : (k : ℕ) → names_node told (node_no k) ≡ true → nat_lt k node.setting.nodes ≡ true) (part : Participant) (put : up_to ≤ (peer_of part.engage peer).sent) where
  abbrev new : Participant
  new = participant.counted tid.home peer up_to told part

  abbrev more : PeerPart
  more = record (peer_of part.engage peer) { covered = max (peer_of part.engage peer).covered up_to }

  module _ (s : PartSound node tid part) where
    -- who is told is of the run
    told_is : (k : ℕ) → has_node new.told (node_no k) ≡ (if k == tid.home.0 then false else has_node part.told (node_no k) || names_node told (node_no k))
    told_is k = node_dropped tid.home.0 k (joined part.told told) (rw (joined_length told part.told, told_length part s.whole) home_in)
        ∙ ap (λ (b : Bool). if k == tid.home.0 then false else b) (joined_has told part.told k (λ is. rw (told_length part s.whole) (grind (arith, nat_tests, small, named k is))))

    home_out : not (has_node new.told tid.home) ≡ true
    home_out = ap (λ (b : Bool). not b) (told_is tid.home.0 ∙ by (tid.home.0 == tid.home.0) (grind (arith, nat_tests)))
      where
        by : (b : Bool) → b ≡ true → (if b then false else has_node part.told (node_no tid.home.0) || names_node told (node_no tid.home.0)) ≡ false
        by b is = rw is refl

    told_sound : (q : NodeNo) → where_so (has_node part.told q) (nat_lt q.0 node.setting.nodes) ≡ true → where_so (has_node new.told q) (nat_lt q.0 node.setting.nodes) ≡ true
    told_sound q is = subst (λ (b : Bool). where_so b (nat_lt q.0 node.setting.nodes) ≡ true) (sym (told_is q.0)) (by (q.0 == tid.home.0) (has_node part.told q) (names_node told q) refl is)
      where
        by : (a b c : Bool) → names_node told q ≡ c → where_so b (nat_lt q.0 node.setting.nodes) ≡ true → where_so (if a then false else (b || c)) (nat_lt q.0 node.setting.nodes) ≡ true
        by true b c is so = refl
        by false true c is so = so
        by false false true is so = named q.0 is
        by false false false is so = refl

    -- with the entry of a peer
    abbrev entry_sound : PeerPart → Bool → NodeNo → Bool
    entry_sound entry has q =
        nat_le entry.covered entry.sent
        && (where_so (nat_lt 0 entry.sent) (part.involved && (nat_lt q.0 node.setting.nodes && not (same_node q node.setting.node)))
        && where_so has (nat_lt q.0 node.setting.nodes))

    covered : nat_le (peer_of part.engage peer).covered (peer_of part.engage peer).sent ≡ true → nat_le more.covered more.sent ≡ true
    covered is = grind (arith, nat_tests, is, put)

    peer_sound : (q : NodeNo) → is_sound_peer node part q ≡ true → is_sound_peer node new q ≡ true
    peer_sound q is = by (q.0 == peer.0) refl
      where
        now : peer_of new.engage q ≡ (if q.0 == peer.0 then more else peer_of part.engage q)
        now = peer_put peer.0 q.0 more part.engage (rw (peers_length part s.whole) within)

        kept : (a c b d e : Bool) → (a ≡ true → c ≡ true) → (d ≡ true → e ≡ true) → (a && (b && d)) ≡ true → (c && (b && e)) ≡ true
        kept true c true true e first last so = rw (first refl, last refl) refl
        kept true c true false e first last so = absurd (cc (so))
        kept true c false d e first last so = absurd (cc (so))
        kept false c b d e first last so = absurd (cc (so))

        by : (b : Bool) → (q.0 == peer.0) ≡ b → is_sound_peer node new q ≡ true
        by true same = subst (λ (entry : PeerPart). entry_sound entry (has_node new.told q) q ≡ true) (sym (now ∙ picked same))
            (kept (nat_le (peer_of part.engage peer).covered (peer_of part.engage peer).sent) (nat_le more.covered more.sent) (where_so (nat_lt 0 more.sent) (part.involved && (nat_lt q.0 node.setting.nodes && not (same_node q node.setting.node))))
            (where_so (has_node part.told q) (nat_lt q.0 node.setting.nodes)) (where_so (has_node new.told q) (nat_lt q.0 node.setting.nodes)) covered (told_sound q)
            (subst (λ (k : ℕ). entry_sound (peer_of part.engage (node_no k)) (has_node part.told q) q ≡ true) (eqb-true q.0 peer.0 same) is))
          where
            picked : (q.0 == peer.0) ≡ true → (if q.0 == peer.0 then more else peer_of part.engage q) ≡ more
            picked is = rw is refl
        by false apart = subst (λ (entry : PeerPart). entry_sound entry (has_node new.told q) q ≡ true) (sym (now ∙ left apart))
            (kept (nat_le (peer_of part.engage q).covered (peer_of part.engage q).sent) (nat_le (peer_of part.engage q).covered (peer_of part.engage q).sent) (where_so (nat_lt 0 (peer_of part.engage q).sent) (part.involved && (nat_lt q.0 node.setting.nodes && not (same_node q node.setting.node))))
            (where_so (has_node part.told q) (nat_lt q.0 node.setting.nodes)) (where_so (has_node new.told q) (nat_lt q.0 node.setting.nodes)) (λ so. so) (told_sound q) is)
          where
            left : (q.0 == peer.0) ≡ false → (if q.0 == peer.0 then more else peer_of part.engage q) ≡ peer_of part.engage q
            left is = rw is refl

    new_whole : is_whole new ≡ true
    new_whole = rw (length-set part.engage.peers peer.0 more, length-set (joined part.told told).has tid.home.0 false, joined_length told part.told) s.whole

    counted_sound : PartSound node tid new
    counted_sound = record {
      whole = new_whole;
      homed = s.homed;
      peers = all_implied (is_sound_peer node part) (is_sound_peer node new) peer_sound all_nodes s.peers;
      members = s.members;
      superior = s.superior;
      outside = home_out;
      idle = s.idle;
      began = s.began;
      logged = s.logged;
      silent = s.silent;
    }

pub closer_came_sound : CloserCameSound
closer_came_sound peer tid up_to told work within home_in named put sound = by (part_of tid work) refl sound
  where
    counted : (part : Participant) → part_of tid work ≡ Some part → is_undecided part ≡ true → is_sound (count peer tid up_to told work).node ≡ true
    counted part known undecided =
        let s = seen work.node sound in
        part_sound tid (participant.counted tid.home peer up_to told) work.node part known refl
        (part_as work.node tid (participant.counted tid.home peer up_to told part)
        (counted_sound tid peer up_to told work.node (few_nodes work.node s.fits) within home_in named part (put part known undecided)
        (part_seen work.node tid part (all_found tid (is_sound_part work.node) work.node.manager.known part known s.parts)))) sound

    picked : (part : Participant) → part_of tid work ≡ Some part → (b : Bool) → is_undecided part ≡ b → is_sound (if b then count peer tid up_to told work else work).node ≡ true
    picked part known true undecided = counted part known undecided
    picked part known false decided = sound

    by : (o : Option Participant) → part_of tid work ≡ o → StaysSound work (elim o [ None ↦ work | Some part ↦ if is_undecided part then count peer tid up_to told work else work ])
    by None none so = so
    by (Some part) known so = picked part known (is_undecided part) refl
