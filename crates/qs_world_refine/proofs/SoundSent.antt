-- A node stays sound where a request goes to another node.
use Rattle.qs_world_refine.proofs.Words.{◌≡◌, ℕ, ◌+◌, ◌==◌, ◌&&◌, ◌||◌, not, Bool, true, false, length, Option, Some, None, nat_le, nat_lt, refl, sym, subst, ◌∙◌, arith, if◌then◌else◌, list_all, is_at, nat_tests, length-set, tid_cmp, NodeNo, Tid, peer_of, with_peer, last_number, same_node, PeerPart, is_abort, is_undecided, Participant, send, enter_issue, ask_on, is_asked, label_of, NodeValue, Work, with_manager, is_sound, fits_setting, in_order, is_sound_part, where_so, is_whole, same_flag}
use Rattle.qs_world_refine.proofs.Words.{is_sound_peer, is_sound_member, is_sound_superior, is_engaged, is_sound_home, tells_nobody}
use Rattle.qs_engage.specs.Nodes.{all_nodes, has_node}
use Rattle.qs_packet.specs.declared.message.Message.TheVariants as messages
use Rattle.qs_tm.specs.Manager as tm
use Rattle.qs_tm.specs.Members.{all_servers}
use Rattle.qs_tm.specs.Participant as participant
use Rattle.qs_world_refine.specs.Sound.{is_idle}
use Rattle.qs_world_refine.specs.SoundLaws.{IssueAwaySound}
use Rattle.qs_world_refine.proofs.Arrays.{peer_put}
use Rattle.qs_world_refine.proofs.Maps.{changed_none}
use Rattle.qs_world_refine.proofs.SoundBegin.{all_implied}
use Rattle.qs_world_refine.proofs.SoundParts.{and_both, all_found, part_sound, hidden_sound}
use Rattle.qs_world_refine.proofs.SoundRules.{send_node}

pub so_true : (b : Bool) → where_so b true ≡ true
so_true true = refl
so_true false = refl

-- what is said of the participant, where four of the tests change
glue : (w f p r n i u v l x y q z : Bool) → (w ≡ true → y ≡ true) → (p ≡ true → q ≡ true) → z ≡ true
    → (((w && f) && (p && r)) && ((n && i) && ((u && (v && l)) && x))) ≡ true
    → (((y && f) && (q && r)) && ((n && i) && ((u && (z && l)) && x))) ≡ true
glue w f p r n i u v l x y q z more peers logged is =
    let a : (((w && f) && (p && r)) ≡ true) × (((n && i) && ((u && (v && l)) && x)) ≡ true) = and_both ((w && f) && (p && r)) _ is in
    let b : ((w && f) ≡ true) × ((p && r) ≡ true) = and_both (w && f) _ a.0 in
    let c : ((n && i) ≡ true) × (((u && (v && l)) && x) ≡ true) = and_both (n && i) _ a.1 in
    let d : (n ≡ true) × (i ≡ true) = and_both n i c.0 in
    let e : ((u && (v && l)) ≡ true) × (x ≡ true) = and_both (u && (v && l)) _ c.1 in
    let g : (u ≡ true) × ((v && l) ≡ true) = and_both u _ e.0 in
    rw (more (and_both w f b.0).0, (and_both w f b.0).1, peers (and_both p r b.1).0, (and_both p r b.1).1, d.0, d.1, g.0, logged, (and_both v l g.1).1, e.1) refl

module _ (tid : Tid) (to : NodeNo) (node : NodeValue) (in_run : nat_lt to.0 node.setting.nodes ≡ true) (other : same_node to node.setting.node ≡ false) (small : nat_le node.setting.nodes 16 ≡ true) (part : Participant) where
  abbrev more : PeerPart
  more = record (peer_of part.engage to) { sent = (peer_of part.engage to).sent + 1 }

  abbrev sent_part : Participant
  sent_part = record part { engage = with_peer to more part.engage; involved = true }

  abbrev drawn_part : Participant
  drawn_part = record part { involved = true }

  -- with the entry of a peer
  abbrev entry_sound : PeerPart → Bool → NodeNo → Bool
  entry_sound entry involved peer =
      nat_le entry.covered entry.sent
      && (where_so (nat_lt 0 entry.sent) (involved && (nat_lt peer.0 node.setting.nodes && not (same_node peer node.setting.node)))
      && where_so (has_node part.told peer) (nat_lt peer.0 node.setting.nodes))

  drawn : (entry : PeerPart) (peer : NodeNo) → entry_sound entry part.involved peer ≡ true → entry_sound entry true peer ≡ true
  drawn entry peer is = by part.involved is
    where
      by : (b : Bool) → entry_sound entry b peer ≡ true → entry_sound entry true peer ≡ true
      by true is = is
      by false is = kept (nat_le entry.covered entry.sent) (nat_lt 0 entry.sent) _ _ is
        where
          kept : (a b c d : Bool) → (a && (where_so b false && d)) ≡ true → (a && (where_so b c && d)) ≡ true
          kept true true c d is = absurd (cc (is))
          kept true false c d is = is
          kept false b c d is = absurd (cc (is))

  counted : (peer : NodeNo) → peer.0 ≡ to.0 → entry_sound (peer_of part.engage to) part.involved peer ≡ true → entry_sound more true peer ≡ true
  counted peer same is =
      let first : (nat_le (peer_of part.engage to).covered (peer_of part.engage to).sent ≡ true) × _ = and_both (nat_le (peer_of part.engage to).covered (peer_of part.engage to).sent) _ is in
      by (nat_le (peer_of part.engage to).covered ((peer_of part.engage to).sent + 1)) (grind (arith, nat_tests, first.0)) (nat_lt 0 ((peer_of part.engage to).sent + 1)) (nat_lt peer.0 node.setting.nodes) (rw same in_run) (same_node peer node.setting.node) (rw same other) (has_node part.told peer)
    where
      by : (a : Bool) → a ≡ true → (b c : Bool) → c ≡ true → (d : Bool) → d ≡ false → (e : Bool) → (a && (where_so b (true && (c && not d)) && where_so e c)) ≡ true
      by a is b c below d apart e = rw (is, below, apart, so_true b, so_true e) refl

  module _ (whole : length part.engage.peers ≡ 16) where
    peer_sound : (peer : NodeNo) → is_sound_peer node part peer ≡ true → is_sound_peer node sent_part peer ≡ true
    peer_sound peer is = by (peer.0 == to.0) refl
      where
        now : peer_of sent_part.engage peer ≡ (if peer.0 == to.0 then more else peer_of part.engage peer)
        now = peer_put to.0 peer.0 more part.engage (rw whole (grind (arith, nat_tests, in_run, small)))

        by : (b : Bool) → (peer.0 == to.0) ≡ b → is_sound_peer node sent_part peer ≡ true
        by true same = subst (λ (entry : PeerPart). entry_sound entry true peer ≡ true) (sym (now ∙ picked same)) (counted peer (Rattle.std.proofs.lemmas.Bool.eqb-true peer.0 to.0 same) (subst (λ (k : ℕ). entry_sound (peer_of part.engage (record { 0 = k })) part.involved peer ≡ true) (Rattle.std.proofs.lemmas.Bool.eqb-true peer.0 to.0 same) is))
          where
            picked : (peer.0 == to.0) ≡ true → (if peer.0 == to.0 then more else peer_of part.engage peer) ≡ more
            picked is = rw is refl
        by false apart = subst (λ (entry : PeerPart). entry_sound entry true peer ≡ true) (sym (now ∙ left apart)) (drawn (peer_of part.engage peer) peer is)
          where
            left : (peer.0 == to.0) ≡ false → (if peer.0 == to.0 then more else peer_of part.engage peer) ≡ peer_of part.engage peer
            left is = rw is refl

  whole_length : is_whole part ≡ true → length part.engage.peers ≡ 16
  whole_length is = Rattle.std.proofs.lemmas.Bool.eqb-true (length part.engage.peers) 16 (and_both (length part.engage.peers == 16) _ (and_both ((length part.engage.peers == 16) && (length part.members == 7)) _ is).0).0

  drawn_sound : is_sound_part node (tid, part) ≡ true → is_sound_part node (tid, drawn_part) ≡ true
  drawn_sound is =
      glue (is_whole part) (same_flag part.engage.home (same_node tid.home node.setting.node)) (list_all (is_sound_peer node part) all_nodes) (list_all (is_sound_member part) all_servers && is_sound_superior node part)
      (not (has_node part.told tid.home))
      (where_so (not part.engage.home && (is_undecided part && not (is_engaged part))) (is_idle node tid part) && is_sound_home node tid part)
      (where_so (part.log.prepared || part.log.listed) part.log.unended) (where_so part.log.prepared part.involved)
      (where_so part.log.listed (part.engage.home && (Rattle.std.specs.Prelude.is_some part.outcome && not (is_abort part.outcome))) && where_so (part.log.prepared && part.engage.home) (is_undecided part || is_abort part.outcome))
      (tells_nobody part) (is_whole part) (list_all (is_sound_peer node drawn_part) all_nodes) (where_so part.log.prepared true)
      (λ whole. whole) (all_implied (is_sound_peer node part) (is_sound_peer node drawn_part) (λ peer. drawn (peer_of part.engage peer) peer) all_nodes) (so_true part.log.prepared) is

  counted_sound : is_sound_part node (tid, part) ≡ true → is_sound_part node (tid, sent_part) ≡ true
  counted_sound is =
      let whole : is_whole part ≡ true = (and_both (is_whole part) _ (and_both (is_whole part && same_flag part.engage.home (same_node tid.home node.setting.node)) _ (and_both ((is_whole part && same_flag part.engage.home (same_node tid.home node.setting.node)) && (list_all (is_sound_peer node part) all_nodes && (list_all (is_sound_member part) all_servers && is_sound_superior node part))) _ is).0).0).0 in
      glue (is_whole part) (same_flag part.engage.home (same_node tid.home node.setting.node)) (list_all (is_sound_peer node part) all_nodes) (list_all (is_sound_member part) all_servers && is_sound_superior node part)
      (not (has_node part.told tid.home))
      (where_so (not part.engage.home && (is_undecided part && not (is_engaged part))) (is_idle node tid part) && is_sound_home node tid part)
      (where_so (part.log.prepared || part.log.listed) part.log.unended) (where_so part.log.prepared part.involved)
      (where_so part.log.listed (part.engage.home && (Rattle.std.specs.Prelude.is_some part.outcome && not (is_abort part.outcome))) && where_so (part.log.prepared && part.engage.home) (is_undecided part || is_abort part.outcome))
      (tells_nobody part) (is_whole sent_part) (list_all (is_sound_peer node sent_part) all_nodes) (where_so part.log.prepared true)
      (λ whole. rw (length-set part.engage.peers to.0 more) whole) (all_implied (is_sound_peer node part) (is_sound_peer node sent_part) (peer_sound (whole_length whole)) all_nodes) (so_true part.log.prepared) is

  pub sent_sound : is_sound_part node (tid, part) ≡ true → is_sound_part node (tid, participant.sent to part) ≡ true
  sent_sound is = by ((peer_of part.engage to).sent == last_number)
    where
      by : (b : Bool) → is_sound_part node (tid, record part { engage = if b then part.engage else with_peer to more part.engage; involved = true }) ≡ true
      by true = drawn_sound is
      by false = counted_sound is

module _ (tid : Tid) (to : NodeNo) (node : NodeValue) (in_run : nat_lt to.0 node.setting.nodes ≡ true) (other : same_node to node.setting.node ≡ false) where
  node_sound : is_sound node ≡ true → is_sound (record node { manager = tm.sent tid to node.manager }) ≡ true
  node_sound sound = by (tm.part_of tid node.manager) refl
    where
      front : (fits_setting node && (in_order node.manager.known && list_all (is_sound_part node) node.manager.known)) ≡ true
      front = (and_both (fits_setting node && (in_order node.manager.known && list_all (is_sound_part node) node.manager.known)) _ sound).0

      small : nat_le node.setting.nodes 16 ≡ true
      small = (and_both (nat_le node.setting.nodes 16) (nat_lt 0 node.setting.inc) (and_both (nat_lt node.setting.node.0 node.setting.nodes) _ (and_both (nat_lt node.setting.node.0 node.setting.nodes && (nat_le node.setting.nodes 16 && nat_lt 0 node.setting.inc)) _ (and_both (fits_setting node) _ front).0).0).1).0

      parts : list_all (is_sound_part node) node.manager.known ≡ true
      parts = (and_both (in_order node.manager.known) _ (and_both (fits_setting node) _ front).1).1

      by : (o : Option Participant) → tm.part_of tid node.manager ≡ o → is_sound (record node { manager = tm.sent tid to node.manager }) ≡ true
      by None none = rw (changed_none (is_at (tid_cmp tid)) (participant.sent to) node.manager.known none) sound
      by (Some part) known = part_sound tid (participant.sent to) node part known refl (sent_sound tid to node in_run other small part (all_found tid (is_sound_part node) node.manager.known part known parts)) sound

pub issue_away_sound : IssueAwaySound
issue_away_sound tid request op work in_run other sound = asked (is_asked tid work)
  where
    to : NodeNo
    to = request.member.node

    issued : Work
    issued = enter_issue tid request op work

    sent : Work
    sent = with_manager (tm.sent tid to) issued

    posted : Work
    posted = send to (messages.Request tid (label_of tid work.node) request.member request.number request.issuer op) sent

    issued_sound : is_sound issued.node ≡ true
    issued_sound = hidden_sound tid (participant.issued request) work.node (λ part. refl) (λ part. refl) sound

    posted_sound : is_sound posted.node ≡ true
    posted_sound = rw (send_node to (messages.Request tid (label_of tid work.node) request.member request.number request.issuer op) sent) (node_sound tid to issued.node in_run other issued_sound)

    asked : (b : Bool) → is_sound (ask_on b tid to posted).node ≡ true
    asked true = rw (send_node to (messages.AskVote tid) posted) posted_sound
    asked false = posted_sound
