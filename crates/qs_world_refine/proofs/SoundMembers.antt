-- A participant stays sound where a server of its node does something, and where its node is to be told from now on.
use Rattle.qs_world_refine.proofs.Words.{◌≡◌, ℕ, ◌+◌, ◌<◌, ◌==◌, ◌&&◌, ◌||◌, not, Bool, true, false, List, [], ◌∷◌, length, Option, Some, None, nat_le, nat_lt, refl, sym, subst, ◌∙◌, arith, if◌then◌else◌, list_all, list_any, eqb-true, nat_tests, length-set, get_or_past, get_or-set_other, ServerNo, Tid, peer_of, last_number, same_node, no_member, is_told_class, class_here, is_abort, member_of, with_member, is_undecided, MemberPart, Participant, NodeValue, server_no, where_so, is_whole}
use Rattle.qs_world_refine.proofs.Words.{is_sound_peer, is_sound_member, is_covered_vote}
use Rattle.qs_engage.specs.Nodes.{all_nodes, has_node}
use Rattle.qs_tm.specs.Members.{all_servers}
use Rattle.qs_tm.specs.Participant as participant
use Rattle.qs_world_refine.specs.Sound.{is_idle}
use Rattle.qs_world_refine.proofs.Arrays.{member_put}
use Rattle.qs_world_refine.proofs.SoundParts.{and_both}
use Rattle.qs_world_refine.proofs.SoundBegin.{all_implied}
use Rattle.qs_world_refine.proofs.SoundViews.{PartSound, is_apart}

pub members_length : (part : Participant) → is_whole part ≡ true → length part.members ≡ 7
members_length part is = eqb-true (length part.members) 7 (and_both (length part.engage.peers == 16) (length part.members == 7) (and_both ((length part.engage.peers == 16) && (length part.members == 7)) _ is).0).1

module _ (node : NodeValue) (tid : Tid) (part : Participant) (s : PartSound node tid part) where
  -- ---- its node is to be told

  module _ (b : Bool) where
    abbrev involved_part : Participant
    involved_part = record part { involved = part.involved || b }

    peer_more : (c x i r h : Bool) → (c && (where_so x (i && r) && h)) ≡ true → (c && (where_so x ((i || b) && r) && h)) ≡ true
    peer_more c x true r h is = is
    peer_more true true false r h is = absurd (cc (is))
    peer_more true false false r h is = is
    peer_more false x false r h is = absurd (cc (is))

    log_more : (a x i r : Bool) → (a && (where_so x i && r)) ≡ true → (a && (where_so x (i || b) && r)) ≡ true
    log_more a x true r is = is
    log_more true true false r is = absurd (cc (is))
    log_more true false false r is = is
    log_more false x false r is = absurd (cc (is))

    pub involve_sound : PartSound node tid involved_part
    involve_sound = record {
      whole = s.whole;
      homed = s.homed;
      peers = all_implied (is_sound_peer node part) (is_sound_peer node involved_part) (λ q is. peer_more
          (nat_le (peer_of part.engage q).covered (peer_of part.engage q).sent) (nat_lt 0 (peer_of part.engage q).sent) part.involved
          (nat_lt q.0 node.setting.nodes && not (same_node q node.setting.node)) (where_so (has_node part.told q) (nat_lt q.0 node.setting.nodes)) is) all_nodes s.peers;
      members = s.members;
      superior = s.superior;
      outside = s.outside;
      idle = s.idle;
      began = s.began;
      logged = log_more (where_so (part.log.prepared || part.log.listed) part.log.unended) part.log.prepared part.involved
          (where_so part.log.listed (part.engage.home && (Rattle.std.specs.Prelude.is_some part.outcome && not (is_abort part.outcome))) && where_so (part.log.prepared && part.engage.home) (is_undecided part || is_abort part.outcome)) s.logged;
      silent = s.silent;
    }

  -- ---- a server does something: its vote, if it has one, covers no more than it served

  module _ (server : ServerNo) (member : MemberPart) (covers : is_covered_vote member ≡ true) where
    abbrev changed : Participant
    changed = with_member server member part

    changed_whole : is_whole changed ≡ true
    changed_whole = rw (length-set part.members server.0 member) s.whole

    outside_none : nat_lt server.0 7 ≡ false → member_of changed server ≡ no_member
    outside_none past = get_or_past (Rattle.std.specs.Prelude.slice_set part.members server.0 member) server.0 no_member (rw (length-set part.members server.0 member, members_length part s.whole) (grind (arith, nat_tests, past)))

    at_server : is_covered_vote (member_of changed server) ≡ true
    at_server = by (nat_lt server.0 7) refl
      where
        picked : (b : Bool) → b ≡ true → (if b then member else member_of part server) ≡ member
        picked b is = rw is refl

        by : (b : Bool) → nat_lt server.0 7 ≡ b → is_covered_vote (member_of changed server) ≡ true
        by true within = subst (λ (m : MemberPart). is_covered_vote m ≡ true)
            (sym (member_put server.0 server.0 member part (rw (members_length part s.whole) (grind (arith, nat_tests, within))) ∙ picked (server.0 == server.0) (grind (arith, nat_tests)))) covers
        by false past = subst (λ (m : MemberPart). is_covered_vote m ≡ true) (sym (outside_none past)) refl

    member_sound_at : (r : ServerNo) → is_sound_member part r ≡ true → is_sound_member changed r ≡ true
    member_sound_at r is = by (r.0 == server.0) refl
      where
        by : (b : Bool) → (r.0 == server.0) ≡ b → is_covered_vote (member_of changed r) ≡ true
        by true same = subst (λ (k : ℕ). is_covered_vote (member_of changed (server_no k)) ≡ true) (sym (eqb-true r.0 server.0 same)) at_server
        by false apart = subst (λ (m : MemberPart). is_covered_vote m ≡ true) (sym (get_or-set_other part.members server.0 r.0 member no_member (λ same. grind (arith, nat_tests, apart, same)))) is

    pub member_sound : where_so (is_apart part) (is_idle node tid changed) ≡ true → PartSound node tid changed
    member_sound idle = record {
      whole = changed_whole;
      homed = s.homed;
      peers = s.peers;
      members = all_implied (is_sound_member part) (is_sound_member changed) member_sound_at all_servers s.members;
      superior = s.superior;
      outside = s.outside;
      idle = idle;
      began = s.began;
      logged = s.logged;
      silent = s.silent;
    }

-- ---- it serves a request

abbrev pub after_serve : ServerNo → Participant → MemberPart
after_serve server part = record (member_of part server) { served = (member_of part server).served + 1; fresh = true }

-- a vote covers no more of one more
covered_more : (member : MemberPart) → is_covered_vote member ≡ true → is_covered_vote (record member { served = member.served + 1; fresh = true }) ≡ true
covered_more member is = by member.vote is
  where
    by : (o : Option Rattle.qs_tm.specs.declared.members.Cast.Cast) → ◌≡◌ {A = Bool} (elim o [ None ↦ true | Some cast ↦ nat_le cast.covers member.served ]) true
        → ◌≡◌ {A = Bool} (elim o [ None ↦ true | Some cast ↦ nat_le cast.covers (member.served + 1) ]) true
    by None so = refl
    by (Some cast) so = grind (arith, nat_tests, so)

server_in : (k : ℕ) → k < 7 → list_any (λ (server : ServerNo). k == server.0) all_servers ≡ true
unfolding all_servers
server_in k below = grind (arith, nat_tests, below)

server_at : (q : ServerNo → Bool) (servers : List ServerNo) (k : ℕ) → list_all q servers ≡ true → list_any (λ (server : ServerNo). k == server.0) servers ≡ true → q (server_no k) ≡ true
server_at q [] k all named = absurd (cc (named))
server_at q (server ∷ servers) k all named = by (k == server.0) refl (server_at q servers k (and_both (q server) (list_all q servers) all).1)
  where
    by : (b : Bool) → (k == server.0) ≡ b → (list_any (λ (server : ServerNo). k == server.0) servers ≡ true → q (server_no k) ≡ true) → q (server_no k) ≡ true
    by true is more = subst (λ (n : ℕ). q (server_no n) ≡ true) (sym (eqb-true k server.0 is)) (and_both (q server) (list_all q servers) all).0
    by false is more = more (rw is at named)

-- each vote covers no more than was served, also at a number that no server has
pub vote_covers : (node : NodeValue) (tid : Tid) (part : Participant) → PartSound node tid part → (server : ServerNo) → is_covered_vote (member_of part server) ≡ true
vote_covers node tid part s server = by (nat_lt server.0 7) refl
  where
    by : (b : Bool) → nat_lt server.0 7 ≡ b → is_covered_vote (member_of part server) ≡ true
    by true within = server_at (is_sound_member part) all_servers server.0 s.members (server_in server.0 (grind (arith, nat_tests, within)))
    by false past = subst (λ (m : MemberPart). is_covered_vote m ≡ true) (sym (get_or_past part.members server.0 no_member (rw (members_length part s.whole) (grind (arith, nat_tests, past))))) refl

pub served_sound : (node : NodeValue) (tid : Tid) (part : Participant) (server : ServerNo) → is_apart part ≡ false → PartSound node tid part → PartSound node tid (participant.served server part)
served_sound node tid part server busy s = by ((member_of part server).served == last_number)
  where
    by : (b : Bool) → PartSound node tid (if b then part else record (with_member server (after_serve server part) part) { involved = part.involved || is_told_class (class_here server) })
    by true = s
    by false = involve_sound node tid (with_member server (after_serve server part) part)
        (member_sound node tid part s server (after_serve server part) (covered_more (member_of part server) (vote_covers node tid part s server)) (rw busy refl))
        (is_told_class (class_here server))
