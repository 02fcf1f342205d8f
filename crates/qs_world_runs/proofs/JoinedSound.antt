-- What a step asks of its node alone follows from the invariant of one node: what is lent is known, a home's told set lacks a node, and what is forgotten is idle.
use Rattle.qs_world_runs.proofs.Words.{◌≡◌, ℕ, ◌<◌, ◌≤◌, ◌==◌, ◌&&◌, ◌||◌, not, Bool, true, false, length, Option, Some, None, is_none, is_some, refl, ap, ◌∙◌, arith, nat_le, nat_lt, if◌then◌else◌, eqb-true, nat_tests, NodeNo, Tid, no_peer, peer_of, listed, same_node, PeerPart, is_lent, pass_rule, ready_rule, refuse_rule, try, Work, is_forgotten, is_undecided, needs_pass, Participant, is_sound, is_sound_peer, same_flag, where_so, known_sound, nothing_lent, PartSound, is_apart, seen}
use Rattle.std.proofs.lemmas.List.{get_or_past}
use Rattle.qs_base.specs.declared.identifiers.Outcome.{Outcome}
use Rattle.qs_engage.specs.Nodes.{all_nodes, has_node}
use Rattle.qs_ipc.specs.Ipc as ipc
use Rattle.qs_node_step.specs.State.{NodeValue}
use Rattle.qs_tm.specs.Manager as tm
use Rattle.qs_tm.specs.Outcomes.{is_abort}
use Rattle.qs_world_refine.specs.Sound.{is_idle}
use Rattle.qs_world_refine.proofs.NodeSets.{all_named}
use Rattle.qs_world_refine.proofs.SoundBegin.{all_implied}
use Rattle.qs_world_refine.proofs.SoundCount.{all_at}
use Rattle.qs_world_refine.proofs.SoundParts.{and_both}
use Rattle.qs_world_refine.proofs.SoundSettle.{ready_rule_sound, refuse_rule_sound, undecided_known}
use Rattle.qs_world_refine.proofs.SoundVotes.{pass_rule_sound}
use Rattle.qs_world_lawful.specs.Agreed.{IsIdle}
use Rattle.qs_world_runs.specs.Agrees.{SoundGives}
use Rattle.qs_world_runs.proofs.ToldFewer.{fewer_listed}
use Rattle.qs_base_lemmas.proofs.Tests.{none_is}

module _ (node : NodeValue) (sound : is_sound node ≡ true) where
  pub lent_known : (tid : Tid) → is_lent tid node ≡ true → tm.knows tid node.manager ≡ true
  lent_known tid lent = by (tm.part_of tid node.manager) refl
    where
      by : (o : Option Participant) → tm.part_of tid node.manager ≡ o → is_some o ≡ true
      by None none = absurd (let off : is_lent tid node ≡ false = nothing_lent node tid (ap (λ (o : Option Participant). elim o [ None ↦ false | Some p ↦ is_undecided p || is_abort p.outcome ]) none) sound in cc (off, lent))
      by (Some part) known = refl

  module _ (tid : Tid) (part : Participant) (known : tm.part_of tid node.manager ≡ Some part) where
    its : PartSound node tid part
    its = known_sound tid node part known sound

    where_it : (a b : Bool) → a ≡ true → where_so a b ≡ true → b ≡ true
    where_it true b x so = so
    where_it false b x so = absurd (cc x)

    not_so : (b : Bool) → not b ≡ true → b ≡ false
    not_so true so = absurd (cc so)
    not_so false so = refl

    idle_so : part.engage.home ≡ false → part.outcome ≡ None → part.engage.superior ≡ None → needs_pass part ≡ false
    idle_so away open_now alone = not_so (needs_pass part) (and_both (not (is_lent tid node)) (not (needs_pass part)) (and_both (not (ipc.waits tid node.queues)) (not (is_lent tid node) && not (needs_pass part)) idle).1).1
      where
        three : {a b c : Bool} → a ≡ false → b ≡ true → c ≡ false → (not a && (b && not c)) ≡ true
        three x y z = rw (x, y, z) refl

        apart : is_apart part ≡ true
        apart = three away (ap (λ (o : Option Outcome). is_none o) open_now) (ap (λ (b : Bool). if b then is_undecided part else is_some part.engage.superior) away ∙ ap (λ (o : Option NodeNo). is_some o) alone)

        idle : is_idle node tid part ≡ true
        idle = where_it (is_apart part) (is_idle node tid part) apart its.idle

    unsent_so : part.involved ≡ false → (peer : NodeNo) → (peer_of part.engage peer).sent ≡ 0
    unsent_so uninvolved peer = by (nat_lt peer.0 16) refl
      where
        none : (k : ℕ) (b c d : Bool) → b ≡ false → where_so (nat_lt 0 k) (b && c) ≡ true → k ≡ 0
        none k b c d off so = grind (arith, nat_tests, off, so)

        slots : length part.engage.peers ≡ 16
        slots = eqb-true (length part.engage.peers) 16 (and_both (length part.engage.peers == 16) (length part.members == 7) (and_both ((length part.engage.peers == 16) && (length part.members == 7)) _ its.whole).0).0

        past : (a b : ℕ) → a ≡ 16 → nat_lt b 16 ≡ false → a ≤ b
        past a b p q = grind (arith, nat_tests, p, q)

        peer_sound : peer.0 < 16 → is_sound_peer node part peer ≡ true
        peer_sound low = all_at (is_sound_peer node part) all_nodes peer.0 its.peers (all_named peer.0 low)

        by : (b : Bool) → nat_lt peer.0 16 ≡ b → (peer_of part.engage peer).sent ≡ 0
        by true low = none (peer_of part.engage peer).sent part.involved _ true uninvolved (and_both (where_so (nat_lt 0 (peer_of part.engage peer).sent) _) _ (and_both _ _ (peer_sound (grind (arith, nat_tests, low)))).1).0
        by false high = ap (λ (p : PeerPart). p.sent) (get_or_past part.engage.peers peer.0 no_peer (past (length part.engage.peers) peer.0 slots high))

    -- a home's told set has nodes of the run alone, and not the home
    told_fewer : part.engage.home ≡ true → length (listed part.told) < node.setting.nodes
    told_fewer home = fewer_listed part.told node.setting.nodes tid.home.0 home_in (not_so (has_node part.told tid.home) its.outside)
        (all_implied (is_sound_peer node part) (λ (n : NodeNo). where_so (has_node part.told n) (nat_lt n.0 node.setting.nodes)) peer_in all_nodes its.peers)
      where
        home_in : tid.home.0 < node.setting.nodes
        home_in = let own : nat_lt node.setting.node.0 node.setting.nodes ≡ true = (and_both (nat_lt node.setting.node.0 node.setting.nodes) _ (and_both (nat_lt node.setting.node.0 node.setting.nodes && _) _ (seen node sound).fits).0).0 in let same : same_node tid.home node.setting.node ≡ true = flag part.engage.home (same_node tid.home node.setting.node) home its.homed in grind (arith, nat_tests, own, same)
          where
            flag : (a b : Bool) → a ≡ true → same_flag a b ≡ true → b ≡ true
            flag true b x so = so
            flag false b x so = absurd (cc x)

        peer_in : (n : NodeNo) → is_sound_peer node part n ≡ true → where_so (has_node part.told n) (nat_lt n.0 node.setting.nodes) ≡ true
        peer_in n so = (and_both (where_so (nat_lt 0 (peer_of part.engage n).sent) (part.involved && (nat_lt n.0 node.setting.nodes && not (same_node n node.setting.node)))) (where_so (has_node part.told n) (nat_lt n.0 node.setting.nodes)) (and_both (nat_le (peer_of part.engage n).covered (peer_of part.engage n).sent) _ so).1).1

    -- who is forgotten answers to nobody, and is not involved
    idle_forgotten : is_forgotten part ≡ true → IsIdle part
    idle_forgotten forgotten = record {
      due = idle_so (not_so part.engage.home (and_both (is_undecided part) _ front).1) (none_is part.outcome (and_both (is_undecided part) _ front).0) (none_is part.engage.superior (and_both (is_none part.engage.superior) _ back).0);
      unsent = unsent_so (not_so part.involved (and_both (is_none part.engage.superior) _ back).1);
    }
      where
        front : (is_undecided part && not part.engage.home) ≡ true
        front = (and_both (is_undecided part && not part.engage.home) _ forgotten).0

        back : (is_none part.engage.superior && not part.involved) ≡ true
        back = (and_both (is_none part.engage.superior && not part.involved) _ (and_both (is_undecided part && not part.engage.home) _ forgotten).1).0

-- after the vote pass, and before what is forgotten
pub sound_gives : SoundGives
sound_gives work tid sound = record {
  told = λ part known home. told_fewer passed.node passed_sound tid part known home;
  idle = λ part known forgotten. idle_forgotten refused.node refused_sound tid part known forgotten;
}
  where
    passed : Work
    passed = try tid pass_rule work

    answered : Work
    answered = try tid ready_rule passed

    refused : Work
    refused = try tid refuse_rule answered

    passed_sound : is_sound passed.node ≡ true
    passed_sound = undecided_known tid (pass_rule tid) work (λ part known open_now. pass_rule_sound tid part work known open_now) sound

    refused_sound : is_sound refused.node ≡ true
    refused_sound = undecided_known tid (refuse_rule tid) answered (λ part known open_now. refuse_rule_sound tid part answered known open_now)
        (undecided_known tid (ready_rule tid) passed (λ part known open_now. ready_rule_sound tid part passed known open_now) passed_sound)
