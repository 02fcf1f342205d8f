-- A home stays sound where it is asked for an outcome, and where it is told who took one in.
use Rattle.qs_world_refine.proofs.Words.{◌≡◌, ℕ, ◌==◌, ◌&&◌, ◌||◌, not, nat_lt, nat_le, Bool, true, false, List, [], ◌∷◌, length, Option, Some, None, is_some, refl, sym, ap, subst, ◌∙◌, arith, if◌then◌else◌, list_any, is_at, eqb-true, nat_tests, length-set, tid_cmp, NodeNo, Tid, peer_of, same_node, put_node, listed, Nodes, is_abort, new_names, is_undecided, Participant, was_committed, answer_unknown, answer_known, inquiry_came, send, log, NodeValue, Work, here, part_of, with_manager}
use Rattle.qs_world_refine.proofs.Words.{keep_abort_told, is_other_node, told_unknown, told_known, told_came, take_told, take_names, end_told, forget, node_no, began_here, is_sound, where_so, same_flag, is_whole, is_sound_peer, may_be_served, is_kept_part, keeps_commits, StaysSound}
use Rattle.qs_base.specs.declared.identifiers.Outcome.{Outcome}
use Rattle.qs_base.specs.declared.identifiers.Outcome.TheVariants as outcomes
use Rattle.qs_engage.specs.Nodes.{all_nodes, has_node}
use Rattle.qs_packet.specs.declared.message.Message.TheVariants as messages
use Rattle.qs_record.specs.declared.record.Record.TheVariants as records
use Rattle.qs_tm.specs.Manager as tm
use Rattle.qs_tm.specs.Outcomes as outcome_rules
use Rattle.qs_tm.specs.Participant as participant
use Rattle.qs_world_refine.specs.SoundLaws.{InquiryCameSound, ToldCameSound}
use Rattle.qs_world_refine.proofs.Arrays.{node_put}
use Rattle.qs_world_refine.proofs.Maps.{lookup_changed}
use Rattle.qs_world_refine.proofs.SoundParts.{and_both, both_and, all_found}
use Rattle.qs_world_refine.proofs.SoundBegin.{all_implied}
use Rattle.qs_world_refine.proofs.SoundRules.{send_node, sends_node}
use Rattle.qs_world_refine.proofs.SoundCount.{few_nodes, told_length}
use Rattle.qs_world_refine.proofs.SoundDecide.{tell_whole, nodes_length}
use Rattle.qs_world_refine.proofs.SoundEnds.{forget_sound}
use Rattle.qs_world_refine.proofs.SoundHolds.{part_step}
use Rattle.qs_world_refine.proofs.SoundKnown.{nothing_waits, nothing_lent}
use Rattle.qs_world_refine.proofs.SoundTell.{keep_abort_sound}
use Rattle.qs_world_refine.proofs.SoundViews.{PartSound, seen}

home_is : (h n : Bool) → n ≡ true → same_flag h n ≡ true → h ≡ true
home_is true n is so = refl
home_is false n is so = absurd (cc (is, so))

-- ---- who inquired is told at the decision

module _ (peer : NodeNo) (node : NodeValue) (tid : Tid) (part : Participant) (in_run : nat_lt peer.0 node.setting.nodes ≡ true) (other : same_node peer node.setting.node ≡ false) (at_home : same_node tid.home node.setting.node ≡ true)
    (s : PartSound node tid part) where
  abbrev asked : Participant
  asked = participant.add_told peer part

  home : part.engage.home ≡ true
  home = home_is part.engage.home (same_node tid.home node.setting.node) at_home s.homed

  small : nat_le node.setting.nodes 16 ≡ true → Rattle.std.proofs.Common.◌<◌ peer.0 (length part.told.has)
  small few = rw (told_length part s.whole) (grind (arith, nat_tests, in_run, few))

  module _ (few : nat_le node.setting.nodes 16 ≡ true) where
    told_is : (k : ℕ) → has_node asked.told (node_no k) ≡ (if k == peer.0 then true else has_node part.told (node_no k))
    told_is k = node_put peer.0 k part.told (small few)

    told_in : (q : NodeNo) → where_so (has_node part.told q) (nat_lt q.0 node.setting.nodes) ≡ true → where_so (has_node asked.told q) (nat_lt q.0 node.setting.nodes) ≡ true
    told_in q is = subst (λ (b : Bool). where_so b (nat_lt q.0 node.setting.nodes) ≡ true) (sym (told_is q.0)) (by (q.0 == peer.0) refl)
      where
        by : (b : Bool) → (q.0 == peer.0) ≡ b → where_so (if b then true else has_node part.told q) (nat_lt q.0 node.setting.nodes) ≡ true
        by true same = rw (eqb-true q.0 peer.0 same) in_run
        by false apart = is

    peer_asked : (q : NodeNo) → is_sound_peer node part q ≡ true → is_sound_peer node asked q ≡ true
    peer_asked q is =
        let both : (nat_le (peer_of part.engage q).covered (peer_of part.engage q).sent ≡ true) × _ = and_both (nat_le (peer_of part.engage q).covered (peer_of part.engage q).sent) _ is in
        let rest : (where_so (nat_lt 0 (peer_of part.engage q).sent) (part.involved && (nat_lt q.0 node.setting.nodes && not (same_node q node.setting.node))) ≡ true) × (where_so (has_node part.told q) (nat_lt q.0 node.setting.nodes) ≡ true)
        = and_both (where_so (nat_lt 0 (peer_of part.engage q).sent) (part.involved && (nat_lt q.0 node.setting.nodes && not (same_node q node.setting.node)))) _ both.1 in
        both_and (nat_le (peer_of part.engage q).covered (peer_of part.engage q).sent) _ both.0
        (both_and (where_so (nat_lt 0 (peer_of part.engage q).sent) (part.involved && (nat_lt q.0 node.setting.nodes && not (same_node q node.setting.node)))) _ rest.0 (told_in q rest.1))

    home_out : not (has_node asked.told tid.home) ≡ true
    home_out = subst (λ (b : Bool). not b ≡ true) (sym (told_is tid.home.0)) (by (tid.home.0 == peer.0) (grind (arith, nat_tests, other, at_home)) (has_node part.told tid.home) s.outside)
      where
        by : (b : Bool) → b ≡ false → (c : Bool) → not c ≡ true → not (if b then true else c) ≡ true
        by b is c so = rw is so

    asked_sound : PartSound node tid asked
    asked_sound = record {
      whole = rw (length-set part.told.has peer.0 true) s.whole;
      homed = s.homed;
      peers = all_implied (is_sound_peer node part) (is_sound_peer node asked) peer_asked all_nodes s.peers;
      members = s.members;
      superior = s.superior;
      outside = home_out;
      idle = s.idle;
      began = s.began;
      logged = s.logged;
      silent = s.silent;
    }

-- ---- other nodes are told, or took it in

with_tell : (node : NodeValue) (tid : Tid) (part : Participant) (tell : Nodes) → length tell.has ≡ 16 → same_node tid.home node.setting.node ≡ true → PartSound node tid part → PartSound node tid (record part { tell = tell })
with_tell node tid part tell is at_home s = record {
  whole = tell_whole part tell is s.whole;
  homed = s.homed;
  peers = s.peers;
  members = s.members;
  superior = s.superior;
  outside = s.outside;
  idle = s.idle;
  began = s.began;
  logged = s.logged;
  silent = rw (home_is part.engage.home (same_node tid.home node.setting.node) at_home s.homed) refl;
}

tell_length : (part : Participant) → is_whole part ≡ true → length part.tell.has ≡ 16
tell_length part whole = eqb-true (length part.tell.has) 16 (and_both (length part.tell.has == 16) _ (and_both (length part.told.has == 16) _ (and_both ((length part.engage.peers == 16) && (length part.members == 7)) _ whole).1).1).0

module _ (tid : Tid) (peer : NodeNo) where
  add_tell_sound : (work : Work) → same_node tid.home (here work) ≡ true → is_sound work.node ≡ true → is_sound (with_manager (tm.add_tell tid peer) work).node ≡ true
  add_tell_sound work at_home = part_step tid (outcome_rules.add_tell peer) work.node
      (λ part s. (refl, with_tell work.node tid part (put_node part.tell peer) (length-set part.tell.has peer.0 true ∙ tell_length part s.whole) at_home s))

  keep_told_sound : (work : Work) → same_node tid.home (here work) ≡ true → is_sound work.node ≡ true → is_sound (keep_abort_told tid peer work).node ≡ true
  keep_told_sound work at_home sound = add_tell_sound (with_manager (tm.keep_abort tid) work) at_home (keep_abort_sound tid work sound)

pub inquiry_came_sound : InquiryCameSound
inquiry_came_sound peer tid work in_run other sound = by (same_node tid.home (here work)) refl
  where
    told : same_node tid.home (here work) ≡ true → is_sound (with_manager (tm.add_told tid peer) work).node ≡ true
    told at_home = part_step tid (participant.add_told peer) work.node (λ part s. (refl, asked_sound peer work.node tid part in_run other at_home s (few_nodes work.node (seen work.node sound).fits))) sound

    known_by : same_node tid.home (here work) ≡ true → (o : Option Outcome) → is_sound (answer_known peer tid o work).node ≡ true
    known_by at_home None = told at_home
    known_by at_home (Some outcomes.Commit) = rw (send_node peer (messages.Tell tid outcomes.Commit) work) sound
    known_by at_home (Some outcomes.Abort) = rw (send_node peer (messages.Tell tid outcomes.Abort) (with_manager (tm.add_tell tid peer) work)) (add_tell_sound tid peer work at_home sound)

    unknown_by : same_node tid.home (here work) ≡ true → (b : Bool) → is_sound (if b then send peer (messages.Tell tid outcomes.Commit) work else send peer (messages.Tell tid outcomes.Abort) (keep_abort_told tid peer work)).node ≡ true
    unknown_by at_home true = rw (send_node peer (messages.Tell tid outcomes.Commit) work) sound
    unknown_by at_home false = rw (send_node peer (messages.Tell tid outcomes.Abort) (keep_abort_told tid peer work)) (keep_told_sound tid peer work at_home sound)

    known : same_node tid.home (here work) ≡ true → (o : Option Participant) → StaysSound work (elim o [ None ↦ answer_unknown peer tid work | Some part ↦ answer_known peer tid part.outcome work ])
    known at_home None so = unknown_by at_home (was_committed tid work.node)
    known at_home (Some part) so = known_by at_home part.outcome

    by : (b : Bool) → same_node tid.home (here work) ≡ b → is_sound (if b then Rattle.qs_node_step.specs.Answering.inquiry_at_home peer tid work else work).node ≡ true
    by true at_home = known at_home (part_of tid work) sound
    by false away = sound

-- ---- a Told comes

names_sound : (tid : Tid) (further : List NodeNo) (work : Work) → same_node tid.home (here work) ≡ true → is_sound work.node ≡ true → is_sound (take_names tid further work).node ≡ true
names_sound tid further work at_home sound =
    rw (sends_node (listed (tm.new_names tid further work.node.manager)) (messages.Tell tid outcomes.Abort) (with_manager (tm.take_names tid further) work))
    (part_step tid (outcome_rules.take_names tid.home further) work.node
    (λ part s. (
      refl,
      with_tell work.node tid part (Rattle.qs_engage.specs.Nodes.union part.tell (new_names tid.home further part))
          (nodes_length (λ node. has_node part.tell node || has_node (new_names tid.home further part) node)) at_home s,
    )) sound)

acknowledged_sound : (node : NodeValue) (tid : Tid) (peer : NodeNo) (part : Participant) → same_node tid.home node.setting.node ≡ true → PartSound node tid part → PartSound node tid (outcome_rules.acknowledged peer part)
acknowledged_sound node tid peer part at_home s = record {
  whole = rw (length-set part.acknowledged.has peer.0 true) s.whole;
  homed = s.homed;
  peers = s.peers;
  members = s.members;
  superior = s.superior;
  outside = s.outside;
  idle = s.idle;
  began = s.began;
  logged = s.logged;
  silent = rw (home_is part.engage.home (same_node tid.home node.setting.node) at_home s.homed) refl;
}

-- nothing of it is left in the log
pub cleared : (node : NodeValue) (tid : Tid) (part : Participant) → PartSound node tid part → PartSound node tid (record part { log = record { unended = false; prepared = false; listed = false } })
cleared node tid part s = record {
  whole = s.whole;
  homed = s.homed;
  peers = s.peers;
  members = s.members;
  superior = s.superior;
  outside = s.outside;
  idle = s.idle;
  began = s.began;
  logged = refl;
  silent = s.silent;
}

module _ (tid : Tid) (peer : NodeNo) (work : Work) (part : Participant) (known : part_of tid work ≡ Some part) (committed : part.outcome ≡ Some outcomes.Commit) (at_home : same_node tid.home (here work) ≡ true)
    (kept : keeps_commits work.node ≡ true) (sound : is_sound work.node ≡ true) where
  abbrev told : Work
  told = with_manager (tm.acknowledged tid peer) work

  told_sound : is_sound told.node ≡ true
  told_sound = part_step tid (outcome_rules.acknowledged peer) work.node (λ p s. (refl, acknowledged_sound work.node tid peer p at_home s)) sound

  abbrev ended : Work
  ended = log (records.End tid) told

  ended_sound : is_sound ended.node ≡ true
  ended_sound = part_step tid (outcome_rules.logged (records.End tid)) told.node (λ p s. (refl, cleared told.node tid p s)) told_sound

  not_served : may_be_served ended.node tid ≡ false
  not_served = ap served (lookup_changed (is_at (tid_cmp tid)) (outcome_rules.logged (records.End tid)) told.node.manager.known (outcome_rules.acknowledged peer part)
      (lookup_changed (is_at (tid_cmp tid)) (outcome_rules.acknowledged peer) work.node.manager.known part known)) ∙ rw committed refl
    where
      served : Option Participant → Bool
      served o = elim o [ None ↦ false | Some p ↦ is_undecided p || is_abort p.outcome ]

  gone : where_so (began_here work.node tid) (was_committed tid work.node) ≡ true
  gone = by (began_here work.node tid) (is_some part.outcome && not (is_abort part.outcome)) (rw committed refl) (all_found tid (is_kept_part work.node) work.node.manager.known part known kept)
    where
      by : (b c : Bool) → c ≡ true → where_so (b && c) (was_committed tid work.node) ≡ true → where_so b (was_committed tid work.node) ≡ true
      by true true is so = so
      by true false is so = absurd (cc (is))
      by false c is so = refl

  take_told_sound : is_sound (take_told peer tid work).node ≡ true
  take_told_sound = by (tm.all_acknowledged tid peer work.node.manager)
    where
      by : (b : Bool) → is_sound (end_told b tid told).node ≡ true
      by false = told_sound
      by true = forget_sound tid ended (nothing_waits ended.node tid not_served ended_sound) (nothing_lent ended.node tid not_served ended_sound) gone ended_sound

pub told_came_sound : ToldCameSound
told_came_sound peer tid further work kept sound = by (same_node tid.home (here work)) refl
  where
    unknown : same_node tid.home (here work) ≡ true → (b : Bool) → is_sound (if b then take_names tid further (keep_abort_told tid peer work) else work).node ≡ true
    unknown at_home true = names_sound tid further (keep_abort_told tid peer work) at_home (keep_told_sound tid peer work at_home sound)
    unknown at_home false = sound

    known_by : same_node tid.home (here work) ≡ true → (part : Participant) → part_of tid work ≡ Some part → (o : Option Outcome) → part.outcome ≡ o → is_sound (told_known peer tid further o work).node ≡ true
    known_by at_home part known None is = sound
    known_by at_home part known (Some outcomes.Commit) is = take_told_sound tid peer work part known is at_home kept sound
    known_by at_home part known (Some outcomes.Abort) is = names_sound tid further work at_home sound

    told : same_node tid.home (here work) ≡ true → (o : Option Participant) → part_of tid work ≡ o → StaysSound work (elim o [ None ↦ told_unknown peer tid further work | Some part ↦ told_known peer tid further part.outcome work ])
    told at_home None none so = unknown at_home (list_any (is_other_node tid) further)
    told at_home (Some part) known so = known_by at_home part known part.outcome refl

    by : (b : Bool) → same_node tid.home (here work) ≡ b → is_sound (if b then Rattle.qs_node_step.specs.Telling.told_at_home peer tid further work else work).node ≡ true
    by true at_home = told at_home (part_of tid work) refl sound
    by false away = sound
