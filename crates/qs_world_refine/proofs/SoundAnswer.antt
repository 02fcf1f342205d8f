-- A node stays sound where it answers its superior, sends refusals on, and forgets what it only read.
use Rattle.qs_world_refine.proofs.Words.{◌≡◌, ℕ, ◌&&◌, not, Bool, true, false, List, [], ◌∷◌, Option, Some, None, is_none, refl, sym, ap, subst, fold, if◌then◌else◌, NodeNo, Tid, release_of, listed, same_node, is_no_node, Cause, told_with_own, needs_pass, is_undecided, is_forgotten, only_read, Participant, was_committed, is_lent, is_busy, may_answer, say_yes, send_refusal, refusal_goes_to, forget, Work, here, with_manager, doings_of, began_here, is_sound, where_so, same_flag, StaysSound, not-true}
use Rattle.qs_world_refine.proofs.Words.{or_first, or_last}
use Rattle.qs_engage.specs.Engage.{is_passive}
use Rattle.qs_ipc.specs.Ipc as ipc
use Rattle.qs_packet.specs.declared.message.Message.TheVariants as messages
use Rattle.qs_tm.specs.Participant as participant
use Rattle.qs_tm.specs.Participant.{awaits_note, is_ready, all_agree}
use Rattle.qs_tm.specs.Manager as tm
use Rattle.qs_world_refine.specs.SoundLaws.{AnswerSuperiorSound, RefuseElsewhereSound, ForgetRuleSound}
use Rattle.qs_world_refine.proofs.SoundParts.{and_both, part_sound}
use Rattle.qs_world_refine.proofs.SoundRules.{send_node}
use Rattle.qs_world_refine.proofs.SoundEnds.{forget_sound}
use Rattle.qs_world_refine.proofs.SoundHolds.{known_sound, part_step}
use Rattle.qs_world_refine.proofs.SoundViews.{PartSound, is_apart, part_as}

-- ---- where it may answer, nothing waits, no loan stands, and no pass is due

module _ (tid : Tid) (part : Participant) (work : Work) (may : may_answer tid part work ≡ true) where
  not_busy : is_busy tid work.node part ≡ false
  not_busy = not-true (is_busy tid work.node part) (and_both (not (is_busy tid work.node part)) (is_passive part.engage)
      (and_both (not (is_busy tid work.node part) && is_passive part.engage) (all_agree part)
      (and_both (part.asked && not part.blocked) _ (and_both (is_ready (is_busy tid work.node part) part) _ may).0).1).0).0

  pub none_waits : ipc.waits tid work.node.queues ≡ false
  none_waits = or_first (ipc.waits tid work.node.queues) _ not_busy

  pub none_lent : is_lent tid work.node ≡ false
  none_lent = or_first (is_lent tid work.node) (awaits_note part) (or_last (ipc.waits tid work.node.queues) _ not_busy)

  no_pass : needs_pass part ≡ false
  no_pass = not-true (needs_pass part) (and_both (not (needs_pass part)) (not (doings_of tid work).prepared) (and_both (is_ready (is_busy tid work.node part) part) _ may).1).0

-- ---- the superior is answered

so_if : (c b : Bool) → b ≡ true → where_so c b ≡ true
so_if true b is = is
so_if false b is = refl

released_sound : (tid : Tid) (part : Participant) (work : Work) → may_answer tid part work ≡ true → PartSound work.node tid part → PartSound work.node tid (participant.released part)
released_sound tid part work may s = record {
  whole = s.whole;
  homed = s.homed;
  peers = s.peers;
  members = s.members;
  superior = refl;
  outside = s.outside;
  idle = so_if (is_apart (participant.released part)) _ (idle (ipc.waits tid work.node.queues) (is_lent tid work.node) (needs_pass part) (none_waits tid part work may) (none_lent tid part work may) (no_pass tid part work may));
  began = s.began;
  logged = s.logged;
  silent = s.silent;
}
  where
    idle : (a b c : Bool) → a ≡ false → b ≡ false → c ≡ false → (not a && (not b && not c)) ≡ true
    idle a b c x y z = rw (x, y, z) refl

pub answer_superior_sound : AnswerSuperiorSound
answer_superior_sound tid part work known may sound = by (release_of part.engage) sound
  where
    released : is_sound (with_manager (tm.released tid) work).node ≡ true
    released = part_sound tid participant.released work.node part known refl (part_as work.node tid (participant.released part) (released_sound tid part work may (known_sound tid work.node part known sound))) sound

    by : (o : Option (NodeNo × ℕ)) → StaysSound work (elim o [ None ↦ work | Some superior ↦ say_yes tid part superior work ])
    by None so = so
    by (Some superior) so = rw (send_node superior.0 (messages.VotedYes tid superior.1 (listed (told_with_own (here work) part))) (with_manager (tm.released tid) work)) released

-- ---- refusals are sent on

pub refuse_elsewhere_sound : RefuseElsewhereSound
refuse_elsewhere_sound tid part work sound = each part.causes (with_manager (tm.take_causes tid) work) (part_step tid participant.take_causes work.node (λ p s. (refl, s)) sound)
  where
    each : (causes : List Cause) (w : Work) → is_sound w.node ≡ true → is_sound (fold (send_refusal tid (refusal_goes_to tid part)) w causes).node ≡ true
    each [] w so = so
    each (cause ∷ causes) w so = each causes (send_refusal tid (refusal_goes_to tid part) w cause) (rw (send_node (refusal_goes_to tid part) (messages.VotedAbort tid cause) w) so)

-- ---- a read is forgotten

pub forget_rule_sound : ForgetRuleSound
forget_rule_sound tid part work known sound = by (is_forgotten part) refl
  where
    s : PartSound work.node tid part
    s = known_sound tid work.node part known sound

    module_parts : is_forgotten part ≡ true → ((is_undecided part ≡ true) × (not part.engage.home ≡ true)) × (is_none part.engage.superior ≡ true)
    module_parts is =
        let both : ((is_undecided part && not part.engage.home) ≡ true) × (((is_none part.engage.superior && not part.involved) && (is_no_node part.told && only_read part)) ≡ true) = and_both (is_undecided part && not part.engage.home) _ is in
        (and_both (is_undecided part) (not part.engage.home) both.0, (and_both (is_none part.engage.superior) (not part.involved) (and_both (is_none part.engage.superior && not part.involved) (is_no_node part.told && only_read part) both.1).0).0)

    apart_is : is_forgotten part ≡ true → is_apart part ≡ true
    apart_is is = let m = module_parts is in both (part.engage.home) (is_undecided part) (Rattle.std.proofs.Common.is_some part.engage.superior) (not-true part.engage.home m.0.1) m.0.0 (none_is part.engage.superior m.1)
      where
        none_is : (o : Option NodeNo) → is_none o ≡ true → Rattle.std.proofs.Common.is_some o ≡ false
        none_is None so = refl
        none_is (Some x) so = absurd (cc (so))

        both : (h u t : Bool) → h ≡ false → u ≡ true → t ≡ false → (not h && (u && not (if h then u else t))) ≡ true
        both h u t x y z = rw (x, y, z) refl

    idle : (c a b r : Bool) → c ≡ true → where_so c (not a && (not b && r)) ≡ true → (a ≡ false) × (b ≡ false)
    idle true true b r is so = absurd (cc (so))
    idle true false true r is so = absurd (cc (so))
    idle true false false r is so = (refl, refl)
    idle false a b r is so = absurd (cc (is))

    away : is_forgotten part ≡ true → where_so (began_here work.node tid) (was_committed tid work.node) ≡ true
    away is = off part.engage.home (same_node tid.home work.node.setting.node) _ (not-true part.engage.home (module_parts is).0.1) s.homed
      where
        off : (h n b : Bool) → h ≡ false → same_flag h n ≡ true → where_so (n && b) (was_committed tid work.node) ≡ true
        off true n b x so = absurd (cc (x))
        off false true b x so = absurd (cc (so))
        off false false b x so = refl

    by : (b : Bool) → is_forgotten part ≡ b → is_sound (if b then forget tid work else work).node ≡ true
    by false is = sound
    by true is =
        let none : (ipc.waits tid work.node.queues ≡ false) × (is_lent tid work.node ≡ false) = idle (is_apart part) (ipc.waits tid work.node.queues) (is_lent tid work.node) (not (needs_pass part)) (apart_is is) s.idle in
        forget_sound tid work none.0 none.1 (away is) sound
