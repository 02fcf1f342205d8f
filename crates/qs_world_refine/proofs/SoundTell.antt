-- A node stays sound where it is told an outcome, and where its home is told who took it in.
use Rattle.qs_world_refine.proofs.Words.{◌≡◌, ◌<◌, ◌==◌, ◌&&◌, ◌||◌, not, nat_lt, nat_le, Bool, true, false, List, [], ◌∷◌, length, Option, Some, None, is_some, is_none, refl, sym, ap, subst, ◌∙◌, arith, if◌then◌else◌, list_all, is_at, eqb-true, tid_cmp, Tid, same_node, changed_value, is_abort, aborted_participant, is_undecided, InLog, Participant, log_if, give_notices, is_lent, NodeValue, Work, here, part_of, with_manager, names_at, end_record, learn, learn_unknown, take_outcome, is_sound}
use Rattle.qs_world_refine.proofs.Words.{fits_setting, where_so, is_sound_peer, is_sound_member, same_flag, StaysSound}
use Rattle.qs_base.specs.declared.identifiers.Outcome.{Outcome}
use Rattle.qs_base.specs.declared.identifiers.Outcome.TheVariants as outcomes
use Rattle.qs_engage.specs.Nodes.{all_nodes}
use Rattle.qs_ipc.specs.Ipc as ipc
use Rattle.qs_packet.specs.declared.message.Message.TheVariants as messages
use Rattle.qs_record.specs.declared.record.Record.TheVariants as records
use Rattle.qs_tm.specs.Manager as tm
use Rattle.qs_tm.specs.Members.{all_servers}
use Rattle.qs_tm.specs.Outcomes as outcome_rules
use Rattle.qs_world_refine.specs.SoundLaws.{TellCameSound}
use Rattle.qs_world_refine.proofs.Maps.{lookup_changed}
use Rattle.qs_world_refine.proofs.StartWorlds.{nobody}
use Rattle.qs_world_refine.proofs.SoundParts.{and_both}
use Rattle.qs_world_refine.proofs.SoundRules.{send_node}
use Rattle.qs_world_refine.proofs.SoundEnds.{part_turned, part_ended}
use Rattle.qs_world_refine.proofs.SoundHolds.{Holds, holds_step, known_sound, told_as}
use Rattle.qs_world_refine.proofs.SoundKnown.{put_sound}
use Rattle.qs_world_refine.proofs.SoundNotices.{give_notices_hold}
use Rattle.qs_world_refine.proofs.SoundViews.{PartSound, is_apart, seen}

-- ---- an outcome is learnt elsewhere than at the home

-- what the log has of it keeps it sound
abbrev LogSound : Participant → InLog → Type 0
LogSound part log = (where_so (log.prepared || log.listed) log.unended && (where_so log.prepared part.involved && where_so log.listed false)) ≡ true

log_away : (part : Participant) → part.engage.home ≡ false → (where_so (part.log.prepared || part.log.listed) part.log.unended && (where_so part.log.prepared part.involved
    && (where_so part.log.listed (part.engage.home && (is_some part.outcome && not (is_abort part.outcome))) && where_so (part.log.prepared && part.engage.home) (is_undecided part || is_abort part.outcome)))) ≡ true → LogSound part part.log
log_away part away is = by part.engage.home away (where_so (part.log.prepared || part.log.listed) part.log.unended) (where_so part.log.prepared part.involved) part.log.listed part.log.prepared _ _ is
  where
    by : (h : Bool) → h ≡ false → (a b l p x y : Bool) → (a && (b && (where_so l (h && x) && where_so (p && h) y))) ≡ true → (a && (b && where_so l false)) ≡ true
    by true so a b l p x y its = absurd (cc (so))
    by false so true true true p x y its = absurd (cc (its))
    by false so true true false p x y its = refl
    by false so true false l p x y its = absurd (cc (its))
    by false so false b l p x y its = absurd (cc (its))

as_away : (part : Participant) (outcome : Option Outcome) (log : InLog) → part.engage.home ≡ false → LogSound part log → (where_so (log.prepared || log.listed) log.unended && (where_so log.prepared part.involved
    && (where_so log.listed (part.engage.home && (is_some outcome && not (is_abort outcome))) && where_so (log.prepared && part.engage.home) (is_none outcome || is_abort outcome)))) ≡ true
as_away part outcome log away is = by part.engage.home away (where_so (log.prepared || log.listed) log.unended) (where_so log.prepared part.involved) log.listed log.prepared _ _ is
  where
    by : (h : Bool) → h ≡ false → (a b l p x y : Bool) → (a && (b && where_so l false)) ≡ true → (a && (b && (where_so l (h && x) && where_so (p && h) y))) ≡ true
    by true so a b l p x y its = absurd (cc (so))
    by false so true true true p x y its = absurd (cc (its))
    by false so true true false true x y its = refl
    by false so true true false false x y its = refl
    by false so true false l p x y its = absurd (cc (its))
    by false so false b l p x y its = absurd (cc (its))

-- elsewhere than at the home, and decided
abbrev is_over : Participant → Bool
is_over part = not part.engage.home && is_some part.outcome

over_is : (part : Participant) → is_over part ≡ true → (part.engage.home ≡ false) × (is_some part.outcome ≡ true)
over_is part is = by part.engage.home (is_some part.outcome) is
  where
    by : (h o : Bool) → (not h && o) ≡ true → (h ≡ false) × (o ≡ true)
    by true o so = absurd (cc (so))
    by false o so = (refl, so)

over_busy : (part : Participant) → is_over part ≡ true → is_apart part ≡ false
over_busy part is = by part.outcome (over_is part is).1 part.engage.home (is_some part.engage.superior)
  where
    by : (o : Option Outcome) → is_some o ≡ true → (h t : Bool) → (not h && (is_none o && not (if h then is_none o else t))) ≡ false
    by None so h t = absurd (cc (so))
    by (Some x) so true t = refl
    by (Some x) so false t = refl

learnt_sound : (node : NodeValue) (tid : Tid) (part : Participant) (outcome : Outcome) → part.engage.home ≡ false → PartSound node tid part → PartSound node tid (outcome_rules.took_outcome outcome part)
learnt_sound node tid part outcome away s = record {
  whole = s.whole;
  homed = s.homed;
  peers = s.peers;
  members = s.members;
  superior = s.superior;
  outside = s.outside;
  idle = rw away refl;
  began = rw away refl;
  logged = as_away part (Some outcome) part.log away (log_away part away s.logged);
  silent = s.silent;
}

-- the record of a learnt outcome ends it in the log
ended_log : (node : NodeValue) (tid : Tid) (part : Participant) (log : InLog) → log.prepared ≡ false → log.listed ≡ false → part.engage.home ≡ false → PartSound node tid part → PartSound node tid (record part { log = log })
ended_log node tid part log not_prepared not_listed away s = record {
  whole = s.whole;
  homed = s.homed;
  peers = s.peers;
  members = s.members;
  superior = s.superior;
  outside = s.outside;
  idle = s.idle;
  began = s.began;
  logged = as_away part part.outcome log away (rw (not_prepared, not_listed) refl);
  silent = s.silent;
}

module _ (tid : Tid) (outcome : Outcome) (part : Participant) (work : Work) (known : part_of tid work ≡ Some part) (open_now : is_undecided part ≡ true) (away : part.engage.home ≡ false)
    (still : outcome ≡ outcomes.Commit → (ipc.waits tid work.node.queues ≡ false) × (is_lent tid work.node ≡ false)) (sound : is_sound work.node ≡ true) where
  abbrev took : Work
  took = with_manager (tm.took_outcome tid outcome) work

  took_holds : Holds is_over tid took.node
  took_holds = (turned outcome refl, told_as is_over tid took.node.manager (outcome_rules.took_outcome outcome part) (lookup_changed (is_at (tid_cmp tid)) (outcome_rules.took_outcome outcome) work.node.manager.known part known) (rw away refl))
    where
      its : PartSound work.node tid (outcome_rules.took_outcome outcome part)
      its = learnt_sound work.node tid part outcome away (known_sound tid work.node part known sound)

      turned : (o : Outcome) → outcome ≡ o → is_sound took.node ≡ true
      turned outcomes.Commit is = part_ended tid (outcome_rules.took_outcome outcome) work.node part known (still is).0 (still is).1 its sound
      turned outcomes.Abort is = part_turned tid (outcome_rules.took_outcome outcome) work.node part known (λ so. rw is refl) its sound

  noticed_holds : Holds is_over tid (give_notices tid outcome took).node
  noticed_holds = give_notices_hold is_over tid over_busy (λ server p is. is) outcome took took_holds

  recorded : (o : Outcome) (w : Work) → Holds is_over tid w.node → (b : Bool) → is_sound (log_if (if b then Some (end_record tid o) else None) w).node ≡ true
  recorded o w holds false = holds.0
  recorded outcomes.Commit w holds true = (holds_step is_over is_over tid (outcome_rules.logged (records.Commit tid [])) w.node
      (λ p is s. (refl, (is, ended_log w.node tid p (outcome_rules.in_log (records.Commit tid []) p.log) refl refl (over_is p is).0 s))) holds).0
  recorded outcomes.Abort w holds true = (holds_step is_over is_over tid (outcome_rules.logged (records.Aborted tid)) w.node
      (λ p is s. (refl, (is, ended_log w.node tid p (outcome_rules.in_log (records.Aborted tid) p.log) refl refl (over_is p is).0 s))) holds).0

  learn_sound : is_sound (learn tid outcome part work).node ≡ true
  learn_sound = recorded outcome (give_notices tid outcome took) noticed_holds part.log.prepared

-- ---- a node that knows nothing of it keeps an abort

abort_peers : (node : NodeValue) (home : Bool) → list_all (is_sound_peer node (aborted_participant home)) all_nodes ≡ true
unfolding all_nodes
abort_peers node home = refl

abort_members : (home : Bool) → list_all (is_sound_member (aborted_participant home)) all_servers ≡ true
unfolding all_servers
abort_members home = refl

pub aborted_sound : (node : NodeValue) (tid : Tid) (home : Bool) → same_node tid.home node.setting.node ≡ home → PartSound node tid (aborted_participant home)
unfolding all_nodes
aborted_sound node tid home its = record {
  whole = refl;
  homed = same home (same_node tid.home node.setting.node) its;
  peers = abort_peers node home;
  members = abort_members home;
  superior = refl;
  outside = rw (nobody tid.home.0) refl;
  idle = idle home _;
  began = began home _;
  logged = refl;
  silent = silent home;
}
  where
    same : (a b : Bool) → b ≡ a → same_flag a b ≡ true
    same true b is = is
    same false b is = rw is refl

    idle : (h b : Bool) → where_so (is_apart (aborted_participant h)) b ≡ true
    idle true b = refl
    idle false b = refl

    began : (h b : Bool) → where_so (h && false) b ≡ true
    began true b = refl
    began false b = refl

    silent : (h : Bool) → where_so (not h) (true && true) ≡ true
    silent true = refl
    silent false = refl

-- the manager's node is the node's
pub home_same : (node : NodeValue) (tid : Tid) → fits_setting node ≡ true → same_node tid.home node.setting.node ≡ tm.is_home tid node.manager
home_same node tid fits = ap (λ (k : Rattle.std.proofs.Common.ℕ). tid.home.0 == k) (sym (eqb-true node.manager.node.0 node.setting.node.0 named))
  where
    named : (node.manager.node.0 == node.setting.node.0) ≡ true
    named = (and_both (same_node node.manager.node node.setting.node) _ (and_both (nat_lt node.setting.node.0 node.setting.nodes && (nat_le node.setting.nodes 16 && nat_lt 0 node.setting.inc)) _ fits).1).0

pub keep_abort_sound : (tid : Tid) (work : Work) → is_sound work.node ≡ true → is_sound (with_manager (tm.keep_abort tid) work).node ≡ true
keep_abort_sound tid work sound = by (part_of tid work) refl
  where
    made : Participant
    made = aborted_participant (tm.is_home tid work.node.manager)

    by : (o : Option Participant) → part_of tid work ≡ o → is_sound (with_manager (λ m. if is_some o then m else tm.put_part tid (aborted_participant (tm.is_home tid m)) m) work).node ≡ true
    by (Some part) known = sound
    by None none = put_sound tid (aborted_participant (tm.is_home tid work.node.manager)) work.node none
        (aborted_sound work.node tid (tm.is_home tid work.node.manager) (home_same work.node tid (seen work.node sound).fits)) sound

-- ---- the whole rule

pub tell_came_sound : TellCameSound
tell_came_sound peer tid outcome work still sound = by (same_node tid.home (here work)) refl
  where
    unknown : (o : Outcome) → is_sound (learn_unknown tid o work).node ≡ true
    unknown outcomes.Commit = sound
    unknown outcomes.Abort = keep_abort_sound tid work sound

    known_by : (part : Participant) → part_of tid work ≡ Some part → part.engage.home ≡ false → (b : Bool) → is_undecided part ≡ b → is_sound (if b then learn tid outcome part work else work).node ≡ true
    known_by part known away true open_now = learn_sound tid outcome part work known open_now away still sound
    known_by part known away false is = sound

    away_is : (h n : Bool) → n ≡ false → same_flag h n ≡ true → h ≡ false
    away_is true n so is = absurd (cc (so, is))
    away_is false n so is = refl

    taken : same_node tid.home (here work) ≡ false → (o : Option Participant) → part_of tid work ≡ o
        → StaysSound work (elim o [ None ↦ learn_unknown tid outcome work | Some part ↦ if is_undecided part then learn tid outcome part work else work ])
    taken away None none so = unknown outcome
    taken away (Some part) known so = known_by part known (away_is part.engage.home (same_node tid.home (here work)) away (known_sound tid work.node part known sound).homed) (is_undecided part) refl

    by : (b : Bool) → same_node tid.home (here work) ≡ b → is_sound (if b then work else Rattle.qs_node_step.specs.Bringing.send peer (messages.Told tid (names_at tid outcome work)) (take_outcome tid outcome work)).node ≡ true
    by true is = sound
    by false away = rw (send_node peer (messages.Told tid (names_at tid outcome work)) (take_outcome tid outcome work)) (taken away (part_of tid work) refl sound)
