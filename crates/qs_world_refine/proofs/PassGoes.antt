-- A vote pass as a whole.
use Rattle.qs_world_refine.proofs.Words.{◌≡◌, ℕ, ◌==◌, ◌&&◌, ◌||◌, not, nat_le, Bool, true, false, List, [], ◌∷◌, length, Some, None, is_some, fold, refl, sym, subst, ap, ◌∙◌, if◌then◌else◌, is_at, eqb-true, not-true, or_parts, length-set, tid_cmp, ServerNo, Tid, same_node, is_standing_loan, number_of, after_notice, member_of, needs_pass, is_undecided, servers_due, Participant, end_member, end_members, due_endings, is_lent, is_busy, is_pass_due, Work, doings_of, part_of, vote_next, due_votes}
use Rattle.qs_world_refine.proofs.Words.{vote_pass, IsLawful, face, uncast_of, began_here, HasKinds, Scene, ShowsWork, server_no, is_sound, is_whole, same_flag, where_so, IsAt, IsWhole, Goes}
use Rattle.qs_ipc.specs.Ipc as ipc
use Rattle.qs_ops.specs.declared.vote.Notice.TheVariants as notices
use Rattle.qs_tm.specs.Outcomes as outcome_rules
use Rattle.qs_tm.specs.Participant.{awaits_note}
use Rattle.qs_tm.specs.declared.participant.Due.TheVariants as dues
use Rattle.qs_node_step.specs.Settling.{is_put_off}
use Rattle.qs_world_agree.specs.World.{World}
use Rattle.qs_world_refine.specs.PassLaws.{PassRuleGoes}
use Rattle.qs_world_refine.proofs.Keeping.{keeps_shown, nothing_goes}
use Rattle.qs_world_refine.proofs.Known.{is_open, told_is}
use Rattle.qs_world_refine.proofs.Maps.{lookup_changed}
use Rattle.qs_world_refine.proofs.NodeReady.{none_waits, none_lent}
use Rattle.qs_world_refine.proofs.Notices.{end_learns, all_learn, uncast_settled}
use Rattle.qs_world_refine.proofs.PassDue.{due_still, dues_found}
use Rattle.qs_world_refine.proofs.PassFold.{pass_goes}
use Rattle.qs_world_refine.proofs.PassVotes.{Passing}
use Rattle.qs_world_refine.proofs.ServerKinds.{kind_kept, notice_kind}
use Rattle.qs_world_refine.proofs.SoundCount.{audit_fits}
use Rattle.qs_world_refine.proofs.SoundHolds.{known_sound}
use Rattle.qs_world_refine.proofs.SoundMembers.{vote_covers}
use Rattle.qs_world_refine.proofs.SoundParts.{and_both}
use Rattle.qs_world_refine.proofs.SoundViews.{PartSound, is_apart, seen}

-- ---- immediate servers get their endings

record Ended (tid : Tid) (scene : Scene) (n : ℕ) (work : Work) (before : Participant) : Type 0 where
  part : Participant
  passing : Passing tid scene n work part
  left : (r : ℕ) → uncast_of (member_of part (server_no r)) ≡ uncast_of (member_of before (server_no r))

module _ (tid : Tid) (scene : Scene) (n : ℕ) where
  end_passing : (work : Work) (part : Participant) (server : ServerNo) → Passing tid scene n work part → Passing tid scene n (end_member tid work server) (outcome_rules.settled server part)
  end_passing work part server is = record {
    at = record { in_run = is.at.in_run; up = is.at.up; node = is.at.node; nodes = is.at.nodes; inc = is.at.inc };
    knows = record {
      known = lookup_changed (is_at (tid_cmp tid)) (outcome_rules.settled server) work.node.manager.known part is.knows.known;
      whole = record { peers = is.knows.whole.peers; members = length-set part.members server.0 _ ∙ is.knows.whole.members; told = is.knows.whole.told; tell = is.knows.whole.tell; acknowledged = is.knows.whole.acknowledged };
    };
    undecided = is.undecided;
    asked = is.asked;
    idle = is.idle;
    unlent = is.unlent;
    on = is.on;
    kinds = λ r below. ap number_of (kind_kept (λ value. after_notice value tid notices.Ending) (λ value. notice_kind value tid notices.Ending) r work.node.servers server) ∙ is.kinds r below;
    audit = is.audit;
  }

  ended : (list : List ServerNo) (work : Work) (part : Participant) → Passing tid scene n work part → Ended tid scene n (fold (end_member tid) work list) part
  ended [] work part is = record { part = part; passing = is; left = λ r. refl }
  ended (server ∷ list) work part is =
      let more = ended list (end_member tid work server) (outcome_rules.settled server part) (end_passing work part server is) in
      record { part = more.part; passing = more.passing; left = λ r. more.left r ∙ uncast_settled server part r }

-- ---- where a pass is due

pub whole_of : (part : Participant) → is_whole part ≡ true → IsWhole part
whole_of part is =
    let halves : (((length part.engage.peers == 16) && (length part.members == 7)) ≡ true) × (((length part.told.has == 16) && ((length part.tell.has == 16) && (length part.acknowledged.has == 16))) ≡ true) =
    and_both ((length part.engage.peers == 16) && (length part.members == 7)) ((length part.told.has == 16) && ((length part.tell.has == 16) && (length part.acknowledged.has == 16))) is in
    let front : ((length part.engage.peers == 16) ≡ true) × ((length part.members == 7) ≡ true) = and_both (length part.engage.peers == 16) (length part.members == 7) halves.0 in
    let back : ((length part.told.has == 16) ≡ true) × (((length part.tell.has == 16) && (length part.acknowledged.has == 16)) ≡ true) = and_both (length part.told.has == 16) ((length part.tell.has == 16) && (length part.acknowledged.has == 16)) halves.1 in
    let last : ((length part.tell.has == 16) ≡ true) × ((length part.acknowledged.has == 16) ≡ true) = and_both (length part.tell.has == 16) (length part.acknowledged.has == 16) back.1 in
    record {
      peers = eqb-true (length part.engage.peers) 16 front.0;
      members = eqb-true (length part.members) 7 front.1;
      told = eqb-true (length part.told.has) 16 back.0;
      tell = eqb-true (length part.tell.has) 16 last.0;
      acknowledged = eqb-true (length part.acknowledged.has) 16 last.1;
    }

module _ (tid : Tid) (work : Work) (part : Participant) (sound : is_sound work.node ≡ true) (known : part_of tid work ≡ Some part) (undecided : part.outcome ≡ None) where
  its : PartSound work.node tid part
  its = known_sound tid work.node part known sound

  -- who has a vote to cast is engaged
  voter_busy : needs_pass part ≡ true → is_apart part ≡ false
  voter_busy needs = held (is_apart part) (ipc.waits tid work.node.queues) (is_lent tid work.node) (needs_pass part) needs its.idle
    where
      held : (c a b m : Bool) → m ≡ true → where_so c (not a && (not b && not m)) ≡ true → c ≡ false
      held false a b m is so = refl
      held true true b m is so = absurd (cc so)
      held true false true m is so = absurd (cc so)
      held true false false true is so = absurd (cc so)
      held true false false false is so = absurd (cc is)

  pub engaged : is_apart part ≡ false → (face work.node tid part).on ≡ true
  engaged busy = by part.engage.home refl
    where
      by : (h : Bool) → part.engage.home ≡ h → (if began_here work.node tid then not (is_some part.outcome) else is_some part.engage.superior) ≡ true
      by true home = at_home (same_node tid.home work.node.setting.node) (tid.inc == work.node.setting.inc) (here (same_node tid.home work.node.setting.node) its.homed) first
        where
          here : (b : Bool) → same_flag part.engage.home b ≡ true → b ≡ true
          here b is = rw home at is

          first : (tid.inc == work.node.setting.inc) ≡ true
          first = now part.engage.home (is_undecided part) home (is_open part undecided) its.began
            where
              now : (a b : Bool) → a ≡ true → b ≡ true → where_so (a && b) ((tid.inc == work.node.setting.inc) && nat_le tid.seq work.node.manager.begun) ≡ true → (tid.inc == work.node.setting.inc) ≡ true
              now true true is so began = (and_both (tid.inc == work.node.setting.inc) (nat_le tid.seq work.node.manager.begun) began).0
              now false b is so began = absurd (cc is)
              now true false is so began = absurd (cc so)

          at_home : (a b : Bool) → a ≡ true → b ≡ true → (if a && b then not (is_some part.outcome) else is_some part.engage.superior) ≡ true
          at_home a b is so = rw (is, so, undecided) refl
      by false away = elsewhere (same_node tid.home work.node.setting.node) (tid.inc == work.node.setting.inc) (there (same_node tid.home work.node.setting.node) its.homed) answers
        where
          there : (b : Bool) → same_flag part.engage.home b ≡ true → b ≡ false
          there b is = not-true b (rw away at is)

          answers : is_some part.engage.superior ≡ true
          answers = some part.engage.home (is_undecided part) (is_some part.engage.superior) away (is_open part undecided) busy
            where
              some : (h u s : Bool) → h ≡ false → u ≡ true → (not h && (u && not (if h then u else s))) ≡ false → s ≡ true
              some true u s is so busy = absurd (cc is)
              some false false s is so busy = absurd (cc so)
              some false true true is so busy = refl
              some false true false is so busy = absurd (cc busy)

          elsewhere : (a b : Bool) → a ≡ false → is_some part.engage.superior ≡ true → (if a && b then not (is_some part.outcome) else is_some part.engage.superior) ≡ true
          elsewhere a b is so = rw is so

module _ (tid : Tid) (scene : Scene) (n : ℕ) (work : Work) (part : Participant) (at : IsAt scene n work) (sound : is_sound work.node ≡ true) (kinds : HasKinds work.node) (known : part_of tid work ≡ Some part) (undecided : part.outcome ≡ None) where
  begins : is_pass_due tid part work ≡ true → Passing tid scene n work part
  begins due = record {
    at = at;
    knows = record { known = known; whole = whole_of part (its tid work part sound known undecided).whole };
    undecided = undecided;
    asked = first.0;
    idle = λ r. none_waits tid work.node.queues (server_no r) free.0;
    unlent = none_lent (is_standing_loan tid work.node.setting.inc) work.node.kept.now.loans (or_parts (is_lent tid work.node) (awaits_note part) free.1).0;
    on = engaged tid work part sound known undecided (voter_busy tid work part sound known undecided (and_both (needs_pass part) (not (is_put_off (doings_of tid work))) halves.1).0);
    kinds = kinds;
    audit = audit_fits work.node (seen work.node sound).fits;
  }
    where
      halves : ((part.asked && not (is_busy tid work.node part)) ≡ true) × ((needs_pass part && not (is_put_off (doings_of tid work))) ≡ true)
      halves = and_both (part.asked && not (is_busy tid work.node part)) (needs_pass part && not (is_put_off (doings_of tid work))) due

      first : (part.asked ≡ true) × (not (is_busy tid work.node part) ≡ true)
      first = and_both part.asked (not (is_busy tid work.node part)) halves.0

      free : (ipc.waits tid work.node.queues ≡ false) × ((is_lent tid work.node || awaits_note part) ≡ false)
      free = or_parts (ipc.waits tid work.node.queues) (is_lent tid work.node || awaits_note part) (not-true (is_busy tid work.node part) first.1)

  passes : (w : World) → IsLawful w → ShowsWork tid scene n work w → is_pass_due tid part work ≡ true → Goes tid scene n (vote_pass tid work) w
  passes w lawful shown due = subst (λ (list : List ServerNo). Goes tid scene n (fold (vote_next tid) (end_members tid work) list) w) (sym list_is)
      (pass_goes tid scene n (servers_due dues.Vote part) 0 (end_members tid work) now.part w now.passing
      (due_still part now.part 0 (servers_due dues.Vote part) (λ r _. now.left r) (dues_found part (vote_covers work.node tid part (its tid work part sound known undecided)))) lawful
      (keeps_shown tid scene n work (end_members tid work) w (all_learn tid (end_member tid) (end_learns tid) (due_endings tid work) work).keeps shown))
    where
      now : Ended tid scene n (end_members tid work) part
      now = ended tid scene n (due_endings tid work) work part (begins due)

      list_is : due_votes tid work ≡ servers_due dues.Vote part
      list_is = told_is tid [] (servers_due dues.Vote) work.node.manager part known

pub pass_rule_goes : PassRuleGoes
pass_rule_goes tid scene n work part w lawful shown at sound kinds known undecided = by (is_pass_due tid part work) refl
  where
    by : (b : Bool) → is_pass_due tid part work ≡ b → Goes tid scene n (if b then vote_pass tid work else work) w
    by true due = passes tid scene n work part at sound kinds known undecided w lawful shown due
    by false due = nothing_goes tid scene n work w shown
