-- A node stays sound where its servers vote, with their notes and Prepares.
use Rattle.qs_world_refine.proofs.Words.{◌≡◌, ℕ, ◌==◌, ◌&&◌, ◌||◌, not, nat_lt, Bool, true, false, List, [], ◌∷◌, Option, Some, None, is_some, refl, sym, ap, subst, arith, fold, if◌then◌else◌, eqb-true, or_left, nat_tests, Member, NodeNo, ServerNo, Tid, vote_of, changes_in, Note, Vote, server_at, audit_no, ballot_of, files_no, is_abort, member_of, with_member, is_undecided, needs_pass, Participant, member_here, end_members, is_lent, is_busy, is_pass_due, NodeValue, Work, here, part_of, owes_note}
use Rattle.qs_world_refine.proofs.Words.{issue_note, served_count, enter_vote, vote_with, vote_frame, vote_next, due_votes, vote_pass, note_text, change_count, is_audit, is_sound, where_so, eqb-self}
use Rattle.qs_ipc.specs.Ipc as ipc
use Rattle.qs_ops.specs.declared.vote.Vote.TheVariants as votes
use Rattle.qs_record.specs.declared.record.Record.TheVariants as records
use Rattle.qs_tm.specs.Manager as tm
use Rattle.qs_tm.specs.Members.{is_binding}
use Rattle.qs_tm.specs.Outcomes as outcome_rules
use Rattle.qs_tm.specs.Participant as participant
use Rattle.qs_tm.specs.Participant.{with_causes_of}
use Rattle.qs_world_refine.specs.SoundLaws.{PassRuleSound}
use Rattle.qs_world_refine.proofs.SoundParts.{and_both, both_and}
use Rattle.qs_world_refine.proofs.SoundHolds.{Holds, holds_step, holds_less, told_part, told_as, known_sound, is_held, held_as, is_open, open_held}
use Rattle.qs_world_refine.proofs.SoundIssue.{issue_holds}
use Rattle.qs_world_refine.proofs.SoundMembers.{member_sound, involve_sound}
use Rattle.qs_world_refine.proofs.SoundNotices.{end_members_hold}
use Rattle.qs_world_refine.proofs.SoundCount.{audit_fits}
use Rattle.qs_world_refine.proofs.SoundViews.{PartSound, is_apart, seen}

abbrev is_counted : ℕ → ServerNo → Participant → Bool
is_counted count server part = is_open part && (count == (member_of part server).served)

-- where the vote binds, the node is to be told
abbrev is_drawn : Bool → Participant → Bool
is_drawn b part = is_open part && (not b || part.involved)

-- ---- a vote counts

cast_sound : (node : NodeValue) (tid : Tid) (part : Participant) (member : Member) (ballot : Vote) (covers : ℕ) → covers ≡ (member_of part member.server).served → is_apart part ≡ false
    → PartSound node tid part → PartSound node tid (participant.voted member ballot covers part)
cast_sound node tid part member ballot covers all busy s =
    involve_sound node tid (with_member member.server (record (member_of part member.server) { vote = Some (record { ballot = ballot_of ballot; covers = covers }) }) (with_causes_of member ballot part))
    (member_sound node tid (with_causes_of member ballot part) s member.server (record (member_of part member.server) { vote = Some (record { ballot = ballot_of ballot; covers = covers }) })
    (rw all (grind (arith, nat_tests))) (rw busy refl)) (is_binding (ballot_of ballot))

module _ (tid : Tid) (server : ServerNo) (ballot : Vote) (work : Work) where
  or_last : (a b : Bool) → (not b || (a || b)) ≡ true
  or_last true true = refl
  or_last true false = refl
  or_last false true = refl
  or_last false false = refl

  counted : (p : Participant) → part_of tid work ≡ Some p → served_count tid server work ≡ (member_of p server).served
  counted p is = ap (λ (o : Option Participant). elim o [ None ↦ 0 | Some q ↦ (member_of q server).served ]) is

  entered_of : (part : Participant) → part_of tid work ≡ Some part → Holds is_open tid work.node → Holds (is_drawn (is_binding (ballot_of ballot))) tid (enter_vote tid server ballot work).node
  entered_of part known holds = holds_step (is_counted (served_count tid server work) server) (is_drawn (is_binding (ballot_of ballot))) tid (participant.voted (member_here work server) ballot (served_count tid server work)) work.node
      (λ p is s.
      let both : (is_open p ≡ true) × ((served_count tid server work == (member_of p server).served) ≡ true) = and_both (is_open p) (served_count tid server work == (member_of p server).served) is in (
        refl,
        (
          both_and (is_open p) (not (is_binding (ballot_of ballot)) || (p.involved || is_binding (ballot_of ballot))) both.0 (or_last p.involved (is_binding (ballot_of ballot))),
          cast_sound work.node tid p (member_here work server) ballot (served_count tid server work) (eqb-true (served_count tid server work) (member_of p server).served both.1) (open_held p both.0) s,
        ),
      )) (
        holds.0,
        told_as (is_counted (served_count tid server work) server) tid work.node.manager part known
            (both_and (is_open part) (served_count tid server work == (member_of part server).served) (told_part is_open tid work.node.manager part known holds.1) (rw (counted part known) (eqb-self (member_of part server).served))),
      )

  pub entered_holds : Holds is_open tid work.node → Holds (is_drawn (is_binding (ballot_of ballot))) tid (enter_vote tid server ballot work).node
  entered_holds holds = by (part_of tid work) refl
    where
      by : (o : Option Participant) → part_of tid work ≡ o → Holds (is_drawn (is_binding (ballot_of ballot))) tid (enter_vote tid server ballot work).node
      by None none =
          let never : tm.told_of tid false is_open work.node.manager ≡ false = ap (λ (o : Option Participant). elim o [ None ↦ false | Some p ↦ is_open p ]) none in
          let is : tm.told_of tid false is_open work.node.manager ≡ true = holds.1 in
          absurd (cc (never, is))
      by (Some part) known = entered_of part known holds

-- ---- its changes go on the disk

so_where : (c b : Bool) → b ≡ true → where_so c b ≡ true
so_where true b is = is
so_where false b is = refl

prepared_sound : (node : NodeValue) (tid : Tid) (part : Participant) → part.involved ≡ true → is_undecided part ≡ true → PartSound node tid part
    → PartSound node tid (record part { log = record part.log { unended = true; prepared = true } })
prepared_sound node tid part drawn open_now s = record {
  whole = s.whole;
  homed = s.homed;
  peers = s.peers;
  members = s.members;
  superior = s.superior;
  outside = s.outside;
  idle = s.idle;
  began = s.began;
  logged = both_and part.involved _ drawn (both_and (where_so part.log.listed (part.engage.home && (is_some part.outcome && not (is_abort part.outcome)))) (where_so part.engage.home (is_undecided part || is_abort part.outcome))
      listed (so_where part.engage.home (is_undecided part || is_abort part.outcome) (or_left (is_undecided part) (is_abort part.outcome) open_now)));
  silent = s.silent;
}
  where
    listed : where_so part.log.listed (part.engage.home && (is_some part.outcome && not (is_abort part.outcome))) ≡ true
    listed = (and_both (where_so part.log.listed (part.engage.home && (is_some part.outcome && not (is_abort part.outcome)))) _
        (and_both (where_so part.log.prepared part.involved) _ (and_both (where_so (part.log.prepared || part.log.listed) part.log.unended) _ s.logged).1).1).0

abbrev is_all_drawn : Participant → Bool
is_all_drawn part = is_open part && part.involved

vote_with_holds : (tid : Tid) (server : ServerNo) (ballot : Vote) (work : Work) → Holds is_open tid work.node → Holds is_open tid (vote_with tid server ballot work).node
vote_with_holds tid server (votes.Abort reason) work holds = holds_less (is_drawn false) is_open tid (λ p is. (and_both (is_open p) true is).0) (enter_vote tid server (votes.Abort reason) work).node (entered_holds tid server (votes.Abort reason) work holds)
vote_with_holds tid server votes.ReadOnly work holds = holds_less (is_drawn false) is_open tid (λ p is. (and_both (is_open p) true is).0) (enter_vote tid server votes.ReadOnly work).node (entered_holds tid server votes.ReadOnly work holds)
vote_with_holds tid server votes.Volatile work holds = holds_less (is_drawn true) is_open tid (λ p is. (and_both (is_open p) p.involved is).0) (enter_vote tid server votes.Volatile work).node (entered_holds tid server votes.Volatile work holds)
vote_with_holds tid server votes.Recoverable work holds = holds_step is_all_drawn is_open tid
    (outcome_rules.logged (records.Prepare tid server (served_count tid server entered) (changes_in (server_at entered.node.servers server) tid))) entered.node
    (λ p is s.
    let both : (is_open p ≡ true) × (p.involved ≡ true) = and_both (is_open p) p.involved is in
    (refl, (both.0, prepared_sound entered.node tid p both.1 (and_both (is_undecided p) (not (is_apart p)) both.0).0 s)))
    (entered_holds tid server votes.Recoverable work holds)
  where
    entered : Work
    entered = enter_vote tid server votes.Recoverable work

-- ---- a pass

issue_note_holds : (tid : Tid) (node : Option NodeNo) (work : Work) → node ≡ work.node.setting.audit → Holds is_open tid work.node → Holds is_open tid (issue_note tid node work).node
issue_note_holds tid None work its holds = holds
issue_note_holds tid (Some node) work its holds = issue_holds tid files_no (record { node = node; server = audit_no }) (Note (note_text tid (here work) (change_count tid work.node))) (change_count tid work.node) work in_run holds
  where
    in_run : nat_lt node.0 work.node.setting.nodes ≡ true
    in_run = subst (λ (o : Option NodeNo). is_audit work.node.setting.nodes o ≡ true) (sym its) (audit_fits work.node (seen work.node holds.0).fits)

pub vote_next_holds : (tid : Tid) (work : Work) (server : ServerNo) → Holds is_open tid work.node → Holds is_open tid (vote_next tid work server).node
vote_next_holds tid work server holds = by (owes_note tid server work)
  where
    by : (b : Bool) → Holds is_open tid (if b then issue_note tid work.node.setting.audit work
        else vote_with tid server (vote_of (server_at work.node.servers server) tid work.room (vote_frame work)) work).node
    by true = issue_note_holds tid work.node.setting.audit work refl holds
    by false = vote_with_holds tid server (vote_of (server_at work.node.servers server) tid work.room (vote_frame work)) work holds

vote_pass_holds : (tid : Tid) (work : Work) → Holds is_open tid work.node → Holds is_open tid (vote_pass tid work).node
vote_pass_holds tid work holds = each (due_votes tid work) (end_members tid work) (end_members_hold is_open tid open_held (λ server part is. is) work holds)
  where
    each : (servers : List ServerNo) (w : Work) → Holds is_open tid w.node → Holds is_open tid (fold (vote_next tid) w servers).node
    each [] w so = so
    each (server ∷ servers) w so = each servers (vote_next tid w server) (vote_next_holds tid w server so)

-- where a pass is due nothing waits and no loan stands
pub pass_open : (tid : Tid) (part : Participant) (work : Work) → part_of tid work ≡ Some part → is_undecided part ≡ true → is_sound work.node ≡ true → is_pass_due tid part work ≡ true → Holds is_open tid work.node
pass_open tid part work known open_now sound is = (
  sound,
  told_as is_open tid work.node.manager part known (both_and (is_undecided part) (is_held part) open_now
      (held_as part (busy (is_apart part) (not (ipc.waits tid work.node.queues)) (not (is_lent tid work.node)) (needs_pass part) due s.idle))),
)
  where
    s : PartSound work.node tid part
    s = known_sound tid work.node part known sound

    busy : (c a b n : Bool) → n ≡ true → where_so c (a && (b && not n)) ≡ true → c ≡ false
    busy true true true true is so = absurd (cc (so))
    busy true true false true is so = absurd (cc (so))
    busy true false b true is so = absurd (cc (so))
    busy true a b false is so = absurd (cc (is))
    busy false a b n is so = refl

    due : needs_pass part ≡ true
    due = (and_both (needs_pass part) _ (and_both (part.asked && not (is_busy tid work.node part)) _ is).1).0

pub pass_rule_sound : PassRuleSound
pass_rule_sound tid part work known open_now sound = by (is_pass_due tid part work) refl
  where
    by : (b : Bool) → is_pass_due tid part work ≡ b → is_sound (if b then vote_pass tid work else work).node ≡ true
    by true is = (vote_pass_holds tid work (pass_open tid part work known open_now sound is)).0
    by false is = sound
