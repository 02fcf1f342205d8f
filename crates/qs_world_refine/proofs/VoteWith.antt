-- A server votes recoverable: its Prepare is logged in the step of the vote.
use Rattle.qs_world_refine.proofs.Words.{◌≡◌, ℕ, ◌-◌, ◌<◌, ◌≤◌, ◌==◌, Bool, true, false, List, Some, None, refl, ap, ◌∙◌, arith, if◌then◌else◌, is_at, tid_cmp, Tid, class_of, changes_in, Op, Record, member_of, Participant, member_here, server_at, Work, part_of, vote_with, enter_vote, served_count, face, uncast_of, loans_at, SightGoes, Scene, sight_during, ShowsWork, server_no, IsAt, Goes, or-true, or-false}
use Rattle.qs_base.specs.declared.identifiers.Class.TheVariants as classes
use Rattle.qs_ops.specs.declared.vote.Vote.TheVariants as votes
use Rattle.qs_record.specs.declared.record.Record.TheVariants as records
use Rattle.qs_tm.specs.Outcomes as outcome_rules
use Rattle.qs_tm.specs.Participant as participant
use Rattle.qs_world_agree.specs.World.{World, with_at}
use Rattle.qs_world_refine.specs.NodeFaces.{waiting_at}
use Rattle.qs_world_refine.specs.Seen.{sight_prepared}
use Rattle.qs_world_refine.specs.Steps.{Knows}
use Rattle.qs_world_refine.proofs.Alike.{SameFace}
use Rattle.qs_world_refine.proofs.Arrays.{member_put}
use Rattle.qs_world_refine.proofs.During.{face_here, runs}
use Rattle.qs_world_refine.proofs.EventGoes as event
use Rattle.qs_world_refine.proofs.Known.{told_is}
use Rattle.qs_world_refine.proofs.Logging.{logged_shown}
use Rattle.qs_world_refine.proofs.Maps.{lookup_changed}
use Rattle.qs_world_refine.proofs.Reading.{part_known}

module _ (tid : Tid) (scene : Scene) (n s : ℕ) (work : Work) (part : Participant) (w : World)
    (at : IsAt scene n work) (knows : Knows tid work part) (undecided : part.outcome ≡ None) (server_in : s < 7)
    (asked : part.asked ≡ true) (idle : (r : ℕ) → waiting_at work.node tid r ≡ 0) (unlent : loans_at work.node tid ≡ 0)
    (due : 1 ≤ uncast_of (member_of part (server_no s))) (class : class_of s ≡ classes.Recoverable)
    (shown : ShowsWork tid scene n work w) where
  abbrev new : Work
  new = vote_with tid (server_no s) votes.Recoverable work

  abbrev voted_work : Work
  voted_work = enter_vote tid (server_no s) votes.Recoverable work

  abbrev covers : ℕ
  covers = served_count tid (server_no s) voted_work

  abbrev changes : List Op
  changes = changes_in (server_at voted_work.node.servers (server_no s)) tid

  abbrev rec : Record
  rec = records.Prepare tid (server_no s) covers changes

  abbrev voted_part : Participant
  voted_part = participant.voted (member_here work (server_no s)) votes.Recoverable (member_of part (server_no s)).served part

  abbrev last_part : Participant
  last_part = outcome_rules.logged rec voted_part

  x_face : (sight_during tid scene n work).face n ≡ face work.node tid part
  x_face = face_here tid scene n work ∙ ap (λ (p : Participant). face work.node tid p) (part_known tid work.node part knows.known)

  count_is : served_count tid (server_no s) work ≡ (member_of part (server_no s)).served
  count_is = told_is tid 0 (λ part. (member_of part (server_no s)).served) work.node.manager part knows.known

  known_voted : part_of tid voted_work ≡ Some voted_part
  known_voted =
      lookup_changed (is_at (tid_cmp tid)) (participant.voted (member_here work (server_no s)) votes.Recoverable (served_count tid (server_no s) work)) work.node.manager.known part knows.known
      ∙ ap (λ (c : ℕ). Some (participant.voted (member_here work (server_no s)) votes.Recoverable c part)) count_is

  known_after : part_of tid new ≡ Some last_part
  known_after = lookup_changed (is_at (tid_cmp tid)) (outcome_rules.logged rec) voted_work.node.manager.known voted_part known_voted

  member_is : (r : ℕ) → member_of last_part (server_no r) ≡ (if r == s then record (member_of part (server_no s)) { vote = Some (record { ballot = Rattle.qs_tm.specs.declared.members.Ballot.TheVariants.Recoverable; covers = (member_of part (server_no s)).served }) } else member_of part (server_no r))
  member_is r = member_put s r _ part (rw knows.whole.members server_in)

  uncast_is : (r : ℕ) → uncast_of (member_of last_part (server_no r)) ≡ with_at (λ k. uncast_of (member_of part (server_no k))) s 0 r
  uncast_is r = ap uncast_of (member_is r) ∙ by (r == s)
    where
      none_left : (k : ℕ) → k - k ≡ 0
      none_left k = omega arith

      by : (b : Bool) → uncast_of (if b then record (member_of part (server_no s)) { vote = Some (record { ballot = Rattle.qs_tm.specs.declared.members.Ballot.TheVariants.Recoverable; covers = (member_of part (server_no s)).served }) } else member_of part (server_no r)) ≡ (if b then 0 else uncast_of (member_of part (server_no r)))
      by true = none_left (member_of part (server_no s)).served
      by false = refl

  face_voted : SameFace (record (face work.node tid part) { uncast = with_at (face work.node tid part).uncast s 0; involved = true }) (face new.node tid last_part)
  face_voted = record {
    is_home = refl;
    on = refl;
    superior = refl;
    last = λ m. refl;
    sent = λ m. refl;
    covered = λ m. refl;
    waits = λ r. refl;
    uncast = uncast_is;
    loans = refl;
    asked = refl;
    blocked = or-false part.blocked;
    involved = or-true part.involved;
    told = λ m. refl;
    outcome = rw undecided refl;
    tell = λ m. refl;
  }

  turn : SightGoes tid (sight_prepared tid (sight_during tid scene n work) n s covers changes) w
  turn = event.prepare tid (sight_during tid scene n work) w n s covers changes shown (runs tid scene n work at) (rw (x_face, undecided) refl) (rw x_face asked) (rw x_face idle) (rw x_face unlent) (rw x_face due) class

  pub vote_goes : Goes tid scene n (vote_with tid (server_no s) votes.Recoverable work) w
  vote_goes = record {
    next = turn.next;
    leads = turn.leads;
    shown = logged_shown tid scene n rec work new turn.next refl refl refl
        (record ((sight_during tid scene n work).face n) { uncast = with_at ((sight_during tid scene n work).face n).uncast s 0; involved = true }) turn.shown
        (rw (x_face, part_known tid new.node last_part known_after) face_voted);
  }
