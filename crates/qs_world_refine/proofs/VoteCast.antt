-- A server votes with nothing in the log: read-only, volatile, or against a commit.
use Rattle.qs_world_refine.proofs.Words.{◌≡◌, ◌⊎◌, ℕ, ◌-◌, ◌<◌, ◌==◌, ◌||◌, Bool, true, false, Some, None, refl, subst, ap, ◌∙◌, arith, if◌then◌else◌, is_at, tid_cmp, Tid, class_of, Vote, ballot_of, member_of, Participant, member_here, Work, part_of, vote_with, enter_vote, served_count, Face, face, uncast_of, SightGoes, MayVote, sight_faced, Scene, sight_during, ShowsWork, Sight, ShowsSight, server_no, IsAt, Goes, or-true, or-false}
use Rattle.qs_base.specs.declared.identifiers.Class.TheVariants as classes
use Rattle.qs_ops.specs.declared.vote.Reason.{Reason}
use Rattle.qs_ops.specs.declared.vote.Vote.TheVariants as votes
use Rattle.qs_tm.specs.Members.{is_binding, is_refusal}
use Rattle.qs_tm.specs.Participant as participant
use Rattle.qs_world_agree.specs.World.{World, with_at}
use Rattle.qs_world_refine.specs.Steps.{Knows}
use Rattle.qs_world_refine.proofs.Alike.{SameFace, found_itself}
use Rattle.qs_world_refine.proofs.Arrays.{member_put}
use Rattle.qs_world_refine.proofs.During.{face_here, runs, local_shown}
use Rattle.qs_world_refine.proofs.Ballots as event
use Rattle.qs_world_refine.proofs.Known.{told_is}
use Rattle.qs_world_refine.proofs.Maps.{lookup_changed}
use Rattle.qs_world_refine.proofs.Reading.{part_known}

module _ (tid : Tid) (scene : Scene) (n s : ℕ) (ballot : Vote) (work : Work) (part : Participant) (w : World)
    (at : IsAt scene n work) (knows : Knows tid work part) (server_in : s < 7) (undecided : part.outcome ≡ None) (may : MayVote (face work.node tid part) s) (shown : ShowsWork tid scene n work w) where
  abbrev voted_work : Work
  voted_work = enter_vote tid (server_no s) ballot work

  abbrev voted_part : Participant
  voted_part = participant.voted (member_here work (server_no s)) ballot (member_of part (server_no s)).served part

  x_face : (sight_during tid scene n work).face n ≡ face work.node tid part
  x_face = face_here tid scene n work ∙ ap (λ (p : Participant). face work.node tid p) (part_known tid work.node part knows.known)

  known_voted : part_of tid voted_work ≡ Some voted_part
  known_voted =
      lookup_changed (is_at (tid_cmp tid)) (participant.voted (member_here work (server_no s)) ballot (served_count tid (server_no s) work)) work.node.manager.known part knows.known
      ∙ ap (λ (c : ℕ). Some (participant.voted (member_here work (server_no s)) ballot c part)) (told_is tid 0 (λ part. (member_of part (server_no s)).served) work.node.manager part knows.known)

  member_is : (r : ℕ) → member_of voted_part (server_no r) ≡ (if r == s then record (member_of part (server_no s)) { vote = Some (record { ballot = ballot_of ballot; covers = (member_of part (server_no s)).served }) } else member_of part (server_no r))
  member_is r = member_put s r _ part (rw knows.whole.members server_in)

  uncast_is : (r : ℕ) → uncast_of (member_of voted_part (server_no r)) ≡ with_at (λ k. uncast_of (member_of part (server_no k))) s 0 r
  uncast_is r = ap uncast_of (member_is r) ∙ by (r == s)
    where
      none_left : (k : ℕ) → k - k ≡ 0
      none_left k = omega arith

      by : (b : Bool) → uncast_of (if b then record (member_of part (server_no s)) { vote = Some (record { ballot = ballot_of ballot; covers = (member_of part (server_no s)).served }) } else member_of part (server_no r)) ≡ (if b then 0 else uncast_of (member_of part (server_no r)))
      by true = none_left (member_of part (server_no s)).served
      by false = refl

  face_cast : (blocked involved : Bool) → (part.blocked || is_refusal (ballot_of ballot)) ≡ blocked → (part.involved || is_binding (ballot_of ballot)) ≡ involved
      → SameFace (record (face work.node tid part) { uncast = with_at (face work.node tid part).uncast s 0; blocked = blocked; involved = involved }) (face voted_work.node tid voted_part)
  face_cast blocked involved blocked_is involved_is = record {
    is_home = refl;
    on = refl;
    superior = refl;
    last = λ m. refl;
    sent = λ m. refl;
    covered = λ m. refl;
    waits = λ r. refl;
    uncast = uncast_is;
    loans = refl;
    asked = refl;
    blocked = blocked_is;
    involved = involved_is;
    told = λ m. refl;
    outcome = rw undecided refl;
    tell = λ m. refl;
  }

  may_here : MayVote ((sight_during tid scene n work).face n) s
  may_here = rw x_face may

  -- the node changed as an event changed its face
  cast_shown : (v : World) (blocked involved : Bool) → (part.blocked || is_refusal (ballot_of ballot)) ≡ blocked → (part.involved || is_binding (ballot_of ballot)) ≡ involved
      → ShowsSight tid (sight_faced (sight_during tid scene n work) n (record (face work.node tid part) { uncast = with_at (face work.node tid part).uncast s 0; blocked = blocked; involved = involved })) v
      → ShowsWork tid scene n voted_work v
  cast_shown v blocked involved blocked_is involved_is shown =
      local_shown tid scene n work voted_work v (record { sends = λ q. refl; logs = λ log. found_itself tid _ })
      (record (face work.node tid part) { uncast = with_at (face work.node tid part).uncast s 0; blocked = blocked; involved = involved }) shown
      (rw (part_known tid voted_work.node voted_part known_voted) (face_cast blocked involved blocked_is involved_is))

module _ (tid : Tid) (scene : Scene) (n s : ℕ) (work : Work) (part : Participant) (w : World)
    (at : IsAt scene n work) (knows : Knows tid work part) (server_in : s < 7) (undecided : part.outcome ≡ None) (may : MayVote (face work.node tid part) s) (shown : ShowsWork tid scene n work w) where
  abbrev x : Sight
  x = sight_during tid scene n work

  face_is : x.face n ≡ face work.node tid part
  face_is = face_here tid scene n work ∙ ap (λ (p : Participant). face work.node tid p) (part_known tid work.node part knows.known)

  pub read_goes : (class_of s ≡ classes.Recoverable) ⊎ (class_of s ≡ classes.Volatile) → Goes tid scene n (vote_with tid (server_no s) votes.ReadOnly work) w
  read_goes class = record {
    next = turn.next;
    leads = turn.leads;
    shown = cast_shown tid scene n s votes.ReadOnly work part w at knows server_in undecided may shown turn.next part.blocked part.involved (or-false part.blocked) (or-false part.involved)
        (subst (λ (f : Face). ShowsSight tid (sight_faced x n (record f { uncast = with_at f.uncast s 0 })) turn.next) face_is turn.shown);
  }
    where
      turn : SightGoes tid (sight_faced x n (record (x.face n) { uncast = with_at (x.face n).uncast s 0 })) w
      turn = event.vote_read tid x w n s shown (runs tid scene n work at) (rw face_is may) class

  pub volatile_goes : class_of s ≡ classes.Volatile → Goes tid scene n (vote_with tid (server_no s) votes.Volatile work) w
  volatile_goes class = record {
    next = turn.next;
    leads = turn.leads;
    shown = cast_shown tid scene n s votes.Volatile work part w at knows server_in undecided may shown turn.next part.blocked true (or-false part.blocked) (or-true part.involved)
        (subst (λ (f : Face). ShowsSight tid (sight_faced x n (record f { uncast = with_at f.uncast s 0; involved = true })) turn.next) face_is turn.shown);
  }
    where
      turn : SightGoes tid (sight_faced x n (record (x.face n) { uncast = with_at (x.face n).uncast s 0; involved = true })) w
      turn = event.vote_volatile tid x w n s shown (runs tid scene n work at) (rw face_is may) class

  pub against_goes : (reason : Reason) → (class_of s ≡ classes.Recoverable) ⊎ (class_of s ≡ classes.Volatile) → Goes tid scene n (vote_with tid (server_no s) (votes.Abort reason) work) w
  against_goes reason class = record {
    next = turn.next;
    leads = turn.leads;
    shown = cast_shown tid scene n s (votes.Abort reason) work part w at knows server_in undecided may shown turn.next true part.involved (or-true part.blocked) (or-false part.involved)
        (subst (λ (f : Face). ShowsSight tid (sight_faced x n (record f { uncast = with_at f.uncast s 0; blocked = true })) turn.next) face_is turn.shown);
  }
    where
      turn : SightGoes tid (sight_faced x n (record (x.face n) { uncast = with_at (x.face n).uncast s 0; blocked = true })) w
      turn = event.vote_abort tid x w n s shown (runs tid scene n work at) (rw face_is may) class
