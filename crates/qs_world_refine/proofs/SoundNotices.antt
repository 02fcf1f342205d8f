-- A node stays sound where its servers are told how a transaction ends.
use Rattle.qs_world_refine.proofs.Words.{◌≡◌, Bool, true, false, List, [], ◌∷◌, refl, fold, ServerNo, Tid, member_of, Participant, notify, end_member, end_members, due_endings, learn_member, learn_members, learners_at, give_notices, Work}
use Rattle.qs_base.specs.declared.identifiers.Outcome.{Outcome}
use Rattle.qs_base.specs.declared.identifiers.Outcome.TheVariants as outcomes
use Rattle.qs_ops.specs.declared.vote.Notice.{Notice}
use Rattle.qs_ops.specs.declared.vote.Notice.TheVariants as notices
use Rattle.qs_tm.specs.Outcomes.{settled}
use Rattle.qs_node_step.specs.Deciding.{notice_of}
use Rattle.qs_world_refine.proofs.SoundHolds.{Holds, holds_step}
use Rattle.qs_world_refine.proofs.SoundMembers.{member_sound, vote_covers}
use Rattle.qs_world_refine.proofs.SoundViews.{is_apart}

-- of a participant that is at its home, decided, or engaged, and stays such
module _ (g : Participant → Bool) (tid : Tid) (busy : (part : Participant) → g part ≡ true → is_apart part ≡ false) (stays : (server : ServerNo) (part : Participant) → g part ≡ true → g (settled server part) ≡ true) where
  pub notify_holds : (notice : Notice) (server : ServerNo) (work : Work) → Holds g tid work.node → Holds g tid (notify tid notice server work).node
  notify_holds notice server work holds = holds_step g g tid (settled server) work.node
      (λ part is s. (refl, (stays server part is, member_sound work.node tid part s server (record (member_of part server) { fresh = false }) (vote_covers work.node tid part s server) (rw (busy part is) refl)))) holds

  ends_hold : (servers : List ServerNo) (work : Work) → Holds g tid work.node → Holds g tid (fold (end_member tid) work servers).node
  ends_hold [] work holds = holds
  ends_hold (server ∷ servers) work holds = ends_hold servers (end_member tid work server) (notify_holds notices.Ending server work holds)

  pub end_members_hold : (work : Work) → Holds g tid work.node → Holds g tid (end_members tid work).node
  end_members_hold work = ends_hold (due_endings tid work) work

  learns_hold : (outcome : Outcome) (servers : List ServerNo) (work : Work) → Holds g tid work.node → Holds g tid (fold (learn_member tid outcome) work servers).node
  learns_hold outcome [] work holds = holds
  learns_hold outcome (server ∷ servers) work holds = learns_hold outcome servers (learn_member tid outcome work server) (notify_holds (notice_of outcome) server work holds)

  learn_members_hold : (outcome : Outcome) (work : Work) → Holds g tid work.node → Holds g tid (learn_members tid outcome work).node
  learn_members_hold outcome work = learns_hold outcome (learners_at tid work) work

  pub give_notices_hold : (outcome : Outcome) (work : Work) → Holds g tid work.node → Holds g tid (give_notices tid outcome work).node
  give_notices_hold outcomes.Commit work holds = learn_members_hold outcomes.Commit work holds
  give_notices_hold outcomes.Abort work holds = learn_members_hold outcomes.Abort (end_members tid work) (end_members_hold work holds)
