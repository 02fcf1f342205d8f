-- An Inquire comes to the home's node: Answer_running, Answer_commit or Answer_abort, and a Tell goes back.
use Rattle.qs_world_refine.proofs.Words.{◌≡◌, inl, ℕ, ◌<◌, Bool, true, false, List, ◌∷◌, Option, Some, None, unwrap_or, refl, sym, subst, ap, ◌∙◌, arith, if◌then◌else◌, is_at, nat_tests, tid_cmp, Tid, same_node, Message, new_participant, Participant, answer_unknown, answer_known, send, Work, here, part_of, with_manager, message_came, keep_abort_told, Committed, telling_face, Inquired, node_no, all_said, face, face_at, part_at, unknown_at_home, SightGoes, sight_taken, Scene, sight_during, ShowsWork}
use Rattle.qs_world_refine.proofs.Words.{handed, Sight, IsAt, IsNext, IsKnown, Goes}
use Rattle.qs_base.specs.declared.identifiers.Outcome.{Outcome}
use Rattle.qs_base.specs.declared.identifiers.Outcome.TheVariants as outcomes
use Rattle.qs_packet.specs.declared.message.Message.TheVariants as messages
use Rattle.qs_tm.specs.Manager as tm
use Rattle.qs_tm.specs.Outcomes as outcome_rules
use Rattle.qs_tm.specs.Participant as participant
use Rattle.qs_world_agree.specs.World.{World, with_at}
use Rattle.qs_world_refine.specs.InquiryLaws.{MayTellAbort, AnswerGoes}
use Rattle.qs_world_refine.specs.InquiryRules.{InquiryRunningGoes, InquiryCommitGoes, InquiryPastGoes, InquiryAbortGoes}
use Rattle.qs_world_refine.proofs.Alike.{SameFace, same_itself, found_itself}
use Rattle.qs_world_refine.proofs.Answered.{commit_put, abort_put}
use Rattle.qs_world_refine.proofs.Arrays.{node_put}
use Rattle.qs_world_refine.proofs.During.{quiet_itself, face_here, runs, meets}
use Rattle.qs_world_refine.proofs.Handing.{taken_shown, head_said}
use Rattle.qs_world_refine.proofs.Inquired as event
use Rattle.qs_world_refine.proofs.Maps.{lookup_changed}
use Rattle.qs_world_refine.proofs.Reading.{part_known}
use Rattle.qs_world_refine.proofs.Same.{tid_same}

module _ (tid : Tid) (scene : Scene) (m i : ℕ) (rest : List Message) (work : Work) (w : World) (at : IsAt scene tid.home.0 work) (next : IsNext scene tid.home.0 m i (messages.Inquire tid) rest) (shown : ShowsWork tid scene tid.home.0 work w) where
  abbrev h : ℕ
  h = tid.home.0

  abbrev x : Sight
  x = sight_during tid scene h work

  abbrev later : Scene
  later = handed scene m i h rest

  head : x.said m i h (x.inc h) ≡ Inquired ∷ all_said tid rest
  head = head_said tid scene h m i (messages.Inquire tid) rest work.out.messages next ∙ rw (tid_same tid) refl

  pub home_here : same_node tid.home (here work) ≡ true
  home_here = rw at.node (grind (arith, nat_tests))

  pub m_in : m < 16
  m_in = omega (arith, next.from.in_run, shown.stage.small)

  peer_later : IsKnown later h m i
  peer_later = record { in_run = next.from.in_run; other = next.from.other; knows = next.from.knows; some = next.from.some }

  at_later : (new : Work) → new.node.setting ≡ work.node.setting → IsAt later h new
  at_later new same = record { in_run = at.in_run; up = at.up; node = rw same at.node; nodes = rw same at.nodes; inc = rw same at.inc }

  -- what the rule comes to, of a transaction that is known, and of one that is not
  known_is : (part : Participant) → part_of tid work ≡ Some part → message_came (node_no m) (messages.Inquire tid) work ≡ answer_known (node_no m) tid part.outcome work
  known_is part known =
      ap (λ (b : Bool). if b then elim (part_of tid work) [ None ↦ answer_unknown (node_no m) tid work | Some part ↦ answer_known (node_no m) tid part.outcome work ] else work) home_here
      ∙ ap (λ (o : Option Participant). elim o [ None ↦ answer_unknown (node_no m) tid work | Some part ↦ answer_known (node_no m) tid part.outcome work ]) known

  pub unknown_is : part_of tid work ≡ None → message_came (node_no m) (messages.Inquire tid) work ≡ answer_unknown (node_no m) tid work
  unknown_is none =
      ap (λ (b : Bool). if b then elim (part_of tid work) [ None ↦ answer_unknown (node_no m) tid work | Some part ↦ answer_known (node_no m) tid part.outcome work ] else work) home_here
      ∙ ap (λ (o : Option Participant). elim o [ None ↦ answer_unknown (node_no m) tid work | Some part ↦ answer_known (node_no m) tid part.outcome work ]) none

  -- ---- commit is known

  module _ (committed : (x.face h).outcome ≡ Committed) where
    commit_turn : AnswerGoes tid (sight_taken x h m i (x.face h) (all_said tid rest)) w m true
    commit_turn = event.answer_commit tid x w h m i (all_said tid rest) shown (runs tid scene h work at) (meets tid scene h m i work next.from) head refl committed

    pub commit_goes : Goes tid later h (send (node_no m) (messages.Tell tid outcomes.Commit) work) w
    commit_goes = record {
      next = commit_turn.next;
      leads = commit_turn.leads;
      shown = commit_put tid later h m i work commit_turn.next (at_later work refl) peer_later
          (taken_shown tid scene h m i (messages.Inquire tid) rest work work commit_turn.next next (quiet_itself tid work) (x.face h) commit_turn.shown (rw (face_here tid scene h work) (same_itself (face_at work.node tid))))
          commit_turn.tells;
    }

  -- ---- abort is known from now on, and the node is to be told

  module _ (may : MayTellAbort tid x h) (new : Work) (setting : new.node.setting ≡ work.node.setting) (records : new.out.records ≡ work.out.records) (messages_same : new.out.messages ≡ work.out.messages) (same : SameFace (telling_face (x.face h) m) (face_at new.node tid)) where
    abort_turn : AnswerGoes tid (sight_taken x h m i (telling_face (x.face h) m) (all_said tid rest)) w m false
    abort_turn = event.answer_abort tid x w h m i (all_said tid rest) shown (runs tid scene h work at) (meets tid scene h m i work next.from) head may

    pub abort_goes : Goes tid later h (send (node_no m) (messages.Tell tid outcomes.Abort) new) w
    abort_goes = record {
      next = abort_turn.next;
      leads = abort_turn.leads;
      shown = abort_put tid later h m i new abort_turn.next (at_later new setting) peer_later
          (taken_shown tid scene h m i (messages.Inquire tid) rest work new abort_turn.next next (record { sends = λ q. rw messages_same refl; logs = λ log. rw records (found_itself tid _) }) (telling_face (x.face h) m) abort_turn.shown same)
          abort_turn.tells;
    }

pub running : InquiryRunningGoes
running tid scene m i rest work part w shown is_home next = subst (λ (k : Work). Goes tid (handed scene m i tid.home.0 rest) tid.home.0 k w) (sym work_is)
    (record {
      next = turn.next;
      leads = turn.leads;
      shown = taken_shown tid scene tid.home.0 m i (messages.Inquire tid) rest work new turn.next next (record { sends = λ q. refl; logs = λ log. found_itself tid _ })
          (record (x.face tid.home.0) { told = with_at (x.face tid.home.0).told m true }) turn.shown (rw (face_before, part_known tid new.node (participant.add_told (node_no m) part) known_new) face_new);
    })
  where
    x : Sight
    x = sight_during tid scene tid.home.0 work

    new : Work
    new = with_manager (tm.add_told tid (node_no m)) work

    face_before : x.face tid.home.0 ≡ face work.node tid part
    face_before = face_here tid scene tid.home.0 work ∙ ap (λ (p : Participant). face work.node tid p) (part_known tid work.node part is_home.knows.known)

    turn : SightGoes tid (sight_taken x tid.home.0 m i (record (x.face tid.home.0) { told = with_at (x.face tid.home.0).told m true }) (all_said tid rest)) w
    turn = event.answer_running tid x w tid.home.0 m i (all_said tid rest) shown (runs tid scene tid.home.0 work is_home.at) (meets tid scene tid.home.0 m i work next.from)
        (head tid scene m i rest work w is_home.at next shown) refl (sym is_home.first) (rw face_before (rw is_home.undecided refl))

    known_new : part_of tid new ≡ Some (participant.add_told (node_no m) part)
    known_new = lookup_changed (is_at (tid_cmp tid)) (participant.add_told (node_no m)) work.node.manager.known part is_home.knows.known

    face_new : SameFace (record (face work.node tid part) { told = with_at (face work.node tid part).told m true }) (face new.node tid (participant.add_told (node_no m) part))
    face_new = record { is_home = refl; on = refl; superior = refl; last = λ k. refl; sent = λ k. refl; covered = λ k. refl; waits = λ s. refl; uncast = λ s. refl; loans = refl; asked = refl; blocked = refl; involved = refl; told = λ k. node_put m k part.told (rw is_home.knows.whole.told (m_in tid scene m i rest work w is_home.at next shown)); outcome = refl; tell = λ k. refl }

    work_is : message_came (node_no m) (messages.Inquire tid) work ≡ new
    work_is = known_is tid scene m i rest work w is_home.at next shown part is_home.knows.known ∙ ap (λ (o : Option Outcome). answer_known (node_no m) tid o work) is_home.undecided

pub commit : InquiryCommitGoes
commit tid scene m i rest work part w shown at next knows = subst (λ (k : Work). Goes tid (handed scene m i tid.home.0 rest) tid.home.0 k w) (sym work_is) (commit_goes tid scene m i rest work w at next shown committed)
  where
    committed : ((sight_during tid scene tid.home.0 work).face tid.home.0).outcome ≡ Committed
    committed = rw (face_here tid scene tid.home.0 work, part_known tid work.node part knows.knows.known) (rw (knows.committed, knows.home) refl)

    work_is : message_came (node_no m) (messages.Inquire tid) work ≡ send (node_no m) (messages.Tell tid outcomes.Commit) work
    work_is = known_is tid scene m i rest work w at next shown part knows.knows.known ∙ ap (λ (o : Option Outcome). answer_known (node_no m) tid o work) knows.committed

-- what is kept of one that is not known at the home's node
pub home_unknown : (tid : Tid) (work : Work) → same_node tid.home (here work) ≡ true → part_of tid work ≡ None → part_at work.node tid ≡ unknown_at_home work.node tid
home_unknown tid work home none = by (part_of tid work) none (same_node tid.home (here work)) home
  where
    by : (o : Option Participant) → o ≡ None → (b : Bool) → b ≡ true → unwrap_or o (if b then unknown_at_home work.node tid else new_participant false) ≡ unknown_at_home work.node tid
    by o is b home = rw (is, home) refl

pub past : InquiryPastGoes
past tid scene m i rest work w shown at next none was ended = subst (λ (k : Work). Goes tid (handed scene m i tid.home.0 rest) tid.home.0 k w) (sym work_is) (commit_goes tid scene m i rest work w at next shown committed)
  where
    committed : ((sight_during tid scene tid.home.0 work).face tid.home.0).outcome ≡ Committed
    committed = rw (face_here tid scene tid.home.0 work, home_unknown tid work (home_here tid scene m i rest work w at next shown) none) (rw ended refl)

    work_is : message_came (node_no m) (messages.Inquire tid) work ≡ send (node_no m) (messages.Tell tid outcomes.Commit) work
    work_is = unknown_is tid scene m i rest work w at next shown none
        ∙ ap (λ (b : Bool). if b then send (node_no m) (messages.Tell tid outcomes.Commit) work else send (node_no m) (messages.Tell tid outcomes.Abort) (keep_abort_told tid (node_no m) work)) was

pub abort : InquiryAbortGoes
abort tid scene m i rest work part w shown at next knows home aborted = subst (λ (k : Work). Goes tid (handed scene m i tid.home.0 rest) tid.home.0 k w) (sym work_is)
    (abort_goes tid scene m i rest work w at next shown (record { home = refl; may = inl (rw face_before (rw aborted refl)) }) new refl refl refl (rw (face_before, part_known tid new.node (outcome_rules.add_tell (node_no m) part) known_new) face_new))
  where
    new : Work
    new = with_manager (tm.add_tell tid (node_no m)) work

    face_before : (sight_during tid scene tid.home.0 work).face tid.home.0 ≡ face work.node tid part
    face_before = face_here tid scene tid.home.0 work ∙ ap (λ (p : Participant). face work.node tid p) (part_known tid work.node part knows.known)

    known_new : part_of tid new ≡ Some (outcome_rules.add_tell (node_no m) part)
    known_new = lookup_changed (is_at (tid_cmp tid)) (outcome_rules.add_tell (node_no m)) work.node.manager.known part knows.known

    face_new : SameFace (telling_face (face work.node tid part) m) (face new.node tid (outcome_rules.add_tell (node_no m) part))
    face_new = record { is_home = refl; on = refl; superior = refl; last = λ k. refl; sent = λ k. refl; covered = λ k. refl; waits = λ s. refl; uncast = λ s. refl; loans = refl; asked = refl; blocked = refl; involved = refl; told = λ k. refl; outcome = rw aborted refl; tell = λ k. node_put m k part.tell (rw knows.whole.tell (m_in tid scene m i rest work w at next shown)) }

    work_is : message_came (node_no m) (messages.Inquire tid) work ≡ send (node_no m) (messages.Tell tid outcomes.Abort) new
    work_is = known_is tid scene m i rest work w at next shown part knows.known ∙ ap (λ (o : Option Outcome). answer_known (node_no m) tid o work) aborted
