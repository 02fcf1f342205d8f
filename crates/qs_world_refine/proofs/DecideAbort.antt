-- The home decides abort: Abort, and Tell_abort for each node that it drew in.
use Rattle.qs_world_refine.proofs.Words.{◌≡◌, ℕ, Bool, true, false, List, ◌++◌, Option, Some, None, length, refl, sym, subst, ap, ◌∙◌, if◌then◌else◌, filter, Tid, no_nodes, listed, Cause, Record, recovery, drawn_in, Participant, is_forced, send_each, decide, Sending, Work, IsHome, Face, node_no, names_node, all_said, face, face_at, SightGoes, sight_faced, Scene, sight_during, ShowsWork, Sight, ShowsSight, Goes}
use Rattle.qs_base.specs.declared.identifiers.Outcome.TheVariants as outcomes
use Rattle.qs_engage.specs.Nodes.{all_nodes, has_node}
use Rattle.qs_packet.specs.declared.message.Message.TheVariants as messages
use Rattle.qs_record.specs.declared.record.Record.TheVariants as records
use Rattle.qs_tm.specs.Outcomes as outcome_rules
use Rattle.qs_world_agree.specs.World.{World}
use Rattle.qs_world_refine.specs.DecisionLaws.{DecideAbortGoes}
use Rattle.qs_world_refine.specs.SeenOutcome.{aborted_face}
use Rattle.qs_world_refine.specs.Shows.{sent_to}
use Rattle.qs_world_refine.proofs.Aborting.{abort}
use Rattle.qs_world_refine.proofs.Alike.{SameFace, SameFound, found_itself, face_on}
use Rattle.qs_world_refine.proofs.Deciding as deciding
use Rattle.qs_world_refine.proofs.Deciding.{IsOwn, none_own, some_own}
use Rattle.qs_world_refine.proofs.During.{Quiet, forced_log, recovery_same, local_shown, runs}
use Rattle.qs_world_refine.proofs.NodeSets.{listed_has, where_length}
use Rattle.qs_world_refine.proofs.NodeTests.{drawn_has}
use Rattle.qs_world_refine.proofs.Notices.{Silent}
use Rattle.qs_world_refine.proofs.SendGoes.{goes_on, tells_abort}

module _ (tid : Tid) (scene : Scene) (cause : Option Cause) (work : Work) (part : Participant) (w : World) (is_home : IsHome tid scene work part) (shown : ShowsWork tid scene tid.home.0 work w) where
  abbrev h : ℕ
  h = tid.home.0

  abbrev x : Sight
  x = sight_during tid scene h work

  abbrev noticed : Option Record → Work
  noticed rec = deciding.noticed tid scene outcomes.Abort cause work part is_home rec

  abbrev decided_face : Face
  decided_face = deciding.decided_face tid scene outcomes.Abort cause work part is_home

  face_before : x.face h ≡ face work.node tid part
  face_before = deciding.face_before tid scene outcomes.Abort cause work part is_home

  turn : SightGoes tid (sight_faced x h (aborted_face (x.face h))) w
  turn = abort tid x w shown (runs tid scene h work is_home.at) (sym is_home.first) (rw face_before (deciding.began tid scene outcomes.Abort cause work part is_home)) (rw face_before (rw is_home.undecided refl))

  -- whom it tells is whom it drew in
  tells : SameFace (aborted_face (face work.node tid part)) decided_face
  tells = record { is_home = refl; on = refl; superior = refl; last = λ m. refl; sent = λ m. refl; covered = λ m. refl; waits = λ s. refl; uncast = λ s. refl; loans = refl; asked = refl; blocked = refl; involved = refl; told = λ m. refl; outcome = refl; tell = λ m. drawn_has part m is_home.knows.whole }

  face_noticed : (rec : Option Record) → IsOwn tid rec → SameFace decided_face (face_at (noticed rec).node tid)
  face_noticed rec own = deciding.face_noticed tid scene outcomes.Abort cause work part is_home rec own

  silent : (rec : Option Record) → Silent (deciding.entered tid scene outcomes.Abort cause work part is_home rec) (noticed rec)
  silent rec = (deciding.learnt tid scene outcomes.Abort cause work part is_home rec).silent

  same_found : (rec : Option Record) → (log : List Record) → recovery (log ++ filter is_forced (noticed rec).out.records) ≡ forced_log log work → SameFound tid (forced_log log work) (forced_log log (noticed rec))
  same_found rec log is = rw is (found_itself tid (forced_log log work))

  noticed_goes : (rec : Option Record) → IsOwn tid rec → Quiet tid work (noticed rec) → Goes tid scene h (noticed rec) w
  noticed_goes rec own quiet = record {
    next = turn.next;
    leads = turn.leads;
    shown = local_shown tid scene h work (noticed rec) turn.next quiet (aborted_face (face work.node tid part))
        (subst (λ (f : Face). ShowsSight tid (sight_faced x h (aborted_face f)) turn.next) face_before turn.shown)
        (face_on (aborted_face (face work.node tid part)) decided_face (face_at (noticed rec).node tid) tells (face_noticed rec own));
  }

  names : (k : ℕ) → names_node (listed (drawn_in part)) (node_no k) ≡ true → has_node (drawn_in part) (node_no k) ≡ true
  names k named = sym (listed_has (drawn_in part) k (drawn_length part)) ∙ named
    where
      drawn_length : (part : Participant) → length (drawn_in part).has ≡ 16
      drawn_length part = where_length _ all_nodes no_nodes

  told_each : (rec : Option Record) → IsOwn tid rec → Quiet tid work (noticed rec) → Goes tid scene h (send_each (listed (drawn_in part)) (messages.Tell tid outcomes.Abort) (noticed rec)) w
  told_each rec own quiet =
      let first = noticed_goes rec own quiet in
      let same = face_noticed rec own in
      goes_on tid scene h (send_each (listed (drawn_in part)) (messages.Tell tid outcomes.Abort) (noticed rec)) w first.next first.leads
      (tells_abort tid scene h refl (listed (drawn_in part)) (noticed rec) first.next (deciding.at_noticed tid scene outcomes.Abort cause work part is_home rec) same.outcome (λ k named. same.tell k ∙ names k named) first.shown)

  pub abort_goes : Goes tid scene h (decide tid outcomes.Abort cause work) w
  abort_goes = by part.log.prepared refl
    where
      quiet_none : Quiet tid work (noticed None)
      quiet_none = record { sends = λ q. ap (λ (l : List Sending). all_said tid (sent_to q l)) (silent None).messages; logs = λ log. same_found None log (ap (λ (l : List Record). recovery (log ++ filter is_forced l)) (silent None).records) }

      -- Aborted is not forced: it counts at the end of the step
      quiet_some : Quiet tid work (noticed (Some (records.Aborted tid)))
      quiet_some = record {
        sends = λ q. ap (λ (l : List Sending). all_said tid (sent_to q l)) (silent (Some (records.Aborted tid))).messages;
        logs = λ log. same_found (Some (records.Aborted tid)) log (ap (λ (l : List Record). recovery (log ++ filter is_forced l)) (silent (Some (records.Aborted tid))).records ∙ recovery_same tid work (records.Aborted tid) log refl);
      }

      rec_is : (b : Bool) → part.log.prepared ≡ b → outcome_rules.record_of tid outcomes.Abort part ≡ (if b then Some (records.Aborted tid) else None)
      rec_is b is = ap (λ (b : Bool). if b then Some (records.Aborted tid) else None) is

      by : (b : Bool) → part.log.prepared ≡ b → Goes tid scene h (decide tid outcomes.Abort cause work) w
      by true is = subst (λ (k : Work). Goes tid scene h k w) (sym (deciding.decide_is tid scene outcomes.Abort cause work part is_home (Some (records.Aborted tid)) (rec_is true is)))
          (told_each (Some (records.Aborted tid)) (some_own tid (records.Aborted tid) refl) quiet_some)
      by false is = subst (λ (k : Work). Goes tid scene h k w) (sym (deciding.decide_is tid scene outcomes.Abort cause work part is_home None (rec_is false is)))
          (told_each None (none_own tid) quiet_none)

pub decide_abort : DecideAbortGoes
decide_abort tid scene cause work part w shown is_home = abort_goes tid scene cause work part w is_home shown
