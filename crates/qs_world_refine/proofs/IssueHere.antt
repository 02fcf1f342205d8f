-- A request goes to a server of its own node: Issue_local; and the owner asks for the commit: Ask.
use Rattle.qs_world_refine.proofs.Words.{◌≡◌, ◌⊎◌, inl, inr, ℕ, ◌+◌, ◌≤◌, Bool, true, false, Some, None, refl, sym, subst, ap, ◌∙◌, if◌then◌else◌, is_at, tid_cmp, Tid, is_for, Delivery, Op, Outstanding, Participant, issue_here, enter_issue, with_local, Work, here, part_of, with_queues, Open, face, loans_at, SightGoes, sight_faced, Scene, sight_during, ShowsWork, Sight, IsAt, Goes}
use Rattle.qs_ipc.specs.Ipc as ipc
use Rattle.qs_tm.specs.Participant as participant
use Rattle.qs_world_agree.specs.World.{World, with_at}
use Rattle.qs_world_refine.specs.Steps.{Knows}
use Rattle.qs_world_refine.proofs.Alike.{SameFace, found_itself}
use Rattle.qs_world_refine.proofs.Asking as event
use Rattle.qs_world_refine.proofs.During.{local_shown, face_here, runs}
use Rattle.qs_world_refine.proofs.Maps.{lookup_changed}
use Rattle.qs_world_refine.proofs.Queues.{waits_put}
use Rattle.qs_world_refine.proofs.Reading.{part_known}
use Rattle.qs_world_refine.proofs.Same.{tid_same}

module _ (tid : Tid) (scene : Scene) (n : ℕ) (request : Outstanding) (op : Op) (work : Work) (part : Participant) (w : World)
    (at : IsAt scene n work) (knows : Knows tid work part) (undecided : part.outcome ≡ None) (its : is_for request.member.server op ≡ true)
    (may : ((face work.node tid part).on ≡ true) ⊎ (1 ≤ loans_at work.node tid)) (shown : ShowsWork tid scene n work w) where
  abbrev x : Sight
  x = sight_during tid scene n work

  abbrev s : ℕ
  s = request.member.server.0

  abbrev delivery : Delivery
  delivery = record { tid = tid; from = here work; number = request.number; op = op; stale = false }

  abbrev issued : Work
  issued = with_local tid request.number (enter_issue tid request op work)

  abbrev waiting : Work
  waiting = with_queues (ipc.enqueue request.member.server delivery) issued

  issue_is : issue_here tid request op work ≡ waiting
  issue_is = ap (λ (b : Bool). if b then waiting else issued) its

  face_before : x.face n ≡ face work.node tid part
  face_before = face_here tid scene n work ∙ ap (λ (p : Participant). face work.node tid p) (part_known tid work.node part knows.known)

  known_after : part_of tid waiting ≡ Some (participant.issued request part)
  known_after = lookup_changed (is_at (tid_cmp tid)) (participant.issued request) work.node.manager.known part knows.known

  face_waiting : SameFace (record (face work.node tid part) { waits = with_at (face work.node tid part).waits s ((face work.node tid part).waits s + 1) }) (face waiting.node tid (participant.issued request part))
  face_waiting = record { is_home = refl; on = refl; superior = refl; last = λ m. refl; sent = λ m. refl; covered = λ m. refl; waits = λ r. waits_put tid s r delivery work.node.queues (tid_same tid); uncast = λ r. refl; loans = refl; asked = refl; blocked = refl; involved = refl; told = λ m. refl; outcome = refl; tell = λ m. refl }

  turn : SightGoes tid (sight_faced x n (record (x.face n) { waits = with_at (x.face n).waits s ((x.face n).waits s + 1) })) w
  turn = event.issue_local tid x w n s shown (runs tid scene n work at) (by may)
    where
      by : ((face work.node tid part).on ≡ true) ⊎ (1 ≤ loans_at work.node tid) → ((x.face n).on ≡ true) ⊎ (((x.face n).outcome ≡ Open) × (1 ≤ (x.face n).loans))
      by (inl on) = inl (rw face_before on)
      by (inr some) = inr (rw (face_before, undecided) (refl, some))

  pub issue_here_goes : Goes tid scene n (issue_here tid request op work) w
  issue_here_goes = record {
    next = turn.next;
    leads = turn.leads;
    shown = subst (λ (k : Work). ShowsWork tid scene n k turn.next) (sym issue_is)
        (local_shown tid scene n work waiting turn.next (record { sends = λ q. refl; logs = λ log. found_itself tid _ }) (record (x.face n) { waits = with_at (x.face n).waits s ((x.face n).waits s + 1) }) turn.shown
        (rw (face_before, part_known tid waiting.node (participant.issued request part) known_after) face_waiting));
  }
