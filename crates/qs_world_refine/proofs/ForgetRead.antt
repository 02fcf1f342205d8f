-- Another node than the home forgets a transaction that it only read: Forget.
use Rattle.qs_world_refine.proofs.Words.{◌≡◌, ◌≢◌, ℕ, ◌<◌, ◌&&◌, not, Bool, true, false, Option, None, unwrap_or, refl, subst, ap, ◌∙◌, arith, if◌then◌else◌, is_none, nat_tests, Tid, no_peer, same_node, is_no_node, no_member, new_participant, is_undecided, only_read, Participant, Work, with_queues, drop_counts, forget, IsLawful, Face, face, part_at, uncast_of, unknown_at_home, began_here, SightGoes, sight_faced, Scene, sight_during, ShowsWork, Sight, ShowsSight, in_order, IsAt, Goes, and_parts}
use Rattle.qs_world_refine.proofs.Words.{not-true, none_is}
use Rattle.qs_ipc.specs.Ipc as ipc
use Rattle.qs_tm.specs.Manager as tm
use Rattle.qs_tm.specs.Participant as participant
use Rattle.qs_world_agree.specs.World.{World}
use Rattle.qs_world_refine.specs.DecisionLaws.{ForgetReadGoes}
use Rattle.qs_world_refine.specs.NodeFaces.{waiting_at}
use Rattle.qs_world_refine.specs.SeenOutcome.{forgotten_face}
use Rattle.qs_world_refine.specs.Steps.{Knows}
use Rattle.qs_world_refine.proofs.Alike.{SameFace, found_itself}
use Rattle.qs_world_refine.proofs.During.{local_shown, face_here, runs}
use Rattle.qs_world_refine.proofs.Forgetting.{forgotten}
use Rattle.qs_world_refine.proofs.ForgettingRead as event
use Rattle.qs_world_refine.proofs.NodeSets.{none_listed}
use Rattle.qs_world_refine.proofs.Others.{forget_queues_leave}
use Rattle.qs_world_refine.proofs.Reading.{part_known}
use Rattle.qs_world_refine.proofs.StartWorlds.{alike_at, nobody}

-- what waits stays where counts are dropped
pub dropped_waits : (tid : Tid) (work : Work) (s : ℕ) → waiting_at (with_queues (drop_counts tid) work).node tid s ≡ waiting_at work.node tid s
dropped_waits tid work s = by (ipc.waits tid work.node.queues)
  where
    by : (b : Bool) → waiting_at (with_queues (λ queues. if b then queues else ipc.forget tid queues) work).node tid s ≡ waiting_at work.node tid s
    by true = refl
    by false = (forget_queues_leave tid tid work).node.around.waits s

module _ (tid : Tid) (scene : Scene) (n : ℕ) (work : Work) (part : Participant) (w : World) (lawful : IsLawful w) (shown : ShowsWork tid scene n work w) (at : IsAt scene n work) (knows : Knows tid work part)
    (elsewhere : tid.home.0 ≢ n) (home_in : tid.home.0 < scene.size) (ordered : in_order work.node.manager.known ≡ true) (over : participant.is_forgotten part ≡ true) where
  abbrev x : Sight
  x = sight_during tid scene n work

  abbrev gone : Work
  gone = forget tid work

  face_before : x.face n ≡ face work.node tid part
  face_before = face_here tid scene n work ∙ ap (λ (p : Participant). face work.node tid p) (part_known tid work.node part knows.known)

  not_home : same_node tid.home work.node.setting.node ≡ false
  not_home = rw at.node (grind (arith, nat_tests, elsewhere))

  not_here : began_here work.node tid ≡ false
  not_here = rw not_home refl

  parts : ((is_undecided part && not part.engage.home) ≡ true) × (((is_none part.engage.superior && not part.involved) && (is_no_node part.told && only_read part)) ≡ true)
  parts = and_parts (is_undecided part && not part.engage.home) ((is_none part.engage.superior && not part.involved) && (is_no_node part.told && only_read part)) over

  undecided : part.outcome ≡ None
  undecided = none_is part.outcome (and_parts (is_undecided part) (not part.engage.home) parts.0).0

  idle : (is_none part.engage.superior && not part.involved) ≡ true
  idle = (and_parts (is_none part.engage.superior && not part.involved) (is_no_node part.told && only_read part) parts.1).0

  alone : part.engage.superior ≡ None
  alone = none_is part.engage.superior (and_parts (is_none part.engage.superior) (not part.involved) idle).0

  untold : is_no_node part.told ≡ true
  untold = (and_parts (is_no_node part.told) (only_read part) (and_parts (is_none part.engage.superior && not part.involved) (is_no_node part.told && only_read part) parts.1).1).0

  uninvolved : part.involved ≡ false
  uninvolved = not-true part.involved (and_parts (is_none part.engage.superior) (not part.involved) idle).1

  turn : SightGoes tid (sight_faced x n (forgotten_face (x.face n))) w
  turn = event.forget_read tid x w n lawful shown (runs tid scene n work at) elsewhere home_in (rw face_before (rw undecided refl)) (rw face_before (rw (not_here, alone) refl)) (rw face_before uninvolved)
      (λ m. ap (λ (f : Face). f.told m) face_before ∙ none_listed part.told m knows.whole.told untold)

  part_gone : part_at gone.node tid ≡ new_participant false
  part_gone = by (tm.part_of tid gone.node.manager) (forgotten tid work.node.manager ordered) (same_node tid.home gone.node.setting.node) not_home
    where
      by : (o : Option Participant) → o ≡ None → (b : Bool) → b ≡ false → unwrap_or o (if b then unknown_at_home gone.node tid else new_participant false) ≡ new_participant false
      by o none b is = rw (none, is) refl

  face_gone : SameFace (forgotten_face (face work.node tid part)) (face gone.node tid (new_participant false))
  face_gone = record {
    is_home = not_here;
    on = rw not_here refl;
    superior = refl;
    last = λ m. rw (alike_at 16 m no_peer) refl;
    sent = λ m. rw (alike_at 16 m no_peer) refl;
    covered = λ m. rw (alike_at 16 m no_peer) refl;
    waits = λ s. dropped_waits tid work s;
    uncast = λ s. ap uncast_of (alike_at 7 s no_member);
    loans = refl;
    asked = refl;
    blocked = refl;
    involved = refl;
    told = nobody;
    outcome = refl;
    tell = nobody;
  }

  pub forget_goes : Goes tid scene n gone w
  forget_goes = record {
    next = turn.next;
    leads = turn.leads;
    shown = local_shown tid scene n work gone turn.next (record { sends = λ q. refl; logs = λ log. found_itself tid _ }) (forgotten_face (face work.node tid part))
        (subst (λ (f : Face). ShowsSight tid (sight_faced x n (forgotten_face f)) turn.next) face_before turn.shown)
        (rw part_gone face_gone);
  }

pub forget_read : ForgetReadGoes
forget_read tid scene n work part w lawful shown at knows elsewhere home_in ordered over = forget_goes tid scene n work part w lawful shown at knows elsewhere home_in ordered over
