-- A request makes a transaction known elsewhere than at its home, and its face stays.
use Rattle.qs_world_refine.proofs.Words.{◌≡◌, ℕ, Bool, false, List, Option, Some, None, unwrap_or, refl, sym, ap, ◌∙◌, arith, if◌then◌else◌, is_some, Equal, nat_tests, tid_cmp, NodeNo, Tid, same_node, new_participant, Manager, Participant, learn_label, Work, here, part_of, with_manager, face, face_at, part_at, unknown}
use Rattle.qs_tm.specs.Manager as tm
use Rattle.qs_node_step.specs.Serving.{met}
use Rattle.qs_world_refine.proofs.During.{Leaves}
use Rattle.qs_world_refine.proofs.Keeping.{Keeps}
use Rattle.qs_world_refine.proofs.Maps.{lookup_put}
use Rattle.qs_world_refine.proofs.Reading.{SameAround, face_around, part_known}
use Rattle.qs_world_refine.proofs.Requested.{label_leaves, label_manager}

pub tid_itself : (tid : Tid) → tid_cmp tid tid ≡ Equal
tid_itself tid = grind (arith, nat_tests)

module _ (tid : Tid) (work : Work) (label : List ℕ) (not_home : same_node tid.home (here work) ≡ false) (node_is : work.node.manager.node ≡ work.node.setting.node) where
  abbrev pub learnt : Work
  learnt = learn_label label tid work

  abbrev pub met_work : Work
  met_work = with_manager (tm.meet tid) learnt

  pub label_same : Leaves tid work learnt
  label_same = label_leaves tid tid label work

  not_home_learnt : same_node tid.home learnt.node.setting.node ≡ false
  not_home_learnt = rw (label_same.node.around.setting) not_home

  pub met_is : met tid learnt ≡ met_work
  met_is = ap (λ (b : Bool). if b then learnt else met_work) not_home_learnt

  home_is : tm.is_home tid learnt.node.manager ≡ false
  home_is = ap (λ (m : Manager). tm.is_home tid m) (label_manager tid label work) ∙ (ap (λ (k : NodeNo). same_node tid.home k) node_is ∙ not_home)

  met_none : tm.part_of tid learnt.node.manager ≡ None → tm.part_of tid (tm.meet tid learnt.node.manager) ≡ Some (new_participant false)
  met_none none = by (tm.part_of tid learnt.node.manager) none (tm.is_home tid learnt.node.manager) home_is
    where
      by : (o : Option Participant) → o ≡ None → (h : Bool) → h ≡ false → tm.part_of tid (if is_some o then learnt.node.manager else tm.put_part tid (new_participant h) learnt.node.manager) ≡ Some (new_participant false)
      by o is h home = rw (is, home) (lookup_put tid_cmp tid (new_participant false) (tid_itself tid) learnt.node.manager.known)

  met_some : (part : Participant) → tm.part_of tid learnt.node.manager ≡ Some part → tm.part_of tid (tm.meet tid learnt.node.manager) ≡ Some part
  met_some part known = by (tm.part_of tid learnt.node.manager) known ∙ known
    where
      by : (o : Option Participant) → o ≡ Some part → tm.part_of tid (if is_some o then learnt.node.manager else tm.put_part tid (new_participant (tm.is_home tid learnt.node.manager)) learnt.node.manager) ≡ tm.part_of tid learnt.node.manager
      by o is = rw is refl

  unknown_is : tm.part_of tid work.node.manager ≡ None → part_at work.node tid ≡ new_participant false
  unknown_is none = by (tm.part_of tid work.node.manager) none (same_node tid.home work.node.setting.node) not_home
    where
      by : (o : Option Participant) → o ≡ None → (h : Bool) → h ≡ false → unwrap_or o (if h then Rattle.qs_world_refine.specs.NodeFaces.unknown_at_home work.node tid else new_participant false) ≡ new_participant false
      by o is h off = rw (is, off) refl

  pub known_met : part_of tid met_work ≡ Some (part_at work.node tid)
  known_met = by (tm.part_of tid work.node.manager) refl
    where
      by : (o : Option Participant) → tm.part_of tid work.node.manager ≡ o → tm.part_of tid (tm.meet tid learnt.node.manager) ≡ Some (part_at work.node tid)
      by None none = met_none (label_same.node.part ∙ none) ∙ ap (λ (p : Participant). Some p) (sym (unknown_is none))
      by (Some part) known = met_some part (label_same.node.part ∙ known) ∙ ap (λ (p : Participant). Some p) (sym (part_known tid work.node part known))

  around : SameAround tid work.node met_work.node
  around = record { setting = label_same.node.around.setting; waits = label_same.node.around.waits; loans = label_same.node.around.loans; past = label_same.node.around.past }

  pub met_keeps : Keeps tid work met_work
  met_keeps = record {
    face = rw (part_known tid met_work.node (part_at work.node tid) known_met) (face_around tid work.node met_work.node (part_at work.node tid) around);
    quiet = record { sends = label_same.quiet.sends; logs = label_same.quiet.logs };
  }
