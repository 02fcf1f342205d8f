-- An Inquire comes to a later incarnation of the home's node, which knows nothing of the transaction: Answer_abort, and a Tell goes back.
use Rattle.qs_world_refine.proofs.Words.{◌≡◌, ◌≢◌, inr, ℕ, ◌==◌, ◌&&◌, Bool, true, false, List, Option, Some, None, refl, sym, subst, ap, ◌∙◌, arith, if◌then◌else◌, is_some, list_any, is_at, nat_tests, tid_cmp, same_tid, NodeNo, Tid, no_nodes, same_node, Message, aborted_participant, Participant, was_committed, is_kept_commit, kept_outcome, send, Work, here, part_of, message_came, keep_abort_told, Open, Face, telling_face, node_no, face, unknown_at_home, began_here, is_past_commit, Scene}
use Rattle.qs_world_refine.proofs.Words.{sight_during, ShowsWork, handed, IsAt, IsNext, Goes, and_false, or_last}
use Rattle.qs_base.specs.declared.identifiers.Outcome.TheVariants as outcomes
use Rattle.qs_packet.specs.declared.message.Message.TheVariants as messages
use Rattle.qs_tm.specs.Manager as tm
use Rattle.qs_tm.specs.Outcomes as outcome_rules
use Rattle.qs_world_agree.specs.World.{World}
use Rattle.qs_world_refine.specs.InquiryRules.{InquiryUnknownGoes}
use Rattle.qs_world_refine.proofs.Alike.{SameFace}
use Rattle.qs_world_refine.proofs.Arrays.{node_put}
use Rattle.qs_world_refine.proofs.During.{face_here}
use Rattle.qs_world_refine.proofs.InquiryCame.{home_unknown, home_here, m_in, unknown_is, abort_goes}
use Rattle.qs_world_refine.proofs.Maps.{lookup_changed, lookup_put}
use Rattle.qs_world_refine.proofs.MetWork.{tid_itself}
use Rattle.qs_world_refine.proofs.Reading.{part_known}
use Rattle.qs_world_refine.proofs.StartWorlds.{nobody}

-- it is kept as aborted, and that a node is to be told
pub kept_told : (tid : Tid) (peer : NodeNo) (work : Work) → part_of tid work ≡ None → same_node tid.home work.node.manager.node ≡ true → part_of tid (keep_abort_told tid peer work) ≡ Some (outcome_rules.add_tell peer (aborted_participant true))
kept_told tid peer work none home = lookup_changed (is_at (tid_cmp tid)) (outcome_rules.add_tell peer) (tm.keep_abort tid work.node.manager).known (aborted_participant true) (kept (part_of tid work) none (same_node tid.home work.node.manager.node) home)
  where
    kept : (o : Option Participant) → o ≡ None → (b : Bool) → b ≡ true → tm.part_of tid (if is_some o then work.node.manager else tm.put_part tid (aborted_participant b) work.node.manager) ≡ Some (aborted_participant true)
    kept o is true home = rw is (lookup_put tid_cmp tid (aborted_participant true) (tid_itself tid) work.node.manager.known)
    kept o is false home = absurd (cc home)

-- a later incarnation that has no Commit of it in its log
pub past_none : (tid : Tid) (work : Work) → began_here work.node tid ≡ false → was_committed tid work.node ≡ false → is_past_commit work.node tid ≡ false
past_none tid work not_here was = rw not_here (or_last (is_kept_commit (kept_outcome tid work.node)) (list_any (same_tid tid) work.node.committed) was)

module _ (tid : Tid) (scene : Scene) (m i : ℕ) (rest : List Message) (work : Work) (w : World) (shown : ShowsWork tid scene tid.home.0 work w) (at : IsAt scene tid.home.0 work) (next : IsNext scene tid.home.0 m i (messages.Inquire tid) rest)
    (manager_is : work.node.manager.node ≡ work.node.setting.node) (none : part_of tid work ≡ None) (was : was_committed tid work.node ≡ false) (later : tid.inc ≢ scene.inc tid.home.0) where
  abbrev new : Work
  new = keep_abort_told tid (node_no m) work

  home : same_node tid.home (here work) ≡ true
  home = home_here tid scene m i rest work w at next shown

  not_here : began_here work.node tid ≡ false
  not_here = by (tid.inc == work.node.setting.inc) (rw at.inc (grind (arith, nat_tests, later)))
    where
      by : (b : Bool) → b ≡ false → (same_node tid.home work.node.setting.node && b) ≡ false
      by b is = rw is (and_false (same_node tid.home work.node.setting.node))

  face_before : (sight_during tid scene tid.home.0 work).face tid.home.0 ≡ face work.node tid (unknown_at_home work.node tid)
  face_before = face_here tid scene tid.home.0 work ∙ ap (λ (p : Participant). face work.node tid p) (home_unknown tid work home none)

  known_new : part_of tid new ≡ Some (outcome_rules.add_tell (node_no m) (aborted_participant true))
  known_new = kept_told tid (node_no m) work none (ap (λ (k : NodeNo). same_node tid.home k) manager_is ∙ home)

  undecided : (face work.node tid (unknown_at_home work.node tid)).outcome ≡ Open
  undecided = rw (past_none tid work not_here was) refl

  face_new : SameFace (telling_face (face work.node tid (unknown_at_home work.node tid)) m) (face new.node tid (outcome_rules.add_tell (node_no m) (aborted_participant true)))
  face_new = record { is_home = refl; on = rw not_here refl; superior = refl; last = λ k. refl; sent = λ k. refl; covered = λ k. refl; waits = λ s. refl; uncast = λ s. refl; loans = refl; asked = refl; blocked = refl; involved = refl; told = λ k. refl; outcome = refl; tell = λ k. node_put m k no_nodes (m_in tid scene m i rest work w at next shown) }

  pub unknown_goes : Goes tid (handed scene m i tid.home.0 rest) tid.home.0 (message_came (node_no m) (messages.Inquire tid) work) w
  unknown_goes = subst (λ (k : Work). Goes tid (handed scene m i tid.home.0 rest) tid.home.0 k w) (sym work_is)
      (abort_goes tid scene m i rest work w at next shown (record { home = refl; may = inr (rw face_before undecided, later, λ k. ap (λ (f : Face). f.tell k) face_before ∙ nobody k) }) new refl refl refl
      (rw (face_before, part_known tid new.node (outcome_rules.add_tell (node_no m) (aborted_participant true)) known_new) face_new))
    where
      work_is : message_came (node_no m) (messages.Inquire tid) work ≡ send (node_no m) (messages.Tell tid outcomes.Abort) new
      work_is = unknown_is tid scene m i rest work w at next shown none
          ∙ ap (λ (b : Bool). if b then send (node_no m) (messages.Tell tid outcomes.Commit) work else send (node_no m) (messages.Tell tid outcomes.Abort) new) was

pub unknown : InquiryUnknownGoes
unknown tid scene m i rest work w shown at next manager_is none was later = unknown_goes tid scene m i rest work w shown at next manager_is none was later
