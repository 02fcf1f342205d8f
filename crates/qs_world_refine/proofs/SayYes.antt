-- A node that may answer sends VotedYes to its superior: Yes, or Yes_lost.
use Rattle.qs_world_refine.proofs.Words.{◌≡◌, ◌≢◌, ℕ, ◌<◌, ◌==◌, ◌&&◌, Bool, true, false, [], ◌∷◌, length, Option, Some, None, refl, sym, subst, ap, ◌∙◌, arith, if◌then◌else◌, is_at, nat_tests, length-set, tid_cmp, NodeNo, Tid, peer_of, put_node, listed, Nodes, Message, told_with_own, Participant, is_other, send, is_busy, say_yes, answer_superior, Work, here, part_of, with_manager, IsLawful, Face, node_no, names_node, Closed, said, face, began_here, place, SightGoes, FaceReady, sight_agreed, Scene}
use Rattle.qs_world_refine.proofs.Words.{sight_during, ShowsWork, Sight, IsAt, IsKnown, Goes}
use Rattle.qs_engage.specs.Nodes.{has_node}
use Rattle.qs_packet.specs.declared.message.Message.TheVariants as messages
use Rattle.qs_tm.specs.Manager as tm
use Rattle.qs_tm.specs.Participant as participant
use Rattle.qs_world_agree.specs.World.{World}
use Rattle.qs_world_refine.specs.Steps.{Knows}
use Rattle.qs_world_refine.proofs.Alike.{SameFace, found_itself}
use Rattle.qs_world_refine.proofs.Answering as event
use Rattle.qs_world_refine.proofs.Arrays.{node_put}
use Rattle.qs_world_refine.proofs.During.{face_here, runs, meets}
use Rattle.qs_world_refine.proofs.Maps.{lookup_changed}
use Rattle.qs_world_refine.proofs.NodeReady.{face_ready}
use Rattle.qs_world_refine.proofs.NodeSets.{listed_has}
use Rattle.qs_world_refine.proofs.Posting.{put_shown, send_is}
use Rattle.qs_world_refine.proofs.Reading.{part_known}
use Rattle.qs_world_refine.proofs.Same.{tid_same}
use Rattle.qs_world_refine.proofs.Taking.{home_apart}

module _ (tid : Tid) (scene : Scene) (n m i : ℕ) (work : Work) (part : Participant) (w : World) (at : IsAt scene n work) (peer : IsKnown scene n m i) (knows : Knows tid work part)
    (undecided : part.outcome ≡ None) (has : part.engage.superior ≡ Some (node_no m)) (elsewhere : tid.home.0 ≢ n) (home_in : tid.home.0 < scene.size)
    (ready : participant.is_ready (is_busy tid work.node part) part ≡ true) (lawful : IsLawful w) (shown : ShowsWork tid scene n work w) where
  abbrev x : Sight
  x = sight_during tid scene n work

  -- the told set that goes with it
  abbrev told : Nodes
  told = told_with_own (here work) part

  abbrev number : ℕ
  number = (peer_of part.engage (node_no m)).last

  abbrev message : Message
  message = messages.VotedYes tid number (listed told)

  abbrev released : Work
  released = with_manager (tm.released tid) work

  face_before : x.face n ≡ face work.node tid part
  face_before = face_here tid scene n work ∙ ap (λ (p : Participant). face work.node tid p) (part_known tid work.node part knows.known)

  not_here : began_here work.node tid ≡ false
  not_here = rw at.node (by (tid.home.0 == n) (grind (arith, nat_tests, elsewhere)))
    where
      by : (b : Bool) → b ≡ false → (b && (tid.inc == work.node.setting.inc)) ≡ false
      by b e = rw e refl

  on : (face work.node tid part).on ≡ true
  on = rw (not_here, has) refl

  node_q : w.node (place n (scene.inc n)) ≡ n
  node_q = shown.stage.nodes n (scene.inc n) at.in_run

  ready_here : FaceReady (x.face n) (place n (scene.inc n)) w
  ready_here = rw face_before (face_ready tid (place n (scene.inc n)) work.node part w knows.whole (λ s. shown.stage.classes (w.node (place n (scene.inc n))) s) undecided on ready)

  not_home_place : place n (scene.inc n) ≢ w.home
  not_home_place = λ e. home_apart tid x w n shown (runs tid scene n work at) elsewhere home_in (ap w.node e)

  n_in : n < 16
  n_in = omega (arith, at.in_run, shown.stage.small)

  own_has : (b : Bool) (k : ℕ) → has_node (if b then put_node part.told (here work) else part.told) (node_no k) ≡ (if has_node part.told (node_no k) then true else (if k == n then b else false))
  own_has true k = ap (λ (me : NodeNo). has_node (put_node part.told me) (node_no k)) at.node ∙ (node_put n k part.told (rw knows.whole.told n_in) ∙ by (k == n) (has_node part.told (node_no k)))
    where
      by : (b c : Bool) → (if b then true else c) ≡ (if c then true else (if b then true else false))
      by true true = refl
      by true false = refl
      by false true = refl
      by false false = refl
  own_has false k = by (k == n) (has_node part.told (node_no k))
    where
      by : (b c : Bool) → c ≡ (if c then true else (if b then false else false))
      by true true = refl
      by true false = refl
      by false true = refl
      by false false = refl

  own_length : (b : Bool) → length (if b then put_node part.told (here work) else part.told).has ≡ 16
  own_length true = length-set part.told.has (here work).0 true ∙ knows.whole.told
  own_length false = knows.whole.told

  names : (k : ℕ) → names_node (listed told) (node_no k) ≡ (if (x.face n).told k then true else (if k == n then (x.face n).involved else false))
  names k = listed_has told k (own_length part.involved) ∙ (own_has part.involved k ∙ ap (λ (f : Face). if f.told k then true else (if k == n then f.involved else false)) (sym face_before))

  turn : SightGoes tid (sight_agreed x n m i (listed told)) w
  turn = event.answer tid x w n m i (listed told) lawful shown (runs tid scene n work at) (meets tid scene n m i work peer) (rw face_before not_here) not_home_place ready_here (rw face_before (rw has refl)) names

  known_after : part_of tid released ≡ Some (participant.released part)
  known_after = lookup_changed (is_at (tid_cmp tid)) participant.released work.node.manager.known part knows.known

  face_released : SameFace (record (face work.node tid part) { on = false; superior = 0 }) (face released.node tid (participant.released part))
  face_released = record { is_home = refl; on = rw not_here refl; superior = refl; last = λ m. refl; sent = λ m. refl; covered = λ m. refl; waits = λ s. refl; uncast = λ s. refl; loans = refl; asked = refl; blocked = refl; involved = refl; told = λ m. refl; outcome = refl; tell = λ m. refl }

  goes_out : is_other released.node.setting (node_no m) ≡ true
  goes_out = rw (at.node, at.nodes) (grind (arith, nat_tests, peer.other, peer.in_run))

  answers : said tid message ≡ Closed ((x.face n).last m) (listed told) ∷ []
  answers = rw (tid_same tid, face_before) refl

  yes_shown : ShowsWork tid scene n (send (node_no m) message released) turn.next
  yes_shown = subst (λ (k : Work). ShowsWork tid scene n k turn.next) (sym (send_is (node_no m) message released goes_out))
      (put_shown tid scene n (node_no m) message (Closed ((x.face n).last m) (listed told)) work released turn.next (record { sends = λ q. refl; logs = λ log. found_itself tid _ }) answers m i refl peer.knows peer.some
      (record (x.face n) { on = false; superior = 0 }) turn.shown
      (rw (face_before, part_known tid released.node (participant.released part) known_after) face_released))

  pub yes_goes : Goes tid scene n (answer_superior tid part work) w
  yes_goes = record {
    next = turn.next;
    leads = turn.leads;
    shown = subst (λ (k : Work). ShowsWork tid scene n k turn.next) (sym answer_is) yes_shown;
  }
    where
      release_is : (o : Option NodeNo) → o ≡ Some (node_no m) → ◌≡◌ {A = Option (NodeNo × ℕ)} (elim o [ None ↦ None | Some superior ↦ Some (superior, (peer_of part.engage superior).last) ]) (Some (node_no m, number))
      release_is o is = rw is refl

      answer_is : answer_superior tid part work ≡ send (node_no m) message released
      answer_is = ap (λ (o : Option (NodeNo × ℕ)). elim o [ None ↦ work | Some superior ↦ say_yes tid part superior work ]) (release_is part.engage.superior has)
