-- A node that answers to a place of a node that restarted, or whose home did, may inquire once it knows of the restart.
use Rattle.qs_world_refine.proofs.Words.{◌≡◌, ◌≢◌, ◌⊎◌, inl, inr, ℕ, ◌<◌, ◌≤◌, ◌==◌, ◌&&◌, ◌||◌, not, Bool, true, false, Option, Some, None, is_some, refl, sym, ap, subst, ◌∙◌, arith, if◌then◌else◌, nat_lt, eqb-true, or_cases, nat_tests, NodeNo, Tid, peer_of, is_node, same_node, Participant, is_orphaned_by, Work, part_of, Open, IsLawful, Face, ShowsFace, MayInquire, node_no, began_here, face, face_at, outcome_seen, place, known_place, Scene, ShowsWork, IsAt, and_first, and_last}
use Rattle.std.proofs.lemmas.Bool.{and_left}
use Rattle.qs_base.specs.declared.identifiers.Outcome.{Outcome}
use Rattle.qs_tm.specs.Participant.{answered_to}
use Rattle.qs_node_step.specs.Restarts.{awaits_word}
use Rattle.qs_world_agree.specs.World.{World}
use Rattle.qs_world_refine.specs.NodeFaces.{superior_no}
use Rattle.qs_world_refine.proofs.During.{face_here}
use Rattle.qs_world_refine.proofs.FreshRuns.{fresh}
use Rattle.qs_world_refine.proofs.Reading.{part_known}
use Rattle.qs_world_refine.proofs.Same.{same_place}
use Rattle.qs_world_refine.proofs.SoundParts.{and_both}
use Rattle.qs_world_refine.proofs.TookLast.{took_last}
use Rattle.qs_base_lemmas.proofs.Tests.{some_not_zero}

-- the one that it answers to is the last one that it answered to; and the numbers of the other node's requests begin anew
pub record IsOrphan (m : ℕ) (part : Participant) : Type 0 where
  pub last : (s other : NodeNo) → part.engage.superior ≡ Some s → part.engage.last_superior ≡ Some other → other.0 ≡ s.0
  pub anew : (peer_of part.engage (node_no m)).last ≡ 0

module _ (t : Tid) (scene : Scene) (n m new : ℕ) (work : Work) (v : World) (part : Participant) (lawful : IsLawful v) (shown : ShowsWork t scene n work v) (at : IsAt scene n work) (home_in : t.home.0 < scene.size) (m_in : m < scene.size)
    (knows : scene.knows n m ≡ new) (some : 1 ≤ new) (away : (t.home.0 == n) ≡ false) (known : part_of t work ≡ Some part) (undecided : part.outcome ≡ None) (orphan : IsOrphan m part) (left : is_orphaned_by (node_no m) new t part ≡ true) where
  abbrev q : ℕ
  q = place n (scene.inc n)

  face_is : face_at work.node t ≡ face work.node t part
  face_is = ap (face work.node t) (part_known t work.node part known)

  here : ShowsFace (face work.node t part) q v
  here = subst (λ (f : Face). ShowsFace f q v) (face_here t scene n work ∙ face_is) (shown.faces n at.in_run at.up)

  later : began_here work.node t ≡ false
  later = and_left (same_node t.home work.node.setting.node) (t.inc == work.node.setting.inc) (ap (λ (k : NodeNo). same_node t.home k) at.node ∙ away)

  not_home : q ≢ v.home
  not_home same = apart (same_place n t.home.0 (scene.inc n) t.inc (below n at.in_run) (below t.home.0 home_in) (same ∙ shown.stage.home)).0
    where
      below : (k : ℕ) → k < scene.size → k < 256
      below k less = let small = shown.stage.small in omega (arith, less, small)

      apart : n ≡ t.home.0 → ⊥
      apart is = let on : (t.home.0 == n) ≡ true = grind (arith, nat_tests, is) in cc (on, away)

  peer_is : v.peer q m ≡ place m new
  peer_is = shown.stage.peers n m at.in_run m_in at.up ∙ (ap (known_place m) knows ∙ by (new == 0) (grind (arith, nat_tests, some)))
    where
      by : (b : Bool) → b ≡ false → (if b then 0 else place m new) ≡ place m new
      by b off = rw off refl

  open_face : (face work.node t part).outcome ≡ Open
  open_face = ap (λ (o : Option Outcome). outcome_seen o (part.engage.home || part.involved)) undecided

  -- it waits for a word, and somebody restarted
  tests : (awaits_word part ≡ true) × (((same_node t.home (node_no m) && nat_lt t.inc new) || answered_to (node_no m) part) ≡ true)
  tests = and_both (awaits_word part) ((same_node t.home (node_no m) && nat_lt t.inc new) || answered_to (node_no m) part) left

  -- it answers to somebody
  module _ (s : NodeNo) (answers : part.engage.superior ≡ Some s) where
    on : (face work.node t part).on ≡ true
    on = ap (λ (b : Bool). if b then not (is_some part.outcome) else is_some part.engage.superior) later ∙ ap (λ (o : Option NodeNo). is_some o) answers

    engaged : v.engaged q ≡ true
    engaged = here.engaged ∙ on

    superior : v.superior q ≡ s.0
    superior = here.superior on later ∙ ap superior_no answers

    home_left : (same_node t.home (node_no m) && nat_lt t.inc new) ≡ true → v.home < v.peer q (v.node v.home)
    home_left so = less v.home (v.peer q (v.node v.home)) (shown.stage.home ∙ ap (λ (k : ℕ). place k t.inc) at_m) (ap (v.peer q) (ap v.node shown.stage.home ∙ (shown.stage.nodes t.home.0 t.inc home_in ∙ at_m)) ∙ peer_is)
      where
        at_m : t.home.0 ≡ m
        at_m = eqb-true t.home.0 m (and_first (t.home.0 == m) (nat_lt t.inc new) so)

        less : (a b : ℕ) → a ≡ place m t.inc → b ≡ place m new → a < b
        less a b x y = let low = and_last (t.home.0 == m) (nat_lt t.inc new) so in grind (arith, nat_tests, x, y, low)

    superior_left : s.0 ≡ m → v.engager q < v.peer q (v.superior q)
    superior_left same = less (v.engager q) (v.peer q (v.superior q)) ((fresh v lawful q q).known engaged not_home).1 other
      where
        of_last : v.last q (v.peer q s.0) ≡ 0
        of_last = subst (λ (k : ℕ). v.last q (v.peer q k) ≡ (peer_of part.engage (node_no k)).last) (ap superior_no answers) (here.last on later) ∙ (ap (λ (k : ℕ). (peer_of part.engage (node_no k)).last) same ∙ orphan.anew)

        other : v.engager q ≢ v.peer q (v.superior q)
        other is = some_not_zero (v.last q (v.engager q)) (took_last v lawful q engaged not_home) (ap (v.last q) (is ∙ ap (v.peer q) superior) ∙ of_last)

        less : (a b : ℕ) → a ≤ b → a ≢ b → a < b
        less a b x y = omega (arith, x, y)

    answered : (is_node (node_no m) part.engage.superior || is_node (node_no m) part.engage.last_superior) ≡ true → s.0 ≡ m
    answered so = by part.engage.last_superior refl (subst (λ (o : Option NodeNo). (is_node (node_no m) o || is_node (node_no m) part.engage.last_superior) ≡ true) answers so)
      where
        same : (k : ℕ) → (k == m) ≡ true → k ≡ m
        same k is = eqb-true k m is

        by : (o : Option NodeNo) → part.engage.last_superior ≡ o → ((s.0 == m) || is_node (node_no m) o) ≡ true → s.0 ≡ m
        by None none is = first (or_cases (s.0 == m) false is)
          where
            first : ((s.0 == m) ≡ true) ⊎ (false ≡ true) → s.0 ≡ m
            first (inl so) = same s.0 so
            first (inr so) = absurd (cc (so))
        by (Some other) was is = one (or_cases (s.0 == m) (other.0 == m) is)
          where
            one : ((s.0 == m) ≡ true) ⊎ ((other.0 == m) ≡ true) → s.0 ≡ m
            one (inl so) = same s.0 so
            one (inr so) = sym (orphan.last s other answers was) ∙ same other.0 so

    engaged_inquires : MayInquire v q
    engaged_inquires = by (same_node t.home (node_no m) && nat_lt t.inc new) refl tests.1
      where
        by : (b : Bool) → (same_node t.home (node_no m) && nat_lt t.inc new) ≡ b → (b || answered_to (node_no m) part) ≡ true → MayInquire v q
        by true is so = inr (inr (engaged, home_left is))
        by false is so = inr (inl (engaged, superior_left (answered so)))

  pub orphan_inquires : MayInquire v q
  orphan_inquires = by (or_cases part.involved (is_some part.engage.superior) tests.0)
    where
      at_superior : (o : Option NodeNo) → part.engage.superior ≡ o → is_some o ≡ true → MayInquire v q
      at_superior None none is = absurd (cc (is))
      at_superior (Some s) answers is = engaged_inquires s answers

      by : (part.involved ≡ true) ⊎ (is_some part.engage.superior ≡ true) → MayInquire v q
      by (inl involved) = inl ((here.running open_face).involved ∙ involved)
      by (inr engaged) = at_superior part.engage.superior refl engaged
