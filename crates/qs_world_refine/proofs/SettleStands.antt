-- What stands of a transaction stands once its node has settled it, or another one.
use Rattle.qs_world_refine.proofs.Words.{◌≡◌, ◌≢◌, ℕ, ◌<◌, ◌==◌, ◌&&◌, not, nat_le, nat_lt, Bool, true, false, [], Option, Some, None, refl, sym, subst, ap, ◌∙◌, arith, eqb-true, nat_tests, NodeNo, Tid, same_node, is_undecided, Participant, Work, part_of, Leads, leads_on, IsHome, HasNoDoubt, node_no, HasKinds, IsElsewhere, Scene, sight_during, is_in_doubt, is_sound, is_superior, same_flag, where_so, may_doubt, Stands, GoesOn, IsAt, IsKnown, never_not, never_both}
use Rattle.qs_tm.specs.Manager as tm
use Rattle.qs_world_agree.specs.World.{World}
use Rattle.qs_world_refine.specs.Steps.{Knows}
use Rattle.qs_world_refine.proofs.During.{Leaves, leaves_shown, found_same}
use Rattle.qs_world_refine.proofs.Known.{is_open}
use Rattle.qs_world_refine.proofs.PassGoes.{whole_of}
use Rattle.qs_world_refine.proofs.SoundHolds.{known_sound}
use Rattle.qs_world_refine.proofs.SoundParts.{and_both}
use Rattle.qs_world_refine.proofs.SoundViews.{PartSound, seen}

-- ---- nothing of it changes

pub stands_itself : (tid : Tid) (scene : Scene) (n : ℕ) (work : Work) (w : World) → Stands tid scene n work w → GoesOn tid scene n work w
stands_itself tid scene n work w stands = record { next = w; leads = record { events = []; run = refl }; stands = stands }

pub goes_further : (tid : Tid) (scene : Scene) (n : ℕ) (new : Work) (w u : World) → Leads w u → GoesOn tid scene n new u → GoesOn tid scene n new w
goes_further tid scene n new w u first second = record { next = second.next; leads = leads_on w u second.next first second.leads; stands = second.stands }

pub at_same : (t : Tid) (scene : Scene) (n : ℕ) (work new : Work) → new.node.setting ≡ work.node.setting → IsAt scene n work → IsAt scene n new
at_same t scene n work new same at = record { in_run = at.in_run; up = at.up; node = rw same at.node; nodes = rw same at.nodes; inc = rw same at.inc }

-- what is done for another transaction leaves it
pub stands_left : (t : Tid) (scene : Scene) (n : ℕ) (work new : Work) (w : World) → Leaves t work new → is_sound new.node ≡ true → HasKinds new.node → Stands t scene n work w → Stands t scene n new w
stands_left t scene n work new w left sound kinds is = record {
  at = at_same t scene n work new left.node.around.setting is.at;
  home_in = is.home_in;
  sound = sound;
  kinds = kinds;
  lawful = is.lawful;
  shown = leaves_shown t scene n work new w left is.shown;
  clear = λ none s. same_doubt s ∙ is.clear (ap (may_doubt (t.home.0 == n)) (sym left.node.part) ∙ none) s;
  superior = λ part m known has. is.superior part m (sym left.node.part ∙ known) has;
}
  where
    same_doubt : (s : ℕ) → is_in_doubt t s ((sight_during t scene n new).found n) ≡ is_in_doubt t s ((sight_during t scene n work).found n)
    same_doubt s = (found_same t scene n work new w left.quiet n).prepared s

-- ---- what is kept of it, as its sound node says

pub manager_fits : (tid : Tid) (scene : Scene) (n : ℕ) (work : Work) (w : World) → Stands tid scene n work w → work.node.manager.node ≡ work.node.setting.node
manager_fits tid scene n work w is = ap (λ (k : ℕ). node_no k) (eqb-true work.node.manager.node.0 work.node.setting.node.0 (middle _ (work.node.manager.node.0 == work.node.setting.node.0) _ (seen work.node is.sound).fits))
  where
    middle : (a d r : Bool) → (a && (d && r)) ≡ true → d ≡ true
    middle true true r so = refl
    middle true false r so = absurd (cc so)
    middle false d r so = absurd (cc so)

pub whole_known : (tid : Tid) (scene : Scene) (n : ℕ) (work : Work) (w : World) → Stands tid scene n work w → (part : Participant) → part_of tid work ≡ Some part → Knows tid work part
whole_known tid scene n work w is part known = record { known = known; whole = whole_of part (known_sound tid work.node part known is.sound).whole }

module _ (tid : Tid) (scene : Scene) (n : ℕ) (work : Work) (w : World) (is : Stands tid scene n work w) (part : Participant) (known : part_of tid work ≡ Some part) (undecided : part.outcome ≡ None) where
  pub its : PartSound work.node tid part
  its = known_sound tid work.node part known is.sound

  home_here : same_node tid.home work.node.setting.node ≡ (tid.home.0 == n)
  home_here = ap (λ (m : NodeNo). same_node tid.home m) is.at.node

  pub at_home : (tid.home.0 == n) ≡ true → part.engage.home ≡ true
  at_home here = on part.engage.home (same_node tid.home work.node.setting.node) (home_here ∙ here) its.homed
    where
      on : (a b : Bool) → b ≡ true → same_flag a b ≡ true → a ≡ true
      on true b is same = refl
      on false true is same = absurd (cc same)
      on false false is same = absurd (cc is)

  pub elsewhere : (tid.home.0 == n) ≡ false → part.engage.home ≡ false
  elsewhere away = off part.engage.home (same_node tid.home work.node.setting.node) (home_here ∙ away) its.homed
    where
      off : (a b : Bool) → b ≡ false → same_flag a b ≡ true → a ≡ false
      off true b is same = absurd (cc (is, same))
      off false b is same = refl

  pub no_doubt : part.log.prepared ≡ false → (s : ℕ) → is_in_doubt tid s ((sight_during tid scene n work).found n) ≡ false
  no_doubt none s = is.clear (rw (known, undecided) none) s

  pub is_elsewhere : (tid.home.0 == n) ≡ false → IsElsewhere tid scene n work part
  is_elsewhere away = record {
    at = is.at;
    away = λ same. never_both (tid.home.0 == n) (grind (arith, nat_tests, same)) away;
    home_in = is.home_in;
    knows = record { known = known; whole = whole_of part its.whole };
    not_home = elsewhere away;
    undecided = undecided;
  }

  -- it answers to another node of the run, which is known
  pub superior_known : (m : ℕ) → part.engage.superior ≡ Some (node_no m) → IsKnown scene n m (scene.knows n m)
  superior_known m has = record {
    in_run = subst (λ (k : ℕ). m < k) is.at.nodes (grind (arith, nat_tests, tests.0));
    other = apart;
    knows = refl;
    some = is.superior part m known has;
  }
    where
      sound_one : (not part.engage.home && is_superior work.node part.engage.last_superior (node_no m)) ≡ true
      sound_one = sym (ap (λ (o : Option NodeNo). elim o [ None ↦ true | Some superior ↦ not part.engage.home && is_superior work.node part.engage.last_superior superior ]) has) ∙ its.superior

      tests : (nat_lt m work.node.setting.nodes ≡ true) × (not (same_node (node_no m) work.node.setting.node) ≡ true)
      tests = and_both (nat_lt m work.node.setting.nodes) (not (same_node (node_no m) work.node.setting.node))
          (and_both (nat_lt m work.node.setting.nodes && not (same_node (node_no m) work.node.setting.node)) _ (and_both (not part.engage.home) (is_superior work.node part.engage.last_superior (node_no m)) sound_one).1).0

      apart : m ≢ n
      apart e = never_not (same_node (node_no m) work.node.setting.node) (rw is.at.node (grind (arith, nat_tests, e))) tests.1

module _ (tid : Tid) (scene : Scene) (work : Work) (w : World) (is : Stands tid scene tid.home.0 work w) (part : Participant) (known : part_of tid work ≡ Some part) (undecided : part.outcome ≡ None) where
  here_is : (tid.home.0 == tid.home.0) ≡ true
  here_is = grind (arith, nat_tests)

  pub is_at_home : IsHome tid scene work part
  is_at_home = record {
    at = is.at;
    first = eqb-true tid.inc work.node.setting.inc first ∙ is.at.inc;
    knows = record { known = known; whole = whole_of part (its tid scene tid.home.0 work w is part known undecided).whole };
    home = home;
    undecided = undecided;
  }
    where
      home : part.engage.home ≡ true
      home = at_home tid scene tid.home.0 work w is part known undecided here_is

      first : (tid.inc == work.node.setting.inc) ≡ true
      first = now part.engage.home (is_undecided part) home (is_open part undecided) (its tid scene tid.home.0 work w is part known undecided).began
        where
          now : (a b : Bool) → a ≡ true → b ≡ true → where_so (a && b) ((tid.inc == work.node.setting.inc) && nat_le tid.seq work.node.manager.begun) ≡ true → (tid.inc == work.node.setting.inc) ≡ true
          now true true is so began = (and_both (tid.inc == work.node.setting.inc) (nat_le tid.seq work.node.manager.begun) began).0
          now false b is so began = absurd (cc is)
          now true false is so began = absurd (cc so)

  pub home_clear : HasNoDoubt tid scene tid.home.0 work part
  home_clear none s = no_doubt tid scene tid.home.0 work w is part known undecided none s

-- at the home nobody is answered
pub home_free : (tid : Tid) (node : Rattle.qs_node_step.specs.State.NodeValue) (part : Participant) (m : ℕ) → is_sound node ≡ true → tm.part_of tid node.manager ≡ Some part → same_node tid.home node.setting.node ≡ true → part.engage.superior ≡ Some (node_no m) → ⊥
home_free tid node part m sound known here has = by part.engage.home (same_node tid.home node.setting.node) here its.homed (sym (ap (λ (o : Option NodeNo). elim o [ None ↦ true | Some superior ↦ not part.engage.home && is_superior node part.engage.last_superior superior ]) has) ∙ its.superior)
  where
    its : PartSound node tid part
    its = known_sound tid node part known sound

    by : (h b : Bool) → b ≡ true → same_flag h b ≡ true → (not h && is_superior node part.engage.last_superior (node_no m)) ≡ true → ⊥
    by true b is same answers = cc answers
    by false b is same answers = cc (rw is at same)
