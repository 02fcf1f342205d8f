-- A node restarts in an incarnation behind that which was to begin a transaction: of this nothing is known, and the machine over its logs shows it.
use Rattle.qs_world_refine.proofs.Words.{◌≡◌, ◌⊎◌, inl, inr, ℕ, ◌<◌, ◌≤◌, ◌==◌, ◌&&◌, ◌||◌, Bool, true, false, List, [], Option, Some, None, refl, sym, ap, subst, ◌∙◌, arith, if◌then◌else◌, find, list_all, list_any, eqb-true, nat_tests, same_tid, Tid, is_outcome_of, Decided, Kept, Recovery, recovery, nothing_said, names_transaction, is_untold_of, was_committed, is_kept_commit, kept_outcome, new_manager, recovered_of, NodeValue, Participant, reopened, risen, risen_host, Open, may_be_known, ShowsAll}
use Rattle.qs_world_refine.proofs.Words.{Face, Said, node_no, is_record_of, face_at, place, IsRisenFace, sight_risen_as, outcome_at_home, scene_of, sight, Sight, has_doubt, may_vote, is_list_of, may_take_up, kept_before, IsNewFace, IsUnseen, IsSteadyWorld, KnowsNothing}
use Rattle.qs_tm.specs.Manager as tm
use Rattle.qs_world.specs.World.{World}
use Rattle.qs_world_agree.specs.World as machine
use Rattle.qs_world_refine.specs.Lefts.{IsLeft}
use Rattle.qs_world_refine.proofs.ClosedKept.{closed_commit}
use Rattle.qs_world_refine.proofs.Reopening.{over_logs, left_shown, reopens_lawful, reopens_placed}
use Rattle.qs_world_refine.proofs.RisenFaces.{risen_face, lists_from}
use Rattle.qs_world_refine.proofs.SeenMoved.{seen_risen}
use Rattle.qs_world_refine.proofs.SoundParts.{and_both}
use Rattle.qs_world_refine.proofs.SteadyMays.{rises_may}
use Rattle.qs_world_refine.proofs.StepMoves.{all_other}
use Rattle.qs_world_refine.proofs.TakingUp.{Known, log_taken}
use Rattle.qs_world_refine.proofs.UnseenWorlds.{nothing_known, new_face, world_unseen, none_waiting}
use Rattle.qs_base_lemmas.proofs.Tests.{apart_turned}

-- another node has of it what its log says: nothing
new_risen : (tid : Tid) (n : ℕ) (said : Recovery) (f : Face) → (tid.home.0 == n) ≡ false → has_doubt tid said ≡ false → IsNewFace false f → IsRisenFace tid n said f
new_risen tid n said f apart clear new = record {
  on = new.on;
  sent = new.sent;
  covered = new.covered;
  waits = new.waits;
  uncast = new.uncast;
  loans = new.loans;
  asked = new.asked;
  involved = λ _. new.involved ∙ sym clear;
  told = new.told;
  outcome = new.outcome ∙ sym (picked (tid.home.0 == n) apart);
  tell = λ _ m. new.tell m;
}
  where
    picked : (b : Bool) → b ≡ false → (if b then outcome_at_home tid said else Open) ≡ Open
    picked b is = rw is refl

module _ (tid : Tid) (world : World) (steady : IsSteadyWorld world) (numbered : names_transaction tid ≡ true) (home_in : tid.home.0 < world.size) (off : may_be_known world tid ≡ false) (stamp inc : ℕ) (down : world.channels.up tid.home.0 ≡ false)
    (later : world.channels.inc tid.home.0 < inc) (passed : tid.inc < inc) where
  abbrev h : ℕ
  h = tid.home.0

  abbrev node : NodeValue
  node = (world.hosts h).node

  abbrev log_said : Recovery
  log_said = recovery (world.hosts h).log

  abbrev opened : NodeValue
  opened = reopened inc (recovered_of (world.hosts h).log) node

  abbrev pub after : World
  after = risen world h stamp inc (recovered_of (world.hosts h).log)

  abbrev x : Sight
  x = sight tid (scene_of world)

  abbrev pub risen_sight : Sight
  risen_sight = sight_risen_as x h inc (face_at opened tid)

  nothing : (n : ℕ) → n < world.size → KnowsNothing tid world n
  nothing = nothing_known tid world steady numbered home_in off

  unseen : IsUnseen tid x
  unseen = world_unseen tid world steady numbered home_in off

  mays : may_take_up node.setting.node log_said ≡ true
  mays = (rises_may world steady h home_in down inc later).1.0

  before : kept_before node.setting.node inc node.kept.saved ≡ true
  before = (rises_may world steady h home_in down inc later).1.1

  placed : node.setting.node ≡ node_no h
  placed = steady.seated.node h home_in

  -- ---- all that is seen

  itself : (h == h) ≡ true
  itself = grind (arith, nat_tests)

  its_face : IsRisenFace tid h log_said (face_at opened tid)
  its_face = risen_face tid h inc (world.hosts h).log node numbered placed (λ _. passed) mays before

  pub passed_left : IsLeft tid risen_sight
  passed_left = record {
    small = unseen.small;
    numbered = numbered;
    home_in = home_in;
    past = picked (h == h) itself;
    known = λ n m. known n m (n == h) (m == h) refl;
    faces = λ n low up. face n low (n == h) refl up;
    links = λ n i m j. none_if (((n == h) && (i == inc)) || ((m == h) && (j == inc))) (x.said n i m j) (unseen.links n i m j);
    unmet = λ n m. none_if (n == h) (x.unmet n m) (unseen.unmet n m);
    stands = λ has. absurd (let none : list_any (is_untold_of tid) log_said.untold ≡ false = (nothing h home_in).untold in cc (none, has));
    home_clear = λ has. absurd (let none : list_any (same_tid tid) log_said.committed ≡ false = (nothing h home_in).committed in cc (none, has));
    listed = λ n low has. absurd (let none : list_any (same_tid tid) log_said.committed ≡ false = (nothing h home_in).committed in cc (none, has));
  }
    where
      picked : (b : Bool) → b ≡ true → tid.inc < (if b then inc else world.channels.inc h)
      picked b is = rw is passed

      known : (n m : ℕ) (a b : Bool) → (m == h) ≡ b → (if a then 0 else world.channels.peer n m) ≤ (if b then inc else world.channels.inc m)
      known n m true true is = grind (arith)
      known n m true false is = grind (arith)
      known n m false true is = below (world.channels.peer n m) (world.channels.inc m) (steady.seated.known n m) (ap world.channels.inc (eqb-true m h is))
        where
          below : (a b : ℕ) → a ≤ b → b ≡ world.channels.inc h → a ≤ inc
          below a b low same = omega (arith, low, same, later)
      known n m false false is = steady.seated.known n m

      none_if : (b : Bool) (l : List Said) → l ≡ [] → (if b then [] else l) ≡ []
      none_if true l none = refl
      none_if false l none = none

      face : (n : ℕ) → n < world.size → (b : Bool) → (n == h) ≡ b → (if b then true else world.channels.up n) ≡ true → IsRisenFace tid n (x.found n) (if b then face_at opened tid else x.face n)
      face n low true same up = subst (λ (k : ℕ). IsRisenFace tid k (recovery (world.hosts k).log) (face_at opened tid)) (sym (eqb-true n h same)) its_face
      face n low false apart up = new_risen tid n (x.found n) (x.face n) (apart_turned n h apart) (nothing n low).doubt
          (subst (λ (b : Bool). IsNewFace b (x.face n)) (ap (λ (b : Bool). b && (tid.inc == world.channels.inc n)) (apart_turned n h apart)) (new_face tid world steady numbered home_in off n low))

  abbrev pub w : machine.World
  w = over_logs tid risen_sight passed_left

  -- ---- what nodes know of it

  taken_none : tm.part_of tid opened.manager ≡ None
  taken_none = by (list_any (is_untold_of tid) log_said.untold) (has_doubt tid log_said) (nothing h home_in).untold (nothing h home_in).doubt
      (log_taken tid (tid.home.0 == h) numbered log_said (new_manager node.manager.alloc (record node.setting { inc = inc })) (and_both (list_all may_vote log_said.prepared) (list_all (is_list_of node.setting.node) log_said.untold) mays).0
      (lists_from tid (world.hosts h).log nothing_said refl) (rw placed refl) refl)
    where
      by : (a b : Bool) → a ≡ false → b ≡ false → Known tid (tid.home.0 == h) a b opened.manager → tm.part_of tid opened.manager ≡ None
      by false false a b known = known
      by true b is c known = absurd (cc (is))
      by false true is c known = absurd (cc (c))

  unknown_at : (k : ℕ) → k < world.size → (b : Bool) → (k == h) ≡ b → tm.part_of tid (if b then risen_host stamp inc (recovered_of (world.hosts h).log) (world.hosts h) else world.hosts k).node.manager ≡ None
  unknown_at k low true same = taken_none
  unknown_at k low false apart = (nothing k low).part

  never : {A : Type 0} (k : ℕ) → k < world.size → (part : Participant) → tm.part_of tid (after.hosts k).node.manager ≡ Some part → A
  never k low part known = absurd (let none : tm.part_of tid (after.hosts k).node.manager ≡ None = unknown_at k low (k == h) refl in let both : None ≡ Some part = sym none ∙ known in cc (both))

  closes : (k : ℕ) → k < world.size → (b : Bool) → (k == h) ≡ b → list_any (is_record_of tid) (if b then risen_host stamp inc (recovered_of (world.hosts h).log) (world.hosts h) else world.hosts k).waiting ≡ false
  closes k low true same = none_waiting tid world steady numbered home_in off h home_in
  closes k low false apart = none_waiting tid world steady numbered home_in off k low

  -- nor does it keep it as committed
  not_kept : {A : Type 0} → is_kept_commit (find (is_outcome_of tid) opened.kept.now.outcomes) ≡ true → A
  not_kept is = by (closed_commit tid node.setting.node log_said.committed node.kept.saved.labels node.kept.saved.outcomes is)
    where
      by : {A : Type 0} → (is_kept_commit (find (is_outcome_of tid) node.kept.saved.outcomes) ≡ true) ⊎ (list_any (same_tid tid) log_said.committed ≡ true) → A
      by (inl old) = absurd (
          let now : is_kept_commit (kept_outcome tid node) ≡ true = subst (λ (k : Kept). is_kept_commit (find (is_outcome_of tid) k.outcomes) ≡ true) (steady.nodes h home_in).saved old in
          let none : is_kept_commit (kept_outcome tid node) ≡ false = ap (λ (o : Option Decided). is_kept_commit o) (nothing h home_in).outcome in cc (none, now))
      by (inr logged) = absurd (let none : list_any (same_tid tid) log_said.committed ≡ false = (nothing h home_in).committed in cc (none, logged))

  node_is : (after.hosts h).node ≡ opened
  node_is = picked (h == h) itself
    where
      picked : (b : Bool) → b ≡ true → (if b then risen_host stamp inc (recovered_of (world.hosts h).log) (world.hosts h) else world.hosts h).node ≡ opened
      picked b is = rw is refl

  not_committed : {A : Type 0} → was_committed tid opened ≡ true → A
  not_committed is = by (is_kept_commit (find (is_outcome_of tid) opened.kept.now.outcomes)) refl (list_any (same_tid tid) log_said.committed) (nothing h home_in).committed is
    where
      by : {A : Type 0} (a : Bool) → is_kept_commit (find (is_outcome_of tid) opened.kept.now.outcomes) ≡ a → (b : Bool) → b ≡ false → (a || b) ≡ true → A
      by true kept b none is = not_kept kept
      by false kept b none is = absurd (cc (none, is))

  pub passed_shows_all : ShowsAll tid after w
  passed_shows_all = record {
    seen = record {
      lawful = reopens_lawful tid risen_sight passed_left;
      placed = reopens_placed tid risen_sight passed_left (λ k low. begun k low (k == h));
      shown = seen_risen tid world h stamp inc (recovered_of (world.hosts h).log) w steady.seated later (left_shown tid risen_sight passed_left);
      closes = λ k low up. all_other tid k (place k (after.channels.inc k)) w (after.hosts k).waiting (closes k low (k == h) refl);
    };
    outcome = record { learnt = λ k part low up known decided. never k low part known; acknowledged = λ part up known m has. never h home_in part known };
    kept = record {
      now = λ is. not_committed (subst (λ (k : NodeValue). was_committed tid k ≡ true) node_is is);
      saved = λ is. not_kept (subst (λ (k : NodeValue). is_kept_commit (find (is_outcome_of tid) k.kept.saved.outcomes) ≡ true) node_is is);
    };
  }
    where
      begun : (k : ℕ) → k < world.size → (b : Bool) → 1 ≤ (if b then inc else world.channels.inc k)
      begun k low true = omega (arith, later)
      begun k low false = steady.seated.begun k low
