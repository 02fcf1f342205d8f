-- As a world begins the agreement machine over its logs shows each transaction of an earlier incarnation of its home.
use Rattle.qs_world_refine.proofs.Words.{◌≡◌, ℕ, ◌<◌, ◌≤◌, ◌==◌, ◌&&◌, nat_lt, nat_le, Bool, true, false, Some, refl, sym, ap, subst, arith, if◌then◌else◌, list_all, list_any, eqb-true, nat_tests, same_tid, NodeNo, Tid, same_node, Nodes, no_kept, Recovery, recovery, nothing_said, names_transaction, is_untold_of, new_manager, NodeValue, Participant, IsOpening, is_setting, are_unended, Opening, start, each_is, Open, Committed, Aborted, ShowsAll, node_no, face_at, IsRisenFace, scene_of, sight, Sight}
use Rattle.qs_world_refine.proofs.Words.{has_doubt, may_vote, is_list_of}
use Rattle.qs_engage.specs.Nodes.{has_node}
use Rattle.qs_node_kept.specs.Keeping.{kept_as}
use Rattle.qs_tm.specs.Manager as tm
use Rattle.qs_world.specs.World.{World}
use Rattle.qs_world_agree.specs.World as machine
use Rattle.qs_world_refine.specs.Lefts.{IsLeft}
use Rattle.qs_world_refine.proofs.LeftLogs.{untold_logged, doubt_alone, log_takes, doubt_told}
use Rattle.qs_world_refine.proofs.Reopening.{over_logs, left_shown, reopens_lawful, reopens_placed}
use Rattle.qs_world_refine.proofs.RisenFaces.{risen_face, lists_from}
use Rattle.qs_world_refine.proofs.SoundParts.{and_both}
use Rattle.qs_world_refine.proofs.StartWorlds.{nobody}
use Rattle.qs_world_refine.proofs.TakenOf.{IsTakenOf, taken_of, list_home}
use Rattle.qs_world_refine.proofs.TakingUp.{log_taken}

-- ---- settings

module _ (o : Opening) (opens : IsOpening o) where
  fits : (n : ℕ) → n < o.size → ((o.settings n).node.0 ≡ n) × (1 ≤ (o.settings n).inc)
  fits n low =
      let is : is_setting o.size n (o.settings n) ≡ true = each_is o.size (λ n. is_setting o.size n (o.settings n)) opens.settings n low in
      let both : ((((o.settings n).node.0 == n) && ((o.settings n).nodes == o.size)) ≡ true) × _ = and_both (((o.settings n).node.0 == n) && ((o.settings n).nodes == o.size)) _ is in
      (eqb-true (o.settings n).node.0 n (and_both ((o.settings n).node.0 == n) ((o.settings n).nodes == o.size) both.0).0, grind (arith, nat_tests, (and_both (nat_lt 0 (o.settings n).inc) _ both.1).0))

  pub placed : (n : ℕ) → n < o.size → (o.settings n).node ≡ node_no n
  placed n low = ap node_no (fits n low).0

-- ---- all that is seen, and known

module _ (tid : Tid) (o : Opening) (opens : IsOpening o) (numbered : names_transaction tid ≡ true) (home_in : tid.home.0 < o.size) (past : tid.inc < (o.settings tid.home.0).inc) where
  abbrev world : World
  world = start o

  abbrev x : Sight
  x = sight tid (scene_of world)

  abbrev said : ℕ → Recovery
  said n = recovery (o.logs n)

  abbrev node : ℕ → NodeValue
  node n = (world.hosts n).node

  small : o.size ≤ 16
  small = grind (arith, nat_tests, (and_both (nat_le 1 o.size) (nat_le o.size 16) opens.size).1)

  -- ---- nodes

  -- one that opens as that of the opening does
  abbrev like : ℕ → NodeValue
  like n = record (node n) { manager = record (node n).manager { alloc = o.alloc }; kept = kept_as no_kept }

  takes : (n : ℕ) → n < o.size → Rattle.qs_world_refine.specs.Sound.may_take_up (o.settings n).node (said n) ≡ true
  takes n low = subst (λ (m : NodeNo). Rattle.qs_world_refine.specs.Sound.may_take_up m (said n) ≡ true) (sym (placed o opens n low)) (log_takes o opens n low)

  its_face : (n : ℕ) → n < o.size → IsRisenFace tid n (said n) (face_at (node n) tid)
  its_face n low = risen_face tid n (o.settings n).inc (o.logs n) (like n) numbered (placed o opens n low) (λ at. subst (λ (k : ℕ). tid.inc < (o.settings k).inc) at past) (takes n low) refl

  -- ---- all that is seen

  pub opening_left : IsLeft tid x
  opening_left = record {
    small = small;
    numbered = numbered;
    home_in = home_in;
    past = past;
    known = λ n m. grind (arith);
    faces = λ n low up. its_face n low;
    links = λ n i m j. refl;
    unmet = λ n m. refl;
    stands = untold_logged tid numbered (o.logs tid.home.0);
    home_clear = doubt_alone tid (said tid.home.0) (each_is o.size (λ k. are_unended (recovery (o.logs k))) opens.unended tid.home.0 home_in);
    listed = λ n low committed doubt. doubt_told o opens tid n home_in low committed doubt;
  }

  abbrev w : machine.World
  w = over_logs tid x opening_left

  -- ---- what nodes know of the commit

  tests : (n : ℕ) → n < o.size → (list_all may_vote (said n).prepared ≡ true) × (list_all (is_list_of (o.settings n).node) (said n).untold ≡ true)
  tests n low = and_both (list_all may_vote (said n).prepared) (list_all (is_list_of (o.settings n).node) (said n).untold) (takes n low)

  home_is : (n : ℕ) → n < o.size → same_node tid.home (o.settings n).node ≡ (tid.home.0 == n)
  home_is n low = rw (placed o opens n low) refl

  taken : (n : ℕ) → n < o.size → (part : Participant) → tm.part_of tid (node n).manager ≡ Some part → IsTakenOf tid (said n) part
  taken n low part known = taken_of tid (tid.home.0 == n) (said n) (node n).manager (list_any (is_untold_of tid) (said n).untold) (has_doubt tid (said n)) refl
      (log_taken tid (tid.home.0 == n) numbered (said n) (new_manager o.alloc (o.settings n)) (tests n low).0 (lists_from tid (o.logs n) nothing_said refl) (home_is n low) refl) part known

  logged_cell : list_any (same_tid tid) (said tid.home.0).committed ≡ true → w.cell ≡ Committed
  logged_cell is = picked (list_any (same_tid tid) (said tid.home.0).committed) is
    where
      picked : (b : Bool) → b ≡ true → (if b then Committed else Aborted) ≡ Committed
      picked b is = rw is refl

  learnt : (n : ℕ) → n < o.size → list_any (is_untold_of tid) (said n).untold ≡ true → w.cell ≡ Committed
  learnt n low untold = logged_cell (untold_logged tid numbered (o.logs tid.home.0) (subst (λ (k : ℕ). list_any (is_untold_of tid) (said k).untold ≡ true) (sym (eqb-true tid.home.0 n (list_home tid n (o.settings n).node (home_is n low) (said n).untold (tests n low).1 untold))) untold))

  pub opening_shows_all : ShowsAll tid world w
  opening_shows_all = record {
    seen = record {
      lawful = reopens_lawful tid x opening_left;
      placed = reopens_placed tid x opening_left (λ k low. (fits o opens k low).1);
      shown = left_shown tid x opening_left;
      closes = λ n low up. tt;
    };
    outcome = record {
      learnt = λ n part low up known decided. learnt n low ((taken n low part known).committed decided);
      acknowledged = λ part up known m has. absurd (let none : has_node part.acknowledged (node_no m) ≡ false = subst (λ (s : Nodes). has_node s (node_no m) ≡ false) (sym (taken tid.home.0 home_in part known).nobody) (nobody m) in cc (none, has));
    };
    kept = record { now = logged_cell; saved = λ is. absurd (cc (is)) };
  }
