-- Where nothing is seen of a transaction, the agreement machine at its start shows it.
use Rattle.qs_world_refine.proofs.Words.{◌≡◌, ℕ, ◌+◌, ◌*◌, ◌<◌, ◌≤◌, ◌==◌, ◌&&◌, Bool, true, false, List, [], refl, sym, ap, subst, ◌∙◌, arith, if◌then◌else◌, nat_lt, eqb-true, and_right, nat_tests, Tid, names_transaction, lawful, IsLawful, ShowsFace, Said, IsLink, link, waiting_link, place, known_place, Sight, ShowsSight, ShowsLog, ShowsStage, IsNewFace, SaysNothing, begins_at, IsUnseen, opening_seen, MayBegin, and_last}
use Rattle.std.specs.Prelude.{◌%◌}
use Rattle.std.proofs.lemmas.Nat.{mod_low}
use Rattle.qs_world_agree.specs.Origins.{Begun}
use Rattle.qs_world_agree.specs.World as machine
use Rattle.qs_world_agree.specs.World.{World}
use Rattle.qs_world_refine.specs.Places.{home_place}
use Rattle.qs_world_refine.specs.RiseLaws.{StartPlaced}
use Rattle.qs_world_refine.specs.Starts.{node_of}

pub node_place : (n i : ℕ) → n < 256 → node_of (place n i) ≡ n
node_place n i below = ap (λ (k : ℕ). (k + n) % 256) (swapped i) ∙ mod_low i 8 n below
  where
    swapped : (i : ℕ) → 256 * i ≡ i * 256
    swapped i = omega (arith)

place_alike : (n i h j : ℕ) → n < 256 → h < 256 → (place n i == place h j) ≡ ((h == n) && (j == i))
place_alike n i h j a b = grind (arith, nat_tests, a, b)

-- ---- nodes, incarnations and sessions, as the machine finds them

module _ (tid : Tid) (x : Sight) (small : x.size ≤ 16) where
  abbrev w : World
  w = machine.start (opening_seen tid x)

  pub below : (n : ℕ) → n < x.size → n < 256
  below n in_run = grind (arith, nat_tests, small, in_run)

  pub up_is : (n i : ℕ) → n < x.size → w.up (place n i) ≡ (x.up n && (i == x.inc n))
  up_is n i in_run = rw (node_place n i (below n in_run)) (ap (λ (b : Bool). x.up n && b) (now (x.inc n)))
    where
      now : (k : ℕ) → (place n i == place n k) ≡ (i == k)
      now k = grind (arith, nat_tests)

  pub stage_seen : names_transaction tid ≡ true → ShowsStage tid x w
  stage_seen numbered = record {
    small = small;
    numbered = numbered;
    home = refl;
    nodes = λ n i in_run. node_place n i (below n in_run);
    classes = λ n s. refl;
    present = λ n in_run. refl;
    up = up_is;
    peers = λ n m in_run in_too up. rw (node_place n (x.inc n) (below n in_run)) (picked ((place n (x.inc n) == place n (x.inc n)) && nat_lt m x.size) (grind (arith, nat_tests, in_too)) (known_place m (x.knows n m)));
  }
    where
      picked : (b : Bool) → b ≡ true → (k : ℕ) → (if b then k else 0) ≡ k
      picked b is k = rw is refl

-- what runs is its node's present place, and whoever is known is a node's place, and no later one than there is
pub record IsStaged (tid : Tid) (x : Sight) : Type 0 where
  pub up_present : (p : ℕ) → (opening_seen tid x).up p ≡ true → (opening_seen tid x).present ((opening_seen tid x).node p) ≡ p
  pub peer_node : (p m : ℕ) → 1 ≤ (opening_seen tid x).peer p m → (opening_seen tid x).node ((opening_seen tid x).peer p m) ≡ m
  pub peer_present : (p m : ℕ) → (opening_seen tid x).peer p m ≤ (opening_seen tid x).present m

pub staged : (tid : Tid) (x : Sight) → x.size ≤ 16 → ((n m : ℕ) → x.knows n m ≤ x.inc m) → IsStaged tid x
staged tid x small known = record {
  up_present = λ p up. sym (eqb-true p (place (node_of p) (x.inc (node_of p))) (and_last (x.up (node_of p)) (p == place (node_of p) (x.inc (node_of p))) up));
  peer_node = λ p m some. by_node p m (is_asked p m) refl some;
  peer_present = λ p m. by_present p m (is_asked p m);
}
  where
    -- the place is its node's present one, and the other a node of the run
    is_asked : ℕ → ℕ → Bool
    is_asked p m = (p == place (node_of p) (x.inc (node_of p))) && nat_lt m x.size

    by_node : (p m : ℕ) (b : Bool) → is_asked p m ≡ b → 1 ≤ (if b then known_place m (x.knows (node_of p) m) else 0) → node_of (if b then known_place m (x.knows (node_of p) m) else 0) ≡ m
    by_node p m true in_run some = place_known (x.knows (node_of p) m == 0) some
      where
        place_known : (b : Bool) → 1 ≤ (if b then 0 else place m (x.knows (node_of p) m)) → node_of (if b then 0 else place m (x.knows (node_of p) m)) ≡ m
        place_known true some = absurd (omega (arith, some))
        place_known false some = node_place m (x.knows (node_of p) m) (below tid x small m (grind (arith, nat_tests, and_last (p == place (node_of p) (x.inc (node_of p))) (nat_lt m x.size) in_run)))
    by_node p m false past some = absurd (omega (arith, some))

    by_present : (p m : ℕ) (b : Bool) → (if b then known_place m (x.knows (node_of p) m) else 0) ≤ place m (x.inc m)
    by_present p m true = place_known (x.knows (node_of p) m == 0)
      where
        place_known : (b : Bool) → (if b then 0 else place m (x.knows (node_of p) m)) ≤ place m (x.inc m)
        place_known true = grind (arith)
        place_known false = omega (arith, known (node_of p) m)
    by_present p m false = grind (arith)

-- ---- where nothing is seen

module _ (tid : Tid) (x : Sight) (u : IsUnseen tid x) where
  abbrev at_start : World
  at_start = machine.start (opening_seen tid x)

  shown_face : (n : ℕ) → n < x.size → x.up n ≡ true → IsNewFace (begins_at tid x n) (x.face n) → ShowsFace (x.face n) (place n (x.inc n)) at_start
  shown_face n in_run up f = record {
    up = up_is tid x u.small n (x.inc n) in_run ∙ both (x.up n) up (x.inc n);
    outcome = sym f.outcome;
    engaged = place_alike n (x.inc n) tid.home.0 tid.inc (below tid x u.small n in_run) (below tid x u.small tid.home.0 u.home_in) ∙ sym f.on;
    superior = λ on away. absurd (cc (f.on, f.is_home, on, away));
    last = λ on away. absurd (cc (f.on, f.is_home, on, away));
    last_new = λ p late. refl;
    sent = λ _ m. sym (f.sent m);
    told_in = λ m has. absurd (cc (f.told m, has));
    tell = λ is m has. absurd (cc (f.tell m, has));
    running = λ is. record {
      covered = λ m. sym (f.covered m);
      asked = sym f.asked;
      refused = λ is. refl;
      gone = λ is. refl;
      abort_vote = λ is. refl;
      waits = λ s. rw (f.waits s) (omega (arith));
      uncast = λ s votes. rw (f.uncast s) (omega (arith));
      loans = sym f.loans;
      involved = sym f.involved;
      told = λ m. sym (f.told m);
    };
  }
    where
      both : (b : Bool) → b ≡ true → (i : ℕ) → (b && (i == i)) ≡ true
      both b is i = rw is (grind (arith, nat_tests))

  nothing_said : (p q : ℕ) (said : List Said) → said ≡ [] → IsLink (link at_start p q) said
  nothing_said p q said none = subst (λ (s : List Said). IsLink (link at_start p q) s) (sym none)
      (record { requests = grind (arith); closers = grind (arith); inquiries = grind (arith); all_requests = λ live. refl; all_closers = λ live. refl; all_inquiries = λ live home. refl })

  nothing_waits : (p m : ℕ) (said : List Said) → said ≡ [] → IsLink (waiting_link at_start p m) said
  nothing_waits p m said none = subst (λ (s : List Said). IsLink (waiting_link at_start p m) s) (sym none)
      (record { requests = grind (arith); closers = grind (arith); inquiries = grind (arith); all_requests = λ live. refl; all_closers = λ live. refl; all_inquiries = λ live home. refl })

  shown_log : (n : ℕ) → SaysNothing tid (x.found n) → ShowsLog tid n (x.found n) at_start
  shown_log n says = record {
    prepared = λ s. sym (says.prepared s);
    committed = λ home. sym says.committed;
    unended = λ home. sym says.untold;
    named = λ home stands m. absurd (cc (stands));
  }

  pub unseen_shown : ShowsSight tid x at_start
  unseen_shown = record {
    stage = stage_seen tid x u.small u.numbered;
    faces = λ n in_run up. shown_face n in_run up (u.faces n in_run up);
    links = λ n i m j in_run in_too up now. nothing_said (place n i) (place m j) (x.said n i m j) (u.links n i m j);
    unmet = λ n m in_run in_too up none. nothing_waits (place n (x.inc n)) m (x.unmet n m) (u.unmet n m);
    logs = λ n in_run. shown_log n (u.logs n in_run);
  }

-- and that is a start of the machine
pub may_begin : (tid : Tid) (x : Sight) → MayBegin tid x → machine.IsOpening (opening_seen tid x)
may_begin tid x may = let is = staged tid x may.small may.known in record {
  home_up = rw (node_place tid.home.0 tid.inc (below tid x may.small tid.home.0 may.home_in)) (home_runs (x.up tid.home.0) may.home_up);
  up_present = is.up_present;
  peer_node = is.peer_node;
  peer_present = is.peer_present;
}
  where
    home_runs : (b : Bool) → b ≡ true → (b && (place tid.home.0 tid.inc == place tid.home.0 (x.inc tid.home.0))) ≡ true
    home_runs b is = rw (is, may.home_now) (grind (arith, nat_tests))

pub begins_lawful : (tid : Tid) (x : Sight) → MayBegin tid x → IsLawful (machine.start (opening_seen tid x))
begins_lawful tid x may = lawful (machine.start (opening_seen tid x)) (record { origin = Begun (opening_seen tid x); begins = may_begin tid x may; events = []; run = refl })

-- a place that has not begun is not its node's present one, and 0 is nowhere
pub start_placed : StartPlaced
start_placed tid x may begun q m = record {
  stranger = λ late. apart (q == place (node_of q) (x.inc (node_of q))) (grind (arith, nat_tests, late)) (nat_lt m x.size) (known_place m (x.knows (node_of q) m));
  none_up = and_right (x.up 0) (0 == place 0 (x.inc 0)) (no_place (x.inc 0) (begun 0 (grind (arith, nat_tests, may.home_in))));
  none_posted = refl;
  engager = λ on away. absurd (away (eqb-true q (home_place tid) on));
}
  where
    apart : (a : Bool) → a ≡ false → (b : Bool) (k : ℕ) → (if a && b then k else 0) ≡ 0
    apart a is b k = rw is refl

    no_place : (i : ℕ) → 1 ≤ i → (0 == place 0 i) ≡ false
    no_place i some = grind (arith, nat_tests, some)
