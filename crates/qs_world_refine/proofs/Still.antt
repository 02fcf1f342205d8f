-- What an event leaves as it was.
use Rattle.qs_world_refine.proofs.Words.{◌≡◌, ◌≢◌, ℕ, ◌==◌, ◌&&◌, Bool, true, false, arith, refl, ◌∙◌, if◌then◌else◌, eqb-true, nat_tests, Tid, Recovery, Sight, ShowsStage, ShowsLog}
use Rattle.qs_world_agree.specs.World.{World}
use Rattle.qs_world_refine.specs.Sights.{with_at4}

-- nodes, incarnations and sessions
pub record SameStage (w v : World) : Type 0 where
  pub node : v.node ≡ w.node
  pub class : v.class ≡ w.class
  pub home : v.home ≡ w.home
  pub present : v.present ≡ w.present
  pub up : v.up ≡ w.up
  pub peer : v.peer ≡ w.peer

pub stage_still : (tid : Tid) (x y : Sight) (w v : World) → SameStage w v → y.size ≡ x.size → y.inc ≡ x.inc → y.up ≡ x.up → y.knows ≡ x.knows → ShowsStage tid x w → ShowsStage tid y v
stage_still tid x y w v e a b c d i = record {
  small = rw a i.small;
  numbered = i.numbered;
  home = e.home ∙ i.home;
  nodes = λ n k in_run. rw e.node (i.nodes n k (rw a at in_run));
  classes = λ n s. rw e.class (i.classes n s);
  present = λ n in_run. rw (e.present, b) (i.present n (rw a at in_run));
  up = λ n k in_run. rw (e.up, b, c) (i.up n k (rw a at in_run));
  peers = λ n m in_run in_too is_up. rw (e.peer, b, d) (i.peers n m (rw a at in_run) (rw a at in_too) (rw c at is_up));
}

-- logs
pub record SameLogs (w v : World) : Type 0 where
  pub prepared : v.prepared ≡ w.prepared
  pub commit_logged : v.commit_logged ≡ w.commit_logged
  pub unended : v.unended ≡ w.unended
  pub commit_list : v.commit_list ≡ w.commit_list

pub log_still : (tid : Tid) (n : ℕ) (found : Recovery) (w v : World) → SameLogs w v → ShowsLog tid n found w → ShowsLog tid n found v
log_still tid n found w v e i = record {
  prepared = λ s. rw e.prepared (i.prepared s);
  committed = λ here. rw e.commit_logged (i.committed here);
  unended = λ here. rw e.unended (i.unended here);
  named = λ here stands m. rw e.commit_list (i.named here (rw e.unended at stands) m);
}

-- ---- one event after the other

pub stage_on : (w u v : World) → SameStage w u → SameStage u v → SameStage w v
stage_on w u v first second = record {
  node = second.node ∙ first.node;
  class = second.class ∙ first.class;
  home = second.home ∙ first.home;
  present = second.present ∙ first.present;
  up = second.up ∙ first.up;
  peer = second.peer ∙ first.peer;
}

pub logs_on : (w u v : World) → SameLogs w u → SameLogs u v → SameLogs w v
logs_on w u v first second = record {
  prepared = second.prepared ∙ first.prepared;
  commit_logged = second.commit_logged ∙ first.commit_logged;
  unended = second.unended ∙ first.unended;
  commit_list = second.commit_list ∙ first.commit_list;
}

-- ---- one of four

pub four_here : {A : Type 0} (f : ℕ → ℕ → ℕ → ℕ → A) (n i m j : ℕ) (x : A) → with_at4 f n i m j x n i m j ≡ x
four_here f n i m j x = grind (arith, nat_tests)

-- a change at one pair of incarnations, and elsewhere nothing
pub at_four : {A : Type 0} (P : ℕ → ℕ → ℕ → ℕ → A → Type 0) (f : ℕ → ℕ → ℕ → ℕ → A) (n i m j : ℕ) (x : A)
    → P n i m j x → (p k q l : ℕ)
    → ((p ≡ n → k ≡ i → q ≡ m → l ≡ j → ⊥) → P p k q l (f p k q l))
    → P p k q l (with_at4 f n i m j x p k q l)
at_four P f n i m j x here p k q l there = by (p == n) (k == i) (q == m) (l == j) refl refl refl refl
  where
    by : (a b c d : Bool) → (p == n) ≡ a → (k == i) ≡ b → (q == m) ≡ c → (l == j) ≡ d → P p k q l (if a && (b && (c && d)) then x else f p k q l)
    by true true true true ea eb ec ed = rw (eqb-true p n ea, eqb-true k i eb, eqb-true q m ec, eqb-true l j ed) here
    by false b c d ea eb ec ed = there (λ ep ek eq el. grind (arith, nat_tests, ea, ep))
    by true false c d ea eb ec ed = there (λ ep ek eq el. grind (arith, nat_tests, eb, ek))
    by true true false d ea eb ec ed = there (λ ep ek eq el. grind (arith, nat_tests, ec, eq))
    by true true true false ea eb ec ed = there (λ ep ek eq el. grind (arith, nat_tests, ed, el))

-- a change at one node
pub at_one : {A : Type 0} (P : ℕ → A → Type 0) (f : ℕ → A) (n : ℕ) (x : A) → P n x → (m : ℕ) → (m ≢ n → P m (f m)) → P m (if m == n then x else f m)
at_one P f n x here m there = by (m == n) refl
  where
    by : (b : Bool) → (m == n) ≡ b → P m (if b then x else f m)
    by true e = rw (eqb-true m n e) here
    by false e = there (λ is. grind (arith, nat_tests, e, is))

pub four_apart : {A : Type 0} (f : ℕ → ℕ → ℕ → ℕ → A) (n i m j : ℕ) (x : A) (p k q l : ℕ) → (p ≡ n → k ≡ i → q ≡ m → l ≡ j → ⊥) → with_at4 f n i m j x p k q l ≡ f p k q l
four_apart {A} f n i m j x p k q l apart = at_four (λ (a b c d : ℕ) (y : A). (a ≡ n → b ≡ i → c ≡ m → d ≡ j → ⊥) → y ≡ f a b c d) f n i m j x (λ apart. absurd (apart refl refl refl refl)) p k q l (λ _ _. refl) apart
