-- Events after which one more message waits for a node of which no place is known, and Tell and Tell_abort as the first of them.
use Rattle.qs_world_refine.proofs.Words.{◌≡◌, ◌≢◌, ℕ, ◌<◌, ◌≤◌, ◌==◌, ◌&&◌, Bool, true, false, List, [], ◌∷◌, ◌++◌, arith, refl, sym, ◌∙◌, subst, ap, if◌then◌else◌, eqb-true, nat_tests, Tid, Face, ShowsFace, Said, link, waiting_link, IsLink, place, sight_waiting, Sight, ShowsSight}
use Rattle.qs_world_agree.specs.World.{World}
use Rattle.qs_world_refine.proofs.Around.{faces_around}
use Rattle.qs_world_refine.proofs.Same.{same_place}
use Rattle.qs_world_refine.proofs.Still.{SameStage, stage_still, SameLogs, log_still}
use Rattle.qs_world_refine.proofs.Streams.{Stays, Carries, still, behind, ended}

-- what an event leaves after which more waits at p for node m
pub record Waits (p m : ℕ) (w v : World) : Type 0 where
  pub stage : SameStage w v
  pub logs : SameLogs w v
  pub links : (a b : ℕ) → Stays (link w a b) (link v a b)
  pub waiting : (a b : ℕ) → (a ≡ p → b ≡ m → ⊥) → Stays (waiting_link w a b) (waiting_link v a b)
  pub others : (k : ℕ) (f : Face) → k ≢ p → ShowsFace f k w → ShowsFace f k v
  pub carries : Carries (waiting_link w p m) (waiting_link v p m)

module _ (x : Sight) (n m : ℕ) (list : List Said) (w v : World) (small : x.size ≤ 16) (n_in : n < x.size) where
  pub unmet_around : ((a b : ℕ) → a < x.size → b < x.size → x.up a ≡ true → x.knows a b ≡ 0 → IsLink (waiting_link w (place a (x.inc a)) b) (x.unmet a b))
      → (m < x.size → x.knows n m ≡ 0 → IsLink (waiting_link v (place n (x.inc n)) m) list)
      → ((a b : ℕ) → (a ≡ place n (x.inc n) → b ≡ m → ⊥) → Stays (waiting_link w a b) (waiting_link v a b))
      → (a b : ℕ) → a < x.size → b < x.size → x.up a ≡ true → x.knows a b ≡ 0 → IsLink (waiting_link v (place a (x.inc a)) b) (if (a == n) && (b == m) then list else x.unmet a b)
  unmet_around before here there a b a_in b_in a_up none = by (a == n) (b == m) refl refl
    where
      apart : (place a (x.inc a) ≡ place n (x.inc n) → b ≡ m → ⊥) → IsLink (waiting_link v (place a (x.inc a)) b) (x.unmet a b)
      apart other = still (x.unmet a b) (waiting_link w (place a (x.inc a)) b) (waiting_link v (place a (x.inc a)) b) (there (place a (x.inc a)) b other) (before a b a_in b_in a_up none)

      same_node : place a (x.inc a) ≡ place n (x.inc n) → a ≡ n
      same_node e = (same_place a n (x.inc a) (x.inc n) (omega (arith, a_in, small)) (omega (arith, n_in, small)) e).0

      at : a ≡ n → b ≡ m → IsLink (waiting_link v (place a (x.inc a)) b) list
      at ea eb = subst (λ (k : ℕ). IsLink (waiting_link v (place k (x.inc k)) b) list) (sym ea)
          (subst (λ (k : ℕ). IsLink (waiting_link v (place n (x.inc n)) k) list) (sym eb)
          (here (subst (λ (k : ℕ). k < x.size) eb b_in) (sym (ap (λ (k : ℕ). x.knows k m) ea) ∙ (ap (λ (k : ℕ). x.knows a k) (sym eb) ∙ none))))

      by : (c d : Bool) → (a == n) ≡ c → (b == m) ≡ d → IsLink (waiting_link v (place a (x.inc a)) b) (if c && d then list else x.unmet a b)
      by true true ea eb = at (eqb-true a n ea) (eqb-true b m eb)
      by false d ea eb = apart (λ e _. let is = same_node e in grind (arith, nat_tests, ea, is))
      by true false ea eb = apart (λ _ is. grind (arith, nat_tests, eb, is))

pub wait_sight : (tid : Tid) (x : Sight) (w v : World) (n m : ℕ) (f : Face) (what : Said) → ShowsSight tid x w → n < x.size → x.up n ≡ true → Waits (place n (x.inc n)) m w v → ShowsFace f (place n (x.inc n)) v
    → IsLink (ended (waiting_link w (place n (x.inc n)) m) (waiting_link v (place n (x.inc n)) m)) (what ∷ [])
    → ShowsSight tid (sight_waiting x n m f what) v
wait_sight tid x w v n m f what shown n_in is_up e face next = record {
  stage = stage_still tid x (sight_waiting x n m f what) w v e.stage refl refl refl refl shown.stage;
  faces = faces_around x n f w v shown.stage.small n_in shown.faces face e.others;
  links = λ a k b l a_in b_in b_up now. still (x.said a k b l) (link w (place a k) (place b l)) (link v (place a k) (place b l)) (e.links (place a k) (place b l)) (shown.links a k b l a_in b_in b_up now);
  unmet = unmet_around x n m (x.unmet n m ++ what ∷ []) w v shown.stage.small n_in shown.unmet
      (λ m_in none. behind (x.unmet n m) (what ∷ []) (waiting_link w (place n (x.inc n)) m) (waiting_link v (place n (x.inc n)) m) e.carries (shown.faces n n_in is_up).up (shown.unmet n m n_in m_in is_up none) next)
      e.waiting;
  logs = λ k k_in. log_still tid k (x.found k) w v e.logs (shown.logs k k_in);
}
