-- All faces, and all links, after an event that changes one of them.
use Rattle.qs_world_refine.proofs.Words.{◌≡◌, ◌≢◌, ℕ, ◌<◌, ◌≤◌, ◌==◌, true, List, arith, if◌then◌else◌, nat_tests, Sight, place, known_place, Face, ShowsFace, Said, link, IsLink}
use Rattle.qs_world_agree.specs.World.{World}
use Rattle.qs_world_refine.specs.Sights.{with_at4}
use Rattle.qs_world_refine.proofs.Same.{same_place}
use Rattle.qs_world_refine.proofs.Streams.{Stays, still}
use Rattle.qs_world_refine.proofs.Still.{at_four, at_one}

module _ (x : Sight) (n : ℕ) (f : Face) (w v : World) (small : x.size ≤ 16) (n_in : n < x.size) where
  pub faces_around : ((k : ℕ) → k < x.size → x.up k ≡ true → ShowsFace (x.face k) (place k (x.inc k)) w)
      → ShowsFace f (place n (x.inc n)) v
      → ((k : ℕ) (g : Face) → k ≢ place n (x.inc n) → ShowsFace g k w → ShowsFace g k v)
      → (k : ℕ) → k < x.size → x.up k ≡ true → ShowsFace (if k == n then f else x.face k) (place k (x.inc k)) v
  faces_around before here there k k_in k_up =
      at_one (λ (k : ℕ) (f : Face). k < x.size → x.up k ≡ true → ShowsFace f (place k (x.inc k)) v) x.face n f (λ _ _. here)
      k (λ other k_in k_up. there (place k (x.inc k)) (x.face k) (λ e. other (same_place k n (x.inc k) (x.inc n) (omega (arith, k_in, small)) (omega (arith, n_in, small)) e).0) (before k k_in k_up)) k_in k_up

module _ (x : Sight) (n i m j : ℕ) (list : List Said) (w v : World) (small : x.size ≤ 16) (n_in : n < x.size) (m_in : m < x.size) where
  pub links_around : ((a k b l : ℕ) → a < x.size → b < x.size → x.up b ≡ true → l ≡ x.inc b → IsLink (link w (place a k) (place b l)) (x.said a k b l))
      → (x.up m ≡ true → j ≡ x.inc m → IsLink (link v (place n i) (place m j)) list)
      → ((a b : ℕ) → (a ≡ place n i → b ≡ place m j → ⊥) → Stays (link w a b) (link v a b))
      → (a k b l : ℕ) → a < x.size → b < x.size → x.up b ≡ true → l ≡ x.inc b → IsLink (link v (place a k) (place b l)) (with_at4 x.said n i m j list a k b l)
  links_around before here there a k b l a_in b_in b_up now =
      at_four (λ (a k b l : ℕ) (s : List Said). a < x.size → b < x.size → x.up b ≡ true → l ≡ x.inc b → IsLink (link v (place a k) (place b l)) s) x.said n i m j list (λ _ _ is_up is_now. here is_up is_now) a k b l
      (λ other a_in b_in b_up now. still (x.said a k b l) (link w (place a k) (place b l)) (link v (place a k) (place b l))
      (there (place a k) (place b l) (λ e d.
      let first = same_place a n k i (omega (arith, a_in, small)) (omega (arith, n_in, small)) e in
      let second = same_place b m l j (omega (arith, b_in, small)) (omega (arith, m_in, small)) d in
      other first.0 first.1 second.0 second.1))
      (before a k b l a_in b_in b_up now))
      a_in b_in b_up now

pub known_is : (m i : ℕ) → 1 ≤ i → known_place m i ≡ place m i
known_is m i some = grind (arith, nat_tests, some)

pub place_some : (n i : ℕ) → 1 ≤ i → 1 ≤ place n i
place_some n i some = omega (arith, some)
