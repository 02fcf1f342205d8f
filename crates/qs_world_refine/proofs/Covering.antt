-- A request is handed up where the sender is not the superior: Cover, over all that is seen.
use Rattle.qs_world_refine.proofs.Words.{◌≡◌, ◌≢◌, ◌⊎◌, inl, inr, ℕ, ◌+◌, ◌<◌, ◌≤◌, true, false, List, [], ◌∷◌, ◌++◌, arith, refl, sym, ◌∙◌, subst, ap, Tid, Open, Aborted, next, next_server, Cover, Leads, Sight, ShowsSight, place, Face, ShowsFace, Said, Requested, Closed, link, IsLink, waiting_link, took_in}
use Rattle.qs_world_agree.specs.World.{World}
use Rattle.qs_world_agree.specs.Step.{Step}
use Rattle.qs_world_refine.specs.Sights.{with_at4}
use Rattle.qs_world_refine.specs.Seen.{sight_covered}
use Rattle.qs_world_refine.proofs.Same.{same_place}
use Rattle.qs_world_refine.proofs.EventFaces.{Knows, face_cover}
use Rattle.qs_world_refine.proofs.Streams.{still, behind, within}
use Rattle.qs_world_refine.proofs.Still.{stage_still, log_still, at_four}
use Rattle.qs_world_refine.proofs.Around.{faces_around, known_is, place_some}
use Rattle.qs_world_refine.proofs.Requesting.{after_cover, cover_stays, cover_took, cover_back, cover_waiting, cover_other, cover_next}

-- ---- Cover: the request is gone from its link, and a Covered stands on the one back

module _ (tid : Tid) (x : Sight) (w : World) (n m i number s : ℕ) (rest : List Said)
    (shown : ShowsSight tid x w) (n_in : n < x.size) (m_in : m < x.size) (other : m ≢ n) (is_up : x.up n ≡ true) (knows : x.knows n m ≡ i) (some : 1 ≤ i)
    (head : x.said m i n (x.inc n) ≡ Requested number s ∷ rest)
    (undecided : (x.face n).outcome ≡ Open) (on : (x.face n).on ≡ true)
    (apart : ((x.face n).is_home ≡ true) × (place n (x.inc n) ≡ w.home) ⊎ (((x.face n).is_home ≡ false) × (m ≢ (x.face n).superior)))
    (known : Knows w (place n (x.inc n))) (clear : (k : ℕ) → w.closer_set (place n (x.inc n)) (place m i) (w.closers (place n (x.inc n)) (place m i) + 1) k ≡ false) where
  abbrev pub q_cover : ℕ
  q_cover = place n (x.inc n)

  abbrev pub p_cover : ℕ
  p_cover = place m i

  abbrev pub v_cover : World
  v_cover = after_cover q_cover p_cover w

  here_cover : ShowsFace (x.face n) q_cover w
  here_cover = shown.faces n n_in is_up

  before_cover : IsLink (link w p_cover q_cover) (Requested number s ∷ rest)
  before_cover = subst (λ (l : List Said). IsLink (link w p_cover q_cover) l) head (shown.links m i n (x.inc n) m_in n_in is_up refl)

  node_cover : w.node p_cover ≡ m
  node_cover = shown.stage.nodes m i m_in

  places_apart : p_cover ≢ q_cover
  places_apart = λ e. other (same_place m n i (x.inc n) (omega (arith, m_in, shown.stage.small)) (omega (arith, n_in, shown.stage.small)) e).0

  peer_cover : w.peer q_cover (w.node p_cover) ≡ p_cover
  peer_cover = rw node_cover (shown.stage.peers n m n_in m_in is_up ∙ rw knows (known_is m i some))

  more_cover : w.received q_cover p_cover < w.posted p_cover q_cover
  more_cover = omega (arith, (within rest (record (link w p_cover q_cover) { received = w.received q_cover p_cover + 1 }) before_cover.2).requests)

  step_cover : Step (Cover q_cover p_cover) w v_cover
  step_cover = ((here_cover.up, peer_cover, more_cover), not_aborted, (here_cover.engaged ∙ on), from_another apart, refl)
    where
      not_aborted : w.outcome q_cover ≢ Aborted
      not_aborted = λ e. let o : w.outcome q_cover ≡ Open = here_cover.outcome ∙ undecided in cc (e, o)

      from_another : ((x.face n).is_home ≡ true) × (q_cover ≡ w.home) ⊎ (((x.face n).is_home ≡ false) × (m ≢ (x.face n).superior)) → (q_cover ≡ w.home) ⊎ (w.superior q_cover ≢ w.node p_cover)
      from_another (inl h) = inl h.1
      from_another (inr h) = inr (λ e. h.1 (sym node_cover ∙ (sym e ∙ here_cover.superior on h.0)))

  number_cover : next w q_cover p_cover ≡ number
  number_cover = sym before_cover.0

  server_cover : next_server w q_cover p_cover ≡ s
  server_cover = sym (before_cover.1 ∙ ap (λ (k : ℕ). w.server_of p_cover (w.node q_cover) k) before_cover.0)

  face_cover_now : ShowsFace (took_in (x.face n) m number s) q_cover v_cover
  face_cover_now = same (x.face n) (w.node p_cover) (next w q_cover p_cover) (next_server w q_cover p_cover) m number s q_cover v_cover node_cover number_cover server_cover
      (face_cover q_cover p_cover w v_cover (x.face n) known (place_some m i some) (distinct apart) here_cover undecided step_cover)
    where
      distinct : ((x.face n).is_home ≡ true) × (q_cover ≡ w.home) ⊎ (((x.face n).is_home ≡ false) × (m ≢ (x.face n).superior)) → (x.face n).is_home ≡ false → w.node p_cover ≢ (x.face n).superior
      distinct (inl h) away = let on : (x.face n).is_home ≡ true = h.0 in absurd (cc (on, away))
      distinct (inr h) away = λ e. h.1 (sym node_cover ∙ e)

      same : (f : Face) (a b c k l r o : ℕ) (u : World) → a ≡ k → b ≡ l → c ≡ r → ShowsFace (took_in f a b c) o u → ShowsFace (took_in f k l r) o u
      same f a b c k l r o u ea eb ec i = rw (sym ea, sym eb, sym ec) i

  new_cover : x.up m ≡ true → i ≡ x.inc m → IsLink (link v_cover q_cover p_cover) (x.said n (x.inc n) m i ++ Closed number [] ∷ [])
  new_cover m_up now = behind (x.said n (x.inc n) m i) (Closed number [] ∷ []) (link w q_cover p_cover) (link v_cover q_cover p_cover) (cover_back q_cover p_cover w v_cover places_apart step_cover) here_cover.up
      (shown.links n (x.inc n) m i n_in m_in m_up now) (cover_next q_cover p_cover number w v_cover places_apart (sym number_cover) clear step_cover)

  pub covered_after : ShowsSight tid (sight_covered x n m i number s rest) v_cover
  covered_after = record {
    stage = stage_still tid x (sight_covered x n m i number s rest) w v_cover (rw step_cover.4 (record { node = refl; class = refl; home = refl; present = refl; up = refl; peer = refl })) refl refl refl refl shown.stage;
    faces = faces_around x n (took_in (x.face n) m number s) w v_cover shown.stage.small n_in shown.faces face_cover_now (λ k g off is. cover_other q_cover p_cover k w v_cover g off is step_cover);
    links = λ a k b l a_in b_in b_up now.
        at_four (λ (a k b l : ℕ) (t : List Said). a < x.size → b < x.size → x.up b ≡ true → l ≡ x.inc b → IsLink (link v_cover (place a k) (place b l)) t) (with_at4 x.said m i n (x.inc n) rest) n (x.inc n) m i (x.said n (x.inc n) m i ++ Closed number [] ∷ []) (λ _ _ m_up now. new_cover m_up now) a k b l
        (λ not_back a_in b_in b_up now.
        at_four (λ (a k b l : ℕ) (t : List Said). (a ≡ n → k ≡ x.inc n → b ≡ m → l ≡ i → ⊥) → a < x.size → b < x.size → x.up b ≡ true → l ≡ x.inc b → IsLink (link v_cover (place a k) (place b l)) t) x.said m i n (x.inc n) rest
        (λ _ _ _ _ _. still rest (record (link w p_cover q_cover) { received = w.received q_cover p_cover + 1 }) (link v_cover p_cover q_cover) (cover_took q_cover p_cover w v_cover places_apart step_cover) before_cover.2)
        a k b l
        (λ not_here not_back a_in b_in b_up now. still (x.said a k b l) (link w (place a k) (place b l)) (link v_cover (place a k) (place b l))
        (cover_stays q_cover p_cover (place a k) (place b l) w v_cover
        (λ e d. let first = same_place a m k i (omega (arith, a_in, shown.stage.small)) (omega (arith, m_in, shown.stage.small)) e in let second = same_place b n l (x.inc n) (omega (arith, b_in, shown.stage.small)) (omega (arith, n_in, shown.stage.small)) d in not_here first.0 first.1 second.0 second.1)
        (λ e d. let first = same_place a n k (x.inc n) (omega (arith, a_in, shown.stage.small)) (omega (arith, n_in, shown.stage.small)) e in let second = same_place b m l i (omega (arith, b_in, shown.stage.small)) (omega (arith, m_in, shown.stage.small)) d in not_back first.0 first.1 second.0 second.1)
        step_cover)
        (shown.links a k b l a_in b_in b_up now))
        not_back a_in b_in b_up now)
        a_in b_in b_up now;
    unmet = λ a b a_in b_in a_up none. still (x.unmet a b) (waiting_link w (place a (x.inc a)) b) (waiting_link v_cover (place a (x.inc a)) b) (cover_waiting q_cover p_cover (place a (x.inc a)) b w v_cover step_cover) (shown.unmet a b a_in b_in a_up none);
    logs = λ k k_in. log_still tid k (x.found k) w v_cover (rw step_cover.4 (record { prepared = refl; commit_logged = refl; unended = refl; commit_list = refl })) (shown.logs k k_in);
  }

  pub covered_leads : Leads w v_cover
  covered_leads = record { events = Cover q_cover p_cover ∷ []; run = (v_cover, step_cover, refl) }
