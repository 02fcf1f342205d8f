-- A request is handed up: what Engage, Join and Cover change, and Engage over all that is seen.
use Rattle.qs_world_refine.proofs.Words.{◌≡◌, ◌≢◌, ℕ, ◌+◌, ◌<◌, ◌≤◌, true, false, List, [], ◌∷◌, arith, refl, sym, ◌∙◌, subst, ap, nat_tests, Tid, Open, Aborted, with_at3, next, next_server, Join, Cover, Leads, Sight, ShowsSight, place, Face, ShowsFace, Said, Requested, Closed, link, IsLink, waiting_link, engaged_by, took_in}
use Rattle.qs_world_agree.specs.World.{World, with_at, with_at2}
use Rattle.qs_world_agree.specs.Step.{Step, Engage}
use Rattle.qs_world_refine.specs.Seen.{sight_engaged}
use Rattle.qs_world_refine.proofs.EventFaces.{face_engage}
use Rattle.qs_world_refine.proofs.Streams.{Stays, Carries, still, ended, within}
use Rattle.qs_world_refine.proofs.Still.{stage_still, log_still}
use Rattle.qs_world_refine.proofs.Around.{faces_around, links_around, known_is}

-- ---- Engage

abbrev pub after_engage : ℕ → ℕ → World → World
after_engage q p old = record old {
  received = with_at2 old.received q p (next old q p);
  last = with_at2 old.last q p (next old q p);
  arrived = with_at2 old.arrived q (next_server old q p) (old.arrived q (next_server old q p) + 1);
  engaged = with_at old.engaged q true;
  superior = with_at old.superior q (old.node p);
  engager = with_at old.engager q p;
  engaging = with_at old.engaging q (next old q p);
  depth = with_at old.depth q (old.depth p + 1);
  received_at = with_at3 old.received_at p (old.node q) (next old q p) q;
  arrival = with_at3 old.arrival p (old.node q) (next old q p) (old.arrived q (next_server old q p) + 1);
}

-- ---- Join

abbrev pub after_join : ℕ → ℕ → World → World
after_join q p old = record old {
  received = with_at2 old.received q p (next old q p);
  last = with_at2 old.last q p (next old q p);
  arrived = with_at2 old.arrived q (next_server old q p) (old.arrived q (next_server old q p) + 1);
  received_at = with_at3 old.received_at p (old.node q) (next old q p) q;
  arrival = with_at3 old.arrival p (old.node q) (next old q p) (old.arrived q (next_server old q p) + 1);
}

-- ---- Cover

abbrev pub after_cover : ℕ → ℕ → World → World
after_cover q p old = record old {
  received = with_at2 old.received q p (next old q p);
  last = with_at2 old.last q p (next old q p);
  arrived = with_at2 old.arrived q (next_server old q p) (old.arrived q (next_server old q p) + 1);
  closers = with_at2 old.closers q p (old.closers q p + 1);
  closer = with_at3 old.closer q p (old.closers q p + 1) (next old q p);
  received_at = with_at3 old.received_at p (old.node q) (next old q p) q;
  arrival = with_at3 old.arrival p (old.node q) (next old q p) (old.arrived q (next_server old q p) + 1);
}

-- ---- the links

engage_stays : (q p a b : ℕ) (w v : World) → (a ≡ p → b ≡ q → ⊥) → Step (Engage q p) w v → Stays (link w a b) (link v a b)
engage_stays q p a b w v other step = record { carries = grind (arith, nat_tests, other, step); posted = grind (arith, step); closers = grind (arith, step); inquiry_put = grind (arith, step) }

engage_took : (q p : ℕ) (w v : World) → Step (Engage q p) w v → Stays (record (link w p q) { received = w.received q p + 1 }) (link v p q)
engage_took q p w v step = record { carries = grind (arith, nat_tests, step); posted = grind (arith, step); closers = grind (arith, step); inquiry_put = grind (arith, step) }

engage_waiting : (q p a m : ℕ) (w v : World) → Step (Engage q p) w v → Stays (waiting_link w a m) (waiting_link v a m)
engage_waiting q p a m w v step = record { carries = grind (arith, nat_tests, step); posted = grind (arith, step); closers = grind (arith, step); inquiry_put = grind (arith, step) }

engage_other : (q p k : ℕ) (w v : World) (f : Face) → k ≢ q → ShowsFace f k w → Step (Engage q p) w v → ShowsFace f k v
engage_other q p k w v f other i step = grind (arith, nat_tests, other, i, step)

pub join_stays : (q p a b : ℕ) (w v : World) → (a ≡ p → b ≡ q → ⊥) → Step (Join q p) w v → Stays (link w a b) (link v a b)
join_stays q p a b w v other step = record { carries = grind (arith, nat_tests, other, step); posted = grind (arith, step); closers = grind (arith, step); inquiry_put = grind (arith, step) }

pub join_took : (q p : ℕ) (w v : World) → Step (Join q p) w v → Stays (record (link w p q) { received = w.received q p + 1 }) (link v p q)
join_took q p w v step = record { carries = grind (arith, nat_tests, step); posted = grind (arith, step); closers = grind (arith, step); inquiry_put = grind (arith, step) }

pub join_waiting : (q p a m : ℕ) (w v : World) → Step (Join q p) w v → Stays (waiting_link w a m) (waiting_link v a m)
join_waiting q p a m w v step = record { carries = grind (arith, nat_tests, step); posted = grind (arith, step); closers = grind (arith, step); inquiry_put = grind (arith, step) }

pub join_other : (q p k : ℕ) (w v : World) (f : Face) → k ≢ q → ShowsFace f k w → Step (Join q p) w v → ShowsFace f k v
join_other q p k w v f other i step = grind (arith, nat_tests, other, i, step)

-- Cover takes from one link and puts on the one back
pub cover_stays : (q p a b : ℕ) (w v : World) → (a ≡ p → b ≡ q → ⊥) → (a ≡ q → b ≡ p → ⊥) → Step (Cover q p) w v → Stays (link w a b) (link v a b)
cover_stays q p a b w v other back step = record { carries = grind (arith, nat_tests, other, back, step); posted = grind (arith, step); closers = grind (arith, nat_tests, back, step); inquiry_put = grind (arith, step) }

pub cover_took : (q p : ℕ) (w v : World) → p ≢ q → Step (Cover q p) w v → Stays (record (link w p q) { received = w.received q p + 1 }) (link v p q)
cover_took q p w v apart step = record { carries = grind (arith, nat_tests, apart, step); posted = grind (arith, step); closers = grind (arith, nat_tests, apart, step); inquiry_put = grind (arith, step) }

pub cover_back : (q p : ℕ) (w v : World) → p ≢ q → Step (Cover q p) w v → Carries (link w q p) (link v q p)
cover_back q p w v apart step = record {
  live = grind (arith, step);
  received = grind (arith, nat_tests, apart, step);
  taken = grind (arith, step);
  to_home = grind (arith, nat_tests, step);
  inquiry_taken = grind (arith, step);
  server = grind (arith, step);
  closer = λ k in_put. grind (arith, nat_tests, in_put, step);
  closer_set = grind (arith, step);
  tell_commit = grind (arith, step);
  tell_abort = grind (arith, step);
  ack_put = grind (arith, step);
  aborted = grind (arith, step);
  named = grind (arith, step);
}

pub cover_waiting : (q p a m : ℕ) (w v : World) → Step (Cover q p) w v → Stays (waiting_link w a m) (waiting_link v a m)
cover_waiting q p a m w v step = record { carries = grind (arith, nat_tests, step); posted = grind (arith, step); closers = grind (arith, step); inquiry_put = grind (arith, step) }

pub cover_other : (q p k : ℕ) (w v : World) (f : Face) → k ≢ q → ShowsFace f k w → Step (Cover q p) w v → ShowsFace f k v
cover_other q p k w v f other i step = grind (arith, nat_tests, other, i, step)

-- the number of the next Covered that is put, with an empty told set, which is a fact of its own
pub cover_next : (q p number : ℕ) (w v : World) → p ≢ q → number ≡ next w q p → ((n : ℕ) → w.closer_set q p (w.closers q p + 1) n ≡ false) → Step (Cover q p) w v → IsLink (ended (link w q p) (link v q p)) (Closed number [] ∷ [])
cover_next q p number w v apart is clear step = (
  grind (arith, nat_tests, is, step),
  λ n. grind (arith, nat_tests, clear n, step),
  record {
    requests = grind (arith, step);
    closers = grind (arith, nat_tests, step);
    inquiries = grind (arith, step);
    all_requests = grind (arith, step);
    all_closers = grind (arith, nat_tests, step);
    all_inquiries = grind (arith, step);
  },
)

-- ---- Engage, all that is seen: the request is gone from its link, and the face has a superior

module _ (tid : Tid) (x : Sight) (w : World) (n m i number s : ℕ) (rest : List Said)
    (shown : ShowsSight tid x w) (n_in : n < x.size) (m_in : m < x.size) (is_up : x.up n ≡ true) (knows : x.knows n m ≡ i) (some : 1 ≤ i)
    (head : x.said m i n (x.inc n) ≡ Requested number s ∷ rest)
    (undecided : (x.face n).outcome ≡ Open) (off : (x.face n).on ≡ false) (elsewhere : tid.home.0 ≢ n) (home_in : tid.home.0 < x.size) where
  abbrev pub q : ℕ
  q = place n (x.inc n)

  abbrev pub p : ℕ
  p = place m i

  abbrev pub v : World
  v = after_engage q p w

  here : ShowsFace (x.face n) q w
  here = shown.faces n n_in is_up

  link_before : IsLink (link w p q) (Requested number s ∷ rest)
  link_before = subst (λ (l : List Said). IsLink (link w p q) l) head (shown.links m i n (x.inc n) m_in n_in is_up refl)

  node_of_p : w.node p ≡ m
  node_of_p = shown.stage.nodes m i m_in

  node_of_q : w.node q ≡ n
  node_of_q = shown.stage.nodes n (x.inc n) n_in

  peer_is : w.peer q (w.node p) ≡ p
  peer_is = rw node_of_p (shown.stage.peers n m n_in m_in is_up ∙ rw knows (known_is m i some))

  more : w.received q p < w.posted p q
  more = omega (arith, (within rest (record (link w p q) { received = w.received q p + 1 }) link_before.2).requests)

  step : Step (Engage q p) w v
  step = ((here.up, peer_is, more), not_aborted, (here.engaged ∙ off), away, refl)
    where
      not_aborted : w.outcome q ≢ Aborted
      not_aborted = λ e. let o : w.outcome q ≡ Open = here.outcome ∙ undecided in cc (e, o)

      away : w.node q ≢ w.node w.home
      away = λ e. elsewhere (sym (shown.stage.nodes tid.home.0 tid.inc home_in) ∙ (sym (ap w.node shown.stage.home) ∙ (sym e ∙ node_of_q)))

  number_is : next w q p ≡ number
  number_is = sym link_before.0

  server_is : next_server w q p ≡ s
  server_is = sym (link_before.1 ∙ ap (λ (k : ℕ). w.server_of p (w.node q) k) link_before.0)

  face_now : ShowsFace (took_in (engaged_by (x.face n) m) m number s) q v
  face_now = same (x.face n) (w.node p) (next w q p) (next_server w q p) m number s q v node_of_p number_is server_is (face_engage q p w v (x.face n) here undecided step)
    where
      same : (f : Face) (a b c k l r o : ℕ) (u : World) → a ≡ k → b ≡ l → c ≡ r → ShowsFace (took_in (engaged_by f a) a b c) o u → ShowsFace (took_in (engaged_by f k) k l r) o u
      same f a b c k l r o u ea eb ec i = rw (sym ea, sym eb, sym ec) i

  pub after : ShowsSight tid (sight_engaged x n m i number s rest) v
  after = record {
    stage = stage_still tid x (sight_engaged x n m i number s rest) w v (rw step.4 (record { node = refl; class = refl; home = refl; present = refl; up = refl; peer = refl })) refl refl refl refl shown.stage;
    faces = faces_around x n (took_in (engaged_by (x.face n) m) m number s) w v shown.stage.small n_in shown.faces face_now (λ k g apart is. engage_other q p k w v g apart is step);
    links = links_around x m i n (x.inc n) rest w v shown.stage.small m_in n_in shown.links (λ _ _. still rest (record (link w p q) { received = w.received q p + 1 }) (link v p q) (engage_took q p w v step) link_before.2) (λ a b apart. engage_stays q p a b w v apart step);
    unmet = λ a b a_in b_in a_up none. still (x.unmet a b) (waiting_link w (place a (x.inc a)) b) (waiting_link v (place a (x.inc a)) b) (engage_waiting q p (place a (x.inc a)) b w v step) (shown.unmet a b a_in b_in a_up none);
    logs = λ k k_in. log_still tid k (x.found k) w v (rw step.4 (record { prepared = refl; commit_logged = refl; unended = refl; commit_list = refl })) (shown.logs k k_in);
  }

  pub leads : Leads w v
  leads = record { events = Engage q p ∷ []; run = (v, step, refl) }
