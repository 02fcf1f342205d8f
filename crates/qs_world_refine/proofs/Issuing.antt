-- A request goes to another node, a place of which is known: Issue.
use Rattle.qs_world_refine.proofs.Words.{◌≡◌, ◌≢◌, ◌⊎◌, inl, inr, ℕ, ◌+◌, ◌<◌, ◌≤◌, true, [], ◌∷◌, ◌++◌, arith, refl, sym, ◌∙◌, ap, nat_tests, Tid, Committed, with_at3, held, held_at, Issue, Leads, Sight, ShowsSight, place, Face, ShowsFace, Requested, link, IsLink, waiting_link}
use Rattle.qs_world_agree.specs.World.{World, with_at, with_at2}
use Rattle.qs_world_agree.specs.Step.{Step}
use Rattle.qs_world_refine.specs.Seen.{sight_issued}
use Rattle.qs_world_refine.proofs.Same.{same_place}
use Rattle.qs_world_refine.proofs.EventFaces.{face_issue}
use Rattle.qs_world_refine.proofs.Streams.{Stays, Carries, still, behind, ended}
use Rattle.qs_world_refine.proofs.Still.{SameStage, stage_still, SameLogs, log_still}
use Rattle.qs_world_refine.proofs.Around.{faces_around, links_around, known_is}

abbrev pub after_issue : ℕ → ℕ → ℕ → World → World
after_issue p m s old = record old {
  sent = with_at2 old.sent p m (old.sent p m + 1);
  server_of = with_at3 old.server_of p m (old.sent p m + 1) s;
  posted = with_at2 old.posted p (old.peer p m) (old.sent p m + 1);
  involved = with_at old.involved p true;
  way = with_at old.way (old.node p) (held (old.way (old.node p)));
  holder = with_at old.holder (old.node p) (held_at (old.way (old.node p)) p (old.holder (old.node p)));
}

pub issue_other : (p m s k : ℕ) (w v : World) (f : Face) → k ≢ p → ShowsFace f k w → Step (Issue p m s) w v → ShowsFace f k v
issue_other p m s k w v f other i step = grind (arith, nat_tests, other, i, step)

-- what was put before is no more than was sent
abbrev pub Posted : World → Type 0
Posted w = (p q : ℕ) → w.posted p q ≤ w.sent p (w.node q)

stays_issue : (p m s a b : ℕ) (w v : World) → Posted w → (a ≡ p → b ≡ w.peer p m → ⊥) → Step (Issue p m s) w v → Stays (link w a b) (link v a b)
stays_issue p m s a b w v below other step = record {
  carries = record {
    live = grind (arith, step);
    received = grind (arith, step);
    taken = grind (arith, step);
    to_home = grind (arith, nat_tests, step);
    inquiry_taken = grind (arith, step);
    server = λ k in_posted. grind (arith, nat_tests, below a b, in_posted, step);
    closer = grind (arith, step);
    closer_set = grind (arith, step);
    tell_commit = grind (arith, step);
    tell_abort = grind (arith, step);
    ack_put = grind (arith, step);
    aborted = grind (arith, step);
    named = grind (arith, step);
  };
  posted = grind (arith, nat_tests, other, step);
  closers = grind (arith, step);
  inquiry_put = grind (arith, step);
}

carries_issue : (p m s b : ℕ) (w v : World) → Posted w → Step (Issue p m s) w v → Carries (link w p b) (link v p b)
carries_issue p m s b w v below step = record {
  live = grind (arith, step);
  received = grind (arith, step);
  taken = grind (arith, step);
  to_home = grind (arith, nat_tests, step);
  inquiry_taken = grind (arith, step);
  server = λ k in_posted. grind (arith, nat_tests, below p b, in_posted, step);
  closer = grind (arith, step);
  closer_set = grind (arith, step);
  tell_commit = grind (arith, step);
  tell_abort = grind (arith, step);
  ack_put = grind (arith, step);
  aborted = grind (arith, step);
  named = grind (arith, step);
}

-- the one that is put
next_issue : (p m s q number : ℕ) (w v : World) → w.node q ≡ m → w.peer p m ≡ q → w.posted p q ≡ w.sent p m → number ≡ w.sent p m + 1 → Step (Issue p m s) w v
    → IsLink (ended (link w p q) (link v p q)) (Requested number s ∷ [])
next_issue p m s q number w v at known all is step = (
  grind (arith, all, is),
  grind (arith, nat_tests, at, is, step),
  record {
    requests = grind (arith, nat_tests, known, all, is, step);
    closers = grind (arith, step);
    inquiries = grind (arith, step);
    all_requests = grind (arith, nat_tests, known, all, is, step);
    all_closers = grind (arith, step);
    all_inquiries = grind (arith, step);
  },
)

stays_waiting : (p m s a b : ℕ) (w v : World) → (a ≡ p → b ≡ m → ⊥) → Step (Issue p m s) w v → Stays (waiting_link w a b) (waiting_link v a b)
stays_waiting p m s a b w v other step = record { carries = grind (arith, nat_tests, other, step); posted = grind (arith, nat_tests, other, step); closers = grind (arith, step); inquiry_put = grind (arith, step) }

same_stage : (p m s : ℕ) (w v : World) → Step (Issue p m s) w v → SameStage w v
same_stage p m s w v step = rw step.3 (record { node = refl; class = refl; home = refl; present = refl; up = refl; peer = refl })

same_logs : (p m s : ℕ) (w v : World) → Step (Issue p m s) w v → SameLogs w v
same_logs p m s w v step = rw step.3 (record { prepared = refl; commit_logged = refl; unended = refl; commit_list = refl })

module _ (tid : Tid) (x : Sight) (w : World) (n m i s : ℕ)
    (shown : ShowsSight tid x w) (n_in : n < x.size) (m_in : m < x.size) (other : m ≢ n) (is_up : x.up n ≡ true) (knows : x.knows n m ≡ i) (some : 1 ≤ i)
    (may : ((x.face n).on ≡ true) ⊎ (1 ≤ w.loans (place n (x.inc n))))
    (running : (x.face n).outcome ≢ Committed) (below : Posted w) (all : w.posted (place n (x.inc n)) (place m i) ≡ w.sent (place n (x.inc n)) m) where
  abbrev pub p : ℕ
  p = place n (x.inc n)

  abbrev pub v : World
  v = after_issue p m s w

  here : ShowsFace (x.face n) p w
  here = shown.faces n n_in is_up

  peer_is : w.peer p m ≡ place m i
  peer_is = shown.stage.peers n m n_in m_in is_up ∙ rw knows (known_is m i some)

  step : Step (Issue p m s) w v
  step = ((here.up, may_issue may), (λ e. other (rw (shown.stage.nodes n (x.inc n) n_in) at e)), (λ e. none (rw peer_is at e)), refl)
    where
      may_issue : ((x.face n).on ≡ true) ⊎ (1 ≤ w.loans p) → (w.engaged p ≡ true) ⊎ (1 ≤ w.loans p)
      may_issue (inl on) = inl (here.engaged ∙ on)
      may_issue (inr lent) = inr lent

      none : place m i ≡ 0 → ⊥
      none e = omega (arith, e, some)

  new_link : x.up m ≡ true → i ≡ x.inc m → IsLink (link v p (place m i)) (x.said n (x.inc n) m i ++ Requested ((x.face n).sent m + 1) s ∷ [])
  new_link m_up now = behind (x.said n (x.inc n) m i) (Requested ((x.face n).sent m + 1) s ∷ []) (link w p (place m i)) (link v p (place m i)) (carries_issue p m s (place m i) w v below step) here.up
      (shown.links n (x.inc n) m i n_in m_in m_up now)
      (next_issue p m s (place m i) ((x.face n).sent m + 1) w v (shown.stage.nodes m i m_in) peer_is all (ap (λ (k : ℕ). k + 1) (sym (here.sent running m))) step)

  pub after : ShowsSight tid (sight_issued x n m i s) v
  after = record {
    stage = stage_still tid x (sight_issued x n m i s) w v (same_stage p m s w v step) refl refl refl refl shown.stage;
    faces = faces_around x n (record (x.face n) { sent = with_at (x.face n).sent m ((x.face n).sent m + 1); involved = true }) w v shown.stage.small n_in shown.faces (face_issue p m s w v (x.face n) here step) (λ k g apart is. issue_other p m s k w v g apart is step);
    links = links_around x n (x.inc n) m i (x.said n (x.inc n) m i ++ Requested ((x.face n).sent m + 1) s ∷ []) w v shown.stage.small n_in m_in shown.links new_link (λ a b apart. stays_issue p m s a b w v below (rw peer_is apart) step);
    unmet = λ a b a_in b_in a_up none. still (x.unmet a b) (waiting_link w (place a (x.inc a)) b) (waiting_link v (place a (x.inc a)) b)
        (stays_waiting p m s (place a (x.inc a)) b w v (λ e d. met a b e d a_in none) step) (shown.unmet a b a_in b_in a_up none);
    logs = λ k k_in. log_still tid k (x.found k) w v (same_logs p m s w v step) (shown.logs k k_in);
  }
    where
      met : (a b : ℕ) → place a (x.inc a) ≡ p → b ≡ m → a < x.size → x.knows a b ≡ 0 → ⊥
      met a b e d a_in none =
          let same : a ≡ n = (same_place a n (x.inc a) (x.inc n) (omega (arith, a_in, shown.stage.small)) (omega (arith, n_in, shown.stage.small)) e).0 in
          let zero_is : i ≡ 0 = sym knows ∙ (rw (same, d) at none) in omega (arith, zero_is, some)

  pub leads : Leads w v
  leads = record { events = Issue p m s ∷ []; run = (v, step, refl) }
