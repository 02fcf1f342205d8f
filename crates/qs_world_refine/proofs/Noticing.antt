-- A node learns that another one restarted: Notice.
use Rattle.qs_world_refine.proofs.Words.{◌≡◌, ◌≢◌, ℕ, ◌+◌, ◌*◌, ◌<◌, ◌≤◌, ◌==◌, ◌&&◌, Bool, true, false, [], ◌∷◌, arith, refl, sym, ◌∙◌, ap, if◌then◌else◌, eqb-true, nat_tests, Tid, Open, Leads, place, known_place, Face, ShowsFace, link, IsLink, IsEmpty, waiting_link, Sight, ShowsSight}
use Rattle.qs_world_agree.specs.World.{World, with_at, with_at2}
use Rattle.qs_world_agree.specs.Step.{Step, Notice}
use Rattle.qs_world_refine.specs.Seen.{sight_noticed}
use Rattle.qs_world_refine.proofs.Same.{same_place}
use Rattle.qs_world_refine.proofs.EventFaces.{Knows, face_notice}
use Rattle.qs_world_refine.proofs.Streams.{Stays, still}
use Rattle.qs_world_refine.proofs.Still.{log_still}
use Rattle.qs_world_refine.proofs.Around.{faces_around, known_is}

abbrev pub after_notice : ℕ → ℕ → World → World
after_notice p q old = record old {
  peer = with_at2 old.peer p (old.node q) q;
  posted = with_at2 old.posted p q (old.sent p (old.node q));
  received = with_at2 old.received q p (old.sent p (old.node q));
  inquiry_put = with_at2 old.inquiry_put p q (old.inquiries p);
  inquiry_taken = with_at2 old.inquiry_taken q p (old.inquiries p);
  gone = if old.covered p (old.node q) == old.sent p (old.node q) then old.gone else with_at old.gone p true;
}

notice_stays : (p q a b : ℕ) (w v : World) → (a ≡ p → b ≡ q → ⊥) → Step (Notice p q) w v → Stays (link w a b) (link v a b)
notice_stays p q a b w v other s = record { carries = grind (arith, nat_tests, other, s); posted = grind (arith, nat_tests, other, s); closers = grind (arith, s); inquiry_put = grind (arith, nat_tests, other, s) }

notice_waiting : (p q a b : ℕ) (w v : World) → Step (Notice p q) w v → Stays (waiting_link w a b) (waiting_link v a b)
notice_waiting p q a b w v s = record { carries = grind (arith, s); posted = grind (arith, s); closers = grind (arith, s); inquiry_put = grind (arith, s) }

notice_new : (p q : ℕ) (w v : World) → IsEmpty (link w p q) → w.up p ≡ true → Step (Notice p q) w v → IsEmpty (link v p q)
notice_new p q w v before up s = grind (arith, nat_tests, before, up, s)

notice_other : (p q k : ℕ) (w v : World) (f : Face) → k ≢ p → ShowsFace f k w → Step (Notice p q) w v → ShowsFace f k v
notice_other p q k w v f other i s = grind (arith, nat_tests, other, i, s)

module _ (tid : Tid) (x : Sight) (w : World) (n m i new : ℕ) (blocked : Bool)
    (shown : ShowsSight tid x w) (n_in : n < x.size) (m_in : m < x.size) (other : m ≢ n) (is_up : x.up n ≡ true) (knows : x.knows n m ≡ i) (some : 1 ≤ i) (later : i < new) (begun : new ≤ x.inc m)
    (nothing : x.said n (x.inc n) m new ≡ [])
    (owed : (x.face n).outcome ≡ Open → blocked ≡ false → ((x.face n).blocked ≡ false) × (w.covered (place n (x.inc n)) m ≡ (x.face n).sent m))
    (known : Knows w (place n (x.inc n))) where
  abbrev pub p : ℕ
  p = place n (x.inc n)

  abbrev pub q : ℕ
  q = place m new

  abbrev pub v : World
  v = after_notice p q w

  here : ShowsFace (x.face n) p w
  here = shown.faces n n_in is_up

  node_p : w.node p ≡ n
  node_p = shown.stage.nodes n (x.inc n) n_in

  node_q : w.node q ≡ m
  node_q = shown.stage.nodes m new m_in

  peer_is : w.peer p m ≡ place m i
  peer_is = shown.stage.peers n m n_in m_in is_up ∙ rw knows (known_is m i some)

  step : Step (Notice p q) w v
  step = (here.up, (λ e. other (sym node_q ∙ (e ∙ node_p))), met (rw (sym node_q) at peer_is), newer (rw (sym node_q) at peer_is), no_later, refl)
    where
      met : w.peer p (w.node q) ≡ place (w.node q) i → w.peer p (w.node q) ≢ 0
      met e = λ z. let both : 256 * i + w.node q ≡ 0 = sym e ∙ z in omega (arith, both, some)

      newer : w.peer p (w.node q) ≡ place (w.node q) i → w.peer p (w.node q) < q
      newer e = less (w.peer p (w.node q)) (w.node q) e node_q
        where
          less : (a b : ℕ) → a ≡ place b i → b ≡ m → a < place m new
          less a b e d = omega (arith, e, d, later)

      no_later : q ≤ w.present (w.node q)
      no_later = below (w.present (w.node q)) (ap w.present node_q ∙ shown.stage.present m m_in)
        where
          below : (a : ℕ) → a ≡ place m (x.inc m) → q ≤ a
          below a e = omega (arith, e, begun)

  face_now : ShowsFace (record (x.face n) { last = with_at (x.face n).last m 0; blocked = blocked }) p v
  face_now = same (x.face n) (w.node q) m p v node_q (face_notice p q w v (x.face n) blocked here settled known step)
    where
      same : (f : Face) (a b o : ℕ) (u : World) → a ≡ b → ShowsFace (record f { last = with_at f.last a 0; blocked = blocked }) o u → ShowsFace (record f { last = with_at f.last b 0; blocked = blocked }) o u
      same f a b o u e i = rw (sym e) i

      settled : (x.face n).outcome ≡ Open → blocked ≡ false → ((x.face n).blocked ≡ false) × (w.covered p (w.node q) ≡ w.sent p (w.node q))
      settled undecided free = let o = owed undecided free in (o.0, ap (w.covered p) node_q ∙ (o.1 ∙ sym (here.sent (λ is. cc (is, undecided)) m)) ∙ ap (w.sent p) (sym node_q))

  links_after : (a k b l : ℕ) → a < x.size → b < x.size → x.up b ≡ true → l ≡ x.inc b → IsLink (link v (place a k) (place b l)) (x.said a k b l)
  links_after a k b l a_in b_in b_up now = by (a == n) (k == x.inc n) (b == m) (l == new) refl refl refl refl
    where
      els : (a ≡ n → k ≡ x.inc n → b ≡ m → l ≡ new → ⊥) → IsLink (link v (place a k) (place b l)) (x.said a k b l)
      els differ = still (x.said a k b l) (link w (place a k) (place b l)) (link v (place a k) (place b l))
          (notice_stays p q (place a k) (place b l) w v (λ e d.
          let first = same_place a n k (x.inc n) (omega (arith, a_in, shown.stage.small)) (omega (arith, n_in, shown.stage.small)) e in
          let second = same_place b m l new (omega (arith, b_in, shown.stage.small)) (omega (arith, m_in, shown.stage.small)) d in
          differ first.0 first.1 second.0 second.1) step)
          (shown.links a k b l a_in b_in b_up now)

      empty_before : IsLink (link w (place a k) (place b l)) (x.said a k b l)
      empty_before = shown.links a k b l a_in b_in b_up now

      by : (c d e f : Bool) → (a == n) ≡ c → (k == x.inc n) ≡ d → (b == m) ≡ e → (l == new) ≡ f → IsLink (link v (place a k) (place b l)) (x.said a k b l)
      by true true true true ec ed ee ef =
          let is_a : a ≡ n = eqb-true a n ec in
          let is_k : k ≡ x.inc n = eqb-true k (x.inc n) ed in
          let is_b : b ≡ m = eqb-true b m ee in
          let is_l : l ≡ new = eqb-true l new ef in
          rw (is_a, is_k, is_b, is_l, nothing) (notice_new p q w v (rw (is_a, is_k, is_b, is_l, nothing) at empty_before) here.up step)
      by false d e f ec ed ee ef = els (λ is _ _ _. grind (arith, nat_tests, ec, is))
      by true false e f ec ed ee ef = els (λ _ is _ _. grind (arith, nat_tests, ed, is))
      by true true false f ec ed ee ef = els (λ _ _ is _. grind (arith, nat_tests, ee, is))
      by true true true false ec ed ee ef = els (λ _ _ _ is. grind (arith, nat_tests, ef, is))

  peers_after : (a b : ℕ) → a < x.size → b < x.size → x.up a ≡ true → v.peer (place a (x.inc a)) b ≡ known_place b (if (a == n) && (b == m) then new else x.knows a b)
  peers_after a b a_in b_in a_up = by (a == n) (b == m) refl refl
    where
      els : (a ≡ n → b ≡ m → ⊥) → v.peer (place a (x.inc a)) b ≡ known_place b (x.knows a b)
      els differ = unchanged (place a (x.inc a)) p b (w.node q) (λ e d. differ (same_place a n (x.inc a) (x.inc n) (omega (arith, a_in, shown.stage.small)) (omega (arith, n_in, shown.stage.small)) e).0 (d ∙ node_q)) ∙ shown.stage.peers a b a_in b_in a_up
        where
          unchanged : (c d e f : ℕ) → (c ≡ d → e ≡ f → ⊥) → with_at2 w.peer d f q c e ≡ w.peer c e
          unchanged c d e f differ = grind (arith, nat_tests, differ)

      by : (c d : Bool) → (a == n) ≡ c → (b == m) ≡ d → v.peer (place a (x.inc a)) b ≡ known_place b (if c && d then new else x.knows a b)
      by true true ec ed = let is_a : a ≡ n = eqb-true a n ec in let is_b : b ≡ m = eqb-true b m ed in rw (is_a, is_b) (changed p m (w.node q) node_q ∙ sym (known_is m new (omega (arith, later))))
        where
          changed : (c e f : ℕ) → f ≡ e → with_at2 w.peer c f q c e ≡ q
          changed c e f is = grind (arith, nat_tests, is)
      by false d ec ed = els (λ is _. grind (arith, nat_tests, ec, is))
      by true false ec ed = els (λ _ is. grind (arith, nat_tests, ed, is))

  pub after : ShowsSight tid (sight_noticed x n m new blocked) v
  after = record {
    stage = record { small = shown.stage.small; numbered = shown.stage.numbered; home = shown.stage.home; nodes = shown.stage.nodes; classes = shown.stage.classes; present = shown.stage.present; up = shown.stage.up; peers = peers_after };
    faces = faces_around x n (record (x.face n) { last = with_at (x.face n).last m 0; blocked = blocked }) w v shown.stage.small n_in shown.faces face_now (λ k g apart is. notice_other p q k w v g apart is step);
    links = links_after;
    unmet = λ a b a_in b_in a_up none. still (x.unmet a b) (waiting_link w (place a (x.inc a)) b) (waiting_link v (place a (x.inc a)) b) (notice_waiting p q (place a (x.inc a)) b w v step) (shown.unmet a b a_in b_in a_up (unknown a b none));
    logs = λ k k_in. log_still tid k (x.found k) w v (record { prepared = refl; commit_logged = refl; unended = refl; commit_list = refl }) (shown.logs k k_in);
  }
    where
      unknown : (a b : ℕ) → (if (a == n) && (b == m) then new else x.knows a b) ≡ 0 → x.knows a b ≡ 0
      unknown a b none = by ((a == n) && (b == m)) none
        where
          by : (t : Bool) → (if t then new else x.knows a b) ≡ 0 → x.knows a b ≡ 0
          by true e = absurd (omega (arith, e, later))
          by false e = e

  pub leads : Leads w v
  leads = record { events = Notice p q ∷ []; run = (v, step, refl) }
