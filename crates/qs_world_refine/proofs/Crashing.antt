-- A node stops. What it has put may be cut to any earlier moment: a step that a crash cuts off with its batch kept is the whole step and a crash.
use Rattle.qs_world_refine.proofs.Words.{◌≡◌, ◌≢◌, ℕ, ◌+◌, ◌<◌, ◌≤◌, ◌==◌, ◌&&◌, Bool, true, false, List, [], ◌∷◌, ◌++◌, arith, refl, sym, ◌∙◌, subst, ap, if◌then◌else◌, eqb-true, nat_tests, Tid, Crash, Leads, place, Face, ShowsFace, Said, Requested, Closed, Outcome_told, Taken_in, Inquired, Link, link, IsLink, waiting_link, Sight, ShowsSight}
use Rattle.qs_world_agree.specs.World.{World, with_at}
use Rattle.qs_world_agree.specs.Step.{Step}
use Rattle.qs_world_refine.proofs.Same.{same_place}
use Rattle.qs_world_refine.proofs.Streams.{Stays, still}
use Rattle.qs_world_refine.proofs.Still.{log_still}

pub record AllWithin (l : Link) : Type 0 where
  pub requests : l.received ≤ l.posted
  pub closers : l.taken ≤ l.closers
  pub inquiries : l.to_home ≡ true → l.inquiry_taken ≤ l.inquiry_put

pub all_within : (saids : List Said) (l : Link) → IsLink l saids → AllWithin l
all_within [] l is = record { requests = is.requests; closers = is.closers; inquiries = is.inquiries }
all_within (Requested number server ∷ rest) l is = let more = all_within rest (record l { received = l.received + 1 }) is.2 in record { requests = omega (arith, more.requests); closers = more.closers; inquiries = more.inquiries }
all_within (Closed number told ∷ rest) l is = let more = all_within rest (record l { taken = l.taken + 1 }) is.2 in record { requests = more.requests; closers = omega (arith, more.closers); inquiries = more.inquiries }
all_within (Outcome_told commit ∷ rest) l is = all_within rest l is.1
all_within (Taken_in further ∷ rest) l is = all_within rest l is.1
all_within (Inquired ∷ rest) l is = let more = all_within rest (record l { inquiry_taken = l.inquiry_taken + 1 }) is in record { requests = more.requests; closers = more.closers; inquiries = λ home. let all = more.inquiries home in omega (arith, all) }

-- of a sender that does not run, a part is enough
pub cut_short : (saids more : List Said) (l : Link) → l.live ≡ false → IsLink l (saids ++ more) → IsLink l saids
cut_short [] more l dead is = let all = all_within more l is in record {
  requests = all.requests;
  closers = all.closers;
  inquiries = all.inquiries;
  all_requests = λ on. absurd (cc (on, dead));
  all_closers = λ on. absurd (cc (on, dead));
  all_inquiries = λ on _. absurd (cc (on, dead));
}
cut_short (Requested number server ∷ rest) more l dead is = (is.0, is.1, cut_short rest more (record l { received = l.received + 1 }) dead is.2)
cut_short (Closed number told ∷ rest) more l dead is = (is.0, is.1, cut_short rest more (record l { taken = l.taken + 1 }) dead is.2)
cut_short (Outcome_told commit ∷ rest) more l dead is = (is.0, cut_short rest more l dead is.1)
cut_short (Taken_in further ∷ rest) more l dead is = (is.0, cut_short rest more l dead is.1)
cut_short (Inquired ∷ rest) more l dead is = cut_short rest more (record l { inquiry_taken = l.inquiry_taken + 1 }) dead is

crash_stays : (p a b : ℕ) (w v : World) → Step (Crash p) w v → Stays (link w a b) (link v a b)
crash_stays p a b w v s = record { carries = grind (arith, nat_tests, s); posted = grind (arith, s); closers = grind (arith, s); inquiry_put = grind (arith, s) }

crash_waiting : (p a b : ℕ) (w v : World) → Step (Crash p) w v → Stays (waiting_link w a b) (waiting_link v a b)
crash_waiting p a b w v s = record { carries = grind (arith, nat_tests, s); posted = grind (arith, s); closers = grind (arith, s); inquiry_put = grind (arith, s) }

crash_other : (p k : ℕ) (w v : World) (f : Face) → k ≢ p → ShowsFace f k w → Step (Crash p) w v → ShowsFace f k v
crash_other p k w v f other i s = grind (arith, nat_tests, other, i, s)

module _ (tid : Tid) (x y : Sight) (w : World) (n : ℕ) (shown : ShowsSight tid x w) (n_in : n < x.size) (is_up : x.up n ≡ true)
    (size : y.size ≡ x.size) (inc : y.inc ≡ x.inc) (knows : (a b : ℕ) → a ≢ n → y.knows a b ≡ x.knows a b) (found : (k : ℕ) → y.found k ≡ x.found k)
    (up : (k : ℕ) → y.up k ≡ (if k == n then false else x.up k))
    (faces : (k : ℕ) → k ≢ n → y.face k ≡ x.face k) (unmet : (a b : ℕ) → a ≢ n → y.unmet a b ≡ x.unmet a b)
    (said_other : (a k b l : ℕ) → (a ≡ n → k ≡ x.inc n → ⊥) → b ≢ n → y.said a k b l ≡ x.said a k b l)
    -- what it has put is a part of what the step would have put
    (said_cut : (b l : ℕ) → b ≢ n → (more : List Said) × (x.said n (x.inc n) b l ≡ y.said n (x.inc n) b l ++ more)) where
  abbrev pub p : ℕ
  p = place n (x.inc n)

  abbrev pub v : World
  v = record w { up = with_at w.up p false }

  step : Step (Crash p) w v
  step = ((shown.faces n n_in is_up).up, refl)

  dead : v.up p ≡ false
  dead = grind (arith, nat_tests)

  apart : (k i : ℕ) → k < x.size → (k ≡ n → i ≡ x.inc n → ⊥) → place k i ≢ p
  apart k i k_in other e = let same = same_place k n i (x.inc n) (omega (arith, k_in, shown.stage.small)) (omega (arith, n_in, shown.stage.small)) e in other same.0 same.1

  -- who runs then ran before, and is not this one
  ran : (k : ℕ) → y.up k ≡ true → (k ≢ n) × (x.up k ≡ true)
  ran k on = by (k == n) refl
    where
      by : (b : Bool) → (k == n) ≡ b → (k ≢ n) × (x.up k ≡ true)
      by true e = let off : y.up k ≡ false = up k ∙ ap (λ (b : Bool). if b then false else x.up k) e in absurd (cc (off, on))
      by false e = ((λ is. grind (arith, nat_tests, e, is)), sym (up k ∙ ap (λ (b : Bool). if b then false else x.up k) e) ∙ on)

  before : (a k b l : ℕ) → a < x.size → b < x.size → x.up b ≡ true → l ≡ x.inc b → IsLink (link v (place a k) (place b l)) (x.said a k b l)
  before a k b l a_in b_in b_up now = still (x.said a k b l) (link w (place a k) (place b l)) (link v (place a k) (place b l)) (crash_stays p (place a k) (place b l) w v step) (shown.links a k b l a_in b_in b_up now)

  links_after : (a k b l : ℕ) → a < x.size → b < x.size → b ≢ n → x.up b ≡ true → l ≡ x.inc b → IsLink (link v (place a k) (place b l)) (y.said a k b l)
  links_after a k b l a_in b_in other b_up now = by (a == n) (k == x.inc n) refl refl
    where
      by : (c d : Bool) → (a == n) ≡ c → (k == x.inc n) ≡ d → IsLink (link v (place a k) (place b l)) (y.said a k b l)
      by true true ec ed =
          let part = said_cut b l other in
          let is_a : a ≡ n = eqb-true a n ec in
          let is_k : k ≡ x.inc n = eqb-true k (x.inc n) ed in
          rw (is_a, is_k) (cut_short (y.said n (x.inc n) b l) part.0 (link v p (place b l)) dead (subst (λ (s : List Said). IsLink (link v p (place b l)) s) part.1 (before n (x.inc n) b l n_in b_in b_up now)))
      by false d ec ed = rw (said_other a k b l (λ is _. grind (arith, nat_tests, ec, is)) other) (before a k b l a_in b_in b_up now)
      by true false ec ed = rw (said_other a k b l (λ _ is. grind (arith, nat_tests, ed, is)) other) (before a k b l a_in b_in b_up now)

  pub after : ShowsSight tid y v
  after = record {
    stage = record {
      small = rw size shown.stage.small;
      numbered = shown.stage.numbered;
      home = shown.stage.home;
      nodes = λ k i k_in. shown.stage.nodes k i (rw size at k_in);
      classes = shown.stage.classes;
      present = λ k k_in. rw inc (shown.stage.present k (rw size at k_in));
      up = λ k i k_in. rw (inc, up k) (up_now k i (rw size at k_in) (shown.stage.up k i (rw size at k_in)));
      peers = λ k m k_in m_in k_up. let was = ran k k_up in rw (inc, knows k m was.0) (shown.stage.peers k m (rw size at k_in) (rw size at m_in) was.1);
    };
    faces = λ k k_in k_up. let was = ran k k_up in rw (inc, faces k was.0) (crash_other p (place k (x.inc k)) w v (x.face k) (apart k (x.inc k) (rw size at k_in) (λ is _. was.0 is)) (shown.faces k (rw size at k_in) was.1) step);
    links = λ a k b l a_in b_in b_up now. let was = ran b b_up in links_after a k b l (rw size at a_in) (rw size at b_in) was.0 was.1 (rw inc at now);
    unmet = λ a b a_in b_in a_up none. let was = ran a a_up in rw (unmet a b was.0, inc) (still (x.unmet a b) (waiting_link w (place a (x.inc a)) b) (waiting_link v (place a (x.inc a)) b) (crash_waiting p (place a (x.inc a)) b w v step) (shown.unmet a b (rw size at a_in) (rw size at b_in) was.1 (sym (knows a b was.0) ∙ none)));
    logs = λ k k_in. rw (found k) (log_still tid k (x.found k) w v (record { prepared = refl; commit_logged = refl; unended = refl; commit_list = refl }) (shown.logs k (rw size at k_in)));
  }
    where
      up_now : (k i : ℕ) → k < x.size → w.up (place k i) ≡ (x.up k && (i == x.inc k)) → with_at w.up p false (place k i) ≡ ((if k == n then false else x.up k) && (i == x.inc k))
      up_now k i k_in was = by (k == n) (i == x.inc k) refl refl
        where
          by : (c d : Bool) → (k == n) ≡ c → (i == x.inc k) ≡ d → with_at w.up p false (place k i) ≡ ((if c then false else x.up k) && d)
          by true true ec ed = let is_k : k ≡ n = eqb-true k n ec in let is_i : i ≡ x.inc n = eqb-true i (x.inc k) ed ∙ ap x.inc is_k in rw (is_k, is_i) dead
          by true false ec ed = kept (λ e. let same = same_place k n i (x.inc n) (omega (arith, k_in, shown.stage.small)) (omega (arith, n_in, shown.stage.small)) e in differs same.0 same.1 ed) (was ∙ off (x.up k) ed)
            where
              differs : k ≡ n → i ≡ x.inc n → (i == x.inc k) ≡ false → ⊥
              differs a b e = let c : i ≡ x.inc k = b ∙ ap x.inc (sym a) in grind (arith, nat_tests, c, e)

              off : (u : Bool) → (i == x.inc k) ≡ false → (u && (i == x.inc k)) ≡ false
              off true e = e
              off false e = refl

              kept : (place k i ≡ p → ⊥) → w.up (place k i) ≡ false → with_at w.up p false (place k i) ≡ false
              kept other e = grind (arith, nat_tests, e)
          by false d ec ed = kept (λ e. let same = same_place k n i (x.inc n) (omega (arith, k_in, shown.stage.small)) (omega (arith, n_in, shown.stage.small)) e in differs same.0 ec) (was ∙ ap (λ (d : Bool). x.up k && d) ed)
            where
              differs : k ≡ n → (k == n) ≡ false → ⊥
              differs a e = grind (arith, nat_tests, a, e)

              kept : (place k i ≡ p → ⊥) → w.up (place k i) ≡ (x.up k && d) → with_at w.up p false (place k i) ≡ (x.up k && d)
              kept other e = other_place (place k i) p other ∙ e
                where
                  other_place : (a b : ℕ) → (a ≡ b → ⊥) → with_at w.up b false a ≡ w.up a
                  other_place a b other = grind (arith, nat_tests, other)

  pub leads : Leads w v
  leads = record { events = Crash p ∷ []; run = (v, step, refl) }
