-- A Covered or VotedYes is counted: what the machine makes of it, over all that is seen.
use Rattle.qs_world_refine.proofs.Words.{◌≡◌, ℕ, ◌+◌, ◌<◌, ◌≤◌, ◌==◌, Bool, true, max, List, [], ◌∷◌, arith, refl, sym, ◌∙◌, subst, if◌then◌else◌, nat_tests, NodeNo, Tid, Open, Count, Leads, names_node, node_no, Said, Closed, link, IsLink, waiting_link, Sight, ShowsSight, place, known_place, Face, ShowsFace}
use Rattle.qs_world_agree.specs.World.{World, with_at, with_at2}
use Rattle.qs_world_agree.specs.Step.{Step}
use Rattle.qs_world_refine.specs.Seen.{counted, sight_counted}
use Rattle.qs_world_refine.proofs.Same.{same_place}
use Rattle.qs_world_refine.proofs.CountFaces.{face_count, face_count_other}
use Rattle.qs_world_refine.proofs.Streams.{Stays, still, within}
use Rattle.qs_world_refine.proofs.Still.{SameStage, stage_still, SameLogs, log_still, at_four, at_one}

-- ---- links

pub stays_count : (p q a b : ℕ) (w v : World) → (a ≡ q → b ≡ p → ⊥) → Step (Count p q) w v → Stays (link w a b) (link v a b)
stays_count p q a b w v other s = record { carries = grind (arith, nat_tests, other, s); posted = grind (arith, s); closers = grind (arith, s); inquiry_put = grind (arith, s) }

pub stays_counted : (p q : ℕ) (w v : World) → Step (Count p q) w v → Stays (record (link w q p) { taken = w.closers_taken p q + 1 }) (link v q p)
stays_counted p q w v s = record { carries = grind (arith, nat_tests, s); posted = grind (arith, s); closers = grind (arith, s); inquiry_put = grind (arith, s) }

pub stays_waiting : (p q a m : ℕ) (w v : World) → Step (Count p q) w v → Stays (waiting_link w a m) (waiting_link v a m)
stays_waiting p q a m w v s = record { carries = grind (arith, nat_tests, s); posted = grind (arith, s); closers = grind (arith, s); inquiry_put = grind (arith, s) }

same_stage : (p q : ℕ) (w v : World) → Step (Count p q) w v → SameStage w v
same_stage p q w v s = rw s.3 (record { node = refl; class = refl; home = refl; present = refl; up = refl; peer = refl })

same_logs : (p q : ℕ) (w v : World) → Step (Count p q) w v → SameLogs w v
same_logs p q w v s = rw s.3 (record { prepared = refl; commit_logged = refl; unended = refl; commit_list = refl })

-- ---- the world that it leads to

abbrev pub after_count : ℕ → ℕ → World → World
after_count p q old = record old {
  closers_taken = with_at2 old.closers_taken p q (old.closers_taken p q + 1);
  covered = with_at2 old.covered p (old.node q) (max (old.covered p (old.node q)) (old.closer q p (old.closers_taken p q + 1)));
  told_set = with_at old.told_set p (λ n. if old.told_set p n then true else old.closer_set q p (old.closers_taken p q + 1) n);
  way = λ n. if old.holder n == p then (if old.sender n == q then (if old.index n == old.closers_taken p q + 1 then Rattle.qs_world_agree.specs.Guards.landed (old.way n) else old.way n) else old.way n) else old.way n;
}

module _ (tid : Tid) (x : Sight) (w : World) (n m i number : ℕ) (told : List NodeNo) (rest : List Said)
    (shown : ShowsSight tid x w) (n_in : n < x.size) (m_in : m < x.size) (is_up : x.up n ≡ true) (knows : x.knows n m ≡ i) (some : 1 ≤ i)
    (head : x.said m i n (x.inc n) ≡ Closed number told ∷ rest) (undecided : (x.face n).outcome ≡ Open) where
  abbrev pub p : ℕ
  p = place n (x.inc n)

  abbrev pub q : ℕ
  q = place m i

  link_before : IsLink (link w q p) (Closed number told ∷ rest)
  link_before = subst (λ (l : List Said). IsLink (link w q p) l) head (shown.links m i n (x.inc n) m_in n_in is_up refl)

  node_of_q : w.node q ≡ m
  node_of_q = shown.stage.nodes m i m_in

  peer_is : w.peer p (w.node q) ≡ q
  peer_is = rw node_of_q (shown.stage.peers n m n_in m_in is_up ∙ known i knows some)
    where
      known : (i : ℕ) → x.knows n m ≡ i → 1 ≤ i → known_place m (x.knows n m) ≡ place m i
      known i is some = rw is (grind (arith, nat_tests, some))

  more : w.closers_taken p q < w.closers q p
  more = omega (arith, (within rest (record (link w q p) { taken = w.closers_taken p q + 1 }) link_before.2).closers)

  step : Step (Count p q) w (after_count p q w)
  step = ((shown.faces n n_in is_up).up, peer_is, more, refl)

  number_is : w.closer q p (w.closers_taken p q + 1) ≡ number
  number_is = sym link_before.0

  alike : (f : Face) → ShowsFace (counted f (w.node q) (w.closer q p (w.closers_taken p q + 1)) (w.closer_set q p (w.closers_taken p q + 1))) p (after_count p q w) → ShowsFace (counted f m number (λ k. names_node told (node_no k))) p (after_count p q w)
  alike f i = same f (w.node q) (w.closer q p (w.closers_taken p q + 1)) (w.closer_set q p (w.closers_taken p q + 1)) node_of_q number_is link_before.1 (after_count p q w) i
    where
      same : (f : Face) (a b : ℕ) (t : ℕ → Bool) → a ≡ m → b ≡ number → ((k : ℕ) → t k ≡ names_node told (node_no k)) → (v : World) → ShowsFace (counted f a b t) p v → ShowsFace (counted f m number (λ k. names_node told (node_no k))) p v
      same f a b t ea eb et v i = grind (arith, nat_tests, ea, eb, et, i)

  pub after : ShowsSight tid (sight_counted x n m i number (λ k. names_node told (node_no k)) rest) (after_count p q w)
  after = record {
    stage = stage_still tid x (sight_counted x n m i number (λ k. names_node told (node_no k)) rest) w (after_count p q w) (same_stage p q w (after_count p q w) step) refl refl refl refl shown.stage;
    faces = λ k k_in k_up. at_one (λ (k : ℕ) (f : Face). k < x.size → x.up k ≡ true → ShowsFace f (place k (x.inc k)) (after_count p q w)) x.face n _
        (λ _ _. alike (x.face n) (face_count p q w (after_count p q w) (x.face n) (shown.faces n n_in is_up) undecided step))
        k (λ other k_in k_up. face_count_other p q (place k (x.inc k)) w (after_count p q w) (x.face k) (λ e. other (same_place k n (x.inc k) (x.inc n) (omega (arith, k_in, shown.stage.small)) (omega (arith, n_in, shown.stage.small)) e).0) (shown.faces k k_in k_up) step) k_in k_up;
    links = λ a k b l a_in b_in b_up now. at_four (λ (a k b l : ℕ) (s : List Said). a < x.size → b < x.size → x.up b ≡ true → l ≡ x.inc b → IsLink (link (after_count p q w) (place a k) (place b l)) s) x.said m i n (x.inc n) rest
        (λ _ _ _ _. still rest (record (link w q p) { taken = w.closers_taken p q + 1 }) (link (after_count p q w) q p) (stays_counted p q w (after_count p q w) step) link_before.2)
        a k b l
        (λ other a_in b_in b_up now. still (x.said a k b l) (link w (place a k) (place b l)) (link (after_count p q w) (place a k) (place b l))
        (stays_count p q (place a k) (place b l) w (after_count p q w) (λ e d.
        let first = same_place a m k i (omega (arith, a_in, shown.stage.small)) (omega (arith, m_in, shown.stage.small)) e in
        let second = same_place b n l (x.inc n) (omega (arith, b_in, shown.stage.small)) (omega (arith, n_in, shown.stage.small)) d in
        other first.0 first.1 second.0 second.1) step)
        (shown.links a k b l a_in b_in b_up now))
        a_in b_in b_up now;
    unmet = λ a b a_in b_in a_up none. still (x.unmet a b) (waiting_link w (place a (x.inc a)) b) (waiting_link (after_count p q w) (place a (x.inc a)) b) (stays_waiting p q (place a (x.inc a)) b w (after_count p q w) step) (shown.unmet a b a_in b_in a_up none);
    logs = λ k k_in. log_still tid k (x.found k) w (after_count p q w) (same_logs p q w (after_count p q w) step) (shown.logs k k_in);
  }

  pub leads : Leads w (after_count p q w)
  leads = record { events = Count p q ∷ []; run = (after_count p q w, step, refl) }
