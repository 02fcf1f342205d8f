-- A node that is ready answers its superior: Yes, or Yes_lost where that one restarted.
use Rattle.qs_world_refine.proofs.Words.{◌≡◌, ◌≢◌, ℕ, ◌+◌, ◌<◌, ◌≤◌, ◌==◌, Bool, true, false, List, [], ◌∷◌, ◌++◌, arith, refl, sym, ◌∙◌, ap, if◌then◌else◌, nat_tests, NodeNo, Tid, with_at3, carried, Yes, Leads, names_node, node_no, Closed, link, IsLink, waiting_link, Sight, ShowsSight, place, Face, ShowsFace, ShowsOpen, FaceReady, sight_agreed}
use Rattle.qs_world_agree.specs.World.{World, Flight, with_at, with_at2}
use Rattle.qs_world_agree.specs.Guards.{passed, passed_to}
use Rattle.qs_world_agree.specs.Step.{Step}
use Rattle.qs_world_refine.proofs.EventFaces.{face_yes}
use Rattle.qs_world_refine.proofs.Streams.{Stays, Carries, still, behind, ended}
use Rattle.qs_world_refine.proofs.Still.{stage_still, log_still}
use Rattle.qs_world_refine.proofs.Around.{faces_around, links_around, known_is}
use Rattle.qs_world_refine.proofs.Ready.{is_ready}

abbrev pub after_yes : ℕ → World → World
after_yes q old = record old {
  engaged = with_at old.engaged q false;
  closers = with_at2 old.closers q (old.engager q) (old.closers q (old.engager q) + 1);
  closer = with_at3 old.closer q (old.engager q) (old.closers q (old.engager q) + 1) (old.last q (old.engager q));
  closer_set = with_at3 old.closer_set q (old.engager q) (old.closers q (old.engager q) + 1) (carried old q);
  way = λ n. if old.holder n == q then passed (old.way n) Flight else old.way n;
  holder = λ n. if old.holder n == q then passed_to (old.way n) (old.engager q) q else old.holder n;
  sender = λ n. if old.holder n == q then passed_to (old.way n) q (old.sender n) else old.sender n;
  index = λ n. if old.holder n == q then passed_to (old.way n) (old.closers q (old.engager q) + 1) (old.index n) else old.index n;
}

yes_stays : (q a b : ℕ) (w v : World) → (a ≡ q → b ≡ w.engager q → ⊥) → Step (Yes q) w v → Stays (link w a b) (link v a b)
yes_stays q a b w v other s = record { carries = grind (arith, nat_tests, other, s); posted = grind (arith, s); closers = grind (arith, nat_tests, other, s); inquiry_put = grind (arith, s) }

yes_carries : (q b : ℕ) (w v : World) → Step (Yes q) w v → Carries (link w q b) (link v q b)
yes_carries q b w v s = record {
  live = grind (arith, s);
  received = grind (arith, s);
  taken = grind (arith, s);
  to_home = grind (arith, nat_tests, s);
  inquiry_taken = grind (arith, s);
  server = grind (arith, s);
  closer = λ k in_put. grind (arith, nat_tests, in_put, s);
  closer_set = λ k m in_put. grind (arith, nat_tests, in_put, s);
  tell_commit = grind (arith, s);
  tell_abort = grind (arith, s);
  ack_put = grind (arith, s);
  aborted = grind (arith, s);
  named = grind (arith, s);
}

yes_next : (q p number : ℕ) (told : List NodeNo) (w v : World) → w.engager q ≡ p → number ≡ w.last q p → ((n : ℕ) → carried w q n ≡ names_node told (node_no n)) → Step (Yes q) w v → IsLink (ended (link w q p) (link v q p)) (Closed number told ∷ [])
yes_next q p number told w v by is sets s = (
  grind (arith, nat_tests, by, is, s),
  λ n. put n (sets n) ∙ sets n,
  record {
    requests = grind (arith, s);
    closers = grind (arith, nat_tests, by, s);
    inquiries = grind (arith, s);
    all_requests = grind (arith, s);
    all_closers = grind (arith, nat_tests, by, s);
    all_inquiries = grind (arith, s);
  },
)
  where
    put : (n : ℕ) → carried w q n ≡ names_node told (node_no n) → v.closer_set q p (w.closers q p + 1) n ≡ carried w q n
    put n e = rw (s.3, by) (same (carried w q) n)
      where
        same : (t : ℕ → Bool) (n : ℕ) → with_at3 w.closer_set q p (w.closers q p + 1) t q p (w.closers q p + 1) n ≡ t n
        same t n = grind (arith, nat_tests)

yes_waiting : (q a b : ℕ) (w v : World) → Step (Yes q) w v → Stays (waiting_link w a b) (waiting_link v a b)
yes_waiting q a b w v s = record { carries = grind (arith, s); posted = grind (arith, s); closers = grind (arith, s); inquiry_put = grind (arith, s) }

yes_other : (q k : ℕ) (w v : World) (f : Face) → k ≢ q → ShowsFace f k w → Step (Yes q) w v → ShowsFace f k v
yes_other q k w v f other i s = grind (arith, nat_tests, other, i, s)

module _ (tid : Tid) (x : Sight) (w : World) (n m i : ℕ) (told : List NodeNo)
    (shown : ShowsSight tid x w) (n_in : n < x.size) (m_in : m < x.size) (is_up : x.up n ≡ true) (knows : x.knows n m ≡ i) (some : 1 ≤ i)
    (away : (x.face n).is_home ≡ false) (not_home : place n (x.inc n) ≢ w.home)
    (ready : FaceReady (x.face n) (place n (x.inc n)) w) (superior : (x.face n).superior ≡ m)
    (same : w.engager (place n (x.inc n)) ≡ place m i)
    (told_is : (k : ℕ) → names_node told (node_no k) ≡ (if (x.face n).told k then true else (if k == n then (x.face n).involved else false)))
    (counts : (k : ℕ) → w.covered (place n (x.inc n)) k ≤ w.sent (place n (x.inc n)) k) where
  abbrev pub q : ℕ
  q = place n (x.inc n)

  abbrev pub v : World
  v = after_yes q w

  here : ShowsFace (x.face n) q w
  here = shown.faces n n_in is_up

  node_q : w.node q ≡ n
  node_q = shown.stage.nodes n (x.inc n) n_in

  superior_is : w.superior q ≡ m
  superior_is = here.superior ready.on away ∙ superior

  peer_is : w.peer q m ≡ place m i
  peer_is = shown.stage.peers n m n_in m_in is_up ∙ rw knows (known_is m i some)

  step : Step (Yes q) w v
  step = (not_home, is_ready (x.face n) q w counts here ready, ap (w.peer q) superior_is ∙ (peer_is ∙ sym same), refl)

  last_is : (x.face n).last m ≡ w.last q (place m i)
  last_is = at (x.face n).superior superior (here.last ready.on away)
    where
      at : (a : ℕ) → a ≡ m → w.last q (w.peer q a) ≡ (x.face n).last a → (x.face n).last m ≡ w.last q (place m i)
      at a e l = sym (rw e at l) ∙ ap (w.last q) peer_is

  carried_is : (k : ℕ) → carried w q k ≡ names_node told (node_no k)
  carried_is k = rw (open_here.told k, node_q, open_here.involved) (sym (told_is k))
    where
      open_here : ShowsOpen (x.face n) q w
      open_here = here.running ready.undecided

  new_link : x.up m ≡ true → i ≡ x.inc m → IsLink (link v q (place m i)) (x.said n (x.inc n) m i ++ Closed ((x.face n).last m) told ∷ [])
  new_link m_up now = behind (x.said n (x.inc n) m i) (Closed ((x.face n).last m) told ∷ []) (link w q (place m i)) (link v q (place m i)) (yes_carries q (place m i) w v step) here.up
      (shown.links n (x.inc n) m i n_in m_in m_up now) (yes_next q (place m i) ((x.face n).last m) told w v same last_is carried_is step)

  pub after : ShowsSight tid (sight_agreed x n m i told) v
  after = record {
    stage = stage_still tid x (sight_agreed x n m i told) w v (rw step.3 (record { node = refl; class = refl; home = refl; present = refl; up = refl; peer = refl })) refl refl refl refl shown.stage;
    faces = faces_around x n (record (x.face n) { on = false; superior = 0 }) w v shown.stage.small n_in shown.faces (face_yes q w v (x.face n) here step) (λ k g apart is. yes_other q k w v g apart is step);
    links = links_around x n (x.inc n) m i (x.said n (x.inc n) m i ++ Closed ((x.face n).last m) told ∷ []) w v shown.stage.small n_in m_in shown.links new_link (λ a b apart. yes_stays q a b w v (rw same apart) step);
    unmet = λ a b a_in b_in a_up none. still (x.unmet a b) (waiting_link w (place a (x.inc a)) b) (waiting_link v (place a (x.inc a)) b) (yes_waiting q (place a (x.inc a)) b w v step) (shown.unmet a b a_in b_in a_up none);
    logs = λ k k_in. log_still tid k (x.found k) w v (rw step.3 (record { prepared = refl; commit_logged = refl; unended = refl; commit_list = refl })) (shown.logs k k_in);
  }

  pub leads : Leads w v
  leads = record { events = Yes q ∷ []; run = (v, step, refl) }
