-- Events that put messages on one link, and Tell as the first of them.
use Rattle.qs_world_refine.proofs.Words.{◌≡◌, ◌≢◌, ℕ, ◌<◌, ◌==◌, true, List, [], ◌∷◌, ◌++◌, arith, refl, sym, ◌∙◌, subst, ap, if◌then◌else◌, nat_tests, Tid, Committed, Tell, Leads, Sight, ShowsSight, place, Face, ShowsFace, Said, Outcome_told, link, IsLink, waiting_link}
use Rattle.qs_world_agree.specs.World.{World, with_at}
use Rattle.qs_world_agree.specs.Step.{Step}
use Rattle.qs_world_refine.specs.Sights.{with_at4}
use Rattle.qs_world_refine.proofs.Streams.{Stays, Carries, still, behind, ended}
use Rattle.qs_world_refine.proofs.Still.{SameStage, stage_still, SameLogs, log_still}
use Rattle.qs_world_refine.proofs.Around.{faces_around, links_around}

-- what an event leaves that puts something on the link from p to q
pub record Puts (p q : ℕ) (w v : World) : Type 0 where
  pub stage : SameStage w v
  pub logs : SameLogs w v
  pub links : (a b : ℕ) → (a ≡ p → b ≡ q → ⊥) → Stays (link w a b) (link v a b)
  pub waiting : (a b : ℕ) → Stays (waiting_link w a b) (waiting_link v a b)
  pub others : (k : ℕ) (f : Face) → k ≢ p → ShowsFace f k w → ShowsFace f k v
  pub carries : Carries (link w p q) (link v p q)

pub put_sight : (tid : Tid) (x : Sight) (w v : World) (n m i : ℕ) (f : Face) (more : List Said) → ShowsSight tid x w → n < x.size → m < x.size → x.up n ≡ true → Puts (place n (x.inc n)) (place m i) w v → ShowsFace f (place n (x.inc n)) v
    → IsLink (ended (link w (place n (x.inc n)) (place m i)) (link v (place n (x.inc n)) (place m i))) more
    → ShowsSight tid (record x { face = λ k. if k == n then f else x.face k; said = with_at4 x.said n (x.inc n) m i (x.said n (x.inc n) m i ++ more) }) v
put_sight tid x w v n m i f more shown n_in m_in is_up e face next = record {
  stage = stage_still tid x (record x { face = λ k. if k == n then f else x.face k; said = with_at4 x.said n (x.inc n) m i (x.said n (x.inc n) m i ++ more) }) w v e.stage refl refl refl refl shown.stage;
  faces = faces_around x n f w v shown.stage.small n_in shown.faces face e.others;
  links = links_around x n (x.inc n) m i (x.said n (x.inc n) m i ++ more) w v shown.stage.small n_in m_in shown.links
      (λ m_up now. behind (x.said n (x.inc n) m i) more (link w (place n (x.inc n)) (place m i)) (link v (place n (x.inc n)) (place m i)) e.carries (shown.faces n n_in is_up).up (shown.links n (x.inc n) m i n_in m_in m_up now) next)
      e.links;
  unmet = λ a b a_in b_in a_up none. still (x.unmet a b) (waiting_link w (place a (x.inc a)) b) (waiting_link v (place a (x.inc a)) b) (e.waiting (place a (x.inc a)) b) (shown.unmet a b a_in b_in a_up none);
  logs = λ k k_in. log_still tid k (x.found k) w v e.logs (shown.logs k k_in);
}

-- ---- Tell

abbrev pub after_tell : ℕ → World → World
after_tell m old = record old { tell_commit = with_at old.tell_commit m true }

tell_stays : (h m a b : ℕ) (w v : World) → Step (Tell h m) w v → Stays (link w a b) (link v a b)
tell_stays h m a b w v s = record { carries = grind (arith, nat_tests, s); posted = grind (arith, s); closers = grind (arith, s); inquiry_put = grind (arith, s) }

tell_waiting : (h m a b : ℕ) (w v : World) → Step (Tell h m) w v → Stays (waiting_link w a b) (waiting_link v a b)
tell_waiting h m a b w v s = record { carries = grind (arith, nat_tests, s); posted = grind (arith, s); closers = grind (arith, s); inquiry_put = grind (arith, s) }

tell_face : (h m k : ℕ) (w v : World) (f : Face) → ShowsFace f k w → Step (Tell h m) w v → ShowsFace f k v
tell_face h m k w v f i s = grind (arith, i, s)

tell_next : (h m q : ℕ) (w v : World) → w.node q ≡ m → Step (Tell h m) w v → IsLink (ended (link w h q) (link v h q)) (Outcome_told true ∷ [])
tell_next h m q w v at s = (grind (arith, nat_tests, at, s), record { requests = grind (arith, s); closers = grind (arith, s); inquiries = grind (arith, s); all_requests = grind (arith, s); all_closers = grind (arith, s); all_inquiries = grind (arith, s) })

module _ (tid : Tid) (x : Sight) (w : World) (n m i : ℕ) (shown : ShowsSight tid x w) (n_in : n < x.size) (m_in : m < x.size) (is_up : x.up n ≡ true) (knows : (x.face n).outcome ≡ Committed) (home : n ≡ tid.home.0) where
  abbrev pub h : ℕ
  h = place n (x.inc n)

  abbrev pub v : World
  v = after_tell m w

  here : ShowsFace (x.face n) h w
  here = shown.faces n n_in is_up

  step : Step (Tell h m) w v
  step = (here.up, shown.stage.nodes n (x.inc n) n_in ∙ (home ∙ sym home_node), here.outcome ∙ knows, refl)
    where
      home_node : w.node w.home ≡ tid.home.0
      home_node = ap w.node shown.stage.home ∙ shown.stage.nodes tid.home.0 tid.inc (subst (λ (k : ℕ). k < x.size) home n_in)

  pub after : ShowsSight tid (record x { face = λ k. if k == n then x.face n else x.face k; said = with_at4 x.said n (x.inc n) m i (x.said n (x.inc n) m i ++ Outcome_told true ∷ []) }) v
  after = put_sight tid x w v n m i (x.face n) (Outcome_told true ∷ []) shown n_in m_in is_up
      (record {
        stage = rw step.3 (record { node = refl; class = refl; home = refl; present = refl; up = refl; peer = refl });
        logs = rw step.3 (record { prepared = refl; commit_logged = refl; unended = refl; commit_list = refl });
        links = λ a b _. tell_stays h m a b w v step;
        waiting = λ a b. tell_waiting h m a b w v step;
        others = λ k f _ is. tell_face h m k w v f is step;
        carries = (tell_stays h m h (place m i) w v step).carries;
      })
      (tell_face h m h w v (x.face n) here step)
      (tell_next h m (place m i) w v (shown.stage.nodes m i m_in) step)

  pub leads : Leads w v
  leads = record { events = Tell h m ∷ []; run = (v, step, refl) }
