-- Events that change the face of one place alone: Serve, Serve_told and Lend, and others like them.
use Rattle.qs_world_refine.proofs.Words.{◌≡◌, ◌≢◌, ◌⊎◌, ℕ, ◌+◌, ◌<◌, ◌==◌, true, [], ◌∷◌, arith, refl, ◌∙◌, ap, if◌then◌else◌, nat_tests, Tid, class_of, Open, Aborted, Votes, held, held_at, Serve, Serve_told, Leads, place, class_in, Face, ShowsFace, link, waiting_link, Sight, ShowsSight, Runs, served_one, lent_one, sight_faced}
use Rattle.qs_base.specs.declared.identifiers.Class.TheVariants as classes
use Rattle.qs_world_agree.specs.World.{World, OnePhase, Immediate, with_at, with_at2}
use Rattle.qs_world_agree.specs.Step.{Step, Lend}
use Rattle.qs_world_refine.proofs.EventFaces.{face_serve, face_serve_told, face_lend}
use Rattle.qs_world_refine.proofs.Streams.{Stays, still, stays_on}
use Rattle.qs_world_refine.proofs.Still.{SameStage, stage_still, stage_on, SameLogs, log_still, logs_on}
use Rattle.qs_world_refine.proofs.Around.{faces_around}

-- nothing but what place q has of its own is changed
pub record Local (q : ℕ) (w v : World) : Type 0 where
  pub stage : SameStage w v
  pub logs : SameLogs w v
  pub links : (a b : ℕ) → Stays (link w a b) (link v a b)
  pub waiting : (a b : ℕ) → Stays (waiting_link w a b) (waiting_link v a b)
  pub others : (k : ℕ) (f : Face) → k ≢ q → ShowsFace f k w → ShowsFace f k v

pub local_sight : (tid : Tid) (x : Sight) (w v : World) (n : ℕ) (f : Face) → ShowsSight tid x w → n < x.size → Local (place n (x.inc n)) w v → ShowsFace f (place n (x.inc n)) v
    → ShowsSight tid (record x { face = λ k. if k == n then f else x.face k }) v
local_sight tid x w v n f shown n_in e face = record {
  stage = stage_still tid x (record x { face = λ k. if k == n then f else x.face k }) w v e.stage refl refl refl refl shown.stage;
  faces = faces_around x n f w v shown.stage.small n_in shown.faces face e.others;
  links = λ a k b l a_in b_in b_up now. still (x.said a k b l) (link w (place a k) (place b l)) (link v (place a k) (place b l)) (e.links (place a k) (place b l)) (shown.links a k b l a_in b_in b_up now);
  unmet = λ a b a_in b_in a_up none. still (x.unmet a b) (waiting_link w (place a (x.inc a)) b) (waiting_link v (place a (x.inc a)) b) (e.waiting (place a (x.inc a)) b) (shown.unmet a b a_in b_in a_up none);
  logs = λ k k_in. log_still tid k (x.found k) w v e.logs (shown.logs k k_in);
}

-- a place that is blocked is stricter than the machine
blocked_face : (q : ℕ) (w : World) (f : Face) → ShowsFace f q w → ShowsFace (record f { blocked = true }) q w
blocked_face q w f i = grind (arith, nat_tests, i)

pub blocked_sight : (tid : Tid) (x : Sight) (w : World) (n : ℕ) → ShowsSight tid x w → Runs x n → ShowsSight tid (sight_faced x n (record (x.face n) { blocked = true })) w
blocked_sight tid x w n shown at = record {
  stage = stage_still tid x (sight_faced x n (record (x.face n) { blocked = true })) w w (record { node = refl; class = refl; home = refl; present = refl; up = refl; peer = refl }) refl refl refl refl shown.stage;
  faces = faces_around x n (record (x.face n) { blocked = true }) w w shown.stage.small at.in_run shown.faces (blocked_face (place n (x.inc n)) w (x.face n) (shown.faces n at.in_run at.up)) (λ k f other is. is);
  links = shown.links;
  unmet = shown.unmet;
  logs = shown.logs;
}

-- one after the other
pub both : (q : ℕ) (w u v : World) → Local q w u → Local q u v → Local q w v
both q w u v first second = record {
  stage = stage_on w u v first.stage second.stage;
  logs = logs_on w u v first.logs second.logs;
  links = λ a b. stays_on (link w a b) (link u a b) (link v a b) (first.links a b) (second.links a b);
  waiting = λ a b. stays_on (waiting_link w a b) (waiting_link u a b) (waiting_link v a b) (first.waiting a b) (second.waiting a b);
  others = λ k f other i. second.others k f other (first.others k f other i);
}

-- ---- Serve

serve_links : (q s a b : ℕ) (w v : World) → Step (Serve q s) w v → Stays (link w a b) (link v a b)
serve_links q s a b w v e = record { carries = grind (arith, e); posted = grind (arith, e); closers = grind (arith, e); inquiry_put = grind (arith, e) }

serve_waiting : (q s a b : ℕ) (w v : World) → Step (Serve q s) w v → Stays (waiting_link w a b) (waiting_link v a b)
serve_waiting q s a b w v e = record { carries = grind (arith, e); posted = grind (arith, e); closers = grind (arith, e); inquiry_put = grind (arith, e) }

serve_others : (q s k : ℕ) (w v : World) (f : Face) → k ≢ q → ShowsFace f k w → Step (Serve q s) w v → ShowsFace f k v
serve_others q s k w v f other i e = grind (arith, nat_tests, other, i, e)

pub serve_local : (q s : ℕ) (w v : World) → Step (Serve q s) w v → Local q w v
serve_local q s w v e = record {
  stage = rw e.2 (record { node = refl; class = refl; home = refl; present = refl; up = refl; peer = refl });
  logs = rw e.2 (record { prepared = refl; commit_logged = refl; unended = refl; commit_list = refl });
  links = λ a b. serve_links q s a b w v e;
  waiting = λ a b. serve_waiting q s a b w v e;
  others = λ k f other i. serve_others q s k w v f other i e;
}

-- ---- Serve_told

told_links : (q s a b : ℕ) (w v : World) → Step (Serve_told q s) w v → Stays (link w a b) (link v a b)
told_links q s a b w v e = record { carries = grind (arith, e); posted = grind (arith, e); closers = grind (arith, e); inquiry_put = grind (arith, e) }

told_waiting : (q s a b : ℕ) (w v : World) → Step (Serve_told q s) w v → Stays (waiting_link w a b) (waiting_link v a b)
told_waiting q s a b w v e = record { carries = grind (arith, e); posted = grind (arith, e); closers = grind (arith, e); inquiry_put = grind (arith, e) }

told_others : (q s k : ℕ) (w v : World) (f : Face) → k ≢ q → ShowsFace f k w → Step (Serve_told q s) w v → ShowsFace f k v
told_others q s k w v f other i e = grind (arith, nat_tests, other, i, e)

pub told_local : (q s : ℕ) (w v : World) → Step (Serve_told q s) w v → Local q w v
told_local q s w v e = record {
  stage = rw e.2 (record { node = refl; class = refl; home = refl; present = refl; up = refl; peer = refl });
  logs = rw e.2 (record { prepared = refl; commit_logged = refl; unended = refl; commit_list = refl });
  links = λ a b. told_links q s a b w v e;
  waiting = λ a b. told_waiting q s a b w v e;
  others = λ k f other i. told_others q s k w v f other i e;
}

-- ---- Lend

lend_links : (q s a b : ℕ) (w v : World) → Step (Lend q s) w v → Stays (link w a b) (link v a b)
lend_links q s a b w v e = record { carries = grind (arith, e); posted = grind (arith, e); closers = grind (arith, e); inquiry_put = grind (arith, e) }

lend_waiting : (q s a b : ℕ) (w v : World) → Step (Lend q s) w v → Stays (waiting_link w a b) (waiting_link v a b)
lend_waiting q s a b w v e = record { carries = grind (arith, e); posted = grind (arith, e); closers = grind (arith, e); inquiry_put = grind (arith, e) }

lend_others : (q s k : ℕ) (w v : World) (f : Face) → k ≢ q → ShowsFace f k w → Step (Lend q s) w v → ShowsFace f k v
lend_others q s k w v f other i e = grind (arith, nat_tests, other, i, e)

pub lend_local : (q s : ℕ) (w v : World) → Step (Lend q s) w v → Local q w v
lend_local q s w v e = record {
  stage = rw e.2 (record { node = refl; class = refl; home = refl; present = refl; up = refl; peer = refl });
  logs = rw e.2 (record { prepared = refl; commit_logged = refl; unended = refl; commit_list = refl });
  links = λ a b. lend_links q s a b w v e;
  waiting = λ a b. lend_waiting q s a b w v e;
  others = λ k f other i. lend_others q s k w v f other i e;
}

-- ---- all that is seen, where a request that waits is served

module _ (tid : Tid) (x : Sight) (w : World) (n s left : ℕ) (shown : ShowsSight tid x w) (n_in : n < x.size) (is_up : x.up n ≡ true) (undecided : (x.face n).outcome ≡ Open) (one : (x.face n).waits s ≡ left + 1) where
  abbrev pub q : ℕ
  q = place n (x.inc n)

  here : ShowsFace (x.face n) q w
  here = shown.faces n n_in is_up

  not_aborted : w.outcome q ≢ Aborted
  not_aborted = λ e. let o : w.outcome q ≡ Open = here.outcome ∙ undecided in cc (e, o)

  some_wait : w.served q s < w.arrived q s
  some_wait = let e = (here.running undecided).waits s in omega (arith, e, one)

  abbrev pub after_serve : World
  after_serve = record w { served = with_at2 w.served q s (w.served q s + 1) }

  serve_step : Votes w q s ⊎ (w.class (w.node q) s ≡ Immediate) → Step (Serve q s) w after_serve
  serve_step votes = ((here.up, not_aborted, some_wait), votes, refl)

  pub serve_leads : Votes w q s ⊎ (w.class (w.node q) s ≡ Immediate) → Leads w after_serve
  serve_leads votes = record { events = Serve q s ∷ []; run = (after_serve, serve_step votes, refl) }

  pub serve_shown : Votes w q s ⊎ (w.class (w.node q) s ≡ Immediate) → ShowsSight tid (record x { face = λ k. if k == n then served_one (x.face n) s left else x.face k }) after_serve
  serve_shown votes =
      local_sight tid x w after_serve n (served_one (x.face n) s left) shown n_in (serve_local q s w after_serve (serve_step votes)) (face_serve q s left w after_serve (x.face n) one here (serve_step votes))

  abbrev pub after_lend : World
  after_lend = record w { served = with_at2 w.served q s (w.served q s + 1); loans = with_at w.loans q (w.loans q + 1) }

  lend_step : class_of s ≡ classes.Activity → Step (Lend q s) w after_lend
  lend_step class = ((here.up, not_aborted, some_wait), shown.stage.classes (w.node q) s ∙ ap class_in class, refl)

  pub lend_leads : class_of s ≡ classes.Activity → Leads w after_lend
  lend_leads class = record { events = Lend q s ∷ []; run = (after_lend, lend_step class, refl) }

  pub lend_shown : class_of s ≡ classes.Activity → ShowsSight tid (record x { face = λ k. if k == n then lent_one (x.face n) s left else x.face k }) after_lend
  lend_shown class =
      local_sight tid x w after_lend n (lent_one (x.face n) s left) shown n_in (lend_local q s w after_lend (lend_step class)) (face_lend q s left w after_lend (x.face n) one here (lend_step class))

  abbrev pub after_told : World
  after_told = record w { served = with_at2 w.served q s (w.served q s + 1); involved = with_at w.involved q true; way = with_at w.way (w.node q) (held (w.way (w.node q))); holder = with_at w.holder (w.node q) (held_at (w.way (w.node q)) q (w.holder (w.node q))) }

  told_step : class_in (class_of s) ≡ OnePhase → Step (Serve_told q s) w after_told
  told_step class = ((here.up, not_aborted, some_wait), shown.stage.classes (w.node q) s ∙ class, refl)

  pub told_leads : class_in (class_of s) ≡ OnePhase → Leads w after_told
  told_leads class = record { events = Serve_told q s ∷ []; run = (after_told, told_step class, refl) }

  pub told_shown : class_in (class_of s) ≡ OnePhase → ShowsSight tid (record x { face = λ k. if k == n then record (served_one (x.face n) s left) { involved = true } else x.face k }) after_told
  told_shown class =
      local_sight tid x w after_told n (record (served_one (x.face n) s left) { involved = true }) shown n_in (told_local q s w after_told (told_step class)) (face_serve_told q s left w after_told (x.face n) one here (told_step class))
