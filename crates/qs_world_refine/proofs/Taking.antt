-- Events that take a message from one link: Join and Ignore, and the requests that are dropped where abort is known.
use Rattle.qs_world_refine.proofs.Words.{◌≡◌, ◌≢◌, ℕ, ◌+◌, ◌<◌, true, false, List, [], ◌∷◌, arith, refl, sym, ◌∙◌, subst, ap, nat_tests, Tid, Open, Aborted, next, next_server, Join, Ignore, Drop_engage, Drop_join, Face, ShowsFace, Said, Requested, Closed, Link, link, waiting_link, IsLink, place, Runs, Meets, took_in, engaged_by, sight_taken, Sight, ShowsSight}
use Rattle.qs_world_agree.specs.World.{World, with_at, with_at2}
use Rattle.qs_world_agree.specs.Guards.{NextAt}
use Rattle.qs_world_agree.specs.Step.{Step}
use Rattle.qs_world_refine.specs.EventLaws.{JoinGoes, IgnoreGoes, DropEngageGoes, DropJoinGoes}
use Rattle.qs_world_refine.proofs.Around.{faces_around, links_around, known_is}
use Rattle.qs_world_refine.proofs.EventFaces.{face_join}
use Rattle.qs_world_refine.proofs.Requesting.{after_join, join_stays, join_took, join_waiting, join_other}
use Rattle.qs_world_refine.proofs.Still.{SameStage, stage_still, SameLogs, log_still}
use Rattle.qs_world_refine.proofs.Streams.{Stays, still, within}

-- what an event leaves that takes what comes first on the link from p to q; l is that link without it
pub record Takes (p q : ℕ) (l : Link) (w v : World) : Type 0 where
  pub stage : SameStage w v
  pub logs : SameLogs w v
  pub links : (a b : ℕ) → (a ≡ p → b ≡ q → ⊥) → Stays (link w a b) (link v a b)
  pub waiting : (a b : ℕ) → Stays (waiting_link w a b) (waiting_link v a b)
  pub others : (k : ℕ) (f : Face) → k ≢ q → ShowsFace f k w → ShowsFace f k v
  pub took : Stays l (link v p q)

pub take_sight : (tid : Tid) (x : Sight) (w v : World) (n m i : ℕ) (f : Face) (rest : List Said) (l : Link) → ShowsSight tid x w → Runs x n → Meets x n m i → Takes (place m i) (place n (x.inc n)) l w v → IsLink l rest
    → ShowsFace f (place n (x.inc n)) v → ShowsSight tid (sight_taken x n m i f rest) v
take_sight tid x w v n m i f rest l shown at peer e next face = record {
  stage = stage_still tid x (sight_taken x n m i f rest) w v e.stage refl refl refl refl shown.stage;
  faces = faces_around x n f w v shown.stage.small at.in_run shown.faces face e.others;
  links = links_around x m i n (x.inc n) rest w v shown.stage.small peer.in_run at.in_run shown.links (λ _ _. still rest l (link v (place m i) (place n (x.inc n))) e.took next) e.links;
  unmet = λ a b a_in b_in a_up none. still (x.unmet a b) (waiting_link w (place a (x.inc a)) b) (waiting_link v (place a (x.inc a)) b) (e.waiting (place a (x.inc a)) b) (shown.unmet a b a_in b_in a_up none);
  logs = λ k k_in. log_still tid k (x.found k) w v e.logs (shown.logs k k_in);
}

-- ---- a request is the next that is handed up

module _ (tid : Tid) (x : Sight) (w : World) (n m i number s : ℕ) (rest : List Said) (shown : ShowsSight tid x w) (at : Runs x n) (peer : Meets x n m i)
    (head : x.said m i n (x.inc n) ≡ Requested number s ∷ rest) where
  abbrev q : ℕ
  q = place n (x.inc n)

  abbrev p : ℕ
  p = place m i

  request_link : IsLink (link w p q) (Requested number s ∷ rest)
  request_link = subst (λ (l : List Said). IsLink (link w p q) l) head (shown.links m i n (x.inc n) peer.in_run at.in_run at.up refl)

  pub rest_link : IsLink (record (link w p q) { received = w.received q p + 1 }) rest
  rest_link = request_link.2

  pub sender_node : w.node p ≡ m
  sender_node = shown.stage.nodes m i peer.in_run

  pub next_at : NextAt w q p
  next_at = ((shown.faces n at.in_run at.up).up, known, omega (arith, (within rest (record (link w p q) { received = w.received q p + 1 }) rest_link).requests))
    where
      known : w.peer q (w.node p) ≡ p
      known = rw sender_node (shown.stage.peers n m at.in_run peer.in_run at.up ∙ rw peer.knows (known_is m i peer.some))

  pub number_is : next w q p ≡ number
  number_is = sym request_link.0

  pub server_is : next_server w q p ≡ s
  server_is = sym (request_link.1 ∙ ap (λ (k : ℕ). w.server_of p (w.node q) k) request_link.0)

-- the home is another node
pub home_apart : (tid : Tid) (x : Sight) (w : World) (n : ℕ) → ShowsSight tid x w → Runs x n → tid.home.0 ≢ n → tid.home.0 < x.size → w.node (place n (x.inc n)) ≢ w.node w.home
home_apart tid x w n shown at elsewhere home_in = λ e. elsewhere (sym (shown.stage.nodes tid.home.0 tid.inc home_in) ∙ (sym (ap w.node shown.stage.home) ∙ (sym e ∙ shown.stage.nodes n (x.inc n) at.in_run)))

-- ---- Join

join_takes : (q p : ℕ) (w v : World) → Step (Join q p) w v → Takes p q (record (link w p q) { received = w.received q p + 1 }) w v
join_takes q p w v s = record {
  stage = rw s.5 (record { node = refl; class = refl; home = refl; present = refl; up = refl; peer = refl });
  logs = rw s.5 (record { prepared = refl; commit_logged = refl; unended = refl; commit_list = refl });
  links = λ a b other. join_stays q p a b w v other s;
  waiting = λ a m. join_waiting q p a m w v s;
  others = λ k f other i. join_other q p k w v f other i s;
  took = join_took q p w v s;
}

pub join : JoinGoes
join tid x w n m i number s rest shown at peer head undecided on away superior not_home =
    let q = place n (x.inc n) in
    let p = place m i in
    let here = shown.faces n at.in_run at.up in
    let v = after_join q p w in
    let step : Step (Join q p) w v = (next_at tid x w n m i number s rest shown at peer head, open_still here.outcome, here.engaged ∙ on, not_home, here.superior on away ∙ (superior ∙ sym (sender_node tid x w n m i number s rest shown at peer head)), refl) in
    record {
      next = v;
      leads = record { events = Join q p ∷ []; run = (v, step, refl) };
      shown = take_sight tid x w v n m i (took_in (x.face n) m number s) rest (record (link w p q) { received = w.received q p + 1 }) shown at peer (join_takes q p w v step) (rest_link tid x w n m i number s rest shown at peer head)
          (same (x.face n) (w.node p) (next w q p) (next_server w q p) q v (sender_node tid x w n m i number s rest shown at peer head) (number_is tid x w n m i number s rest shown at peer head) (server_is tid x w n m i number s rest shown at peer head)
          (face_join q p w v (x.face n) here undecided on away step));
    }
  where
    open_still : w.outcome (place n (x.inc n)) ≡ (x.face n).outcome → w.outcome (place n (x.inc n)) ≢ Aborted
    open_still is = λ e. let o : w.outcome (place n (x.inc n)) ≡ Open = is ∙ undecided in cc (e, o)

    same : (f : Face) (a b c o : ℕ) (u : World) → a ≡ m → b ≡ number → c ≡ s → ShowsFace (took_in f a b c) o u → ShowsFace (took_in f m number s) o u
    same f a b c o u ea eb ec is = rw (sym ea, sym eb, sym ec) is

-- ---- Ignore

abbrev pub after_ignore : ℕ → ℕ → World → World
after_ignore p q old = record old {
  closers_taken = with_at2 old.closers_taken p q (old.closers_taken p q + 1);
}

ignore_stays : (p q a b : ℕ) (w v : World) → (a ≡ q → b ≡ p → ⊥) → Step (Ignore p q) w v → Stays (link w a b) (link v a b)
ignore_stays p q a b w v other s = record { carries = grind (arith, nat_tests, other, s); posted = grind (arith, s); closers = grind (arith, s); inquiry_put = grind (arith, s) }

ignore_took : (p q : ℕ) (w v : World) → Step (Ignore p q) w v → Stays (record (link w q p) { taken = w.closers_taken p q + 1 }) (link v q p)
ignore_took p q w v s = record { carries = grind (arith, nat_tests, s); posted = grind (arith, s); closers = grind (arith, s); inquiry_put = grind (arith, s) }

ignore_waiting : (p q a m : ℕ) (w v : World) → Step (Ignore p q) w v → Stays (waiting_link w a m) (waiting_link v a m)
ignore_waiting p q a m w v s = record { carries = grind (arith, nat_tests, s); posted = grind (arith, s); closers = grind (arith, s); inquiry_put = grind (arith, s) }

ignore_other : (p q k : ℕ) (w v : World) (f : Face) → k ≢ p → ShowsFace f k w → Step (Ignore p q) w v → ShowsFace f k v
ignore_other p q k w v f other i s = grind (arith, nat_tests, other, i, s)

ignore_takes : (p q : ℕ) (w v : World) → Step (Ignore p q) w v → Takes q p (record (link w q p) { taken = w.closers_taken p q + 1 }) w v
ignore_takes p q w v s = record {
  stage = rw s.4 (record { node = refl; class = refl; home = refl; present = refl; up = refl; peer = refl });
  logs = rw s.4 (record { prepared = refl; commit_logged = refl; unended = refl; commit_list = refl });
  links = λ a b other. ignore_stays p q a b w v other s;
  waiting = λ a m. ignore_waiting p q a m w v s;
  others = λ k f other i. ignore_other p q k w v f other i s;
  took = ignore_took p q w v s;
}

ignore_face : (p q : ℕ) (w v : World) (f : Face) → ShowsFace f p w → Step (Ignore p q) w v → ShowsFace f p v
ignore_face p q w v f i s = grind (arith, nat_tests, i, s)

pub ignore : IgnoreGoes
ignore tid x w n m i number told rest shown at peer head off =
    let p = place n (x.inc n) in
    let q = place m i in
    let here = shown.faces n at.in_run at.up in
    let v = after_ignore p q w in
    let before = subst (λ (l : List Said). IsLink (link w q p) l) head (shown.links m i n (x.inc n) peer.in_run at.in_run at.up refl) in
    let step : Step (Ignore p q) w v = (here.up, known, more before, here.engaged ∙ off, refl) in
    record {
      next = v;
      leads = record { events = Ignore p q ∷ []; run = (v, step, refl) };
      shown = take_sight tid x w v n m i (x.face n) rest (record (link w q p) { taken = w.closers_taken p q + 1 }) shown at peer (ignore_takes p q w v step) before.2 (ignore_face p q w v (x.face n) here step);
    }
  where
    known : w.peer (place n (x.inc n)) (w.node (place m i)) ≡ place m i
    known = rw (shown.stage.nodes m i peer.in_run) (shown.stage.peers n m at.in_run peer.in_run at.up ∙ rw peer.knows (known_is m i peer.some))

    more : IsLink (link w (place m i) (place n (x.inc n))) (Closed number told ∷ rest) → w.closers_taken (place n (x.inc n)) (place m i) < w.closers (place m i) (place n (x.inc n))
    more before = omega (arith, (within rest (record (link w (place m i) (place n (x.inc n))) { taken = w.closers_taken (place n (x.inc n)) (place m i) + 1 }) before.2).closers)

-- ---- Drop_engage

abbrev pub after_drop_engage : ℕ → ℕ → World → World
after_drop_engage q p old = record old {
  received = with_at2 old.received q p (next old q p);
  last = with_at2 old.last q p (next old q p);
  engaged = with_at old.engaged q true;
  superior = with_at old.superior q (old.node p);
  engager = with_at old.engager q p;
}

drop_engage_stays : (q p a b : ℕ) (w v : World) → (a ≡ p → b ≡ q → ⊥) → Step (Drop_engage q p) w v → Stays (link w a b) (link v a b)
drop_engage_stays q p a b w v other s = record { carries = grind (arith, nat_tests, other, s); posted = grind (arith, s); closers = grind (arith, s); inquiry_put = grind (arith, s) }

drop_engage_took : (q p : ℕ) (w v : World) → Step (Drop_engage q p) w v → Stays (record (link w p q) { received = w.received q p + 1 }) (link v p q)
drop_engage_took q p w v s = record { carries = grind (arith, nat_tests, s); posted = grind (arith, s); closers = grind (arith, s); inquiry_put = grind (arith, s) }

drop_engage_waiting : (q p a m : ℕ) (w v : World) → Step (Drop_engage q p) w v → Stays (waiting_link w a m) (waiting_link v a m)
drop_engage_waiting q p a m w v s = record { carries = grind (arith, nat_tests, s); posted = grind (arith, s); closers = grind (arith, s); inquiry_put = grind (arith, s) }

drop_engage_other : (q p k : ℕ) (w v : World) (f : Face) → k ≢ q → ShowsFace f k w → Step (Drop_engage q p) w v → ShowsFace f k v
drop_engage_other q p k w v f other i s = grind (arith, nat_tests, other, i, s)

drop_engage_takes : (q p : ℕ) (w v : World) → Step (Drop_engage q p) w v → Takes p q (record (link w p q) { received = w.received q p + 1 }) w v
drop_engage_takes q p w v s = record {
  stage = rw s.4 (record { node = refl; class = refl; home = refl; present = refl; up = refl; peer = refl });
  logs = rw s.4 (record { prepared = refl; commit_logged = refl; unended = refl; commit_list = refl });
  links = λ a b other. drop_engage_stays q p a b w v other s;
  waiting = λ a m. drop_engage_waiting q p a m w v s;
  others = λ k f other i. drop_engage_other q p k w v f other i s;
  took = drop_engage_took q p w v s;
}

drop_engage_face : (q p : ℕ) (w v : World) (f : Face) → ShowsFace f q w → f.outcome ≡ Aborted → Step (Drop_engage q p) w v → ShowsFace (record (engaged_by f (w.node p)) { last = with_at f.last (w.node p) (next w q p) }) q v
drop_engage_face q p w v f i is s = record {
  up = grind (arith, i.up, s);
  outcome = grind (arith, i.outcome, s);
  engaged = grind (arith, nat_tests, i.engaged, s);
  superior = grind (arith, nat_tests, i.superior, s);
  last = grind (arith, nat_tests, i.last, s);
  last_new = grind (arith, nat_tests, i.last_new, s);
  sent = grind (arith, i.sent, s);
  told_in = grind (arith, nat_tests, i.told_in, s);
  tell = grind (arith, i.tell, s);
  running = λ open_is. absurd (cc (is, open_is));
}

pub drop_engage : DropEngageGoes
drop_engage tid x w n m i number s rest shown at peer head aborted off elsewhere home_in =
    let q = place n (x.inc n) in
    let p = place m i in
    let here = shown.faces n at.in_run at.up in
    let v = after_drop_engage q p w in
    let step : Step (Drop_engage q p) w v = (next_at tid x w n m i number s rest shown at peer head, here.outcome ∙ aborted, here.engaged ∙ off, home_apart tid x w n shown at elsewhere home_in, refl) in
    record {
      next = v;
      leads = record { events = Drop_engage q p ∷ []; run = (v, step, refl) };
      shown = take_sight tid x w v n m i (record (engaged_by (x.face n) m) { last = with_at (x.face n).last m number }) rest (record (link w p q) { received = w.received q p + 1 }) shown at peer (drop_engage_takes q p w v step) (rest_link tid x w n m i number s rest shown at peer head)
          (same (x.face n) (w.node p) (next w q p) q v (sender_node tid x w n m i number s rest shown at peer head) (number_is tid x w n m i number s rest shown at peer head) (drop_engage_face q p w v (x.face n) here aborted step));
    }
  where
    same : (f : Face) (a b o : ℕ) (u : World) → a ≡ m → b ≡ number → ShowsFace (record (engaged_by f a) { last = with_at f.last a b }) o u → ShowsFace (record (engaged_by f m) { last = with_at f.last m number }) o u
    same f a b o u ea eb is = rw (sym ea, sym eb) is

-- ---- Drop_join

abbrev pub after_drop_join : ℕ → ℕ → World → World
after_drop_join q p old = record old {
  received = with_at2 old.received q p (next old q p);
  last = with_at2 old.last q p (next old q p);
}

drop_join_stays : (q p a b : ℕ) (w v : World) → (a ≡ p → b ≡ q → ⊥) → Step (Drop_join q p) w v → Stays (link w a b) (link v a b)
drop_join_stays q p a b w v other s = record { carries = grind (arith, nat_tests, other, s); posted = grind (arith, s); closers = grind (arith, s); inquiry_put = grind (arith, s) }

drop_join_took : (q p : ℕ) (w v : World) → Step (Drop_join q p) w v → Stays (record (link w p q) { received = w.received q p + 1 }) (link v p q)
drop_join_took q p w v s = record { carries = grind (arith, nat_tests, s); posted = grind (arith, s); closers = grind (arith, s); inquiry_put = grind (arith, s) }

drop_join_waiting : (q p a m : ℕ) (w v : World) → Step (Drop_join q p) w v → Stays (waiting_link w a m) (waiting_link v a m)
drop_join_waiting q p a m w v s = record { carries = grind (arith, nat_tests, s); posted = grind (arith, s); closers = grind (arith, s); inquiry_put = grind (arith, s) }

drop_join_other : (q p k : ℕ) (w v : World) (f : Face) → k ≢ q → ShowsFace f k w → Step (Drop_join q p) w v → ShowsFace f k v
drop_join_other q p k w v f other i s = grind (arith, nat_tests, other, i, s)

drop_join_takes : (q p : ℕ) (w v : World) → Step (Drop_join q p) w v → Takes p q (record (link w p q) { received = w.received q p + 1 }) w v
drop_join_takes q p w v s = record {
  stage = rw s.5 (record { node = refl; class = refl; home = refl; present = refl; up = refl; peer = refl });
  logs = rw s.5 (record { prepared = refl; commit_logged = refl; unended = refl; commit_list = refl });
  links = λ a b other. drop_join_stays q p a b w v other s;
  waiting = λ a m. drop_join_waiting q p a m w v s;
  others = λ k f other i. drop_join_other q p k w v f other i s;
  took = drop_join_took q p w v s;
}

drop_join_face : (q p : ℕ) (w v : World) (f : Face) → ShowsFace f q w → f.outcome ≡ Aborted → f.on ≡ true → f.is_home ≡ false → Step (Drop_join q p) w v → ShowsFace (record f { last = with_at f.last (w.node p) (next w q p) }) q v
drop_join_face q p w v f i is on away s = record {
  up = grind (arith, i.up, s);
  outcome = grind (arith, i.outcome, s);
  engaged = grind (arith, nat_tests, i.engaged, s);
  superior = grind (arith, nat_tests, i.superior, s);
  last = grind (arith, nat_tests, i.last, i.superior on away, s);
  last_new = grind (arith, nat_tests, i.last_new, s);
  sent = grind (arith, i.sent, s);
  told_in = grind (arith, nat_tests, i.told_in, s);
  tell = grind (arith, i.tell, s);
  running = λ open_is. absurd (cc (is, open_is));
}

pub drop_join : DropJoinGoes
drop_join tid x w n m i number s rest shown at peer head aborted on away superior not_home =
    let q = place n (x.inc n) in
    let p = place m i in
    let here = shown.faces n at.in_run at.up in
    let v = after_drop_join q p w in
    let step : Step (Drop_join q p) w v = (next_at tid x w n m i number s rest shown at peer head, here.outcome ∙ aborted, here.engaged ∙ on, not_home, here.superior on away ∙ (superior ∙ sym (sender_node tid x w n m i number s rest shown at peer head)), refl) in
    record {
      next = v;
      leads = record { events = Drop_join q p ∷ []; run = (v, step, refl) };
      shown = take_sight tid x w v n m i (record (x.face n) { last = with_at (x.face n).last m number }) rest (record (link w p q) { received = w.received q p + 1 }) shown at peer (drop_join_takes q p w v step) (rest_link tid x w n m i number s rest shown at peer head)
          (same (x.face n) (w.node p) (next w q p) q v (sender_node tid x w n m i number s rest shown at peer head) (number_is tid x w n m i number s rest shown at peer head) (drop_join_face q p w v (x.face n) here aborted on away step));
    }
  where
    same : (f : Face) (a b o : ℕ) (u : World) → a ≡ m → b ≡ number → ShowsFace (record f { last = with_at f.last a b }) o u → ShowsFace (record f { last = with_at f.last m number }) o u
    same f a b o u ea eb is = rw (sym ea, sym eb) is
