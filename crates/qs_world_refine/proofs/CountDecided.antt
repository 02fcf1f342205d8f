-- A Covered or VotedYes is counted where the outcome is known: nothing of the place is seen to change.
use Rattle.qs_world_refine.proofs.Words.{◌≡◌, ◌≢◌, ℕ, ◌+◌, ◌<◌, List, [], ◌∷◌, arith, refl, ◌∙◌, subst, nat_tests, NodeNo, Tid, Open, Count, ShowsFace, Face, Said, Closed, link, IsLink, place, Runs, Meets, SightGoes, sight_taken, Sight, ShowsSight}
use Rattle.qs_world_agree.specs.World.{World}
use Rattle.qs_world_agree.specs.Step.{Step}
use Rattle.qs_world_refine.proofs.Around.{known_is}
use Rattle.qs_world_refine.proofs.CountFaces.{face_count_other}
use Rattle.qs_world_refine.proofs.Counting.{after_count, stays_count, stays_counted, stays_waiting}
use Rattle.qs_world_refine.proofs.Streams.{within}
use Rattle.qs_world_refine.proofs.Taking.{Takes, take_sight}

count_takes : (p q : ℕ) (w v : World) → Step (Count p q) w v → Takes q p (record (link w q p) { taken = w.closers_taken p q + 1 }) w v
count_takes p q w v s = record {
  stage = rw s.3 (record { node = refl; class = refl; home = refl; present = refl; up = refl; peer = refl });
  logs = rw s.3 (record { prepared = refl; commit_logged = refl; unended = refl; commit_list = refl });
  links = λ a b other. stays_count p q a b w v (λ e d. other e d) s;
  waiting = λ a m. stays_waiting p q a m w v s;
  others = λ k f other i. face_count_other p q k w v f other i s;
  took = stays_counted p q w v s;
}

face_count_decided : (p q : ℕ) (w v : World) (f : Face) → ShowsFace f p w → f.outcome ≢ Open → Step (Count p q) w v → ShowsFace f p v
face_count_decided p q w v f i off s = record {
  up = grind (arith, i.up, s);
  outcome = grind (arith, i.outcome, s);
  engaged = grind (arith, i.engaged, s);
  superior = grind (arith, i.superior, s);
  last = grind (arith, i.last, s);
  last_new = grind (arith, i.last_new, s);
  sent = grind (arith, i.sent, s);
  told_in = grind (arith, nat_tests, i.told_in, s);
  tell = grind (arith, i.tell, s);
  running = λ is. absurd (off is);
}

pub count_decided : (tid : Tid) (x : Sight) (w : World) (n m i number : ℕ) (told : List NodeNo) (rest : List Said) → ShowsSight tid x w → Runs x n → Meets x n m i
    → x.said m i n (x.inc n) ≡ Closed number told ∷ rest → (x.face n).outcome ≢ Open → SightGoes tid (sight_taken x n m i (x.face n) rest) w
count_decided tid x w n m i number told rest shown at peer head off =
    let p = place n (x.inc n) in
    let q = place m i in
    let here = shown.faces n at.in_run at.up in
    let v = after_count p q w in
    let before = subst (λ (l : List Said). IsLink (link w q p) l) head (shown.links m i n (x.inc n) peer.in_run at.in_run at.up refl) in
    let step : Step (Count p q) w v = (here.up, known, more before, refl) in
    record {
      next = v;
      leads = record { events = Count p q ∷ []; run = (v, step, refl) };
      shown = take_sight tid x w v n m i (x.face n) rest (record (link w q p) { taken = w.closers_taken p q + 1 }) shown at peer (count_takes p q w v step) before.2 (face_count_decided p q w v (x.face n) here off step);
    }
  where
    known : w.peer (place n (x.inc n)) (w.node (place m i)) ≡ place m i
    known = rw (shown.stage.nodes m i peer.in_run) (shown.stage.peers n m at.in_run peer.in_run at.up ∙ rw peer.knows (known_is m i peer.some))

    more : IsLink (link w (place m i) (place n (x.inc n))) (Closed number told ∷ rest) → w.closers_taken (place n (x.inc n)) (place m i) < w.closers (place m i) (place n (x.inc n))
    more before = omega (arith, (within rest (record (link w (place m i) (place n (x.inc n))) { taken = w.closers_taken (place n (x.inc n)) (place m i) + 1 }) before.2).closers)
