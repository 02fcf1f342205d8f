-- A closer is counted.
use Rattle.qs_world_refine.proofs.Words.{◌≡◌, ◌≢◌, ℕ, ◌+◌, arith, nat_tests, Open, Count, Face, ShowsFace, ShowsOpen}
use Rattle.qs_world_agree.specs.World.{World}
use Rattle.qs_world_agree.specs.Step.{Step}
use Rattle.qs_world_refine.specs.Seen.{counted}

open_count : (p q : ℕ) (w v : World) (f : Face) → ShowsOpen f p w → Step (Count p q) w v → ShowsOpen (counted f (w.node q) (w.closer q p (w.closers_taken p q + 1)) (w.closer_set q p (w.closers_taken p q + 1))) p v
open_count p q w v f i s = grind (arith, nat_tests, i, s)

pub face_count : (p q : ℕ) (w v : World) (f : Face) → ShowsFace f p w → f.outcome ≡ Open → Step (Count p q) w v → ShowsFace (counted f (w.node q) (w.closer q p (w.closers_taken p q + 1)) (w.closer_set q p (w.closers_taken p q + 1))) p v
face_count p q w v f i is s = record {
  up = grind (arith, i.up, s);
  outcome = grind (arith, i.outcome, s);
  engaged = grind (arith, i.engaged, s);
  superior = grind (arith, i.superior, s);
  last = grind (arith, i.last, s);
  last_new = grind (arith, i.last_new, s);
  sent = grind (arith, i.sent, s);
  told_in = grind (arith, nat_tests, i.told_in, s);
  tell = grind (arith, i.tell, s);
  running = λ _. open_count p q w v f (i.running is) s;
}

-- at any other place
open_count_other : (p q k : ℕ) (w v : World) (f : Face) → k ≢ p → ShowsOpen f k w → Step (Count p q) w v → ShowsOpen f k v
open_count_other p q k w v f other i s = grind (arith, nat_tests, other, i, s)

pub face_count_other : (p q k : ℕ) (w v : World) (f : Face) → k ≢ p → ShowsFace f k w → Step (Count p q) w v → ShowsFace f k v
face_count_other p q k w v f other i s = grind (arith, nat_tests, other, i, s)
