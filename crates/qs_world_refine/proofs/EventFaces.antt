-- What each event makes of the face of the place where it happens, and that it leaves every other one.
use Rattle.qs_world_refine.proofs.Words.{◌≡◌, ◌≢◌, ℕ, ◌+◌, ◌≤◌, Bool, true, false, arith, nat_tests, Open, Committed, next, next_server, Join, Cover, Issue, Issue_unmet, Issue_local, Serve, Serve_told, Yes, Yes_lost, Vote_read, Vote_recoverable, Vote_volatile, Commit, Face, ShowsFace, ShowsOpen, engaged_by, served_one, took_in, lent_one}
use Rattle.qs_world_agree.specs.World.{World, with_at}
use Rattle.qs_world_agree.specs.Step.{Step, Engage, Lend, Notice}

-- who is known as a node's place is one
abbrev pub Knows : World → ℕ → Type 0
Knows w q = (m : ℕ) → 1 ≤ w.peer q m → w.node (w.peer q m) ≡ m

-- ---- Engage
open_engage : (q p : ℕ) (w v : World) (f : Face) → ShowsOpen f q w → Step (Engage q p) w v → ShowsOpen (took_in (engaged_by f (w.node p)) (w.node p) (next w q p) (next_server w q p)) q v
open_engage q p w v f i s = grind (arith, nat_tests, i, s)

pub face_engage : (q p : ℕ) (w v : World) (f : Face) → ShowsFace f q w → f.outcome ≡ Open → Step (Engage q p) w v → ShowsFace (took_in (engaged_by f (w.node p)) (w.node p) (next w q p) (next_server w q p)) q v
face_engage q p w v f i is s = record {
  up = grind (arith, i.up, s);
  outcome = grind (arith, i.outcome, s);
  engaged = grind (arith, nat_tests, i.engaged, s);
  superior = grind (arith, nat_tests, i.superior, s);
  last = grind (arith, nat_tests, i.last, s);
  last_new = grind (arith, nat_tests, i.last_new, s);
  sent = grind (arith, i.sent, s);
  told_in = grind (arith, nat_tests, i.told_in, s);
  tell = grind (arith, i.tell, s);
  running = λ _. open_engage q p w v f (i.running is) s;
}

pub engage_other : (q p k : ℕ) (w v : World) (f : Face) → k ≢ q → ShowsFace f k w → Step (Engage q p) w v → ShowsFace f k v
engage_other q p k w v f other i s = grind (arith, nat_tests, other, i, s)

-- ---- Join
open_join : (q p : ℕ) (w v : World) (f : Face) → ShowsOpen f q w → Step (Join q p) w v → ShowsOpen (took_in f (w.node p) (next w q p) (next_server w q p)) q v
open_join q p w v f i s = grind (arith, nat_tests, i, s)

pub face_join : (q p : ℕ) (w v : World) (f : Face) → ShowsFace f q w → f.outcome ≡ Open → f.on ≡ true → f.is_home ≡ false → Step (Join q p) w v → ShowsFace (took_in f (w.node p) (next w q p) (next_server w q p)) q v
face_join q p w v f i is on away s = record {
  up = grind (arith, i.up, s);
  outcome = grind (arith, i.outcome, s);
  engaged = grind (arith, nat_tests, i.engaged, s);
  superior = grind (arith, nat_tests, i.superior, s);
  last = grind (arith, nat_tests, i.last, i.superior on away, s);
  last_new = grind (arith, nat_tests, i.last_new, s);
  sent = grind (arith, i.sent, s);
  told_in = grind (arith, nat_tests, i.told_in, s);
  tell = grind (arith, i.tell, s);
  running = λ _. open_join q p w v f (i.running is) s;
}

-- ---- Cover
open_cover : (q p : ℕ) (w v : World) (f : Face) → ShowsOpen f q w → Step (Cover q p) w v → ShowsOpen (took_in f (w.node p) (next w q p) (next_server w q p)) q v
open_cover q p w v f i s = grind (arith, nat_tests, i, s)

pub face_cover : (q p : ℕ) (w v : World) (f : Face) → Knows w q → 1 ≤ p → (f.is_home ≡ false → w.node p ≢ f.superior) → ShowsFace f q w → f.outcome ≡ Open → Step (Cover q p) w v → ShowsFace (took_in f (w.node p) (next w q p) (next_server w q p)) q v
face_cover q p w v f known some apart i is s = record {
  up = grind (arith, i.up, s);
  outcome = grind (arith, i.outcome, s);
  engaged = grind (arith, nat_tests, i.engaged, s);
  superior = grind (arith, nat_tests, i.superior, s);
  last = λ on away. grind (arith, nat_tests, i.last on away, apart away, known f.superior, s);
  last_new = grind (arith, nat_tests, i.last_new, s);
  sent = grind (arith, i.sent, s);
  told_in = grind (arith, nat_tests, i.told_in, s);
  tell = grind (arith, i.tell, s);
  running = λ _. open_cover q p w v f (i.running is) s;
}

pub face_serve : (q r left : ℕ) (w v : World) (f : Face) → f.waits r ≡ left + 1 → ShowsFace f q w → Step (Serve q r) w v → ShowsFace (served_one f r left) q v
face_serve q r left w v f one i s = grind (arith, nat_tests, one, i, s)

pub face_serve_told : (q r left : ℕ) (w v : World) (f : Face) → f.waits r ≡ left + 1 → ShowsFace f q w → Step (Serve_told q r) w v → ShowsFace (record (served_one f r left) { involved = true }) q v
face_serve_told q r left w v f one i s = grind (arith, nat_tests, one, i, s)

pub face_lend : (q r left : ℕ) (w v : World) (f : Face) → f.waits r ≡ left + 1 → ShowsFace f q w → Step (Lend q r) w v → ShowsFace (lent_one f r left) q v
face_lend q r left w v f one i s = grind (arith, nat_tests, one, i, s)

-- ---- Issue
pub face_issue : (p m r : ℕ) (w v : World) (f : Face) → ShowsFace f p w → Step (Issue p m r) w v → ShowsFace (record f { sent = with_at f.sent m (f.sent m + 1); involved = true }) p v
face_issue p m r w v f i s = grind (arith, nat_tests, i, s)

pub face_issue_unmet : (p m r : ℕ) (w v : World) (f : Face) → ShowsFace f p w → Step (Issue_unmet p m r) w v → ShowsFace (record f { sent = with_at f.sent m (f.sent m + 1); involved = true }) p v
face_issue_unmet p m r w v f i s = grind (arith, nat_tests, i, s)

pub face_issue_local : (p r : ℕ) (w v : World) (f : Face) → ShowsFace f p w → Step (Issue_local p r) w v → ShowsFace (record f { waits = with_at f.waits r (f.waits r + 1) }) p v
face_issue_local p r w v f i s = grind (arith, nat_tests, i, s)

-- ---- Yes
pub face_yes : (q : ℕ) (w v : World) (f : Face) → ShowsFace f q w → Step (Yes q) w v → ShowsFace (record f { on = false; superior = 0 }) q v
face_yes q w v f i s = grind (arith, nat_tests, i, s)

pub face_yes_lost : (q : ℕ) (w v : World) (f : Face) → ShowsFace f q w → Step (Yes_lost q) w v → ShowsFace (record f { on = false; superior = 0 }) q v
face_yes_lost q w v f i s = grind (arith, nat_tests, i, s)

-- ---- votes
pub face_vote_recoverable : (q r : ℕ) (w v : World) (f : Face) → ShowsFace f q w → Step (Vote_recoverable q r) w v → ShowsFace (record f { uncast = with_at f.uncast r 0; involved = true }) q v
face_vote_recoverable q r w v f i s = grind (arith, nat_tests, i, s)

pub face_vote_volatile : (q r : ℕ) (w v : World) (f : Face) → ShowsFace f q w → Step (Vote_volatile q r) w v → ShowsFace (record f { uncast = with_at f.uncast r 0; involved = true }) q v
face_vote_volatile q r w v f i s = grind (arith, nat_tests, i, s)

pub face_vote_read : (q r : ℕ) (w v : World) (f : Face) → ShowsFace f q w → Step (Vote_read q r) w v → ShowsFace (record f { uncast = with_at f.uncast r 0 }) q v
face_vote_read q r w v f i s = grind (arith, nat_tests, i, s)

-- ---- Notice
pub face_notice : (p q : ℕ) (w v : World) (f : Face) (blocked : Bool) → ShowsFace f p w → (f.outcome ≡ Open → blocked ≡ false → (f.blocked ≡ false) × (w.covered p (w.node q) ≡ w.sent p (w.node q))) → Knows w p → Step (Notice p q) w v → ShowsFace (record f { last = with_at f.last (w.node q) 0; blocked = blocked }) p v
face_notice p q w v f blocked i owed known s = grind (arith, nat_tests, owed, i, s)

-- ---- decisions
pub face_commit : (w v : World) (f : Face) → ShowsFace f w.home w → f.is_home ≡ true → Step Commit w v → ShowsFace (record f { on = false; outcome = Committed }) w.home v
face_commit w v f i here s = grind (arith, nat_tests, here, i, s)
