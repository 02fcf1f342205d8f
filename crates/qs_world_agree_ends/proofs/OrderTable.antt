-- Order holds after each event, at the next moment.
use Rattle.std.proofs.Common.{◌≡◌, ◌≢◌, ℕ, ◌+◌, ◌≤◌, true, arith}
use Rattle.std.proofs.lemmas.Bool.Decides.{nat_tests}
use Rattle.qs_world_agree.specs.World.{World, with_at}
use Rattle.qs_world_agree.specs.Step.{Event, Issue, Issue_unmet, Issue_local, Meet, Notice, Engage, Join, Cover, Serve, Serve_told, Lend, Yield, Ask, Vote_read, Vote_volatile, Force, Vote_recoverable, Vote_abort, Yes, Yes_lost, Count, Ignore, Refuse, Miss, Forget, Crash, Restart, Restart_in_doubt, Restart_home, Commit, Commit_cut, Commit_unlogged, Abort, Tell, Learn, Learn_cut, Learn_home, Acknowledge, Take_told, End, Checkpoint, Tell_abort, Learn_abort, Name_again, Take_names, Learn_abort_home, Abort_logged, Drop_engage, Drop_join, Drop_cover, Inquire, Inquire_lost, Inquire_home, Answer_commit, Answer_running, Answer_abort, Step}
use Rattle.qs_world_agree.proofs.Counts.{Counts}
use Rattle.qs_world_agree_ends.specs.Moments.{engaged_by, said_by}
use Rattle.qs_world_agree_ends.proofs.Covers.{Covers}
use Rattle.qs_world_agree_ends.proofs.Tied.{Tied, sender_on}
use Rattle.qs_world_agree_ends.proofs.Order.{Order}

-- one moment later
on : (a b : ℕ) → a ≤ b → a ≤ b + 1
on a b h = omega arith

by_engage : (p q : ℕ) (w v : World) (now : ℕ) (since said : ℕ → ℕ) (k : ℕ) → Order w now since said k → Step (Engage p q) w v → (w.engaged k ≡ true → k ≢ w.home → w.engager k ≢ w.home → w.engaged (w.engager k) ≡ true) → (q ≢ w.home → w.engaged q ≡ true) → (w.engaged q ≡ true → q ≢ w.home → 1 ≤ since q) → since q ≤ now → Order v (now + 1) (with_at since p (now + 1)) said k
by_engage p q w v now since said k h s above sender was past = grind (arith, nat_tests, h, s)

by_join : (p q : ℕ) (w v : World) (now : ℕ) (since said : ℕ → ℕ) (k : ℕ) → Order w now since said k → Step (Join p q) w v → Order v (now + 1) since said k
by_join p q w v now since said k h s = grind (arith, nat_tests, h, s)

by_cover : (p q : ℕ) (w v : World) (now : ℕ) (since said : ℕ → ℕ) (k : ℕ) → Order w now since said k → Step (Cover p q) w v → Order v (now + 1) since said k
by_cover p q w v now since said k h s = grind (arith, nat_tests, h, s)

by_yes : (p : ℕ) (w v : World) (now : ℕ) (since said : ℕ → ℕ) (k : ℕ) → Order w now since said k → Step (Yes p) w v → (w.engaged k ≡ true → k ≢ w.home → w.engager k ≢ w.home → w.engaged (w.engager k) ≡ true) → Order v (now + 1) since (with_at said p (now + 1)) k
by_yes p w v now since said k h s above = grind (arith, nat_tests, h, s.1.engaged, s)

by_yes_lost : (p : ℕ) (w v : World) (now : ℕ) (since said : ℕ → ℕ) (k : ℕ) → Order w now since said k → Step (Yes_lost p) w v → (w.engaged k ≡ true → k ≢ w.home → w.engager k ≢ w.home → w.engaged (w.engager k) ≡ true) → Order v (now + 1) since (with_at said p (now + 1)) k
by_yes_lost p w v now since said k h s above = grind (arith, nat_tests, h, s.1.engaged, s)

by_commit : (w v : World) (now : ℕ) (since said : ℕ → ℕ) (k : ℕ) → Order w now since said k → Step Commit w v → Order v (now + 1) since said k
by_commit w v now since said k h s = grind (arith, nat_tests, h, s)

by_commit_cut : (w v : World) (now : ℕ) (since said : ℕ → ℕ) (k : ℕ) → Order w now since said k → Step Commit_cut w v → Order v (now + 1) since said k
by_commit_cut w v now since said k h s = grind (arith, nat_tests, h, s)

by_commit_unlogged : (w v : World) (now : ℕ) (since said : ℕ → ℕ) (k : ℕ) → Order w now since said k → Step Commit_unlogged w v → Order v (now + 1) since said k
by_commit_unlogged w v now since said k h s = grind (arith, nat_tests, h, s)

by_abort : (w v : World) (now : ℕ) (since said : ℕ → ℕ) (k : ℕ) → Order w now since said k → Step Abort w v → Order v (now + 1) since said k
by_abort w v now since said k h s = grind (arith, nat_tests, h, s)

by_drop_engage : (p q : ℕ) (w v : World) (now : ℕ) (since said : ℕ → ℕ) (k : ℕ) → Order w now since said k → Step (Drop_engage p q) w v → (w.engaged k ≡ true → k ≢ w.home → w.engager k ≢ w.home → w.engaged (w.engager k) ≡ true) → (q ≢ w.home → w.engaged q ≡ true) → (w.engaged q ≡ true → q ≢ w.home → 1 ≤ since q) → since q ≤ now → Order v (now + 1) (with_at since p (now + 1)) said k
by_drop_engage p q w v now since said k h s above sender was past = grind (arith, nat_tests, h, s)

by_drop_join : (p q : ℕ) (w v : World) (now : ℕ) (since said : ℕ → ℕ) (k : ℕ) → Order w now since said k → Step (Drop_join p q) w v → Order v (now + 1) since said k
by_drop_join p q w v now since said k h s = grind (arith, nat_tests, h, s)

by_drop_cover : (p q : ℕ) (w v : World) (now : ℕ) (since said : ℕ → ℕ) (k : ℕ) → Order w now since said k → Step (Drop_cover p q) w v → Order v (now + 1) since said k
by_drop_cover p q w v now since said k h s = grind (arith, nat_tests, h, s)

pub order_step : (e : Event) (w v : World) (now : ℕ) (since said : ℕ → ℕ) (k : ℕ) → Counts w → ((i j : ℕ) → Covers w i j) → ((j : ℕ) → Tied w j) → ((j : ℕ) → Order w now since said j) → Step e w v → Order v (now + 1) (engaged_by (now + 1) e since) (said_by (now + 1) e said) k
order_step (Issue p q r) w v now since said k c x t o s = rw s.3 (record { since_past = on (since k) now (o k).since_past; said_past = on (said k) now (o k).said_past; away = (o k).away; is_in = (o k).is_in; left = (o k).left; superior = (o k).superior; took = (o k).took; was = (o k).was; earlier = (o k).earlier; later = (o k).later })
order_step (Issue_unmet p q r) w v now since said k c x t o s = rw s.3 (record { since_past = on (since k) now (o k).since_past; said_past = on (said k) now (o k).said_past; away = (o k).away; is_in = (o k).is_in; left = (o k).left; superior = (o k).superior; took = (o k).took; was = (o k).was; earlier = (o k).earlier; later = (o k).later })
order_step (Issue_local p q) w v now since said k c x t o s = rw s.1 (record { since_past = on (since k) now (o k).since_past; said_past = on (said k) now (o k).said_past; away = (o k).away; is_in = (o k).is_in; left = (o k).left; superior = (o k).superior; took = (o k).took; was = (o k).was; earlier = (o k).earlier; later = (o k).later })
order_step (Meet p q) w v now since said k c x t o s = rw s.5 (record { since_past = on (since k) now (o k).since_past; said_past = on (said k) now (o k).said_past; away = (o k).away; is_in = (o k).is_in; left = (o k).left; superior = (o k).superior; took = (o k).took; was = (o k).was; earlier = (o k).earlier; later = (o k).later })
order_step (Notice p q) w v now since said k c x t o s = rw s.5 (record { since_past = on (since k) now (o k).since_past; said_past = on (said k) now (o k).said_past; away = (o k).away; is_in = (o k).is_in; left = (o k).left; superior = (o k).superior; took = (o k).took; was = (o k).was; earlier = (o k).earlier; later = (o k).later })
order_step (Engage p q) w v now since said k c x t o s = by_engage p q w v now since said k (o k) s (t k).above (λ other. sender_on w p q c (x q p) (t q) s.0 other) (o q).is_in (o q).since_past
order_step (Join p q) w v now since said k c x t o s = by_join p q w v now since said k (o k) s
order_step (Cover p q) w v now since said k c x t o s = by_cover p q w v now since said k (o k) s
order_step (Serve p q) w v now since said k c x t o s = rw s.2 (record { since_past = on (since k) now (o k).since_past; said_past = on (said k) now (o k).said_past; away = (o k).away; is_in = (o k).is_in; left = (o k).left; superior = (o k).superior; took = (o k).took; was = (o k).was; earlier = (o k).earlier; later = (o k).later })
order_step (Serve_told p q) w v now since said k c x t o s = rw s.2 (record { since_past = on (since k) now (o k).since_past; said_past = on (said k) now (o k).said_past; away = (o k).away; is_in = (o k).is_in; left = (o k).left; superior = (o k).superior; took = (o k).took; was = (o k).was; earlier = (o k).earlier; later = (o k).later })
order_step (Lend p q) w v now since said k c x t o s = rw s.2 (record { since_past = on (since k) now (o k).since_past; said_past = on (said k) now (o k).said_past; away = (o k).away; is_in = (o k).is_in; left = (o k).left; superior = (o k).superior; took = (o k).took; was = (o k).was; earlier = (o k).earlier; later = (o k).later })
order_step (Yield p) w v now since said k c x t o s = rw s.2.2 (record { since_past = on (since k) now (o k).since_past; said_past = on (said k) now (o k).said_past; away = (o k).away; is_in = (o k).is_in; left = (o k).left; superior = (o k).superior; took = (o k).took; was = (o k).was; earlier = (o k).earlier; later = (o k).later })
order_step (Ask p) w v now since said k c x t o s = rw s.1 (record { since_past = on (since k) now (o k).since_past; said_past = on (said k) now (o k).said_past; away = (o k).away; is_in = (o k).is_in; left = (o k).left; superior = (o k).superior; took = (o k).took; was = (o k).was; earlier = (o k).earlier; later = (o k).later })
order_step (Vote_read p q) w v now since said k c x t o s = rw s.1 (record { since_past = on (since k) now (o k).since_past; said_past = on (said k) now (o k).said_past; away = (o k).away; is_in = (o k).is_in; left = (o k).left; superior = (o k).superior; took = (o k).took; was = (o k).was; earlier = (o k).earlier; later = (o k).later })
order_step (Vote_volatile p q) w v now since said k c x t o s = rw s.2 (record { since_past = on (since k) now (o k).since_past; said_past = on (said k) now (o k).said_past; away = (o k).away; is_in = (o k).is_in; left = (o k).left; superior = (o k).superior; took = (o k).took; was = (o k).was; earlier = (o k).earlier; later = (o k).later })
order_step (Force p q) w v now since said k c x t o s = rw s.2 (record { since_past = on (since k) now (o k).since_past; said_past = on (said k) now (o k).said_past; away = (o k).away; is_in = (o k).is_in; left = (o k).left; superior = (o k).superior; took = (o k).took; was = (o k).was; earlier = (o k).earlier; later = (o k).later })
order_step (Vote_recoverable p q) w v now since said k c x t o s = rw s.2 (record { since_past = on (since k) now (o k).since_past; said_past = on (said k) now (o k).said_past; away = (o k).away; is_in = (o k).is_in; left = (o k).left; superior = (o k).superior; took = (o k).took; was = (o k).was; earlier = (o k).earlier; later = (o k).later })
order_step (Vote_abort p q) w v now since said k c x t o s = rw s.1 (record { since_past = on (since k) now (o k).since_past; said_past = on (said k) now (o k).said_past; away = (o k).away; is_in = (o k).is_in; left = (o k).left; superior = (o k).superior; took = (o k).took; was = (o k).was; earlier = (o k).earlier; later = (o k).later })
order_step (Yes p) w v now since said k c x t o s = by_yes p w v now since said k (o k) s (t k).above
order_step (Yes_lost p) w v now since said k c x t o s = by_yes_lost p w v now since said k (o k) s (t k).above
order_step (Count p q) w v now since said k c x t o s = rw s.3 (record { since_past = on (since k) now (o k).since_past; said_past = on (said k) now (o k).said_past; away = (o k).away; is_in = (o k).is_in; left = (o k).left; superior = (o k).superior; took = (o k).took; was = (o k).was; earlier = (o k).earlier; later = (o k).later })
order_step (Ignore p q) w v now since said k c x t o s = rw s.4 (record { since_past = on (since k) now (o k).since_past; said_past = on (said k) now (o k).said_past; away = (o k).away; is_in = (o k).is_in; left = (o k).left; superior = (o k).superior; took = (o k).took; was = (o k).was; earlier = (o k).earlier; later = (o k).later })
order_step (Refuse p) w v now since said k c x t o s = rw s.1 (record { since_past = on (since k) now (o k).since_past; said_past = on (said k) now (o k).said_past; away = (o k).away; is_in = (o k).is_in; left = (o k).left; superior = (o k).superior; took = (o k).took; was = (o k).was; earlier = (o k).earlier; later = (o k).later })
order_step (Miss p) w v now since said k c x t o s = rw s.2 (record { since_past = on (since k) now (o k).since_past; said_past = on (said k) now (o k).said_past; away = (o k).away; is_in = (o k).is_in; left = (o k).left; superior = (o k).superior; took = (o k).took; was = (o k).was; earlier = (o k).earlier; later = (o k).later })
order_step (Forget p) w v now since said k c x t o s = rw s.5 (record { since_past = on (since k) now (o k).since_past; said_past = on (said k) now (o k).said_past; away = (o k).away; is_in = (o k).is_in; left = (o k).left; superior = (o k).superior; took = (o k).took; was = (o k).was; earlier = (o k).earlier; later = (o k).later })
order_step (Crash p) w v now since said k c x t o s = rw s.1 (record { since_past = on (since k) now (o k).since_past; said_past = on (said k) now (o k).said_past; away = (o k).away; is_in = (o k).is_in; left = (o k).left; superior = (o k).superior; took = (o k).took; was = (o k).was; earlier = (o k).earlier; later = (o k).later })
order_step (Restart p) w v now since said k c x t o s = rw s.4 (record { since_past = on (since k) now (o k).since_past; said_past = on (said k) now (o k).said_past; away = (o k).away; is_in = (o k).is_in; left = (o k).left; superior = (o k).superior; took = (o k).took; was = (o k).was; earlier = (o k).earlier; later = (o k).later })
order_step (Restart_in_doubt p q) w v now since said k c x t o s = rw s.4 (record { since_past = on (since k) now (o k).since_past; said_past = on (said k) now (o k).said_past; away = (o k).away; is_in = (o k).is_in; left = (o k).left; superior = (o k).superior; took = (o k).took; was = (o k).was; earlier = (o k).earlier; later = (o k).later })
order_step (Restart_home p) w v now since said k c x t o s = rw s.3 (record { since_past = on (since k) now (o k).since_past; said_past = on (said k) now (o k).said_past; away = (o k).away; is_in = (o k).is_in; left = (o k).left; superior = (o k).superior; took = (o k).took; was = (o k).was; earlier = (o k).earlier; later = (o k).later })
order_step Commit w v now since said k c x t o s = by_commit w v now since said k (o k) s
order_step Commit_cut w v now since said k c x t o s = by_commit_cut w v now since said k (o k) s
order_step Commit_unlogged w v now since said k c x t o s = by_commit_unlogged w v now since said k (o k) s
order_step Abort w v now since said k c x t o s = by_abort w v now since said k (o k) s
order_step (Tell p q) w v now since said k c x t o s = rw s.3 (record { since_past = on (since k) now (o k).since_past; said_past = on (said k) now (o k).said_past; away = (o k).away; is_in = (o k).is_in; left = (o k).left; superior = (o k).superior; took = (o k).took; was = (o k).was; earlier = (o k).earlier; later = (o k).later })
order_step (Learn p) w v now since said k c x t o s = rw s.3 (record { since_past = on (since k) now (o k).since_past; said_past = on (said k) now (o k).said_past; away = (o k).away; is_in = (o k).is_in; left = (o k).left; superior = (o k).superior; took = (o k).took; was = (o k).was; earlier = (o k).earlier; later = (o k).later })
order_step (Learn_cut p) w v now since said k c x t o s = rw s.3 (record { since_past = on (since k) now (o k).since_past; said_past = on (said k) now (o k).said_past; away = (o k).away; is_in = (o k).is_in; left = (o k).left; superior = (o k).superior; took = (o k).took; was = (o k).was; earlier = (o k).earlier; later = (o k).later })
order_step (Learn_home p) w v now since said k c x t o s = rw s.3 (record { since_past = on (since k) now (o k).since_past; said_past = on (said k) now (o k).said_past; away = (o k).away; is_in = (o k).is_in; left = (o k).left; superior = (o k).superior; took = (o k).took; was = (o k).was; earlier = (o k).earlier; later = (o k).later })
order_step (Acknowledge p) w v now since said k c x t o s = rw s.2 (record { since_past = on (since k) now (o k).since_past; said_past = on (said k) now (o k).said_past; away = (o k).away; is_in = (o k).is_in; left = (o k).left; superior = (o k).superior; took = (o k).took; was = (o k).was; earlier = (o k).earlier; later = (o k).later })
order_step (Take_told p q) w v now since said k c x t o s = rw s.3 (record { since_past = on (since k) now (o k).since_past; said_past = on (said k) now (o k).said_past; away = (o k).away; is_in = (o k).is_in; left = (o k).left; superior = (o k).superior; took = (o k).took; was = (o k).was; earlier = (o k).earlier; later = (o k).later })
order_step (End p) w v now since said k c x t o s = rw s.4 (record { since_past = on (since k) now (o k).since_past; said_past = on (said k) now (o k).said_past; away = (o k).away; is_in = (o k).is_in; left = (o k).left; superior = (o k).superior; took = (o k).took; was = (o k).was; earlier = (o k).earlier; later = (o k).later })
order_step (Checkpoint p) w v now since said k c x t o s = rw s.3 (record { since_past = on (since k) now (o k).since_past; said_past = on (said k) now (o k).said_past; away = (o k).away; is_in = (o k).is_in; left = (o k).left; superior = (o k).superior; took = (o k).took; was = (o k).was; earlier = (o k).earlier; later = (o k).later })
order_step (Tell_abort p q) w v now since said k c x t o s = rw s.4 (record { since_past = on (since k) now (o k).since_past; said_past = on (said k) now (o k).said_past; away = (o k).away; is_in = (o k).is_in; left = (o k).left; superior = (o k).superior; took = (o k).took; was = (o k).was; earlier = (o k).earlier; later = (o k).later })
order_step (Learn_abort p) w v now since said k c x t o s = rw s.2 (record { since_past = on (since k) now (o k).since_past; said_past = on (said k) now (o k).said_past; away = (o k).away; is_in = (o k).is_in; left = (o k).left; superior = (o k).superior; took = (o k).took; was = (o k).was; earlier = (o k).earlier; later = (o k).later })
order_step (Name_again p) w v now since said k c x t o s = rw s.3 (record { since_past = on (since k) now (o k).since_past; said_past = on (said k) now (o k).said_past; away = (o k).away; is_in = (o k).is_in; left = (o k).left; superior = (o k).superior; took = (o k).took; was = (o k).was; earlier = (o k).earlier; later = (o k).later })
order_step (Take_names p q r) w v now since said k c x t o s = rw s.2 (record { since_past = on (since k) now (o k).since_past; said_past = on (said k) now (o k).said_past; away = (o k).away; is_in = (o k).is_in; left = (o k).left; superior = (o k).superior; took = (o k).took; was = (o k).was; earlier = (o k).earlier; later = (o k).later })
order_step (Learn_abort_home p q) w v now since said k c x t o s = rw s.3 (record { since_past = on (since k) now (o k).since_past; said_past = on (said k) now (o k).said_past; away = (o k).away; is_in = (o k).is_in; left = (o k).left; superior = (o k).superior; took = (o k).took; was = (o k).was; earlier = (o k).earlier; later = (o k).later })
order_step (Abort_logged p) w v now since said k c x t o s = rw s.2 (record { since_past = on (since k) now (o k).since_past; said_past = on (said k) now (o k).said_past; away = (o k).away; is_in = (o k).is_in; left = (o k).left; superior = (o k).superior; took = (o k).took; was = (o k).was; earlier = (o k).earlier; later = (o k).later })
order_step (Drop_engage p q) w v now since said k c x t o s = by_drop_engage p q w v now since said k (o k) s (t k).above (λ other. sender_on w p q c (x q p) (t q) s.0 other) (o q).is_in (o q).since_past
order_step (Drop_join p q) w v now since said k c x t o s = by_drop_join p q w v now since said k (o k) s
order_step (Drop_cover p q) w v now since said k c x t o s = by_drop_cover p q w v now since said k (o k) s
order_step (Inquire p) w v now since said k c x t o s = rw s.4 (record { since_past = on (since k) now (o k).since_past; said_past = on (said k) now (o k).said_past; away = (o k).away; is_in = (o k).is_in; left = (o k).left; superior = (o k).superior; took = (o k).took; was = (o k).was; earlier = (o k).earlier; later = (o k).later })
order_step (Inquire_lost p) w v now since said k c x t o s = rw s.5 (record { since_past = on (since k) now (o k).since_past; said_past = on (said k) now (o k).said_past; away = (o k).away; is_in = (o k).is_in; left = (o k).left; superior = (o k).superior; took = (o k).took; was = (o k).was; earlier = (o k).earlier; later = (o k).later })
order_step (Inquire_home p) w v now since said k c x t o s = rw s.5 (record { since_past = on (since k) now (o k).since_past; said_past = on (said k) now (o k).said_past; away = (o k).away; is_in = (o k).is_in; left = (o k).left; superior = (o k).superior; took = (o k).took; was = (o k).was; earlier = (o k).earlier; later = (o k).later })
order_step (Answer_commit p q) w v now since said k c x t o s = rw s.2 (record { since_past = on (since k) now (o k).since_past; said_past = on (said k) now (o k).said_past; away = (o k).away; is_in = (o k).is_in; left = (o k).left; superior = (o k).superior; took = (o k).took; was = (o k).was; earlier = (o k).earlier; later = (o k).later })
order_step (Answer_running p) w v now since said k c x t o s = rw s.2 (record { since_past = on (since k) now (o k).since_past; said_past = on (said k) now (o k).said_past; away = (o k).away; is_in = (o k).is_in; left = (o k).left; superior = (o k).superior; took = (o k).took; was = (o k).was; earlier = (o k).earlier; later = (o k).later })
order_step (Answer_abort p q) w v now since said k c x t o s = rw s.2 (record { since_past = on (since k) now (o k).since_past; said_past = on (said k) now (o k).said_past; away = (o k).away; is_in = (o k).is_in; left = (o k).left; superior = (o k).superior; took = (o k).took; was = (o k).was; earlier = (o k).earlier; later = (o k).later })
