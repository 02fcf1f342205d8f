-- GoesOn holds after each event.
use Rattle.std.proofs.Common.{◌≡◌, ◌≢◌, ℕ, ◌<◌, ◌≤◌, true, false, arith}
use Rattle.std.proofs.lemmas.Bool.Decides.{nat_tests}
use Rattle.qs_world_agree.specs.World.{World}
use Rattle.qs_world_agree.specs.Step.{Event, Issue, Issue_unmet, Issue_local, Meet, Notice, Engage, Join, Cover, Serve, Serve_told, Lend, Yield, Ask, Vote_read, Vote_volatile, Force, Vote_recoverable, Vote_abort, Yes, Yes_lost, Count, Ignore, Refuse, Miss, Forget, Crash, Restart, Restart_in_doubt, Restart_home, Commit, Commit_cut, Commit_unlogged, Abort, Tell, Learn, Learn_cut, Learn_home, Acknowledge, Take_told, End, Checkpoint, Tell_abort, Learn_abort, Name_again, Take_names, Learn_abort_home, Abort_logged, Drop_engage, Drop_join, Drop_cover, Inquire, Inquire_lost, Inquire_home, Answer_commit, Answer_running, Answer_abort, Step}
use Rattle.qs_world_agree.proofs.Counts.{Counts}
use Rattle.qs_world_agree_ends.proofs.Covers.{Covers}
use Rattle.qs_world_agree_ends.proofs.Tied.{Tied}
use Rattle.qs_world_agree_ends.proofs.GoesOn.{GoesOn}

by_issue : (p q r : ℕ) (w v : World) (a b j : ℕ) → GoesOn w a b j → Step (Issue p q r) w v → w.posted a b ≤ w.sent a (w.node b) → w.received b a ≤ w.posted a b → (w.peer a (w.node b) ≡ b → 1 ≤ b → w.posted a b ≡ w.sent a (w.node b)) → (1 ≤ w.peer p q → w.node (w.peer p q) ≡ q) → GoesOn v a b j
by_issue p q r w v a b j h s put took all same_node = grind (arith, nat_tests, h, s)

by_meet : (p q : ℕ) (w v : World) (a b j : ℕ) → GoesOn w a b j → Step (Meet p q) w v → w.received b a ≤ w.posted a b → (w.peer a (w.node b) < b → w.posted a b ≡ 0) → GoesOn v a b j
by_meet p q w v a b j h s took none = grind (arith, nat_tests, h, s)

by_notice : (p q : ℕ) (w v : World) (a b j : ℕ) → GoesOn w a b j → Step (Notice p q) w v → w.posted a b ≤ w.sent a (w.node b) → w.received b a ≤ w.posted a b → w.covered p (w.node q) ≤ w.sent p (w.node q) → GoesOn v a b j
by_notice p q w v a b j h s put took within = grind (arith, nat_tests, h, s)

by_engage : (p q : ℕ) (w v : World) (a b j : ℕ) → GoesOn w a b j → Step (Engage p q) w v → w.posted a b ≤ w.sent a (w.node b) → (a ≢ w.home → w.covered a (w.node b) < w.sent a (w.node b) → w.engaged a ≡ true) → GoesOn v a b j
by_engage p q w v a b j h s put on = grind (arith, nat_tests, h, s)

by_join : (p q : ℕ) (w v : World) (a b j : ℕ) → GoesOn w a b j → Step (Join p q) w v → w.last b a ≤ w.received b a → GoesOn v a b j
by_join p q w v a b j h s past = grind (arith, nat_tests, h, s)

by_cover : (p q : ℕ) (w v : World) (a b j : ℕ) → GoesOn w a b j → Step (Cover p q) w v → w.last b a ≤ w.received b a → w.closers_taken a b ≤ w.closers b a → (1 ≤ w.closers b a → w.closer b a (w.closers b a) ≤ w.last b a) → GoesOn v a b j
by_cover p q w v a b j h s past taken back = grind (arith, nat_tests, h, s)

by_yes : (p : ℕ) (w v : World) (a b j : ℕ) → GoesOn w a b j → Step (Yes p) w v → w.closers_taken a b ≤ w.closers b a → (1 ≤ w.closers b a → w.closer b a (w.closers b a) ≤ w.last b a) → (w.up a ≡ true → w.present (w.node a) ≡ a) → w.peer b (w.node a) ≤ w.present (w.node a) → (1 ≤ w.last b a → a ≤ w.peer b (w.node a)) → GoesOn v a b j
by_yes p w v a b j h s taken back now known met = grind (arith, nat_tests, h, s)

by_yes_lost : (p : ℕ) (w v : World) (a b j : ℕ) → GoesOn w a b j → Step (Yes_lost p) w v → w.closers_taken a b ≤ w.closers b a → (1 ≤ w.closers b a → w.closer b a (w.closers b a) ≤ w.last b a) → (w.up a ≡ true → w.present (w.node a) ≡ a) → w.peer b (w.node a) ≤ w.present (w.node a) → (1 ≤ w.last b a → a ≤ w.peer b (w.node a)) → GoesOn v a b j
by_yes_lost p w v a b j h s taken back now known met = grind (arith, nat_tests, h, s)

by_count : (p q : ℕ) (w v : World) (a b j : ℕ) → GoesOn w a b j → Step (Count p q) w v → GoesOn v a b j
by_count p q w v a b j h s = grind (arith, nat_tests, h, s)

by_ignore : (p q : ℕ) (w v : World) (a b j : ℕ) → GoesOn w a b j → Step (Ignore p q) w v → GoesOn v a b j
by_ignore p q w v a b j h s = grind (arith, nat_tests, h, s)

by_miss : (p : ℕ) (w v : World) (a b j : ℕ) → GoesOn w a b j → Step (Miss p) w v → GoesOn v a b j
by_miss p w v a b j h s = grind (arith, nat_tests, h, s)

by_crash : (p : ℕ) (w v : World) (a b j : ℕ) → GoesOn w a b j → Step (Crash p) w v → GoesOn v a b j
by_crash p w v a b j h s = grind (arith, nat_tests, h, s)

by_restart : (p : ℕ) (w v : World) (a b j : ℕ) → GoesOn w a b j → Step (Restart p) w v → (w.present (w.node a) < a → w.engaged a ≡ false) → GoesOn v a b j
by_restart p w v a b j h s unborn = grind (arith, nat_tests, h, s)

by_restart_in_doubt : (p q : ℕ) (w v : World) (a b j : ℕ) → GoesOn w a b j → Step (Restart_in_doubt p q) w v → (w.present (w.node a) < a → w.engaged a ≡ false) → GoesOn v a b j
by_restart_in_doubt p q w v a b j h s unborn = grind (arith, nat_tests, h, s)

by_restart_home : (p : ℕ) (w v : World) (a b j : ℕ) → GoesOn w a b j → Step (Restart_home p) w v → (w.present (w.node a) < a → w.engaged a ≡ false) → GoesOn v a b j
by_restart_home p w v a b j h s unborn = grind (arith, nat_tests, h, s)

by_commit : (w v : World) (a b j : ℕ) → GoesOn w a b j → Step Commit w v → GoesOn v a b j
by_commit w v a b j h s = grind (arith, nat_tests, h, s)

by_commit_cut : (w v : World) (a b j : ℕ) → GoesOn w a b j → Step Commit_cut w v → GoesOn v a b j
by_commit_cut w v a b j h s = grind (arith, nat_tests, h, s)

by_commit_unlogged : (w v : World) (a b j : ℕ) → GoesOn w a b j → Step Commit_unlogged w v → GoesOn v a b j
by_commit_unlogged w v a b j h s = grind (arith, nat_tests, h, s)

by_abort : (w v : World) (a b j : ℕ) → GoesOn w a b j → Step Abort w v → GoesOn v a b j
by_abort w v a b j h s = grind (arith, nat_tests, h, s)

by_learn_cut : (p : ℕ) (w v : World) (a b j : ℕ) → GoesOn w a b j → Step (Learn_cut p) w v → GoesOn v a b j
by_learn_cut p w v a b j h s = grind (arith, nat_tests, h, s)

by_drop_engage : (p q : ℕ) (w v : World) (a b j : ℕ) → GoesOn w a b j → Step (Drop_engage p q) w v → w.posted a b ≤ w.sent a (w.node b) → (a ≢ w.home → w.covered a (w.node b) < w.sent a (w.node b) → w.engaged a ≡ true) → GoesOn v a b j
by_drop_engage p q w v a b j h s put on = grind (arith, nat_tests, h, s)

by_drop_join : (p q : ℕ) (w v : World) (a b j : ℕ) → GoesOn w a b j → Step (Drop_join p q) w v → w.last b a ≤ w.received b a → GoesOn v a b j
by_drop_join p q w v a b j h s past = grind (arith, nat_tests, h, s)

by_drop_cover : (p q : ℕ) (w v : World) (a b j : ℕ) → GoesOn w a b j → Step (Drop_cover p q) w v → w.last b a ≤ w.received b a → w.closers_taken a b ≤ w.closers b a → (1 ≤ w.closers b a → w.closer b a (w.closers b a) ≤ w.last b a) → GoesOn v a b j
by_drop_cover p q w v a b j h s past taken back = grind (arith, nat_tests, h, s)

pub goes_on_step : (e : Event) (w v : World) (a b j : ℕ) → Counts w → ((m n : ℕ) → Covers w m n) → ((k : ℕ) → Tied w k) → GoesOn w a b j → Step e w v → GoesOn v a b j
goes_on_step (Issue p q r) w v a b j c x t h s = by_issue p q r w v a b j h s (c.posted_sent a b) (c.received_posted b a) (c.posted_all a b) (c.peer_node p q)
goes_on_step (Issue_unmet p q r) w v a b j c x t h s = rw s.3 h
goes_on_step (Issue_local p q) w v a b j c x t h s = rw s.1 h
goes_on_step (Meet p q) w v a b j c x t h s = by_meet p q w v a b j h s (c.received_posted b a) (c.posted_known a b)
goes_on_step (Notice p q) w v a b j c x t h s = by_notice p q w v a b j h s (c.posted_sent a b) (c.received_posted b a) (c.covered_sent p (w.node q))
goes_on_step (Engage p q) w v a b j c x t h s = by_engage p q w v a b j h s (c.posted_sent a b) (λ other below. (t a).sent_engaged (w.node b) other below)
goes_on_step (Join p q) w v a b j c x t h s = by_join p q w v a b j h s (c.last_received b a)
goes_on_step (Cover p q) w v a b j c x t h s = by_cover p q w v a b j h s (c.last_received b a) (x a b).taken (λ some. c.closer_last b a (w.closers b a) some (omega arith))
goes_on_step (Serve p q) w v a b j c x t h s = rw s.2 h
goes_on_step (Serve_told p q) w v a b j c x t h s = rw s.2 h
goes_on_step (Lend p q) w v a b j c x t h s = rw s.2 h
goes_on_step (Yield p) w v a b j c x t h s = rw s.2.2 h
goes_on_step (Ask p) w v a b j c x t h s = rw s.1 h
goes_on_step (Vote_read p q) w v a b j c x t h s = rw s.1 h
goes_on_step (Vote_volatile p q) w v a b j c x t h s = rw s.2 h
goes_on_step (Force p q) w v a b j c x t h s = rw s.2 h
goes_on_step (Vote_recoverable p q) w v a b j c x t h s = rw s.2 h
goes_on_step (Vote_abort p q) w v a b j c x t h s = rw s.1 h
goes_on_step (Yes p) w v a b j c x t h s = by_yes p w v a b j h s (x a b).taken (λ some. c.closer_last b a (w.closers b a) some (omega arith)) (c.up_present a) (c.peer_present b (w.node a)) (x a b).met
goes_on_step (Yes_lost p) w v a b j c x t h s = by_yes_lost p w v a b j h s (x a b).taken (λ some. c.closer_last b a (w.closers b a) some (omega arith)) (c.up_present a) (c.peer_present b (w.node a)) (x a b).met
goes_on_step (Count p q) w v a b j c x t h s = by_count p q w v a b j h s
goes_on_step (Ignore p q) w v a b j c x t h s = by_ignore p q w v a b j h s
goes_on_step (Refuse p) w v a b j c x t h s = rw s.1 h
goes_on_step (Miss p) w v a b j c x t h s = by_miss p w v a b j h s
goes_on_step (Forget p) w v a b j c x t h s = rw s.5 h
goes_on_step (Crash p) w v a b j c x t h s = by_crash p w v a b j h s
goes_on_step (Restart p) w v a b j c x t h s = by_restart p w v a b j h s (t a).unborn
goes_on_step (Restart_in_doubt p q) w v a b j c x t h s = by_restart_in_doubt p q w v a b j h s (t a).unborn
goes_on_step (Restart_home p) w v a b j c x t h s = by_restart_home p w v a b j h s (t a).unborn
goes_on_step Commit w v a b j c x t h s = by_commit w v a b j h s
goes_on_step Commit_cut w v a b j c x t h s = by_commit_cut w v a b j h s
goes_on_step Commit_unlogged w v a b j c x t h s = by_commit_unlogged w v a b j h s
goes_on_step Abort w v a b j c x t h s = by_abort w v a b j h s
goes_on_step (Tell p q) w v a b j c x t h s = rw s.3 h
goes_on_step (Learn p) w v a b j c x t h s = rw s.3 h
goes_on_step (Learn_cut p) w v a b j c x t h s = by_learn_cut p w v a b j h s
goes_on_step (Learn_home p) w v a b j c x t h s = rw s.3 h
goes_on_step (Acknowledge p) w v a b j c x t h s = rw s.2 h
goes_on_step (Take_told p q) w v a b j c x t h s = rw s.3 h
goes_on_step (End p) w v a b j c x t h s = rw s.4 h
goes_on_step (Checkpoint p) w v a b j c x t h s = rw s.3 h
goes_on_step (Tell_abort p q) w v a b j c x t h s = rw s.4 h
goes_on_step (Learn_abort p) w v a b j c x t h s = rw s.2 h
goes_on_step (Name_again p) w v a b j c x t h s = rw s.3 h
goes_on_step (Take_names p q r) w v a b j c x t h s = rw s.2 h
goes_on_step (Learn_abort_home p q) w v a b j c x t h s = rw s.3 h
goes_on_step (Abort_logged p) w v a b j c x t h s = rw s.2 h
goes_on_step (Drop_engage p q) w v a b j c x t h s = by_drop_engage p q w v a b j h s (c.posted_sent a b) (λ other below. (t a).sent_engaged (w.node b) other below)
goes_on_step (Drop_join p q) w v a b j c x t h s = by_drop_join p q w v a b j h s (c.last_received b a)
goes_on_step (Drop_cover p q) w v a b j c x t h s = by_drop_cover p q w v a b j h s (c.last_received b a) (x a b).taken (λ some. c.closer_last b a (w.closers b a) some (omega arith))
goes_on_step (Inquire p) w v a b j c x t h s = rw s.4 h
goes_on_step (Inquire_lost p) w v a b j c x t h s = rw s.5 h
goes_on_step (Inquire_home p) w v a b j c x t h s = rw s.5 h
goes_on_step (Answer_commit p q) w v a b j c x t h s = rw s.2 h
goes_on_step (Answer_running p) w v a b j c x t h s = rw s.2 h
goes_on_step (Answer_abort p q) w v a b j c x t h s = rw s.2 h
