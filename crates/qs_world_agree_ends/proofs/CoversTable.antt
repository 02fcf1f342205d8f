-- Covers holds after each event.
use Rattle.std.proofs.Common.{◌≡◌, ℕ, ◌+◌, ◌<◌, ◌≤◌, arith}
use Rattle.std.proofs.lemmas.Bool.Decides.{nat_tests}
use Rattle.qs_world_agree.specs.World.{World}
use Rattle.qs_world_agree.specs.Step.{Event, Issue, Issue_unmet, Issue_local, Meet, Notice, Engage, Join, Cover, Serve, Serve_told, Lend, Yield, Ask, Vote_read, Vote_volatile, Force, Vote_recoverable, Vote_abort, Yes, Yes_lost, Count, Ignore, Refuse, Miss, Forget, Crash, Restart, Restart_in_doubt, Restart_home, Commit, Commit_cut, Commit_unlogged, Abort, Tell, Learn, Learn_cut, Learn_home, Acknowledge, Take_told, End, Checkpoint, Tell_abort, Learn_abort, Name_again, Take_names, Learn_abort_home, Abort_logged, Drop_engage, Drop_join, Drop_cover, Inquire, Inquire_lost, Inquire_home, Answer_commit, Answer_running, Answer_abort, Step}
use Rattle.qs_world_agree.proofs.Counts.{Counts}
use Rattle.qs_world_agree.proofs.Facts.{closer_received}
use Rattle.qs_world_agree_ends.proofs.Covers.{Covers}

-- the next answer covers what was handed up
next_received : (w : World) (p q : ℕ) → Counts w → w.closers_taken p q < w.closers q p → w.closer q p (w.closers_taken p q + 1) ≤ w.received q p
next_received w p q c more = closer_received w q p (w.closers_taken p q + 1) c (omega arith) (omega arith)

by_issue : (p q r : ℕ) (w v : World) (a b : ℕ) → Covers w a b → Step (Issue p q r) w v → (1 ≤ w.peer p q → w.node (w.peer p q) ≡ q) → Covers v a b
by_issue p q r w v a b h s same_node = grind (arith, nat_tests, h, s)

by_meet : (p q : ℕ) (w v : World) (a b : ℕ) → Covers w a b → Step (Meet p q) w v → (w.peer a (w.node b) < b → w.posted a b ≡ 0) → w.posted a 0 ≡ 0 → Covers v a b
by_meet p q w v a b h s low none = grind (arith, nat_tests, h, s)

by_notice : (p q : ℕ) (w v : World) (a b : ℕ) → Covers w a b → Step (Notice p q) w v → w.covered p (w.node q) ≤ w.sent p (w.node q) → w.posted a b ≤ w.sent a (w.node b) → w.covered a (w.node b) ≤ w.sent a (w.node b) → Covers v a b
by_notice p q w v a b h s within put all = grind (arith, nat_tests, h, s)

by_engage : (p q : ℕ) (w v : World) (a b : ℕ) → Covers w a b → Step (Engage p q) w v → Covers v a b
by_engage p q w v a b h s = grind (arith, nat_tests, h, s)

by_join : (p q : ℕ) (w v : World) (a b : ℕ) → Covers w a b → Step (Join p q) w v → Covers v a b
by_join p q w v a b h s = grind (arith, nat_tests, h, s)

by_cover : (p q : ℕ) (w v : World) (a b : ℕ) → Covers w a b → Step (Cover p q) w v → Covers v a b
by_cover p q w v a b h s = grind (arith, nat_tests, h, s)

by_yes : (p : ℕ) (w v : World) (a b : ℕ) → Covers w a b → Step (Yes p) w v → Covers v a b
by_yes p w v a b h s = grind (arith, nat_tests, h, s)

by_yes_lost : (p : ℕ) (w v : World) (a b : ℕ) → Covers w a b → Step (Yes_lost p) w v → Covers v a b
by_yes_lost p w v a b h s = grind (arith, nat_tests, h, s)

by_count : (p q : ℕ) (w v : World) (a b : ℕ) → Covers w a b → Step (Count p q) w v → w.closer q p (w.closers_taken p q + 1) ≤ w.received q p → w.received q p ≤ w.posted p q → w.posted p 0 ≡ 0 → Covers v a b
by_count p q w v a b h s low put none = grind (arith, nat_tests, h, s)

by_ignore : (p q : ℕ) (w v : World) (a b : ℕ) → Covers w a b → Step (Ignore p q) w v → Covers v a b
by_ignore p q w v a b h s = grind (arith, nat_tests, h, s)

by_miss : (p : ℕ) (w v : World) (a b : ℕ) → Covers w a b → Step (Miss p) w v → Covers v a b
by_miss p w v a b h s = grind (arith, nat_tests, h, s)

by_drop_engage : (p q : ℕ) (w v : World) (a b : ℕ) → Covers w a b → Step (Drop_engage p q) w v → Covers v a b
by_drop_engage p q w v a b h s = grind (arith, nat_tests, h, s)

by_drop_join : (p q : ℕ) (w v : World) (a b : ℕ) → Covers w a b → Step (Drop_join p q) w v → Covers v a b
by_drop_join p q w v a b h s = grind (arith, nat_tests, h, s)

by_drop_cover : (p q : ℕ) (w v : World) (a b : ℕ) → Covers w a b → Step (Drop_cover p q) w v → Covers v a b
by_drop_cover p q w v a b h s = grind (arith, nat_tests, h, s)

pub covers_step : (e : Event) (w v : World) (a b : ℕ) → Counts w → Covers w a b → Step e w v → Covers v a b
covers_step (Issue p q r) w v a b c h s = by_issue p q r w v a b h s (c.peer_node p q)
covers_step (Issue_unmet p q r) w v a b c h s = rw s.3 (record { taken = h.taken; met = h.met; unmet = h.unmet; known = h.known; put_known = h.put_known })
covers_step (Issue_local p q) w v a b c h s = rw s.1 (record { taken = h.taken; met = h.met; unmet = h.unmet; known = h.known; put_known = h.put_known })
covers_step (Meet p q) w v a b c h s = by_meet p q w v a b h s (c.posted_known a b) (c.posted_none a)
covers_step (Notice p q) w v a b c h s = by_notice p q w v a b h s (c.covered_sent p (w.node q)) (c.posted_sent a b) (c.covered_sent a (w.node b))
covers_step (Engage p q) w v a b c h s = by_engage p q w v a b h s
covers_step (Join p q) w v a b c h s = by_join p q w v a b h s
covers_step (Cover p q) w v a b c h s = by_cover p q w v a b h s
covers_step (Serve p q) w v a b c h s = rw s.2 (record { taken = h.taken; met = h.met; unmet = h.unmet; known = h.known; put_known = h.put_known })
covers_step (Serve_told p q) w v a b c h s = rw s.2 (record { taken = h.taken; met = h.met; unmet = h.unmet; known = h.known; put_known = h.put_known })
covers_step (Lend p q) w v a b c h s = rw s.2 (record { taken = h.taken; met = h.met; unmet = h.unmet; known = h.known; put_known = h.put_known })
covers_step (Yield p) w v a b c h s = rw s.2.2 (record { taken = h.taken; met = h.met; unmet = h.unmet; known = h.known; put_known = h.put_known })
covers_step (Ask p) w v a b c h s = rw s.1 (record { taken = h.taken; met = h.met; unmet = h.unmet; known = h.known; put_known = h.put_known })
covers_step (Vote_read p q) w v a b c h s = rw s.1 (record { taken = h.taken; met = h.met; unmet = h.unmet; known = h.known; put_known = h.put_known })
covers_step (Vote_volatile p q) w v a b c h s = rw s.2 (record { taken = h.taken; met = h.met; unmet = h.unmet; known = h.known; put_known = h.put_known })
covers_step (Force p q) w v a b c h s = rw s.2 (record { taken = h.taken; met = h.met; unmet = h.unmet; known = h.known; put_known = h.put_known })
covers_step (Vote_recoverable p q) w v a b c h s = rw s.2 (record { taken = h.taken; met = h.met; unmet = h.unmet; known = h.known; put_known = h.put_known })
covers_step (Vote_abort p q) w v a b c h s = rw s.1 (record { taken = h.taken; met = h.met; unmet = h.unmet; known = h.known; put_known = h.put_known })
covers_step (Yes p) w v a b c h s = by_yes p w v a b h s
covers_step (Yes_lost p) w v a b c h s = by_yes_lost p w v a b h s
covers_step (Count p q) w v a b c h s = by_count p q w v a b h s (next_received w p q c s.2) (c.received_posted q p) (c.posted_none p)
covers_step (Ignore p q) w v a b c h s = by_ignore p q w v a b h s
covers_step (Refuse p) w v a b c h s = rw s.1 (record { taken = h.taken; met = h.met; unmet = h.unmet; known = h.known; put_known = h.put_known })
covers_step (Miss p) w v a b c h s = by_miss p w v a b h s
covers_step (Forget p) w v a b c h s = rw s.5 (record { taken = h.taken; met = h.met; unmet = h.unmet; known = h.known; put_known = h.put_known })
covers_step (Crash p) w v a b c h s = rw s.1 (record { taken = h.taken; met = h.met; unmet = h.unmet; known = h.known; put_known = h.put_known })
covers_step (Restart p) w v a b c h s = rw s.4 (record { taken = h.taken; met = h.met; unmet = h.unmet; known = h.known; put_known = h.put_known })
covers_step (Restart_in_doubt p q) w v a b c h s = rw s.4 (record { taken = h.taken; met = h.met; unmet = h.unmet; known = h.known; put_known = h.put_known })
covers_step (Restart_home p) w v a b c h s = rw s.3 (record { taken = h.taken; met = h.met; unmet = h.unmet; known = h.known; put_known = h.put_known })
covers_step Commit w v a b c h s = rw s.1 (record { taken = h.taken; met = h.met; unmet = h.unmet; known = h.known; put_known = h.put_known })
covers_step Commit_cut w v a b c h s = rw s.1 (record { taken = h.taken; met = h.met; unmet = h.unmet; known = h.known; put_known = h.put_known })
covers_step Commit_unlogged w v a b c h s = rw s.3 (record { taken = h.taken; met = h.met; unmet = h.unmet; known = h.known; put_known = h.put_known })
covers_step Abort w v a b c h s = rw s.2 (record { taken = h.taken; met = h.met; unmet = h.unmet; known = h.known; put_known = h.put_known })
covers_step (Tell p q) w v a b c h s = rw s.3 (record { taken = h.taken; met = h.met; unmet = h.unmet; known = h.known; put_known = h.put_known })
covers_step (Learn p) w v a b c h s = rw s.3 (record { taken = h.taken; met = h.met; unmet = h.unmet; known = h.known; put_known = h.put_known })
covers_step (Learn_cut p) w v a b c h s = rw s.3 (record { taken = h.taken; met = h.met; unmet = h.unmet; known = h.known; put_known = h.put_known })
covers_step (Learn_home p) w v a b c h s = rw s.3 (record { taken = h.taken; met = h.met; unmet = h.unmet; known = h.known; put_known = h.put_known })
covers_step (Acknowledge p) w v a b c h s = rw s.2 (record { taken = h.taken; met = h.met; unmet = h.unmet; known = h.known; put_known = h.put_known })
covers_step (Take_told p q) w v a b c h s = rw s.3 (record { taken = h.taken; met = h.met; unmet = h.unmet; known = h.known; put_known = h.put_known })
covers_step (End p) w v a b c h s = rw s.4 (record { taken = h.taken; met = h.met; unmet = h.unmet; known = h.known; put_known = h.put_known })
covers_step (Checkpoint p) w v a b c h s = rw s.3 (record { taken = h.taken; met = h.met; unmet = h.unmet; known = h.known; put_known = h.put_known })
covers_step (Tell_abort p q) w v a b c h s = rw s.4 (record { taken = h.taken; met = h.met; unmet = h.unmet; known = h.known; put_known = h.put_known })
covers_step (Learn_abort p) w v a b c h s = rw s.2 (record { taken = h.taken; met = h.met; unmet = h.unmet; known = h.known; put_known = h.put_known })
covers_step (Name_again p) w v a b c h s = rw s.3 (record { taken = h.taken; met = h.met; unmet = h.unmet; known = h.known; put_known = h.put_known })
covers_step (Take_names p q r) w v a b c h s = rw s.2 (record { taken = h.taken; met = h.met; unmet = h.unmet; known = h.known; put_known = h.put_known })
covers_step (Learn_abort_home p q) w v a b c h s = rw s.3 (record { taken = h.taken; met = h.met; unmet = h.unmet; known = h.known; put_known = h.put_known })
covers_step (Abort_logged p) w v a b c h s = rw s.2 (record { taken = h.taken; met = h.met; unmet = h.unmet; known = h.known; put_known = h.put_known })
covers_step (Drop_engage p q) w v a b c h s = by_drop_engage p q w v a b h s
covers_step (Drop_join p q) w v a b c h s = by_drop_join p q w v a b h s
covers_step (Drop_cover p q) w v a b c h s = by_drop_cover p q w v a b h s
covers_step (Inquire p) w v a b c h s = rw s.4 (record { taken = h.taken; met = h.met; unmet = h.unmet; known = h.known; put_known = h.put_known })
covers_step (Inquire_lost p) w v a b c h s = rw s.5 (record { taken = h.taken; met = h.met; unmet = h.unmet; known = h.known; put_known = h.put_known })
covers_step (Inquire_home p) w v a b c h s = rw s.5 (record { taken = h.taken; met = h.met; unmet = h.unmet; known = h.known; put_known = h.put_known })
covers_step (Answer_commit p q) w v a b c h s = rw s.2 (record { taken = h.taken; met = h.met; unmet = h.unmet; known = h.known; put_known = h.put_known })
covers_step (Answer_running p) w v a b c h s = rw s.2 (record { taken = h.taken; met = h.met; unmet = h.unmet; known = h.known; put_known = h.put_known })
covers_step (Answer_abort p q) w v a b c h s = rw s.2 (record { taken = h.taken; met = h.met; unmet = h.unmet; known = h.known; put_known = h.put_known })
