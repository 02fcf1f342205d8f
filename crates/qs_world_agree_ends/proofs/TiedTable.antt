-- Tied holds after each event.
use Rattle.std.proofs.Common.{◌≡◌, ◌≢◌, ℕ, ◌+◌, ◌<◌, ◌≤◌, true, false, arith}
use Rattle.std.proofs.lemmas.Bool.Decides.{nat_tests}
use Rattle.qs_world_agree.specs.World.{World}
use Rattle.qs_world_agree.specs.Step.{Event, Issue, Issue_unmet, Issue_local, Meet, Notice, Engage, Join, Cover, Serve, Serve_told, Lend, Yield, Ask, Vote_read, Vote_volatile, Force, Vote_recoverable, Vote_abort, Yes, Yes_lost, Count, Ignore, Refuse, Miss, Forget, Crash, Restart, Restart_in_doubt, Restart_home, Commit, Commit_cut, Commit_unlogged, Abort, Tell, Learn, Learn_cut, Learn_home, Acknowledge, Take_told, End, Checkpoint, Tell_abort, Learn_abort, Name_again, Take_names, Learn_abort_home, Abort_logged, Drop_engage, Drop_join, Drop_cover, Inquire, Inquire_lost, Inquire_home, Answer_commit, Answer_running, Answer_abort, Step}
use Rattle.qs_world_agree.proofs.Counts.{Counts}
use Rattle.qs_world_agree.proofs.Facts.{born, closer_received, known_now, next_closer, old_received}
use Rattle.qs_world_agree_ends.proofs.Covers.{Covers, next_uncovered}
use Rattle.qs_world_agree_ends.proofs.Tied.{Tied, Tie, sender_on, tied_to}

by_issue : (p q r : ℕ) (w v : World) (k : ℕ) → Tied w k → Step (Issue p q r) w v → (w.engaged k ≡ true → k ≢ w.home → Tie w k) → (1 ≤ w.peer p q → w.node (w.peer p q) ≡ q) → Tied v k
by_issue p q r w v k h s link same_node = grind (arith, nat_tests, h, s)

by_issue_unmet : (p q r : ℕ) (w v : World) (k : ℕ) → Tied w k → Step (Issue_unmet p q r) w v → Tied v k
by_issue_unmet p q r w v k h s = grind (arith, nat_tests, h, s)

by_issue_local : (p q : ℕ) (w v : World) (k : ℕ) → Tied w k → Step (Issue_local p q) w v → Tied v k
by_issue_local p q w v k h s = grind (arith, nat_tests, h, s)

by_meet : (p q : ℕ) (w v : World) (k : ℕ) → Tied w k → Step (Meet p q) w v → (w.engaged k ≡ true → k ≢ w.home → Tie w k) → Tied v k
by_meet p q w v k h s link = grind (arith, nat_tests, h, s)

by_notice : (p q : ℕ) (w v : World) (k : ℕ) → Tied w k → Step (Notice p q) w v → (w.engaged k ≡ true → k ≢ w.home → Tie w k) → w.covered p (w.node q) ≤ w.sent p (w.node q) → Tied v k
by_notice p q w v k h s link within = grind (arith, nat_tests, h, s)

by_engage : (p q : ℕ) (w v : World) (k : ℕ) → Tied w k → Step (Engage p q) w v → (q ≢ w.home → w.engaged q ≡ true) → (w.gone q ≡ false → w.covered q (w.node p) < w.received p q + 1) → ((x : ℕ) → 1 ≤ x → x ≤ w.closers p q → w.closer p q x ≤ w.received p q) → ((r : ℕ) → w.node r ≡ w.node p → r < p → w.posted q r ≤ w.received p q) → w.peer q (w.node p) ≤ p → p ≤ w.present (w.node p) → Tied v k
by_engage p q w v k h s sender bare back before known born = grind (arith, nat_tests, h, s)

by_join : (p q : ℕ) (w v : World) (k : ℕ) → Tied w k → Step (Join p q) w v → w.last p q ≤ w.received p q → Tied v k
by_join p q w v k h s past = grind (arith, nat_tests, h, s)

by_cover : (p q : ℕ) (w v : World) (k : ℕ) → Tied w k → Step (Cover p q) w v → Tied v k
by_cover p q w v k h s = grind (arith, nat_tests, h, s)

by_serve : (p q : ℕ) (w v : World) (k : ℕ) → Tied w k → Step (Serve p q) w v → Tied v k
by_serve p q w v k h s = grind (arith, nat_tests, h, s)

by_serve_told : (p q : ℕ) (w v : World) (k : ℕ) → Tied w k → Step (Serve_told p q) w v → Tied v k
by_serve_told p q w v k h s = grind (arith, nat_tests, h, s)

by_lend : (p q : ℕ) (w v : World) (k : ℕ) → Tied w k → Step (Lend p q) w v → Tied v k
by_lend p q w v k h s = grind (arith, nat_tests, h, s)

by_yield : (p : ℕ) (w v : World) (k : ℕ) → Tied w k → Step (Yield p) w v → Tied v k
by_yield p w v k h s = grind (arith, nat_tests, h, s)

by_vote_read : (p q : ℕ) (w v : World) (k : ℕ) → Tied w k → Step (Vote_read p q) w v → Tied v k
by_vote_read p q w v k h s = grind (arith, nat_tests, h, s)

by_vote_volatile : (p q : ℕ) (w v : World) (k : ℕ) → Tied w k → Step (Vote_volatile p q) w v → Tied v k
by_vote_volatile p q w v k h s = grind (arith, nat_tests, h, s)

by_vote_recoverable : (p q : ℕ) (w v : World) (k : ℕ) → Tied w k → Step (Vote_recoverable p q) w v → Tied v k
by_vote_recoverable p q w v k h s = grind (arith, nat_tests, h, s)

by_yes : (p : ℕ) (w v : World) (k : ℕ) → Tied w k → Step (Yes p) w v → (w.engaged k ≡ true → k ≢ w.home → Tie w k) → Tied v k
by_yes p w v k h s link = grind (arith, nat_tests, h, s.1.covered (w.node k), s)

by_yes_lost : (p : ℕ) (w v : World) (k : ℕ) → Tied w k → Step (Yes_lost p) w v → (w.engaged k ≡ true → k ≢ w.home → Tie w k) → Tied v k
by_yes_lost p w v k h s link = grind (arith, nat_tests, h, s.1.covered (w.node k), s)

by_count : (p q : ℕ) (w v : World) (k : ℕ) → Tied w k → Step (Count p q) w v → w.closer q p (w.closers_taken p q + 1) ≤ w.posted p q → Tied v k
by_count p q w v k h s below = grind (arith, nat_tests, h, h.low (w.closers_taken p q + 1), h.old q, s)

by_miss : (p : ℕ) (w v : World) (k : ℕ) → Tied w k → Step (Miss p) w v → Tied v k
by_miss p w v k h s = grind (arith, nat_tests, h, s)

by_restart : (p : ℕ) (w v : World) (k : ℕ) → Tied w k → Step (Restart p) w v → Tied v k
by_restart p w v k h s = grind (arith, nat_tests, h, s)

by_restart_in_doubt : (p q : ℕ) (w v : World) (k : ℕ) → Tied w k → Step (Restart_in_doubt p q) w v → Tied v k
by_restart_in_doubt p q w v k h s = grind (arith, nat_tests, h, s)

by_restart_home : (p : ℕ) (w v : World) (k : ℕ) → Tied w k → Step (Restart_home p) w v → Tied v k
by_restart_home p w v k h s = grind (arith, nat_tests, h, s)

by_commit : (w v : World) (k : ℕ) → Tied w k → Step Commit w v → Tied v k
by_commit w v k h s = grind (arith, nat_tests, h, s)

by_commit_cut : (w v : World) (k : ℕ) → Tied w k → Step Commit_cut w v → Tied v k
by_commit_cut w v k h s = grind (arith, nat_tests, h, s)

by_commit_unlogged : (w v : World) (k : ℕ) → Tied w k → Step Commit_unlogged w v → Tied v k
by_commit_unlogged w v k h s = grind (arith, nat_tests, h, s)

by_abort : (w v : World) (k : ℕ) → Tied w k → Step Abort w v → Tied v k
by_abort w v k h s = grind (arith, nat_tests, h, s)

by_learn : (p : ℕ) (w v : World) (k : ℕ) → Tied w k → Step (Learn p) w v → Tied v k
by_learn p w v k h s = grind (arith, nat_tests, h, s)

by_learn_abort : (p : ℕ) (w v : World) (k : ℕ) → Tied w k → Step (Learn_abort p) w v → Tied v k
by_learn_abort p w v k h s = grind (arith, nat_tests, h, s)

by_take_names : (p q r : ℕ) (w v : World) (k : ℕ) → Tied w k → Step (Take_names p q r) w v → Tied v k
by_take_names p q r w v k h s = grind (arith, nat_tests, h, s)

by_learn_abort_home : (p q : ℕ) (w v : World) (k : ℕ) → Tied w k → Step (Learn_abort_home p q) w v → Tied v k
by_learn_abort_home p q w v k h s = grind (arith, nat_tests, h, s)

by_drop_engage : (p q : ℕ) (w v : World) (k : ℕ) → Tied w k → Step (Drop_engage p q) w v → (q ≢ w.home → w.engaged q ≡ true) → (w.gone q ≡ false → w.covered q (w.node p) < w.received p q + 1) → ((x : ℕ) → 1 ≤ x → x ≤ w.closers p q → w.closer p q x ≤ w.received p q) → ((r : ℕ) → w.node r ≡ w.node p → r < p → w.posted q r ≤ w.received p q) → w.peer q (w.node p) ≤ p → p ≤ w.present (w.node p) → Tied v k
by_drop_engage p q w v k h s sender bare back before known born = grind (arith, nat_tests, h, s)

by_drop_join : (p q : ℕ) (w v : World) (k : ℕ) → Tied w k → Step (Drop_join p q) w v → w.last p q ≤ w.received p q → Tied v k
by_drop_join p q w v k h s past = grind (arith, nat_tests, h, s)

by_drop_cover : (p q : ℕ) (w v : World) (k : ℕ) → Tied w k → Step (Drop_cover p q) w v → Tied v k
by_drop_cover p q w v k h s = grind (arith, nat_tests, h, s)

by_answer_abort : (p q : ℕ) (w v : World) (k : ℕ) → Tied w k → Step (Answer_abort p q) w v → Tied v k
by_answer_abort p q w v k h s = grind (arith, nat_tests, h, s)

pub tied_step : (e : Event) (w v : World) (k : ℕ) → Counts w → ((i j : ℕ) → Covers w i j) → ((j : ℕ) → Tied w j) → Step e w v → Tied v k
tied_step (Issue p q r) w v k c x t s = by_issue p q r w v k (t k) s (λ on other. tied_to w k c (t k) on other) (c.peer_node p q)
tied_step (Issue_unmet p q r) w v k c x t s = by_issue_unmet p q r w v k (t k) s
tied_step (Issue_local p q) w v k c x t s = by_issue_local p q w v k (t k) s
tied_step (Meet p q) w v k c x t s = by_meet p q w v k (t k) s (λ on other. tied_to w k c (t k) on other)
tied_step (Notice p q) w v k c x t s = by_notice p q w v k (t k) s (λ on other. tied_to w k c (t k) on other) (c.covered_sent p (w.node q))
tied_step (Engage p q) w v k c x t s = by_engage p q w v k (t k) s (λ other. sender_on w p q c (x q p) (t q) s.0 other) (λ g. next_uncovered w p q c (x q p) s.0 g) (λ x from to. closer_received w p q x c from to) (λ r same below. old_received w q p r c s.0 same below) (known_now w q p c s.0) (born w p c s.0.0)
tied_step (Join p q) w v k c x t s = by_join p q w v k (t k) s (c.last_received p q)
tied_step (Cover p q) w v k c x t s = by_cover p q w v k (t k) s
tied_step (Serve p q) w v k c x t s = by_serve p q w v k (t k) s
tied_step (Serve_told p q) w v k c x t s = by_serve_told p q w v k (t k) s
tied_step (Lend p q) w v k c x t s = by_lend p q w v k (t k) s
tied_step (Yield p) w v k c x t s = by_yield p w v k (t k) s
tied_step (Ask p) w v k c x t s = rw s.1 (record { unborn = (t k).unborn; sent_engaged = (t k).sent_engaged; waits_engaged = (t k).waits_engaged; vote_engaged = (t k).vote_engaged; loan_engaged = (t k).loan_engaged; gone_engaged = (t k).gone_engaged; away = (t k).away; above = (t k).above; nearer = (t k).nearer; superior = (t k).superior; took = (t k).took; uncovered = (t k).uncovered; low = (t k).low; old = (t k).old; newer = (t k).newer })
tied_step (Vote_read p q) w v k c x t s = by_vote_read p q w v k (t k) s
tied_step (Vote_volatile p q) w v k c x t s = by_vote_volatile p q w v k (t k) s
tied_step (Force p q) w v k c x t s = rw s.2 (record { unborn = (t k).unborn; sent_engaged = (t k).sent_engaged; waits_engaged = (t k).waits_engaged; vote_engaged = (t k).vote_engaged; loan_engaged = (t k).loan_engaged; gone_engaged = (t k).gone_engaged; away = (t k).away; above = (t k).above; nearer = (t k).nearer; superior = (t k).superior; took = (t k).took; uncovered = (t k).uncovered; low = (t k).low; old = (t k).old; newer = (t k).newer })
tied_step (Vote_recoverable p q) w v k c x t s = by_vote_recoverable p q w v k (t k) s
tied_step (Vote_abort p q) w v k c x t s = rw s.1 (record { unborn = (t k).unborn; sent_engaged = (t k).sent_engaged; waits_engaged = (t k).waits_engaged; vote_engaged = (t k).vote_engaged; loan_engaged = (t k).loan_engaged; gone_engaged = (t k).gone_engaged; away = (t k).away; above = (t k).above; nearer = (t k).nearer; superior = (t k).superior; took = (t k).took; uncovered = (t k).uncovered; low = (t k).low; old = (t k).old; newer = (t k).newer })
tied_step (Yes p) w v k c x t s = by_yes p w v k (t k) s (λ on other. tied_to w k c (t k) on other)
tied_step (Yes_lost p) w v k c x t s = by_yes_lost p w v k (t k) s (λ on other. tied_to w k c (t k) on other)
tied_step (Count p q) w v k c x t s = by_count p q w v k (t k) s (next_closer w p q c s.2)
tied_step (Ignore p q) w v k c x t s = rw s.4 (record { unborn = (t k).unborn; sent_engaged = (t k).sent_engaged; waits_engaged = (t k).waits_engaged; vote_engaged = (t k).vote_engaged; loan_engaged = (t k).loan_engaged; gone_engaged = (t k).gone_engaged; away = (t k).away; above = (t k).above; nearer = (t k).nearer; superior = (t k).superior; took = (t k).took; uncovered = (t k).uncovered; low = (t k).low; old = (t k).old; newer = (t k).newer })
tied_step (Refuse p) w v k c x t s = rw s.1 (record { unborn = (t k).unborn; sent_engaged = (t k).sent_engaged; waits_engaged = (t k).waits_engaged; vote_engaged = (t k).vote_engaged; loan_engaged = (t k).loan_engaged; gone_engaged = (t k).gone_engaged; away = (t k).away; above = (t k).above; nearer = (t k).nearer; superior = (t k).superior; took = (t k).took; uncovered = (t k).uncovered; low = (t k).low; old = (t k).old; newer = (t k).newer })
tied_step (Miss p) w v k c x t s = by_miss p w v k (t k) s
tied_step (Forget p) w v k c x t s = rw s.5 (record { unborn = (t k).unborn; sent_engaged = (t k).sent_engaged; waits_engaged = (t k).waits_engaged; vote_engaged = (t k).vote_engaged; loan_engaged = (t k).loan_engaged; gone_engaged = (t k).gone_engaged; away = (t k).away; above = (t k).above; nearer = (t k).nearer; superior = (t k).superior; took = (t k).took; uncovered = (t k).uncovered; low = (t k).low; old = (t k).old; newer = (t k).newer })
tied_step (Crash p) w v k c x t s = rw s.1 (record { unborn = (t k).unborn; sent_engaged = (t k).sent_engaged; waits_engaged = (t k).waits_engaged; vote_engaged = (t k).vote_engaged; loan_engaged = (t k).loan_engaged; gone_engaged = (t k).gone_engaged; away = (t k).away; above = (t k).above; nearer = (t k).nearer; superior = (t k).superior; took = (t k).took; uncovered = (t k).uncovered; low = (t k).low; old = (t k).old; newer = (t k).newer })
tied_step (Restart p) w v k c x t s = by_restart p w v k (t k) s
tied_step (Restart_in_doubt p q) w v k c x t s = by_restart_in_doubt p q w v k (t k) s
tied_step (Restart_home p) w v k c x t s = by_restart_home p w v k (t k) s
tied_step Commit w v k c x t s = by_commit w v k (t k) s
tied_step Commit_cut w v k c x t s = by_commit_cut w v k (t k) s
tied_step Commit_unlogged w v k c x t s = by_commit_unlogged w v k (t k) s
tied_step Abort w v k c x t s = by_abort w v k (t k) s
tied_step (Tell p q) w v k c x t s = rw s.3 (record { unborn = (t k).unborn; sent_engaged = (t k).sent_engaged; waits_engaged = (t k).waits_engaged; vote_engaged = (t k).vote_engaged; loan_engaged = (t k).loan_engaged; gone_engaged = (t k).gone_engaged; away = (t k).away; above = (t k).above; nearer = (t k).nearer; superior = (t k).superior; took = (t k).took; uncovered = (t k).uncovered; low = (t k).low; old = (t k).old; newer = (t k).newer })
tied_step (Learn p) w v k c x t s = by_learn p w v k (t k) s
tied_step (Learn_cut p) w v k c x t s = rw s.3 (record { unborn = (t k).unborn; sent_engaged = (t k).sent_engaged; waits_engaged = (t k).waits_engaged; vote_engaged = (t k).vote_engaged; loan_engaged = (t k).loan_engaged; gone_engaged = (t k).gone_engaged; away = (t k).away; above = (t k).above; nearer = (t k).nearer; superior = (t k).superior; took = (t k).took; uncovered = (t k).uncovered; low = (t k).low; old = (t k).old; newer = (t k).newer })
tied_step (Learn_home p) w v k c x t s = rw s.3 (record { unborn = (t k).unborn; sent_engaged = (t k).sent_engaged; waits_engaged = (t k).waits_engaged; vote_engaged = (t k).vote_engaged; loan_engaged = (t k).loan_engaged; gone_engaged = (t k).gone_engaged; away = (t k).away; above = (t k).above; nearer = (t k).nearer; superior = (t k).superior; took = (t k).took; uncovered = (t k).uncovered; low = (t k).low; old = (t k).old; newer = (t k).newer })
tied_step (Acknowledge p) w v k c x t s = rw s.2 (record { unborn = (t k).unborn; sent_engaged = (t k).sent_engaged; waits_engaged = (t k).waits_engaged; vote_engaged = (t k).vote_engaged; loan_engaged = (t k).loan_engaged; gone_engaged = (t k).gone_engaged; away = (t k).away; above = (t k).above; nearer = (t k).nearer; superior = (t k).superior; took = (t k).took; uncovered = (t k).uncovered; low = (t k).low; old = (t k).old; newer = (t k).newer })
tied_step (Take_told p q) w v k c x t s = rw s.3 (record { unborn = (t k).unborn; sent_engaged = (t k).sent_engaged; waits_engaged = (t k).waits_engaged; vote_engaged = (t k).vote_engaged; loan_engaged = (t k).loan_engaged; gone_engaged = (t k).gone_engaged; away = (t k).away; above = (t k).above; nearer = (t k).nearer; superior = (t k).superior; took = (t k).took; uncovered = (t k).uncovered; low = (t k).low; old = (t k).old; newer = (t k).newer })
tied_step (End p) w v k c x t s = rw s.4 (record { unborn = (t k).unborn; sent_engaged = (t k).sent_engaged; waits_engaged = (t k).waits_engaged; vote_engaged = (t k).vote_engaged; loan_engaged = (t k).loan_engaged; gone_engaged = (t k).gone_engaged; away = (t k).away; above = (t k).above; nearer = (t k).nearer; superior = (t k).superior; took = (t k).took; uncovered = (t k).uncovered; low = (t k).low; old = (t k).old; newer = (t k).newer })
tied_step (Checkpoint p) w v k c x t s = rw s.3 (record { unborn = (t k).unborn; sent_engaged = (t k).sent_engaged; waits_engaged = (t k).waits_engaged; vote_engaged = (t k).vote_engaged; loan_engaged = (t k).loan_engaged; gone_engaged = (t k).gone_engaged; away = (t k).away; above = (t k).above; nearer = (t k).nearer; superior = (t k).superior; took = (t k).took; uncovered = (t k).uncovered; low = (t k).low; old = (t k).old; newer = (t k).newer })
tied_step (Tell_abort p q) w v k c x t s = rw s.4 (record { unborn = (t k).unborn; sent_engaged = (t k).sent_engaged; waits_engaged = (t k).waits_engaged; vote_engaged = (t k).vote_engaged; loan_engaged = (t k).loan_engaged; gone_engaged = (t k).gone_engaged; away = (t k).away; above = (t k).above; nearer = (t k).nearer; superior = (t k).superior; took = (t k).took; uncovered = (t k).uncovered; low = (t k).low; old = (t k).old; newer = (t k).newer })
tied_step (Learn_abort p) w v k c x t s = by_learn_abort p w v k (t k) s
tied_step (Name_again p) w v k c x t s = rw s.3 (record { unborn = (t k).unborn; sent_engaged = (t k).sent_engaged; waits_engaged = (t k).waits_engaged; vote_engaged = (t k).vote_engaged; loan_engaged = (t k).loan_engaged; gone_engaged = (t k).gone_engaged; away = (t k).away; above = (t k).above; nearer = (t k).nearer; superior = (t k).superior; took = (t k).took; uncovered = (t k).uncovered; low = (t k).low; old = (t k).old; newer = (t k).newer })
tied_step (Take_names p q r) w v k c x t s = by_take_names p q r w v k (t k) s
tied_step (Learn_abort_home p q) w v k c x t s = by_learn_abort_home p q w v k (t k) s
tied_step (Abort_logged p) w v k c x t s = rw s.2 (record { unborn = (t k).unborn; sent_engaged = (t k).sent_engaged; waits_engaged = (t k).waits_engaged; vote_engaged = (t k).vote_engaged; loan_engaged = (t k).loan_engaged; gone_engaged = (t k).gone_engaged; away = (t k).away; above = (t k).above; nearer = (t k).nearer; superior = (t k).superior; took = (t k).took; uncovered = (t k).uncovered; low = (t k).low; old = (t k).old; newer = (t k).newer })
tied_step (Drop_engage p q) w v k c x t s = by_drop_engage p q w v k (t k) s (λ other. sender_on w p q c (x q p) (t q) s.0 other) (λ g. next_uncovered w p q c (x q p) s.0 g) (λ x from to. closer_received w p q x c from to) (λ r same below. old_received w q p r c s.0 same below) (known_now w q p c s.0) (born w p c s.0.0)
tied_step (Drop_join p q) w v k c x t s = by_drop_join p q w v k (t k) s (c.last_received p q)
tied_step (Drop_cover p q) w v k c x t s = by_drop_cover p q w v k (t k) s
tied_step (Inquire p) w v k c x t s = rw s.4 (record { unborn = (t k).unborn; sent_engaged = (t k).sent_engaged; waits_engaged = (t k).waits_engaged; vote_engaged = (t k).vote_engaged; loan_engaged = (t k).loan_engaged; gone_engaged = (t k).gone_engaged; away = (t k).away; above = (t k).above; nearer = (t k).nearer; superior = (t k).superior; took = (t k).took; uncovered = (t k).uncovered; low = (t k).low; old = (t k).old; newer = (t k).newer })
tied_step (Inquire_lost p) w v k c x t s = rw s.5 (record { unborn = (t k).unborn; sent_engaged = (t k).sent_engaged; waits_engaged = (t k).waits_engaged; vote_engaged = (t k).vote_engaged; loan_engaged = (t k).loan_engaged; gone_engaged = (t k).gone_engaged; away = (t k).away; above = (t k).above; nearer = (t k).nearer; superior = (t k).superior; took = (t k).took; uncovered = (t k).uncovered; low = (t k).low; old = (t k).old; newer = (t k).newer })
tied_step (Inquire_home p) w v k c x t s = rw s.5 (record { unborn = (t k).unborn; sent_engaged = (t k).sent_engaged; waits_engaged = (t k).waits_engaged; vote_engaged = (t k).vote_engaged; loan_engaged = (t k).loan_engaged; gone_engaged = (t k).gone_engaged; away = (t k).away; above = (t k).above; nearer = (t k).nearer; superior = (t k).superior; took = (t k).took; uncovered = (t k).uncovered; low = (t k).low; old = (t k).old; newer = (t k).newer })
tied_step (Answer_commit p q) w v k c x t s = rw s.2 (record { unborn = (t k).unborn; sent_engaged = (t k).sent_engaged; waits_engaged = (t k).waits_engaged; vote_engaged = (t k).vote_engaged; loan_engaged = (t k).loan_engaged; gone_engaged = (t k).gone_engaged; away = (t k).away; above = (t k).above; nearer = (t k).nearer; superior = (t k).superior; took = (t k).took; uncovered = (t k).uncovered; low = (t k).low; old = (t k).old; newer = (t k).newer })
tied_step (Answer_running p) w v k c x t s = rw s.2 (record { unborn = (t k).unborn; sent_engaged = (t k).sent_engaged; waits_engaged = (t k).waits_engaged; vote_engaged = (t k).vote_engaged; loan_engaged = (t k).loan_engaged; gone_engaged = (t k).gone_engaged; away = (t k).away; above = (t k).above; nearer = (t k).nearer; superior = (t k).superior; took = (t k).took; uncovered = (t k).uncovered; low = (t k).low; old = (t k).old; newer = (t k).newer })
tied_step (Answer_abort p q) w v k c x t s = by_answer_abort p q w v k (t k) s
