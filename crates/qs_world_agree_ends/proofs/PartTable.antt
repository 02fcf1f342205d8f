-- Part holds after each event.
use Rattle.std.proofs.Common.{◌≡◌, ◌≢◌, ℕ, ◌+◌, ◌<◌, ◌≤◌, Bool, true, arith}
use Rattle.std.proofs.lemmas.Bool.Decides.{nat_tests}
use Rattle.qs_world_agree.specs.World.{World, with_at}
use Rattle.qs_world_agree.specs.Guards.{Votes}
use Rattle.qs_world_agree.specs.Step.{Event, Issue, Issue_unmet, Issue_local, Meet, Notice, Engage, Join, Cover, Serve, Serve_told, Lend, Yield, Ask, Vote_read, Vote_volatile, Force, Vote_recoverable, Vote_abort, Yes, Yes_lost, Count, Ignore, Refuse, Miss, Forget, Crash, Restart, Restart_in_doubt, Restart_home, Commit, Commit_cut, Commit_unlogged, Abort, Tell, Learn, Learn_cut, Learn_home, Acknowledge, Take_told, End, Checkpoint, Tell_abort, Learn_abort, Name_again, Take_names, Learn_abort_home, Abort_logged, Drop_engage, Drop_join, Drop_cover, Inquire, Inquire_lost, Inquire_home, Answer_commit, Answer_running, Answer_abort, Step}
use Rattle.qs_world_agree.proofs.Servers.{Servers}
use Rattle.qs_world_agree_ends.specs.Moments.{engaged_by}
use Rattle.qs_world_agree_ends.specs.Waiting.{risen_by}
use Rattle.qs_world_agree_ends.proofs.Tied.{Tied}
use Rattle.qs_world_agree_ends.proofs.Order.{Order}
use Rattle.qs_world_agree_ends.proofs.Part.{Part}

by_issue : (p q r : ℕ) (w v : World) (since : ℕ → ℕ) (risen : ℕ → Bool) (k : ℕ) → Part w since risen k → Step (Issue p q r) w v → (w.engaged p ≡ true → p ≢ w.home → 1 ≤ since p) → (p ≢ w.home → 1 ≤ w.loans p → w.engaged p ≡ true) → Part v since risen k
by_issue p q r w v since risen k h s on loan = grind (arith, nat_tests, h, s)

by_issue_unmet : (p q r : ℕ) (w v : World) (since : ℕ → ℕ) (risen : ℕ → Bool) (k : ℕ) → Part w since risen k → Step (Issue_unmet p q r) w v → (w.engaged p ≡ true → p ≢ w.home → 1 ≤ since p) → (p ≢ w.home → 1 ≤ w.loans p → w.engaged p ≡ true) → Part v since risen k
by_issue_unmet p q r w v since risen k h s on loan = grind (arith, nat_tests, h, s)

by_engage : (p q : ℕ) (w v : World) (now : ℕ) (since : ℕ → ℕ) (risen : ℕ → Bool) (k : ℕ) → Part w since risen k → Step (Engage p q) w v → Part v (with_at since p (now + 1)) risen k
by_engage p q w v now since risen k h s = grind (arith, nat_tests, h, s)

by_serve_told : (p q : ℕ) (w v : World) (since : ℕ → ℕ) (risen : ℕ → Bool) (k : ℕ) → Part w since risen k → Step (Serve_told p q) w v → (w.engaged p ≡ true → p ≢ w.home → 1 ≤ since p) → (p ≢ w.home → w.served p q < w.arrived p q → w.engaged p ≡ true) → Part v since risen k
by_serve_told p q w v since risen k h s on waits = grind (arith, nat_tests, h, s)

by_vote_volatile : (p q : ℕ) (w v : World) (since : ℕ → ℕ) (risen : ℕ → Bool) (k : ℕ) → Part w since risen k → Step (Vote_volatile p q) w v → (w.engaged p ≡ true → p ≢ w.home → 1 ≤ since p) → (p ≢ w.home → Votes w p q → w.voted p q < w.arrived p q → w.engaged p ≡ true) → w.served p q ≤ w.arrived p q → Part v since risen k
by_vote_volatile p q w v since risen k h s on vote within = grind (arith, nat_tests, h, s)

by_force : (p q : ℕ) (w v : World) (since : ℕ → ℕ) (risen : ℕ → Bool) (k : ℕ) → Part w since risen k → Step (Force p q) w v → (w.engaged p ≡ true → p ≢ w.home → 1 ≤ since p) → (p ≢ w.home → Votes w p q → w.voted p q < w.arrived p q → w.engaged p ≡ true) → w.served p q ≤ w.arrived p q → Part v since risen k
by_force p q w v since risen k h s on vote within = grind (arith, nat_tests, h, s)

by_vote_recoverable : (p q : ℕ) (w v : World) (since : ℕ → ℕ) (risen : ℕ → Bool) (k : ℕ) → Part w since risen k → Step (Vote_recoverable p q) w v → (w.engaged p ≡ true → p ≢ w.home → 1 ≤ since p) → (p ≢ w.home → Votes w p q → w.voted p q < w.arrived p q → w.engaged p ≡ true) → w.served p q ≤ w.arrived p q → Part v since risen k
by_vote_recoverable p q w v since risen k h s on vote within = grind (arith, nat_tests, h, s)

by_restart : (p : ℕ) (w v : World) (since : ℕ → ℕ) (risen : ℕ → Bool) (k : ℕ) → Part w since risen k → Step (Restart p) w v → Part v since risen k
by_restart p w v since risen k h s = grind (arith, nat_tests, h, s)

by_restart_in_doubt : (p q : ℕ) (w v : World) (since : ℕ → ℕ) (risen : ℕ → Bool) (k : ℕ) → Part w since risen k → Step (Restart_in_doubt p q) w v → Part v since (with_at risen p true) k
by_restart_in_doubt p q w v since risen k h s = grind (arith, nat_tests, h, s)

by_restart_home : (p : ℕ) (w v : World) (since : ℕ → ℕ) (risen : ℕ → Bool) (k : ℕ) → Part w since risen k → Step (Restart_home p) w v → Part v since risen k
by_restart_home p w v since risen k h s = grind (arith, nat_tests, h, s)

by_drop_engage : (p q : ℕ) (w v : World) (now : ℕ) (since : ℕ → ℕ) (risen : ℕ → Bool) (k : ℕ) → Part w since risen k → Step (Drop_engage p q) w v → Part v (with_at since p (now + 1)) risen k
by_drop_engage p q w v now since risen k h s = grind (arith, nat_tests, h, s)

pub part_step : (e : Event) (w v : World) (now : ℕ) (since said : ℕ → ℕ) (risen : ℕ → Bool) (k : ℕ) → ((j i : ℕ) → Servers w j i) → ((j : ℕ) → Tied w j) → ((j : ℕ) → Order w now since said j) → Part w since risen k → Step e w v → Part v (engaged_by (now + 1) e since) (risen_by e risen) k
part_step (Issue p q r) w v now since said risen k x t o h s = by_issue p q r w v since risen k h s (o p).is_in (t p).loan_engaged
part_step (Issue_unmet p q r) w v now since said risen k x t o h s = by_issue_unmet p q r w v since risen k h s (o p).is_in (t p).loan_engaged
part_step (Issue_local p q) w v now since said risen k x t o h s = rw s.1 (record { part = h.part })
part_step (Meet p q) w v now since said risen k x t o h s = rw s.5 (record { part = h.part })
part_step (Notice p q) w v now since said risen k x t o h s = rw s.5 (record { part = h.part })
part_step (Engage p q) w v now since said risen k x t o h s = by_engage p q w v now since risen k h s
part_step (Join p q) w v now since said risen k x t o h s = rw s.5 (record { part = h.part })
part_step (Cover p q) w v now since said risen k x t o h s = rw s.4 (record { part = h.part })
part_step (Serve p q) w v now since said risen k x t o h s = rw s.2 (record { part = h.part })
part_step (Serve_told p q) w v now since said risen k x t o h s = by_serve_told p q w v since risen k h s (o p).is_in ((t p).waits_engaged q)
part_step (Lend p q) w v now since said risen k x t o h s = rw s.2 (record { part = h.part })
part_step (Yield p) w v now since said risen k x t o h s = rw s.2.2 (record { part = h.part })
part_step (Ask p) w v now since said risen k x t o h s = rw s.1 (record { part = h.part })
part_step (Vote_read p q) w v now since said risen k x t o h s = rw s.1 (record { part = h.part })
part_step (Vote_volatile p q) w v now since said risen k x t o h s = by_vote_volatile p q w v since risen k h s (o p).is_in ((t p).vote_engaged q) (x p q).served_arrived
part_step (Force p q) w v now since said risen k x t o h s = by_force p q w v since risen k h s (o p).is_in ((t p).vote_engaged q) (x p q).served_arrived
part_step (Vote_recoverable p q) w v now since said risen k x t o h s = by_vote_recoverable p q w v since risen k h s (o p).is_in ((t p).vote_engaged q) (x p q).served_arrived
part_step (Vote_abort p q) w v now since said risen k x t o h s = rw s.1 (record { part = h.part })
part_step (Yes p) w v now since said risen k x t o h s = rw s.3 (record { part = h.part })
part_step (Yes_lost p) w v now since said risen k x t o h s = rw s.3 (record { part = h.part })
part_step (Count p q) w v now since said risen k x t o h s = rw s.3 (record { part = h.part })
part_step (Ignore p q) w v now since said risen k x t o h s = rw s.4 (record { part = h.part })
part_step (Refuse p) w v now since said risen k x t o h s = rw s.1 (record { part = h.part })
part_step (Miss p) w v now since said risen k x t o h s = rw s.2 (record { part = h.part })
part_step (Forget p) w v now since said risen k x t o h s = rw s.5 (record { part = h.part })
part_step (Crash p) w v now since said risen k x t o h s = rw s.1 (record { part = h.part })
part_step (Restart p) w v now since said risen k x t o h s = by_restart p w v since risen k h s
part_step (Restart_in_doubt p q) w v now since said risen k x t o h s = by_restart_in_doubt p q w v since risen k h s
part_step (Restart_home p) w v now since said risen k x t o h s = by_restart_home p w v since risen k h s
part_step Commit w v now since said risen k x t o h s = rw s.1 (record { part = h.part })
part_step Commit_cut w v now since said risen k x t o h s = rw s.1 (record { part = h.part })
part_step Commit_unlogged w v now since said risen k x t o h s = rw s.3 (record { part = h.part })
part_step Abort w v now since said risen k x t o h s = rw s.2 (record { part = h.part })
part_step (Tell p q) w v now since said risen k x t o h s = rw s.3 (record { part = h.part })
part_step (Learn p) w v now since said risen k x t o h s = rw s.3 (record { part = h.part })
part_step (Learn_cut p) w v now since said risen k x t o h s = rw s.3 (record { part = h.part })
part_step (Learn_home p) w v now since said risen k x t o h s = rw s.3 (record { part = h.part })
part_step (Acknowledge p) w v now since said risen k x t o h s = rw s.2 (record { part = h.part })
part_step (Take_told p q) w v now since said risen k x t o h s = rw s.3 (record { part = h.part })
part_step (End p) w v now since said risen k x t o h s = rw s.4 (record { part = h.part })
part_step (Checkpoint p) w v now since said risen k x t o h s = rw s.3 (record { part = h.part })
part_step (Tell_abort p q) w v now since said risen k x t o h s = rw s.4 (record { part = h.part })
part_step (Learn_abort p) w v now since said risen k x t o h s = rw s.2 (record { part = h.part })
part_step (Name_again p) w v now since said risen k x t o h s = rw s.3 (record { part = h.part })
part_step (Take_names p q r) w v now since said risen k x t o h s = rw s.2 (record { part = h.part })
part_step (Learn_abort_home p q) w v now since said risen k x t o h s = rw s.3 (record { part = h.part })
part_step (Abort_logged p) w v now since said risen k x t o h s = rw s.2 (record { part = h.part })
part_step (Drop_engage p q) w v now since said risen k x t o h s = by_drop_engage p q w v now since risen k h s
part_step (Drop_join p q) w v now since said risen k x t o h s = rw s.5 (record { part = h.part })
part_step (Drop_cover p q) w v now since said risen k x t o h s = rw s.3 (record { part = h.part })
part_step (Inquire p) w v now since said risen k x t o h s = rw s.4 (record { part = h.part })
part_step (Inquire_lost p) w v now since said risen k x t o h s = rw s.5 (record { part = h.part })
part_step (Inquire_home p) w v now since said risen k x t o h s = rw s.5 (record { part = h.part })
part_step (Answer_commit p q) w v now since said risen k x t o h s = rw s.2 (record { part = h.part })
part_step (Answer_running p) w v now since said risen k x t o h s = rw s.2 (record { part = h.part })
part_step (Answer_abort p q) w v now since said risen k x t o h s = rw s.2 (record { part = h.part })
