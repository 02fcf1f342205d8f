-- One line for each event: Keeps holds after it.
use Rattle.std.proofs.Common.{◌≡◌, ℕ, true, refl, arith}
use Rattle.std.proofs.lemmas.Bool.Decides.{nat_tests}
use Rattle.qs_world_agree.specs.World.{World}
use Rattle.qs_world_agree.specs.Step.{Issue, Issue_unmet, Issue_local, Meet, Notice, Engage, Join, Cover, Serve, Serve_told, Lend, Yield, Ask, Vote_read, Vote_volatile, Force, Vote_recoverable, Vote_abort, Yes, Yes_lost, Count, Ignore, Refuse, Miss, Forget, Crash, Restart, Restart_in_doubt, Restart_home, Commit, Commit_cut, Commit_unlogged, Abort, Tell, Learn, Learn_cut, Learn_home, Acknowledge, Take_told, End, Checkpoint, Tell_abort, Learn_abort, Name_again, Take_names, Learn_abort_home, Abort_logged, Drop_engage, Drop_join, Drop_cover, Inquire, Inquire_lost, Inquire_home, Answer_commit, Answer_running, Answer_abort, Step}
use Rattle.qs_world_agree.proofs.Keeps.{Keeps}

-- what Keeps speaks of is the same
record Same (w v : World) : Type 0 where
  present : v.present ≡ w.present
  node : v.node ≡ w.node
  outcome : v.outcome ≡ w.outcome
  up : v.up ≡ w.up
  home : v.home ≡ w.home
  cell : v.cell ≡ w.cell

same : (w v : World) (k : ℕ) → Keeps w k → Same w v → Keeps v k
same w v k h e = grind (arith, h, e)

pub by_issue : (p q r : ℕ) (w v : World) (k : ℕ) → Keeps w k → Step (Issue p q r) w v → Keeps v k
by_issue p q r w v k h s = same w v k h (rw s.3 (record { present = refl; node = refl; outcome = refl; up = refl; home = refl; cell = refl }))

pub by_issue_unmet : (p q r : ℕ) (w v : World) (k : ℕ) → Keeps w k → Step (Issue_unmet p q r) w v → Keeps v k
by_issue_unmet p q r w v k h s = same w v k h (rw s.3 (record { present = refl; node = refl; outcome = refl; up = refl; home = refl; cell = refl }))

pub by_issue_local : (p q : ℕ) (w v : World) (k : ℕ) → Keeps w k → Step (Issue_local p q) w v → Keeps v k
by_issue_local p q w v k h s = same w v k h (rw s.1 (record { present = refl; node = refl; outcome = refl; up = refl; home = refl; cell = refl }))

pub by_meet : (p q : ℕ) (w v : World) (k : ℕ) → Keeps w k → Step (Meet p q) w v → Keeps v k
by_meet p q w v k h s = same w v k h (rw s.5 (record { present = refl; node = refl; outcome = refl; up = refl; home = refl; cell = refl }))

pub by_notice : (p q : ℕ) (w v : World) (k : ℕ) → Keeps w k → Step (Notice p q) w v → Keeps v k
by_notice p q w v k h s = same w v k h (rw s.5 (record { present = refl; node = refl; outcome = refl; up = refl; home = refl; cell = refl }))

pub by_engage : (p q : ℕ) (w v : World) (k : ℕ) → Keeps w k → Step (Engage p q) w v → Keeps v k
by_engage p q w v k h s = same w v k h (rw s.4 (record { present = refl; node = refl; outcome = refl; up = refl; home = refl; cell = refl }))

pub by_join : (p q : ℕ) (w v : World) (k : ℕ) → Keeps w k → Step (Join p q) w v → Keeps v k
by_join p q w v k h s = same w v k h (rw s.5 (record { present = refl; node = refl; outcome = refl; up = refl; home = refl; cell = refl }))

pub by_cover : (p q : ℕ) (w v : World) (k : ℕ) → Keeps w k → Step (Cover p q) w v → Keeps v k
by_cover p q w v k h s = same w v k h (rw s.4 (record { present = refl; node = refl; outcome = refl; up = refl; home = refl; cell = refl }))

pub by_serve : (p q : ℕ) (w v : World) (k : ℕ) → Keeps w k → Step (Serve p q) w v → Keeps v k
by_serve p q w v k h s = same w v k h (rw s.2 (record { present = refl; node = refl; outcome = refl; up = refl; home = refl; cell = refl }))

pub by_serve_told : (p q : ℕ) (w v : World) (k : ℕ) → Keeps w k → Step (Serve_told p q) w v → Keeps v k
by_serve_told p q w v k h s = same w v k h (rw s.2 (record { present = refl; node = refl; outcome = refl; up = refl; home = refl; cell = refl }))

pub by_lend : (p q : ℕ) (w v : World) (k : ℕ) → Keeps w k → Step (Lend p q) w v → Keeps v k
by_lend p q w v k h s = same w v k h (rw s.2 (record { present = refl; node = refl; outcome = refl; up = refl; home = refl; cell = refl }))

pub by_yield : (p : ℕ) (w v : World) (k : ℕ) → Keeps w k → Step (Yield p) w v → Keeps v k
by_yield p w v k h s = same w v k h (rw s.2.2 (record { present = refl; node = refl; outcome = refl; up = refl; home = refl; cell = refl }))

pub by_ask : (p : ℕ) (w v : World) (k : ℕ) → Keeps w k → Step (Ask p) w v → Keeps v k
by_ask p w v k h s = same w v k h (rw s.1 (record { present = refl; node = refl; outcome = refl; up = refl; home = refl; cell = refl }))

pub by_vote_read : (p q : ℕ) (w v : World) (k : ℕ) → Keeps w k → Step (Vote_read p q) w v → Keeps v k
by_vote_read p q w v k h s = same w v k h (rw s.1 (record { present = refl; node = refl; outcome = refl; up = refl; home = refl; cell = refl }))

pub by_vote_volatile : (p q : ℕ) (w v : World) (k : ℕ) → Keeps w k → Step (Vote_volatile p q) w v → Keeps v k
by_vote_volatile p q w v k h s = same w v k h (rw s.2 (record { present = refl; node = refl; outcome = refl; up = refl; home = refl; cell = refl }))

pub by_force : (p q : ℕ) (w v : World) (k : ℕ) → Keeps w k → Step (Force p q) w v → Keeps v k
by_force p q w v k h s = same w v k h (rw s.2 (record { present = refl; node = refl; outcome = refl; up = refl; home = refl; cell = refl }))

pub by_vote_recoverable : (p q : ℕ) (w v : World) (k : ℕ) → Keeps w k → Step (Vote_recoverable p q) w v → Keeps v k
by_vote_recoverable p q w v k h s = same w v k h (rw s.2 (record { present = refl; node = refl; outcome = refl; up = refl; home = refl; cell = refl }))

pub by_vote_abort : (p q : ℕ) (w v : World) (k : ℕ) → Keeps w k → Step (Vote_abort p q) w v → Keeps v k
by_vote_abort p q w v k h s = same w v k h (rw s.1 (record { present = refl; node = refl; outcome = refl; up = refl; home = refl; cell = refl }))

pub by_yes : (p : ℕ) (w v : World) (k : ℕ) → Keeps w k → Step (Yes p) w v → Keeps v k
by_yes p w v k h s = same w v k h (rw s.3 (record { present = refl; node = refl; outcome = refl; up = refl; home = refl; cell = refl }))

pub by_yes_lost : (p : ℕ) (w v : World) (k : ℕ) → Keeps w k → Step (Yes_lost p) w v → Keeps v k
by_yes_lost p w v k h s = same w v k h (rw s.3 (record { present = refl; node = refl; outcome = refl; up = refl; home = refl; cell = refl }))

pub by_count : (p q : ℕ) (w v : World) (k : ℕ) → Keeps w k → Step (Count p q) w v → Keeps v k
by_count p q w v k h s = same w v k h (rw s.3 (record { present = refl; node = refl; outcome = refl; up = refl; home = refl; cell = refl }))

pub by_ignore : (p q : ℕ) (w v : World) (k : ℕ) → Keeps w k → Step (Ignore p q) w v → Keeps v k
by_ignore p q w v k h s = same w v k h (rw s.4 (record { present = refl; node = refl; outcome = refl; up = refl; home = refl; cell = refl }))

pub by_refuse : (p : ℕ) (w v : World) (k : ℕ) → Keeps w k → Step (Refuse p) w v → Keeps v k
by_refuse p w v k h s = same w v k h (rw s.1 (record { present = refl; node = refl; outcome = refl; up = refl; home = refl; cell = refl }))

pub by_miss : (p : ℕ) (w v : World) (k : ℕ) → Keeps w k → Step (Miss p) w v → Keeps v k
by_miss p w v k h s = same w v k h (rw s.2 (record { present = refl; node = refl; outcome = refl; up = refl; home = refl; cell = refl }))

pub by_forget : (p : ℕ) (w v : World) (k : ℕ) → Keeps w k → Step (Forget p) w v → Keeps v k
by_forget p w v k h s = same w v k h (rw s.5 (record { present = refl; node = refl; outcome = refl; up = refl; home = refl; cell = refl }))

pub by_crash : (p : ℕ) (w v : World) (k : ℕ) → Keeps w k → Step (Crash p) w v → Keeps v k
by_crash p w v k h s = grind (arith, nat_tests, h, s)

pub by_restart : (p : ℕ) (w v : World) (k : ℕ) → Keeps w k → Step (Restart p) w v → Keeps v k
by_restart p w v k h s = grind (arith, nat_tests, h, s)

pub by_restart_in_doubt : (p q : ℕ) (w v : World) (k : ℕ) → Keeps w k → Step (Restart_in_doubt p q) w v → Keeps v k
by_restart_in_doubt p q w v k h s = grind (arith, nat_tests, h, s)

pub by_restart_home : (p : ℕ) (w v : World) (k : ℕ) → Keeps w k → Step (Restart_home p) w v → (w.up w.home ≡ true → w.present (w.node w.home) ≡ w.home) → Keeps v k
by_restart_home p w v k h s up_home = grind (arith, nat_tests, h, s)

pub by_commit : (w v : World) (k : ℕ) → Keeps w k → Step Commit w v → Keeps v k
by_commit w v k h s = grind (arith, nat_tests, h, s)

pub by_commit_cut : (w v : World) (k : ℕ) → Keeps w k → Step Commit_cut w v → Keeps v k
by_commit_cut w v k h s = grind (arith, nat_tests, h, s)

pub by_commit_unlogged : (w v : World) (k : ℕ) → Keeps w k → Step Commit_unlogged w v → Keeps v k
by_commit_unlogged w v k h s = grind (arith, nat_tests, h, s)

pub by_abort : (w v : World) (k : ℕ) → Keeps w k → Step Abort w v → Keeps v k
by_abort w v k h s = grind (arith, nat_tests, h, s)

pub by_tell : (p q : ℕ) (w v : World) (k : ℕ) → Keeps w k → Step (Tell p q) w v → Keeps v k
by_tell p q w v k h s = same w v k h (rw s.3 (record { present = refl; node = refl; outcome = refl; up = refl; home = refl; cell = refl }))

pub by_learn : (p : ℕ) (w v : World) (k : ℕ) → Keeps w k → Step (Learn p) w v → w.present (w.node p) ≡ p → Keeps v k
by_learn p w v k h s now = grind (arith, nat_tests, h, s)

pub by_learn_cut : (p : ℕ) (w v : World) (k : ℕ) → Keeps w k → Step (Learn_cut p) w v → Keeps v k
by_learn_cut p w v k h s = grind (arith, nat_tests, h, s)

pub by_learn_home : (p : ℕ) (w v : World) (k : ℕ) → Keeps w k → Step (Learn_home p) w v → Keeps v k
by_learn_home p w v k h s = same w v k h (rw s.3 (record { present = refl; node = refl; outcome = refl; up = refl; home = refl; cell = refl }))

pub by_acknowledge : (p : ℕ) (w v : World) (k : ℕ) → Keeps w k → Step (Acknowledge p) w v → Keeps v k
by_acknowledge p w v k h s = same w v k h (rw s.2 (record { present = refl; node = refl; outcome = refl; up = refl; home = refl; cell = refl }))

pub by_take_told : (p q : ℕ) (w v : World) (k : ℕ) → Keeps w k → Step (Take_told p q) w v → Keeps v k
by_take_told p q w v k h s = same w v k h (rw s.3 (record { present = refl; node = refl; outcome = refl; up = refl; home = refl; cell = refl }))

pub by_end : (p : ℕ) (w v : World) (k : ℕ) → Keeps w k → Step (End p) w v → Keeps v k
by_end p w v k h s = same w v k h (rw s.4 (record { present = refl; node = refl; outcome = refl; up = refl; home = refl; cell = refl }))

pub by_checkpoint : (p : ℕ) (w v : World) (k : ℕ) → Keeps w k → Step (Checkpoint p) w v → Keeps v k
by_checkpoint p w v k h s = same w v k h (rw s.3 (record { present = refl; node = refl; outcome = refl; up = refl; home = refl; cell = refl }))

pub by_tell_abort : (p q : ℕ) (w v : World) (k : ℕ) → Keeps w k → Step (Tell_abort p q) w v → Keeps v k
by_tell_abort p q w v k h s = same w v k h (rw s.4 (record { present = refl; node = refl; outcome = refl; up = refl; home = refl; cell = refl }))

pub by_learn_abort : (p : ℕ) (w v : World) (k : ℕ) → Keeps w k → Step (Learn_abort p) w v → w.present (w.node p) ≡ p → Keeps v k
by_learn_abort p w v k h s now = grind (arith, nat_tests, h, s)

pub by_name_again : (p : ℕ) (w v : World) (k : ℕ) → Keeps w k → Step (Name_again p) w v → Keeps v k
by_name_again p w v k h s = same w v k h (rw s.3 (record { present = refl; node = refl; outcome = refl; up = refl; home = refl; cell = refl }))

pub by_take_names : (p q r : ℕ) (w v : World) (k : ℕ) → Keeps w k → Step (Take_names p q r) w v → w.present (w.node p) ≡ p → Keeps v k
by_take_names p q r w v k h s now = grind (arith, nat_tests, h, s)

pub by_learn_abort_home : (p q : ℕ) (w v : World) (k : ℕ) → Keeps w k → Step (Learn_abort_home p q) w v → w.present (w.node p) ≡ p → Keeps v k
by_learn_abort_home p q w v k h s now = grind (arith, nat_tests, h, s)

pub by_abort_logged : (p : ℕ) (w v : World) (k : ℕ) → Keeps w k → Step (Abort_logged p) w v → Keeps v k
by_abort_logged p w v k h s = same w v k h (rw s.2 (record { present = refl; node = refl; outcome = refl; up = refl; home = refl; cell = refl }))

pub by_drop_engage : (p q : ℕ) (w v : World) (k : ℕ) → Keeps w k → Step (Drop_engage p q) w v → Keeps v k
by_drop_engage p q w v k h s = same w v k h (rw s.4 (record { present = refl; node = refl; outcome = refl; up = refl; home = refl; cell = refl }))

pub by_drop_join : (p q : ℕ) (w v : World) (k : ℕ) → Keeps w k → Step (Drop_join p q) w v → Keeps v k
by_drop_join p q w v k h s = same w v k h (rw s.5 (record { present = refl; node = refl; outcome = refl; up = refl; home = refl; cell = refl }))

pub by_drop_cover : (p q : ℕ) (w v : World) (k : ℕ) → Keeps w k → Step (Drop_cover p q) w v → Keeps v k
by_drop_cover p q w v k h s = same w v k h (rw s.3 (record { present = refl; node = refl; outcome = refl; up = refl; home = refl; cell = refl }))

pub by_inquire : (p : ℕ) (w v : World) (k : ℕ) → Keeps w k → Step (Inquire p) w v → Keeps v k
by_inquire p w v k h s = same w v k h (rw s.4 (record { present = refl; node = refl; outcome = refl; up = refl; home = refl; cell = refl }))

pub by_inquire_lost : (p : ℕ) (w v : World) (k : ℕ) → Keeps w k → Step (Inquire_lost p) w v → Keeps v k
by_inquire_lost p w v k h s = same w v k h (rw s.5 (record { present = refl; node = refl; outcome = refl; up = refl; home = refl; cell = refl }))

pub by_inquire_home : (p : ℕ) (w v : World) (k : ℕ) → Keeps w k → Step (Inquire_home p) w v → Keeps v k
by_inquire_home p w v k h s = same w v k h (rw s.5 (record { present = refl; node = refl; outcome = refl; up = refl; home = refl; cell = refl }))

pub by_answer_commit : (p q : ℕ) (w v : World) (k : ℕ) → Keeps w k → Step (Answer_commit p q) w v → Keeps v k
by_answer_commit p q w v k h s = same w v k h (rw s.2 (record { present = refl; node = refl; outcome = refl; up = refl; home = refl; cell = refl }))

pub by_answer_running : (p : ℕ) (w v : World) (k : ℕ) → Keeps w k → Step (Answer_running p) w v → Keeps v k
by_answer_running p w v k h s = same w v k h (rw s.2 (record { present = refl; node = refl; outcome = refl; up = refl; home = refl; cell = refl }))

pub by_answer_abort : (p q : ℕ) (w v : World) (k : ℕ) → Keeps w k → Step (Answer_abort p q) w v → w.present (w.node p) ≡ p → Keeps v k
by_answer_abort p q w v k h s now = grind (arith, nat_tests, h, s)
