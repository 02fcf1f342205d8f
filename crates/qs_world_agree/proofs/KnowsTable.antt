-- One line for each event: Knows holds after it.
use Rattle.std.proofs.Common.{◌≡◌, ◌≢◌, ℕ, true, false, refl, arith}
use Rattle.std.proofs.lemmas.Bool.Decides.{nat_tests}
use Rattle.qs_world_agree.specs.World.{Aborted, World}
use Rattle.qs_world_agree.specs.Step.{Issue, Issue_unmet, Issue_local, Meet, Notice, Engage, Join, Cover, Serve, Serve_told, Lend, Yield, Ask, Vote_read, Vote_volatile, Force, Vote_recoverable, Vote_abort, Yes, Yes_lost, Count, Ignore, Refuse, Miss, Forget, Crash, Restart, Restart_in_doubt, Restart_home, Commit, Commit_cut, Commit_unlogged, Tell, Learn, Learn_cut, Learn_home, Acknowledge, Take_told, End, Checkpoint, Inquire, Inquire_lost, Answer_commit, Answer_running, Step}
use Rattle.qs_world_agree.proofs.Knows.{Knows}

-- what Knows speaks of is the same
record Same (w v : World) : Type 0 where
  cell : v.cell ≡ w.cell
  commit_logged : v.commit_logged ≡ w.commit_logged
  up : v.up ≡ w.up
  node : v.node ≡ w.node
  home : v.home ≡ w.home
  outcome : v.outcome ≡ w.outcome

same : (w v : World) (k : ℕ) → Knows w k → Same w v → Knows v k
same w v k h e = grind (arith, h, e)

pub by_issue : (p q r : ℕ) (w v : World) (k : ℕ) → Knows w k → Step (Issue p q r) w v → Knows v k
by_issue p q r w v k h s = same w v k h (rw s.3 (record { cell = refl; commit_logged = refl; up = refl; node = refl; home = refl; outcome = refl }))

pub by_issue_unmet : (p q r : ℕ) (w v : World) (k : ℕ) → Knows w k → Step (Issue_unmet p q r) w v → Knows v k
by_issue_unmet p q r w v k h s = same w v k h (rw s.3 (record { cell = refl; commit_logged = refl; up = refl; node = refl; home = refl; outcome = refl }))

pub by_issue_local : (p q : ℕ) (w v : World) (k : ℕ) → Knows w k → Step (Issue_local p q) w v → Knows v k
by_issue_local p q w v k h s = same w v k h (rw s.1 (record { cell = refl; commit_logged = refl; up = refl; node = refl; home = refl; outcome = refl }))

pub by_meet : (p q : ℕ) (w v : World) (k : ℕ) → Knows w k → Step (Meet p q) w v → Knows v k
by_meet p q w v k h s = same w v k h (rw s.5 (record { cell = refl; commit_logged = refl; up = refl; node = refl; home = refl; outcome = refl }))

pub by_notice : (p q : ℕ) (w v : World) (k : ℕ) → Knows w k → Step (Notice p q) w v → Knows v k
by_notice p q w v k h s = same w v k h (rw s.5 (record { cell = refl; commit_logged = refl; up = refl; node = refl; home = refl; outcome = refl }))

pub by_engage : (p q : ℕ) (w v : World) (k : ℕ) → Knows w k → Step (Engage p q) w v → Knows v k
by_engage p q w v k h s = same w v k h (rw s.4 (record { cell = refl; commit_logged = refl; up = refl; node = refl; home = refl; outcome = refl }))

pub by_join : (p q : ℕ) (w v : World) (k : ℕ) → Knows w k → Step (Join p q) w v → Knows v k
by_join p q w v k h s = same w v k h (rw s.5 (record { cell = refl; commit_logged = refl; up = refl; node = refl; home = refl; outcome = refl }))

pub by_cover : (p q : ℕ) (w v : World) (k : ℕ) → Knows w k → Step (Cover p q) w v → Knows v k
by_cover p q w v k h s = same w v k h (rw s.4 (record { cell = refl; commit_logged = refl; up = refl; node = refl; home = refl; outcome = refl }))

pub by_serve : (p q : ℕ) (w v : World) (k : ℕ) → Knows w k → Step (Serve p q) w v → Knows v k
by_serve p q w v k h s = same w v k h (rw s.2 (record { cell = refl; commit_logged = refl; up = refl; node = refl; home = refl; outcome = refl }))

pub by_serve_told : (p q : ℕ) (w v : World) (k : ℕ) → Knows w k → Step (Serve_told p q) w v → Knows v k
by_serve_told p q w v k h s = same w v k h (rw s.2 (record { cell = refl; commit_logged = refl; up = refl; node = refl; home = refl; outcome = refl }))

pub by_lend : (p q : ℕ) (w v : World) (k : ℕ) → Knows w k → Step (Lend p q) w v → Knows v k
by_lend p q w v k h s = same w v k h (rw s.2 (record { cell = refl; commit_logged = refl; up = refl; node = refl; home = refl; outcome = refl }))

pub by_yield : (p : ℕ) (w v : World) (k : ℕ) → Knows w k → Step (Yield p) w v → Knows v k
by_yield p w v k h s = same w v k h (rw s.2.2 (record { cell = refl; commit_logged = refl; up = refl; node = refl; home = refl; outcome = refl }))

pub by_ask : (p : ℕ) (w v : World) (k : ℕ) → Knows w k → Step (Ask p) w v → Knows v k
by_ask p w v k h s = same w v k h (rw s.1 (record { cell = refl; commit_logged = refl; up = refl; node = refl; home = refl; outcome = refl }))

pub by_vote_read : (p q : ℕ) (w v : World) (k : ℕ) → Knows w k → Step (Vote_read p q) w v → Knows v k
by_vote_read p q w v k h s = same w v k h (rw s.1 (record { cell = refl; commit_logged = refl; up = refl; node = refl; home = refl; outcome = refl }))

pub by_vote_volatile : (p q : ℕ) (w v : World) (k : ℕ) → Knows w k → Step (Vote_volatile p q) w v → Knows v k
by_vote_volatile p q w v k h s = same w v k h (rw s.2 (record { cell = refl; commit_logged = refl; up = refl; node = refl; home = refl; outcome = refl }))

pub by_force : (p q : ℕ) (w v : World) (k : ℕ) → Knows w k → Step (Force p q) w v → Knows v k
by_force p q w v k h s = same w v k h (rw s.2 (record { cell = refl; commit_logged = refl; up = refl; node = refl; home = refl; outcome = refl }))

pub by_vote_recoverable : (p q : ℕ) (w v : World) (k : ℕ) → Knows w k → Step (Vote_recoverable p q) w v → Knows v k
by_vote_recoverable p q w v k h s = same w v k h (rw s.2 (record { cell = refl; commit_logged = refl; up = refl; node = refl; home = refl; outcome = refl }))

pub by_vote_abort : (p q : ℕ) (w v : World) (k : ℕ) → Knows w k → Step (Vote_abort p q) w v → Knows v k
by_vote_abort p q w v k h s = same w v k h (rw s.1 (record { cell = refl; commit_logged = refl; up = refl; node = refl; home = refl; outcome = refl }))

pub by_yes : (p : ℕ) (w v : World) (k : ℕ) → Knows w k → Step (Yes p) w v → Knows v k
by_yes p w v k h s = same w v k h (rw s.3 (record { cell = refl; commit_logged = refl; up = refl; node = refl; home = refl; outcome = refl }))

pub by_yes_lost : (p : ℕ) (w v : World) (k : ℕ) → Knows w k → Step (Yes_lost p) w v → Knows v k
by_yes_lost p w v k h s = same w v k h (rw s.3 (record { cell = refl; commit_logged = refl; up = refl; node = refl; home = refl; outcome = refl }))

pub by_count : (p q : ℕ) (w v : World) (k : ℕ) → Knows w k → Step (Count p q) w v → Knows v k
by_count p q w v k h s = same w v k h (rw s.3 (record { cell = refl; commit_logged = refl; up = refl; node = refl; home = refl; outcome = refl }))

pub by_ignore : (p q : ℕ) (w v : World) (k : ℕ) → Knows w k → Step (Ignore p q) w v → Knows v k
by_ignore p q w v k h s = same w v k h (rw s.4 (record { cell = refl; commit_logged = refl; up = refl; node = refl; home = refl; outcome = refl }))

pub by_refuse : (p : ℕ) (w v : World) (k : ℕ) → Knows w k → Step (Refuse p) w v → Knows v k
by_refuse p w v k h s = same w v k h (rw s.1 (record { cell = refl; commit_logged = refl; up = refl; node = refl; home = refl; outcome = refl }))

pub by_miss : (p : ℕ) (w v : World) (k : ℕ) → Knows w k → Step (Miss p) w v → Knows v k
by_miss p w v k h s = same w v k h (rw s.2 (record { cell = refl; commit_logged = refl; up = refl; node = refl; home = refl; outcome = refl }))

pub by_forget : (p : ℕ) (w v : World) (k : ℕ) → Knows w k → Step (Forget p) w v → Knows v k
by_forget p w v k h s = same w v k h (rw s.5 (record { cell = refl; commit_logged = refl; up = refl; node = refl; home = refl; outcome = refl }))

pub by_crash : (p : ℕ) (w v : World) (k : ℕ) → Knows w k → Step (Crash p) w v → Knows v k
by_crash p w v k h s = grind (arith, nat_tests, h, s)

pub by_restart : (p : ℕ) (w v : World) (k : ℕ) → Knows w k → Step (Restart p) w v → Knows v k
by_restart p w v k h s = grind (arith, nat_tests, h, s)

pub by_restart_in_doubt : (p q : ℕ) (w v : World) (k : ℕ) → Knows w k → Step (Restart_in_doubt p q) w v → Knows v k
by_restart_in_doubt p q w v k h s = grind (arith, nat_tests, h, s)

pub by_restart_home : (p : ℕ) (w v : World) (k : ℕ) → Knows w k → v.cell ≢ Aborted → Step (Restart_home p) w v → Knows v k
by_restart_home p w v k h a s = grind (arith, nat_tests, h, s)

pub by_commit : (w v : World) (k : ℕ) → Knows w k → Step Commit w v → (w.up k ≡ true → w.node k ≡ w.node w.home → k ≡ w.home) → Knows v k
by_commit w v k h s one = grind (arith, nat_tests, h, s)

pub by_commit_cut : (w v : World) (k : ℕ) → Knows w k → Step Commit_cut w v → (w.up k ≡ true → w.node k ≡ w.node w.home → k ≡ w.home) → Knows v k
by_commit_cut w v k h s one = grind (arith, nat_tests, h, s)

pub by_commit_unlogged : (w v : World) (k : ℕ) → Knows w k → Step Commit_unlogged w v → w.commit_logged ≡ false → Knows v k
by_commit_unlogged w v k h s none = grind (arith, nat_tests, h, s)

pub by_tell : (p q : ℕ) (w v : World) (k : ℕ) → Knows w k → Step (Tell p q) w v → Knows v k
by_tell p q w v k h s = same w v k h (rw s.3 (record { cell = refl; commit_logged = refl; up = refl; node = refl; home = refl; outcome = refl }))

pub by_learn : (p : ℕ) (w v : World) (k : ℕ) → Knows w k → Step (Learn p) w v → Knows v k
by_learn p w v k h s = grind (arith, nat_tests, h, s)

pub by_learn_cut : (p : ℕ) (w v : World) (k : ℕ) → Knows w k → Step (Learn_cut p) w v → Knows v k
by_learn_cut p w v k h s = grind (arith, nat_tests, h, s)

pub by_learn_home : (p : ℕ) (w v : World) (k : ℕ) → Knows w k → Step (Learn_home p) w v → Knows v k
by_learn_home p w v k h s = same w v k h (rw s.3 (record { cell = refl; commit_logged = refl; up = refl; node = refl; home = refl; outcome = refl }))

pub by_acknowledge : (p : ℕ) (w v : World) (k : ℕ) → Knows w k → Step (Acknowledge p) w v → Knows v k
by_acknowledge p w v k h s = same w v k h (rw s.2 (record { cell = refl; commit_logged = refl; up = refl; node = refl; home = refl; outcome = refl }))

pub by_take_told : (p q : ℕ) (w v : World) (k : ℕ) → Knows w k → Step (Take_told p q) w v → Knows v k
by_take_told p q w v k h s = same w v k h (rw s.3 (record { cell = refl; commit_logged = refl; up = refl; node = refl; home = refl; outcome = refl }))

pub by_end : (p : ℕ) (w v : World) (k : ℕ) → Knows w k → Step (End p) w v → Knows v k
by_end p w v k h s = same w v k h (rw s.4 (record { cell = refl; commit_logged = refl; up = refl; node = refl; home = refl; outcome = refl }))

pub by_checkpoint : (p : ℕ) (w v : World) (k : ℕ) → Knows w k → Step (Checkpoint p) w v → Knows v k
by_checkpoint p w v k h s = grind (arith, nat_tests, h, s)

pub by_inquire : (p : ℕ) (w v : World) (k : ℕ) → Knows w k → Step (Inquire p) w v → Knows v k
by_inquire p w v k h s = same w v k h (rw s.4 (record { cell = refl; commit_logged = refl; up = refl; node = refl; home = refl; outcome = refl }))

pub by_inquire_lost : (p : ℕ) (w v : World) (k : ℕ) → Knows w k → Step (Inquire_lost p) w v → Knows v k
by_inquire_lost p w v k h s = same w v k h (rw s.5 (record { cell = refl; commit_logged = refl; up = refl; node = refl; home = refl; outcome = refl }))

pub by_answer_commit : (p q : ℕ) (w v : World) (k : ℕ) → Knows w k → Step (Answer_commit p q) w v → Knows v k
by_answer_commit p q w v k h s = same w v k h (rw s.2 (record { cell = refl; commit_logged = refl; up = refl; node = refl; home = refl; outcome = refl }))

pub by_answer_running : (p : ℕ) (w v : World) (k : ℕ) → Knows w k → Step (Answer_running p) w v → Knows v k
by_answer_running p w v k h s = same w v k h (rw s.2 (record { cell = refl; commit_logged = refl; up = refl; node = refl; home = refl; outcome = refl }))
