-- One line for each event: Places holds after it.
use Rattle.std.proofs.Common.{◌≡◌, ◌≢◌, ℕ, refl, arith}
use Rattle.std.proofs.lemmas.Bool.Decides.{nat_tests}
use Rattle.qs_world_agree.specs.World.{Aborted, World}
use Rattle.qs_world_agree.specs.Step.{Issue, Issue_unmet, Issue_local, Meet, Notice, Engage, Join, Cover, Serve, Serve_told, Lend, Yield, Ask, Vote_read, Vote_volatile, Force, Vote_recoverable, Vote_abort, Yes, Yes_lost, Count, Ignore, Refuse, Miss, Forget, Crash, Restart, Restart_in_doubt, Restart_home, Commit, Commit_cut, Commit_unlogged, Tell, Learn, Learn_cut, Learn_home, Acknowledge, Take_told, End, Checkpoint, Inquire, Inquire_lost, Answer_commit, Answer_running, Step}
use Rattle.qs_world_agree.proofs.Counts.{Counts}
use Rattle.qs_world_agree.proofs.Places.{Places}

-- what Places speaks of is the same
record Same (w v : World) : Type 0 where
  received_at : v.received_at ≡ w.received_at
  node : v.node ≡ w.node
  received : v.received ≡ w.received
  posted : v.posted ≡ w.posted
  gone : v.gone ≡ w.gone
  covered : v.covered ≡ w.covered

same : (w v : World) → Places w → Same w v → Places v
same w v x e = grind (arith, x, e)

pub by_issue : (p q r : ℕ) (w v : World) → Counts w → Places w → Step (Issue p q r) w v → Places v
by_issue p q r w v c x s = grind (arith, nat_tests, c, x, s)

pub by_issue_unmet : (p q r : ℕ) (w v : World) → Counts w → Places w → Step (Issue_unmet p q r) w v → Places v
by_issue_unmet p q r w v c x s = same w v x (rw s.3 (record { received_at = refl; node = refl; received = refl; posted = refl; gone = refl; covered = refl }))

pub by_issue_local : (p q : ℕ) (w v : World) → Counts w → Places w → Step (Issue_local p q) w v → Places v
by_issue_local p q w v c x s = same w v x (rw s.1 (record { received_at = refl; node = refl; received = refl; posted = refl; gone = refl; covered = refl }))

pub by_meet : (p q : ℕ) (w v : World) → Counts w → Places w → Step (Meet p q) w v → Places v
by_meet p q w v c x s = grind (arith, nat_tests, c, x, s)

pub by_notice : (p q : ℕ) (w v : World) → Counts w → Places w → Step (Notice p q) w v → Places v
by_notice p q w v c x s = grind (arith, nat_tests, c, x, s)

pub by_engage : (p q : ℕ) (w v : World) → Counts w → Places w → Step (Engage p q) w v → Places v
by_engage p q w v c x s = grind (arith, nat_tests, c, x, s)

pub by_join : (p q : ℕ) (w v : World) → Counts w → Places w → Step (Join p q) w v → Places v
by_join p q w v c x s = grind (arith, nat_tests, c, x, s)

pub by_cover : (p q : ℕ) (w v : World) → Counts w → Places w → Step (Cover p q) w v → Places v
by_cover p q w v c x s = grind (arith, nat_tests, c, x, s)

pub by_serve : (p q : ℕ) (w v : World) → Counts w → Places w → Step (Serve p q) w v → Places v
by_serve p q w v c x s = same w v x (rw s.2 (record { received_at = refl; node = refl; received = refl; posted = refl; gone = refl; covered = refl }))

pub by_serve_told : (p q : ℕ) (w v : World) → Counts w → Places w → Step (Serve_told p q) w v → Places v
by_serve_told p q w v c x s = same w v x (rw s.2 (record { received_at = refl; node = refl; received = refl; posted = refl; gone = refl; covered = refl }))

pub by_lend : (p q : ℕ) (w v : World) → Counts w → Places w → Step (Lend p q) w v → Places v
by_lend p q w v c x s = same w v x (rw s.2 (record { received_at = refl; node = refl; received = refl; posted = refl; gone = refl; covered = refl }))

pub by_yield : (p : ℕ) (w v : World) → Counts w → Places w → Step (Yield p) w v → Places v
by_yield p w v c x s = same w v x (rw s.2.2 (record { received_at = refl; node = refl; received = refl; posted = refl; gone = refl; covered = refl }))

pub by_ask : (p : ℕ) (w v : World) → Counts w → Places w → Step (Ask p) w v → Places v
by_ask p w v c x s = same w v x (rw s.1 (record { received_at = refl; node = refl; received = refl; posted = refl; gone = refl; covered = refl }))

pub by_vote_read : (p q : ℕ) (w v : World) → Counts w → Places w → Step (Vote_read p q) w v → Places v
by_vote_read p q w v c x s = same w v x (rw s.1 (record { received_at = refl; node = refl; received = refl; posted = refl; gone = refl; covered = refl }))

pub by_vote_volatile : (p q : ℕ) (w v : World) → Counts w → Places w → Step (Vote_volatile p q) w v → Places v
by_vote_volatile p q w v c x s = same w v x (rw s.2 (record { received_at = refl; node = refl; received = refl; posted = refl; gone = refl; covered = refl }))

pub by_force : (p q : ℕ) (w v : World) → Counts w → Places w → Step (Force p q) w v → Places v
by_force p q w v c x s = same w v x (rw s.2 (record { received_at = refl; node = refl; received = refl; posted = refl; gone = refl; covered = refl }))

pub by_vote_recoverable : (p q : ℕ) (w v : World) → Counts w → Places w → Step (Vote_recoverable p q) w v → Places v
by_vote_recoverable p q w v c x s = same w v x (rw s.2 (record { received_at = refl; node = refl; received = refl; posted = refl; gone = refl; covered = refl }))

pub by_vote_abort : (p q : ℕ) (w v : World) → Counts w → Places w → Step (Vote_abort p q) w v → Places v
by_vote_abort p q w v c x s = same w v x (rw s.1 (record { received_at = refl; node = refl; received = refl; posted = refl; gone = refl; covered = refl }))

pub by_yes : (p : ℕ) (w v : World) → Counts w → Places w → Step (Yes p) w v → Places v
by_yes p w v c x s = same w v x (rw s.3 (record { received_at = refl; node = refl; received = refl; posted = refl; gone = refl; covered = refl }))

pub by_yes_lost : (p : ℕ) (w v : World) → Counts w → Places w → Step (Yes_lost p) w v → Places v
by_yes_lost p w v c x s = same w v x (rw s.3 (record { received_at = refl; node = refl; received = refl; posted = refl; gone = refl; covered = refl }))

pub by_count : (p q : ℕ) (w v : World) → Counts w → Places w → Step (Count p q) w v → Places v
by_count p q w v c x s = grind (arith, nat_tests, c, x, s)

pub by_ignore : (p q : ℕ) (w v : World) → Counts w → Places w → Step (Ignore p q) w v → Places v
by_ignore p q w v c x s = same w v x (rw s.4 (record { received_at = refl; node = refl; received = refl; posted = refl; gone = refl; covered = refl }))

pub by_refuse : (p : ℕ) (w v : World) → Counts w → Places w → Step (Refuse p) w v → Places v
by_refuse p w v c x s = same w v x (rw s.1 (record { received_at = refl; node = refl; received = refl; posted = refl; gone = refl; covered = refl }))

pub by_miss : (p : ℕ) (w v : World) → Counts w → Places w → Step (Miss p) w v → Places v
by_miss p w v c x s = grind (arith, nat_tests, c, x, s)

pub by_forget : (p : ℕ) (w v : World) → Counts w → Places w → Step (Forget p) w v → Places v
by_forget p w v c x s = same w v x (rw s.5 (record { received_at = refl; node = refl; received = refl; posted = refl; gone = refl; covered = refl }))

pub by_crash : (p : ℕ) (w v : World) → Counts w → Places w → Step (Crash p) w v → Places v
by_crash p w v c x s = same w v x (rw s.1 (record { received_at = refl; node = refl; received = refl; posted = refl; gone = refl; covered = refl }))

pub by_restart : (p : ℕ) (w v : World) → Counts w → Places w → Step (Restart p) w v → Places v
by_restart p w v c x s = same w v x (rw s.4 (record { received_at = refl; node = refl; received = refl; posted = refl; gone = refl; covered = refl }))

pub by_restart_in_doubt : (p q : ℕ) (w v : World) → Counts w → Places w → Step (Restart_in_doubt p q) w v → Places v
by_restart_in_doubt p q w v c x s = same w v x (rw s.4 (record { received_at = refl; node = refl; received = refl; posted = refl; gone = refl; covered = refl }))

pub by_restart_home : (p : ℕ) (w v : World) → Counts w → Places w → v.cell ≢ Aborted → Step (Restart_home p) w v → Places v
by_restart_home p w v c x a s = same w v x (rw s.3 (record { received_at = refl; node = refl; received = refl; posted = refl; gone = refl; covered = refl }))

pub by_commit : (w v : World) → Counts w → Places w → Step Commit w v → Places v
by_commit w v c x s = same w v x (rw s.1 (record { received_at = refl; node = refl; received = refl; posted = refl; gone = refl; covered = refl }))

pub by_commit_cut : (w v : World) → Counts w → Places w → Step Commit_cut w v → Places v
by_commit_cut w v c x s = same w v x (rw s.1 (record { received_at = refl; node = refl; received = refl; posted = refl; gone = refl; covered = refl }))

pub by_commit_unlogged : (w v : World) → Counts w → Places w → Step Commit_unlogged w v → Places v
by_commit_unlogged w v c x s = same w v x (rw s.3 (record { received_at = refl; node = refl; received = refl; posted = refl; gone = refl; covered = refl }))

pub by_tell : (p q : ℕ) (w v : World) → Counts w → Places w → Step (Tell p q) w v → Places v
by_tell p q w v c x s = same w v x (rw s.3 (record { received_at = refl; node = refl; received = refl; posted = refl; gone = refl; covered = refl }))

pub by_learn : (p : ℕ) (w v : World) → Counts w → Places w → Step (Learn p) w v → Places v
by_learn p w v c x s = same w v x (rw s.3 (record { received_at = refl; node = refl; received = refl; posted = refl; gone = refl; covered = refl }))

pub by_learn_cut : (p : ℕ) (w v : World) → Counts w → Places w → Step (Learn_cut p) w v → Places v
by_learn_cut p w v c x s = same w v x (rw s.3 (record { received_at = refl; node = refl; received = refl; posted = refl; gone = refl; covered = refl }))

pub by_learn_home : (p : ℕ) (w v : World) → Counts w → Places w → Step (Learn_home p) w v → Places v
by_learn_home p w v c x s = same w v x (rw s.3 (record { received_at = refl; node = refl; received = refl; posted = refl; gone = refl; covered = refl }))

pub by_acknowledge : (p : ℕ) (w v : World) → Counts w → Places w → Step (Acknowledge p) w v → Places v
by_acknowledge p w v c x s = same w v x (rw s.2 (record { received_at = refl; node = refl; received = refl; posted = refl; gone = refl; covered = refl }))

pub by_take_told : (p q : ℕ) (w v : World) → Counts w → Places w → Step (Take_told p q) w v → Places v
by_take_told p q w v c x s = same w v x (rw s.3 (record { received_at = refl; node = refl; received = refl; posted = refl; gone = refl; covered = refl }))

pub by_end : (p : ℕ) (w v : World) → Counts w → Places w → Step (End p) w v → Places v
by_end p w v c x s = same w v x (rw s.4 (record { received_at = refl; node = refl; received = refl; posted = refl; gone = refl; covered = refl }))

pub by_checkpoint : (p : ℕ) (w v : World) → Counts w → Places w → Step (Checkpoint p) w v → Places v
by_checkpoint p w v c x s = same w v x (rw s.3 (record { received_at = refl; node = refl; received = refl; posted = refl; gone = refl; covered = refl }))

pub by_inquire : (p : ℕ) (w v : World) → Counts w → Places w → Step (Inquire p) w v → Places v
by_inquire p w v c x s = same w v x (rw s.4 (record { received_at = refl; node = refl; received = refl; posted = refl; gone = refl; covered = refl }))

pub by_inquire_lost : (p : ℕ) (w v : World) → Counts w → Places w → Step (Inquire_lost p) w v → Places v
by_inquire_lost p w v c x s = same w v x (rw s.5 (record { received_at = refl; node = refl; received = refl; posted = refl; gone = refl; covered = refl }))

pub by_answer_commit : (p q : ℕ) (w v : World) → Counts w → Places w → Step (Answer_commit p q) w v → Places v
by_answer_commit p q w v c x s = same w v x (rw s.2 (record { received_at = refl; node = refl; received = refl; posted = refl; gone = refl; covered = refl }))

pub by_answer_running : (p : ℕ) (w v : World) → Counts w → Places w → Step (Answer_running p) w v → Places v
by_answer_running p w v c x s = same w v x (rw s.2 (record { received_at = refl; node = refl; received = refl; posted = refl; gone = refl; covered = refl }))
