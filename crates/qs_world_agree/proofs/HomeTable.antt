-- One line for each event: Home holds after it.
use Rattle.std.proofs.Common.{◌≡◌, ◌≢◌, ℕ, refl, arith}
use Rattle.std.proofs.lemmas.Bool.Decides.{nat_tests}
use Rattle.qs_world_agree.specs.World.{Aborted, World}
use Rattle.qs_world_agree.specs.Step.{Issue, Issue_unmet, Issue_local, Meet, Notice, Engage, Join, Cover, Serve, Serve_told, Lend, Yield, Ask, Vote_read, Vote_volatile, Force, Vote_recoverable, Vote_abort, Yes, Yes_lost, Count, Ignore, Refuse, Miss, Forget, Crash, Restart, Restart_in_doubt, Restart_home, Commit, Commit_cut, Commit_unlogged, Tell, Learn, Learn_cut, Learn_home, Acknowledge, Take_told, End, Checkpoint, Inquire, Inquire_lost, Answer_commit, Answer_running, Step}
use Rattle.qs_world_agree.proofs.Home.{Home}

-- what Home speaks of is the same
record Same (w v : World) : Type 0 where
  cell : v.cell ≡ w.cell
  engaged : v.engaged ≡ w.engaged
  home : v.home ≡ w.home
  present : v.present ≡ w.present
  node : v.node ≡ w.node

same : (w v : World) → Home w → Same w v → Home v
same w v h e = grind (arith, h, e)

pub by_issue : (p q r : ℕ) (w v : World) → Home w → Step (Issue p q r) w v → Home v
by_issue p q r w v h s = same w v h (rw s.3 (record { cell = refl; engaged = refl; home = refl; present = refl; node = refl }))

pub by_issue_unmet : (p q r : ℕ) (w v : World) → Home w → Step (Issue_unmet p q r) w v → Home v
by_issue_unmet p q r w v h s = same w v h (rw s.3 (record { cell = refl; engaged = refl; home = refl; present = refl; node = refl }))

pub by_issue_local : (p q : ℕ) (w v : World) → Home w → Step (Issue_local p q) w v → Home v
by_issue_local p q w v h s = same w v h (rw s.1 (record { cell = refl; engaged = refl; home = refl; present = refl; node = refl }))

pub by_meet : (p q : ℕ) (w v : World) → Home w → Step (Meet p q) w v → Home v
by_meet p q w v h s = same w v h (rw s.5 (record { cell = refl; engaged = refl; home = refl; present = refl; node = refl }))

pub by_notice : (p q : ℕ) (w v : World) → Home w → Step (Notice p q) w v → Home v
by_notice p q w v h s = same w v h (rw s.5 (record { cell = refl; engaged = refl; home = refl; present = refl; node = refl }))

pub by_engage : (p q : ℕ) (w v : World) → Home w → Step (Engage p q) w v → Home v
by_engage p q w v h s = grind (arith, nat_tests, h, s)

pub by_join : (p q : ℕ) (w v : World) → Home w → Step (Join p q) w v → Home v
by_join p q w v h s = same w v h (rw s.5 (record { cell = refl; engaged = refl; home = refl; present = refl; node = refl }))

pub by_cover : (p q : ℕ) (w v : World) → Home w → Step (Cover p q) w v → Home v
by_cover p q w v h s = same w v h (rw s.4 (record { cell = refl; engaged = refl; home = refl; present = refl; node = refl }))

pub by_serve : (p q : ℕ) (w v : World) → Home w → Step (Serve p q) w v → Home v
by_serve p q w v h s = same w v h (rw s.2 (record { cell = refl; engaged = refl; home = refl; present = refl; node = refl }))

pub by_serve_told : (p q : ℕ) (w v : World) → Home w → Step (Serve_told p q) w v → Home v
by_serve_told p q w v h s = same w v h (rw s.2 (record { cell = refl; engaged = refl; home = refl; present = refl; node = refl }))

pub by_lend : (p q : ℕ) (w v : World) → Home w → Step (Lend p q) w v → Home v
by_lend p q w v h s = same w v h (rw s.2 (record { cell = refl; engaged = refl; home = refl; present = refl; node = refl }))

pub by_yield : (p : ℕ) (w v : World) → Home w → Step (Yield p) w v → Home v
by_yield p w v h s = same w v h (rw s.2.2 (record { cell = refl; engaged = refl; home = refl; present = refl; node = refl }))

pub by_ask : (p : ℕ) (w v : World) → Home w → Step (Ask p) w v → Home v
by_ask p w v h s = same w v h (rw s.1 (record { cell = refl; engaged = refl; home = refl; present = refl; node = refl }))

pub by_vote_read : (p q : ℕ) (w v : World) → Home w → Step (Vote_read p q) w v → Home v
by_vote_read p q w v h s = same w v h (rw s.1 (record { cell = refl; engaged = refl; home = refl; present = refl; node = refl }))

pub by_vote_volatile : (p q : ℕ) (w v : World) → Home w → Step (Vote_volatile p q) w v → Home v
by_vote_volatile p q w v h s = same w v h (rw s.2 (record { cell = refl; engaged = refl; home = refl; present = refl; node = refl }))

pub by_force : (p q : ℕ) (w v : World) → Home w → Step (Force p q) w v → Home v
by_force p q w v h s = same w v h (rw s.2 (record { cell = refl; engaged = refl; home = refl; present = refl; node = refl }))

pub by_vote_recoverable : (p q : ℕ) (w v : World) → Home w → Step (Vote_recoverable p q) w v → Home v
by_vote_recoverable p q w v h s = same w v h (rw s.2 (record { cell = refl; engaged = refl; home = refl; present = refl; node = refl }))

pub by_vote_abort : (p q : ℕ) (w v : World) → Home w → Step (Vote_abort p q) w v → Home v
by_vote_abort p q w v h s = same w v h (rw s.1 (record { cell = refl; engaged = refl; home = refl; present = refl; node = refl }))

pub by_yes : (p : ℕ) (w v : World) → Home w → Step (Yes p) w v → Home v
by_yes p w v h s = grind (arith, nat_tests, h, s)

pub by_yes_lost : (p : ℕ) (w v : World) → Home w → Step (Yes_lost p) w v → Home v
by_yes_lost p w v h s = grind (arith, nat_tests, h, s)

pub by_count : (p q : ℕ) (w v : World) → Home w → Step (Count p q) w v → Home v
by_count p q w v h s = same w v h (rw s.3 (record { cell = refl; engaged = refl; home = refl; present = refl; node = refl }))

pub by_ignore : (p q : ℕ) (w v : World) → Home w → Step (Ignore p q) w v → Home v
by_ignore p q w v h s = same w v h (rw s.4 (record { cell = refl; engaged = refl; home = refl; present = refl; node = refl }))

pub by_refuse : (p : ℕ) (w v : World) → Home w → Step (Refuse p) w v → Home v
by_refuse p w v h s = same w v h (rw s.1 (record { cell = refl; engaged = refl; home = refl; present = refl; node = refl }))

pub by_miss : (p : ℕ) (w v : World) → Home w → Step (Miss p) w v → Home v
by_miss p w v h s = same w v h (rw s.2 (record { cell = refl; engaged = refl; home = refl; present = refl; node = refl }))

pub by_forget : (p : ℕ) (w v : World) → Home w → Step (Forget p) w v → Home v
by_forget p w v h s = same w v h (rw s.5 (record { cell = refl; engaged = refl; home = refl; present = refl; node = refl }))

pub by_crash : (p : ℕ) (w v : World) → Home w → Step (Crash p) w v → Home v
by_crash p w v h s = same w v h (rw s.1 (record { cell = refl; engaged = refl; home = refl; present = refl; node = refl }))

pub by_restart : (p : ℕ) (w v : World) → Home w → Step (Restart p) w v → Home v
by_restart p w v h s = grind (arith, nat_tests, h, s)

pub by_restart_in_doubt : (p q : ℕ) (w v : World) → Home w → Step (Restart_in_doubt p q) w v → Home v
by_restart_in_doubt p q w v h s = grind (arith, nat_tests, h, s)

pub by_restart_home : (p : ℕ) (w v : World) → Home w → v.cell ≢ Aborted → Step (Restart_home p) w v → Home v
by_restart_home p w v h a s = grind (arith, nat_tests, h, s)

pub by_commit : (w v : World) → Home w → Step Commit w v → Home v
by_commit w v h s = grind (arith, nat_tests, h, s)

pub by_commit_cut : (w v : World) → Home w → Step Commit_cut w v → Home v
by_commit_cut w v h s = grind (arith, nat_tests, h, s)

pub by_commit_unlogged : (w v : World) → Home w → Step Commit_unlogged w v → Home v
by_commit_unlogged w v h s = grind (arith, nat_tests, h, s)

pub by_tell : (p q : ℕ) (w v : World) → Home w → Step (Tell p q) w v → Home v
by_tell p q w v h s = same w v h (rw s.3 (record { cell = refl; engaged = refl; home = refl; present = refl; node = refl }))

pub by_learn : (p : ℕ) (w v : World) → Home w → Step (Learn p) w v → Home v
by_learn p w v h s = same w v h (rw s.3 (record { cell = refl; engaged = refl; home = refl; present = refl; node = refl }))

pub by_learn_cut : (p : ℕ) (w v : World) → Home w → Step (Learn_cut p) w v → Home v
by_learn_cut p w v h s = same w v h (rw s.3 (record { cell = refl; engaged = refl; home = refl; present = refl; node = refl }))

pub by_learn_home : (p : ℕ) (w v : World) → Home w → Step (Learn_home p) w v → Home v
by_learn_home p w v h s = same w v h (rw s.3 (record { cell = refl; engaged = refl; home = refl; present = refl; node = refl }))

pub by_acknowledge : (p : ℕ) (w v : World) → Home w → Step (Acknowledge p) w v → Home v
by_acknowledge p w v h s = same w v h (rw s.2 (record { cell = refl; engaged = refl; home = refl; present = refl; node = refl }))

pub by_take_told : (p q : ℕ) (w v : World) → Home w → Step (Take_told p q) w v → Home v
by_take_told p q w v h s = same w v h (rw s.3 (record { cell = refl; engaged = refl; home = refl; present = refl; node = refl }))

pub by_end : (p : ℕ) (w v : World) → Home w → Step (End p) w v → Home v
by_end p w v h s = same w v h (rw s.4 (record { cell = refl; engaged = refl; home = refl; present = refl; node = refl }))

pub by_checkpoint : (p : ℕ) (w v : World) → Home w → Step (Checkpoint p) w v → Home v
by_checkpoint p w v h s = same w v h (rw s.3 (record { cell = refl; engaged = refl; home = refl; present = refl; node = refl }))

pub by_inquire : (p : ℕ) (w v : World) → Home w → Step (Inquire p) w v → Home v
by_inquire p w v h s = same w v h (rw s.4 (record { cell = refl; engaged = refl; home = refl; present = refl; node = refl }))

pub by_inquire_lost : (p : ℕ) (w v : World) → Home w → Step (Inquire_lost p) w v → Home v
by_inquire_lost p w v h s = same w v h (rw s.5 (record { cell = refl; engaged = refl; home = refl; present = refl; node = refl }))

pub by_answer_commit : (p q : ℕ) (w v : World) → Home w → Step (Answer_commit p q) w v → Home v
by_answer_commit p q w v h s = same w v h (rw s.2 (record { cell = refl; engaged = refl; home = refl; present = refl; node = refl }))

pub by_answer_running : (p : ℕ) (w v : World) → Home w → Step (Answer_running p) w v → Home v
by_answer_running p w v h s = same w v h (rw s.2 (record { cell = refl; engaged = refl; home = refl; present = refl; node = refl }))
