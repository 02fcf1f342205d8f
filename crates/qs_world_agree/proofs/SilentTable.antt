-- One line for each event: Silent holds after it.
use Rattle.std.proofs.Common.{◌≡◌, ◌≢◌, ℕ, refl, arith}
use Rattle.std.proofs.lemmas.Bool.Decides.{nat_tests}
use Rattle.qs_world_agree.specs.World.{Committed, Aborted, World}
use Rattle.qs_world_agree.specs.Step.{Issue, Issue_unmet, Issue_local, Meet, Notice, Engage, Join, Cover, Serve, Serve_told, Lend, Yield, Ask, Vote_read, Vote_volatile, Force, Vote_recoverable, Vote_abort, Yes, Yes_lost, Count, Ignore, Refuse, Miss, Forget, Crash, Restart, Restart_in_doubt, Restart_home, Commit, Commit_cut, Commit_unlogged, Tell, Learn, Learn_cut, Learn_home, Acknowledge, Take_told, End, Checkpoint, Inquire, Inquire_lost, Answer_commit, Answer_running, Step}
use Rattle.qs_world_agree.proofs.Silent.{Silent}

-- what Silent speaks of is the same
record Same (w v : World) : Type 0 where
  outcome : v.outcome ≡ w.outcome
  learnt_abort : v.learnt_abort ≡ w.learnt_abort
  tell_abort : v.tell_abort ≡ w.tell_abort
  named : v.named ≡ w.named
  cell : v.cell ≡ w.cell
  prepared : v.prepared ≡ w.prepared
  node : v.node ≡ w.node
  home : v.home ≡ w.home

same : (w v : World) → Silent w → Same w v → Silent v
same w v h e = grind (arith, h, e)

pub by_issue : (p q r : ℕ) (w v : World) → Silent w → Step (Issue p q r) w v → Silent v
by_issue p q r w v h s = same w v h (rw s.3 (record { outcome = refl; learnt_abort = refl; tell_abort = refl; named = refl; cell = refl; prepared = refl; node = refl; home = refl }))

pub by_issue_unmet : (p q r : ℕ) (w v : World) → Silent w → Step (Issue_unmet p q r) w v → Silent v
by_issue_unmet p q r w v h s = same w v h (rw s.3 (record { outcome = refl; learnt_abort = refl; tell_abort = refl; named = refl; cell = refl; prepared = refl; node = refl; home = refl }))

pub by_issue_local : (p q : ℕ) (w v : World) → Silent w → Step (Issue_local p q) w v → Silent v
by_issue_local p q w v h s = same w v h (rw s.1 (record { outcome = refl; learnt_abort = refl; tell_abort = refl; named = refl; cell = refl; prepared = refl; node = refl; home = refl }))

pub by_meet : (p q : ℕ) (w v : World) → Silent w → Step (Meet p q) w v → Silent v
by_meet p q w v h s = same w v h (rw s.5 (record { outcome = refl; learnt_abort = refl; tell_abort = refl; named = refl; cell = refl; prepared = refl; node = refl; home = refl }))

pub by_notice : (p q : ℕ) (w v : World) → Silent w → Step (Notice p q) w v → Silent v
by_notice p q w v h s = same w v h (rw s.5 (record { outcome = refl; learnt_abort = refl; tell_abort = refl; named = refl; cell = refl; prepared = refl; node = refl; home = refl }))

pub by_engage : (p q : ℕ) (w v : World) → Silent w → Step (Engage p q) w v → Silent v
by_engage p q w v h s = same w v h (rw s.4 (record { outcome = refl; learnt_abort = refl; tell_abort = refl; named = refl; cell = refl; prepared = refl; node = refl; home = refl }))

pub by_join : (p q : ℕ) (w v : World) → Silent w → Step (Join p q) w v → Silent v
by_join p q w v h s = same w v h (rw s.5 (record { outcome = refl; learnt_abort = refl; tell_abort = refl; named = refl; cell = refl; prepared = refl; node = refl; home = refl }))

pub by_cover : (p q : ℕ) (w v : World) → Silent w → Step (Cover p q) w v → Silent v
by_cover p q w v h s = same w v h (rw s.4 (record { outcome = refl; learnt_abort = refl; tell_abort = refl; named = refl; cell = refl; prepared = refl; node = refl; home = refl }))

pub by_serve : (p q : ℕ) (w v : World) → Silent w → Step (Serve p q) w v → Silent v
by_serve p q w v h s = same w v h (rw s.2 (record { outcome = refl; learnt_abort = refl; tell_abort = refl; named = refl; cell = refl; prepared = refl; node = refl; home = refl }))

pub by_serve_told : (p q : ℕ) (w v : World) → Silent w → Step (Serve_told p q) w v → Silent v
by_serve_told p q w v h s = same w v h (rw s.2 (record { outcome = refl; learnt_abort = refl; tell_abort = refl; named = refl; cell = refl; prepared = refl; node = refl; home = refl }))

pub by_lend : (p q : ℕ) (w v : World) → Silent w → Step (Lend p q) w v → Silent v
by_lend p q w v h s = same w v h (rw s.2 (record { outcome = refl; learnt_abort = refl; tell_abort = refl; named = refl; cell = refl; prepared = refl; node = refl; home = refl }))

pub by_yield : (p : ℕ) (w v : World) → Silent w → Step (Yield p) w v → Silent v
by_yield p w v h s = same w v h (rw s.2.2 (record { outcome = refl; learnt_abort = refl; tell_abort = refl; named = refl; cell = refl; prepared = refl; node = refl; home = refl }))

pub by_ask : (p : ℕ) (w v : World) → Silent w → Step (Ask p) w v → Silent v
by_ask p w v h s = same w v h (rw s.1 (record { outcome = refl; learnt_abort = refl; tell_abort = refl; named = refl; cell = refl; prepared = refl; node = refl; home = refl }))

pub by_vote_read : (p q : ℕ) (w v : World) → Silent w → Step (Vote_read p q) w v → Silent v
by_vote_read p q w v h s = same w v h (rw s.1 (record { outcome = refl; learnt_abort = refl; tell_abort = refl; named = refl; cell = refl; prepared = refl; node = refl; home = refl }))

pub by_vote_volatile : (p q : ℕ) (w v : World) → Silent w → Step (Vote_volatile p q) w v → Silent v
by_vote_volatile p q w v h s = same w v h (rw s.2 (record { outcome = refl; learnt_abort = refl; tell_abort = refl; named = refl; cell = refl; prepared = refl; node = refl; home = refl }))

pub by_force : (p q : ℕ) (w v : World) → Silent w → Step (Force p q) w v → w.cell ≢ Committed → Silent v
by_force p q w v h s stop = grind (arith, nat_tests, h, s)

pub by_vote_recoverable : (p q : ℕ) (w v : World) → Silent w → Step (Vote_recoverable p q) w v → w.cell ≢ Committed → Silent v
by_vote_recoverable p q w v h s stop = grind (arith, nat_tests, h, s)

pub by_vote_abort : (p q : ℕ) (w v : World) → Silent w → Step (Vote_abort p q) w v → Silent v
by_vote_abort p q w v h s = same w v h (rw s.1 (record { outcome = refl; learnt_abort = refl; tell_abort = refl; named = refl; cell = refl; prepared = refl; node = refl; home = refl }))

pub by_yes : (p : ℕ) (w v : World) → Silent w → Step (Yes p) w v → Silent v
by_yes p w v h s = same w v h (rw s.3 (record { outcome = refl; learnt_abort = refl; tell_abort = refl; named = refl; cell = refl; prepared = refl; node = refl; home = refl }))

pub by_yes_lost : (p : ℕ) (w v : World) → Silent w → Step (Yes_lost p) w v → Silent v
by_yes_lost p w v h s = same w v h (rw s.3 (record { outcome = refl; learnt_abort = refl; tell_abort = refl; named = refl; cell = refl; prepared = refl; node = refl; home = refl }))

pub by_count : (p q : ℕ) (w v : World) → Silent w → Step (Count p q) w v → Silent v
by_count p q w v h s = same w v h (rw s.3 (record { outcome = refl; learnt_abort = refl; tell_abort = refl; named = refl; cell = refl; prepared = refl; node = refl; home = refl }))

pub by_ignore : (p q : ℕ) (w v : World) → Silent w → Step (Ignore p q) w v → Silent v
by_ignore p q w v h s = same w v h (rw s.4 (record { outcome = refl; learnt_abort = refl; tell_abort = refl; named = refl; cell = refl; prepared = refl; node = refl; home = refl }))

pub by_refuse : (p : ℕ) (w v : World) → Silent w → Step (Refuse p) w v → Silent v
by_refuse p w v h s = same w v h (rw s.1 (record { outcome = refl; learnt_abort = refl; tell_abort = refl; named = refl; cell = refl; prepared = refl; node = refl; home = refl }))

pub by_miss : (p : ℕ) (w v : World) → Silent w → Step (Miss p) w v → Silent v
by_miss p w v h s = same w v h (rw s.2 (record { outcome = refl; learnt_abort = refl; tell_abort = refl; named = refl; cell = refl; prepared = refl; node = refl; home = refl }))

pub by_forget : (p : ℕ) (w v : World) → Silent w → Step (Forget p) w v → Silent v
by_forget p w v h s = same w v h (rw s.5 (record { outcome = refl; learnt_abort = refl; tell_abort = refl; named = refl; cell = refl; prepared = refl; node = refl; home = refl }))

pub by_crash : (p : ℕ) (w v : World) → Silent w → Step (Crash p) w v → Silent v
by_crash p w v h s = same w v h (rw s.1 (record { outcome = refl; learnt_abort = refl; tell_abort = refl; named = refl; cell = refl; prepared = refl; node = refl; home = refl }))

pub by_restart : (p : ℕ) (w v : World) → Silent w → Step (Restart p) w v → Silent v
by_restart p w v h s = same w v h (rw s.4 (record { outcome = refl; learnt_abort = refl; tell_abort = refl; named = refl; cell = refl; prepared = refl; node = refl; home = refl }))

pub by_restart_in_doubt : (p q : ℕ) (w v : World) → Silent w → Step (Restart_in_doubt p q) w v → Silent v
by_restart_in_doubt p q w v h s = same w v h (rw s.4 (record { outcome = refl; learnt_abort = refl; tell_abort = refl; named = refl; cell = refl; prepared = refl; node = refl; home = refl }))

pub by_restart_home : (p : ℕ) (w v : World) → Silent w → v.cell ≢ Aborted → Step (Restart_home p) w v → Silent v
by_restart_home p w v h a s = grind (arith, nat_tests, h, s)

pub by_commit : (w v : World) → Silent w → Step Commit w v → Silent v
by_commit w v h s = grind (arith, nat_tests, h, s)

pub by_commit_cut : (w v : World) → Silent w → Step Commit_cut w v → Silent v
by_commit_cut w v h s = grind (arith, nat_tests, h, s)

pub by_commit_unlogged : (w v : World) → Silent w → Step Commit_unlogged w v → Silent v
by_commit_unlogged w v h s = grind (arith, nat_tests, h, s)

pub by_tell : (p q : ℕ) (w v : World) → Silent w → Step (Tell p q) w v → Silent v
by_tell p q w v h s = same w v h (rw s.3 (record { outcome = refl; learnt_abort = refl; tell_abort = refl; named = refl; cell = refl; prepared = refl; node = refl; home = refl }))

pub by_learn : (p : ℕ) (w v : World) → Silent w → Step (Learn p) w v → Silent v
by_learn p w v h s = grind (arith, nat_tests, h, s)

pub by_learn_cut : (p : ℕ) (w v : World) → Silent w → Step (Learn_cut p) w v → Silent v
by_learn_cut p w v h s = grind (arith, nat_tests, h, s)

pub by_learn_home : (p : ℕ) (w v : World) → Silent w → Step (Learn_home p) w v → Silent v
by_learn_home p w v h s = same w v h (rw s.3 (record { outcome = refl; learnt_abort = refl; tell_abort = refl; named = refl; cell = refl; prepared = refl; node = refl; home = refl }))

pub by_acknowledge : (p : ℕ) (w v : World) → Silent w → Step (Acknowledge p) w v → Silent v
by_acknowledge p w v h s = same w v h (rw s.2 (record { outcome = refl; learnt_abort = refl; tell_abort = refl; named = refl; cell = refl; prepared = refl; node = refl; home = refl }))

pub by_take_told : (p q : ℕ) (w v : World) → Silent w → Step (Take_told p q) w v → Silent v
by_take_told p q w v h s = same w v h (rw s.3 (record { outcome = refl; learnt_abort = refl; tell_abort = refl; named = refl; cell = refl; prepared = refl; node = refl; home = refl }))

pub by_end : (p : ℕ) (w v : World) → Silent w → Step (End p) w v → Silent v
by_end p w v h s = same w v h (rw s.4 (record { outcome = refl; learnt_abort = refl; tell_abort = refl; named = refl; cell = refl; prepared = refl; node = refl; home = refl }))

pub by_checkpoint : (p : ℕ) (w v : World) → Silent w → Step (Checkpoint p) w v → Silent v
by_checkpoint p w v h s = same w v h (rw s.3 (record { outcome = refl; learnt_abort = refl; tell_abort = refl; named = refl; cell = refl; prepared = refl; node = refl; home = refl }))

pub by_inquire : (p : ℕ) (w v : World) → Silent w → Step (Inquire p) w v → Silent v
by_inquire p w v h s = same w v h (rw s.4 (record { outcome = refl; learnt_abort = refl; tell_abort = refl; named = refl; cell = refl; prepared = refl; node = refl; home = refl }))

pub by_inquire_lost : (p : ℕ) (w v : World) → Silent w → Step (Inquire_lost p) w v → Silent v
by_inquire_lost p w v h s = same w v h (rw s.5 (record { outcome = refl; learnt_abort = refl; tell_abort = refl; named = refl; cell = refl; prepared = refl; node = refl; home = refl }))

pub by_answer_commit : (p q : ℕ) (w v : World) → Silent w → Step (Answer_commit p q) w v → Silent v
by_answer_commit p q w v h s = same w v h (rw s.2 (record { outcome = refl; learnt_abort = refl; tell_abort = refl; named = refl; cell = refl; prepared = refl; node = refl; home = refl }))

pub by_answer_running : (p : ℕ) (w v : World) → Silent w → Step (Answer_running p) w v → Silent v
by_answer_running p w v h s = same w v h (rw s.2 (record { outcome = refl; learnt_abort = refl; tell_abort = refl; named = refl; cell = refl; prepared = refl; node = refl; home = refl }))
