-- One line for each event: Prepares holds after it.
use Rattle.std.proofs.Common.{◌≡◌, ◌≢◌, ℕ, ◌<◌, true, false, refl, arith}
use Rattle.std.proofs.lemmas.Bool.Decides.{nat_tests}
use Rattle.qs_world_agree.specs.World.{Open, Aborted, World}
use Rattle.qs_world_agree.specs.Step.{Issue, Issue_unmet, Issue_local, Meet, Notice, Engage, Join, Cover, Serve, Serve_told, Lend, Yield, Ask, Vote_read, Vote_volatile, Force, Vote_recoverable, Vote_abort, Yes, Yes_lost, Count, Ignore, Refuse, Miss, Forget, Crash, Restart, Restart_in_doubt, Restart_home, Commit, Commit_cut, Commit_unlogged, Tell, Learn, Learn_cut, Learn_home, Acknowledge, Take_told, End, Checkpoint, Inquire, Inquire_lost, Answer_commit, Answer_running, Step}
use Rattle.qs_world_agree.proofs.Prepares.{Prepares}

-- what Prepares speaks of is the same
record Same (w v : World) : Type 0 where
  up : v.up ≡ w.up
  prepared : v.prepared ≡ w.prepared
  node : v.node ≡ w.node
  home : v.home ≡ w.home
  involved : v.involved ≡ w.involved
  outcome : v.outcome ≡ w.outcome
  ack_put : v.ack_put ≡ w.ack_put

same : (w v : World) (k i : ℕ) → Prepares w k i → Same w v → Prepares v k i
same w v k i h e = grind (arith, h, e)

pub by_issue : (p q r : ℕ) (w v : World) (k i : ℕ) → Prepares w k i → Step (Issue p q r) w v → Prepares v k i
by_issue p q r w v k i h s = grind (arith, nat_tests, h, s)

pub by_issue_unmet : (p q r : ℕ) (w v : World) (k i : ℕ) → Prepares w k i → Step (Issue_unmet p q r) w v → Prepares v k i
by_issue_unmet p q r w v k i h s = grind (arith, nat_tests, h, s)

pub by_issue_local : (p q : ℕ) (w v : World) (k i : ℕ) → Prepares w k i → Step (Issue_local p q) w v → Prepares v k i
by_issue_local p q w v k i h s = same w v k i h (rw s.1 (record { up = refl; prepared = refl; node = refl; home = refl; involved = refl; outcome = refl; ack_put = refl }))

pub by_meet : (p q : ℕ) (w v : World) (k i : ℕ) → Prepares w k i → Step (Meet p q) w v → Prepares v k i
by_meet p q w v k i h s = same w v k i h (rw s.5 (record { up = refl; prepared = refl; node = refl; home = refl; involved = refl; outcome = refl; ack_put = refl }))

pub by_notice : (p q : ℕ) (w v : World) (k i : ℕ) → Prepares w k i → Step (Notice p q) w v → Prepares v k i
by_notice p q w v k i h s = same w v k i h (rw s.5 (record { up = refl; prepared = refl; node = refl; home = refl; involved = refl; outcome = refl; ack_put = refl }))

pub by_engage : (p q : ℕ) (w v : World) (k i : ℕ) → Prepares w k i → Step (Engage p q) w v → Prepares v k i
by_engage p q w v k i h s = same w v k i h (rw s.4 (record { up = refl; prepared = refl; node = refl; home = refl; involved = refl; outcome = refl; ack_put = refl }))

pub by_join : (p q : ℕ) (w v : World) (k i : ℕ) → Prepares w k i → Step (Join p q) w v → Prepares v k i
by_join p q w v k i h s = same w v k i h (rw s.5 (record { up = refl; prepared = refl; node = refl; home = refl; involved = refl; outcome = refl; ack_put = refl }))

pub by_cover : (p q : ℕ) (w v : World) (k i : ℕ) → Prepares w k i → Step (Cover p q) w v → Prepares v k i
by_cover p q w v k i h s = same w v k i h (rw s.4 (record { up = refl; prepared = refl; node = refl; home = refl; involved = refl; outcome = refl; ack_put = refl }))

pub by_serve : (p q : ℕ) (w v : World) (k i : ℕ) → Prepares w k i → Step (Serve p q) w v → Prepares v k i
by_serve p q w v k i h s = same w v k i h (rw s.2 (record { up = refl; prepared = refl; node = refl; home = refl; involved = refl; outcome = refl; ack_put = refl }))

pub by_serve_told : (p q : ℕ) (w v : World) (k i : ℕ) → Prepares w k i → Step (Serve_told p q) w v → Prepares v k i
by_serve_told p q w v k i h s = grind (arith, nat_tests, h, s)

pub by_lend : (p q : ℕ) (w v : World) (k i : ℕ) → Prepares w k i → Step (Lend p q) w v → Prepares v k i
by_lend p q w v k i h s = same w v k i h (rw s.2 (record { up = refl; prepared = refl; node = refl; home = refl; involved = refl; outcome = refl; ack_put = refl }))

pub by_yield : (p : ℕ) (w v : World) (k i : ℕ) → Prepares w k i → Step (Yield p) w v → Prepares v k i
by_yield p w v k i h s = same w v k i h (rw s.2.2 (record { up = refl; prepared = refl; node = refl; home = refl; involved = refl; outcome = refl; ack_put = refl }))

pub by_ask : (p : ℕ) (w v : World) (k i : ℕ) → Prepares w k i → Step (Ask p) w v → Prepares v k i
by_ask p w v k i h s = same w v k i h (rw s.1 (record { up = refl; prepared = refl; node = refl; home = refl; involved = refl; outcome = refl; ack_put = refl }))

pub by_vote_read : (p q : ℕ) (w v : World) (k i : ℕ) → Prepares w k i → Step (Vote_read p q) w v → Prepares v k i
by_vote_read p q w v k i h s = same w v k i h (rw s.1 (record { up = refl; prepared = refl; node = refl; home = refl; involved = refl; outcome = refl; ack_put = refl }))

pub by_vote_volatile : (p q : ℕ) (w v : World) (k i : ℕ) → Prepares w k i → Step (Vote_volatile p q) w v → Prepares v k i
by_vote_volatile p q w v k i h s = grind (arith, nat_tests, h, s)

pub by_force : (p q : ℕ) (w v : World) (k i : ℕ) → Prepares w k i → Step (Force p q) w v → w.ack_put k ≡ false → (w.node k ≡ w.node p → w.up k ≡ true → k ≡ p) → Prepares v k i
by_force p q w v k i h s quiet one = grind (arith, nat_tests, h, s)

pub by_vote_recoverable : (p q : ℕ) (w v : World) (k i : ℕ) → Prepares w k i → Step (Vote_recoverable p q) w v → w.ack_put k ≡ false → (w.node k ≡ w.node p → w.up k ≡ true → k ≡ p) → Prepares v k i
by_vote_recoverable p q w v k i h s quiet one = grind (arith, nat_tests, h, s)

pub by_vote_abort : (p q : ℕ) (w v : World) (k i : ℕ) → Prepares w k i → Step (Vote_abort p q) w v → Prepares v k i
by_vote_abort p q w v k i h s = same w v k i h (rw s.1 (record { up = refl; prepared = refl; node = refl; home = refl; involved = refl; outcome = refl; ack_put = refl }))

pub by_yes : (p : ℕ) (w v : World) (k i : ℕ) → Prepares w k i → Step (Yes p) w v → Prepares v k i
by_yes p w v k i h s = same w v k i h (rw s.3 (record { up = refl; prepared = refl; node = refl; home = refl; involved = refl; outcome = refl; ack_put = refl }))

pub by_yes_lost : (p : ℕ) (w v : World) (k i : ℕ) → Prepares w k i → Step (Yes_lost p) w v → Prepares v k i
by_yes_lost p w v k i h s = same w v k i h (rw s.3 (record { up = refl; prepared = refl; node = refl; home = refl; involved = refl; outcome = refl; ack_put = refl }))

pub by_count : (p q : ℕ) (w v : World) (k i : ℕ) → Prepares w k i → Step (Count p q) w v → Prepares v k i
by_count p q w v k i h s = same w v k i h (rw s.3 (record { up = refl; prepared = refl; node = refl; home = refl; involved = refl; outcome = refl; ack_put = refl }))

pub by_ignore : (p q : ℕ) (w v : World) (k i : ℕ) → Prepares w k i → Step (Ignore p q) w v → Prepares v k i
by_ignore p q w v k i h s = same w v k i h (rw s.4 (record { up = refl; prepared = refl; node = refl; home = refl; involved = refl; outcome = refl; ack_put = refl }))

pub by_refuse : (p : ℕ) (w v : World) (k i : ℕ) → Prepares w k i → Step (Refuse p) w v → Prepares v k i
by_refuse p w v k i h s = same w v k i h (rw s.1 (record { up = refl; prepared = refl; node = refl; home = refl; involved = refl; outcome = refl; ack_put = refl }))

pub by_miss : (p : ℕ) (w v : World) (k i : ℕ) → Prepares w k i → Step (Miss p) w v → Prepares v k i
by_miss p w v k i h s = same w v k i h (rw s.2 (record { up = refl; prepared = refl; node = refl; home = refl; involved = refl; outcome = refl; ack_put = refl }))

pub by_forget : (p : ℕ) (w v : World) (k i : ℕ) → Prepares w k i → Step (Forget p) w v → Prepares v k i
by_forget p w v k i h s = same w v k i h (rw s.5 (record { up = refl; prepared = refl; node = refl; home = refl; involved = refl; outcome = refl; ack_put = refl }))

pub by_crash : (p : ℕ) (w v : World) (k i : ℕ) → Prepares w k i → Step (Crash p) w v → Prepares v k i
by_crash p w v k i h s = grind (arith, nat_tests, h, s)

pub by_restart : (p : ℕ) (w v : World) (k i : ℕ) → Prepares w k i → Step (Restart p) w v → Prepares v k i
by_restart p w v k i h s = grind (arith, nat_tests, h, s.3 i, s)

pub by_restart_in_doubt : (p q : ℕ) (w v : World) (k i : ℕ) → Prepares w k i → Step (Restart_in_doubt p q) w v → (w.present (w.node p) < p → w.outcome p ≡ Open) → Prepares v k i
by_restart_in_doubt p q w v k i h s unborn = grind (arith, nat_tests, h, s)

pub by_restart_home : (p : ℕ) (w v : World) (k i : ℕ) → Prepares w k i → v.cell ≢ Aborted → Step (Restart_home p) w v → Prepares v k i
by_restart_home p w v k i h a s = grind (arith, nat_tests, h, s)

pub by_commit : (w v : World) (k i : ℕ) → Prepares w k i → Step Commit w v → Prepares v k i
by_commit w v k i h s = grind (arith, nat_tests, h, s)

pub by_commit_cut : (w v : World) (k i : ℕ) → Prepares w k i → Step Commit_cut w v → Prepares v k i
by_commit_cut w v k i h s = grind (arith, nat_tests, h, s)

pub by_commit_unlogged : (w v : World) (k i : ℕ) → Prepares w k i → Step Commit_unlogged w v → Prepares v k i
by_commit_unlogged w v k i h s = grind (arith, nat_tests, h, s)

pub by_tell : (p q : ℕ) (w v : World) (k i : ℕ) → Prepares w k i → Step (Tell p q) w v → Prepares v k i
by_tell p q w v k i h s = same w v k i h (rw s.3 (record { up = refl; prepared = refl; node = refl; home = refl; involved = refl; outcome = refl; ack_put = refl }))

pub by_learn : (p : ℕ) (w v : World) (k i : ℕ) → Prepares w k i → Step (Learn p) w v → Prepares v k i
by_learn p w v k i h s = grind (arith, nat_tests, h, s)

pub by_learn_cut : (p : ℕ) (w v : World) (k i : ℕ) → Prepares w k i → Step (Learn_cut p) w v → Prepares v k i
by_learn_cut p w v k i h s = grind (arith, nat_tests, h, s)

pub by_learn_home : (p : ℕ) (w v : World) (k i : ℕ) → Prepares w k i → Step (Learn_home p) w v → Prepares v k i
by_learn_home p w v k i h s = same w v k i h (rw s.3 (record { up = refl; prepared = refl; node = refl; home = refl; involved = refl; outcome = refl; ack_put = refl }))

pub by_acknowledge : (p : ℕ) (w v : World) (k i : ℕ) → Prepares w k i → Step (Acknowledge p) w v → Prepares v k i
by_acknowledge p w v k i h s = grind (arith, nat_tests, h, s)

pub by_take_told : (p q : ℕ) (w v : World) (k i : ℕ) → Prepares w k i → Step (Take_told p q) w v → Prepares v k i
by_take_told p q w v k i h s = same w v k i h (rw s.3 (record { up = refl; prepared = refl; node = refl; home = refl; involved = refl; outcome = refl; ack_put = refl }))

pub by_end : (p : ℕ) (w v : World) (k i : ℕ) → Prepares w k i → Step (End p) w v → Prepares v k i
by_end p w v k i h s = same w v k i h (rw s.4 (record { up = refl; prepared = refl; node = refl; home = refl; involved = refl; outcome = refl; ack_put = refl }))

pub by_checkpoint : (p : ℕ) (w v : World) (k i : ℕ) → Prepares w k i → Step (Checkpoint p) w v → Prepares v k i
by_checkpoint p w v k i h s = same w v k i h (rw s.3 (record { up = refl; prepared = refl; node = refl; home = refl; involved = refl; outcome = refl; ack_put = refl }))

pub by_inquire : (p : ℕ) (w v : World) (k i : ℕ) → Prepares w k i → Step (Inquire p) w v → Prepares v k i
by_inquire p w v k i h s = same w v k i h (rw s.4 (record { up = refl; prepared = refl; node = refl; home = refl; involved = refl; outcome = refl; ack_put = refl }))

pub by_inquire_lost : (p : ℕ) (w v : World) (k i : ℕ) → Prepares w k i → Step (Inquire_lost p) w v → Prepares v k i
by_inquire_lost p w v k i h s = same w v k i h (rw s.5 (record { up = refl; prepared = refl; node = refl; home = refl; involved = refl; outcome = refl; ack_put = refl }))

pub by_answer_commit : (p q : ℕ) (w v : World) (k i : ℕ) → Prepares w k i → Step (Answer_commit p q) w v → Prepares v k i
by_answer_commit p q w v k i h s = same w v k i h (rw s.2 (record { up = refl; prepared = refl; node = refl; home = refl; involved = refl; outcome = refl; ack_put = refl }))

pub by_answer_running : (p : ℕ) (w v : World) (k i : ℕ) → Prepares w k i → Step (Answer_running p) w v → Prepares v k i
by_answer_running p w v k i h s = same w v k i h (rw s.2 (record { up = refl; prepared = refl; node = refl; home = refl; involved = refl; outcome = refl; ack_put = refl }))
