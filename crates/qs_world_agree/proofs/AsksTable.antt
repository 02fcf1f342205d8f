-- One line for each event: Asks holds after it.
use Rattle.std.proofs.Common.{◌≡◌, ◌≢◌, ℕ, ◌≤◌, true, refl, arith}
use Rattle.std.proofs.lemmas.Bool.Decides.{nat_tests}
use Rattle.qs_world_agree.specs.World.{Committed, Aborted, World}
use Rattle.qs_world_agree.specs.Step.{Issue, Issue_unmet, Issue_local, Meet, Notice, Engage, Join, Cover, Serve, Serve_told, Lend, Yield, Ask, Vote_read, Vote_volatile, Force, Vote_recoverable, Vote_abort, Yes, Yes_lost, Count, Ignore, Refuse, Miss, Forget, Crash, Restart, Restart_in_doubt, Restart_home, Commit, Commit_cut, Commit_unlogged, Tell, Learn, Learn_cut, Learn_home, Acknowledge, Take_told, End, Checkpoint, Inquire, Inquire_lost, Answer_commit, Answer_running, Step}
use Rattle.qs_world_agree.proofs.Asks.{Asks}

-- what Asks speaks of is the same
record Same (w v : World) : Type 0 where
  cell : v.cell ≡ w.cell
  up : v.up ≡ w.up
  node : v.node ≡ w.node
  home : v.home ≡ w.home
  inquiry_taken : v.inquiry_taken ≡ w.inquiry_taken
  inquiry_put : v.inquiry_put ≡ w.inquiry_put
  outcome : v.outcome ≡ w.outcome
  peer : v.peer ≡ w.peer

same : (w v : World) (k j : ℕ) → Asks w k j → Same w v → Asks v k j
same w v k j h e = grind (arith, h, e)

pub by_issue : (p q r : ℕ) (w v : World) (k j : ℕ) → Asks w k j → Step (Issue p q r) w v → Asks v k j
by_issue p q r w v k j h s = same w v k j h (rw s.3 (record { cell = refl; up = refl; node = refl; home = refl; inquiry_taken = refl; inquiry_put = refl; outcome = refl; peer = refl }))

pub by_issue_unmet : (p q r : ℕ) (w v : World) (k j : ℕ) → Asks w k j → Step (Issue_unmet p q r) w v → Asks v k j
by_issue_unmet p q r w v k j h s = same w v k j h (rw s.3 (record { cell = refl; up = refl; node = refl; home = refl; inquiry_taken = refl; inquiry_put = refl; outcome = refl; peer = refl }))

pub by_issue_local : (p q : ℕ) (w v : World) (k j : ℕ) → Asks w k j → Step (Issue_local p q) w v → Asks v k j
by_issue_local p q w v k j h s = same w v k j h (rw s.1 (record { cell = refl; up = refl; node = refl; home = refl; inquiry_taken = refl; inquiry_put = refl; outcome = refl; peer = refl }))

pub by_meet : (p q : ℕ) (w v : World) (k j : ℕ) → Asks w k j → Step (Meet p q) w v → (w.cell ≡ Committed → w.up q ≡ true → w.node q ≡ w.node w.home → 1 ≤ w.inquiries p → w.outcome q ≡ Committed) → Asks v k j
by_meet p q w v k j h s meets = grind (arith, nat_tests, h, s)

pub by_notice : (p q : ℕ) (w v : World) (k j : ℕ) → Asks w k j → Step (Notice p q) w v → Asks v k j
by_notice p q w v k j h s = grind (arith, nat_tests, h, s)

pub by_engage : (p q : ℕ) (w v : World) (k j : ℕ) → Asks w k j → Step (Engage p q) w v → Asks v k j
by_engage p q w v k j h s = same w v k j h (rw s.4 (record { cell = refl; up = refl; node = refl; home = refl; inquiry_taken = refl; inquiry_put = refl; outcome = refl; peer = refl }))

pub by_join : (p q : ℕ) (w v : World) (k j : ℕ) → Asks w k j → Step (Join p q) w v → Asks v k j
by_join p q w v k j h s = same w v k j h (rw s.5 (record { cell = refl; up = refl; node = refl; home = refl; inquiry_taken = refl; inquiry_put = refl; outcome = refl; peer = refl }))

pub by_cover : (p q : ℕ) (w v : World) (k j : ℕ) → Asks w k j → Step (Cover p q) w v → Asks v k j
by_cover p q w v k j h s = same w v k j h (rw s.4 (record { cell = refl; up = refl; node = refl; home = refl; inquiry_taken = refl; inquiry_put = refl; outcome = refl; peer = refl }))

pub by_serve : (p q : ℕ) (w v : World) (k j : ℕ) → Asks w k j → Step (Serve p q) w v → Asks v k j
by_serve p q w v k j h s = same w v k j h (rw s.2 (record { cell = refl; up = refl; node = refl; home = refl; inquiry_taken = refl; inquiry_put = refl; outcome = refl; peer = refl }))

pub by_serve_told : (p q : ℕ) (w v : World) (k j : ℕ) → Asks w k j → Step (Serve_told p q) w v → Asks v k j
by_serve_told p q w v k j h s = same w v k j h (rw s.2 (record { cell = refl; up = refl; node = refl; home = refl; inquiry_taken = refl; inquiry_put = refl; outcome = refl; peer = refl }))

pub by_lend : (p q : ℕ) (w v : World) (k j : ℕ) → Asks w k j → Step (Lend p q) w v → Asks v k j
by_lend p q w v k j h s = same w v k j h (rw s.2 (record { cell = refl; up = refl; node = refl; home = refl; inquiry_taken = refl; inquiry_put = refl; outcome = refl; peer = refl }))

pub by_yield : (p : ℕ) (w v : World) (k j : ℕ) → Asks w k j → Step (Yield p) w v → Asks v k j
by_yield p w v k j h s = same w v k j h (rw s.2.2 (record { cell = refl; up = refl; node = refl; home = refl; inquiry_taken = refl; inquiry_put = refl; outcome = refl; peer = refl }))

pub by_ask : (p : ℕ) (w v : World) (k j : ℕ) → Asks w k j → Step (Ask p) w v → Asks v k j
by_ask p w v k j h s = same w v k j h (rw s.1 (record { cell = refl; up = refl; node = refl; home = refl; inquiry_taken = refl; inquiry_put = refl; outcome = refl; peer = refl }))

pub by_vote_read : (p q : ℕ) (w v : World) (k j : ℕ) → Asks w k j → Step (Vote_read p q) w v → Asks v k j
by_vote_read p q w v k j h s = same w v k j h (rw s.1 (record { cell = refl; up = refl; node = refl; home = refl; inquiry_taken = refl; inquiry_put = refl; outcome = refl; peer = refl }))

pub by_vote_volatile : (p q : ℕ) (w v : World) (k j : ℕ) → Asks w k j → Step (Vote_volatile p q) w v → Asks v k j
by_vote_volatile p q w v k j h s = same w v k j h (rw s.2 (record { cell = refl; up = refl; node = refl; home = refl; inquiry_taken = refl; inquiry_put = refl; outcome = refl; peer = refl }))

pub by_force : (p q : ℕ) (w v : World) (k j : ℕ) → Asks w k j → Step (Force p q) w v → Asks v k j
by_force p q w v k j h s = same w v k j h (rw s.2 (record { cell = refl; up = refl; node = refl; home = refl; inquiry_taken = refl; inquiry_put = refl; outcome = refl; peer = refl }))

pub by_vote_recoverable : (p q : ℕ) (w v : World) (k j : ℕ) → Asks w k j → Step (Vote_recoverable p q) w v → Asks v k j
by_vote_recoverable p q w v k j h s = same w v k j h (rw s.2 (record { cell = refl; up = refl; node = refl; home = refl; inquiry_taken = refl; inquiry_put = refl; outcome = refl; peer = refl }))

pub by_vote_abort : (p q : ℕ) (w v : World) (k j : ℕ) → Asks w k j → Step (Vote_abort p q) w v → Asks v k j
by_vote_abort p q w v k j h s = same w v k j h (rw s.1 (record { cell = refl; up = refl; node = refl; home = refl; inquiry_taken = refl; inquiry_put = refl; outcome = refl; peer = refl }))

pub by_yes : (p : ℕ) (w v : World) (k j : ℕ) → Asks w k j → Step (Yes p) w v → Asks v k j
by_yes p w v k j h s = same w v k j h (rw s.3 (record { cell = refl; up = refl; node = refl; home = refl; inquiry_taken = refl; inquiry_put = refl; outcome = refl; peer = refl }))

pub by_yes_lost : (p : ℕ) (w v : World) (k j : ℕ) → Asks w k j → Step (Yes_lost p) w v → Asks v k j
by_yes_lost p w v k j h s = same w v k j h (rw s.3 (record { cell = refl; up = refl; node = refl; home = refl; inquiry_taken = refl; inquiry_put = refl; outcome = refl; peer = refl }))

pub by_count : (p q : ℕ) (w v : World) (k j : ℕ) → Asks w k j → Step (Count p q) w v → Asks v k j
by_count p q w v k j h s = same w v k j h (rw s.3 (record { cell = refl; up = refl; node = refl; home = refl; inquiry_taken = refl; inquiry_put = refl; outcome = refl; peer = refl }))

pub by_ignore : (p q : ℕ) (w v : World) (k j : ℕ) → Asks w k j → Step (Ignore p q) w v → Asks v k j
by_ignore p q w v k j h s = same w v k j h (rw s.4 (record { cell = refl; up = refl; node = refl; home = refl; inquiry_taken = refl; inquiry_put = refl; outcome = refl; peer = refl }))

pub by_refuse : (p : ℕ) (w v : World) (k j : ℕ) → Asks w k j → Step (Refuse p) w v → Asks v k j
by_refuse p w v k j h s = same w v k j h (rw s.1 (record { cell = refl; up = refl; node = refl; home = refl; inquiry_taken = refl; inquiry_put = refl; outcome = refl; peer = refl }))

pub by_miss : (p : ℕ) (w v : World) (k j : ℕ) → Asks w k j → Step (Miss p) w v → Asks v k j
by_miss p w v k j h s = same w v k j h (rw s.2 (record { cell = refl; up = refl; node = refl; home = refl; inquiry_taken = refl; inquiry_put = refl; outcome = refl; peer = refl }))

pub by_forget : (p : ℕ) (w v : World) (k j : ℕ) → Asks w k j → Step (Forget p) w v → Asks v k j
by_forget p w v k j h s = same w v k j h (rw s.5 (record { cell = refl; up = refl; node = refl; home = refl; inquiry_taken = refl; inquiry_put = refl; outcome = refl; peer = refl }))

pub by_crash : (p : ℕ) (w v : World) (k j : ℕ) → Asks w k j → Step (Crash p) w v → Asks v k j
by_crash p w v k j h s = grind (arith, nat_tests, h, s)

pub by_restart : (p : ℕ) (w v : World) (k j : ℕ) → Asks w k j → Step (Restart p) w v → Asks v k j
by_restart p w v k j h s = grind (arith, nat_tests, h, s)

pub by_restart_in_doubt : (p q : ℕ) (w v : World) (k j : ℕ) → Asks w k j → Step (Restart_in_doubt p q) w v → Asks v k j
by_restart_in_doubt p q w v k j h s = grind (arith, nat_tests, h, s)

pub by_restart_home : (p : ℕ) (w v : World) (k j : ℕ) → Asks w k j → v.cell ≢ Aborted → Step (Restart_home p) w v → w.peer j (w.node w.home) ≤ w.present (w.node w.home) → Asks v k j
by_restart_home p w v k j h a s old = grind (arith, nat_tests, h, s)

pub by_commit : (w v : World) (k j : ℕ) → Asks w k j → Step Commit w v → (w.up k ≡ true → w.node k ≡ w.node w.home → k ≡ w.home) → Asks v k j
by_commit w v k j h s one = grind (arith, nat_tests, h, s)

pub by_commit_cut : (w v : World) (k j : ℕ) → Asks w k j → Step Commit_cut w v → (w.up k ≡ true → w.node k ≡ w.node w.home → k ≡ w.home) → Asks v k j
by_commit_cut w v k j h s one = grind (arith, nat_tests, h, s)

pub by_commit_unlogged : (w v : World) (k j : ℕ) → Asks w k j → Step Commit_unlogged w v → (w.up k ≡ true → w.node k ≡ w.node w.home → k ≡ w.home) → Asks v k j
by_commit_unlogged w v k j h s one = grind (arith, nat_tests, h, s)

pub by_tell : (p q : ℕ) (w v : World) (k j : ℕ) → Asks w k j → Step (Tell p q) w v → Asks v k j
by_tell p q w v k j h s = same w v k j h (rw s.3 (record { cell = refl; up = refl; node = refl; home = refl; inquiry_taken = refl; inquiry_put = refl; outcome = refl; peer = refl }))

pub by_learn : (p : ℕ) (w v : World) (k j : ℕ) → Asks w k j → Step (Learn p) w v → Asks v k j
by_learn p w v k j h s = grind (arith, nat_tests, h, s)

pub by_learn_cut : (p : ℕ) (w v : World) (k j : ℕ) → Asks w k j → Step (Learn_cut p) w v → Asks v k j
by_learn_cut p w v k j h s = grind (arith, nat_tests, h, s)

pub by_learn_home : (p : ℕ) (w v : World) (k j : ℕ) → Asks w k j → Step (Learn_home p) w v → Asks v k j
by_learn_home p w v k j h s = same w v k j h (rw s.3 (record { cell = refl; up = refl; node = refl; home = refl; inquiry_taken = refl; inquiry_put = refl; outcome = refl; peer = refl }))

pub by_acknowledge : (p : ℕ) (w v : World) (k j : ℕ) → Asks w k j → Step (Acknowledge p) w v → Asks v k j
by_acknowledge p w v k j h s = same w v k j h (rw s.2 (record { cell = refl; up = refl; node = refl; home = refl; inquiry_taken = refl; inquiry_put = refl; outcome = refl; peer = refl }))

pub by_take_told : (p q : ℕ) (w v : World) (k j : ℕ) → Asks w k j → Step (Take_told p q) w v → Asks v k j
by_take_told p q w v k j h s = same w v k j h (rw s.3 (record { cell = refl; up = refl; node = refl; home = refl; inquiry_taken = refl; inquiry_put = refl; outcome = refl; peer = refl }))

pub by_end : (p : ℕ) (w v : World) (k j : ℕ) → Asks w k j → Step (End p) w v → Asks v k j
by_end p w v k j h s = same w v k j h (rw s.4 (record { cell = refl; up = refl; node = refl; home = refl; inquiry_taken = refl; inquiry_put = refl; outcome = refl; peer = refl }))

pub by_checkpoint : (p : ℕ) (w v : World) (k j : ℕ) → Asks w k j → Step (Checkpoint p) w v → Asks v k j
by_checkpoint p w v k j h s = same w v k j h (rw s.3 (record { cell = refl; up = refl; node = refl; home = refl; inquiry_taken = refl; inquiry_put = refl; outcome = refl; peer = refl }))

pub by_inquire : (p : ℕ) (w v : World) (k j : ℕ) → Asks w k j → Step (Inquire p) w v → (w.cell ≡ Committed → w.up (w.peer p (w.node w.home)) ≡ true → w.node (w.peer p (w.node w.home)) ≡ w.node w.home → w.outcome (w.peer p (w.node w.home)) ≡ Committed) → Asks v k j
by_inquire p w v k j h s sure = grind (arith, nat_tests, h, s)

pub by_inquire_lost : (p : ℕ) (w v : World) (k j : ℕ) → Asks w k j → Step (Inquire_lost p) w v → w.cell ≢ Committed → Asks v k j
by_inquire_lost p w v k j h s stop = grind (arith, nat_tests, h, s)

pub by_answer_commit : (p q : ℕ) (w v : World) (k j : ℕ) → Asks w k j → Step (Answer_commit p q) w v → Asks v k j
by_answer_commit p q w v k j h s = grind (arith, nat_tests, h, s)

pub by_answer_running : (p : ℕ) (w v : World) (k j : ℕ) → Asks w k j → Step (Answer_running p) w v → Asks v k j
by_answer_running p w v k j h s = grind (arith, nat_tests, h, s)
