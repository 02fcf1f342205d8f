-- One line for each event: Arrivals holds after it.
use Rattle.std.proofs.Common.{◌≡◌, ◌≢◌, ℕ, ◌≤◌, refl, arith}
use Rattle.std.proofs.lemmas.Bool.Decides.{nat_tests}
use Rattle.qs_world_agree.specs.World.{Aborted, World}
use Rattle.qs_world_agree.specs.Step.{Issue, Issue_unmet, Issue_local, Meet, Notice, Engage, Join, Cover, Serve, Serve_told, Lend, Yield, Ask, Vote_read, Vote_volatile, Force, Vote_recoverable, Vote_abort, Yes, Yes_lost, Count, Ignore, Refuse, Miss, Forget, Crash, Restart, Restart_in_doubt, Restart_home, Commit, Commit_cut, Commit_unlogged, Tell, Learn, Learn_cut, Learn_home, Acknowledge, Take_told, End, Checkpoint, Inquire, Inquire_lost, Answer_commit, Answer_running, Step}
use Rattle.qs_world_agree.proofs.Arrivals.{Arrivals}

-- what Arrivals speaks of is the same
record Same (w v : World) : Type 0 where
  received_at : v.received_at ≡ w.received_at
  arrival : v.arrival ≡ w.arrival
  arrived : v.arrived ≡ w.arrived
  server_of : v.server_of ≡ w.server_of

same : (w v : World) (i j l : ℕ) → Arrivals w i j l → Same w v → Arrivals v i j l
same w v i j l h e = grind (arith, h, e)

pub by_issue : (p q r : ℕ) (w v : World) (i j l : ℕ) → Arrivals w i j l → Step (Issue p q r) w v → (1 ≤ w.received_at i j l → l ≤ w.sent i j) → Arrivals v i j l
by_issue p q r w v i j l h s unsent = grind (arith, nat_tests, h, s)

pub by_issue_unmet : (p q r : ℕ) (w v : World) (i j l : ℕ) → Arrivals w i j l → Step (Issue_unmet p q r) w v → (1 ≤ w.received_at i j l → l ≤ w.sent i j) → Arrivals v i j l
by_issue_unmet p q r w v i j l h s unsent = grind (arith, nat_tests, h, s)

pub by_issue_local : (p q : ℕ) (w v : World) (i j l : ℕ) → Arrivals w i j l → Step (Issue_local p q) w v → Arrivals v i j l
by_issue_local p q w v i j l h s = grind (arith, nat_tests, h, s)

pub by_meet : (p q : ℕ) (w v : World) (i j l : ℕ) → Arrivals w i j l → Step (Meet p q) w v → Arrivals v i j l
by_meet p q w v i j l h s = same w v i j l h (rw s.5 (record { received_at = refl; arrival = refl; arrived = refl; server_of = refl }))

pub by_notice : (p q : ℕ) (w v : World) (i j l : ℕ) → Arrivals w i j l → Step (Notice p q) w v → Arrivals v i j l
by_notice p q w v i j l h s = same w v i j l h (rw s.5 (record { received_at = refl; arrival = refl; arrived = refl; server_of = refl }))

pub by_engage : (p q : ℕ) (w v : World) (i j l : ℕ) → Arrivals w i j l → Step (Engage p q) w v → Arrivals v i j l
by_engage p q w v i j l h s = grind (arith, nat_tests, h, s)

pub by_join : (p q : ℕ) (w v : World) (i j l : ℕ) → Arrivals w i j l → Step (Join p q) w v → Arrivals v i j l
by_join p q w v i j l h s = grind (arith, nat_tests, h, s)

pub by_cover : (p q : ℕ) (w v : World) (i j l : ℕ) → Arrivals w i j l → Step (Cover p q) w v → Arrivals v i j l
by_cover p q w v i j l h s = grind (arith, nat_tests, h, s)

pub by_serve : (p q : ℕ) (w v : World) (i j l : ℕ) → Arrivals w i j l → Step (Serve p q) w v → Arrivals v i j l
by_serve p q w v i j l h s = same w v i j l h (rw s.2 (record { received_at = refl; arrival = refl; arrived = refl; server_of = refl }))

pub by_serve_told : (p q : ℕ) (w v : World) (i j l : ℕ) → Arrivals w i j l → Step (Serve_told p q) w v → Arrivals v i j l
by_serve_told p q w v i j l h s = same w v i j l h (rw s.2 (record { received_at = refl; arrival = refl; arrived = refl; server_of = refl }))

pub by_lend : (p q : ℕ) (w v : World) (i j l : ℕ) → Arrivals w i j l → Step (Lend p q) w v → Arrivals v i j l
by_lend p q w v i j l h s = same w v i j l h (rw s.2 (record { received_at = refl; arrival = refl; arrived = refl; server_of = refl }))

pub by_yield : (p : ℕ) (w v : World) (i j l : ℕ) → Arrivals w i j l → Step (Yield p) w v → Arrivals v i j l
by_yield p w v i j l h s = same w v i j l h (rw s.2.2 (record { received_at = refl; arrival = refl; arrived = refl; server_of = refl }))

pub by_ask : (p : ℕ) (w v : World) (i j l : ℕ) → Arrivals w i j l → Step (Ask p) w v → Arrivals v i j l
by_ask p w v i j l h s = same w v i j l h (rw s.1 (record { received_at = refl; arrival = refl; arrived = refl; server_of = refl }))

pub by_vote_read : (p q : ℕ) (w v : World) (i j l : ℕ) → Arrivals w i j l → Step (Vote_read p q) w v → Arrivals v i j l
by_vote_read p q w v i j l h s = same w v i j l h (rw s.1 (record { received_at = refl; arrival = refl; arrived = refl; server_of = refl }))

pub by_vote_volatile : (p q : ℕ) (w v : World) (i j l : ℕ) → Arrivals w i j l → Step (Vote_volatile p q) w v → Arrivals v i j l
by_vote_volatile p q w v i j l h s = same w v i j l h (rw s.2 (record { received_at = refl; arrival = refl; arrived = refl; server_of = refl }))

pub by_force : (p q : ℕ) (w v : World) (i j l : ℕ) → Arrivals w i j l → Step (Force p q) w v → Arrivals v i j l
by_force p q w v i j l h s = same w v i j l h (rw s.2 (record { received_at = refl; arrival = refl; arrived = refl; server_of = refl }))

pub by_vote_recoverable : (p q : ℕ) (w v : World) (i j l : ℕ) → Arrivals w i j l → Step (Vote_recoverable p q) w v → Arrivals v i j l
by_vote_recoverable p q w v i j l h s = same w v i j l h (rw s.2 (record { received_at = refl; arrival = refl; arrived = refl; server_of = refl }))

pub by_vote_abort : (p q : ℕ) (w v : World) (i j l : ℕ) → Arrivals w i j l → Step (Vote_abort p q) w v → Arrivals v i j l
by_vote_abort p q w v i j l h s = same w v i j l h (rw s.1 (record { received_at = refl; arrival = refl; arrived = refl; server_of = refl }))

pub by_yes : (p : ℕ) (w v : World) (i j l : ℕ) → Arrivals w i j l → Step (Yes p) w v → Arrivals v i j l
by_yes p w v i j l h s = same w v i j l h (rw s.3 (record { received_at = refl; arrival = refl; arrived = refl; server_of = refl }))

pub by_yes_lost : (p : ℕ) (w v : World) (i j l : ℕ) → Arrivals w i j l → Step (Yes_lost p) w v → Arrivals v i j l
by_yes_lost p w v i j l h s = same w v i j l h (rw s.3 (record { received_at = refl; arrival = refl; arrived = refl; server_of = refl }))

pub by_count : (p q : ℕ) (w v : World) (i j l : ℕ) → Arrivals w i j l → Step (Count p q) w v → Arrivals v i j l
by_count p q w v i j l h s = same w v i j l h (rw s.3 (record { received_at = refl; arrival = refl; arrived = refl; server_of = refl }))

pub by_ignore : (p q : ℕ) (w v : World) (i j l : ℕ) → Arrivals w i j l → Step (Ignore p q) w v → Arrivals v i j l
by_ignore p q w v i j l h s = same w v i j l h (rw s.4 (record { received_at = refl; arrival = refl; arrived = refl; server_of = refl }))

pub by_refuse : (p : ℕ) (w v : World) (i j l : ℕ) → Arrivals w i j l → Step (Refuse p) w v → Arrivals v i j l
by_refuse p w v i j l h s = same w v i j l h (rw s.1 (record { received_at = refl; arrival = refl; arrived = refl; server_of = refl }))

pub by_miss : (p : ℕ) (w v : World) (i j l : ℕ) → Arrivals w i j l → Step (Miss p) w v → Arrivals v i j l
by_miss p w v i j l h s = same w v i j l h (rw s.2 (record { received_at = refl; arrival = refl; arrived = refl; server_of = refl }))

pub by_forget : (p : ℕ) (w v : World) (i j l : ℕ) → Arrivals w i j l → Step (Forget p) w v → Arrivals v i j l
by_forget p w v i j l h s = same w v i j l h (rw s.5 (record { received_at = refl; arrival = refl; arrived = refl; server_of = refl }))

pub by_crash : (p : ℕ) (w v : World) (i j l : ℕ) → Arrivals w i j l → Step (Crash p) w v → Arrivals v i j l
by_crash p w v i j l h s = same w v i j l h (rw s.1 (record { received_at = refl; arrival = refl; arrived = refl; server_of = refl }))

pub by_restart : (p : ℕ) (w v : World) (i j l : ℕ) → Arrivals w i j l → Step (Restart p) w v → Arrivals v i j l
by_restart p w v i j l h s = same w v i j l h (rw s.4 (record { received_at = refl; arrival = refl; arrived = refl; server_of = refl }))

pub by_restart_in_doubt : (p q : ℕ) (w v : World) (i j l : ℕ) → Arrivals w i j l → Step (Restart_in_doubt p q) w v → Arrivals v i j l
by_restart_in_doubt p q w v i j l h s = same w v i j l h (rw s.4 (record { received_at = refl; arrival = refl; arrived = refl; server_of = refl }))

pub by_restart_home : (p : ℕ) (w v : World) (i j l : ℕ) → Arrivals w i j l → v.cell ≢ Aborted → Step (Restart_home p) w v → Arrivals v i j l
by_restart_home p w v i j l h a s = same w v i j l h (rw s.3 (record { received_at = refl; arrival = refl; arrived = refl; server_of = refl }))

pub by_commit : (w v : World) (i j l : ℕ) → Arrivals w i j l → Step Commit w v → Arrivals v i j l
by_commit w v i j l h s = same w v i j l h (rw s.1 (record { received_at = refl; arrival = refl; arrived = refl; server_of = refl }))

pub by_commit_cut : (w v : World) (i j l : ℕ) → Arrivals w i j l → Step Commit_cut w v → Arrivals v i j l
by_commit_cut w v i j l h s = same w v i j l h (rw s.1 (record { received_at = refl; arrival = refl; arrived = refl; server_of = refl }))

pub by_commit_unlogged : (w v : World) (i j l : ℕ) → Arrivals w i j l → Step Commit_unlogged w v → Arrivals v i j l
by_commit_unlogged w v i j l h s = same w v i j l h (rw s.3 (record { received_at = refl; arrival = refl; arrived = refl; server_of = refl }))

pub by_tell : (p q : ℕ) (w v : World) (i j l : ℕ) → Arrivals w i j l → Step (Tell p q) w v → Arrivals v i j l
by_tell p q w v i j l h s = same w v i j l h (rw s.3 (record { received_at = refl; arrival = refl; arrived = refl; server_of = refl }))

pub by_learn : (p : ℕ) (w v : World) (i j l : ℕ) → Arrivals w i j l → Step (Learn p) w v → Arrivals v i j l
by_learn p w v i j l h s = same w v i j l h (rw s.3 (record { received_at = refl; arrival = refl; arrived = refl; server_of = refl }))

pub by_learn_cut : (p : ℕ) (w v : World) (i j l : ℕ) → Arrivals w i j l → Step (Learn_cut p) w v → Arrivals v i j l
by_learn_cut p w v i j l h s = same w v i j l h (rw s.3 (record { received_at = refl; arrival = refl; arrived = refl; server_of = refl }))

pub by_learn_home : (p : ℕ) (w v : World) (i j l : ℕ) → Arrivals w i j l → Step (Learn_home p) w v → Arrivals v i j l
by_learn_home p w v i j l h s = same w v i j l h (rw s.3 (record { received_at = refl; arrival = refl; arrived = refl; server_of = refl }))

pub by_acknowledge : (p : ℕ) (w v : World) (i j l : ℕ) → Arrivals w i j l → Step (Acknowledge p) w v → Arrivals v i j l
by_acknowledge p w v i j l h s = same w v i j l h (rw s.2 (record { received_at = refl; arrival = refl; arrived = refl; server_of = refl }))

pub by_take_told : (p q : ℕ) (w v : World) (i j l : ℕ) → Arrivals w i j l → Step (Take_told p q) w v → Arrivals v i j l
by_take_told p q w v i j l h s = same w v i j l h (rw s.3 (record { received_at = refl; arrival = refl; arrived = refl; server_of = refl }))

pub by_end : (p : ℕ) (w v : World) (i j l : ℕ) → Arrivals w i j l → Step (End p) w v → Arrivals v i j l
by_end p w v i j l h s = same w v i j l h (rw s.4 (record { received_at = refl; arrival = refl; arrived = refl; server_of = refl }))

pub by_checkpoint : (p : ℕ) (w v : World) (i j l : ℕ) → Arrivals w i j l → Step (Checkpoint p) w v → Arrivals v i j l
by_checkpoint p w v i j l h s = same w v i j l h (rw s.3 (record { received_at = refl; arrival = refl; arrived = refl; server_of = refl }))

pub by_inquire : (p : ℕ) (w v : World) (i j l : ℕ) → Arrivals w i j l → Step (Inquire p) w v → Arrivals v i j l
by_inquire p w v i j l h s = same w v i j l h (rw s.4 (record { received_at = refl; arrival = refl; arrived = refl; server_of = refl }))

pub by_inquire_lost : (p : ℕ) (w v : World) (i j l : ℕ) → Arrivals w i j l → Step (Inquire_lost p) w v → Arrivals v i j l
by_inquire_lost p w v i j l h s = same w v i j l h (rw s.5 (record { received_at = refl; arrival = refl; arrived = refl; server_of = refl }))

pub by_answer_commit : (p q : ℕ) (w v : World) (i j l : ℕ) → Arrivals w i j l → Step (Answer_commit p q) w v → Arrivals v i j l
by_answer_commit p q w v i j l h s = same w v i j l h (rw s.2 (record { received_at = refl; arrival = refl; arrived = refl; server_of = refl }))

pub by_answer_running : (p : ℕ) (w v : World) (i j l : ℕ) → Arrivals w i j l → Step (Answer_running p) w v → Arrivals v i j l
by_answer_running p w v i j l h s = same w v i j l h (rw s.2 (record { received_at = refl; arrival = refl; arrived = refl; server_of = refl }))
