-- One line for each event: Counts holds after it.
use Rattle.std.proofs.Common.{◌≡◌, ℕ, refl, arith}
use Rattle.std.proofs.lemmas.Bool.Decides.{nat_tests}
use Rattle.qs_world_agree.specs.World.{World}
use Rattle.qs_world_agree.specs.Step.{Issue, Issue_unmet, Issue_local, Meet, Notice, Engage, Join, Cover, Serve, Serve_told, Lend, Yield, Ask, Vote_read, Vote_volatile, Force, Vote_recoverable, Vote_abort, Yes, Yes_lost, Count, Ignore, Refuse, Miss, Forget, Crash, Restart, Restart_in_doubt, Restart_home, Commit, Commit_cut, Commit_unlogged, Abort, Tell, Learn, Learn_cut, Learn_home, Acknowledge, Take_told, End, Checkpoint, Tell_abort, Learn_abort, Name_again, Take_names, Learn_abort_home, Abort_logged, Drop_engage, Drop_join, Drop_cover, Inquire, Inquire_lost, Inquire_home, Answer_commit, Answer_running, Answer_abort, Step}
use Rattle.qs_world_agree.proofs.Counts.{Counts}

-- what Counts speaks of is the same
record Same (w v : World) : Type 0 where
  last : v.last ≡ w.last
  received : v.received ≡ w.received
  posted : v.posted ≡ w.posted
  sent : v.sent ≡ w.sent
  node : v.node ≡ w.node
  peer : v.peer ≡ w.peer
  present : v.present ≡ w.present
  up : v.up ≡ w.up
  closers : v.closers ≡ w.closers
  closer : v.closer ≡ w.closer
  covered : v.covered ≡ w.covered

same : (w v : World) → Counts w → Same w v → Counts v
same w v i e = grind (arith, i, e)

pub by_issue : (p q r : ℕ) (w v : World) → Counts w → Step (Issue p q r) w v → Counts v
by_issue p q r w v i s = grind (arith, nat_tests, i, s)

pub by_issue_unmet : (p q r : ℕ) (w v : World) → Counts w → Step (Issue_unmet p q r) w v → Counts v
by_issue_unmet p q r w v i s = grind (arith, nat_tests, i, s)

pub by_issue_local : (p q : ℕ) (w v : World) → Counts w → Step (Issue_local p q) w v → Counts v
by_issue_local p q w v i s = same w v i (rw s.1 (record { last = refl; received = refl; posted = refl; sent = refl; node = refl; peer = refl; present = refl; up = refl; closers = refl; closer = refl; covered = refl }))

pub by_meet : (p q : ℕ) (w v : World) → Counts w → Step (Meet p q) w v → Counts v
by_meet p q w v i s = grind (arith, nat_tests, i, s)

pub by_notice : (p q : ℕ) (w v : World) → Counts w → Step (Notice p q) w v → Counts v
by_notice p q w v i s = grind (arith, nat_tests, i, s)

pub by_engage : (p q : ℕ) (w v : World) → Counts w → Step (Engage p q) w v → Counts v
by_engage p q w v i s = grind (arith, nat_tests, i, s)

pub by_join : (p q : ℕ) (w v : World) → Counts w → Step (Join p q) w v → Counts v
by_join p q w v i s = grind (arith, nat_tests, i, s)

pub by_cover : (p q : ℕ) (w v : World) → Counts w → Step (Cover p q) w v → Counts v
by_cover p q w v i s = grind (arith, nat_tests, i, s)

pub by_serve : (p q : ℕ) (w v : World) → Counts w → Step (Serve p q) w v → Counts v
by_serve p q w v i s = same w v i (rw s.2 (record { last = refl; received = refl; posted = refl; sent = refl; node = refl; peer = refl; present = refl; up = refl; closers = refl; closer = refl; covered = refl }))

pub by_serve_told : (p q : ℕ) (w v : World) → Counts w → Step (Serve_told p q) w v → Counts v
by_serve_told p q w v i s = same w v i (rw s.2 (record { last = refl; received = refl; posted = refl; sent = refl; node = refl; peer = refl; present = refl; up = refl; closers = refl; closer = refl; covered = refl }))

pub by_lend : (p q : ℕ) (w v : World) → Counts w → Step (Lend p q) w v → Counts v
by_lend p q w v i s = same w v i (rw s.2 (record { last = refl; received = refl; posted = refl; sent = refl; node = refl; peer = refl; present = refl; up = refl; closers = refl; closer = refl; covered = refl }))

pub by_yield : (p : ℕ) (w v : World) → Counts w → Step (Yield p) w v → Counts v
by_yield p w v i s = same w v i (rw s.2.2 (record { last = refl; received = refl; posted = refl; sent = refl; node = refl; peer = refl; present = refl; up = refl; closers = refl; closer = refl; covered = refl }))

pub by_ask : (p : ℕ) (w v : World) → Counts w → Step (Ask p) w v → Counts v
by_ask p w v i s = same w v i (rw s.1 (record { last = refl; received = refl; posted = refl; sent = refl; node = refl; peer = refl; present = refl; up = refl; closers = refl; closer = refl; covered = refl }))

pub by_vote_read : (p q : ℕ) (w v : World) → Counts w → Step (Vote_read p q) w v → Counts v
by_vote_read p q w v i s = same w v i (rw s.1 (record { last = refl; received = refl; posted = refl; sent = refl; node = refl; peer = refl; present = refl; up = refl; closers = refl; closer = refl; covered = refl }))

pub by_vote_volatile : (p q : ℕ) (w v : World) → Counts w → Step (Vote_volatile p q) w v → Counts v
by_vote_volatile p q w v i s = same w v i (rw s.2 (record { last = refl; received = refl; posted = refl; sent = refl; node = refl; peer = refl; present = refl; up = refl; closers = refl; closer = refl; covered = refl }))

pub by_force : (p q : ℕ) (w v : World) → Counts w → Step (Force p q) w v → Counts v
by_force p q w v i s = same w v i (rw s.2 (record { last = refl; received = refl; posted = refl; sent = refl; node = refl; peer = refl; present = refl; up = refl; closers = refl; closer = refl; covered = refl }))

pub by_vote_recoverable : (p q : ℕ) (w v : World) → Counts w → Step (Vote_recoverable p q) w v → Counts v
by_vote_recoverable p q w v i s = same w v i (rw s.2 (record { last = refl; received = refl; posted = refl; sent = refl; node = refl; peer = refl; present = refl; up = refl; closers = refl; closer = refl; covered = refl }))

pub by_vote_abort : (p q : ℕ) (w v : World) → Counts w → Step (Vote_abort p q) w v → Counts v
by_vote_abort p q w v i s = same w v i (rw s.1 (record { last = refl; received = refl; posted = refl; sent = refl; node = refl; peer = refl; present = refl; up = refl; closers = refl; closer = refl; covered = refl }))

pub by_yes : (p : ℕ) (w v : World) → Counts w → Step (Yes p) w v → Counts v
by_yes p w v i s = grind (arith, nat_tests, i, s)

pub by_yes_lost : (p : ℕ) (w v : World) → Counts w → Step (Yes_lost p) w v → Counts v
by_yes_lost p w v i s = grind (arith, nat_tests, i, s)

pub by_count : (p q : ℕ) (w v : World) → Counts w → Step (Count p q) w v → Counts v
by_count p q w v i s = grind (arith, nat_tests, i, s)

pub by_ignore : (p q : ℕ) (w v : World) → Counts w → Step (Ignore p q) w v → Counts v
by_ignore p q w v i s = same w v i (rw s.4 (record { last = refl; received = refl; posted = refl; sent = refl; node = refl; peer = refl; present = refl; up = refl; closers = refl; closer = refl; covered = refl }))

pub by_refuse : (p : ℕ) (w v : World) → Counts w → Step (Refuse p) w v → Counts v
by_refuse p w v i s = same w v i (rw s.1 (record { last = refl; received = refl; posted = refl; sent = refl; node = refl; peer = refl; present = refl; up = refl; closers = refl; closer = refl; covered = refl }))

pub by_miss : (p : ℕ) (w v : World) → Counts w → Step (Miss p) w v → Counts v
by_miss p w v i s = same w v i (rw s.2 (record { last = refl; received = refl; posted = refl; sent = refl; node = refl; peer = refl; present = refl; up = refl; closers = refl; closer = refl; covered = refl }))

pub by_forget : (p : ℕ) (w v : World) → Counts w → Step (Forget p) w v → Counts v
by_forget p w v i s = same w v i (rw s.5 (record { last = refl; received = refl; posted = refl; sent = refl; node = refl; peer = refl; present = refl; up = refl; closers = refl; closer = refl; covered = refl }))

pub by_crash : (p : ℕ) (w v : World) → Counts w → Step (Crash p) w v → Counts v
by_crash p w v i s = grind (arith, nat_tests, i, s)

pub by_restart : (p : ℕ) (w v : World) → Counts w → Step (Restart p) w v → Counts v
by_restart p w v i s = grind (arith, nat_tests, i, s)

pub by_restart_in_doubt : (p q : ℕ) (w v : World) → Counts w → Step (Restart_in_doubt p q) w v → Counts v
by_restart_in_doubt p q w v i s = grind (arith, nat_tests, i, s)

pub by_restart_home : (p : ℕ) (w v : World) → Counts w → Step (Restart_home p) w v → Counts v
by_restart_home p w v i s = grind (arith, nat_tests, i, s)

pub by_commit : (w v : World) → Counts w → Step Commit w v → Counts v
by_commit w v i s = same w v i (rw s.1 (record { last = refl; received = refl; posted = refl; sent = refl; node = refl; peer = refl; present = refl; up = refl; closers = refl; closer = refl; covered = refl }))

pub by_commit_cut : (w v : World) → Counts w → Step Commit_cut w v → Counts v
by_commit_cut w v i s = grind (arith, nat_tests, i, s)

pub by_commit_unlogged : (w v : World) → Counts w → Step Commit_unlogged w v → Counts v
by_commit_unlogged w v i s = same w v i (rw s.3 (record { last = refl; received = refl; posted = refl; sent = refl; node = refl; peer = refl; present = refl; up = refl; closers = refl; closer = refl; covered = refl }))

pub by_abort : (w v : World) → Counts w → Step Abort w v → Counts v
by_abort w v i s = same w v i (rw s.2 (record { last = refl; received = refl; posted = refl; sent = refl; node = refl; peer = refl; present = refl; up = refl; closers = refl; closer = refl; covered = refl }))

pub by_tell : (p q : ℕ) (w v : World) → Counts w → Step (Tell p q) w v → Counts v
by_tell p q w v i s = same w v i (rw s.3 (record { last = refl; received = refl; posted = refl; sent = refl; node = refl; peer = refl; present = refl; up = refl; closers = refl; closer = refl; covered = refl }))

pub by_learn : (p : ℕ) (w v : World) → Counts w → Step (Learn p) w v → Counts v
by_learn p w v i s = same w v i (rw s.3 (record { last = refl; received = refl; posted = refl; sent = refl; node = refl; peer = refl; present = refl; up = refl; closers = refl; closer = refl; covered = refl }))

pub by_learn_cut : (p : ℕ) (w v : World) → Counts w → Step (Learn_cut p) w v → Counts v
by_learn_cut p w v i s = grind (arith, nat_tests, i, s)

pub by_learn_home : (p : ℕ) (w v : World) → Counts w → Step (Learn_home p) w v → Counts v
by_learn_home p w v i s = same w v i (rw s.3 (record { last = refl; received = refl; posted = refl; sent = refl; node = refl; peer = refl; present = refl; up = refl; closers = refl; closer = refl; covered = refl }))

pub by_acknowledge : (p : ℕ) (w v : World) → Counts w → Step (Acknowledge p) w v → Counts v
by_acknowledge p w v i s = same w v i (rw s.2 (record { last = refl; received = refl; posted = refl; sent = refl; node = refl; peer = refl; present = refl; up = refl; closers = refl; closer = refl; covered = refl }))

pub by_take_told : (p q : ℕ) (w v : World) → Counts w → Step (Take_told p q) w v → Counts v
by_take_told p q w v i s = same w v i (rw s.3 (record { last = refl; received = refl; posted = refl; sent = refl; node = refl; peer = refl; present = refl; up = refl; closers = refl; closer = refl; covered = refl }))

pub by_end : (p : ℕ) (w v : World) → Counts w → Step (End p) w v → Counts v
by_end p w v i s = same w v i (rw s.4 (record { last = refl; received = refl; posted = refl; sent = refl; node = refl; peer = refl; present = refl; up = refl; closers = refl; closer = refl; covered = refl }))

pub by_checkpoint : (p : ℕ) (w v : World) → Counts w → Step (Checkpoint p) w v → Counts v
by_checkpoint p w v i s = same w v i (rw s.3 (record { last = refl; received = refl; posted = refl; sent = refl; node = refl; peer = refl; present = refl; up = refl; closers = refl; closer = refl; covered = refl }))

pub by_tell_abort : (p q : ℕ) (w v : World) → Counts w → Step (Tell_abort p q) w v → Counts v
by_tell_abort p q w v i s = same w v i (rw s.4 (record { last = refl; received = refl; posted = refl; sent = refl; node = refl; peer = refl; present = refl; up = refl; closers = refl; closer = refl; covered = refl }))

pub by_learn_abort : (p : ℕ) (w v : World) → Counts w → Step (Learn_abort p) w v → Counts v
by_learn_abort p w v i s = same w v i (rw s.2 (record { last = refl; received = refl; posted = refl; sent = refl; node = refl; peer = refl; present = refl; up = refl; closers = refl; closer = refl; covered = refl }))

pub by_name_again : (p : ℕ) (w v : World) → Counts w → Step (Name_again p) w v → Counts v
by_name_again p w v i s = same w v i (rw s.3 (record { last = refl; received = refl; posted = refl; sent = refl; node = refl; peer = refl; present = refl; up = refl; closers = refl; closer = refl; covered = refl }))

pub by_take_names : (p q r : ℕ) (w v : World) → Counts w → Step (Take_names p q r) w v → Counts v
by_take_names p q r w v i s = same w v i (rw s.2 (record { last = refl; received = refl; posted = refl; sent = refl; node = refl; peer = refl; present = refl; up = refl; closers = refl; closer = refl; covered = refl }))

pub by_learn_abort_home : (p q : ℕ) (w v : World) → Counts w → Step (Learn_abort_home p q) w v → Counts v
by_learn_abort_home p q w v i s = same w v i (rw s.3 (record { last = refl; received = refl; posted = refl; sent = refl; node = refl; peer = refl; present = refl; up = refl; closers = refl; closer = refl; covered = refl }))

pub by_abort_logged : (p : ℕ) (w v : World) → Counts w → Step (Abort_logged p) w v → Counts v
by_abort_logged p w v i s = same w v i (rw s.2 (record { last = refl; received = refl; posted = refl; sent = refl; node = refl; peer = refl; present = refl; up = refl; closers = refl; closer = refl; covered = refl }))

pub by_drop_engage : (p q : ℕ) (w v : World) → Counts w → Step (Drop_engage p q) w v → Counts v
by_drop_engage p q w v i s = grind (arith, nat_tests, i, s)

pub by_drop_join : (p q : ℕ) (w v : World) → Counts w → Step (Drop_join p q) w v → Counts v
by_drop_join p q w v i s = grind (arith, nat_tests, i, s)

pub by_drop_cover : (p q : ℕ) (w v : World) → Counts w → Step (Drop_cover p q) w v → Counts v
by_drop_cover p q w v i s = grind (arith, nat_tests, i, s)

pub by_inquire : (p : ℕ) (w v : World) → Counts w → Step (Inquire p) w v → Counts v
by_inquire p w v i s = same w v i (rw s.4 (record { last = refl; received = refl; posted = refl; sent = refl; node = refl; peer = refl; present = refl; up = refl; closers = refl; closer = refl; covered = refl }))

pub by_inquire_lost : (p : ℕ) (w v : World) → Counts w → Step (Inquire_lost p) w v → Counts v
by_inquire_lost p w v i s = same w v i (rw s.5 (record { last = refl; received = refl; posted = refl; sent = refl; node = refl; peer = refl; present = refl; up = refl; closers = refl; closer = refl; covered = refl }))

pub by_inquire_home : (p : ℕ) (w v : World) → Counts w → Step (Inquire_home p) w v → Counts v
by_inquire_home p w v i s = same w v i (rw s.5 (record { last = refl; received = refl; posted = refl; sent = refl; node = refl; peer = refl; present = refl; up = refl; closers = refl; closer = refl; covered = refl }))

pub by_answer_commit : (p q : ℕ) (w v : World) → Counts w → Step (Answer_commit p q) w v → Counts v
by_answer_commit p q w v i s = same w v i (rw s.2 (record { last = refl; received = refl; posted = refl; sent = refl; node = refl; peer = refl; present = refl; up = refl; closers = refl; closer = refl; covered = refl }))

pub by_answer_running : (p : ℕ) (w v : World) → Counts w → Step (Answer_running p) w v → Counts v
by_answer_running p w v i s = same w v i (rw s.2 (record { last = refl; received = refl; posted = refl; sent = refl; node = refl; peer = refl; present = refl; up = refl; closers = refl; closer = refl; covered = refl }))

pub by_answer_abort : (p q : ℕ) (w v : World) → Counts w → Step (Answer_abort p q) w v → Counts v
by_answer_abort p q w v i s = same w v i (rw s.2 (record { last = refl; received = refl; posted = refl; sent = refl; node = refl; peer = refl; present = refl; up = refl; closers = refl; closer = refl; covered = refl }))
