-- One line for each event: Outcomes holds after it.
use Rattle.std.proofs.Common.{◌≡◌, ℕ, refl, arith}
use Rattle.std.proofs.lemmas.Bool.Decides.{nat_tests}
use Rattle.qs_world_agree.specs.World.{Open, World}
use Rattle.qs_world_agree.specs.Step.{Issue, Issue_unmet, Issue_local, Meet, Notice, Engage, Join, Cover, Serve, Serve_told, Lend, Yield, Ask, Vote_read, Vote_volatile, Force, Vote_recoverable, Vote_abort, Yes, Yes_lost, Count, Ignore, Refuse, Miss, Forget, Crash, Restart, Restart_in_doubt, Restart_home, Commit, Commit_cut, Commit_unlogged, Abort, Tell, Learn, Learn_cut, Learn_home, Acknowledge, Take_told, End, Checkpoint, Tell_abort, Learn_abort, Name_again, Take_names, Learn_abort_home, Abort_logged, Drop_engage, Drop_join, Drop_cover, Inquire, Inquire_lost, Inquire_home, Answer_commit, Answer_running, Answer_abort, Step}
use Rattle.qs_world_agree.proofs.Outcomes.{Outcomes}

-- what Outcomes speaks of is the same
record Same (w v : World) : Type 0 where
  outcome : v.outcome ≡ w.outcome
  cell : v.cell ≡ w.cell
  learnt_commit : v.learnt_commit ≡ w.learnt_commit
  tell_commit : v.tell_commit ≡ w.tell_commit
  commit_logged : v.commit_logged ≡ w.commit_logged
  unended : v.unended ≡ w.unended
  ack_put : v.ack_put ≡ w.ack_put
  acknowledged : v.acknowledged ≡ w.acknowledged

same : (w v : World) → Outcomes w → Same w v → Outcomes v
same w v h e = grind (arith, h, e)

pub by_issue : (p q r : ℕ) (w v : World) → Outcomes w → Step (Issue p q r) w v → Outcomes v
by_issue p q r w v h s = same w v h (rw s.3 (record { outcome = refl; cell = refl; learnt_commit = refl; tell_commit = refl; commit_logged = refl; unended = refl; ack_put = refl; acknowledged = refl }))

pub by_issue_unmet : (p q r : ℕ) (w v : World) → Outcomes w → Step (Issue_unmet p q r) w v → Outcomes v
by_issue_unmet p q r w v h s = same w v h (rw s.3 (record { outcome = refl; cell = refl; learnt_commit = refl; tell_commit = refl; commit_logged = refl; unended = refl; ack_put = refl; acknowledged = refl }))

pub by_issue_local : (p q : ℕ) (w v : World) → Outcomes w → Step (Issue_local p q) w v → Outcomes v
by_issue_local p q w v h s = same w v h (rw s.1 (record { outcome = refl; cell = refl; learnt_commit = refl; tell_commit = refl; commit_logged = refl; unended = refl; ack_put = refl; acknowledged = refl }))

pub by_meet : (p q : ℕ) (w v : World) → Outcomes w → Step (Meet p q) w v → Outcomes v
by_meet p q w v h s = same w v h (rw s.5 (record { outcome = refl; cell = refl; learnt_commit = refl; tell_commit = refl; commit_logged = refl; unended = refl; ack_put = refl; acknowledged = refl }))

pub by_notice : (p q : ℕ) (w v : World) → Outcomes w → Step (Notice p q) w v → Outcomes v
by_notice p q w v h s = same w v h (rw s.5 (record { outcome = refl; cell = refl; learnt_commit = refl; tell_commit = refl; commit_logged = refl; unended = refl; ack_put = refl; acknowledged = refl }))

pub by_engage : (p q : ℕ) (w v : World) → Outcomes w → Step (Engage p q) w v → Outcomes v
by_engage p q w v h s = same w v h (rw s.4 (record { outcome = refl; cell = refl; learnt_commit = refl; tell_commit = refl; commit_logged = refl; unended = refl; ack_put = refl; acknowledged = refl }))

pub by_join : (p q : ℕ) (w v : World) → Outcomes w → Step (Join p q) w v → Outcomes v
by_join p q w v h s = same w v h (rw s.5 (record { outcome = refl; cell = refl; learnt_commit = refl; tell_commit = refl; commit_logged = refl; unended = refl; ack_put = refl; acknowledged = refl }))

pub by_cover : (p q : ℕ) (w v : World) → Outcomes w → Step (Cover p q) w v → Outcomes v
by_cover p q w v h s = same w v h (rw s.4 (record { outcome = refl; cell = refl; learnt_commit = refl; tell_commit = refl; commit_logged = refl; unended = refl; ack_put = refl; acknowledged = refl }))

pub by_serve : (p q : ℕ) (w v : World) → Outcomes w → Step (Serve p q) w v → Outcomes v
by_serve p q w v h s = same w v h (rw s.2 (record { outcome = refl; cell = refl; learnt_commit = refl; tell_commit = refl; commit_logged = refl; unended = refl; ack_put = refl; acknowledged = refl }))

pub by_serve_told : (p q : ℕ) (w v : World) → Outcomes w → Step (Serve_told p q) w v → Outcomes v
by_serve_told p q w v h s = same w v h (rw s.2 (record { outcome = refl; cell = refl; learnt_commit = refl; tell_commit = refl; commit_logged = refl; unended = refl; ack_put = refl; acknowledged = refl }))

pub by_lend : (p q : ℕ) (w v : World) → Outcomes w → Step (Lend p q) w v → Outcomes v
by_lend p q w v h s = same w v h (rw s.2 (record { outcome = refl; cell = refl; learnt_commit = refl; tell_commit = refl; commit_logged = refl; unended = refl; ack_put = refl; acknowledged = refl }))

pub by_yield : (p : ℕ) (w v : World) → Outcomes w → Step (Yield p) w v → Outcomes v
by_yield p w v h s = same w v h (rw s.2.2 (record { outcome = refl; cell = refl; learnt_commit = refl; tell_commit = refl; commit_logged = refl; unended = refl; ack_put = refl; acknowledged = refl }))

pub by_ask : (p : ℕ) (w v : World) → Outcomes w → Step (Ask p) w v → Outcomes v
by_ask p w v h s = same w v h (rw s.1 (record { outcome = refl; cell = refl; learnt_commit = refl; tell_commit = refl; commit_logged = refl; unended = refl; ack_put = refl; acknowledged = refl }))

pub by_vote_read : (p q : ℕ) (w v : World) → Outcomes w → Step (Vote_read p q) w v → Outcomes v
by_vote_read p q w v h s = same w v h (rw s.1 (record { outcome = refl; cell = refl; learnt_commit = refl; tell_commit = refl; commit_logged = refl; unended = refl; ack_put = refl; acknowledged = refl }))

pub by_vote_volatile : (p q : ℕ) (w v : World) → Outcomes w → Step (Vote_volatile p q) w v → Outcomes v
by_vote_volatile p q w v h s = same w v h (rw s.2 (record { outcome = refl; cell = refl; learnt_commit = refl; tell_commit = refl; commit_logged = refl; unended = refl; ack_put = refl; acknowledged = refl }))

pub by_force : (p q : ℕ) (w v : World) → Outcomes w → Step (Force p q) w v → Outcomes v
by_force p q w v h s = same w v h (rw s.2 (record { outcome = refl; cell = refl; learnt_commit = refl; tell_commit = refl; commit_logged = refl; unended = refl; ack_put = refl; acknowledged = refl }))

pub by_vote_recoverable : (p q : ℕ) (w v : World) → Outcomes w → Step (Vote_recoverable p q) w v → Outcomes v
by_vote_recoverable p q w v h s = same w v h (rw s.2 (record { outcome = refl; cell = refl; learnt_commit = refl; tell_commit = refl; commit_logged = refl; unended = refl; ack_put = refl; acknowledged = refl }))

pub by_vote_abort : (p q : ℕ) (w v : World) → Outcomes w → Step (Vote_abort p q) w v → Outcomes v
by_vote_abort p q w v h s = same w v h (rw s.1 (record { outcome = refl; cell = refl; learnt_commit = refl; tell_commit = refl; commit_logged = refl; unended = refl; ack_put = refl; acknowledged = refl }))

pub by_yes : (p : ℕ) (w v : World) → Outcomes w → Step (Yes p) w v → Outcomes v
by_yes p w v h s = same w v h (rw s.3 (record { outcome = refl; cell = refl; learnt_commit = refl; tell_commit = refl; commit_logged = refl; unended = refl; ack_put = refl; acknowledged = refl }))

pub by_yes_lost : (p : ℕ) (w v : World) → Outcomes w → Step (Yes_lost p) w v → Outcomes v
by_yes_lost p w v h s = same w v h (rw s.3 (record { outcome = refl; cell = refl; learnt_commit = refl; tell_commit = refl; commit_logged = refl; unended = refl; ack_put = refl; acknowledged = refl }))

pub by_count : (p q : ℕ) (w v : World) → Outcomes w → Step (Count p q) w v → Outcomes v
by_count p q w v h s = same w v h (rw s.3 (record { outcome = refl; cell = refl; learnt_commit = refl; tell_commit = refl; commit_logged = refl; unended = refl; ack_put = refl; acknowledged = refl }))

pub by_ignore : (p q : ℕ) (w v : World) → Outcomes w → Step (Ignore p q) w v → Outcomes v
by_ignore p q w v h s = same w v h (rw s.4 (record { outcome = refl; cell = refl; learnt_commit = refl; tell_commit = refl; commit_logged = refl; unended = refl; ack_put = refl; acknowledged = refl }))

pub by_refuse : (p : ℕ) (w v : World) → Outcomes w → Step (Refuse p) w v → Outcomes v
by_refuse p w v h s = same w v h (rw s.1 (record { outcome = refl; cell = refl; learnt_commit = refl; tell_commit = refl; commit_logged = refl; unended = refl; ack_put = refl; acknowledged = refl }))

pub by_miss : (p : ℕ) (w v : World) → Outcomes w → Step (Miss p) w v → Outcomes v
by_miss p w v h s = same w v h (rw s.2 (record { outcome = refl; cell = refl; learnt_commit = refl; tell_commit = refl; commit_logged = refl; unended = refl; ack_put = refl; acknowledged = refl }))

pub by_forget : (p : ℕ) (w v : World) → Outcomes w → Step (Forget p) w v → Outcomes v
by_forget p w v h s = same w v h (rw s.5 (record { outcome = refl; cell = refl; learnt_commit = refl; tell_commit = refl; commit_logged = refl; unended = refl; ack_put = refl; acknowledged = refl }))

pub by_crash : (p : ℕ) (w v : World) → Outcomes w → Step (Crash p) w v → Outcomes v
by_crash p w v h s = same w v h (rw s.1 (record { outcome = refl; cell = refl; learnt_commit = refl; tell_commit = refl; commit_logged = refl; unended = refl; ack_put = refl; acknowledged = refl }))

pub by_restart : (p : ℕ) (w v : World) → Outcomes w → Step (Restart p) w v → Outcomes v
by_restart p w v h s = same w v h (rw s.4 (record { outcome = refl; cell = refl; learnt_commit = refl; tell_commit = refl; commit_logged = refl; unended = refl; ack_put = refl; acknowledged = refl }))

pub by_restart_in_doubt : (p q : ℕ) (w v : World) → Outcomes w → Step (Restart_in_doubt p q) w v → Outcomes v
by_restart_in_doubt p q w v h s = same w v h (rw s.4 (record { outcome = refl; cell = refl; learnt_commit = refl; tell_commit = refl; commit_logged = refl; unended = refl; ack_put = refl; acknowledged = refl }))

pub by_restart_home : (p : ℕ) (w v : World) → Outcomes w → Step (Restart_home p) w v → Outcomes v
by_restart_home p w v h s = grind (arith, nat_tests, h, s)

pub by_commit : (w v : World) → Outcomes w → Step Commit w v → Outcomes v
by_commit w v h s = grind (arith, nat_tests, h, s)

pub by_commit_cut : (w v : World) → Outcomes w → Step Commit_cut w v → Outcomes v
by_commit_cut w v h s = grind (arith, nat_tests, h, s)

pub by_commit_unlogged : (w v : World) → Outcomes w → Step Commit_unlogged w v → Outcomes v
by_commit_unlogged w v h s = grind (arith, nat_tests, h, s)

pub by_abort : (w v : World) → Outcomes w → Step Abort w v → w.cell ≡ Open → Outcomes v
by_abort w v h s is = grind (arith, nat_tests, h, s)

pub by_tell : (p q : ℕ) (w v : World) → Outcomes w → Step (Tell p q) w v → Outcomes v
by_tell p q w v h s = grind (arith, nat_tests, h, s)

pub by_learn : (p : ℕ) (w v : World) → Outcomes w → Step (Learn p) w v → Outcomes v
by_learn p w v h s = grind (arith, nat_tests, h, s)

pub by_learn_cut : (p : ℕ) (w v : World) → Outcomes w → Step (Learn_cut p) w v → Outcomes v
by_learn_cut p w v h s = grind (arith, nat_tests, h, s)

pub by_learn_home : (p : ℕ) (w v : World) → Outcomes w → Step (Learn_home p) w v → Outcomes v
by_learn_home p w v h s = grind (arith, nat_tests, h, s)

pub by_acknowledge : (p : ℕ) (w v : World) → Outcomes w → Step (Acknowledge p) w v → Outcomes v
by_acknowledge p w v h s = grind (arith, nat_tests, h, s)

pub by_take_told : (p q : ℕ) (w v : World) → Outcomes w → Step (Take_told p q) w v → Outcomes v
by_take_told p q w v h s = grind (arith, nat_tests, h, s)

pub by_end : (p : ℕ) (w v : World) → Outcomes w → Step (End p) w v → Outcomes v
by_end p w v h s = grind (arith, nat_tests, h, s)

pub by_checkpoint : (p : ℕ) (w v : World) → Outcomes w → Step (Checkpoint p) w v → Outcomes v
by_checkpoint p w v h s = grind (arith, nat_tests, h, s)

pub by_tell_abort : (p q : ℕ) (w v : World) → Outcomes w → Step (Tell_abort p q) w v → Outcomes v
by_tell_abort p q w v h s = same w v h (rw s.4 (record { outcome = refl; cell = refl; learnt_commit = refl; tell_commit = refl; commit_logged = refl; unended = refl; ack_put = refl; acknowledged = refl }))

pub by_learn_abort : (p : ℕ) (w v : World) → Outcomes w → Step (Learn_abort p) w v → Outcomes v
by_learn_abort p w v h s = grind (arith, nat_tests, h, s)

pub by_name_again : (p : ℕ) (w v : World) → Outcomes w → Step (Name_again p) w v → Outcomes v
by_name_again p w v h s = same w v h (rw s.3 (record { outcome = refl; cell = refl; learnt_commit = refl; tell_commit = refl; commit_logged = refl; unended = refl; ack_put = refl; acknowledged = refl }))

pub by_take_names : (p q r : ℕ) (w v : World) → Outcomes w → Step (Take_names p q r) w v → Outcomes v
by_take_names p q r w v h s = grind (arith, nat_tests, h, s)

pub by_learn_abort_home : (p q : ℕ) (w v : World) → Outcomes w → Step (Learn_abort_home p q) w v → Outcomes v
by_learn_abort_home p q w v h s = grind (arith, nat_tests, h, s)

pub by_abort_logged : (p : ℕ) (w v : World) → Outcomes w → Step (Abort_logged p) w v → Outcomes v
by_abort_logged p w v h s = same w v h (rw s.2 (record { outcome = refl; cell = refl; learnt_commit = refl; tell_commit = refl; commit_logged = refl; unended = refl; ack_put = refl; acknowledged = refl }))

pub by_drop_engage : (p q : ℕ) (w v : World) → Outcomes w → Step (Drop_engage p q) w v → Outcomes v
by_drop_engage p q w v h s = same w v h (rw s.4 (record { outcome = refl; cell = refl; learnt_commit = refl; tell_commit = refl; commit_logged = refl; unended = refl; ack_put = refl; acknowledged = refl }))

pub by_drop_join : (p q : ℕ) (w v : World) → Outcomes w → Step (Drop_join p q) w v → Outcomes v
by_drop_join p q w v h s = same w v h (rw s.5 (record { outcome = refl; cell = refl; learnt_commit = refl; tell_commit = refl; commit_logged = refl; unended = refl; ack_put = refl; acknowledged = refl }))

pub by_drop_cover : (p q : ℕ) (w v : World) → Outcomes w → Step (Drop_cover p q) w v → Outcomes v
by_drop_cover p q w v h s = same w v h (rw s.3 (record { outcome = refl; cell = refl; learnt_commit = refl; tell_commit = refl; commit_logged = refl; unended = refl; ack_put = refl; acknowledged = refl }))

pub by_inquire : (p : ℕ) (w v : World) → Outcomes w → Step (Inquire p) w v → Outcomes v
by_inquire p w v h s = same w v h (rw s.4 (record { outcome = refl; cell = refl; learnt_commit = refl; tell_commit = refl; commit_logged = refl; unended = refl; ack_put = refl; acknowledged = refl }))

pub by_inquire_lost : (p : ℕ) (w v : World) → Outcomes w → Step (Inquire_lost p) w v → Outcomes v
by_inquire_lost p w v h s = same w v h (rw s.5 (record { outcome = refl; cell = refl; learnt_commit = refl; tell_commit = refl; commit_logged = refl; unended = refl; ack_put = refl; acknowledged = refl }))

pub by_inquire_home : (p : ℕ) (w v : World) → Outcomes w → Step (Inquire_home p) w v → Outcomes v
by_inquire_home p w v h s = same w v h (rw s.5 (record { outcome = refl; cell = refl; learnt_commit = refl; tell_commit = refl; commit_logged = refl; unended = refl; ack_put = refl; acknowledged = refl }))

pub by_answer_commit : (p q : ℕ) (w v : World) → Outcomes w → Step (Answer_commit p q) w v → Outcomes v
by_answer_commit p q w v h s = grind (arith, nat_tests, h, s)

pub by_answer_running : (p : ℕ) (w v : World) → Outcomes w → Step (Answer_running p) w v → Outcomes v
by_answer_running p w v h s = same w v h (rw s.2 (record { outcome = refl; cell = refl; learnt_commit = refl; tell_commit = refl; commit_logged = refl; unended = refl; ack_put = refl; acknowledged = refl }))

pub by_answer_abort : (p q : ℕ) (w v : World) → Outcomes w → Step (Answer_abort p q) w v → Outcomes v
by_answer_abort p q w v h s = grind (arith, nat_tests, h, s)
