-- One line for each event: a place that knows abort keeps to it.
use Rattle.std.proofs.Common.{◌≡◌, ℕ, ◌<◌, refl, arith}
use Rattle.std.proofs.lemmas.Bool.Decides.{nat_tests}
use Rattle.qs_world_agree.specs.World.{Open, World}
use Rattle.qs_world_agree.specs.Step.{Issue, Issue_unmet, Issue_local, Meet, Notice, Engage, Join, Cover, Serve, Serve_told, Lend, Yield, Ask, Vote_read, Vote_volatile, Force, Vote_recoverable, Vote_abort, Yes, Yes_lost, Count, Ignore, Refuse, Miss, Forget, Crash, Restart, Restart_in_doubt, Restart_home, Commit, Commit_cut, Commit_unlogged, Abort, Tell, Learn, Learn_cut, Learn_home, Acknowledge, Take_told, End, Checkpoint, Tell_abort, Learn_abort, Name_again, Take_names, Learn_abort_home, Abort_logged, Drop_engage, Drop_join, Drop_cover, Inquire, Inquire_lost, Inquire_home, Answer_commit, Answer_running, Answer_abort, Step}
use Rattle.qs_world_agree.proofs.Kept.{Kept}

pub by_issue : (p q r : ℕ) (w v : World) (k : ℕ) → Step (Issue p q r) w v → Kept w v k
by_issue p q r w v k s = rw s.3 (record { known = λ is. is; served = λ i is. refl; voted = λ i is. refl })

pub by_issue_unmet : (p q r : ℕ) (w v : World) (k : ℕ) → Step (Issue_unmet p q r) w v → Kept w v k
by_issue_unmet p q r w v k s = rw s.3 (record { known = λ is. is; served = λ i is. refl; voted = λ i is. refl })

pub by_issue_local : (p q : ℕ) (w v : World) (k : ℕ) → Step (Issue_local p q) w v → Kept w v k
by_issue_local p q w v k s = rw s.1 (record { known = λ is. is; served = λ i is. refl; voted = λ i is. refl })

pub by_meet : (p q : ℕ) (w v : World) (k : ℕ) → Step (Meet p q) w v → Kept w v k
by_meet p q w v k s = rw s.5 (record { known = λ is. is; served = λ i is. refl; voted = λ i is. refl })

pub by_notice : (p q : ℕ) (w v : World) (k : ℕ) → Step (Notice p q) w v → Kept w v k
by_notice p q w v k s = rw s.5 (record { known = λ is. is; served = λ i is. refl; voted = λ i is. refl })

pub by_engage : (p q : ℕ) (w v : World) (k : ℕ) → Step (Engage p q) w v → Kept w v k
by_engage p q w v k s = rw s.4 (record { known = λ is. is; served = λ i is. refl; voted = λ i is. refl })

pub by_join : (p q : ℕ) (w v : World) (k : ℕ) → Step (Join p q) w v → Kept w v k
by_join p q w v k s = rw s.5 (record { known = λ is. is; served = λ i is. refl; voted = λ i is. refl })

pub by_cover : (p q : ℕ) (w v : World) (k : ℕ) → Step (Cover p q) w v → Kept w v k
by_cover p q w v k s = rw s.4 (record { known = λ is. is; served = λ i is. refl; voted = λ i is. refl })

pub by_serve : (p q : ℕ) (w v : World) (k : ℕ) → Step (Serve p q) w v → Kept w v k
by_serve p q w v k s = grind (arith, nat_tests, s)

pub by_serve_told : (p q : ℕ) (w v : World) (k : ℕ) → Step (Serve_told p q) w v → Kept w v k
by_serve_told p q w v k s = grind (arith, nat_tests, s)

pub by_lend : (p q : ℕ) (w v : World) (k : ℕ) → Step (Lend p q) w v → Kept w v k
by_lend p q w v k s = grind (arith, nat_tests, s)

pub by_yield : (p : ℕ) (w v : World) (k : ℕ) → Step (Yield p) w v → Kept w v k
by_yield p w v k s = rw s.2.2 (record { known = λ is. is; served = λ i is. refl; voted = λ i is. refl })

pub by_ask : (p : ℕ) (w v : World) (k : ℕ) → Step (Ask p) w v → Kept w v k
by_ask p w v k s = rw s.1 (record { known = λ is. is; served = λ i is. refl; voted = λ i is. refl })

pub by_vote_read : (p q : ℕ) (w v : World) (k : ℕ) → Step (Vote_read p q) w v → Kept w v k
by_vote_read p q w v k s = grind (arith, nat_tests, s)

pub by_vote_volatile : (p q : ℕ) (w v : World) (k : ℕ) → Step (Vote_volatile p q) w v → Kept w v k
by_vote_volatile p q w v k s = grind (arith, nat_tests, s)

pub by_force : (p q : ℕ) (w v : World) (k : ℕ) → Step (Force p q) w v → Kept w v k
by_force p q w v k s = rw s.2 (record { known = λ is. is; served = λ i is. refl; voted = λ i is. refl })

pub by_vote_recoverable : (p q : ℕ) (w v : World) (k : ℕ) → Step (Vote_recoverable p q) w v → Kept w v k
by_vote_recoverable p q w v k s = grind (arith, nat_tests, s)

pub by_vote_abort : (p q : ℕ) (w v : World) (k : ℕ) → Step (Vote_abort p q) w v → Kept w v k
by_vote_abort p q w v k s = rw s.1 (record { known = λ is. is; served = λ i is. refl; voted = λ i is. refl })

pub by_yes : (p : ℕ) (w v : World) (k : ℕ) → Step (Yes p) w v → Kept w v k
by_yes p w v k s = rw s.3 (record { known = λ is. is; served = λ i is. refl; voted = λ i is. refl })

pub by_yes_lost : (p : ℕ) (w v : World) (k : ℕ) → Step (Yes_lost p) w v → Kept w v k
by_yes_lost p w v k s = rw s.3 (record { known = λ is. is; served = λ i is. refl; voted = λ i is. refl })

pub by_count : (p q : ℕ) (w v : World) (k : ℕ) → Step (Count p q) w v → Kept w v k
by_count p q w v k s = rw s.3 (record { known = λ is. is; served = λ i is. refl; voted = λ i is. refl })

pub by_ignore : (p q : ℕ) (w v : World) (k : ℕ) → Step (Ignore p q) w v → Kept w v k
by_ignore p q w v k s = rw s.4 (record { known = λ is. is; served = λ i is. refl; voted = λ i is. refl })

pub by_refuse : (p : ℕ) (w v : World) (k : ℕ) → Step (Refuse p) w v → Kept w v k
by_refuse p w v k s = rw s.1 (record { known = λ is. is; served = λ i is. refl; voted = λ i is. refl })

pub by_miss : (p : ℕ) (w v : World) (k : ℕ) → Step (Miss p) w v → Kept w v k
by_miss p w v k s = rw s.2 (record { known = λ is. is; served = λ i is. refl; voted = λ i is. refl })

pub by_forget : (p : ℕ) (w v : World) (k : ℕ) → Step (Forget p) w v → Kept w v k
by_forget p w v k s = rw s.5 (record { known = λ is. is; served = λ i is. refl; voted = λ i is. refl })

pub by_crash : (p : ℕ) (w v : World) (k : ℕ) → Step (Crash p) w v → Kept w v k
by_crash p w v k s = rw s.1 (record { known = λ is. is; served = λ i is. refl; voted = λ i is. refl })

pub by_restart : (p : ℕ) (w v : World) (k : ℕ) → Step (Restart p) w v → Kept w v k
by_restart p w v k s = rw s.4 (record { known = λ is. is; served = λ i is. refl; voted = λ i is. refl })

pub by_restart_in_doubt : (p q : ℕ) (w v : World) (k : ℕ) → Step (Restart_in_doubt p q) w v → Kept w v k
by_restart_in_doubt p q w v k s = rw s.4 (record { known = λ is. is; served = λ i is. refl; voted = λ i is. refl })

pub by_restart_home : (p : ℕ) (w v : World) (k : ℕ) → Step (Restart_home p) w v → (w.present (w.node p) < p → w.outcome p ≡ Open) → Kept w v k
by_restart_home p w v k s unborn = grind (arith, nat_tests, s)

pub by_commit : (w v : World) (k : ℕ) → Step Commit w v → Kept w v k
by_commit w v k s = grind (arith, nat_tests, s)

pub by_commit_cut : (w v : World) (k : ℕ) → Step Commit_cut w v → Kept w v k
by_commit_cut w v k s = rw s.1 (record { known = λ is. is; served = λ i is. refl; voted = λ i is. refl })

pub by_commit_unlogged : (w v : World) (k : ℕ) → Step Commit_unlogged w v → Kept w v k
by_commit_unlogged w v k s = grind (arith, nat_tests, s)

pub by_abort : (w v : World) (k : ℕ) → Step Abort w v → Kept w v k
by_abort w v k s = grind (arith, nat_tests, s)

pub by_tell : (p q : ℕ) (w v : World) (k : ℕ) → Step (Tell p q) w v → Kept w v k
by_tell p q w v k s = rw s.3 (record { known = λ is. is; served = λ i is. refl; voted = λ i is. refl })

pub by_learn : (p : ℕ) (w v : World) (k : ℕ) → Step (Learn p) w v → Kept w v k
by_learn p w v k s = grind (arith, nat_tests, s)

pub by_learn_cut : (p : ℕ) (w v : World) (k : ℕ) → Step (Learn_cut p) w v → Kept w v k
by_learn_cut p w v k s = rw s.3 (record { known = λ is. is; served = λ i is. refl; voted = λ i is. refl })

pub by_learn_home : (p : ℕ) (w v : World) (k : ℕ) → Step (Learn_home p) w v → Kept w v k
by_learn_home p w v k s = rw s.3 (record { known = λ is. is; served = λ i is. refl; voted = λ i is. refl })

pub by_acknowledge : (p : ℕ) (w v : World) (k : ℕ) → Step (Acknowledge p) w v → Kept w v k
by_acknowledge p w v k s = rw s.2 (record { known = λ is. is; served = λ i is. refl; voted = λ i is. refl })

pub by_take_told : (p q : ℕ) (w v : World) (k : ℕ) → Step (Take_told p q) w v → Kept w v k
by_take_told p q w v k s = rw s.3 (record { known = λ is. is; served = λ i is. refl; voted = λ i is. refl })

pub by_end : (p : ℕ) (w v : World) (k : ℕ) → Step (End p) w v → Kept w v k
by_end p w v k s = rw s.4 (record { known = λ is. is; served = λ i is. refl; voted = λ i is. refl })

pub by_checkpoint : (p : ℕ) (w v : World) (k : ℕ) → Step (Checkpoint p) w v → Kept w v k
by_checkpoint p w v k s = rw s.3 (record { known = λ is. is; served = λ i is. refl; voted = λ i is. refl })

pub by_tell_abort : (p q : ℕ) (w v : World) (k : ℕ) → Step (Tell_abort p q) w v → Kept w v k
by_tell_abort p q w v k s = rw s.4 (record { known = λ is. is; served = λ i is. refl; voted = λ i is. refl })

pub by_learn_abort : (p : ℕ) (w v : World) (k : ℕ) → Step (Learn_abort p) w v → Kept w v k
by_learn_abort p w v k s = grind (arith, nat_tests, s)

pub by_name_again : (p : ℕ) (w v : World) (k : ℕ) → Step (Name_again p) w v → Kept w v k
by_name_again p w v k s = rw s.3 (record { known = λ is. is; served = λ i is. refl; voted = λ i is. refl })

pub by_take_names : (p q r : ℕ) (w v : World) (k : ℕ) → Step (Take_names p q r) w v → Kept w v k
by_take_names p q r w v k s = grind (arith, nat_tests, s)

pub by_learn_abort_home : (p q : ℕ) (w v : World) (k : ℕ) → Step (Learn_abort_home p q) w v → Kept w v k
by_learn_abort_home p q w v k s = grind (arith, nat_tests, s)

pub by_abort_logged : (p : ℕ) (w v : World) (k : ℕ) → Step (Abort_logged p) w v → Kept w v k
by_abort_logged p w v k s = rw s.2 (record { known = λ is. is; served = λ i is. refl; voted = λ i is. refl })

pub by_drop_engage : (p q : ℕ) (w v : World) (k : ℕ) → Step (Drop_engage p q) w v → Kept w v k
by_drop_engage p q w v k s = rw s.4 (record { known = λ is. is; served = λ i is. refl; voted = λ i is. refl })

pub by_drop_join : (p q : ℕ) (w v : World) (k : ℕ) → Step (Drop_join p q) w v → Kept w v k
by_drop_join p q w v k s = rw s.5 (record { known = λ is. is; served = λ i is. refl; voted = λ i is. refl })

pub by_drop_cover : (p q : ℕ) (w v : World) (k : ℕ) → Step (Drop_cover p q) w v → Kept w v k
by_drop_cover p q w v k s = rw s.3 (record { known = λ is. is; served = λ i is. refl; voted = λ i is. refl })

pub by_inquire : (p : ℕ) (w v : World) (k : ℕ) → Step (Inquire p) w v → Kept w v k
by_inquire p w v k s = rw s.4 (record { known = λ is. is; served = λ i is. refl; voted = λ i is. refl })

pub by_inquire_lost : (p : ℕ) (w v : World) (k : ℕ) → Step (Inquire_lost p) w v → Kept w v k
by_inquire_lost p w v k s = rw s.5 (record { known = λ is. is; served = λ i is. refl; voted = λ i is. refl })

pub by_inquire_home : (p : ℕ) (w v : World) (k : ℕ) → Step (Inquire_home p) w v → Kept w v k
by_inquire_home p w v k s = rw s.5 (record { known = λ is. is; served = λ i is. refl; voted = λ i is. refl })

pub by_answer_commit : (p q : ℕ) (w v : World) (k : ℕ) → Step (Answer_commit p q) w v → Kept w v k
by_answer_commit p q w v k s = rw s.2 (record { known = λ is. is; served = λ i is. refl; voted = λ i is. refl })

pub by_answer_running : (p : ℕ) (w v : World) (k : ℕ) → Step (Answer_running p) w v → Kept w v k
by_answer_running p w v k s = rw s.2 (record { known = λ is. is; served = λ i is. refl; voted = λ i is. refl })

pub by_answer_abort : (p q : ℕ) (w v : World) (k : ℕ) → Step (Answer_abort p q) w v → Kept w v k
by_answer_abort p q w v k s = grind (arith, nat_tests, s)
