-- Telling holds after each event.
use Rattle.std.proofs.Common.{◌≡◌, ℕ, ◌<◌, arith}
use Rattle.std.proofs.lemmas.Bool.Decides.{nat_tests}
use Rattle.qs_world_agree.specs.World.{Open, World}
use Rattle.qs_world_agree.specs.Step.{Event, Issue, Issue_unmet, Issue_local, Meet, Notice, Engage, Join, Cover, Serve, Serve_told, Lend, Yield, Ask, Vote_read, Vote_volatile, Force, Vote_recoverable, Vote_abort, Yes, Yes_lost, Count, Ignore, Refuse, Miss, Forget, Crash, Restart, Restart_in_doubt, Restart_home, Commit, Commit_cut, Commit_unlogged, Abort, Tell, Learn, Learn_cut, Learn_home, Acknowledge, Take_told, End, Checkpoint, Tell_abort, Learn_abort, Name_again, Take_names, Learn_abort_home, Abort_logged, Drop_engage, Drop_join, Drop_cover, Inquire, Inquire_lost, Inquire_home, Answer_commit, Answer_running, Answer_abort, Step}
use Rattle.qs_world_agree.proofs.Keeps.{Keeps}
use Rattle.qs_world_agree_ends.proofs.Telling.{Telling}

by_restart_home : (p : ℕ) (w v : World) (k n : ℕ) → Telling w k n → Step (Restart_home p) w v → (w.present (w.node p) < p → w.outcome p ≡ Open) → Telling v k n
by_restart_home p w v k n h s unborn = grind (arith, nat_tests, h, s)

by_commit : (w v : World) (k n : ℕ) → Telling w k n → Step Commit w v → Telling v k n
by_commit w v k n h s = grind (arith, nat_tests, h, s.0.unknown, s)

by_commit_unlogged : (w v : World) (k n : ℕ) → Telling w k n → Step Commit_unlogged w v → Telling v k n
by_commit_unlogged w v k n h s = grind (arith, nat_tests, h, s.0.unknown, s)

by_abort : (w v : World) (k n : ℕ) → Telling w k n → Step Abort w v → Telling v k n
by_abort w v k n h s = grind (arith, nat_tests, h, s)

by_learn : (p : ℕ) (w v : World) (k n : ℕ) → Telling w k n → Step (Learn p) w v → Telling v k n
by_learn p w v k n h s = grind (arith, nat_tests, h, s)

by_acknowledge : (p : ℕ) (w v : World) (k n : ℕ) → Telling w k n → Step (Acknowledge p) w v → Telling v k n
by_acknowledge p w v k n h s = grind (arith, nat_tests, h, s)

by_learn_abort : (p : ℕ) (w v : World) (k n : ℕ) → Telling w k n → Step (Learn_abort p) w v → Telling v k n
by_learn_abort p w v k n h s = grind (arith, nat_tests, h, s)

by_name_again : (p : ℕ) (w v : World) (k n : ℕ) → Telling w k n → Step (Name_again p) w v → Telling v k n
by_name_again p w v k n h s = grind (arith, nat_tests, h, s)

by_take_names : (p q r : ℕ) (w v : World) (k n : ℕ) → Telling w k n → Step (Take_names p q r) w v → Telling v k n
by_take_names p q r w v k n h s = grind (arith, nat_tests, h, s)

by_learn_abort_home : (p q : ℕ) (w v : World) (k n : ℕ) → Telling w k n → Step (Learn_abort_home p q) w v → Telling v k n
by_learn_abort_home p q w v k n h s = grind (arith, nat_tests, h, s)

by_answer_abort : (p q : ℕ) (w v : World) (k n : ℕ) → Telling w k n → Step (Answer_abort p q) w v → Telling v k n
by_answer_abort p q w v k n h s = grind (arith, nat_tests, h, s)

pub telling_step : (e : Event) (w v : World) (k n : ℕ) → ((j : ℕ) → Keeps w j) → Telling w k n → Step e w v → Telling v k n
telling_step (Issue p q r) w v k n y h s = rw s.3 (record { answered = h.answered; to_tell = h.to_tell; named = h.named })
telling_step (Issue_unmet p q r) w v k n y h s = rw s.3 (record { answered = h.answered; to_tell = h.to_tell; named = h.named })
telling_step (Issue_local p q) w v k n y h s = rw s.1 (record { answered = h.answered; to_tell = h.to_tell; named = h.named })
telling_step (Meet p q) w v k n y h s = rw s.5 (record { answered = h.answered; to_tell = h.to_tell; named = h.named })
telling_step (Notice p q) w v k n y h s = rw s.5 (record { answered = h.answered; to_tell = h.to_tell; named = h.named })
telling_step (Engage p q) w v k n y h s = rw s.4 (record { answered = h.answered; to_tell = h.to_tell; named = h.named })
telling_step (Join p q) w v k n y h s = rw s.5 (record { answered = h.answered; to_tell = h.to_tell; named = h.named })
telling_step (Cover p q) w v k n y h s = rw s.4 (record { answered = h.answered; to_tell = h.to_tell; named = h.named })
telling_step (Serve p q) w v k n y h s = rw s.2 (record { answered = h.answered; to_tell = h.to_tell; named = h.named })
telling_step (Serve_told p q) w v k n y h s = rw s.2 (record { answered = h.answered; to_tell = h.to_tell; named = h.named })
telling_step (Lend p q) w v k n y h s = rw s.2 (record { answered = h.answered; to_tell = h.to_tell; named = h.named })
telling_step (Yield p) w v k n y h s = rw s.2.2 (record { answered = h.answered; to_tell = h.to_tell; named = h.named })
telling_step (Ask p) w v k n y h s = rw s.1 (record { answered = h.answered; to_tell = h.to_tell; named = h.named })
telling_step (Vote_read p q) w v k n y h s = rw s.1 (record { answered = h.answered; to_tell = h.to_tell; named = h.named })
telling_step (Vote_volatile p q) w v k n y h s = rw s.2 (record { answered = h.answered; to_tell = h.to_tell; named = h.named })
telling_step (Force p q) w v k n y h s = rw s.2 (record { answered = h.answered; to_tell = h.to_tell; named = h.named })
telling_step (Vote_recoverable p q) w v k n y h s = rw s.2 (record { answered = h.answered; to_tell = h.to_tell; named = h.named })
telling_step (Vote_abort p q) w v k n y h s = rw s.1 (record { answered = h.answered; to_tell = h.to_tell; named = h.named })
telling_step (Yes p) w v k n y h s = rw s.3 (record { answered = h.answered; to_tell = h.to_tell; named = h.named })
telling_step (Yes_lost p) w v k n y h s = rw s.3 (record { answered = h.answered; to_tell = h.to_tell; named = h.named })
telling_step (Count p q) w v k n y h s = rw s.3 (record { answered = h.answered; to_tell = h.to_tell; named = h.named })
telling_step (Ignore p q) w v k n y h s = rw s.4 (record { answered = h.answered; to_tell = h.to_tell; named = h.named })
telling_step (Refuse p) w v k n y h s = rw s.1 (record { answered = h.answered; to_tell = h.to_tell; named = h.named })
telling_step (Miss p) w v k n y h s = rw s.2 (record { answered = h.answered; to_tell = h.to_tell; named = h.named })
telling_step (Forget p) w v k n y h s = rw s.5 (record { answered = h.answered; to_tell = h.to_tell; named = h.named })
telling_step (Crash p) w v k n y h s = rw s.1 (record { answered = h.answered; to_tell = h.to_tell; named = h.named })
telling_step (Restart p) w v k n y h s = rw s.4 (record { answered = h.answered; to_tell = h.to_tell; named = h.named })
telling_step (Restart_in_doubt p q) w v k n y h s = rw s.4 (record { answered = h.answered; to_tell = h.to_tell; named = h.named })
telling_step (Restart_home p) w v k n y h s = by_restart_home p w v k n h s (y p).unborn
telling_step Commit w v k n y h s = by_commit w v k n h s
telling_step Commit_cut w v k n y h s = rw s.1 (record { answered = h.answered; to_tell = h.to_tell; named = h.named })
telling_step Commit_unlogged w v k n y h s = by_commit_unlogged w v k n h s
telling_step Abort w v k n y h s = by_abort w v k n h s
telling_step (Tell p q) w v k n y h s = rw s.3 (record { answered = h.answered; to_tell = h.to_tell; named = h.named })
telling_step (Learn p) w v k n y h s = by_learn p w v k n h s
telling_step (Learn_cut p) w v k n y h s = rw s.3 (record { answered = h.answered; to_tell = h.to_tell; named = h.named })
telling_step (Learn_home p) w v k n y h s = rw s.3 (record { answered = h.answered; to_tell = h.to_tell; named = h.named })
telling_step (Acknowledge p) w v k n y h s = by_acknowledge p w v k n h s
telling_step (Take_told p q) w v k n y h s = rw s.3 (record { answered = h.answered; to_tell = h.to_tell; named = h.named })
telling_step (End p) w v k n y h s = rw s.4 (record { answered = h.answered; to_tell = h.to_tell; named = h.named })
telling_step (Checkpoint p) w v k n y h s = rw s.3 (record { answered = h.answered; to_tell = h.to_tell; named = h.named })
telling_step (Tell_abort p q) w v k n y h s = rw s.4 (record { answered = h.answered; to_tell = h.to_tell; named = h.named })
telling_step (Learn_abort p) w v k n y h s = by_learn_abort p w v k n h s
telling_step (Name_again p) w v k n y h s = by_name_again p w v k n h s
telling_step (Take_names p q r) w v k n y h s = by_take_names p q r w v k n h s
telling_step (Learn_abort_home p q) w v k n y h s = by_learn_abort_home p q w v k n h s
telling_step (Abort_logged p) w v k n y h s = rw s.2 (record { answered = h.answered; to_tell = h.to_tell; named = h.named })
telling_step (Drop_engage p q) w v k n y h s = rw s.4 (record { answered = h.answered; to_tell = h.to_tell; named = h.named })
telling_step (Drop_join p q) w v k n y h s = rw s.5 (record { answered = h.answered; to_tell = h.to_tell; named = h.named })
telling_step (Drop_cover p q) w v k n y h s = rw s.3 (record { answered = h.answered; to_tell = h.to_tell; named = h.named })
telling_step (Inquire p) w v k n y h s = rw s.4 (record { answered = h.answered; to_tell = h.to_tell; named = h.named })
telling_step (Inquire_lost p) w v k n y h s = rw s.5 (record { answered = h.answered; to_tell = h.to_tell; named = h.named })
telling_step (Inquire_home p) w v k n y h s = rw s.5 (record { answered = h.answered; to_tell = h.to_tell; named = h.named })
telling_step (Answer_commit p q) w v k n y h s = rw s.2 (record { answered = h.answered; to_tell = h.to_tell; named = h.named })
telling_step (Answer_running p) w v k n y h s = rw s.2 (record { answered = h.answered; to_tell = h.to_tell; named = h.named })
telling_step (Answer_abort p q) w v k n y h s = by_answer_abort p q w v k n h s
