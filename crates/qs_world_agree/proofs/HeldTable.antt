-- One line for each event: Held holds after it.
use Rattle.std.proofs.Common.{◌≡◌, ◌≢◌, ℕ, ◌+◌, true, false, refl, arith}
use Rattle.std.proofs.lemmas.Bool.Decides.{nat_tests}
use Rattle.qs_world_agree.specs.World.{Open, Aborted, Flight, Dead, World}
use Rattle.qs_world_agree.specs.Step.{Issue, Issue_unmet, Issue_local, Meet, Notice, Engage, Join, Cover, Serve, Serve_told, Lend, Yield, Ask, Vote_read, Vote_volatile, Force, Vote_recoverable, Vote_abort, Yes, Yes_lost, Count, Ignore, Refuse, Miss, Forget, Crash, Restart, Restart_in_doubt, Restart_home, Commit, Commit_cut, Commit_unlogged, Tell, Learn, Learn_cut, Learn_home, Acknowledge, Take_told, End, Checkpoint, Inquire, Inquire_lost, Answer_commit, Answer_running, Step}
use Rattle.qs_world_agree.proofs.Held.{Flying, Held, Leaving}

-- what Held speaks of is the same
record Same (w v : World) : Type 0 where
  cell : v.cell ≡ w.cell
  way : v.way ≡ w.way
  engaged : v.engaged ≡ w.engaged
  holder : v.holder ≡ w.holder
  node : v.node ≡ w.node
  involved : v.involved ≡ w.involved
  told_set : v.told_set ≡ w.told_set
  present : v.present ≡ w.present
  closers_taken : v.closers_taken ≡ w.closers_taken
  sender : v.sender ≡ w.sender
  index : v.index ≡ w.index
  closers : v.closers ≡ w.closers
  closer_set : v.closer_set ≡ w.closer_set
  gone : v.gone ≡ w.gone
  covered : v.covered ≡ w.covered
  closer : v.closer ≡ w.closer
  peer : v.peer ≡ w.peer

same : (w v : World) (n : ℕ) → Held w n → Same w v → Held v n
same w v n h e = grind (arith, h, e)

pub by_issue : (p q r : ℕ) (w v : World) (n : ℕ) → Held w n → Step (Issue p q r) w v → w.engaged p ≡ true → Held v n
by_issue p q r w v n h s on = grind (arith, nat_tests, h, s)

pub by_issue_unmet : (p q r : ℕ) (w v : World) (n : ℕ) → Held w n → Step (Issue_unmet p q r) w v → w.engaged p ≡ true → Held v n
by_issue_unmet p q r w v n h s on = grind (arith, nat_tests, h, s)

pub by_issue_local : (p q : ℕ) (w v : World) (n : ℕ) → Held w n → Step (Issue_local p q) w v → Held v n
by_issue_local p q w v n h s = same w v n h (rw s.1 (record { cell = refl; way = refl; engaged = refl; holder = refl; node = refl; involved = refl; told_set = refl; present = refl; closers_taken = refl; sender = refl; index = refl; closers = refl; closer_set = refl; gone = refl; covered = refl; closer = refl; peer = refl }))

pub by_meet : (p q : ℕ) (w v : World) (n : ℕ) → Held w n → Step (Meet p q) w v → (w.cell ≡ Open → w.way n ≡ Flight → w.gone (w.holder n) ≡ false → Flying w n) → Held v n
by_meet p q w v n h s f = grind (arith, nat_tests, h, s)

pub by_notice : (p q : ℕ) (w v : World) (n : ℕ) → Held w n → Step (Notice p q) w v → (w.cell ≡ Open → w.way n ≡ Flight → w.gone (w.holder n) ≡ false → Flying w n) → Held v n
by_notice p q w v n h s f = grind (arith, nat_tests, h, s)

pub by_engage : (p q : ℕ) (w v : World) (n : ℕ) → Held w n → Step (Engage p q) w v → Held v n
by_engage p q w v n h s = grind (arith, nat_tests, h, s)

pub by_join : (p q : ℕ) (w v : World) (n : ℕ) → Held w n → Step (Join p q) w v → Held v n
by_join p q w v n h s = same w v n h (rw s.5 (record { cell = refl; way = refl; engaged = refl; holder = refl; node = refl; involved = refl; told_set = refl; present = refl; closers_taken = refl; sender = refl; index = refl; closers = refl; closer_set = refl; gone = refl; covered = refl; closer = refl; peer = refl }))

pub by_cover : (p q : ℕ) (w v : World) (n : ℕ) → Held w n → Step (Cover p q) w v → Held v n
by_cover p q w v n h s = grind (arith, nat_tests, h, s)

pub by_serve : (p q : ℕ) (w v : World) (n : ℕ) → Held w n → Step (Serve p q) w v → Held v n
by_serve p q w v n h s = same w v n h (rw s.2 (record { cell = refl; way = refl; engaged = refl; holder = refl; node = refl; involved = refl; told_set = refl; present = refl; closers_taken = refl; sender = refl; index = refl; closers = refl; closer_set = refl; gone = refl; covered = refl; closer = refl; peer = refl }))

pub by_serve_told : (p q : ℕ) (w v : World) (n : ℕ) → Held w n → Step (Serve_told p q) w v → w.engaged p ≡ true → Held v n
by_serve_told p q w v n h s on = grind (arith, nat_tests, h, s)

pub by_lend : (p q : ℕ) (w v : World) (n : ℕ) → Held w n → Step (Lend p q) w v → Held v n
by_lend p q w v n h s = same w v n h (rw s.2 (record { cell = refl; way = refl; engaged = refl; holder = refl; node = refl; involved = refl; told_set = refl; present = refl; closers_taken = refl; sender = refl; index = refl; closers = refl; closer_set = refl; gone = refl; covered = refl; closer = refl; peer = refl }))

pub by_yield : (p : ℕ) (w v : World) (n : ℕ) → Held w n → Step (Yield p) w v → Held v n
by_yield p w v n h s = same w v n h (rw s.2.2 (record { cell = refl; way = refl; engaged = refl; holder = refl; node = refl; involved = refl; told_set = refl; present = refl; closers_taken = refl; sender = refl; index = refl; closers = refl; closer_set = refl; gone = refl; covered = refl; closer = refl; peer = refl }))

pub by_ask : (p : ℕ) (w v : World) (n : ℕ) → Held w n → Step (Ask p) w v → Held v n
by_ask p w v n h s = same w v n h (rw s.1 (record { cell = refl; way = refl; engaged = refl; holder = refl; node = refl; involved = refl; told_set = refl; present = refl; closers_taken = refl; sender = refl; index = refl; closers = refl; closer_set = refl; gone = refl; covered = refl; closer = refl; peer = refl }))

pub by_vote_read : (p q : ℕ) (w v : World) (n : ℕ) → Held w n → Step (Vote_read p q) w v → Held v n
by_vote_read p q w v n h s = same w v n h (rw s.1 (record { cell = refl; way = refl; engaged = refl; holder = refl; node = refl; involved = refl; told_set = refl; present = refl; closers_taken = refl; sender = refl; index = refl; closers = refl; closer_set = refl; gone = refl; covered = refl; closer = refl; peer = refl }))

pub by_vote_volatile : (p q : ℕ) (w v : World) (n : ℕ) → Held w n → Step (Vote_volatile p q) w v → w.engaged p ≡ true → Held v n
by_vote_volatile p q w v n h s on = grind (arith, nat_tests, h, s)

pub by_force : (p q : ℕ) (w v : World) (n : ℕ) → Held w n → Step (Force p q) w v → w.engaged p ≡ true → Held v n
by_force p q w v n h s on = grind (arith, nat_tests, h, s)

pub by_vote_recoverable : (p q : ℕ) (w v : World) (n : ℕ) → Held w n → Step (Vote_recoverable p q) w v → w.engaged p ≡ true → Held v n
by_vote_recoverable p q w v n h s on = grind (arith, nat_tests, h, s)

pub by_vote_abort : (p q : ℕ) (w v : World) (n : ℕ) → Held w n → Step (Vote_abort p q) w v → Held v n
by_vote_abort p q w v n h s = same w v n h (rw s.1 (record { cell = refl; way = refl; engaged = refl; holder = refl; node = refl; involved = refl; told_set = refl; present = refl; closers_taken = refl; sender = refl; index = refl; closers = refl; closer_set = refl; gone = refl; covered = refl; closer = refl; peer = refl }))

pub by_yes : (p : ℕ) (w v : World) (n : ℕ) → Held w n → Step (Yes p) w v → Leaving w p → (w.cell ≡ Open → w.holder n ≡ p → (w.way n ≢ Flight) × (w.way n ≢ Dead)) → Held v n
by_yes p w v n h s l r = grind (arith, nat_tests, h, s)

pub by_yes_lost : (p : ℕ) (w v : World) (n : ℕ) → Held w n → Step (Yes_lost p) w v → Leaving w p → (w.cell ≡ Open → w.holder n ≡ p → (w.way n ≢ Flight) × (w.way n ≢ Dead)) → Held v n
by_yes_lost p w v n h s l r = grind (arith, nat_tests, h, s)

pub by_count : (p q : ℕ) (w v : World) (n : ℕ) → Held w n → Step (Count p q) w v → Held v n
by_count p q w v n h s = grind (arith, nat_tests, h, h.flight_below (w.closers_taken p q + 1), s)

pub by_ignore : (p q : ℕ) (w v : World) (n : ℕ) → Held w n → Step (Ignore p q) w v → Held v n
by_ignore p q w v n h s = grind (arith, nat_tests, h, s)

pub by_refuse : (p : ℕ) (w v : World) (n : ℕ) → Held w n → Step (Refuse p) w v → Held v n
by_refuse p w v n h s = same w v n h (rw s.1 (record { cell = refl; way = refl; engaged = refl; holder = refl; node = refl; involved = refl; told_set = refl; present = refl; closers_taken = refl; sender = refl; index = refl; closers = refl; closer_set = refl; gone = refl; covered = refl; closer = refl; peer = refl }))

pub by_miss : (p : ℕ) (w v : World) (n : ℕ) → Held w n → Step (Miss p) w v → Held v n
by_miss p w v n h s = grind (arith, nat_tests, h, s)

pub by_forget : (p : ℕ) (w v : World) (n : ℕ) → Held w n → Step (Forget p) w v → Held v n
by_forget p w v n h s = same w v n h (rw s.5 (record { cell = refl; way = refl; engaged = refl; holder = refl; node = refl; involved = refl; told_set = refl; present = refl; closers_taken = refl; sender = refl; index = refl; closers = refl; closer_set = refl; gone = refl; covered = refl; closer = refl; peer = refl }))

pub by_crash : (p : ℕ) (w v : World) (n : ℕ) → Held w n → Step (Crash p) w v → Held v n
by_crash p w v n h s = same w v n h (rw s.1 (record { cell = refl; way = refl; engaged = refl; holder = refl; node = refl; involved = refl; told_set = refl; present = refl; closers_taken = refl; sender = refl; index = refl; closers = refl; closer_set = refl; gone = refl; covered = refl; closer = refl; peer = refl }))

pub by_restart : (p : ℕ) (w v : World) (n : ℕ) → Held w n → Step (Restart p) w v → w.engaged p ≡ false → Held v n
by_restart p w v n h s off = grind (arith, nat_tests, h, s)

pub by_restart_in_doubt : (p q : ℕ) (w v : World) (n : ℕ) → Held w n → Step (Restart_in_doubt p q) w v → Held v n
by_restart_in_doubt p q w v n h s = grind (arith, nat_tests, h, s)

pub by_restart_home : (p : ℕ) (w v : World) (n : ℕ) → Held w n → v.cell ≢ Aborted → Step (Restart_home p) w v → Held v n
by_restart_home p w v n h a s = grind (arith, nat_tests, h, s)

pub by_commit : (w v : World) (n : ℕ) → Held w n → Step Commit w v → Held v n
by_commit w v n h s = grind (arith, nat_tests, h, s)

pub by_commit_cut : (w v : World) (n : ℕ) → Held w n → Step Commit_cut w v → Held v n
by_commit_cut w v n h s = grind (arith, nat_tests, h, s)

pub by_commit_unlogged : (w v : World) (n : ℕ) → Held w n → Step Commit_unlogged w v → Held v n
by_commit_unlogged w v n h s = grind (arith, nat_tests, h, s)

pub by_tell : (p q : ℕ) (w v : World) (n : ℕ) → Held w n → Step (Tell p q) w v → Held v n
by_tell p q w v n h s = same w v n h (rw s.3 (record { cell = refl; way = refl; engaged = refl; holder = refl; node = refl; involved = refl; told_set = refl; present = refl; closers_taken = refl; sender = refl; index = refl; closers = refl; closer_set = refl; gone = refl; covered = refl; closer = refl; peer = refl }))

pub by_learn : (p : ℕ) (w v : World) (n : ℕ) → Held w n → Step (Learn p) w v → Held v n
by_learn p w v n h s = same w v n h (rw s.3 (record { cell = refl; way = refl; engaged = refl; holder = refl; node = refl; involved = refl; told_set = refl; present = refl; closers_taken = refl; sender = refl; index = refl; closers = refl; closer_set = refl; gone = refl; covered = refl; closer = refl; peer = refl }))

pub by_learn_cut : (p : ℕ) (w v : World) (n : ℕ) → Held w n → Step (Learn_cut p) w v → Held v n
by_learn_cut p w v n h s = same w v n h (rw s.3 (record { cell = refl; way = refl; engaged = refl; holder = refl; node = refl; involved = refl; told_set = refl; present = refl; closers_taken = refl; sender = refl; index = refl; closers = refl; closer_set = refl; gone = refl; covered = refl; closer = refl; peer = refl }))

pub by_learn_home : (p : ℕ) (w v : World) (n : ℕ) → Held w n → Step (Learn_home p) w v → Held v n
by_learn_home p w v n h s = same w v n h (rw s.3 (record { cell = refl; way = refl; engaged = refl; holder = refl; node = refl; involved = refl; told_set = refl; present = refl; closers_taken = refl; sender = refl; index = refl; closers = refl; closer_set = refl; gone = refl; covered = refl; closer = refl; peer = refl }))

pub by_acknowledge : (p : ℕ) (w v : World) (n : ℕ) → Held w n → Step (Acknowledge p) w v → Held v n
by_acknowledge p w v n h s = same w v n h (rw s.2 (record { cell = refl; way = refl; engaged = refl; holder = refl; node = refl; involved = refl; told_set = refl; present = refl; closers_taken = refl; sender = refl; index = refl; closers = refl; closer_set = refl; gone = refl; covered = refl; closer = refl; peer = refl }))

pub by_take_told : (p q : ℕ) (w v : World) (n : ℕ) → Held w n → Step (Take_told p q) w v → Held v n
by_take_told p q w v n h s = same w v n h (rw s.3 (record { cell = refl; way = refl; engaged = refl; holder = refl; node = refl; involved = refl; told_set = refl; present = refl; closers_taken = refl; sender = refl; index = refl; closers = refl; closer_set = refl; gone = refl; covered = refl; closer = refl; peer = refl }))

pub by_end : (p : ℕ) (w v : World) (n : ℕ) → Held w n → Step (End p) w v → Held v n
by_end p w v n h s = same w v n h (rw s.4 (record { cell = refl; way = refl; engaged = refl; holder = refl; node = refl; involved = refl; told_set = refl; present = refl; closers_taken = refl; sender = refl; index = refl; closers = refl; closer_set = refl; gone = refl; covered = refl; closer = refl; peer = refl }))

pub by_checkpoint : (p : ℕ) (w v : World) (n : ℕ) → Held w n → Step (Checkpoint p) w v → Held v n
by_checkpoint p w v n h s = same w v n h (rw s.3 (record { cell = refl; way = refl; engaged = refl; holder = refl; node = refl; involved = refl; told_set = refl; present = refl; closers_taken = refl; sender = refl; index = refl; closers = refl; closer_set = refl; gone = refl; covered = refl; closer = refl; peer = refl }))

pub by_inquire : (p : ℕ) (w v : World) (n : ℕ) → Held w n → Step (Inquire p) w v → Held v n
by_inquire p w v n h s = same w v n h (rw s.4 (record { cell = refl; way = refl; engaged = refl; holder = refl; node = refl; involved = refl; told_set = refl; present = refl; closers_taken = refl; sender = refl; index = refl; closers = refl; closer_set = refl; gone = refl; covered = refl; closer = refl; peer = refl }))

pub by_inquire_lost : (p : ℕ) (w v : World) (n : ℕ) → Held w n → Step (Inquire_lost p) w v → Held v n
by_inquire_lost p w v n h s = same w v n h (rw s.5 (record { cell = refl; way = refl; engaged = refl; holder = refl; node = refl; involved = refl; told_set = refl; present = refl; closers_taken = refl; sender = refl; index = refl; closers = refl; closer_set = refl; gone = refl; covered = refl; closer = refl; peer = refl }))

pub by_answer_commit : (p q : ℕ) (w v : World) (n : ℕ) → Held w n → Step (Answer_commit p q) w v → Held v n
by_answer_commit p q w v n h s = same w v n h (rw s.2 (record { cell = refl; way = refl; engaged = refl; holder = refl; node = refl; involved = refl; told_set = refl; present = refl; closers_taken = refl; sender = refl; index = refl; closers = refl; closer_set = refl; gone = refl; covered = refl; closer = refl; peer = refl }))

pub by_answer_running : (p : ℕ) (w v : World) (n : ℕ) → Held w n → Step (Answer_running p) w v → Held v n
by_answer_running p w v n h s = grind (arith, nat_tests, h, s)
