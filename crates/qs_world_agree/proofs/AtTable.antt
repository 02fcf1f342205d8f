-- One line for each event: At holds after it.
use Rattle.std.proofs.Common.{◌≡◌, ◌≢◌, ℕ, ◌+◌, ◌<◌, ◌≤◌, true, false, refl, arith}
use Rattle.std.proofs.lemmas.Bool.Decides.{nat_tests}
use Rattle.qs_world_agree.specs.World.{Committed, Aborted, World}
use Rattle.qs_world_agree.specs.Step.{Issue, Issue_unmet, Issue_local, Meet, Notice, Engage, Join, Cover, Serve, Serve_told, Lend, Yield, Ask, Vote_read, Vote_volatile, Force, Vote_recoverable, Vote_abort, Yes, Yes_lost, Count, Ignore, Refuse, Miss, Forget, Crash, Restart, Restart_in_doubt, Restart_home, Commit, Commit_cut, Commit_unlogged, Tell, Learn, Learn_cut, Learn_home, Acknowledge, Take_told, End, Checkpoint, Inquire, Inquire_lost, Answer_commit, Answer_running, Step}
use Rattle.qs_world_agree.proofs.At.{At, Link}

-- what At speaks of is the same
record Same (w v : World) : Type 0 where
  cell : v.cell ≡ w.cell
  engaged : v.engaged ≡ w.engaged
  present : v.present ≡ w.present
  node : v.node ≡ w.node
  covered : v.covered ≡ w.covered
  sent : v.sent ≡ w.sent
  served : v.served ≡ w.served
  arrived : v.arrived ≡ w.arrived
  voted : v.voted ≡ w.voted
  loans : v.loans ≡ w.loans
  gone : v.gone ≡ w.gone
  abort_vote : v.abort_vote ≡ w.abort_vote
  home : v.home ≡ w.home
  engager : v.engager ≡ w.engager
  depth : v.depth ≡ w.depth
  engaging : v.engaging ≡ w.engaging
  received : v.received ≡ w.received
  superior : v.superior ≡ w.superior
  closers : v.closers ≡ w.closers
  closer : v.closer ≡ w.closer
  posted : v.posted ≡ w.posted
  peer : v.peer ≡ w.peer
  class : v.class ≡ w.class

same : (w v : World) (k : ℕ) → At w k → Same w v → At v k
same w v k h e = grind (arith, h, e)

pub by_issue : (p q r : ℕ) (w v : World) (k : ℕ) → At w k → Step (Issue p q r) w v → (w.engaged k ≡ true → k ≢ w.home → Link w k) → (1 ≤ w.peer p q → w.node (w.peer p q) ≡ q) → At v k
by_issue p q r w v k h s link same_node = grind (arith, nat_tests, h, s)

pub by_issue_unmet : (p q r : ℕ) (w v : World) (k : ℕ) → At w k → Step (Issue_unmet p q r) w v → At v k
by_issue_unmet p q r w v k h s = grind (arith, nat_tests, h, s)

pub by_issue_local : (p q : ℕ) (w v : World) (k : ℕ) → At w k → Step (Issue_local p q) w v → At v k
by_issue_local p q w v k h s = grind (arith, nat_tests, h, s)

pub by_meet : (p q : ℕ) (w v : World) (k : ℕ) → At w k → Step (Meet p q) w v → (w.engaged k ≡ true → k ≢ w.home → Link w k) → At v k
by_meet p q w v k h s link = grind (arith, nat_tests, h, s)

pub by_notice : (p q : ℕ) (w v : World) (k : ℕ) → At w k → Step (Notice p q) w v → (w.engaged k ≡ true → k ≢ w.home → Link w k) → w.covered p (w.node q) ≤ w.sent p (w.node q) → At v k
by_notice p q w v k h s link within = grind (arith, nat_tests, h, s)

pub by_engage : (p q : ℕ) (w v : World) (k : ℕ) → At w k → Step (Engage p q) w v → w.cell ≢ Committed → w.engaged q ≡ true → (w.gone q ≡ false → w.covered q (w.node p) < w.received p q + 1) → ((x : ℕ) → 1 ≤ x → x ≤ w.closers p q → w.closer p q x ≤ w.received p q) → ((r : ℕ) → w.node r ≡ w.node p → r < p → w.posted q r ≤ w.received p q) → w.peer q (w.node p) ≤ p → p ≤ w.present (w.node p) → At v k
by_engage p q w v k h s stop sender uncovered low old known born = grind (arith, nat_tests, h, s)

pub by_join : (p q : ℕ) (w v : World) (k : ℕ) → At w k → Step (Join p q) w v → At v k
by_join p q w v k h s = grind (arith, nat_tests, h, s)

pub by_cover : (p q : ℕ) (w v : World) (k : ℕ) → At w k → Step (Cover p q) w v → At v k
by_cover p q w v k h s = grind (arith, nat_tests, h, s)

pub by_serve : (p q : ℕ) (w v : World) (k : ℕ) → At w k → Step (Serve p q) w v → At v k
by_serve p q w v k h s = grind (arith, nat_tests, h, s)

pub by_serve_told : (p q : ℕ) (w v : World) (k : ℕ) → At w k → Step (Serve_told p q) w v → At v k
by_serve_told p q w v k h s = grind (arith, nat_tests, h, s)

pub by_lend : (p q : ℕ) (w v : World) (k : ℕ) → At w k → Step (Lend p q) w v → At v k
by_lend p q w v k h s = grind (arith, nat_tests, h, s)

pub by_yield : (p : ℕ) (w v : World) (k : ℕ) → At w k → Step (Yield p) w v → At v k
by_yield p w v k h s = grind (arith, nat_tests, h, s)

pub by_ask : (p : ℕ) (w v : World) (k : ℕ) → At w k → Step (Ask p) w v → At v k
by_ask p w v k h s = same w v k h (rw s.1 (record { cell = refl; engaged = refl; present = refl; node = refl; covered = refl; sent = refl; served = refl; arrived = refl; voted = refl; loans = refl; gone = refl; abort_vote = refl; home = refl; engager = refl; depth = refl; engaging = refl; received = refl; superior = refl; closers = refl; closer = refl; posted = refl; peer = refl; class = refl }))

pub by_vote_read : (p q : ℕ) (w v : World) (k : ℕ) → At w k → Step (Vote_read p q) w v → At v k
by_vote_read p q w v k h s = grind (arith, nat_tests, h, s)

pub by_vote_volatile : (p q : ℕ) (w v : World) (k : ℕ) → At w k → Step (Vote_volatile p q) w v → At v k
by_vote_volatile p q w v k h s = grind (arith, nat_tests, h, s)

pub by_force : (p q : ℕ) (w v : World) (k : ℕ) → At w k → Step (Force p q) w v → At v k
by_force p q w v k h s = same w v k h (rw s.2 (record { cell = refl; engaged = refl; present = refl; node = refl; covered = refl; sent = refl; served = refl; arrived = refl; voted = refl; loans = refl; gone = refl; abort_vote = refl; home = refl; engager = refl; depth = refl; engaging = refl; received = refl; superior = refl; closers = refl; closer = refl; posted = refl; peer = refl; class = refl }))

pub by_vote_recoverable : (p q : ℕ) (w v : World) (k : ℕ) → At w k → Step (Vote_recoverable p q) w v → At v k
by_vote_recoverable p q w v k h s = grind (arith, nat_tests, h, s)

pub by_vote_abort : (p q : ℕ) (w v : World) (k : ℕ) → At w k → Step (Vote_abort p q) w v → At v k
by_vote_abort p q w v k h s = grind (arith, nat_tests, h, s)

pub by_yes : (p : ℕ) (w v : World) (k : ℕ) → At w k → Step (Yes p) w v → (w.engaged k ≡ true → k ≢ w.home → Link w k) → At v k
by_yes p w v k h s link = grind (arith, nat_tests, h, s.1.covered (w.node k), s)

pub by_yes_lost : (p : ℕ) (w v : World) (k : ℕ) → At w k → Step (Yes_lost p) w v → (w.engaged k ≡ true → k ≢ w.home → Link w k) → At v k
by_yes_lost p w v k h s link = grind (arith, nat_tests, h, s.1.covered (w.node k), s)

pub by_count : (p q : ℕ) (w v : World) (k : ℕ) → At w k → Step (Count p q) w v → w.closer q p (w.closers_taken p q + 1) ≤ w.posted p q → At v k
by_count p q w v k h s low = grind (arith, nat_tests, h, h.by_closers (w.closers_taken p q + 1), h.by_old q, s)

pub by_ignore : (p q : ℕ) (w v : World) (k : ℕ) → At w k → Step (Ignore p q) w v → At v k
by_ignore p q w v k h s = same w v k h (rw s.4 (record { cell = refl; engaged = refl; present = refl; node = refl; covered = refl; sent = refl; served = refl; arrived = refl; voted = refl; loans = refl; gone = refl; abort_vote = refl; home = refl; engager = refl; depth = refl; engaging = refl; received = refl; superior = refl; closers = refl; closer = refl; posted = refl; peer = refl; class = refl }))

pub by_refuse : (p : ℕ) (w v : World) (k : ℕ) → At w k → Step (Refuse p) w v → At v k
by_refuse p w v k h s = same w v k h (rw s.1 (record { cell = refl; engaged = refl; present = refl; node = refl; covered = refl; sent = refl; served = refl; arrived = refl; voted = refl; loans = refl; gone = refl; abort_vote = refl; home = refl; engager = refl; depth = refl; engaging = refl; received = refl; superior = refl; closers = refl; closer = refl; posted = refl; peer = refl; class = refl }))

pub by_miss : (p : ℕ) (w v : World) (k : ℕ) → At w k → Step (Miss p) w v → At v k
by_miss p w v k h s = grind (arith, nat_tests, h, s)

pub by_forget : (p : ℕ) (w v : World) (k : ℕ) → At w k → Step (Forget p) w v → At v k
by_forget p w v k h s = same w v k h (rw s.5 (record { cell = refl; engaged = refl; present = refl; node = refl; covered = refl; sent = refl; served = refl; arrived = refl; voted = refl; loans = refl; gone = refl; abort_vote = refl; home = refl; engager = refl; depth = refl; engaging = refl; received = refl; superior = refl; closers = refl; closer = refl; posted = refl; peer = refl; class = refl }))

pub by_crash : (p : ℕ) (w v : World) (k : ℕ) → At w k → Step (Crash p) w v → At v k
by_crash p w v k h s = same w v k h (rw s.1 (record { cell = refl; engaged = refl; present = refl; node = refl; covered = refl; sent = refl; served = refl; arrived = refl; voted = refl; loans = refl; gone = refl; abort_vote = refl; home = refl; engager = refl; depth = refl; engaging = refl; received = refl; superior = refl; closers = refl; closer = refl; posted = refl; peer = refl; class = refl }))

pub by_restart : (p : ℕ) (w v : World) (k : ℕ) → At w k → Step (Restart p) w v → At v k
by_restart p w v k h s = grind (arith, nat_tests, h, s)

pub by_restart_in_doubt : (p q : ℕ) (w v : World) (k : ℕ) → At w k → Step (Restart_in_doubt p q) w v → At v k
by_restart_in_doubt p q w v k h s = grind (arith, nat_tests, h, s)

pub by_restart_home : (p : ℕ) (w v : World) (k : ℕ) → At w k → v.cell ≢ Aborted → Step (Restart_home p) w v → At v k
by_restart_home p w v k h a s = grind (arith, nat_tests, h, s)

pub by_commit : (w v : World) (k : ℕ) → At w k → Step Commit w v → (w.engaged k ≡ true → k ≡ w.home) → At v k
by_commit w v k h s only = grind (arith, nat_tests, h, s)

pub by_commit_cut : (w v : World) (k : ℕ) → At w k → Step Commit_cut w v → (w.engaged k ≡ true → k ≡ w.home) → At v k
by_commit_cut w v k h s only = grind (arith, nat_tests, h, s)

pub by_commit_unlogged : (w v : World) (k : ℕ) → At w k → Step Commit_unlogged w v → (w.engaged k ≡ true → k ≡ w.home) → At v k
by_commit_unlogged w v k h s only = grind (arith, nat_tests, h, s)

pub by_tell : (p q : ℕ) (w v : World) (k : ℕ) → At w k → Step (Tell p q) w v → At v k
by_tell p q w v k h s = same w v k h (rw s.3 (record { cell = refl; engaged = refl; present = refl; node = refl; covered = refl; sent = refl; served = refl; arrived = refl; voted = refl; loans = refl; gone = refl; abort_vote = refl; home = refl; engager = refl; depth = refl; engaging = refl; received = refl; superior = refl; closers = refl; closer = refl; posted = refl; peer = refl; class = refl }))

pub by_learn : (p : ℕ) (w v : World) (k : ℕ) → At w k → Step (Learn p) w v → At v k
by_learn p w v k h s = same w v k h (rw s.3 (record { cell = refl; engaged = refl; present = refl; node = refl; covered = refl; sent = refl; served = refl; arrived = refl; voted = refl; loans = refl; gone = refl; abort_vote = refl; home = refl; engager = refl; depth = refl; engaging = refl; received = refl; superior = refl; closers = refl; closer = refl; posted = refl; peer = refl; class = refl }))

pub by_learn_cut : (p : ℕ) (w v : World) (k : ℕ) → At w k → Step (Learn_cut p) w v → At v k
by_learn_cut p w v k h s = same w v k h (rw s.3 (record { cell = refl; engaged = refl; present = refl; node = refl; covered = refl; sent = refl; served = refl; arrived = refl; voted = refl; loans = refl; gone = refl; abort_vote = refl; home = refl; engager = refl; depth = refl; engaging = refl; received = refl; superior = refl; closers = refl; closer = refl; posted = refl; peer = refl; class = refl }))

pub by_learn_home : (p : ℕ) (w v : World) (k : ℕ) → At w k → Step (Learn_home p) w v → At v k
by_learn_home p w v k h s = same w v k h (rw s.3 (record { cell = refl; engaged = refl; present = refl; node = refl; covered = refl; sent = refl; served = refl; arrived = refl; voted = refl; loans = refl; gone = refl; abort_vote = refl; home = refl; engager = refl; depth = refl; engaging = refl; received = refl; superior = refl; closers = refl; closer = refl; posted = refl; peer = refl; class = refl }))

pub by_acknowledge : (p : ℕ) (w v : World) (k : ℕ) → At w k → Step (Acknowledge p) w v → At v k
by_acknowledge p w v k h s = same w v k h (rw s.2 (record { cell = refl; engaged = refl; present = refl; node = refl; covered = refl; sent = refl; served = refl; arrived = refl; voted = refl; loans = refl; gone = refl; abort_vote = refl; home = refl; engager = refl; depth = refl; engaging = refl; received = refl; superior = refl; closers = refl; closer = refl; posted = refl; peer = refl; class = refl }))

pub by_take_told : (p q : ℕ) (w v : World) (k : ℕ) → At w k → Step (Take_told p q) w v → At v k
by_take_told p q w v k h s = same w v k h (rw s.3 (record { cell = refl; engaged = refl; present = refl; node = refl; covered = refl; sent = refl; served = refl; arrived = refl; voted = refl; loans = refl; gone = refl; abort_vote = refl; home = refl; engager = refl; depth = refl; engaging = refl; received = refl; superior = refl; closers = refl; closer = refl; posted = refl; peer = refl; class = refl }))

pub by_end : (p : ℕ) (w v : World) (k : ℕ) → At w k → Step (End p) w v → At v k
by_end p w v k h s = same w v k h (rw s.4 (record { cell = refl; engaged = refl; present = refl; node = refl; covered = refl; sent = refl; served = refl; arrived = refl; voted = refl; loans = refl; gone = refl; abort_vote = refl; home = refl; engager = refl; depth = refl; engaging = refl; received = refl; superior = refl; closers = refl; closer = refl; posted = refl; peer = refl; class = refl }))

pub by_checkpoint : (p : ℕ) (w v : World) (k : ℕ) → At w k → Step (Checkpoint p) w v → At v k
by_checkpoint p w v k h s = same w v k h (rw s.3 (record { cell = refl; engaged = refl; present = refl; node = refl; covered = refl; sent = refl; served = refl; arrived = refl; voted = refl; loans = refl; gone = refl; abort_vote = refl; home = refl; engager = refl; depth = refl; engaging = refl; received = refl; superior = refl; closers = refl; closer = refl; posted = refl; peer = refl; class = refl }))

pub by_inquire : (p : ℕ) (w v : World) (k : ℕ) → At w k → Step (Inquire p) w v → At v k
by_inquire p w v k h s = same w v k h (rw s.4 (record { cell = refl; engaged = refl; present = refl; node = refl; covered = refl; sent = refl; served = refl; arrived = refl; voted = refl; loans = refl; gone = refl; abort_vote = refl; home = refl; engager = refl; depth = refl; engaging = refl; received = refl; superior = refl; closers = refl; closer = refl; posted = refl; peer = refl; class = refl }))

pub by_inquire_lost : (p : ℕ) (w v : World) (k : ℕ) → At w k → Step (Inquire_lost p) w v → At v k
by_inquire_lost p w v k h s = same w v k h (rw s.5 (record { cell = refl; engaged = refl; present = refl; node = refl; covered = refl; sent = refl; served = refl; arrived = refl; voted = refl; loans = refl; gone = refl; abort_vote = refl; home = refl; engager = refl; depth = refl; engaging = refl; received = refl; superior = refl; closers = refl; closer = refl; posted = refl; peer = refl; class = refl }))

pub by_answer_commit : (p q : ℕ) (w v : World) (k : ℕ) → At w k → Step (Answer_commit p q) w v → At v k
by_answer_commit p q w v k h s = same w v k h (rw s.2 (record { cell = refl; engaged = refl; present = refl; node = refl; covered = refl; sent = refl; served = refl; arrived = refl; voted = refl; loans = refl; gone = refl; abort_vote = refl; home = refl; engager = refl; depth = refl; engaging = refl; received = refl; superior = refl; closers = refl; closer = refl; posted = refl; peer = refl; class = refl }))

pub by_answer_running : (p : ℕ) (w v : World) (k : ℕ) → At w k → Step (Answer_running p) w v → At v k
by_answer_running p w v k h s = same w v k h (rw s.2 (record { cell = refl; engaged = refl; present = refl; node = refl; covered = refl; sent = refl; served = refl; arrived = refl; voted = refl; loans = refl; gone = refl; abort_vote = refl; home = refl; engager = refl; depth = refl; engaging = refl; received = refl; superior = refl; closers = refl; closer = refl; posted = refl; peer = refl; class = refl }))
