-- One line for each event: Logged holds after it.
use Rattle.std.proofs.Common.{◌≡◌, ◌≢◌, ℕ, true, false, refl, arith}
use Rattle.std.proofs.lemmas.Bool.Decides.{nat_tests}
use Rattle.qs_world_agree.specs.World.{Open, Committed, Aborted, World}
use Rattle.qs_world_agree.specs.Step.{Issue, Issue_unmet, Issue_local, Meet, Notice, Engage, Join, Cover, Serve, Serve_told, Lend, Yield, Ask, Vote_read, Vote_volatile, Force, Vote_recoverable, Vote_abort, Yes, Yes_lost, Count, Ignore, Refuse, Miss, Forget, Crash, Restart, Restart_in_doubt, Restart_home, Commit, Commit_cut, Commit_unlogged, Tell, Learn, Learn_cut, Learn_home, Acknowledge, Take_told, End, Checkpoint, Inquire, Inquire_lost, Answer_commit, Answer_running, Step}
use Rattle.qs_world_agree.proofs.Logged.{Logged}

-- what Logged speaks of is the same
record Same (w v : World) : Type 0 where
  cell : v.cell ≡ w.cell
  node : v.node ≡ w.node
  home : v.home ≡ w.home
  prepared : v.prepared ≡ w.prepared
  unended : v.unended ≡ w.unended
  acknowledged : v.acknowledged ≡ w.acknowledged

same : (w v : World) (n i : ℕ) → Logged w n i → Same w v → Logged v n i
same w v n i h e = grind (arith, h, e)

pub by_issue : (p q r : ℕ) (w v : World) (n i : ℕ) → Logged w n i → Step (Issue p q r) w v → Logged v n i
by_issue p q r w v n i h s = same w v n i h (rw s.3 (record { cell = refl; node = refl; home = refl; prepared = refl; unended = refl; acknowledged = refl }))

pub by_issue_unmet : (p q r : ℕ) (w v : World) (n i : ℕ) → Logged w n i → Step (Issue_unmet p q r) w v → Logged v n i
by_issue_unmet p q r w v n i h s = same w v n i h (rw s.3 (record { cell = refl; node = refl; home = refl; prepared = refl; unended = refl; acknowledged = refl }))

pub by_issue_local : (p q : ℕ) (w v : World) (n i : ℕ) → Logged w n i → Step (Issue_local p q) w v → Logged v n i
by_issue_local p q w v n i h s = same w v n i h (rw s.1 (record { cell = refl; node = refl; home = refl; prepared = refl; unended = refl; acknowledged = refl }))

pub by_meet : (p q : ℕ) (w v : World) (n i : ℕ) → Logged w n i → Step (Meet p q) w v → Logged v n i
by_meet p q w v n i h s = same w v n i h (rw s.5 (record { cell = refl; node = refl; home = refl; prepared = refl; unended = refl; acknowledged = refl }))

pub by_notice : (p q : ℕ) (w v : World) (n i : ℕ) → Logged w n i → Step (Notice p q) w v → Logged v n i
by_notice p q w v n i h s = same w v n i h (rw s.5 (record { cell = refl; node = refl; home = refl; prepared = refl; unended = refl; acknowledged = refl }))

pub by_engage : (p q : ℕ) (w v : World) (n i : ℕ) → Logged w n i → Step (Engage p q) w v → Logged v n i
by_engage p q w v n i h s = same w v n i h (rw s.4 (record { cell = refl; node = refl; home = refl; prepared = refl; unended = refl; acknowledged = refl }))

pub by_join : (p q : ℕ) (w v : World) (n i : ℕ) → Logged w n i → Step (Join p q) w v → Logged v n i
by_join p q w v n i h s = same w v n i h (rw s.5 (record { cell = refl; node = refl; home = refl; prepared = refl; unended = refl; acknowledged = refl }))

pub by_cover : (p q : ℕ) (w v : World) (n i : ℕ) → Logged w n i → Step (Cover p q) w v → Logged v n i
by_cover p q w v n i h s = same w v n i h (rw s.4 (record { cell = refl; node = refl; home = refl; prepared = refl; unended = refl; acknowledged = refl }))

pub by_serve : (p q : ℕ) (w v : World) (n i : ℕ) → Logged w n i → Step (Serve p q) w v → Logged v n i
by_serve p q w v n i h s = same w v n i h (rw s.2 (record { cell = refl; node = refl; home = refl; prepared = refl; unended = refl; acknowledged = refl }))

pub by_serve_told : (p q : ℕ) (w v : World) (n i : ℕ) → Logged w n i → Step (Serve_told p q) w v → Logged v n i
by_serve_told p q w v n i h s = same w v n i h (rw s.2 (record { cell = refl; node = refl; home = refl; prepared = refl; unended = refl; acknowledged = refl }))

pub by_lend : (p q : ℕ) (w v : World) (n i : ℕ) → Logged w n i → Step (Lend p q) w v → Logged v n i
by_lend p q w v n i h s = same w v n i h (rw s.2 (record { cell = refl; node = refl; home = refl; prepared = refl; unended = refl; acknowledged = refl }))

pub by_yield : (p : ℕ) (w v : World) (n i : ℕ) → Logged w n i → Step (Yield p) w v → Logged v n i
by_yield p w v n i h s = same w v n i h (rw s.2.2 (record { cell = refl; node = refl; home = refl; prepared = refl; unended = refl; acknowledged = refl }))

pub by_ask : (p : ℕ) (w v : World) (n i : ℕ) → Logged w n i → Step (Ask p) w v → Logged v n i
by_ask p w v n i h s = same w v n i h (rw s.1 (record { cell = refl; node = refl; home = refl; prepared = refl; unended = refl; acknowledged = refl }))

pub by_vote_read : (p q : ℕ) (w v : World) (n i : ℕ) → Logged w n i → Step (Vote_read p q) w v → Logged v n i
by_vote_read p q w v n i h s = same w v n i h (rw s.1 (record { cell = refl; node = refl; home = refl; prepared = refl; unended = refl; acknowledged = refl }))

pub by_vote_volatile : (p q : ℕ) (w v : World) (n i : ℕ) → Logged w n i → Step (Vote_volatile p q) w v → Logged v n i
by_vote_volatile p q w v n i h s = same w v n i h (rw s.2 (record { cell = refl; node = refl; home = refl; prepared = refl; unended = refl; acknowledged = refl }))

pub by_force : (p q : ℕ) (w v : World) (n i : ℕ) → Logged w n i → Step (Force p q) w v → w.cell ≢ Committed → Logged v n i
by_force p q w v n i h s stop = grind (arith, nat_tests, h, s)

pub by_vote_recoverable : (p q : ℕ) (w v : World) (n i : ℕ) → Logged w n i → Step (Vote_recoverable p q) w v → w.cell ≢ Committed → Logged v n i
by_vote_recoverable p q w v n i h s stop = grind (arith, nat_tests, h, s)

pub by_vote_abort : (p q : ℕ) (w v : World) (n i : ℕ) → Logged w n i → Step (Vote_abort p q) w v → Logged v n i
by_vote_abort p q w v n i h s = same w v n i h (rw s.1 (record { cell = refl; node = refl; home = refl; prepared = refl; unended = refl; acknowledged = refl }))

pub by_yes : (p : ℕ) (w v : World) (n i : ℕ) → Logged w n i → Step (Yes p) w v → Logged v n i
by_yes p w v n i h s = same w v n i h (rw s.3 (record { cell = refl; node = refl; home = refl; prepared = refl; unended = refl; acknowledged = refl }))

pub by_yes_lost : (p : ℕ) (w v : World) (n i : ℕ) → Logged w n i → Step (Yes_lost p) w v → Logged v n i
by_yes_lost p w v n i h s = same w v n i h (rw s.3 (record { cell = refl; node = refl; home = refl; prepared = refl; unended = refl; acknowledged = refl }))

pub by_count : (p q : ℕ) (w v : World) (n i : ℕ) → Logged w n i → Step (Count p q) w v → Logged v n i
by_count p q w v n i h s = same w v n i h (rw s.3 (record { cell = refl; node = refl; home = refl; prepared = refl; unended = refl; acknowledged = refl }))

pub by_ignore : (p q : ℕ) (w v : World) (n i : ℕ) → Logged w n i → Step (Ignore p q) w v → Logged v n i
by_ignore p q w v n i h s = same w v n i h (rw s.4 (record { cell = refl; node = refl; home = refl; prepared = refl; unended = refl; acknowledged = refl }))

pub by_refuse : (p : ℕ) (w v : World) (n i : ℕ) → Logged w n i → Step (Refuse p) w v → Logged v n i
by_refuse p w v n i h s = same w v n i h (rw s.1 (record { cell = refl; node = refl; home = refl; prepared = refl; unended = refl; acknowledged = refl }))

pub by_miss : (p : ℕ) (w v : World) (n i : ℕ) → Logged w n i → Step (Miss p) w v → Logged v n i
by_miss p w v n i h s = same w v n i h (rw s.2 (record { cell = refl; node = refl; home = refl; prepared = refl; unended = refl; acknowledged = refl }))

pub by_forget : (p : ℕ) (w v : World) (n i : ℕ) → Logged w n i → Step (Forget p) w v → Logged v n i
by_forget p w v n i h s = same w v n i h (rw s.5 (record { cell = refl; node = refl; home = refl; prepared = refl; unended = refl; acknowledged = refl }))

pub by_crash : (p : ℕ) (w v : World) (n i : ℕ) → Logged w n i → Step (Crash p) w v → Logged v n i
by_crash p w v n i h s = same w v n i h (rw s.1 (record { cell = refl; node = refl; home = refl; prepared = refl; unended = refl; acknowledged = refl }))

pub by_restart : (p : ℕ) (w v : World) (n i : ℕ) → Logged w n i → Step (Restart p) w v → Logged v n i
by_restart p w v n i h s = same w v n i h (rw s.4 (record { cell = refl; node = refl; home = refl; prepared = refl; unended = refl; acknowledged = refl }))

pub by_restart_in_doubt : (p q : ℕ) (w v : World) (n i : ℕ) → Logged w n i → Step (Restart_in_doubt p q) w v → Logged v n i
by_restart_in_doubt p q w v n i h s = same w v n i h (rw s.4 (record { cell = refl; node = refl; home = refl; prepared = refl; unended = refl; acknowledged = refl }))

pub by_restart_home : (p : ℕ) (w v : World) (n i : ℕ) → Logged w n i → v.cell ≢ Aborted → Step (Restart_home p) w v → Logged v n i
by_restart_home p w v n i h a s = grind (arith, nat_tests, h, s)

pub by_commit : (w v : World) (n i : ℕ) → Logged w n i → Step Commit w v → w.acknowledged n ≡ false → Logged v n i
by_commit w v n i h s fresh = grind (arith, nat_tests, h, s)

pub by_commit_cut : (w v : World) (n i : ℕ) → Logged w n i → Step Commit_cut w v → w.cell ≡ Open → w.acknowledged n ≡ false → Logged v n i
by_commit_cut w v n i h s is fresh = grind (arith, nat_tests, h, s)

pub by_commit_unlogged : (w v : World) (n i : ℕ) → Logged w n i → Step Commit_unlogged w v → w.cell ≡ Open → (n ≢ w.node w.home → w.prepared n i ≡ true → w.told_set w.home n ≡ true) → Logged v n i
by_commit_unlogged w v n i h s is told = grind (arith, nat_tests, h, s.1 n, s)

pub by_tell : (p q : ℕ) (w v : World) (n i : ℕ) → Logged w n i → Step (Tell p q) w v → Logged v n i
by_tell p q w v n i h s = same w v n i h (rw s.3 (record { cell = refl; node = refl; home = refl; prepared = refl; unended = refl; acknowledged = refl }))

pub by_learn : (p : ℕ) (w v : World) (n i : ℕ) → Logged w n i → Step (Learn p) w v → Logged v n i
by_learn p w v n i h s = grind (arith, nat_tests, h, s)

pub by_learn_cut : (p : ℕ) (w v : World) (n i : ℕ) → Logged w n i → Step (Learn_cut p) w v → Logged v n i
by_learn_cut p w v n i h s = grind (arith, nat_tests, h, s)

pub by_learn_home : (p : ℕ) (w v : World) (n i : ℕ) → Logged w n i → Step (Learn_home p) w v → Logged v n i
by_learn_home p w v n i h s = same w v n i h (rw s.3 (record { cell = refl; node = refl; home = refl; prepared = refl; unended = refl; acknowledged = refl }))

pub by_acknowledge : (p : ℕ) (w v : World) (n i : ℕ) → Logged w n i → Step (Acknowledge p) w v → Logged v n i
by_acknowledge p w v n i h s = same w v n i h (rw s.2 (record { cell = refl; node = refl; home = refl; prepared = refl; unended = refl; acknowledged = refl }))

pub by_take_told : (p q : ℕ) (w v : World) (n i : ℕ) → Logged w n i → Step (Take_told p q) w v → w.prepared (w.node q) i ≡ false → Logged v n i
by_take_told p q w v n i h s clear = grind (arith, nat_tests, h, s)

pub by_end : (p : ℕ) (w v : World) (n i : ℕ) → Logged w n i → Step (End p) w v → (w.cell ≡ Committed → n ≢ w.node w.home → w.prepared n i ≡ true → w.commit_list n ≡ true) → Logged v n i
by_end p w v n i h s listed = grind (arith, nat_tests, h, s.3 n, s)

pub by_checkpoint : (p : ℕ) (w v : World) (n i : ℕ) → Logged w n i → Step (Checkpoint p) w v → Logged v n i
by_checkpoint p w v n i h s = same w v n i h (rw s.3 (record { cell = refl; node = refl; home = refl; prepared = refl; unended = refl; acknowledged = refl }))

pub by_inquire : (p : ℕ) (w v : World) (n i : ℕ) → Logged w n i → Step (Inquire p) w v → Logged v n i
by_inquire p w v n i h s = same w v n i h (rw s.4 (record { cell = refl; node = refl; home = refl; prepared = refl; unended = refl; acknowledged = refl }))

pub by_inquire_lost : (p : ℕ) (w v : World) (n i : ℕ) → Logged w n i → Step (Inquire_lost p) w v → Logged v n i
by_inquire_lost p w v n i h s = same w v n i h (rw s.5 (record { cell = refl; node = refl; home = refl; prepared = refl; unended = refl; acknowledged = refl }))

pub by_answer_commit : (p q : ℕ) (w v : World) (n i : ℕ) → Logged w n i → Step (Answer_commit p q) w v → Logged v n i
by_answer_commit p q w v n i h s = same w v n i h (rw s.2 (record { cell = refl; node = refl; home = refl; prepared = refl; unended = refl; acknowledged = refl }))

pub by_answer_running : (p : ℕ) (w v : World) (n i : ℕ) → Logged w n i → Step (Answer_running p) w v → Logged v n i
by_answer_running p w v n i h s = same w v n i h (rw s.2 (record { cell = refl; node = refl; home = refl; prepared = refl; unended = refl; acknowledged = refl }))
