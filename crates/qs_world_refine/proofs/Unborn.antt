-- A place that no restart has taken yet holds nothing.
use Rattle.qs_world_refine.proofs.Words.{◌≡◌, ℕ, ◌<◌, false, arith, nat_tests, Open, Issue, Issue_unmet, Issue_local, Join, Cover, Serve, Serve_told, Yield, Ask, Vote_read, Vote_volatile, Force, Vote_recoverable, Vote_abort, Yes, Yes_lost, Count, Ignore, Refuse, Miss, Forget, Crash, Restart, Restart_in_doubt, Restart_home, Commit, Commit_cut, Commit_unlogged, Abort, Tell, Learn, Learn_cut, Learn_home, Acknowledge, Take_told, End, Checkpoint, Tell_abort, Learn_abort, Name_again, Take_names}
use Rattle.qs_world_refine.proofs.Words.{Learn_abort_home, Abort_logged, Drop_engage, Drop_join, Drop_cover, Inquire, Inquire_lost, Inquire_home, Answer_commit, Answer_running, Answer_abort, Counts}
use Rattle.qs_world_agree.specs.World.{World}
use Rattle.qs_world_agree.specs.Step.{Step, Meet, Notice, Engage, Lend}

pub record Blank (w : World) (q : ℕ) : Type 0 where
  pub outcome : w.outcome q ≡ Open
  pub engaged : w.engaged q ≡ false
  pub asked : w.asked q ≡ false
  pub refused : w.refused q ≡ false
  pub gone : w.gone q ≡ false
  pub abort_vote : w.abort_vote q ≡ false
  pub loans : w.loans q ≡ 0
  pub inquiries : w.inquiries q ≡ 0
  pub sent : (m : ℕ) → w.sent q m ≡ 0
  pub covered : (m : ℕ) → w.covered q m ≡ 0
  pub arrived : (s : ℕ) → w.arrived q s ≡ 0
  pub served : (s : ℕ) → w.served q s ≡ 0
  pub voted : (s : ℕ) → w.voted q s ≡ 0
  pub told : (n : ℕ) → w.told_set q n ≡ false
  pub to_tell : (n : ℕ) → w.to_tell q n ≡ false
  pub last : (p : ℕ) → w.last q p ≡ 0

abbrev pub Unborn : World → ℕ → Type 0
Unborn w q = w.present (w.node q) < q → Blank w q

pub by_issue : (a b e : ℕ) (q : ℕ) (w v : World) → Counts w → Unborn w q → Step (Issue a b e) w v → Unborn v q
by_issue a b e q w v c i s late = grind (arith, nat_tests, i, c.up_present a, s, late)

pub by_issue_unmet : (a b e : ℕ) (q : ℕ) (w v : World) → Counts w → Unborn w q → Step (Issue_unmet a b e) w v → Unborn v q
by_issue_unmet a b e q w v c i s late = grind (arith, nat_tests, i, c.up_present a, s, late)

pub by_issue_local : (a b : ℕ) (q : ℕ) (w v : World) → Counts w → Unborn w q → Step (Issue_local a b) w v → Unborn v q
by_issue_local a b q w v c i s late = grind (arith, nat_tests, i, c.up_present a, s, late)

pub by_meet : (a b : ℕ) (q : ℕ) (w v : World) → Counts w → Unborn w q → Step (Meet a b) w v → Unborn v q
by_meet a b q w v c i s late = grind (arith, nat_tests, i, c.up_present a, s, late)

pub by_notice : (a b : ℕ) (q : ℕ) (w v : World) → Counts w → Unborn w q → Step (Notice a b) w v → Unborn v q
by_notice a b q w v c i s late = grind (arith, nat_tests, i, c.up_present a, c.up_present b, s, late)

pub by_engage : (a b : ℕ) (q : ℕ) (w v : World) → Counts w → Unborn w q → Step (Engage a b) w v → Unborn v q
by_engage a b q w v c i s late = grind (arith, nat_tests, i, c.up_present a, s, late)

pub by_join : (a b : ℕ) (q : ℕ) (w v : World) → Counts w → Unborn w q → Step (Join a b) w v → Unborn v q
by_join a b q w v c i s late = grind (arith, nat_tests, i, c.up_present a, s, late)

pub by_cover : (a b : ℕ) (q : ℕ) (w v : World) → Counts w → Unborn w q → Step (Cover a b) w v → Unborn v q
by_cover a b q w v c i s late = grind (arith, nat_tests, i, c.up_present a, s, late)

pub by_serve : (a b : ℕ) (q : ℕ) (w v : World) → Counts w → Unborn w q → Step (Serve a b) w v → Unborn v q
by_serve a b q w v c i s late = grind (arith, nat_tests, i, c.up_present a, s, late)

pub by_serve_told : (a b : ℕ) (q : ℕ) (w v : World) → Counts w → Unborn w q → Step (Serve_told a b) w v → Unborn v q
by_serve_told a b q w v c i s late = grind (arith, nat_tests, i, c.up_present a, s, late)

pub by_lend : (a b : ℕ) (q : ℕ) (w v : World) → Counts w → Unborn w q → Step (Lend a b) w v → Unborn v q
by_lend a b q w v c i s late = grind (arith, nat_tests, i, c.up_present a, s, late)

pub by_yield : (a : ℕ) (q : ℕ) (w v : World) → Counts w → Unborn w q → Step (Yield a) w v → Unborn v q
by_yield a q w v c i s late = grind (arith, nat_tests, i, c.up_present a, s, late)

pub by_ask : (a : ℕ) (q : ℕ) (w v : World) → Counts w → Unborn w q → Step (Ask a) w v → Unborn v q
by_ask a q w v c i s late = grind (arith, nat_tests, i, c.up_present a, s, late)

pub by_vote_read : (a b : ℕ) (q : ℕ) (w v : World) → Counts w → Unborn w q → Step (Vote_read a b) w v → Unborn v q
by_vote_read a b q w v c i s late = grind (arith, nat_tests, i, c.up_present a, s, late)

pub by_vote_volatile : (a b : ℕ) (q : ℕ) (w v : World) → Counts w → Unborn w q → Step (Vote_volatile a b) w v → Unborn v q
by_vote_volatile a b q w v c i s late = grind (arith, nat_tests, i, c.up_present a, s, late)

pub by_force : (a b : ℕ) (q : ℕ) (w v : World) → Counts w → Unborn w q → Step (Force a b) w v → Unborn v q
by_force a b q w v c i s late = grind (arith, nat_tests, i, c.up_present a, s, late)

pub by_vote_recoverable : (a b : ℕ) (q : ℕ) (w v : World) → Counts w → Unborn w q → Step (Vote_recoverable a b) w v → Unborn v q
by_vote_recoverable a b q w v c i s late = grind (arith, nat_tests, i, c.up_present a, s, late)

pub by_vote_abort : (a b : ℕ) (q : ℕ) (w v : World) → Counts w → Unborn w q → Step (Vote_abort a b) w v → Unborn v q
by_vote_abort a b q w v c i s late = grind (arith, nat_tests, i, c.up_present a, s, late)

pub by_yes : (a : ℕ) (q : ℕ) (w v : World) → Counts w → Unborn w q → Step (Yes a) w v → Unborn v q
by_yes a q w v c i s late = grind (arith, nat_tests, i, c.up_present a, s, late)

pub by_yes_lost : (a : ℕ) (q : ℕ) (w v : World) → Counts w → Unborn w q → Step (Yes_lost a) w v → Unborn v q
by_yes_lost a q w v c i s late = grind (arith, nat_tests, i, c.up_present a, s, late)

pub by_count : (a b : ℕ) (q : ℕ) (w v : World) → Counts w → Unborn w q → Step (Count a b) w v → Unborn v q
by_count a b q w v c i s late = grind (arith, nat_tests, i, c.up_present a, s, late)

pub by_ignore : (a b : ℕ) (q : ℕ) (w v : World) → Counts w → Unborn w q → Step (Ignore a b) w v → Unborn v q
by_ignore a b q w v c i s late = grind (arith, nat_tests, i, c.up_present a, s, late)

pub by_refuse : (a : ℕ) (q : ℕ) (w v : World) → Counts w → Unborn w q → Step (Refuse a) w v → Unborn v q
by_refuse a q w v c i s late = grind (arith, nat_tests, i, c.up_present a, s, late)

pub by_miss : (a : ℕ) (q : ℕ) (w v : World) → Counts w → Unborn w q → Step (Miss a) w v → Unborn v q
by_miss a q w v c i s late = grind (arith, nat_tests, i, c.up_present a, s, late)

pub by_forget : (a : ℕ) (q : ℕ) (w v : World) → Counts w → Unborn w q → Step (Forget a) w v → Unborn v q
by_forget a q w v c i s late = grind (arith, nat_tests, i, c.up_present a, s, late)

pub by_crash : (a : ℕ) (q : ℕ) (w v : World) → Counts w → Unborn w q → Step (Crash a) w v → Unborn v q
by_crash a q w v c i s late = grind (arith, nat_tests, i, c.up_present a, s, late)

pub by_restart : (a : ℕ) (q : ℕ) (w v : World) → Counts w → Unborn w q → Step (Restart a) w v → Unborn v q
by_restart a q w v c i s late = grind (arith, nat_tests, i, c.up_present a, s, late)

pub by_restart_in_doubt : (a b : ℕ) (q : ℕ) (w v : World) → Counts w → Unborn w q → Step (Restart_in_doubt a b) w v → Unborn v q
by_restart_in_doubt a b q w v c i s late = grind (arith, nat_tests, i, c.up_present a, s, late)

pub by_restart_home : (a : ℕ) (q : ℕ) (w v : World) → Counts w → Unborn w q → Step (Restart_home a) w v → Unborn v q
by_restart_home a q w v c i s late = grind (arith, nat_tests, i, c.up_present a, s, late)

pub by_commit : (q : ℕ) (w v : World) → Counts w → Unborn w q → Step Commit w v → Unborn v q
by_commit q w v c i s late = grind (arith, nat_tests, i, c.up_present w.home, s, late)

pub by_commit_cut : (q : ℕ) (w v : World) → Counts w → Unborn w q → Step Commit_cut w v → Unborn v q
by_commit_cut q w v c i s late = grind (arith, nat_tests, i, c.up_present w.home, s, late)

pub by_commit_unlogged : (q : ℕ) (w v : World) → Counts w → Unborn w q → Step Commit_unlogged w v → Unborn v q
by_commit_unlogged q w v c i s late = grind (arith, nat_tests, i, c.up_present w.home, s, late)

pub by_abort : (q : ℕ) (w v : World) → Counts w → Unborn w q → Step Abort w v → Unborn v q
by_abort q w v c i s late = grind (arith, nat_tests, i, c.up_present w.home, s, late)

pub by_tell : (a b : ℕ) (q : ℕ) (w v : World) → Counts w → Unborn w q → Step (Tell a b) w v → Unborn v q
by_tell a b q w v c i s late = grind (arith, nat_tests, i, c.up_present a, s, late)

pub by_learn : (a : ℕ) (q : ℕ) (w v : World) → Counts w → Unborn w q → Step (Learn a) w v → Unborn v q
by_learn a q w v c i s late = grind (arith, nat_tests, i, c.up_present a, s, late)

pub by_learn_cut : (a : ℕ) (q : ℕ) (w v : World) → Counts w → Unborn w q → Step (Learn_cut a) w v → Unborn v q
by_learn_cut a q w v c i s late = grind (arith, nat_tests, i, c.up_present a, s, late)

pub by_learn_home : (a : ℕ) (q : ℕ) (w v : World) → Counts w → Unborn w q → Step (Learn_home a) w v → Unborn v q
by_learn_home a q w v c i s late = grind (arith, nat_tests, i, c.up_present a, s, late)

pub by_acknowledge : (a : ℕ) (q : ℕ) (w v : World) → Counts w → Unborn w q → Step (Acknowledge a) w v → Unborn v q
by_acknowledge a q w v c i s late = grind (arith, nat_tests, i, c.up_present a, s, late)

pub by_take_told : (a b : ℕ) (q : ℕ) (w v : World) → Counts w → Unborn w q → Step (Take_told a b) w v → Unborn v q
by_take_told a b q w v c i s late = grind (arith, nat_tests, i, c.up_present a, s, late)

pub by_end : (a : ℕ) (q : ℕ) (w v : World) → Counts w → Unborn w q → Step (End a) w v → Unborn v q
by_end a q w v c i s late = grind (arith, nat_tests, i, c.up_present a, s, late)

pub by_checkpoint : (a : ℕ) (q : ℕ) (w v : World) → Counts w → Unborn w q → Step (Checkpoint a) w v → Unborn v q
by_checkpoint a q w v c i s late = grind (arith, nat_tests, i, c.up_present a, s, late)

pub by_tell_abort : (a b : ℕ) (q : ℕ) (w v : World) → Counts w → Unborn w q → Step (Tell_abort a b) w v → Unborn v q
by_tell_abort a b q w v c i s late = grind (arith, nat_tests, i, c.up_present a, s, late)

pub by_learn_abort : (a : ℕ) (q : ℕ) (w v : World) → Counts w → Unborn w q → Step (Learn_abort a) w v → Unborn v q
by_learn_abort a q w v c i s late = grind (arith, nat_tests, i, c.up_present a, s, late)

pub by_name_again : (a : ℕ) (q : ℕ) (w v : World) → Counts w → Unborn w q → Step (Name_again a) w v → Unborn v q
by_name_again a q w v c i s late = grind (arith, nat_tests, i, c.up_present a, s, late)

pub by_take_names : (a b e : ℕ) (q : ℕ) (w v : World) → Counts w → Unborn w q → Step (Take_names a b e) w v → Unborn v q
by_take_names a b e q w v c i s late = grind (arith, nat_tests, i, c.up_present a, s, late)

pub by_learn_abort_home : (a b : ℕ) (q : ℕ) (w v : World) → Counts w → Unborn w q → Step (Learn_abort_home a b) w v → Unborn v q
by_learn_abort_home a b q w v c i s late = grind (arith, nat_tests, i, c.up_present a, s, late)

pub by_abort_logged : (a : ℕ) (q : ℕ) (w v : World) → Counts w → Unborn w q → Step (Abort_logged a) w v → Unborn v q
by_abort_logged a q w v c i s late = grind (arith, nat_tests, i, c.up_present a, s, late)

pub by_drop_engage : (a b : ℕ) (q : ℕ) (w v : World) → Counts w → Unborn w q → Step (Drop_engage a b) w v → Unborn v q
by_drop_engage a b q w v c i s late = grind (arith, nat_tests, i, c.up_present a, s, late)

pub by_drop_join : (a b : ℕ) (q : ℕ) (w v : World) → Counts w → Unborn w q → Step (Drop_join a b) w v → Unborn v q
by_drop_join a b q w v c i s late = grind (arith, nat_tests, i, c.up_present a, s, late)

pub by_drop_cover : (a b : ℕ) (q : ℕ) (w v : World) → Counts w → Unborn w q → Step (Drop_cover a b) w v → Unborn v q
by_drop_cover a b q w v c i s late = grind (arith, nat_tests, i, c.up_present a, s, late)

pub by_inquire : (a : ℕ) (q : ℕ) (w v : World) → Counts w → Unborn w q → Step (Inquire a) w v → Unborn v q
by_inquire a q w v c i s late = grind (arith, nat_tests, i, c.up_present a, s, late)

pub by_inquire_lost : (a : ℕ) (q : ℕ) (w v : World) → Counts w → Unborn w q → Step (Inquire_lost a) w v → Unborn v q
by_inquire_lost a q w v c i s late = grind (arith, nat_tests, i, c.up_present a, s, late)

pub by_inquire_home : (a : ℕ) (q : ℕ) (w v : World) → Counts w → Unborn w q → Step (Inquire_home a) w v → Unborn v q
by_inquire_home a q w v c i s late = grind (arith, nat_tests, i, c.up_present a, s, late)

pub by_answer_commit : (a b : ℕ) (q : ℕ) (w v : World) → Counts w → Unborn w q → Step (Answer_commit a b) w v → Unborn v q
by_answer_commit a b q w v c i s late = grind (arith, nat_tests, i, c.up_present a, s, late)

pub by_answer_running : (a : ℕ) (q : ℕ) (w v : World) → Counts w → Unborn w q → Step (Answer_running a) w v → Unborn v q
by_answer_running a q w v c i s late = grind (arith, nat_tests, i, c.up_present a, c.up_present w.home, s, late)

pub by_answer_abort : (a b : ℕ) (q : ℕ) (w v : World) → Counts w → Unborn w q → Step (Answer_abort a b) w v → Unborn v q
by_answer_abort a b q w v c i s late = grind (arith, nat_tests, i, c.up_present a, s, late)
