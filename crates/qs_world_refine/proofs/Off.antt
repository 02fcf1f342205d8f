-- A place that is not engaged, and is not the home, has nothing open: whatever is decided, its loans are given back, all that came is served and voted for, all that it sent is covered, and nothing keeps it from answering.
use Rattle.qs_world_refine.proofs.Words.{◌≡◌, ◌≢◌, ℕ, ◌≤◌, false, arith, nat_tests, Votes, Issue, Issue_unmet, Issue_local, Join, Cover, Serve, Serve_told, Yield, Ask, Vote_read, Vote_volatile, Force, Vote_recoverable, Vote_abort, Yes, Yes_lost, Count, Ignore, Refuse, Miss, Forget, Crash, Restart, Restart_in_doubt, Restart_home, Commit, Commit_cut, Commit_unlogged, Abort, Tell, Learn, Learn_cut, Learn_home, Acknowledge, Take_told, End, Checkpoint, Tell_abort, Learn_abort, Name_again, Take_names}
use Rattle.qs_world_refine.proofs.Words.{Learn_abort_home, Abort_logged, Drop_engage, Drop_join, Drop_cover, Inquire, Inquire_lost, Inquire_home, Answer_commit, Answer_running, Answer_abort}
use Rattle.qs_world_agree.specs.World.{World}
use Rattle.qs_world_agree.specs.Step.{Step, Meet, Notice, Engage, Lend}

pub record Off (w : World) (q j k : ℕ) : Type 0 where
  pub loans : w.engaged q ≡ false → q ≢ w.home → w.loans q ≡ 0
  pub served : w.engaged q ≡ false → q ≢ w.home → w.served q j ≡ w.arrived q j
  pub voted : w.engaged q ≡ false → q ≢ w.home → Votes w q j → w.voted q j ≡ w.arrived q j
  pub covered : w.engaged q ≡ false → q ≢ w.home → w.covered q k ≡ w.sent q k
  pub gone : w.engaged q ≡ false → q ≢ w.home → w.gone q ≡ false
  pub against : w.engaged q ≡ false → q ≢ w.home → w.abort_vote q ≡ false

pub by_issue : (a b e : ℕ) (q j k : ℕ) (w v : World) → Off w q j k → Step (Issue a b e) w v → Off v q j k
by_issue a b e q j k w v i s = grind (arith, nat_tests, i, s)

pub by_issue_unmet : (a b e : ℕ) (q j k : ℕ) (w v : World) → Off w q j k → Step (Issue_unmet a b e) w v → Off v q j k
by_issue_unmet a b e q j k w v i s = grind (arith, nat_tests, i, s)

pub by_issue_local : (a b : ℕ) (q j k : ℕ) (w v : World) → Off w q j k → Step (Issue_local a b) w v → Off v q j k
by_issue_local a b q j k w v i s = grind (arith, nat_tests, i, s)

pub by_meet : (a b : ℕ) (q j k : ℕ) (w v : World) → Off w q j k → Step (Meet a b) w v → Off v q j k
by_meet a b q j k w v i s = grind (arith, nat_tests, i, s)

pub by_notice : (a b : ℕ) (q j k : ℕ) (w v : World) → Off w q j k → Off w a j (w.node b) → Step (Notice a b) w v → Off v q j k
by_notice a b q j k w v i o s = grind (arith, nat_tests, i, o, s)

pub by_engage : (a b : ℕ) (q j k : ℕ) (w v : World) → Off w q j k → Step (Engage a b) w v → Off v q j k
by_engage a b q j k w v i s = grind (arith, nat_tests, i, s)

pub by_join : (a b : ℕ) (q j k : ℕ) (w v : World) → Off w q j k → Step (Join a b) w v → Off v q j k
by_join a b q j k w v i s = grind (arith, nat_tests, i, s)

pub by_cover : (a b : ℕ) (q j k : ℕ) (w v : World) → Off w q j k → Step (Cover a b) w v → Off v q j k
by_cover a b q j k w v i s = grind (arith, nat_tests, i, s)

pub by_serve : (a b : ℕ) (q j k : ℕ) (w v : World) → Off w q j k → Off w a b k → Step (Serve a b) w v → Off v q j k
by_serve a b q j k w v i o s = grind (arith, nat_tests, i, o, s)

pub by_serve_told : (a b : ℕ) (q j k : ℕ) (w v : World) → Off w q j k → Off w a b k → Step (Serve_told a b) w v → Off v q j k
by_serve_told a b q j k w v i o s = grind (arith, nat_tests, i, o, s)

pub by_lend : (a b : ℕ) (q j k : ℕ) (w v : World) → Off w q j k → Off w a b k → Step (Lend a b) w v → Off v q j k
by_lend a b q j k w v i o s = grind (arith, nat_tests, i, o, s)

pub by_yield : (a : ℕ) (q j k : ℕ) (w v : World) → Off w q j k → Step (Yield a) w v → Off v q j k
by_yield a q j k w v i s = grind (arith, nat_tests, i, s)

pub by_ask : (a : ℕ) (q j k : ℕ) (w v : World) → Off w q j k → Step (Ask a) w v → Off v q j k
by_ask a q j k w v i s = grind (arith, nat_tests, i, s)

pub by_vote_read : (a b : ℕ) (q j k : ℕ) (w v : World) → Off w q j k → Off w a b k → Step (Vote_read a b) w v → Off v q j k
by_vote_read a b q j k w v i o s = grind (arith, nat_tests, i, o, s)

pub by_vote_volatile : (a b : ℕ) (q j k : ℕ) (w v : World) → Off w q j k → Off w a b k → Step (Vote_volatile a b) w v → Off v q j k
by_vote_volatile a b q j k w v i o s = grind (arith, nat_tests, i, o, s)

pub by_force : (a b : ℕ) (q j k : ℕ) (w v : World) → Off w q j k → Off w a b k → Step (Force a b) w v → Off v q j k
by_force a b q j k w v i o s = grind (arith, nat_tests, i, o, s)

pub by_vote_recoverable : (a b : ℕ) (q j k : ℕ) (w v : World) → Off w q j k → Off w a b k → Step (Vote_recoverable a b) w v → Off v q j k
by_vote_recoverable a b q j k w v i o s = grind (arith, nat_tests, i, o, s)

pub by_vote_abort : (a b : ℕ) (q j k : ℕ) (w v : World) → Off w q j k → Off w a b k → Step (Vote_abort a b) w v → Off v q j k
by_vote_abort a b q j k w v i o s = grind (arith, nat_tests, i, o, s)

pub by_yes : (a : ℕ) (q j k : ℕ) (w v : World) → Off w q j k → Step (Yes a) w v → Off v q j k
by_yes a q j k w v i s = record {
  loans = grind (arith, nat_tests, i.loans, s.1.loans, s.3);
  served = grind (arith, nat_tests, i.served, s.1.served j, s.3);
  voted = grind (arith, nat_tests, i.voted, s.1.voted j, s.3);
  covered = grind (arith, nat_tests, i.covered, s.1.covered k, s.3);
  gone = grind (arith, nat_tests, i.gone, s.1.gone, s.3);
  against = grind (arith, nat_tests, i.against, s.1.abort_vote, s.3);
}

pub by_yes_lost : (a : ℕ) (q j k : ℕ) (w v : World) → Off w q j k → Step (Yes_lost a) w v → Off v q j k
by_yes_lost a q j k w v i s = record {
  loans = grind (arith, nat_tests, i.loans, s.1.loans, s.3);
  served = grind (arith, nat_tests, i.served, s.1.served j, s.3);
  voted = grind (arith, nat_tests, i.voted, s.1.voted j, s.3);
  covered = grind (arith, nat_tests, i.covered, s.1.covered k, s.3);
  gone = grind (arith, nat_tests, i.gone, s.1.gone, s.3);
  against = grind (arith, nat_tests, i.against, s.1.abort_vote, s.3);
}

pub by_count : (a b : ℕ) (q j k : ℕ) (w v : World) → Off w q j k → v.covered a (w.node b) ≤ v.sent a (w.node b) → Off w a j (w.node b) → Step (Count a b) w v → Off v q j k
by_count a b q j k w v i c o s = grind (arith, nat_tests, i, c, o, s)

pub by_ignore : (a b : ℕ) (q j k : ℕ) (w v : World) → Off w q j k → Step (Ignore a b) w v → Off v q j k
by_ignore a b q j k w v i s = grind (arith, nat_tests, i, s)

pub by_refuse : (a : ℕ) (q j k : ℕ) (w v : World) → Off w q j k → Step (Refuse a) w v → Off v q j k
by_refuse a q j k w v i s = grind (arith, nat_tests, i, s)

pub by_miss : (a : ℕ) (q j k : ℕ) (w v : World) → Off w q j k → Step (Miss a) w v → Off v q j k
by_miss a q j k w v i s = grind (arith, nat_tests, i, s)

pub by_forget : (a : ℕ) (q j k : ℕ) (w v : World) → Off w q j k → Step (Forget a) w v → Off v q j k
by_forget a q j k w v i s = grind (arith, nat_tests, i, s)

pub by_crash : (a : ℕ) (q j k : ℕ) (w v : World) → Off w q j k → Step (Crash a) w v → Off v q j k
by_crash a q j k w v i s = grind (arith, nat_tests, i, s)

pub by_restart : (a : ℕ) (q j k : ℕ) (w v : World) → Off w q j k → Step (Restart a) w v → Off v q j k
by_restart a q j k w v i s = grind (arith, nat_tests, i, s)

pub by_restart_in_doubt : (a b : ℕ) (q j k : ℕ) (w v : World) → Off w q j k → Step (Restart_in_doubt a b) w v → Off v q j k
by_restart_in_doubt a b q j k w v i s = grind (arith, nat_tests, i, s)

pub by_restart_home : (a : ℕ) (q j k : ℕ) (w v : World) → Off w q j k → Step (Restart_home a) w v → Off v q j k
by_restart_home a q j k w v i s = grind (arith, nat_tests, i, s)

pub by_commit : (q j k : ℕ) (w v : World) → Off w q j k → Step Commit w v → Off v q j k
by_commit q j k w v i s = grind (arith, nat_tests, i, s)

pub by_commit_cut : (q j k : ℕ) (w v : World) → Off w q j k → Step Commit_cut w v → Off v q j k
by_commit_cut q j k w v i s = grind (arith, nat_tests, i, s)

pub by_commit_unlogged : (q j k : ℕ) (w v : World) → Off w q j k → Step Commit_unlogged w v → Off v q j k
by_commit_unlogged q j k w v i s = grind (arith, nat_tests, i, s)

pub by_abort : (q j k : ℕ) (w v : World) → Off w q j k → Step Abort w v → Off v q j k
by_abort q j k w v i s = grind (arith, nat_tests, i, s)

pub by_tell : (a b : ℕ) (q j k : ℕ) (w v : World) → Off w q j k → Step (Tell a b) w v → Off v q j k
by_tell a b q j k w v i s = grind (arith, nat_tests, i, s)

pub by_learn : (a : ℕ) (q j k : ℕ) (w v : World) → Off w q j k → Step (Learn a) w v → Off v q j k
by_learn a q j k w v i s = grind (arith, nat_tests, i, s)

pub by_learn_cut : (a : ℕ) (q j k : ℕ) (w v : World) → Off w q j k → Step (Learn_cut a) w v → Off v q j k
by_learn_cut a q j k w v i s = grind (arith, nat_tests, i, s)

pub by_learn_home : (a : ℕ) (q j k : ℕ) (w v : World) → Off w q j k → Step (Learn_home a) w v → Off v q j k
by_learn_home a q j k w v i s = grind (arith, nat_tests, i, s)

pub by_acknowledge : (a : ℕ) (q j k : ℕ) (w v : World) → Off w q j k → Step (Acknowledge a) w v → Off v q j k
by_acknowledge a q j k w v i s = grind (arith, nat_tests, i, s)

pub by_take_told : (a b : ℕ) (q j k : ℕ) (w v : World) → Off w q j k → Step (Take_told a b) w v → Off v q j k
by_take_told a b q j k w v i s = grind (arith, nat_tests, i, s)

pub by_end : (a : ℕ) (q j k : ℕ) (w v : World) → Off w q j k → Step (End a) w v → Off v q j k
by_end a q j k w v i s = grind (arith, nat_tests, i, s)

pub by_checkpoint : (a : ℕ) (q j k : ℕ) (w v : World) → Off w q j k → Step (Checkpoint a) w v → Off v q j k
by_checkpoint a q j k w v i s = grind (arith, nat_tests, i, s)

pub by_tell_abort : (a b : ℕ) (q j k : ℕ) (w v : World) → Off w q j k → Step (Tell_abort a b) w v → Off v q j k
by_tell_abort a b q j k w v i s = grind (arith, nat_tests, i, s)

pub by_learn_abort : (a : ℕ) (q j k : ℕ) (w v : World) → Off w q j k → Step (Learn_abort a) w v → Off v q j k
by_learn_abort a q j k w v i s = grind (arith, nat_tests, i, s)

pub by_name_again : (a : ℕ) (q j k : ℕ) (w v : World) → Off w q j k → Step (Name_again a) w v → Off v q j k
by_name_again a q j k w v i s = grind (arith, nat_tests, i, s)

pub by_take_names : (a b e : ℕ) (q j k : ℕ) (w v : World) → Off w q j k → Step (Take_names a b e) w v → Off v q j k
by_take_names a b e q j k w v i s = grind (arith, nat_tests, i, s)

pub by_learn_abort_home : (a b : ℕ) (q j k : ℕ) (w v : World) → Off w q j k → Step (Learn_abort_home a b) w v → Off v q j k
by_learn_abort_home a b q j k w v i s = grind (arith, nat_tests, i, s)

pub by_abort_logged : (a : ℕ) (q j k : ℕ) (w v : World) → Off w q j k → Step (Abort_logged a) w v → Off v q j k
by_abort_logged a q j k w v i s = grind (arith, nat_tests, i, s)

pub by_drop_engage : (a b : ℕ) (q j k : ℕ) (w v : World) → Off w q j k → Step (Drop_engage a b) w v → Off v q j k
by_drop_engage a b q j k w v i s = grind (arith, nat_tests, i, s)

pub by_drop_join : (a b : ℕ) (q j k : ℕ) (w v : World) → Off w q j k → Step (Drop_join a b) w v → Off v q j k
by_drop_join a b q j k w v i s = grind (arith, nat_tests, i, s)

pub by_drop_cover : (a b : ℕ) (q j k : ℕ) (w v : World) → Off w q j k → Step (Drop_cover a b) w v → Off v q j k
by_drop_cover a b q j k w v i s = grind (arith, nat_tests, i, s)

pub by_inquire : (a : ℕ) (q j k : ℕ) (w v : World) → Off w q j k → Step (Inquire a) w v → Off v q j k
by_inquire a q j k w v i s = grind (arith, nat_tests, i, s)

pub by_inquire_lost : (a : ℕ) (q j k : ℕ) (w v : World) → Off w q j k → Step (Inquire_lost a) w v → Off v q j k
by_inquire_lost a q j k w v i s = grind (arith, nat_tests, i, s)

pub by_inquire_home : (a : ℕ) (q j k : ℕ) (w v : World) → Off w q j k → Step (Inquire_home a) w v → Off v q j k
by_inquire_home a q j k w v i s = grind (arith, nat_tests, i, s)

pub by_answer_commit : (a b : ℕ) (q j k : ℕ) (w v : World) → Off w q j k → Step (Answer_commit a b) w v → Off v q j k
by_answer_commit a b q j k w v i s = grind (arith, nat_tests, i, s)

pub by_answer_running : (a : ℕ) (q j k : ℕ) (w v : World) → Off w q j k → Step (Answer_running a) w v → Off v q j k
by_answer_running a q j k w v i s = grind (arith, nat_tests, i, s)

pub by_answer_abort : (a b : ℕ) (q j k : ℕ) (w v : World) → Off w q j k → Step (Answer_abort a b) w v → Off v q j k
by_answer_abort a b q j k w v i s = grind (arith, nat_tests, i, s)
