-- What holds of the machine's worlds besides its own invariant: links to places that are not known yet are empty, and nobody names the home.
use Rattle.qs_world_refine.proofs.Words.{◌≡◌, ◌≢◌, ℕ, ◌+◌, ◌<◌, ◌≤◌, true, false, arith, nat_tests, Open, Aborted, carried, Issue, Issue_unmet, Issue_local, Join, Cover, Serve, Serve_told, Yield, Ask, Vote_read, Vote_volatile, Force, Vote_recoverable, Vote_abort, Yes, Yes_lost, Count, Ignore, Refuse, Miss, Forget, Crash, Restart, Restart_in_doubt, Restart_home, Commit, Commit_cut, Commit_unlogged, Abort, Tell, Learn, Learn_cut, Learn_home, Acknowledge, Take_told, End, Checkpoint, Tell_abort}
use Rattle.qs_world_refine.proofs.Words.{Learn_abort, Name_again, Take_names, Learn_abort_home, Abort_logged, Drop_engage, Drop_join, Drop_cover, Inquire, Inquire_lost, Inquire_home, Answer_commit, Answer_running, Answer_abort, Counts}
use Rattle.qs_world_agree.specs.World.{World}
use Rattle.qs_world_agree.specs.Step.{Step, Meet, Notice, Engage, Lend}

pub record Fresh (w : World) (q p : ℕ) : Type 0 where
  pub set : (x n : ℕ) → w.closers q p < x → w.closer_set q p x n ≡ false  -- a set stands at the numbers that were put alone
  pub taken : w.closers_taken p q ≤ w.closers q p
  pub inquiry_taken : w.inquiry_taken p q ≤ w.inquiry_put q p
  pub none : w.peer q (w.node p) < p → w.closers q p ≡ 0  -- nothing was put for a place that is not known yet
  pub inquiry_none : w.peer q (w.node p) < p → w.inquiry_put q p ≡ 0
  pub last_none : w.peer q (w.node p) < p → w.last q p ≡ 0
  pub known : w.engaged q ≡ true → q ≢ w.home → (w.node (w.engager q) ≡ w.superior q) × (w.engager q ≤ w.peer q (w.superior q))
  pub away : w.engaged q ≡ true → q ≢ w.home → w.node q ≢ w.node w.home
  pub told : w.told_set q (w.node w.home) ≡ false  -- nobody names the home
  pub told_other : w.told_set p (w.node w.home) ≡ false
  pub sets : (x : ℕ) → w.closer_set q p x (w.node w.home) ≡ false
  pub sets_back : (x : ℕ) → w.closer_set p q x (w.node w.home) ≡ false
  pub asks : 1 ≤ w.inquiries q → w.node q ≢ w.node w.home
  pub asks_below : w.inquiry_put q p ≤ w.inquiries q
  pub asks_all : w.peer q (w.node p) ≡ p → 1 ≤ p → w.node p ≡ w.node w.home → w.inquiry_put q p ≡ w.inquiries q  -- what was asked was put for the home's place that is known
  pub asks_put : 1 ≤ w.inquiry_put q p → w.node q ≢ w.node w.home
  pub aborted : w.outcome q ≡ Aborted → w.node q ≢ w.node w.home → w.tell_abort (w.node q) ≡ true  -- another node than the home's knows abort where it may be told
  pub named : (n : ℕ) → w.named q n ≡ true → w.tell_abort (w.node q) ≡ true  -- and so does who has named somebody
  pub unnamed : w.outcome q ≡ Open → (n : ℕ) → w.named q n ≡ false  -- who knows no outcome has named nobody

pub by_issue : (a b e : ℕ) (q p : ℕ) (w v : World) → Counts w → Fresh w q p → Step (Issue a b e) w v → Fresh v q p
by_issue a b e q p w v c i s = grind (arith, nat_tests, i, s)

pub by_issue_unmet : (a b e : ℕ) (q p : ℕ) (w v : World) → Counts w → Fresh w q p → Step (Issue_unmet a b e) w v → Fresh v q p
by_issue_unmet a b e q p w v c i s = grind (arith, nat_tests, i, s)

pub by_issue_local : (a b : ℕ) (q p : ℕ) (w v : World) → Counts w → Fresh w q p → Step (Issue_local a b) w v → Fresh v q p
by_issue_local a b q p w v c i s = grind (arith, nat_tests, i, s)

pub by_meet : (a b : ℕ) (q p : ℕ) (w v : World) → Counts w → Fresh w q p → Step (Meet a b) w v → Fresh v q p
by_meet a b q p w v c i s = grind (arith, nat_tests, i, s)

pub by_notice : (a b : ℕ) (q p : ℕ) (w v : World) → Counts w → Fresh w q p → Step (Notice a b) w v → Fresh v q p
by_notice a b q p w v c i s = record {
  set = λ k n. grind (arith, nat_tests, i.set k n, s);
  taken = grind (arith, nat_tests, i.taken, s);
  inquiry_taken = grind (arith, nat_tests, i.inquiry_taken, i.asks_below, s);
  none = grind (arith, nat_tests, i.none, s);
  inquiry_none = grind (arith, nat_tests, i.inquiry_none, s);
  last_none = grind (arith, nat_tests, i.last_none, s);
  known = grind (arith, nat_tests, i.known, s);
  away = grind (arith, nat_tests, i.away, s);
  told = grind (arith, nat_tests, i.told, s);
  told_other = grind (arith, nat_tests, i.told_other, s);
  sets = λ k. grind (arith, nat_tests, i.sets k, s);
  sets_back = λ k. grind (arith, nat_tests, i.sets_back k, s);
  asks = grind (arith, nat_tests, i.asks, s);
  asks_below = grind (arith, nat_tests, i.asks_below, s);
  asks_all = grind (arith, nat_tests, i.asks_all, s);
  asks_put = grind (arith, nat_tests, i.asks_put, i.asks, s);
  aborted = grind (arith, nat_tests, i.aborted, s);
  named = grind (arith, nat_tests, i.named, s);
  unnamed = grind (arith, nat_tests, i.unnamed, s);
}

pub by_engage : (a b : ℕ) (q p : ℕ) (w v : World) → Counts w → Fresh w q p → Step (Engage a b) w v → Fresh v q p
by_engage a b q p w v c i s = grind (arith, nat_tests, i, s)

pub by_join : (a b : ℕ) (q p : ℕ) (w v : World) → Counts w → Fresh w q p → Step (Join a b) w v → Fresh v q p
by_join a b q p w v c i s = grind (arith, nat_tests, i, s)

pub by_cover : (a b : ℕ) (q p : ℕ) (w v : World) → Counts w → Fresh w q p → Step (Cover a b) w v → Fresh v q p
by_cover a b q p w v c i s = grind (arith, nat_tests, i, s)

pub by_serve : (a b : ℕ) (q p : ℕ) (w v : World) → Counts w → Fresh w q p → Step (Serve a b) w v → Fresh v q p
by_serve a b q p w v c i s = grind (arith, nat_tests, i, s)

pub by_serve_told : (a b : ℕ) (q p : ℕ) (w v : World) → Counts w → Fresh w q p → Step (Serve_told a b) w v → Fresh v q p
by_serve_told a b q p w v c i s = grind (arith, nat_tests, i, s)

pub by_lend : (a b : ℕ) (q p : ℕ) (w v : World) → Counts w → Fresh w q p → Step (Lend a b) w v → Fresh v q p
by_lend a b q p w v c i s = grind (arith, nat_tests, i, s)

pub by_yield : (a : ℕ) (q p : ℕ) (w v : World) → Counts w → Fresh w q p → Step (Yield a) w v → Fresh v q p
by_yield a q p w v c i s = grind (arith, nat_tests, i, s)

pub by_ask : (a : ℕ) (q p : ℕ) (w v : World) → Counts w → Fresh w q p → Step (Ask a) w v → Fresh v q p
by_ask a q p w v c i s = grind (arith, nat_tests, i, s)

pub by_vote_read : (a b : ℕ) (q p : ℕ) (w v : World) → Counts w → Fresh w q p → Step (Vote_read a b) w v → Fresh v q p
by_vote_read a b q p w v c i s = grind (arith, nat_tests, i, s)

pub by_vote_volatile : (a b : ℕ) (q p : ℕ) (w v : World) → Counts w → Fresh w q p → Step (Vote_volatile a b) w v → Fresh v q p
by_vote_volatile a b q p w v c i s = grind (arith, nat_tests, i, s)

pub by_force : (a b : ℕ) (q p : ℕ) (w v : World) → Counts w → Fresh w q p → Step (Force a b) w v → Fresh v q p
by_force a b q p w v c i s = grind (arith, nat_tests, i, s)

pub by_vote_recoverable : (a b : ℕ) (q p : ℕ) (w v : World) → Counts w → Fresh w q p → Step (Vote_recoverable a b) w v → Fresh v q p
by_vote_recoverable a b q p w v c i s = grind (arith, nat_tests, i, s)

pub by_vote_abort : (a b : ℕ) (q p : ℕ) (w v : World) → Counts w → Fresh w q p → Step (Vote_abort a b) w v → Fresh v q p
by_vote_abort a b q p w v c i s = grind (arith, nat_tests, i, s)

pub by_yes : (a : ℕ) (q p : ℕ) (w v : World) → Counts w → Fresh w q p → carried w a (w.node w.home) ≡ false → (w.node (w.engager a) ≡ w.superior a) × (w.engager a ≤ w.peer a (w.superior a)) → (1 ≤ w.peer a (w.superior a) → w.node (w.peer a (w.superior a)) ≡ w.superior a) → Step (Yes a) w v → Fresh v q p
by_yes a q p w v c i x y z s = grind (arith, nat_tests, i, x, y, z, s)

pub by_yes_lost : (a : ℕ) (q p : ℕ) (w v : World) → Counts w → Fresh w q p → carried w a (w.node w.home) ≡ false → (w.node (w.engager a) ≡ w.superior a) × (w.engager a ≤ w.peer a (w.superior a)) → (1 ≤ w.peer a (w.superior a) → w.node (w.peer a (w.superior a)) ≡ w.superior a) → Step (Yes_lost a) w v → Fresh v q p
by_yes_lost a q p w v c i x y z s = record {
  set = λ k n. grind (arith, nat_tests, i.set k n, s.3);
  taken = grind (arith, nat_tests, i.taken, s.3);
  inquiry_taken = grind (arith, nat_tests, i.inquiry_taken, s.3);
  none = grind (arith, nat_tests, i.none, y, z, s.2, s.3);
  inquiry_none = grind (arith, nat_tests, i.inquiry_none, s.3);
  last_none = grind (arith, nat_tests, i.last_none, s.3);
  known = grind (arith, nat_tests, i.known, s.3);
  away = grind (arith, nat_tests, i.away, s.3);
  told = grind (arith, nat_tests, i.told, s.3);
  told_other = grind (arith, nat_tests, i.told_other, s.3);
  sets = λ k. grind (arith, nat_tests, i.sets k, x, s.3);
  sets_back = λ k. grind (arith, nat_tests, i.sets_back k, x, s.3);
  asks = grind (arith, nat_tests, i.asks, s.3);
  asks_below = grind (arith, nat_tests, i.asks_below, s.3);
  asks_all = grind (arith, nat_tests, i.asks_all, s.3);
  asks_put = grind (arith, nat_tests, i.asks_put, s.3);
  aborted = grind (arith, nat_tests, i.aborted, s.3);
  named = grind (arith, nat_tests, i.named, s.3);
  unnamed = grind (arith, nat_tests, i.unnamed, s.3);
}

pub by_count : (a b : ℕ) (q p : ℕ) (w v : World) → Counts w → Fresh w q p → w.closer_set b a (w.closers_taken a b + 1) (w.node w.home) ≡ false → w.told_set a (w.node w.home) ≡ false → Step (Count a b) w v → Fresh v q p
by_count a b q p w v c i x y s = grind (arith, nat_tests, i, x, y, s)

pub by_ignore : (a b : ℕ) (q p : ℕ) (w v : World) → Counts w → Fresh w q p → Step (Ignore a b) w v → Fresh v q p
by_ignore a b q p w v c i s = grind (arith, nat_tests, i, s)

pub by_refuse : (a : ℕ) (q p : ℕ) (w v : World) → Counts w → Fresh w q p → Step (Refuse a) w v → Fresh v q p
by_refuse a q p w v c i s = grind (arith, nat_tests, i, s)

pub by_miss : (a : ℕ) (q p : ℕ) (w v : World) → Counts w → Fresh w q p → Step (Miss a) w v → Fresh v q p
by_miss a q p w v c i s = grind (arith, nat_tests, i, s)

pub by_forget : (a : ℕ) (q p : ℕ) (w v : World) → Counts w → Fresh w q p → Step (Forget a) w v → Fresh v q p
by_forget a q p w v c i s = grind (arith, nat_tests, i, s)

pub by_crash : (a : ℕ) (q p : ℕ) (w v : World) → Counts w → Fresh w q p → Step (Crash a) w v → Fresh v q p
by_crash a q p w v c i s = grind (arith, nat_tests, i, s)

pub by_restart : (a : ℕ) (q p : ℕ) (w v : World) → Counts w → Fresh w q p → Step (Restart a) w v → Fresh v q p
by_restart a q p w v c i s = grind (arith, nat_tests, i, s)

pub by_restart_in_doubt : (a b : ℕ) (q p : ℕ) (w v : World) → Counts w → Fresh w q p → Step (Restart_in_doubt a b) w v → Fresh v q p
by_restart_in_doubt a b q p w v c i s = grind (arith, nat_tests, i, s)

pub by_restart_home : (a : ℕ) (q p : ℕ) (w v : World) → Counts w → (w.present (w.node a) < a → w.outcome a ≡ Open) → Fresh w q p → Step (Restart_home a) w v → Fresh v q p
by_restart_home a q p w v c unborn i s = grind (arith, nat_tests, unborn, i, s)

pub by_commit : (q p : ℕ) (w v : World) → Counts w → Fresh w q p → Step Commit w v → Fresh v q p
by_commit q p w v c i s = grind (arith, nat_tests, i, s)

pub by_commit_cut : (q p : ℕ) (w v : World) → Counts w → Fresh w q p → Step Commit_cut w v → Fresh v q p
by_commit_cut q p w v c i s = grind (arith, nat_tests, i, s)

pub by_commit_unlogged : (q p : ℕ) (w v : World) → Counts w → Fresh w q p → Step Commit_unlogged w v → Fresh v q p
by_commit_unlogged q p w v c i s = grind (arith, nat_tests, i, s)

pub by_abort : (q p : ℕ) (w v : World) → Counts w → Fresh w q p → Step Abort w v → Fresh v q p
by_abort q p w v c i s = grind (arith, nat_tests, i, s)

pub by_tell : (a b : ℕ) (q p : ℕ) (w v : World) → Counts w → Fresh w q p → Step (Tell a b) w v → Fresh v q p
by_tell a b q p w v c i s = grind (arith, nat_tests, i, s)

pub by_learn : (a : ℕ) (q p : ℕ) (w v : World) → Counts w → Fresh w q p → Step (Learn a) w v → Fresh v q p
by_learn a q p w v c i s = grind (arith, nat_tests, i, s)

pub by_learn_cut : (a : ℕ) (q p : ℕ) (w v : World) → Counts w → Fresh w q p → Step (Learn_cut a) w v → Fresh v q p
by_learn_cut a q p w v c i s = grind (arith, nat_tests, i, s)

pub by_learn_home : (a : ℕ) (q p : ℕ) (w v : World) → Counts w → Fresh w q p → Step (Learn_home a) w v → Fresh v q p
by_learn_home a q p w v c i s = grind (arith, nat_tests, i, s)

pub by_acknowledge : (a : ℕ) (q p : ℕ) (w v : World) → Counts w → Fresh w q p → Step (Acknowledge a) w v → Fresh v q p
by_acknowledge a q p w v c i s = grind (arith, nat_tests, i, s)

pub by_take_told : (a b : ℕ) (q p : ℕ) (w v : World) → Counts w → Fresh w q p → Step (Take_told a b) w v → Fresh v q p
by_take_told a b q p w v c i s = grind (arith, nat_tests, i, s)

pub by_end : (a : ℕ) (q p : ℕ) (w v : World) → Counts w → Fresh w q p → Step (End a) w v → Fresh v q p
by_end a q p w v c i s = grind (arith, nat_tests, i, s)

pub by_checkpoint : (a : ℕ) (q p : ℕ) (w v : World) → Counts w → Fresh w q p → Step (Checkpoint a) w v → Fresh v q p
by_checkpoint a q p w v c i s = grind (arith, nat_tests, i, s)

pub by_tell_abort : (a b : ℕ) (q p : ℕ) (w v : World) → Counts w → Fresh w q p → Step (Tell_abort a b) w v → Fresh v q p
by_tell_abort a b q p w v c i s = grind (arith, nat_tests, i, s)

pub by_learn_abort : (a : ℕ) (q p : ℕ) (w v : World) → Counts w → Fresh w q p → Step (Learn_abort a) w v → Fresh v q p
by_learn_abort a q p w v c i s = grind (arith, nat_tests, i, s)

pub by_name_again : (a : ℕ) (q p : ℕ) (w v : World) → Counts w → Fresh w q p → Step (Name_again a) w v → Fresh v q p
by_name_again a q p w v c i s = grind (arith, nat_tests, i, s)

pub by_take_names : (a b e : ℕ) (q p : ℕ) (w v : World) → Counts w → Fresh w q p → Step (Take_names a b e) w v → Fresh v q p
by_take_names a b e q p w v c i s = grind (arith, nat_tests, i, s)

pub by_learn_abort_home : (a b : ℕ) (q p : ℕ) (w v : World) → Counts w → Fresh w q p → Step (Learn_abort_home a b) w v → Fresh v q p
by_learn_abort_home a b q p w v c i s = grind (arith, nat_tests, i, s)

pub by_abort_logged : (a : ℕ) (q p : ℕ) (w v : World) → Counts w → Fresh w q p → Step (Abort_logged a) w v → Fresh v q p
by_abort_logged a q p w v c i s = grind (arith, nat_tests, i, s)

pub by_drop_engage : (a b : ℕ) (q p : ℕ) (w v : World) → Counts w → Fresh w q p → Step (Drop_engage a b) w v → Fresh v q p
by_drop_engage a b q p w v c i s = grind (arith, nat_tests, i, s)

pub by_drop_join : (a b : ℕ) (q p : ℕ) (w v : World) → Counts w → Fresh w q p → Step (Drop_join a b) w v → Fresh v q p
by_drop_join a b q p w v c i s = grind (arith, nat_tests, i, s)

pub by_drop_cover : (a b : ℕ) (q p : ℕ) (w v : World) → Counts w → Fresh w q p → Step (Drop_cover a b) w v → Fresh v q p
by_drop_cover a b q p w v c i s = grind (arith, nat_tests, i, s)

pub by_inquire : (a : ℕ) (q p : ℕ) (w v : World) → Counts w → Fresh w q p → Step (Inquire a) w v → Fresh v q p
by_inquire a q p w v c i s = grind (arith, nat_tests, i, s)

pub by_inquire_lost : (a : ℕ) (q p : ℕ) (w v : World) → Counts w → Fresh w q p → Step (Inquire_lost a) w v → Fresh v q p
by_inquire_lost a q p w v c i s = grind (arith, nat_tests, i, s)

pub by_inquire_home : (a : ℕ) (q p : ℕ) (w v : World) → Counts w → Fresh w q p → Step (Inquire_home a) w v → Fresh v q p
by_inquire_home a q p w v c i s = grind (arith, nat_tests, i, s)

pub by_answer_commit : (a b : ℕ) (q p : ℕ) (w v : World) → Counts w → Fresh w q p → Step (Answer_commit a b) w v → Fresh v q p
by_answer_commit a b q p w v c i s = grind (arith, nat_tests, i, s)

pub by_answer_running : (a : ℕ) (q p : ℕ) (w v : World) → Counts w → Fresh w q p → w.node a ≢ w.node w.home → Step (Answer_running a) w v → Fresh v q p
by_answer_running a q p w v c i x s = grind (arith, nat_tests, i, x, s)

pub by_answer_abort : (a b : ℕ) (q p : ℕ) (w v : World) → Counts w → Fresh w q p → Step (Answer_abort a b) w v → Fresh v q p
by_answer_abort a b q p w v c i s = grind (arith, nat_tests, i, s)
