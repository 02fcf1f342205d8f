-- Who is not engaged has nothing open, after every run of the machine.
use Rattle.qs_world_refine.proofs.Words.{ℕ, List, [], ◌∷◌, arith, sym, subst, nat_tests, Origin, Found, IsLawful, Inv, inv_step, inv_first, Issue, Issue_unmet, Issue_local, Join, Cover, Serve, Serve_told, Yield, Ask, Vote_read, Vote_volatile, Force, Vote_recoverable, Vote_abort, Yes, Yes_lost, Count, Ignore, Refuse, Miss, Forget, Crash, Restart, Restart_in_doubt, Restart_home, Commit, Commit_cut, Commit_unlogged, Abort, Tell, Learn, Learn_cut, Learn_home, Acknowledge, Take_told, End, Checkpoint}
use Rattle.qs_world_refine.proofs.Words.{Tell_abort, Learn_abort, Name_again, Take_names, Learn_abort_home, Abort_logged, Drop_engage, Drop_join, Drop_cover, Inquire, Inquire_lost, Inquire_home, Answer_commit, Answer_running, Answer_abort, Counts}
use Rattle.qs_world_agree.specs.World.{World}
use Rattle.qs_world_agree.specs.Origins.{Begun, first}
use Rattle.qs_world_agree.specs.Laws.{Run}
use Rattle.qs_world_agree.specs.Step.{Event, Step, Meet, Notice, Engage, Lend}
use Rattle.qs_world_refine.proofs.Off.{Off, by_issue, by_issue_unmet, by_issue_local, by_meet, by_notice, by_engage, by_join, by_cover, by_serve, by_serve_told, by_lend, by_yield, by_ask, by_vote_read, by_vote_volatile, by_force, by_vote_recoverable, by_vote_abort, by_yes, by_yes_lost, by_count, by_ignore, by_refuse, by_miss, by_forget, by_crash, by_restart, by_restart_in_doubt, by_restart_home, by_commit, by_commit_cut, by_commit_unlogged, by_abort, by_tell, by_learn, by_learn_cut, by_learn_home, by_acknowledge, by_take_told, by_end, by_checkpoint, by_tell_abort, by_learn_abort, by_name_again, by_take_names, by_learn_abort_home, by_abort_logged, by_drop_engage, by_drop_join, by_drop_cover, by_inquire, by_inquire_lost, by_inquire_home, by_answer_commit, by_answer_running, by_answer_abort}

pub off_step : (e : Event) (w v : World) → Counts v → ((q j k : ℕ) → Off w q j k) → Step e w v → (q j k : ℕ) → Off v q j k
off_step (Issue a b e) w v c i s q j k = by_issue a b e q j k w v (i q j k) s
off_step (Issue_unmet a b e) w v c i s q j k = by_issue_unmet a b e q j k w v (i q j k) s
off_step (Issue_local a b) w v c i s q j k = by_issue_local a b q j k w v (i q j k) s
off_step (Meet a b) w v c i s q j k = by_meet a b q j k w v (i q j k) s
off_step (Notice a b) w v c i s q j k = by_notice a b q j k w v (i q j k) (i a j (w.node b)) s
off_step (Engage a b) w v c i s q j k = by_engage a b q j k w v (i q j k) s
off_step (Join a b) w v c i s q j k = by_join a b q j k w v (i q j k) s
off_step (Cover a b) w v c i s q j k = by_cover a b q j k w v (i q j k) s
off_step (Serve a b) w v c i s q j k = by_serve a b q j k w v (i q j k) (i a b k) s
off_step (Serve_told a b) w v c i s q j k = by_serve_told a b q j k w v (i q j k) (i a b k) s
off_step (Lend a b) w v c i s q j k = by_lend a b q j k w v (i q j k) (i a b k) s
off_step (Yield a) w v c i s q j k = by_yield a q j k w v (i q j k) s
off_step (Ask a) w v c i s q j k = by_ask a q j k w v (i q j k) s
off_step (Vote_read a b) w v c i s q j k = by_vote_read a b q j k w v (i q j k) (i a b k) s
off_step (Vote_volatile a b) w v c i s q j k = by_vote_volatile a b q j k w v (i q j k) (i a b k) s
off_step (Force a b) w v c i s q j k = by_force a b q j k w v (i q j k) (i a b k) s
off_step (Vote_recoverable a b) w v c i s q j k = by_vote_recoverable a b q j k w v (i q j k) (i a b k) s
off_step (Vote_abort a b) w v c i s q j k = by_vote_abort a b q j k w v (i q j k) (i a b k) s
off_step (Yes a) w v c i s q j k = by_yes a q j k w v (i q j k) s
off_step (Yes_lost a) w v c i s q j k = by_yes_lost a q j k w v (i q j k) s
off_step (Count a b) w v c i s q j k = by_count a b q j k w v (i q j k) (c.covered_sent a (w.node b)) (i a j (w.node b)) s
off_step (Ignore a b) w v c i s q j k = by_ignore a b q j k w v (i q j k) s
off_step (Refuse a) w v c i s q j k = by_refuse a q j k w v (i q j k) s
off_step (Miss a) w v c i s q j k = by_miss a q j k w v (i q j k) s
off_step (Forget a) w v c i s q j k = by_forget a q j k w v (i q j k) s
off_step (Crash a) w v c i s q j k = by_crash a q j k w v (i q j k) s
off_step (Restart a) w v c i s q j k = by_restart a q j k w v (i q j k) s
off_step (Restart_in_doubt a b) w v c i s q j k = by_restart_in_doubt a b q j k w v (i q j k) s
off_step (Restart_home a) w v c i s q j k = by_restart_home a q j k w v (i q j k) s
off_step Commit w v c i s q j k = by_commit q j k w v (i q j k) s
off_step Commit_cut w v c i s q j k = by_commit_cut q j k w v (i q j k) s
off_step Commit_unlogged w v c i s q j k = by_commit_unlogged q j k w v (i q j k) s
off_step Abort w v c i s q j k = by_abort q j k w v (i q j k) s
off_step (Tell a b) w v c i s q j k = by_tell a b q j k w v (i q j k) s
off_step (Learn a) w v c i s q j k = by_learn a q j k w v (i q j k) s
off_step (Learn_cut a) w v c i s q j k = by_learn_cut a q j k w v (i q j k) s
off_step (Learn_home a) w v c i s q j k = by_learn_home a q j k w v (i q j k) s
off_step (Acknowledge a) w v c i s q j k = by_acknowledge a q j k w v (i q j k) s
off_step (Take_told a b) w v c i s q j k = by_take_told a b q j k w v (i q j k) s
off_step (End a) w v c i s q j k = by_end a q j k w v (i q j k) s
off_step (Checkpoint a) w v c i s q j k = by_checkpoint a q j k w v (i q j k) s
off_step (Tell_abort a b) w v c i s q j k = by_tell_abort a b q j k w v (i q j k) s
off_step (Learn_abort a) w v c i s q j k = by_learn_abort a q j k w v (i q j k) s
off_step (Name_again a) w v c i s q j k = by_name_again a q j k w v (i q j k) s
off_step (Take_names a b e) w v c i s q j k = by_take_names a b e q j k w v (i q j k) s
off_step (Learn_abort_home a b) w v c i s q j k = by_learn_abort_home a b q j k w v (i q j k) s
off_step (Abort_logged a) w v c i s q j k = by_abort_logged a q j k w v (i q j k) s
off_step (Drop_engage a b) w v c i s q j k = by_drop_engage a b q j k w v (i q j k) s
off_step (Drop_join a b) w v c i s q j k = by_drop_join a b q j k w v (i q j k) s
off_step (Drop_cover a b) w v c i s q j k = by_drop_cover a b q j k w v (i q j k) s
off_step (Inquire a) w v c i s q j k = by_inquire a q j k w v (i q j k) s
off_step (Inquire_lost a) w v c i s q j k = by_inquire_lost a q j k w v (i q j k) s
off_step (Inquire_home a) w v c i s q j k = by_inquire_home a q j k w v (i q j k) s
off_step (Answer_commit a b) w v c i s q j k = by_answer_commit a b q j k w v (i q j k) s
off_step (Answer_running a) w v c i s q j k = by_answer_running a q j k w v (i q j k) s
off_step (Answer_abort a b) w v c i s q j k = by_answer_abort a b q j k w v (i q j k) s

off_first : (o : Origin) (q j k : ℕ) → Off (first o) q j k
off_first (Begun o) q j k = grind (arith, nat_tests)
off_first (Found o) q j k = grind (arith, nat_tests)

off_run : (es : List Event) (w v : World) → Inv w → ((q j k : ℕ) → Off w q j k) → Run w es v → (q j k : ℕ) → Off v q j k
off_run [] w v inv i r q j k = subst (λ (x : World). Off x q j k) (sym r) (i q j k)
off_run (e ∷ es) w v inv i r q j k =
    let next = inv_step e w r.0 inv r.1 in
    off_run es r.0 v next (off_step e w r.0 next.counts i r.1) r.2 q j k

pub off : (w : World) → IsLawful w → (q j k : ℕ) → Off w q j k
off w l q j k = off_run l.reached.events (first l.reached.origin) w (inv_first l.reached.origin l.reached.begins) (off_first l.reached.origin) l.reached.run q j k
