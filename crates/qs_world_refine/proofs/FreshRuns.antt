-- Links to places that are not known yet are empty after every run of the machine.
use Rattle.qs_world_refine.proofs.Words.{◌≡◌, ◌≢◌, ℕ, ◌+◌, ◌<◌, false, List, [], ◌∷◌, arith, sym, subst, nat_tests, Open, Origin, Found, IsLawful, Inv, inv_step, inv_first, carried, Issue, Issue_unmet, Issue_local, Join, Cover, Serve, Serve_told, Yield, Ask, Vote_read, Vote_volatile, Force, Vote_recoverable, Vote_abort, Yes, Yes_lost, Count, Ignore, Refuse, Miss, Forget, Crash, Restart, Restart_in_doubt, Restart_home, Commit, Commit_cut, Commit_unlogged, Abort, Tell, Learn, Learn_cut, Learn_home}
use Rattle.qs_world_refine.proofs.Words.{Acknowledge, Take_told, End, Checkpoint, Tell_abort, Learn_abort, Name_again, Take_names, Learn_abort_home, Abort_logged, Drop_engage, Drop_join, Drop_cover, Inquire, Inquire_lost, Inquire_home, Answer_commit, Answer_running, Answer_abort, Counts}
use Rattle.qs_world_agree.specs.World.{World}
use Rattle.qs_world_agree.specs.Origins.{Begun, IsOrigin, first}
use Rattle.qs_world_agree.specs.Laws.{Run}
use Rattle.qs_world_agree.specs.Step.{Event, Step, Meet, Notice, Engage, Lend}
use Rattle.qs_world_refine.proofs.Fresh.{Fresh, by_issue, by_issue_unmet, by_issue_local, by_meet, by_notice, by_engage, by_join, by_cover, by_serve, by_serve_told, by_lend, by_yield, by_ask, by_vote_read, by_vote_volatile, by_force, by_vote_recoverable, by_vote_abort, by_yes, by_yes_lost, by_count, by_ignore, by_refuse, by_miss, by_forget, by_crash, by_restart, by_restart_in_doubt, by_restart_home, by_commit, by_commit_cut, by_commit_unlogged, by_abort, by_tell, by_learn, by_learn_cut, by_learn_home, by_acknowledge, by_take_told, by_end, by_checkpoint, by_tell_abort, by_learn_abort, by_name_again, by_take_names, by_learn_abort_home, by_abort_logged, by_drop_engage, by_drop_join, by_drop_cover, by_inquire, by_inquire_lost, by_inquire_home, by_answer_commit, by_answer_running, by_answer_abort}

no_home : (a : ℕ) (w : World) → w.told_set a (w.node w.home) ≡ false → w.node a ≢ w.node w.home → carried w a (w.node w.home) ≡ false
no_home a w told away = grind (arith, nat_tests, told, away)

asked : (a : ℕ) (w v : World) → Fresh w a w.home → Step (Answer_running a) w v → w.node a ≢ w.node w.home
asked a w v i s = i.asks_put (grind (arith, s))

pub fresh_step : (e : Event) (w v : World) → Counts w → ((a : ℕ) → w.present (w.node a) < a → w.outcome a ≡ Open) → ((q p : ℕ) → Fresh w q p) → Step e w v → (q p : ℕ) → Fresh v q p
fresh_step (Issue a b e) w v c u i s q p = by_issue a b e q p w v c (i q p) s
fresh_step (Issue_unmet a b e) w v c u i s q p = by_issue_unmet a b e q p w v c (i q p) s
fresh_step (Issue_local a b) w v c u i s q p = by_issue_local a b q p w v c (i q p) s
fresh_step (Meet a b) w v c u i s q p = by_meet a b q p w v c (i q p) s
fresh_step (Notice a b) w v c u i s q p = by_notice a b q p w v c (i q p) s
fresh_step (Engage a b) w v c u i s q p = by_engage a b q p w v c (i q p) s
fresh_step (Join a b) w v c u i s q p = by_join a b q p w v c (i q p) s
fresh_step (Cover a b) w v c u i s q p = by_cover a b q p w v c (i q p) s
fresh_step (Serve a b) w v c u i s q p = by_serve a b q p w v c (i q p) s
fresh_step (Serve_told a b) w v c u i s q p = by_serve_told a b q p w v c (i q p) s
fresh_step (Lend a b) w v c u i s q p = by_lend a b q p w v c (i q p) s
fresh_step (Yield a) w v c u i s q p = by_yield a q p w v c (i q p) s
fresh_step (Ask a) w v c u i s q p = by_ask a q p w v c (i q p) s
fresh_step (Vote_read a b) w v c u i s q p = by_vote_read a b q p w v c (i q p) s
fresh_step (Vote_volatile a b) w v c u i s q p = by_vote_volatile a b q p w v c (i q p) s
fresh_step (Force a b) w v c u i s q p = by_force a b q p w v c (i q p) s
fresh_step (Vote_recoverable a b) w v c u i s q p = by_vote_recoverable a b q p w v c (i q p) s
fresh_step (Vote_abort a b) w v c u i s q p = by_vote_abort a b q p w v c (i q p) s
fresh_step (Yes a) w v c u i s q p = by_yes a q p w v c (i q p) (no_home a w (i a a).told ((i a a).away s.1.engaged s.0)) ((i a a).known s.1.engaged s.0) (c.peer_node a (w.superior a)) s
fresh_step (Yes_lost a) w v c u i s q p = by_yes_lost a q p w v c (i q p) (no_home a w (i a a).told ((i a a).away s.1.engaged s.0)) ((i a a).known s.1.engaged s.0) (c.peer_node a (w.superior a)) s
fresh_step (Count a b) w v c u i s q p = by_count a b q p w v c (i q p) ((i b a).sets (w.closers_taken a b + 1)) (i a b).told s
fresh_step (Ignore a b) w v c u i s q p = by_ignore a b q p w v c (i q p) s
fresh_step (Refuse a) w v c u i s q p = by_refuse a q p w v c (i q p) s
fresh_step (Miss a) w v c u i s q p = by_miss a q p w v c (i q p) s
fresh_step (Forget a) w v c u i s q p = by_forget a q p w v c (i q p) s
fresh_step (Crash a) w v c u i s q p = by_crash a q p w v c (i q p) s
fresh_step (Restart a) w v c u i s q p = by_restart a q p w v c (i q p) s
fresh_step (Restart_in_doubt a b) w v c u i s q p = by_restart_in_doubt a b q p w v c (i q p) s
fresh_step (Restart_home a) w v c u i s q p = by_restart_home a q p w v c (u a) (i q p) s
fresh_step Commit w v c u i s q p = by_commit q p w v c (i q p) s
fresh_step Commit_cut w v c u i s q p = by_commit_cut q p w v c (i q p) s
fresh_step Commit_unlogged w v c u i s q p = by_commit_unlogged q p w v c (i q p) s
fresh_step Abort w v c u i s q p = by_abort q p w v c (i q p) s
fresh_step (Tell a b) w v c u i s q p = by_tell a b q p w v c (i q p) s
fresh_step (Learn a) w v c u i s q p = by_learn a q p w v c (i q p) s
fresh_step (Learn_cut a) w v c u i s q p = by_learn_cut a q p w v c (i q p) s
fresh_step (Learn_home a) w v c u i s q p = by_learn_home a q p w v c (i q p) s
fresh_step (Acknowledge a) w v c u i s q p = by_acknowledge a q p w v c (i q p) s
fresh_step (Take_told a b) w v c u i s q p = by_take_told a b q p w v c (i q p) s
fresh_step (End a) w v c u i s q p = by_end a q p w v c (i q p) s
fresh_step (Checkpoint a) w v c u i s q p = by_checkpoint a q p w v c (i q p) s
fresh_step (Tell_abort a b) w v c u i s q p = by_tell_abort a b q p w v c (i q p) s
fresh_step (Learn_abort a) w v c u i s q p = by_learn_abort a q p w v c (i q p) s
fresh_step (Name_again a) w v c u i s q p = by_name_again a q p w v c (i q p) s
fresh_step (Take_names a b e) w v c u i s q p = by_take_names a b e q p w v c (i q p) s
fresh_step (Learn_abort_home a b) w v c u i s q p = by_learn_abort_home a b q p w v c (i q p) s
fresh_step (Abort_logged a) w v c u i s q p = by_abort_logged a q p w v c (i q p) s
fresh_step (Drop_engage a b) w v c u i s q p = by_drop_engage a b q p w v c (i q p) s
fresh_step (Drop_join a b) w v c u i s q p = by_drop_join a b q p w v c (i q p) s
fresh_step (Drop_cover a b) w v c u i s q p = by_drop_cover a b q p w v c (i q p) s
fresh_step (Inquire a) w v c u i s q p = by_inquire a q p w v c (i q p) s
fresh_step (Inquire_lost a) w v c u i s q p = by_inquire_lost a q p w v c (i q p) s
fresh_step (Inquire_home a) w v c u i s q p = by_inquire_home a q p w v c (i q p) s
fresh_step (Answer_commit a b) w v c u i s q p = by_answer_commit a b q p w v c (i q p) s
fresh_step (Answer_running a) w v c u i s q p = by_answer_running a q p w v c (i q p) (asked a w v (i a w.home) s) s
fresh_step (Answer_abort a b) w v c u i s q p = by_answer_abort a b q p w v c (i q p) s

fresh_first : (o : Origin) → IsOrigin o → (q p : ℕ) → Fresh (first o) q p
fresh_first (Begun o) is q p = grind (arith, nat_tests)
fresh_first (Found o) is q p = grind (arith, nat_tests)

fresh_run : (es : List Event) (w v : World) → Inv w → ((q p : ℕ) → Fresh w q p) → Run w es v → (q p : ℕ) → Fresh v q p
fresh_run [] w v inv i r q p = subst (λ (x : World). Fresh x q p) (sym r) (i q p)
fresh_run (e ∷ es) w v inv i r q p = fresh_run es r.0 v (inv_step e w r.0 inv r.1) (fresh_step e w r.0 inv.counts (λ a. (inv.keeps a).unborn) i r.1) r.2 q p

pub fresh : (w : World) → IsLawful w → (q p : ℕ) → Fresh w q p
fresh w l q p = fresh_run l.reached.events (first l.reached.origin) w (inv_first l.reached.origin l.reached.begins) (fresh_first l.reached.origin l.reached.begins) l.reached.run q p
