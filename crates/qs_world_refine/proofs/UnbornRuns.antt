-- A place that no restart has taken yet holds nothing, after every run of the machine.
use Rattle.qs_world_refine.proofs.Words.{ℕ, List, [], ◌∷◌, arith, sym, subst, nat_tests, Origin, Found, IsLawful, Inv, inv_step, inv_first, Issue, Issue_unmet, Issue_local, Join, Cover, Serve, Serve_told, Yield, Ask, Vote_read, Vote_volatile, Force, Vote_recoverable, Vote_abort, Yes, Yes_lost, Count, Ignore, Refuse, Miss, Forget, Crash, Restart, Restart_in_doubt, Restart_home, Commit, Commit_cut, Commit_unlogged, Abort, Tell, Learn, Learn_cut, Learn_home, Acknowledge, Take_told, End, Checkpoint}
use Rattle.qs_world_refine.proofs.Words.{Tell_abort, Learn_abort, Name_again, Take_names, Learn_abort_home, Abort_logged, Drop_engage, Drop_join, Drop_cover, Inquire, Inquire_lost, Inquire_home, Answer_commit, Answer_running, Answer_abort, Counts}
use Rattle.qs_world_agree.specs.World.{World}
use Rattle.qs_world_agree.specs.Origins.{Begun, IsOrigin, first}
use Rattle.qs_world_agree.specs.Laws.{Run}
use Rattle.qs_world_agree.specs.Step.{Event, Step, Meet, Notice, Engage, Lend}
use Rattle.qs_world_refine.proofs.Unborn.{Unborn, by_issue, by_issue_unmet, by_issue_local, by_meet, by_notice, by_engage, by_join, by_cover, by_serve, by_serve_told, by_lend, by_yield, by_ask, by_vote_read, by_vote_volatile, by_force, by_vote_recoverable, by_vote_abort, by_yes, by_yes_lost, by_count, by_ignore, by_refuse, by_miss, by_forget, by_crash, by_restart, by_restart_in_doubt, by_restart_home, by_commit, by_commit_cut, by_commit_unlogged, by_abort, by_tell, by_learn, by_learn_cut, by_learn_home, by_acknowledge, by_take_told, by_end, by_checkpoint, by_tell_abort, by_learn_abort, by_name_again, by_take_names, by_learn_abort_home, by_abort_logged, by_drop_engage, by_drop_join, by_drop_cover, by_inquire, by_inquire_lost, by_inquire_home, by_answer_commit, by_answer_running, by_answer_abort}

unborn_step : (e : Event) (w v : World) → Counts w → ((q : ℕ) → Unborn w q) → Step e w v → (q : ℕ) → Unborn v q
unborn_step (Issue a b e) w v c i s q = by_issue a b e q w v c (i q) s
unborn_step (Issue_unmet a b e) w v c i s q = by_issue_unmet a b e q w v c (i q) s
unborn_step (Issue_local a b) w v c i s q = by_issue_local a b q w v c (i q) s
unborn_step (Meet a b) w v c i s q = by_meet a b q w v c (i q) s
unborn_step (Notice a b) w v c i s q = by_notice a b q w v c (i q) s
unborn_step (Engage a b) w v c i s q = by_engage a b q w v c (i q) s
unborn_step (Join a b) w v c i s q = by_join a b q w v c (i q) s
unborn_step (Cover a b) w v c i s q = by_cover a b q w v c (i q) s
unborn_step (Serve a b) w v c i s q = by_serve a b q w v c (i q) s
unborn_step (Serve_told a b) w v c i s q = by_serve_told a b q w v c (i q) s
unborn_step (Lend a b) w v c i s q = by_lend a b q w v c (i q) s
unborn_step (Yield a) w v c i s q = by_yield a q w v c (i q) s
unborn_step (Ask a) w v c i s q = by_ask a q w v c (i q) s
unborn_step (Vote_read a b) w v c i s q = by_vote_read a b q w v c (i q) s
unborn_step (Vote_volatile a b) w v c i s q = by_vote_volatile a b q w v c (i q) s
unborn_step (Force a b) w v c i s q = by_force a b q w v c (i q) s
unborn_step (Vote_recoverable a b) w v c i s q = by_vote_recoverable a b q w v c (i q) s
unborn_step (Vote_abort a b) w v c i s q = by_vote_abort a b q w v c (i q) s
unborn_step (Yes a) w v c i s q = by_yes a q w v c (i q) s
unborn_step (Yes_lost a) w v c i s q = by_yes_lost a q w v c (i q) s
unborn_step (Count a b) w v c i s q = by_count a b q w v c (i q) s
unborn_step (Ignore a b) w v c i s q = by_ignore a b q w v c (i q) s
unborn_step (Refuse a) w v c i s q = by_refuse a q w v c (i q) s
unborn_step (Miss a) w v c i s q = by_miss a q w v c (i q) s
unborn_step (Forget a) w v c i s q = by_forget a q w v c (i q) s
unborn_step (Crash a) w v c i s q = by_crash a q w v c (i q) s
unborn_step (Restart a) w v c i s q = by_restart a q w v c (i q) s
unborn_step (Restart_in_doubt a b) w v c i s q = by_restart_in_doubt a b q w v c (i q) s
unborn_step (Restart_home a) w v c i s q = by_restart_home a q w v c (i q) s
unborn_step Commit w v c i s q = by_commit q w v c (i q) s
unborn_step Commit_cut w v c i s q = by_commit_cut q w v c (i q) s
unborn_step Commit_unlogged w v c i s q = by_commit_unlogged q w v c (i q) s
unborn_step Abort w v c i s q = by_abort q w v c (i q) s
unborn_step (Tell a b) w v c i s q = by_tell a b q w v c (i q) s
unborn_step (Learn a) w v c i s q = by_learn a q w v c (i q) s
unborn_step (Learn_cut a) w v c i s q = by_learn_cut a q w v c (i q) s
unborn_step (Learn_home a) w v c i s q = by_learn_home a q w v c (i q) s
unborn_step (Acknowledge a) w v c i s q = by_acknowledge a q w v c (i q) s
unborn_step (Take_told a b) w v c i s q = by_take_told a b q w v c (i q) s
unborn_step (End a) w v c i s q = by_end a q w v c (i q) s
unborn_step (Checkpoint a) w v c i s q = by_checkpoint a q w v c (i q) s
unborn_step (Tell_abort a b) w v c i s q = by_tell_abort a b q w v c (i q) s
unborn_step (Learn_abort a) w v c i s q = by_learn_abort a q w v c (i q) s
unborn_step (Name_again a) w v c i s q = by_name_again a q w v c (i q) s
unborn_step (Take_names a b e) w v c i s q = by_take_names a b e q w v c (i q) s
unborn_step (Learn_abort_home a b) w v c i s q = by_learn_abort_home a b q w v c (i q) s
unborn_step (Abort_logged a) w v c i s q = by_abort_logged a q w v c (i q) s
unborn_step (Drop_engage a b) w v c i s q = by_drop_engage a b q w v c (i q) s
unborn_step (Drop_join a b) w v c i s q = by_drop_join a b q w v c (i q) s
unborn_step (Drop_cover a b) w v c i s q = by_drop_cover a b q w v c (i q) s
unborn_step (Inquire a) w v c i s q = by_inquire a q w v c (i q) s
unborn_step (Inquire_lost a) w v c i s q = by_inquire_lost a q w v c (i q) s
unborn_step (Inquire_home a) w v c i s q = by_inquire_home a q w v c (i q) s
unborn_step (Answer_commit a b) w v c i s q = by_answer_commit a b q w v c (i q) s
unborn_step (Answer_running a) w v c i s q = by_answer_running a q w v c (i q) s
unborn_step (Answer_abort a b) w v c i s q = by_answer_abort a b q w v c (i q) s

unborn_first : (o : Origin) → IsOrigin o → (q : ℕ) → Unborn (first o) q
unborn_first (Begun o) is q late = grind (arith, nat_tests, late, is.up_present o.home is.home_up)
unborn_first (Found o) is q late = grind (arith, nat_tests, late, is.up_present q)

unborn_run : (es : List Event) (w v : World) → Inv w → ((q : ℕ) → Unborn w q) → Run w es v → (q : ℕ) → Unborn v q
unborn_run [] w v inv i r q = subst (λ (x : World). Unborn x q) (sym r) (i q)
unborn_run (e ∷ es) w v inv i r q = unborn_run es r.0 v (inv_step e w r.0 inv r.1) (unborn_step e w r.0 inv.counts i r.1) r.2 q

pub unborn : (w : World) → IsLawful w → (q : ℕ) → Unborn w q
unborn w l q = unborn_run l.reached.events (first l.reached.origin) w (inv_first l.reached.origin l.reached.begins) (unborn_first l.reached.origin l.reached.begins) l.reached.run q
