-- Whoever is engaged took a request from the place that engaged it, after every run of the machine.
use Rattle.qs_world_refine.proofs.Words.{◌≡◌, ◌≢◌, ℕ, ◌≤◌, true, List, [], ◌∷◌, arith, sym, subst, nat_tests, Origin, Found, IsLawful, Issue, Issue_unmet, Issue_local, Join, Cover, Serve, Serve_told, Yield, Ask, Vote_read, Vote_volatile, Force, Vote_recoverable, Vote_abort, Yes, Yes_lost, Count, Ignore, Refuse, Miss, Forget, Crash, Restart, Restart_in_doubt, Restart_home, Commit, Commit_cut, Commit_unlogged, Abort, Tell, Learn, Learn_cut, Learn_home, Acknowledge, Take_told, End, Checkpoint}
use Rattle.qs_world_refine.proofs.Words.{Tell_abort, Learn_abort, Name_again, Take_names, Learn_abort_home, Abort_logged, Drop_engage, Drop_join, Drop_cover, Inquire, Inquire_lost, Inquire_home, Answer_commit, Answer_running, Answer_abort}
use Rattle.qs_world_agree.specs.World.{World}
use Rattle.qs_world_agree.specs.Origins.{Begun, first}
use Rattle.qs_world_agree.specs.Laws.{Run}
use Rattle.qs_world_agree.specs.Step.{Event, Step, Meet, Notice, Engage, Lend}

abbrev pub TookLast : World → ℕ → Type 0
TookLast w q = w.engaged q ≡ true → q ≢ w.home → 1 ≤ w.last q (w.engager q)

took_step : (e : Event) (w v : World) (q : ℕ) → TookLast w q → Step e w v → TookLast v q
took_step (Issue a b e) w v q i s = grind (arith, nat_tests, i, s)
took_step (Issue_unmet a b e) w v q i s = grind (arith, nat_tests, i, s)
took_step (Issue_local a b) w v q i s = grind (arith, nat_tests, i, s)
took_step (Meet a b) w v q i s = grind (arith, nat_tests, i, s)
took_step (Notice a b) w v q i s = grind (arith, nat_tests, i, s)
took_step (Engage a b) w v q i s = grind (arith, nat_tests, i, s)
took_step (Join a b) w v q i s = grind (arith, nat_tests, i, s)
took_step (Cover a b) w v q i s = grind (arith, nat_tests, i, s)
took_step (Serve a b) w v q i s = grind (arith, nat_tests, i, s)
took_step (Serve_told a b) w v q i s = grind (arith, nat_tests, i, s)
took_step (Lend a b) w v q i s = grind (arith, nat_tests, i, s)
took_step (Yield a) w v q i s = grind (arith, nat_tests, i, s)
took_step (Ask a) w v q i s = grind (arith, nat_tests, i, s)
took_step (Vote_read a b) w v q i s = grind (arith, nat_tests, i, s)
took_step (Vote_volatile a b) w v q i s = grind (arith, nat_tests, i, s)
took_step (Force a b) w v q i s = grind (arith, nat_tests, i, s)
took_step (Vote_recoverable a b) w v q i s = grind (arith, nat_tests, i, s)
took_step (Vote_abort a b) w v q i s = grind (arith, nat_tests, i, s)
took_step (Yes a) w v q i s = grind (arith, nat_tests, i, s)
took_step (Yes_lost a) w v q i s = grind (arith, nat_tests, i, s)
took_step (Count a b) w v q i s = grind (arith, nat_tests, i, s)
took_step (Ignore a b) w v q i s = grind (arith, nat_tests, i, s)
took_step (Refuse a) w v q i s = grind (arith, nat_tests, i, s)
took_step (Miss a) w v q i s = grind (arith, nat_tests, i, s)
took_step (Forget a) w v q i s = grind (arith, nat_tests, i, s)
took_step (Crash a) w v q i s = grind (arith, nat_tests, i, s)
took_step (Restart a) w v q i s = grind (arith, nat_tests, i, s)
took_step (Restart_in_doubt a b) w v q i s = grind (arith, nat_tests, i, s)
took_step (Restart_home a) w v q i s = grind (arith, nat_tests, i, s)
took_step Commit w v q i s = grind (arith, nat_tests, i, s)
took_step Commit_cut w v q i s = grind (arith, nat_tests, i, s)
took_step Commit_unlogged w v q i s = grind (arith, nat_tests, i, s)
took_step Abort w v q i s = grind (arith, nat_tests, i, s)
took_step (Tell a b) w v q i s = grind (arith, nat_tests, i, s)
took_step (Learn a) w v q i s = grind (arith, nat_tests, i, s)
took_step (Learn_cut a) w v q i s = grind (arith, nat_tests, i, s)
took_step (Learn_home a) w v q i s = grind (arith, nat_tests, i, s)
took_step (Acknowledge a) w v q i s = grind (arith, nat_tests, i, s)
took_step (Take_told a b) w v q i s = grind (arith, nat_tests, i, s)
took_step (End a) w v q i s = grind (arith, nat_tests, i, s)
took_step (Checkpoint a) w v q i s = grind (arith, nat_tests, i, s)
took_step (Tell_abort a b) w v q i s = grind (arith, nat_tests, i, s)
took_step (Learn_abort a) w v q i s = grind (arith, nat_tests, i, s)
took_step (Name_again a) w v q i s = grind (arith, nat_tests, i, s)
took_step (Take_names a b e) w v q i s = grind (arith, nat_tests, i, s)
took_step (Learn_abort_home a b) w v q i s = grind (arith, nat_tests, i, s)
took_step (Abort_logged a) w v q i s = grind (arith, nat_tests, i, s)
took_step (Drop_engage a b) w v q i s = grind (arith, nat_tests, i, s)
took_step (Drop_join a b) w v q i s = grind (arith, nat_tests, i, s)
took_step (Drop_cover a b) w v q i s = grind (arith, nat_tests, i, s)
took_step (Inquire a) w v q i s = grind (arith, nat_tests, i, s)
took_step (Inquire_lost a) w v q i s = grind (arith, nat_tests, i, s)
took_step (Inquire_home a) w v q i s = grind (arith, nat_tests, i, s)
took_step (Answer_commit a b) w v q i s = grind (arith, nat_tests, i, s)
took_step (Answer_running a) w v q i s = grind (arith, nat_tests, i, s)
took_step (Answer_abort a b) w v q i s = grind (arith, nat_tests, i, s)

took_first : (o : Origin) (q : ℕ) → TookLast (first o) q
took_first (Begun o) q = grind (arith, nat_tests)
took_first (Found o) q = grind (arith, nat_tests)

took_run : (es : List Event) (w v : World) (q : ℕ) → TookLast w q → Run w es v → TookLast v q
took_run [] w v q i r = subst (λ (x : World). TookLast x q) (sym r) i
took_run (e ∷ es) w v q i r = took_run es r.0 v q (took_step e w r.0 q i r.1) r.2

pub took_last : (w : World) → IsLawful w → (q : ℕ) → TookLast w q
took_last w l q = took_run l.reached.events (first l.reached.origin) w q (took_first l.reached.origin q) l.reached.run
