-- A place that has not begun yet knows nobody, and 0 is no place, after every run of the machine.
use Rattle.qs_world_refine.proofs.Words.{List, [], ◌∷◌, arith, sym, subst, nat_tests, Issue, Issue_unmet, Issue_local, Join, Cover, Serve, Serve_told, Yield, Ask, Vote_read, Vote_volatile, Force, Vote_recoverable, Vote_abort, Yes, Yes_lost, Count, Ignore, Refuse, Miss, Forget, Crash, Restart, Restart_in_doubt, Restart_home, Commit, Commit_cut, Commit_unlogged, Abort, Tell, Learn, Learn_cut, Learn_home, Acknowledge, Take_told, End, Checkpoint, Tell_abort, Learn_abort, Name_again, Take_names}
use Rattle.qs_world_refine.proofs.Words.{Learn_abort_home, Abort_logged, Drop_engage, Drop_join, Drop_cover, Inquire, Inquire_lost, Inquire_home, Answer_commit, Answer_running, Answer_abort, Counts, inv_step, Inv, ArePlaced}
use Rattle.qs_world_agree.specs.World.{World}
use Rattle.qs_world_agree.specs.Laws.{Run}
use Rattle.qs_world_agree.specs.Step.{Event, Step, Meet, Notice, Engage, Lend}
use Rattle.qs_world_refine.specs.RiseLaws.{StaysPlaced}
use Rattle.qs_world_refine.proofs.Facts.{invariant}

placed_step : (e : Event) (w v : World) → Counts w → ArePlaced w → Step e w v → ArePlaced v
placed_step (Issue a b e) w v c i s q m = grind (arith, nat_tests, i q m, s)
placed_step (Issue_unmet a b e) w v c i s q m = grind (arith, nat_tests, i q m, s)
placed_step (Issue_local a b) w v c i s q m = grind (arith, nat_tests, i q m, s)
placed_step (Meet a b) w v c i s q m = grind (arith, nat_tests, i q m, c.up_present a, s)
placed_step (Notice a b) w v c i s q m = grind (arith, nat_tests, i q m, c.up_present a, s)
placed_step (Engage a b) w v c i s q m = grind (arith, nat_tests, i q m, i a m, s)
placed_step (Join a b) w v c i s q m = grind (arith, nat_tests, i q m, s)
placed_step (Cover a b) w v c i s q m = grind (arith, nat_tests, i q m, s)
placed_step (Serve a b) w v c i s q m = grind (arith, nat_tests, i q m, s)
placed_step (Serve_told a b) w v c i s q m = grind (arith, nat_tests, i q m, s)
placed_step (Lend a b) w v c i s q m = grind (arith, nat_tests, i q m, s)
placed_step (Yield a) w v c i s q m = grind (arith, nat_tests, i q m, s)
placed_step (Ask a) w v c i s q m = grind (arith, nat_tests, i q m, s)
placed_step (Vote_read a b) w v c i s q m = grind (arith, nat_tests, i q m, s)
placed_step (Vote_volatile a b) w v c i s q m = grind (arith, nat_tests, i q m, s)
placed_step (Force a b) w v c i s q m = grind (arith, nat_tests, i q m, s)
placed_step (Vote_recoverable a b) w v c i s q m = grind (arith, nat_tests, i q m, s)
placed_step (Vote_abort a b) w v c i s q m = grind (arith, nat_tests, i q m, s)
placed_step (Yes a) w v c i s q m = grind (arith, nat_tests, i q m, s)
placed_step (Yes_lost a) w v c i s q m = grind (arith, nat_tests, i q m, s)
placed_step (Count a b) w v c i s q m = grind (arith, nat_tests, i q m, s)
placed_step (Ignore a b) w v c i s q m = grind (arith, nat_tests, i q m, s)
placed_step (Refuse a) w v c i s q m = grind (arith, nat_tests, i q m, s)
placed_step (Miss a) w v c i s q m = grind (arith, nat_tests, i q m, s)
placed_step (Forget a) w v c i s q m = grind (arith, nat_tests, i q m, s)
placed_step (Crash a) w v c i s q m = grind (arith, nat_tests, i q m, s)
placed_step (Restart a) w v c i s q m = grind (arith, nat_tests, i q m, s)
placed_step (Restart_in_doubt a b) w v c i s q m = grind (arith, nat_tests, i q m, s)
placed_step (Restart_home a) w v c i s q m = grind (arith, nat_tests, i q m, s)
placed_step Commit w v c i s q m = grind (arith, nat_tests, i q m, s)
placed_step Commit_cut w v c i s q m = grind (arith, nat_tests, i q m, s)
placed_step Commit_unlogged w v c i s q m = grind (arith, nat_tests, i q m, s)
placed_step Abort w v c i s q m = grind (arith, nat_tests, i q m, s)
placed_step (Tell a b) w v c i s q m = grind (arith, nat_tests, i q m, s)
placed_step (Learn a) w v c i s q m = grind (arith, nat_tests, i q m, s)
placed_step (Learn_cut a) w v c i s q m = grind (arith, nat_tests, i q m, s)
placed_step (Learn_home a) w v c i s q m = grind (arith, nat_tests, i q m, s)
placed_step (Acknowledge a) w v c i s q m = grind (arith, nat_tests, i q m, s)
placed_step (Take_told a b) w v c i s q m = grind (arith, nat_tests, i q m, s)
placed_step (End a) w v c i s q m = grind (arith, nat_tests, i q m, s)
placed_step (Checkpoint a) w v c i s q m = grind (arith, nat_tests, i q m, s)
placed_step (Tell_abort a b) w v c i s q m = grind (arith, nat_tests, i q m, s)
placed_step (Learn_abort a) w v c i s q m = grind (arith, nat_tests, i q m, s)
placed_step (Name_again a) w v c i s q m = grind (arith, nat_tests, i q m, s)
placed_step (Take_names a b e) w v c i s q m = grind (arith, nat_tests, i q m, s)
placed_step (Learn_abort_home a b) w v c i s q m = grind (arith, nat_tests, i q m, s)
placed_step (Abort_logged a) w v c i s q m = grind (arith, nat_tests, i q m, s)
placed_step (Drop_engage a b) w v c i s q m = grind (arith, nat_tests, i q m, i a m, s)
placed_step (Drop_join a b) w v c i s q m = grind (arith, nat_tests, i q m, s)
placed_step (Drop_cover a b) w v c i s q m = grind (arith, nat_tests, i q m, s)
placed_step (Inquire a) w v c i s q m = grind (arith, nat_tests, i q m, s)
placed_step (Inquire_lost a) w v c i s q m = grind (arith, nat_tests, i q m, s)
placed_step (Inquire_home a) w v c i s q m = grind (arith, nat_tests, i q m, s)
placed_step (Answer_commit a b) w v c i s q m = grind (arith, nat_tests, i q m, s)
placed_step (Answer_running a) w v c i s q m = grind (arith, nat_tests, i q m, s)
placed_step (Answer_abort a b) w v c i s q m = grind (arith, nat_tests, i q m, s)

placed_run : (es : List Event) (w v : World) → Inv w → ArePlaced w → Run w es v → ArePlaced v
placed_run [] w v inv i r = subst (λ (x : World). ArePlaced x) (sym r) i
placed_run (e ∷ es) w v inv i r = placed_run es r.0 v (inv_step e w r.0 inv r.1) (placed_step e w r.0 inv.counts i r.1) r.2

pub placed_stay : StaysPlaced
placed_stay w v lawful i leads = placed_run leads.events w v (invariant w lawful) i leads.run
