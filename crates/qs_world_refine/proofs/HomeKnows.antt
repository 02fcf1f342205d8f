-- A place of the home's node that knows the commit keeps to it.
use Rattle.qs_world_refine.proofs.Words.{◌≡◌, ℕ, ◌<◌, ◌≤◌, true, List, [], ◌∷◌, arith, sym, subst, nat_tests, Committed, Leads, IsLawful, Issue, Issue_unmet, Issue_local, Join, Cover, Serve, Serve_told, Yield, Ask, Vote_read, Vote_volatile, Force, Vote_recoverable, Vote_abort, Yes, Yes_lost, Count, Ignore, Refuse, Miss, Forget, Crash, Restart, Restart_in_doubt, Restart_home, Commit, Commit_cut, Commit_unlogged, Abort, Tell, Learn, Learn_cut, Learn_home, Acknowledge, Take_told, End, Checkpoint}
use Rattle.qs_world_refine.proofs.Words.{Tell_abort, Learn_abort, Name_again, Take_names, Learn_abort_home, Abort_logged, Drop_engage, Drop_join, Drop_cover, Inquire, Inquire_lost, Inquire_home, Answer_commit, Answer_running, Answer_abort, inv_step, Inv}
use Rattle.qs_world_agree.specs.World.{World}
use Rattle.qs_world_agree.specs.Laws.{Run}
use Rattle.qs_world_agree.specs.Step.{Event, Step, Meet, Notice, Engage, Lend}
use Rattle.qs_world_refine.proofs.Facts.{invariant}

-- place h of the home's node knows the commit
pub record KnowsIt (w : World) (h : ℕ) : Type 0 where
  pub at_home : w.node h ≡ w.node w.home
  pub committed : w.outcome h ≡ Committed

-- what of the invariant is read
record Held (w : World) (h : ℕ) : Type 0 where
  present : w.up h ≡ true → w.present (w.node h) ≡ h
  born : h ≤ w.present (w.node h)
  cell : w.cell ≡ Committed
  home : w.up w.home ≡ true → w.outcome w.home ≡ w.cell

knows_step : (e : Event) (w v : World) (h : ℕ) → Held w h → KnowsIt w h → Step e w v → KnowsIt v h
knows_step (Issue a b e) w v h x i s = grind (arith, nat_tests, x, i, s)
knows_step (Issue_unmet a b e) w v h x i s = grind (arith, nat_tests, x, i, s)
knows_step (Issue_local a b) w v h x i s = grind (arith, nat_tests, x, i, s)
knows_step (Meet a b) w v h x i s = grind (arith, nat_tests, x, i, s)
knows_step (Notice a b) w v h x i s = grind (arith, nat_tests, x, i, s)
knows_step (Engage a b) w v h x i s = grind (arith, nat_tests, x, i, s)
knows_step (Join a b) w v h x i s = grind (arith, nat_tests, x, i, s)
knows_step (Cover a b) w v h x i s = grind (arith, nat_tests, x, i, s)
knows_step (Serve a b) w v h x i s = grind (arith, nat_tests, x, i, s)
knows_step (Serve_told a b) w v h x i s = grind (arith, nat_tests, x, i, s)
knows_step (Lend a b) w v h x i s = grind (arith, nat_tests, x, i, s)
knows_step (Yield a) w v h x i s = grind (arith, nat_tests, x, i, s)
knows_step (Ask a) w v h x i s = grind (arith, nat_tests, x, i, s)
knows_step (Vote_read a b) w v h x i s = grind (arith, nat_tests, x, i, s)
knows_step (Vote_volatile a b) w v h x i s = grind (arith, nat_tests, x, i, s)
knows_step (Force a b) w v h x i s = grind (arith, nat_tests, x, i, s)
knows_step (Vote_recoverable a b) w v h x i s = grind (arith, nat_tests, x, i, s)
knows_step (Vote_abort a b) w v h x i s = grind (arith, nat_tests, x, i, s)
knows_step (Yes a) w v h x i s = grind (arith, nat_tests, x, i, s)
knows_step (Yes_lost a) w v h x i s = grind (arith, nat_tests, x, i, s)
knows_step (Count a b) w v h x i s = grind (arith, nat_tests, x, i, s)
knows_step (Ignore a b) w v h x i s = grind (arith, nat_tests, x, i, s)
knows_step (Refuse a) w v h x i s = grind (arith, nat_tests, x, i, s)
knows_step (Miss a) w v h x i s = grind (arith, nat_tests, x, i, s)
knows_step (Forget a) w v h x i s = grind (arith, nat_tests, x, i, s)
knows_step (Crash a) w v h x i s = grind (arith, nat_tests, x, i, s)
knows_step (Restart a) w v h x i s = grind (arith, nat_tests, x, i, s)
knows_step (Restart_in_doubt a b) w v h x i s = grind (arith, nat_tests, x, i, s)
knows_step (Restart_home a) w v h x i s = grind (arith, nat_tests, x, i, s)
knows_step Commit w v h x i s = grind (arith, nat_tests, x, i, s)
knows_step Commit_cut w v h x i s = grind (arith, nat_tests, x, i, s)
knows_step Commit_unlogged w v h x i s = grind (arith, nat_tests, x, i, s)
knows_step Abort w v h x i s = grind (arith, nat_tests, x, i, s)
knows_step (Tell a b) w v h x i s = grind (arith, nat_tests, x, i, s)
knows_step (Learn a) w v h x i s = grind (arith, nat_tests, x, i, s)
knows_step (Learn_cut a) w v h x i s = grind (arith, nat_tests, x, i, s)
knows_step (Learn_home a) w v h x i s = grind (arith, nat_tests, x, i, s)
knows_step (Acknowledge a) w v h x i s = grind (arith, nat_tests, x, i, s)
knows_step (Take_told a b) w v h x i s = grind (arith, nat_tests, x, i, s)
knows_step (End a) w v h x i s = grind (arith, nat_tests, x, i, s)
knows_step (Checkpoint a) w v h x i s = grind (arith, nat_tests, x, i, s)
knows_step (Tell_abort a b) w v h x i s = grind (arith, nat_tests, x, i, s)
knows_step (Learn_abort a) w v h x i s = grind (arith, nat_tests, x, i, s)
knows_step (Name_again a) w v h x i s = grind (arith, nat_tests, x, i, s)
knows_step (Take_names a b e) w v h x i s = grind (arith, nat_tests, x, i, s)
knows_step (Learn_abort_home a b) w v h x i s = grind (arith, nat_tests, x, i, s)
knows_step (Abort_logged a) w v h x i s = grind (arith, nat_tests, x, i, s)
knows_step (Drop_engage a b) w v h x i s = grind (arith, nat_tests, x, i, s)
knows_step (Drop_join a b) w v h x i s = grind (arith, nat_tests, x, i, s)
knows_step (Drop_cover a b) w v h x i s = grind (arith, nat_tests, x, i, s)
knows_step (Inquire a) w v h x i s = grind (arith, nat_tests, x, i, s)
knows_step (Inquire_lost a) w v h x i s = grind (arith, nat_tests, x, i, s)
knows_step (Inquire_home a) w v h x i s = grind (arith, nat_tests, x, i, s)
knows_step (Answer_commit a b) w v h x i s = grind (arith, nat_tests, x, i, s)
knows_step (Answer_running a) w v h x i s = grind (arith, nat_tests, x, i, s)
knows_step (Answer_abort a b) w v h x i s = grind (arith, nat_tests, x, i, s)

held : (w : World) (h : ℕ) → Inv w → KnowsIt w h → Held w h
held w h inv i = record {
  present = inv.counts.up_present h;
  born = not_later (w.present (w.node h)) (λ late. let unknown = (inv.keeps h).unborn late in let known = i.committed in cc (unknown, known));
  cell = inv.outcomes.knows h i.committed;
  home = (inv.keeps h).home_keeps;
}
  where
    not_later : (a : ℕ) → (a < h → ⊥) → h ≤ a
    not_later a never = omega (arith, never)

knows_run : (es : List Event) (w v : World) (h : ℕ) → Inv w → KnowsIt w h → Run w es v → KnowsIt v h
knows_run [] w v h inv i r = subst (λ (x : World). KnowsIt x h) (sym r) i
knows_run (e ∷ es) w v h inv i r = knows_run es r.0 v h (inv_step e w r.0 inv r.1) (knows_step e w r.0 h (held w h inv i) i r.1) r.2

pub knows_on : (w v : World) (h : ℕ) → IsLawful w → Leads w v → KnowsIt w h → KnowsIt v h
knows_on w v h lawful leads i = knows_run leads.events w v h (invariant w lawful) i leads.run
