-- What a home's node knew of acknowledgements as its End was appended it knows while it runs.
use Rattle.qs_world_refine.proofs.Words.{◌≡◌, ℕ, ◌<◌, ◌≤◌, true, List, [], ◌∷◌, arith, sym, subst, nat_tests, Committed, Leads, IsLawful, Issue, Issue_unmet, Issue_local, Join, Cover, Serve, Serve_told, Yield, Ask, Vote_read, Vote_volatile, Force, Vote_recoverable, Vote_abort, Yes, Yes_lost, Count, Ignore, Refuse, Miss, Forget, Crash, Restart, Restart_in_doubt, Restart_home, Commit, Commit_cut, Commit_unlogged, Abort, Tell, Learn, Learn_cut, Learn_home, Acknowledge, Take_told, End, Checkpoint}
use Rattle.qs_world_refine.proofs.Words.{Tell_abort, Learn_abort, Name_again, Take_names, Learn_abort_home, Abort_logged, Drop_engage, Drop_join, Drop_cover, Inquire, Inquire_lost, Inquire_home, Answer_commit, Answer_running, Answer_abort, inv_step, Inv}
use Rattle.qs_world_agree.specs.World.{World}
use Rattle.qs_world_agree.specs.Laws.{Run}
use Rattle.qs_world_agree.specs.Step.{Event, Step, Meet, Notice, Engage, Lend}
use Rattle.qs_world_refine.proofs.Facts.{invariant}

-- place h of the home's node knows the commit, and while it runs node m has acknowledged it, if the Commit names that
pub record Acked (w : World) (h m : ℕ) : Type 0 where
  pub at_home : w.node h ≡ w.node w.home
  pub committed : w.outcome h ≡ Committed
  pub acked : w.up h ≡ true → w.commit_list m ≡ true → w.acknowledged m ≡ true

-- what of the invariant is read
record Held (w : World) (h : ℕ) : Type 0 where
  present : w.up h ≡ true → w.present (w.node h) ≡ h
  born : h ≤ w.present (w.node h)
  cell : w.cell ≡ Committed
  home : w.up w.home ≡ true → w.outcome w.home ≡ w.cell

acked_step : (e : Event) (w v : World) (h m : ℕ) → Held w h → Acked w h m → Step e w v → Acked v h m
acked_step (Issue a b e) w v h m x i s = grind (arith, nat_tests, x, i, s)
acked_step (Issue_unmet a b e) w v h m x i s = grind (arith, nat_tests, x, i, s)
acked_step (Issue_local a b) w v h m x i s = grind (arith, nat_tests, x, i, s)
acked_step (Meet a b) w v h m x i s = grind (arith, nat_tests, x, i, s)
acked_step (Notice a b) w v h m x i s = grind (arith, nat_tests, x, i, s)
acked_step (Engage a b) w v h m x i s = grind (arith, nat_tests, x, i, s)
acked_step (Join a b) w v h m x i s = grind (arith, nat_tests, x, i, s)
acked_step (Cover a b) w v h m x i s = grind (arith, nat_tests, x, i, s)
acked_step (Serve a b) w v h m x i s = grind (arith, nat_tests, x, i, s)
acked_step (Serve_told a b) w v h m x i s = grind (arith, nat_tests, x, i, s)
acked_step (Lend a b) w v h m x i s = grind (arith, nat_tests, x, i, s)
acked_step (Yield a) w v h m x i s = grind (arith, nat_tests, x, i, s)
acked_step (Ask a) w v h m x i s = grind (arith, nat_tests, x, i, s)
acked_step (Vote_read a b) w v h m x i s = grind (arith, nat_tests, x, i, s)
acked_step (Vote_volatile a b) w v h m x i s = grind (arith, nat_tests, x, i, s)
acked_step (Force a b) w v h m x i s = grind (arith, nat_tests, x, i, s)
acked_step (Vote_recoverable a b) w v h m x i s = grind (arith, nat_tests, x, i, s)
acked_step (Vote_abort a b) w v h m x i s = grind (arith, nat_tests, x, i, s)
acked_step (Yes a) w v h m x i s = grind (arith, nat_tests, x, i, s)
acked_step (Yes_lost a) w v h m x i s = grind (arith, nat_tests, x, i, s)
acked_step (Count a b) w v h m x i s = grind (arith, nat_tests, x, i, s)
acked_step (Ignore a b) w v h m x i s = grind (arith, nat_tests, x, i, s)
acked_step (Refuse a) w v h m x i s = grind (arith, nat_tests, x, i, s)
acked_step (Miss a) w v h m x i s = grind (arith, nat_tests, x, i, s)
acked_step (Forget a) w v h m x i s = grind (arith, nat_tests, x, i, s)
acked_step (Crash a) w v h m x i s = grind (arith, nat_tests, x, i, s)
acked_step (Restart a) w v h m x i s = grind (arith, nat_tests, x, i, s)
acked_step (Restart_in_doubt a b) w v h m x i s = grind (arith, nat_tests, x, i, s)
acked_step (Restart_home a) w v h m x i s = grind (arith, nat_tests, x, i, s)
acked_step Commit w v h m x i s = grind (arith, nat_tests, x, i, s)
acked_step Commit_cut w v h m x i s = grind (arith, nat_tests, x, i, s)
acked_step Commit_unlogged w v h m x i s = grind (arith, nat_tests, x, i, s)
acked_step Abort w v h m x i s = grind (arith, nat_tests, x, i, s)
acked_step (Tell a b) w v h m x i s = grind (arith, nat_tests, x, i, s)
acked_step (Learn a) w v h m x i s = grind (arith, nat_tests, x, i, s)
acked_step (Learn_cut a) w v h m x i s = grind (arith, nat_tests, x, i, s)
acked_step (Learn_home a) w v h m x i s = grind (arith, nat_tests, x, i, s)
acked_step (Acknowledge a) w v h m x i s = grind (arith, nat_tests, x, i, s)
acked_step (Take_told a b) w v h m x i s = grind (arith, nat_tests, x, i, s)
acked_step (End a) w v h m x i s = grind (arith, nat_tests, x, i, s)
acked_step (Checkpoint a) w v h m x i s = grind (arith, nat_tests, x, i, s)
acked_step (Tell_abort a b) w v h m x i s = grind (arith, nat_tests, x, i, s)
acked_step (Learn_abort a) w v h m x i s = grind (arith, nat_tests, x, i, s)
acked_step (Name_again a) w v h m x i s = grind (arith, nat_tests, x, i, s)
acked_step (Take_names a b e) w v h m x i s = grind (arith, nat_tests, x, i, s)
acked_step (Learn_abort_home a b) w v h m x i s = grind (arith, nat_tests, x, i, s)
acked_step (Abort_logged a) w v h m x i s = grind (arith, nat_tests, x, i, s)
acked_step (Drop_engage a b) w v h m x i s = grind (arith, nat_tests, x, i, s)
acked_step (Drop_join a b) w v h m x i s = grind (arith, nat_tests, x, i, s)
acked_step (Drop_cover a b) w v h m x i s = grind (arith, nat_tests, x, i, s)
acked_step (Inquire a) w v h m x i s = grind (arith, nat_tests, x, i, s)
acked_step (Inquire_lost a) w v h m x i s = grind (arith, nat_tests, x, i, s)
acked_step (Inquire_home a) w v h m x i s = grind (arith, nat_tests, x, i, s)
acked_step (Answer_commit a b) w v h m x i s = grind (arith, nat_tests, x, i, s)
acked_step (Answer_running a) w v h m x i s = grind (arith, nat_tests, x, i, s)
acked_step (Answer_abort a b) w v h m x i s = grind (arith, nat_tests, x, i, s)

held : (w : World) (h m : ℕ) → Inv w → Acked w h m → Held w h
held w h m inv i = record {
  present = inv.counts.up_present h;
  born = not_later (w.present (w.node h)) (λ late. let unknown = (inv.keeps h).unborn late in let known = i.committed in cc (unknown, known));
  cell = inv.outcomes.knows h i.committed;
  home = (inv.keeps h).home_keeps;
}
  where
    not_later : (a : ℕ) → (a < h → ⊥) → h ≤ a
    not_later a never = omega (arith, never)

acked_run : (es : List Event) (w v : World) (h m : ℕ) → Inv w → Acked w h m → Run w es v → Acked v h m
acked_run [] w v h m inv i r = subst (λ (x : World). Acked x h m) (sym r) i
acked_run (e ∷ es) w v h m inv i r = acked_run es r.0 v h m (inv_step e w r.0 inv r.1) (acked_step e w r.0 h m (held w h m inv i) i r.1) r.2

pub acked_on : (w v : World) (h m : ℕ) → IsLawful w → Leads w v → Acked w h m → Acked v h m
acked_on w v h m lawful leads i = acked_run leads.events w v h m (invariant w lawful) i leads.run
