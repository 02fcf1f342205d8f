-- What is told and acknowledged stays so while the home's node runs in the same incarnation, whatever else happens.
use Rattle.qs_world_refine.proofs.Words.{◌≡◌, ℕ, ◌≤◌, true, List, [], ◌∷◌, arith, sym, subst, ap, ◌∙◌, nat_tests, Issue, Issue_unmet, Issue_local, Join, Cover, Serve, Serve_told, Yield, Ask, Vote_read, Vote_volatile, Force, Vote_recoverable, Vote_abort, Yes, Yes_lost, Count, Ignore, Refuse, Miss, Forget, Crash, Restart, Restart_in_doubt, Restart_home, Commit, Commit_cut, Commit_unlogged, Abort, Tell, Learn, Learn_cut, Learn_home, Acknowledge, Take_told, End, Checkpoint, Tell_abort, Learn_abort}
use Rattle.qs_world_refine.proofs.Words.{Name_again, Take_names, Learn_abort_home, Abort_logged, Drop_engage, Drop_join, Drop_cover, Inquire, Inquire_lost, Inquire_home, Answer_commit, Answer_running, Answer_abort}
use Rattle.std.proofs.Common.{le_refl}
use Rattle.qs_world_agree.specs.World.{World}
use Rattle.qs_world_agree.specs.Step.{Event, Step, Meet, Notice, Engage, Lend}
use Rattle.qs_world_agree.specs.Laws.{Run}
use Rattle.qs_world_refine.specs.OutcomeLaws.{AcksStay}
use Rattle.qs_base_lemmas.proofs.Tests.{le_le}

record Lasting (w v : World) (k m : ℕ) : Type 0 where
  home : v.node v.home ≡ w.node w.home
  later : w.present k ≤ v.present k  -- a node's incarnations only grow
  told : v.present (w.node w.home) ≡ w.present (w.node w.home) → w.acknowledged m ≡ true → v.acknowledged m ≡ true

lasts : (e : Event) (w v : World) (k m : ℕ) → Step e w v → Lasting w v k m
lasts (Issue a b e) w v k m s = record { home = grind (arith, s); later = grind (arith, s); told = grind (arith, s) }
lasts (Issue_unmet a b e) w v k m s = record { home = grind (arith, s); later = grind (arith, s); told = grind (arith, s) }
lasts (Issue_local a b) w v k m s = record { home = grind (arith, s); later = grind (arith, s); told = grind (arith, s) }
lasts (Meet a b) w v k m s = record { home = grind (arith, s); later = grind (arith, s); told = grind (arith, s) }
lasts (Notice a b) w v k m s = record { home = grind (arith, s); later = grind (arith, s); told = grind (arith, s) }
lasts (Engage a b) w v k m s = record { home = grind (arith, s); later = grind (arith, s); told = grind (arith, s) }
lasts (Join a b) w v k m s = record { home = grind (arith, s); later = grind (arith, s); told = grind (arith, s) }
lasts (Cover a b) w v k m s = record { home = grind (arith, s); later = grind (arith, s); told = grind (arith, s) }
lasts (Serve a b) w v k m s = record { home = grind (arith, s); later = grind (arith, s); told = grind (arith, s) }
lasts (Serve_told a b) w v k m s = record { home = grind (arith, s); later = grind (arith, s); told = grind (arith, s) }
lasts (Lend a b) w v k m s = record { home = grind (arith, s); later = grind (arith, s); told = grind (arith, s) }
lasts (Yield a) w v k m s = record { home = grind (arith, s); later = grind (arith, s); told = grind (arith, s) }
lasts (Ask a) w v k m s = record { home = grind (arith, s); later = grind (arith, s); told = grind (arith, s) }
lasts (Vote_read a b) w v k m s = record { home = grind (arith, s); later = grind (arith, s); told = grind (arith, s) }
lasts (Vote_volatile a b) w v k m s = record { home = grind (arith, s); later = grind (arith, s); told = grind (arith, s) }
lasts (Force a b) w v k m s = record { home = grind (arith, s); later = grind (arith, s); told = grind (arith, s) }
lasts (Vote_recoverable a b) w v k m s = record { home = grind (arith, s); later = grind (arith, s); told = grind (arith, s) }
lasts (Vote_abort a b) w v k m s = record { home = grind (arith, s); later = grind (arith, s); told = grind (arith, s) }
lasts (Yes a) w v k m s = record { home = grind (arith, s); later = grind (arith, s); told = grind (arith, s) }
lasts (Yes_lost a) w v k m s = record { home = grind (arith, s); later = grind (arith, s); told = grind (arith, s) }
lasts (Count a b) w v k m s = record { home = grind (arith, s); later = grind (arith, s); told = grind (arith, s) }
lasts (Ignore a b) w v k m s = record { home = grind (arith, s); later = grind (arith, s); told = grind (arith, s) }
lasts (Refuse a) w v k m s = record { home = grind (arith, s); later = grind (arith, s); told = grind (arith, s) }
lasts (Miss a) w v k m s = record { home = grind (arith, s); later = grind (arith, s); told = grind (arith, s) }
lasts (Forget a) w v k m s = record { home = grind (arith, s); later = grind (arith, s); told = grind (arith, s) }
lasts (Crash a) w v k m s = record { home = grind (arith, s); later = grind (arith, s); told = grind (arith, s) }
lasts (Restart a) w v k m s = record { home = grind (arith, s); later = grind (arith, nat_tests, s); told = grind (arith, nat_tests, s) }
lasts (Restart_in_doubt a b) w v k m s = record { home = grind (arith, s); later = grind (arith, nat_tests, s); told = grind (arith, nat_tests, s) }
lasts (Restart_home a) w v k m s = record { home = grind (arith, s); later = grind (arith, nat_tests, s); told = grind (arith, nat_tests, s) }
lasts Commit w v k m s = record { home = grind (arith, s); later = grind (arith, s); told = grind (arith, s) }
lasts Commit_cut w v k m s = record { home = grind (arith, s); later = grind (arith, s); told = grind (arith, s) }
lasts Commit_unlogged w v k m s = record { home = grind (arith, s); later = grind (arith, s); told = grind (arith, s) }
lasts Abort w v k m s = record { home = grind (arith, s); later = grind (arith, s); told = grind (arith, s) }
lasts (Tell a b) w v k m s = record { home = grind (arith, s); later = grind (arith, s); told = grind (arith, s) }
lasts (Learn a) w v k m s = record { home = grind (arith, s); later = grind (arith, s); told = grind (arith, s) }
lasts (Learn_cut a) w v k m s = record { home = grind (arith, s); later = grind (arith, s); told = grind (arith, s) }
lasts (Learn_home a) w v k m s = record { home = grind (arith, s); later = grind (arith, s); told = grind (arith, s) }
lasts (Acknowledge a) w v k m s = record { home = grind (arith, s); later = grind (arith, s); told = grind (arith, s) }
lasts (Take_told a b) w v k m s = record { home = grind (arith, s); later = grind (arith, s); told = grind (arith, nat_tests, s) }
lasts (End a) w v k m s = record { home = grind (arith, s); later = grind (arith, s); told = grind (arith, s) }
lasts (Checkpoint a) w v k m s = record { home = grind (arith, s); later = grind (arith, s); told = grind (arith, s) }
lasts (Tell_abort a b) w v k m s = record { home = grind (arith, s); later = grind (arith, s); told = grind (arith, s) }
lasts (Learn_abort a) w v k m s = record { home = grind (arith, s); later = grind (arith, s); told = grind (arith, s) }
lasts (Name_again a) w v k m s = record { home = grind (arith, s); later = grind (arith, s); told = grind (arith, s) }
lasts (Take_names a b e) w v k m s = record { home = grind (arith, s); later = grind (arith, s); told = grind (arith, s) }
lasts (Learn_abort_home a b) w v k m s = record { home = grind (arith, s); later = grind (arith, s); told = grind (arith, s) }
lasts (Abort_logged a) w v k m s = record { home = grind (arith, s); later = grind (arith, s); told = grind (arith, s) }
lasts (Drop_engage a b) w v k m s = record { home = grind (arith, s); later = grind (arith, s); told = grind (arith, s) }
lasts (Drop_join a b) w v k m s = record { home = grind (arith, s); later = grind (arith, s); told = grind (arith, s) }
lasts (Drop_cover a b) w v k m s = record { home = grind (arith, s); later = grind (arith, s); told = grind (arith, s) }
lasts (Inquire a) w v k m s = record { home = grind (arith, s); later = grind (arith, s); told = grind (arith, s) }
lasts (Inquire_lost a) w v k m s = record { home = grind (arith, s); later = grind (arith, s); told = grind (arith, s) }
lasts (Inquire_home a) w v k m s = record { home = grind (arith, s); later = grind (arith, s); told = grind (arith, s) }
lasts (Answer_commit a b) w v k m s = record { home = grind (arith, s); later = grind (arith, s); told = grind (arith, s) }
lasts (Answer_running a) w v k m s = record { home = grind (arith, s); later = grind (arith, s); told = grind (arith, s) }
lasts (Answer_abort a b) w v k m s = record { home = grind (arith, s); later = grind (arith, s); told = grind (arith, s) }

between : (a b c : ℕ) → a ≤ b → b ≤ c → c ≡ a → b ≡ a
between a b c low high same = omega (arith, low, high, same)

record Kept (w v : World) (m : ℕ) : Type 0 where
  home : v.node v.home ≡ w.node w.home
  later : (k : ℕ) → w.present k ≤ v.present k
  told : v.present (w.node w.home) ≡ w.present (w.node w.home) → w.acknowledged m ≡ true → v.acknowledged m ≡ true

-- over a run
kept : (events : List Event) (w v : World) (m : ℕ) → Run w events v → Kept w v m
kept [] w v m run = record { home = ap (λ (u : World). u.node u.home) run; later = λ k. subst (λ (u : World). w.present k ≤ u.present k) (sym run) (le_refl (w.present k)); told = λ _ has. subst (λ (u : World). u.acknowledged m ≡ true) (sym run) has }
kept (e ∷ events) w v m run =
    let first : (k : ℕ) → Lasting w run.0 k m = λ k. lasts e w run.0 k m run.1 in
    let rest : Kept run.0 v m = kept events run.0 v m run.2 in
    record {
      home = rest.home ∙ (first 0).home;
      later = λ k. le_le (w.present k) (run.0.present k) (v.present k) (first k).later (rest.later k);
      told = λ same has.
          let mid : run.0.present (w.node w.home) ≡ w.present (w.node w.home) = between (w.present (w.node w.home)) (run.0.present (w.node w.home)) (v.present (w.node w.home)) (first (w.node w.home)).later (rest.later (w.node w.home)) same in
          rest.told (ap v.present (first 0).home ∙ (same ∙ (sym mid ∙ ap run.0.present (sym (first 0).home)))) ((first 0).told mid has);
    }

pub acks_stay : AcksStay
acks_stay w v leads same m has = (kept leads.events w v m leads.run).told same has
