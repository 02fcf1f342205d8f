-- While nothing is aborted, no event of the abort side happens.
use Rattle.std.proofs.Common.{◌≡◌, ◌≢◌, ℕ, ◌<◌, ◌≤◌, true, false, refl, subst, arith}
use Rattle.qs_world_agree.specs.World.{Open, Committed, Aborted, World}
use Rattle.qs_world_agree.specs.Guards.{Drops, TellsAbort}
use Rattle.qs_world_agree.specs.Step.{Abort, Tell_abort, Learn_abort, Name_again, Take_names, Learn_abort_home, Abort_logged, Drop_engage, Drop_join, Drop_cover, Inquire_home, Answer_abort, Step}
use Rattle.qs_world_agree.proofs.Counts.{Counts}
use Rattle.qs_world_agree.proofs.Places.{Places}
use Rattle.qs_world_agree.proofs.Tree.{Tree, sender_engaged}
use Rattle.qs_world_agree.proofs.Silent.{Silent}
use Rattle.qs_world_agree.proofs.Asks.{Asks}

pub never_abort : (w v : World) → v.cell ≢ Aborted → Step Abort w v → ⊥
never_abort w v a s = a (rw s.2 refl)

-- nobody tells what nobody knows
pub never_tell_abort : (p q : ℕ) (w v : World) → Silent w → Step (Tell_abort p q) w v → ⊥
never_tell_abort p q w v m s = m.unknown p s.2

pub never_learn_abort : (p : ℕ) (w v : World) → Silent w → Step (Learn_abort p) w v → ⊥
never_learn_abort p w v m s = let off = m.tells (w.node p) in cc (off, s.0.0)

pub never_name_again : (p : ℕ) (w v : World) → Silent w → Step (Name_again p) w v → ⊥
never_name_again p w v m s = m.unknown p s.2

pub never_take_names : (p q r : ℕ) (w v : World) → Silent w → Step (Take_names p q r) w v → ⊥
never_take_names p q r w v m s = let off = m.names q r in cc (off, s.1)

pub never_abort_logged : (p : ℕ) (w v : World) → Silent w → Step (Abort_logged p) w v → ⊥
never_abort_logged p w v m s = m.unknown p s.1

-- a later place of the home's node runs after a commit alone, and then its Prepares are decided
pub restarted_commit : (w : World) (p : ℕ) → Counts w → Tree w → w.cell ≢ Aborted → w.up p ≡ true → w.node p ≡ w.node w.home → p ≢ w.home → w.cell ≡ Committed
restarted_commit w p c t b up same later = late w p (t.home.home_present) (c.up_present p up) b same later
  where
    late : (w : World) (p : ℕ) → (w.cell ≡ Open → w.present (w.node w.home) ≡ w.home) → w.present (w.node p) ≡ p → w.cell ≢ Aborted → w.node p ≡ w.node w.home → p ≢ w.home → w.cell ≡ Committed
    late w p a c b same later = grind arith

pub never_learn_abort_home : (p q : ℕ) (w v : World) → Counts w → Tree w → Silent w → w.cell ≢ Aborted → Step (Learn_abort_home p q) w v → ⊥
never_learn_abort_home p q w v c t m b s =
    let off = m.home_clear q (restarted_commit w p c t b s.0.0 s.0.1 s.1) in
    let is = subst (λ (n : ℕ). w.prepared n q ≡ true) s.0.1 s.2 in
    cc (off, is)

-- no request is dropped: its sender is engaged
pub never_drop_engage : (p q : ℕ) (w v : World) → Silent w → Step (Drop_engage p q) w v → ⊥
never_drop_engage p q w v m s = m.unknown p s.1

pub never_drop_join : (p q : ℕ) (w v : World) → Silent w → Step (Drop_join p q) w v → ⊥
never_drop_join p q w v m s = m.unknown p s.1

pub never_drop_cover : (p q : ℕ) (w v : World) → Counts w → Places w → Tree w → Silent w → w.cell ≢ Aborted → Step (Drop_cover p q) w v → ⊥
never_drop_cover p q w v c x t m b s = drops w p q (sender_engaged w c x t p q s.0) (c.up_present p s.0.0) (t.home.home_present) (t.home.home_engaged) ((t.at q).committed) (m.unknown p) b s.1
  where
    drops : (w : World) (p q : ℕ) → w.engaged q ≡ true → w.present (w.node p) ≡ p → (w.cell ≡ Open → w.present (w.node w.home) ≡ w.home) → (w.cell ≡ Open → w.engaged w.home ≡ true) → (w.cell ≡ Committed → w.engaged q ≡ false) → w.outcome p ≢ Aborted → w.cell ≢ Aborted → Drops w p → ⊥
    drops w p q on now home running stop unknown b d = grind arith

-- an engaged place sees no restart of the home
pub never_inquire_home : (p : ℕ) (w v : World) → Counts w → Tree w → w.cell ≢ Aborted → Step (Inquire_home p) w v → ⊥
never_inquire_home p w v c t a s = sees w p (c.peer_present p (w.node w.home)) t.home.home_present ((t.at p).committed) a s.3 s.4
  where
    sees : (w : World) (p : ℕ) → w.peer p (w.node w.home) ≤ w.present (w.node w.home) → (w.cell ≡ Open → w.present (w.node w.home) ≡ w.home) → (w.cell ≡ Committed → w.engaged p ≡ false) → w.cell ≢ Aborted → w.engaged p ≡ true → w.home < w.peer p (w.node w.home) → ⊥
    sees w p b d e a on newer = grind arith

-- nobody is answered abort: who asks a place that began after the home finds one that knows the commit
pub never_answer_abort : (p q : ℕ) (w v : World) → Counts w → Tree w → Silent w → Asks w p q → w.cell ≢ Aborted → Step (Answer_abort p q) w v → ⊥
never_answer_abort p q w v c t m k b s = answers w p (m.unknown p) (λ later. k.known (restarted_commit w p c t b s.0.0 s.0.1 later) s.0.0 s.0.1 s.0.3) s.1
  where
    answers : (w : World) (p : ℕ) → w.outcome p ≢ Aborted → (p ≢ w.home → w.outcome p ≡ Committed) → TellsAbort w p → ⊥
    answers w p unknown known tells = grind arith
