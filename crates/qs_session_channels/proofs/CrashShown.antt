-- A crash and a restart leave channels that show the network: what an incarnation had is behind it for good.
use Rattle.std.proofs.Common.{Bool, ◌≡◌, ◌≢◌, ◌⊎◌, ℕ, ◌+◌, ◌<◌, ◌≤◌, true, false, refl, sym, subst, ap, ◌∙◌, arith, List, [], ◌∷◌, ◌++◌, length, drop}
use Rattle.std.proofs.lemmas.Bool.Decides.{nat_tests}
use Rattle.qs_session_channels.specs.End.{End, Packet, Answer}
use Rattle.qs_session_channels.specs.Network.{with_at, Network, Event, Send, Tick, Receive, Crash, Restart, Among, Can, stepped}
use Rattle.qs_session_channels.specs.Channels
use Rattle.qs_session_channels.specs.Channels.{Channels, Move, Wait, Post, Meet, Notice, Hand, May, moved}
use Rattle.qs_session_channels.specs.Shown.{Own, Good, Between, Shows}

crash_own : {M : Type 0} → (hello : M) (a : ℕ) (w : Network M) (c : Channels M) (n m : ℕ) → Shows w c → Can (Crash a) w → (stepped hello (Crash a) w).up n ≡ true → Own (stepped hello (Crash a) w) (moved (Channels.Crash a) c) n m
crash_own hello a w c n m r can up = grind (arith, nat_tests, r.own n m, can, up)

restart_own : {M : Type 0} → (hello : M) (a i : ℕ) (w : Network M) (c : Channels M) (n m : ℕ) → Shows w c → Can (Restart a i) w → (stepped hello (Restart a i) w).up n ≡ true → Own (stepped hello (Restart a i) w) (moved (Channels.Restart a i) c) n m
restart_own hello a i w c n m r can up = grind (arith, nat_tests, r.own n m, r.between n m, r.between m n, r.inc, can, up)

restart_between : {M : Type 0} → (a i : ℕ) (inc : ℕ → ℕ) (posted handed : ℕ → ℕ → ℕ → ℕ → List M) (n m : ℕ) → inc a < i → Between inc posted handed n m → Between (with_at inc a i) posted handed n m
restart_between a i inc posted handed n m above b = grind (arith, nat_tests, b, above)

restart_put : {M : Type 0} → (a i : ℕ) (inc : ℕ → ℕ) (posted handed : ℕ → ℕ → ℕ → ℕ → List M) (n m : ℕ) (p : Packet M) → inc a < i → Good inc posted handed n m p → Good (with_at inc a i) posted handed n m p
restart_put a i inc posted handed n m p above g = grind (arith, nat_tests, g, above)

pub by_crash : {M : Type 0} → (hello : M) (a : ℕ) (w : Network M) (c : Channels M) → Shows w c → Can (Crash a) w → Shows (stepped hello (Crash a) w) (moved (Channels.Crash a) c)
by_crash hello a w c r can = record {
  inc = r.inc;
  up = ap (λ (f : ℕ → Bool). with_at f a false) r.up;
  own = λ n m up. crash_own hello a w c n m r can up;
  packets = λ n m p among. r.packets n m p among;
  between = λ n m. r.between n m;
}

pub by_restart : {M : Type 0} → (hello : M) (a i : ℕ) (w : Network M) (c : Channels M) → Shows w c → Can (Restart a i) w → Shows (stepped hello (Restart a i) w) (moved (Channels.Restart a i) c)
by_restart hello a i w c r can = record {
  inc = ap (λ (f : ℕ → ℕ). with_at f a i) r.inc;
  up = ap (λ (f : ℕ → Bool). with_at f a true) r.up;
  own = λ n m up. restart_own hello a i w c n m r can up;
  packets = λ n m p among. restart_put a i w.inc c.posted c.handed n m p can.1 (r.packets n m p among);
  between = λ n m. restart_between a i w.inc c.posted c.handed n m can.1 (r.between n m);
}
