-- Event by event, a run of the network is a run of channels.
use Rattle.std.proofs.Common.{◌≡◌, Bool, ℕ, ◌+◌, ◌<◌, ◌≤◌, true, false, refl, sym, subst, ap, ◌∙◌, arith, List, [], ◌∷◌, ◌++◌, length, drop}
use Rattle.std.proofs.lemmas.Bool.Decides.{nat_tests}
use Rattle.qs_session_channels.specs.End.{End, Packet, Answer}
use Rattle.qs_session_channels.specs.Network.{Network, Event, Send, Tick, Receive, Crash, Restart, Among, Can, Run, start, stepped}
use Rattle.qs_session_channels.specs.Channels
use Rattle.qs_session_channels.specs.Channels.{Channels, Move, MovesOn, May, moved, opening}
use Rattle.qs_session_channels.specs.Shown.{Own, Good, Between, Shows, Goes, moves, run_moves}
use Rattle.qs_session_channels.proofs.CrashShown.{by_crash, by_restart}
use Rattle.qs_session_channels.proofs.SendShown.{by_send}
use Rattle.qs_session_channels.proofs.TickShown.{by_tick}
use Rattle.qs_session_channels.proofs.ReceiveShown.{by_receive}

pub goes : {M : Type 0} → (hello : M) (e : Event M) (w : Network M) (c : Channels M) → Shows w c → Can e w → Goes hello e w c
goes hello (Send n m x stamp) w c r can = by_send hello x n m stamp w c r can
goes hello (Tick n m stamp) w c r can = by_tick hello n m stamp w c r can
goes hello (Receive n m p x) w c r can = by_receive hello n m p x w c r can
goes hello (Crash n) w c r can = (_, (subst (λ (f : ℕ → Bool). f n ≡ true) (sym r.up) can, refl), by_crash hello n w c r can)
goes hello (Restart n i) w c r can = (_, (grind (arith, r.up, r.inc, can), refl), by_restart hello n i w c r can)

on_append : {M : Type 0} → (ms ns : List (Move M)) (c d f : Channels M) → MovesOn c ms d → MovesOn d ns f → MovesOn c (ms ++ ns) f
on_append {M} [] ns c d f p q = subst (λ (x : Channels M). MovesOn x ns f) p q
on_append (m ∷ ms) ns c d f p q = (p.0, on_append ms ns (moved m c) d f p.1 q)

pub runs : {M : Type 0} → (hello : M) (es : List (Event M)) (w v : Network M) (c : Channels M) → Shows w c → Run hello w es v → (d : Channels M) × MovesOn c (run_moves hello es w) d × Shows v d
runs {M} hello [] w v c r run = (c, refl, subst (λ (x : Network M). Shows x c) (sym run) r)
runs {M} hello (e ∷ es) w v c r run =
    let g = goes hello e w c r run.0 in
    let h = runs hello es (stepped hello e w) v g.0 g.2 run.1 in
    (h.0, on_append (moves e w) (run_moves hello es (stepped hello e w)) c g.0 h.0 g.1 h.1, h.2)

pub start_shown : {M : Type 0} → (inc : ℕ → ℕ) → Shows (start {M = M} inc) (opening inc)
start_shown {M} inc = record {
  inc = refl;
  up = refl;
  own = λ n m up. grind (arith, up);
  packets = λ n m p among. absurd among;
  between = λ n m. record { prefix = λ i j. refl; later = λ i j lt. refl; later_peer = λ i j lt. refl };
}
