-- Over every run of the network: packets name no incarnation to come, and of two nodes that run one rose last.
use Rattle.std.proofs.Common.{◌≡◌, ◌≢◌, ◌⊎◌, ℕ, ◌<◌, ◌≤◌, true, refl, sym, subst, arith, List, [], ◌∷◌, ◌++◌, inl, inr}
use Rattle.std.specs.Prelude.{option_to_list}
use Rattle.std.proofs.lemmas.Bool.{cases_eq}
use Rattle.std.proofs.lemmas.Bool.Decides.{nat_tests}
use Rattle.qs_session_channels.specs.End.{End, Packet, Answer, left, received, sent, sent_packet, ticked, tick_packets}
use Rattle.qs_session_channels.specs.Network.{Network, Event, Send, Tick, Receive, Crash, Restart, Among, Can, Run, start, stepped, with_at2}
use Rattle.qs_session_channels.specs.Channels.{Channels}
use Rattle.qs_session_channels.specs.Shown.{Shows}
use Rattle.qs_session_channels.proofs.Grown.{among_at}
use Rattle.qs_session_channels.proofs.TickShown.{all_ticked}
use Rattle.qs_session_channels.proofs.RunShown.{goes}
use Rattle.qs_session_settling.proofs.Learning.{Heard, heard}
use Rattle.qs_session_settling.proofs.Ticking.{sending}

-- n began after whoever m was before, so no dead incarnation of m has named it, and it has met none
pub record Rose {M : Type 0} (w : Network M) (n m : ℕ) : Type 0 where
  pub packets : (p : Packet M) → Among (w.packets m n) p → p.inc < w.inc m → p.to_inc < w.inc n
  pub met : (w.end n m).met ≡ true → (w.end n m).known ≡ w.inc m

pub record Ranged {M : Type 0} (w : Network M) : Type 0 where
  pub for : (n m : ℕ) (p : Packet M) → Among (w.packets n m) p → p.to_inc ≤ w.inc m
  pub here : (n m : ℕ) (p : Packet M) → Among (w.packets n m) p → p.inc ≡ w.inc n → w.up n ≡ true → p.to_inc ≤ (w.end n m).known
  pub rose : (n m : ℕ) → w.up n ≡ true → w.up m ≡ true → Rose w n m ⊎ Rose w m n

either_rose : {M : Type 0} → (v w : Network M) (n m : ℕ) → (Rose v n m → Rose w n m) → (Rose v m n → Rose w m n) → Rose v n m ⊎ Rose v m n → Rose w n m ⊎ Rose w m n
either_rose v w n m one other (inl r) = inl (one r)
either_rose v w n m one other (inr r) = inr (other r)

-- ---- an end puts packets

-- a packet that is put is of the present incarnation, and names none that the end does not know
pub record Put {M : Type 0} (e : End M) (p : Packet M) : Type 0 where
  pub inc : p.inc ≡ e.mine
  pub to_inc : p.to_inc ≤ e.known

put_sent : {M : Type 0} → (e : End M) (x : M) (stamp : ℕ) (p : Packet M) → Among (option_to_list (sent_packet e x stamp)) p → Put e p
put_sent e x stamp p h = record { inc = grind (arith, nat_tests, h); to_inc = grind (arith, nat_tests, h) }

put_ticked : {M : Type 0} → (hello : M) (e : End M) (stamp : ℕ) (p : Packet M) → Among (tick_packets hello e stamp) p → Put e p
put_ticked hello e stamp p h = let t = all_ticked hello e stamp p h in record { inc = t.inc; to_inc = grind (arith, t.to_inc) }

abbrev put_by : {M : Type 0} → Network M → ℕ → ℕ → End M → List (Packet M) → Network M
put_by w a b f ps = record w { end = with_at2 w.end a b f; packets = with_at2 w.packets a b (ps ++ w.packets a b) }

by_put : {M : Type 0} → (w : Network M) (c : Channels M) (a b : ℕ) (f : End M) (ps : List (Packet M)) → Shows w c → Ranged w → w.up a ≡ true → f.known ≡ (w.end a b).known → f.met ≡ (w.end a b).met → ((p : Packet M) → Among ps p → Put (w.end a b) p) → Ranged (put_by w a b f ps)
by_put {M} w c a b f ps r k up known met puts = record {
  for = λ n m p h. for_of n m p (among_at w.packets a b ps n m p h);
  here = λ n m p h same on. here_of n m p same on (among_at w.packets a b ps n m p h);
  rose = λ n m one two. either_rose w (put_by w a b f ps) n m (rose_of n m) (rose_of m n) (k.rose n m one two);
}
  where
    own_there : (w.end a b).known ≤ w.inc b
    own_there = (r.own a b up).there

    own_mine : (w.end a b).mine ≡ w.inc a
    own_mine = (r.own a b up).mine

    for_of : (n m : ℕ) (p : Packet M) → ((n ≡ a) × (m ≡ b) × Among ps p) ⊎ Among (w.packets n m) p → p.to_inc ≤ w.inc m
    for_of n m p (inl h) = grind (arith, (puts p h.2).to_inc, own_there, h.1)
    for_of n m p (inr h) = k.for n m p h

    here_of : (n m : ℕ) (p : Packet M) → p.inc ≡ w.inc n → w.up n ≡ true → ((n ≡ a) × (m ≡ b) × Among ps p) ⊎ Among (w.packets n m) p → p.to_inc ≤ ((put_by w a b f ps).end n m).known
    here_of n m p same on (inl h) = grind (arith, nat_tests, (puts p h.2).to_inc, h.0, h.1, known)
    here_of n m p same on (inr h) = grind (arith, nat_tests, k.here n m p h same on, known)

    old_of : (n m : ℕ) → Rose w n m → (p : Packet M) → p.inc < w.inc m → ((m ≡ a) × (n ≡ b) × Among ps p) ⊎ Among (w.packets m n) p → p.to_inc < w.inc n
    old_of n m rose p old (inl h) = absurd (grind (arith, (puts p h.2).inc, own_mine, h.0, old))
    old_of n m rose p old (inr h) = rose.packets p h old

    rose_of : (n m : ℕ) → Rose w n m → Rose (put_by w a b f ps) n m
    rose_of n m rose = record {
      packets = λ p h old. old_of n m rose p old (among_at w.packets a b ps m n p h);
      met = λ on. grind (arith, nat_tests, rose.met, on, known, met);
    }

by_send : {M : Type 0} → (hello x : M) (a b stamp : ℕ) (w : Network M) (c : Channels M) → Shows w c → Ranged w → w.up a ≡ true → Ranged (stepped hello (Send a b x stamp) w)
by_send hello x a b stamp w c r k up =
    let s = sending (w.end a b) x stamp in
    by_put w c a b (sent (w.end a b) x) (option_to_list (sent_packet (w.end a b) x stamp)) r k up s.known s.met (put_sent (w.end a b) x stamp)

by_tick : {M : Type 0} → (hello : M) (a b stamp : ℕ) (w : Network M) (c : Channels M) → Shows w c → Ranged w → w.up a ≡ true → Ranged (stepped hello (Tick a b stamp) w)
by_tick hello a b stamp w c r k up = by_put w c a b (ticked (w.end a b)) (tick_packets hello (w.end a b) stamp) r k up refl refl (put_ticked hello (w.end a b) stamp)

-- ---- it takes one

abbrev end_at : {M : Type 0} → Network M → ℕ → ℕ → End M → Network M
end_at w a b f = record w { end = with_at2 w.end a b f }

by_received : {M : Type 0} → (w : Network M) (c : Channels M) (a b : ℕ) (p : Packet M) (f : End M) → Shows w c → Ranged w → w.up a ≡ true → Among (w.packets b a) p → Heard (w.end a b) p f → Ranged (end_at w a b f)
by_received {M} w c a b p f r k up sent t = record {
  for = k.for;
  here = λ n m q h same on. grind (arith, nat_tests, k.here n m q h same on, t.known);
  rose = λ n m one two. either_rose w (end_at w a b f) n m (rose_of n m) (rose_of m n) (k.rose n m one two);
}
  where
    own_mine : (w.end a b).mine ≡ w.inc a
    own_mine = (r.own a b up).mine

    from : p.inc ≤ w.inc b
    from = (r.packets b a p sent).from

    met_here : Rose w a b → f.met ≡ true → f.known ≡ w.inc b
    met_here rose on = grind (arith, t.met on, rose.met, rose.packets p sent, from, own_mine)

    met_of : (n m : ℕ) → Rose w n m → (n ≡ a) ⊎ (n ≢ a) → (m ≡ b) ⊎ (m ≢ b) → ((end_at w a b f).end n m).met ≡ true → ((end_at w a b f).end n m).known ≡ w.inc m
    met_of n m rose (inl x) (inl y) on =
        let here : Rose w a b = subst (λ i. Rose w i b) x (subst (λ j. Rose w n j) y rose) in
        grind (arith, nat_tests, x, y, on, met_here here)
    met_of n m rose (inl x) (inr y) on = grind (arith, nat_tests, y, on, rose.met)
    met_of n m rose (inr x) y on = grind (arith, nat_tests, x, on, rose.met)

    rose_of : (n m : ℕ) → Rose w n m → Rose (end_at w a b f) n m
    rose_of n m rose = record { packets = rose.packets; met = λ on. met_of n m rose (cases_eq n a) (cases_eq m b) on }

by_receive : {M : Type 0} → (hello : M) (a b : ℕ) (p : Packet M) (x : Answer M) (w : Network M) (c : Channels M) → Shows w c → Ranged w → Can (Receive a b p x) w → Ranged (stepped hello (Receive a b p x) w)
by_receive {M} hello a b p x w c r k can =
    subst (λ (y : Answer M). Ranged (end_at w a b (left y (w.end a b) p))) can.2 (by_received w c a b p (received (w.end a b) p) r k can.0 can.1 (heard (w.end a b) p))

-- ---- a node crashes, and restarts

by_crash : {M : Type 0} → (hello : M) (a : ℕ) (w : Network M) → Ranged w → Ranged (stepped hello (Crash a) w)
by_crash hello a w k = record {
  for = k.for;
  here = λ n m p h same on. k.here n m p h same (was n on);
  rose = λ n m one two. either_rose w (stepped hello (Crash a) w) n m (λ r. record { packets = r.packets; met = r.met }) (λ r. record { packets = r.packets; met = r.met }) (k.rose n m (was n one) (was m two));
}
  where
    was : (n : ℕ) → (stepped hello (Crash a) w).up n ≡ true → w.up n ≡ true
    was n on = grind (arith, nat_tests, on)

by_restart : {M : Type 0} → (hello : M) (a i : ℕ) (w : Network M) (c : Channels M) → Shows w c → Ranged w → Can (Restart a i) w → Ranged (stepped hello (Restart a i) w)
by_restart {M} hello a i w c r k can = record {
  for = λ n m p h. grind (arith, nat_tests, k.for n m p h, can.1);
  here = λ n m p h same on. grind (arith, nat_tests, k.here n m p h, same, on, can.1, (r.packets n m p h).from);
  rose = λ n m one two. rose_of n m one two (cases_eq n a) (cases_eq m a);
}
  where
    riser : (m : ℕ) → Rose (stepped hello (Restart a i) w) a m
    riser m = record { packets = λ p h old. grind (arith, nat_tests, k.for m a p h, can.1); met = λ on. absurd (grind (arith, nat_tests, on)) }

    other : (n m : ℕ) → n ≢ a → m ≢ a → Rose w n m → Rose (stepped hello (Restart a i) w) n m
    other n m x y rose = record { packets = λ p h old. grind (arith, nat_tests, x, y, rose.packets p h, old); met = λ on. grind (arith, nat_tests, x, y, rose.met, on) }

    rose_of : (n m : ℕ) → (stepped hello (Restart a i) w).up n ≡ true → (stepped hello (Restart a i) w).up m ≡ true → (n ≡ a) ⊎ (n ≢ a) → (m ≡ a) ⊎ (m ≢ a) → Rose (stepped hello (Restart a i) w) n m ⊎ Rose (stepped hello (Restart a i) w) m n
    rose_of n m one two (inl x) y = inl (subst (λ j. Rose (stepped hello (Restart a i) w) j m) (sym x) (riser m))
    rose_of n m one two (inr x) (inl y) = inr (subst (λ j. Rose (stepped hello (Restart a i) w) j n) (sym y) (riser n))
    rose_of n m one two (inr x) (inr y) = either_rose w (stepped hello (Restart a i) w) n m (other n m x y) (other m n y x) (k.rose n m (grind (arith, nat_tests, x, one)) (grind (arith, nat_tests, y, two)))

-- ---- a run

ranged_on : {M : Type 0} → (hello : M) (e : Event M) (w : Network M) (c : Channels M) → Shows w c → Ranged w → Can e w → Ranged (stepped hello e w)
ranged_on hello (Send a b x stamp) w c r k can = by_send hello x a b stamp w c r k can
ranged_on hello (Tick a b stamp) w c r k can = by_tick hello a b stamp w c r k can
ranged_on hello (Receive a b p x) w c r k can = by_receive hello a b p x w c r k can
ranged_on hello (Crash a) w c r k can = by_crash hello a w k
ranged_on hello (Restart a i) w c r k can = by_restart hello a i w c r k can

ranged_start : {M : Type 0} → (inc : ℕ → ℕ) → Ranged (start {M = M} inc)
ranged_start inc = record { for = λ n m p h. absurd h; here = λ n m p h. absurd h; rose = λ n m on. absurd (grind (arith, on)) }

ranged_run : {M : Type 0} → (hello : M) (es : List (Event M)) (w v : Network M) (c : Channels M) → Shows w c → Ranged w → Run hello w es v → Ranged v
ranged_run {M} hello [] w v c r k run = subst (λ (x : Network M). Ranged x) (sym run) k
ranged_run hello (e ∷ es) w v c r k run = let g = goes hello e w c r run.0 in ranged_run hello es (stepped hello e w) v g.0 g.2 (ranged_on hello e w c r k run.0) run.1

pub ranged : {M : Type 0} → (hello : M) (inc : ℕ → ℕ) (es : List (Event M)) (w : Network M) (c : Channels M) → Shows (start {M = M} inc) c → Run hello (start inc) es w → Ranged w
ranged hello inc es w c r run = ranged_run hello es (start inc) w c r (ranged_start inc) run
