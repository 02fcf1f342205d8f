-- An end is met only by a packet that was sent to its incarnation, so by one whose sender knew it: greetings may end there.
use Rattle.std.proofs.Common.{◌≡◌, ◌≢◌, ◌⊎◌, Bool, ℕ, ◌+◌, ◌==◌, ◌<◌, ◌≤◌, true, false, refl, sym, subst, ap, ◌∙◌, arith, List, [], ◌∷◌, ◌++◌, inl, inr, if◌then◌else◌}
use Rattle.std.specs.Prelude.{option_to_list}
use Rattle.std.proofs.lemmas.Bool.{cases_eq}
use Rattle.std.proofs.lemmas.Bool.Decides.{nat_tests}
use Rattle.qs_session_channels.specs.End.{End, Packet, Answer, OldPeer, NewPeer, OldSelf, Hello, Repeat, Early, Message, Answers, left, packet, sent_packet, tick_packets}
use Rattle.qs_session_channels.specs.Network.{Network, Event, Send, Tick, Receive, Crash, Restart, Among, Can, Run, start, stepped}
use Rattle.qs_session_channels.specs.Channels.{Channels}
use Rattle.qs_session_channels.specs.Shown.{Shows}
use Rattle.qs_session_channels.specs.Laws.{HasMet}
use Rattle.qs_session_channels.proofs.Grown.{among_at}
use Rattle.qs_session_channels.proofs.TickShown.{all_ticked}
use Rattle.qs_session_channels.proofs.ReceiveShown.{answers}
use Rattle.qs_session_channels.proofs.RunShown.{goes}

-- a packet of a running incarnation was sent to no later one than its end knows now
record Knows {M : Type 0} (w : Network M) : Type 0 where
  packets : (n m : ℕ) (p : Packet M) → Among (w.packets n m) p → p.inc ≡ w.inc n → w.up n ≡ true → p.to_inc ≤ (w.end n m).known
  met : HasMet w

sent_to : {M : Type 0} → (e : End M) (x : M) (stamp : ℕ) (p : Packet M) → Among (option_to_list (sent_packet e x stamp)) p → p.to_inc ≤ e.known
sent_to e x stamp p h = grind (arith, nat_tests, h)

ticked_to : {M : Type 0} → (hello : M) (e : End M) (stamp : ℕ) (p : Packet M) → Among (tick_packets hello e stamp) p → p.to_inc ≤ e.known
ticked_to hello e stamp p h = let t = all_ticked hello e stamp p h in grind (arith, t.to_inc)

-- what a packet does to what its receiver knows
known_by : {M : Type 0} → (e : End M) (p : Packet M) (x : Answer M) → Answers e p x → ((left x e p).known ≡ e.known) ⊎ (((left x e p).known ≡ p.inc) × (e.known < p.inc))
known_by e p (OldPeer known got) is = inl refl
known_by e p (NewPeer old new) is = inr (is.1, grind (arith, is))
known_by e p (OldSelf mine got) is = inl refl
known_by e p Hello is = inl refl
known_by e p (Repeat number) is = inl refl
known_by e p (Early number expected) is = inl refl
known_by e p (Message m) is = inl refl

-- and whom it meets
met_by : {M : Type 0} → (e : End M) (p : Packet M) (x : Answer M) → Answers e p x → (left x e p).met ≡ true
    → ((e.met ≡ true) × ((left x e p).known ≡ e.known)) ⊎ ((p.to_inc ≡ e.mine) × (p.inc ≡ (left x e p).known))
met_by e p (OldPeer known got) is on = inl (on, refl)
met_by e p (NewPeer old new) is on = inr (grind (arith, nat_tests, on), sym is.1)
met_by e p (OldSelf mine got) is on = inl (on, refl)
met_by e p Hello is on = inr (is.1, is.0)
met_by e p (Repeat number) is on = inr (is.2, is.1)
met_by e p (Early number expected) is on = inr (is.3, is.2)
met_by e p (Message m) is on = inr (is.2, is.1)

by_send : {M : Type 0} → (hello x : M) (a b stamp : ℕ) (w : Network M) → Knows w → Knows (stepped hello (Send a b x stamp) w)
by_send {M} hello x a b stamp w k = record {
  packets = λ n m p h from up. was n m p from up (among_at w.packets a b (option_to_list (sent_packet (w.end a b) x stamp)) n m p h);
  met = λ n m up up' met is. grind (arith, nat_tests, k.met n m, up, up', met, is);
}
  where
    was : (n m : ℕ) (p : Packet M) → p.inc ≡ w.inc n → w.up n ≡ true → ((n ≡ a) × (m ≡ b) × Among (option_to_list (sent_packet (w.end a b) x stamp)) p) ⊎ Among (w.packets n m) p
        → p.to_inc ≤ ((stepped hello (Send a b x stamp) w).end n m).known
    was n m p from up (inl h) = grind (arith, nat_tests, h.0, h.1, sent_to (w.end a b) x stamp p h.2)
    was n m p from up (inr h) = grind (arith, nat_tests, k.packets n m p h from up)

by_tick : {M : Type 0} → (hello : M) (a b stamp : ℕ) (w : Network M) → Knows w → Knows (stepped hello (Tick a b stamp) w)
by_tick {M} hello a b stamp w k = record {
  packets = λ n m p h from up. was n m p from up (among_at w.packets a b (tick_packets hello (w.end a b) stamp) n m p h);
  met = λ n m up up' met is. grind (arith, nat_tests, k.met n m, up, up', met, is);
}
  where
    was : (n m : ℕ) (p : Packet M) → p.inc ≡ w.inc n → w.up n ≡ true → ((n ≡ a) × (m ≡ b) × Among (tick_packets hello (w.end a b) stamp) p) ⊎ Among (w.packets n m) p
        → p.to_inc ≤ ((stepped hello (Tick a b stamp) w).end n m).known
    was n m p from up (inl h) = grind (arith, nat_tests, h.0, h.1, ticked_to hello (w.end a b) stamp p h.2)
    was n m p from up (inr h) = grind (arith, nat_tests, k.packets n m p h from up)

by_receive : {M : Type 0} → (hello : M) (a b : ℕ) (p : Packet M) (x : Answer M) (w : Network M) (c : Channels M) → Shows w c → Knows w → Can (Receive a b p x) w → Knows (stepped hello (Receive a b p x) w)
by_receive {M} hello a b p x w c r k can = record {
  packets = λ n m q h from up. grind (arith, nat_tests, k.packets n m q h from up, rises);
  met = λ n m up up' met is. at n m up up' met is (cases_eq n m) (cases_eq n a) (cases_eq m b);
}
  where
    is_answer : Answers (w.end a b) p x
    is_answer = answers (w.end a b) p x can.2

    rises : (w.end a b).known ≤ (left x (w.end a b) p).known
    rises = grind (arith, known_by (w.end a b) p x is_answer)

    at : (n m : ℕ) → w.up n ≡ true → w.up m ≡ true → ((stepped hello (Receive a b p x) w).end n m).met ≡ true → ((stepped hello (Receive a b p x) w).end n m).known ≡ w.inc m
        → (n ≡ m) ⊎ (n ≢ m) → (n ≡ a) ⊎ (n ≢ a) → (m ≡ b) ⊎ (m ≢ b) → ((stepped hello (Receive a b p x) w).end m n).known ≡ w.inc n
    at n m up up' met is (inl same) on to = grind (arith, nat_tests, same, is)
    at n m up up' met is (inr other) (inl on) (inl to) =
        let by = met_by (w.end a b) p x is_answer (grind (arith, nat_tests, on, to, met)) in
        grind (arith, nat_tests, other, on, to, is, up, up', by, k.met a b, k.packets b a p can.1, (r.own a b can.0).mine, (r.own b a (grind (arith, to, up'))).there)
    at n m up up' met is (inr other) on to = grind (arith, nat_tests, other, on, to, met, is, up, up', k.met n m, known_by (w.end a b) p x is_answer, (r.packets b a p can.1).from)

by_crash : {M : Type 0} → (hello : M) (a : ℕ) (w : Network M) → Knows w → Knows (stepped hello (Crash a) w)
by_crash hello a w k = record {
  packets = λ n m p h from up. grind (arith, nat_tests, k.packets n m p h from, up);
  met = λ n m up up' met is. grind (arith, nat_tests, k.met n m, up, up', met, is);
}

by_restart : {M : Type 0} → (hello : M) (a i : ℕ) (w : Network M) (c : Channels M) → Shows w c → Knows w → Can (Restart a i) w → Knows (stepped hello (Restart a i) w)
by_restart hello a i w c r k can = record {
  packets = λ n m p h from up. grind (arith, nat_tests, k.packets n m p h, from, up, can, (r.packets n m p h).from);
  met = λ n m up up' met is. grind (arith, nat_tests, k.met n m, up, up', met, is, can, r.own n m);
}

knows_on : {M : Type 0} → (hello : M) (e : Event M) (w : Network M) (c : Channels M) → Shows w c → Knows w → Can e w → Knows (stepped hello e w)
knows_on hello (Send a b x stamp) w c r k can = by_send hello x a b stamp w k
knows_on hello (Tick a b stamp) w c r k can = by_tick hello a b stamp w k
knows_on hello (Receive a b p x) w c r k can = by_receive hello a b p x w c r k can
knows_on hello (Crash a) w c r k can = by_crash hello a w k
knows_on hello (Restart a i) w c r k can = by_restart hello a i w c r k can

knows_start : {M : Type 0} → (inc : ℕ → ℕ) → Knows (start {M = M} inc)
knows_start inc = record { packets = λ n m p h. absurd h; met = λ n m up. grind (arith, up) }

knows_run : {M : Type 0} → (hello : M) (es : List (Event M)) (w v : Network M) (c : Channels M) → Shows w c → Knows w → Run hello w es v → Knows v
knows_run {M} hello [] w v c r k run = subst (λ (x : Network M). Knows x) (sym run) k
knows_run hello (e ∷ es) w v c r k run = let g = goes hello e w c r run.0 in knows_run hello es (stepped hello e w) v g.0 g.2 (knows_on hello e w c r k run.0) run.1

pub has_met : {M : Type 0} → (hello : M) (inc : ℕ → ℕ) (es : List (Event M)) (w : Network M) (c : Channels M) → Shows (start {M = M} inc) c → Run hello (start inc) es w → HasMet w
has_met hello inc es w c r run = (knows_run hello es (start inc) w c r (knows_start inc) run).met
