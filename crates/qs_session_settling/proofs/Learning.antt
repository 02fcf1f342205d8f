-- What a packet makes of whom an end knows and has met; and an end that rose last goes on to have done so.
use Rattle.std.proofs.Common.{◌≡◌, ◌≢◌, ◌⊎◌, Bool, ℕ, ◌+◌, ◌<◌, ◌≤◌, true, false, refl, sym, subst, arith, List, [], ◌∷◌, ◌++◌, length, inl, inr}
use Rattle.std.specs.Prelude.{option_to_list}
use Rattle.std.proofs.lemmas.Bool.{cases_eq}
use Rattle.qs_session_channels.specs.End.{End, Packet, received, sent, sent_packet, ticked, tick_packets, packet}
use Rattle.qs_session_settling.specs.Pairs.{Pair, swapped}
use Rattle.qs_session_settling.specs.Consistent.{AreBefore, IsConsistent, RoseLast}
use Rattle.qs_session_settling.proofs.Receiving.{Taking, taking}
use Rattle.qs_session_settling.proofs.Ticking.{Each, each_again, Ticking, ticking, sending}
use Rattle.qs_session_settling.proofs.Stages.{Keeps}

-- what taking a packet makes of whom an end knows, and has met
pub record Heard {M : Type 0} (e : End M) (p : Packet M) (f : End M) : Type 0 where
  pub mine : f.mine ≡ e.mine
  pub known : (f.known ≡ e.known) ⊎ ((f.known ≡ p.inc) × (e.known < p.inc))
  pub heard : p.inc ≤ f.known
  pub met : f.met ≡ true → ((e.met ≡ true) × (f.known ≡ e.known)) ⊎ ((p.to_inc ≡ e.mine) × (p.inc ≡ f.known))

by_taking : {M : Type 0} → (e f : End M) (p : Packet M) → Taking e p f → Heard e p f
by_taking e f p (inl t) = record { mine = grind (arith, t.same); known = grind (arith, t.same); heard = grind (arith, t.same, t.older); met = λ on. grind (arith, t.same, on) }
by_taking e f p (inr (inl t)) = record { mine = t.mine; known = inr (t.known, t.newer); heard = grind (arith, t.known); met = λ on. inr (t.met on, sym t.known) }
by_taking e f p (inr (inr (inl t))) = record { mine = grind (arith, t.same); known = grind (arith, t.same); heard = grind (arith, t.same, t.by); met = λ on. grind (arith, t.same, on) }
by_taking e f p (inr (inr (inr t))) = record { mine = t.mine; known = inl t.known; heard = grind (arith, t.by, t.known); met = λ on. inr (t.for, grind (arith, t.by, t.known)) }

pub heard : {M : Type 0} → (e : End M) (p : Packet M) → Heard e p (received e p)
heard e p = by_taking e (received e p) p (taking e p)

-- ---- whom an end knows it goes on to know

abbrev pub KnowsLeft : {M : Type 0} → Pair M → Type 0
KnowsLeft pair = pair.right.end.known ≡ pair.left.end.mine

pub knows_on : {M : Type 0} → (hello : M) (quiet : Bool) → Keeps hello quiet IsConsistent KnowsLeft
knows_on hello quiet = record {
  bears = record {
    left_takes = λ a b la ps p is k. grind (arith, k, (heard a p).mine);
    left_sends = λ on a b la lb x stamp is k. grind (arith, k, (sending a x stamp).mine);
    left_ticks = λ a b la lb stamp is k. k;
    right_sends = λ on a b la lb x stamp is k. grind (arith, k, (sending b x stamp).known);
    right_ticks = λ a b la lb stamp is k. k;
  };
  right_takes = λ a b ps lb p is k. grind (arith, k, (heard b p).known, is.left.old.0.by);
}

-- ---- one that rose last goes on to have done so

still_before : {M : Type 0} → (a b c d : End M) (xs : List (Packet M)) → c.mine ≡ a.mine → d.mine ≡ b.mine → AreBefore a b xs → AreBefore c d xs
still_before a b c d [] m n is = tt
still_before a b c d (x ∷ xs) m n is = ((λ lt. grind (arith, is.0, lt, m, n)), still_before a b c d xs m n is.1)

-- what the present incarnation puts names whomever it will
more_before : {M : Type 0} → (a b : End M) (xs ys : List (Packet M)) → AreBefore a b xs → Each (λ p. p.inc ≡ b.mine) ys → AreBefore a b (xs ++ ys)
more_before a b [] [] is by = tt
more_before a b [] (y ∷ ys) is by = ((λ lt. absurd (grind (arith, lt, by.0))), more_before a b [] ys is by.1)
more_before a b (x ∷ xs) ys is by = (is.0, more_before a b xs ys is.1 by)

pub ticks_by : {M : Type 0} → (hello : M) (e : End M) (stamp : ℕ) → Ticking hello e stamp → Each (λ p. p.inc ≡ e.mine) (tick_packets hello e stamp)
ticks_by hello e stamp (inl t) = subst (λ ps. Each (λ p. p.inc ≡ e.mine) ps) (sym t.puts) (refl, tt)
ticks_by hello e stamp (inr (inl t)) = subst (λ ps. Each (λ p. p.inc ≡ e.mine) ps) (sym t.puts) (each_again (λ p. p.inc ≡ e.mine) e stamp (λ number x. refl) e.acked e.kept)
ticks_by hello e stamp (inr (inr (inl t))) = subst (λ ps. Each (λ p. p.inc ≡ e.mine) ps) (sym t.puts) (refl, tt)
ticks_by hello e stamp (inr (inr (inr (inl t)))) = subst (λ ps. Each (λ p. p.inc ≡ e.mine) ps) (sym t.puts) (refl, tt)
ticks_by hello e stamp (inr (inr (inr (inr t)))) = subst (λ ps. Each (λ p. p.inc ≡ e.mine) ps) (sym t.puts) tt

-- a send puts one packet, or none
pub sends_each : {M : Type 0} → (Q : Packet M → Type 0) (e : End M) (x : M) (stamp : ℕ) → (e.known ≢ 0 → Q (packet e e.known (e.acked + length e.kept + 1) stamp x)) → Each Q (option_to_list (sent_packet e x stamp))
sends_each {M} Q e x stamp is = by_known (cases_eq e.known 0)
  where
    by_known : (e.known ≡ 0) ⊎ (e.known ≢ 0) → Each Q (option_to_list (sent_packet e x stamp))
    by_known (inl none) = subst (λ ps. Each Q ps) (sym ((sending e x stamp).none none)) tt
    by_known (inr some) = subst (λ ps. Each Q ps) (sym ((sending e x stamp).puts some)) (is some, tt)

-- the right end rose last
abbrev pub RightRose : {M : Type 0} → Pair M → Type 0
RightRose pair = RoseLast (swapped pair)

pub rose_on : {M : Type 0} → (hello : M) → Keeps hello false IsConsistent RightRose
rose_on hello = record {
  bears = record {
    left_takes = λ a b la ps p is r. record {
      packets = still_before b a b (received a p) la refl (heard a p).mine r.packets;
      met = λ on. grind (arith, r.met on, (heard a p).mine);
    };
    left_sends = λ on a b la lb x stamp is r. record {
      packets = still_before b a b (sent a x) (la ++ option_to_list (sent_packet a x stamp)) refl (sending a x stamp).mine (more_before b a la (option_to_list (sent_packet a x stamp)) r.packets (sends_each (λ p. p.inc ≡ a.mine) a x stamp (λ some. refl)));
      met = λ on. grind (arith, r.met on, (sending a x stamp).mine);
    };
    left_ticks = λ a b la lb stamp is r. record {
      packets = still_before b a b (ticked a) (la ++ tick_packets hello a stamp) refl refl (more_before b a la (tick_packets hello a stamp) r.packets (ticks_by hello a stamp (ticking hello a stamp)));
      met = r.met;
    };
    right_sends = λ on a b la lb x stamp is r. record {
      packets = still_before b a (sent b x) a la (sending b x stamp).mine refl r.packets;
      met = λ on. grind (arith, on, (sending b x stamp).met, (sending b x stamp).known, r.met);
    };
    right_ticks = λ a b la lb stamp is r. record { packets = still_before b a (ticked b) a la refl refl r.packets; met = r.met };
  };
  right_takes = λ a b ps lb p is r. record {
    packets = still_before b a (received b p) a ps (heard b p).mine refl r.packets.1;
    met = λ on. grind (arith, (heard b p).met on, r.met, r.packets.0, is.left.old.0.by);
  };
}
