-- An end that was met greets no more, so the other one does not owe for ever: it asks, or is met.
use Rattle.std.proofs.Common.{◌≡◌, ◌⊎◌, Bool, ℕ, true, false, refl, sym, subst, arith, List, [], ◌∷◌, ◌++◌, inl, inr}
use Rattle.std.specs.Prelude.{option_to_list}
use Rattle.qs_session_channels.specs.End.{End, Packet, received, sent, sent_packet, ticked, tick_packets}
use Rattle.qs_session_settling.specs.Pairs.{Pair, swapped}
use Rattle.qs_session_settling.proofs.Ticking.{Each, each_both, each_map, each_again, sending}
use Rattle.qs_session_settling.proofs.Staying.{pair_of}
use Rattle.qs_session_settling.proofs.Stages.{Keeps, Stage, Stays, keeps_each}
use Rattle.qs_session_settling.proofs.Behind.{Behind, behind_more, behind_map, behind_none}
use Rattle.qs_session_settling.proofs.Learning.{sends_each}
use Rattle.qs_session_settling.proofs.Known.{Known, known_on, advances, to_left, to_right, some_left, some_right, KnownTicking, known_ticking, steady}
use Rattle.qs_session_settling.proofs.Answering.{Naming, AllOwing, hears_named}
use Rattle.qs_session_settling.proofs.Asking.{asks, repeats_ask, greeting_asks, all_owing_swapped}
use Rattle.qs_session_settling.proofs.Keeping.{keeps_for}

pub record LeftMet {M : Type 0} (pair : Pair M) : Type 0 where
  pub known : Known pair
  pub met : pair.left.end.met ≡ true

abbrev pub IsMet : {M : Type 0} → Pair M → Type 0
IsMet pair = pair.left.end.met ≡ true

pub is_met_on : {M : Type 0} → (hello : M) (quiet : Bool) → Keeps hello quiet Known IsMet
is_met_on hello quiet = record {
  bears = record {
    left_takes = λ a b la ps p k h. (advances a p (to_left a b la ps p k)).met h;
    left_sends = λ on a b la lb x stamp k h. grind (arith, h, (sending a x stamp).met);
    left_ticks = λ a b la lb stamp k h. h;
    right_sends = λ on a b la lb x stamp k h. h;
    right_ticks = λ a b la lb stamp k h. h;
  };
  right_takes = λ a b ps lb p k h. h;
}

pub left_met_on : {M : Type 0} → (hello : M) (quiet : Bool) → Stays hello quiet LeftMet
left_met_on hello quiet step of pair is = record { known = known_on hello quiet step of pair is.known; met = keeps_each hello quiet Known IsMet (is_met_on hello quiet) step of pair is.known is.met }

-- ---- what it puts names the other end

abbrev pub Names : {M : Type 0} → End M → End M → Packet M → Type 0
Names a b p = Naming a.mine b.mine 0 p

names_same : {M : Type 0} → (a b c d : End M) → c.mine ≡ a.mine → d.mine ≡ b.mine → (p : Packet M) → Names a b p → Names c d p
names_same a b c d mine other p is = (grind (arith, is.0, mine), grind (arith, is.1, other), is.2)

each_same : {M : Type 0} → (a b c d : End M) (ps : List (Packet M)) → c.mine ≡ a.mine → d.mine ≡ b.mine → Each (Names a b) ps → Each (Names c d) ps
each_same a b c d ps mine other is = each_map (Names a b) (Names c d) (names_same a b c d mine other) ps is

behind_same : {M : Type 0} → (n : ℕ) (a b c d : End M) (ps : List (Packet M)) → c.mine ≡ a.mine → d.mine ≡ b.mine → Behind (Names a b) n ps → Behind (Names c d) n ps
behind_same n a b c d ps mine other is = behind_map (Names a b) (Names c d) (names_same a b c d mine other) n ps is

tick_names : {M : Type 0} → (hello : M) (a b : End M) (stamp : ℕ) → a.known ≡ b.mine → a.met ≡ true → KnownTicking hello a stamp → Each (Names a b) (tick_packets hello a stamp)
tick_names hello a b stamp known met (inl x) = subst (λ ps. Each (Names a b) ps) (sym x.puts) (each_again (Names a b) a stamp (λ number y. (refl, known, grind arith)) a.acked a.kept)
tick_names hello a b stamp known met (inr (inl x)) = subst (λ ps. Each (Names a b) ps) (sym x.puts) ((refl, known, grind arith), tt)
tick_names hello a b stamp known met (inr (inr (inl x))) = absurd (grind (arith, met, x.met))
tick_names hello a b stamp known met (inr (inr (inr x))) = subst (λ ps. Each (Names a b) ps) (sym x.puts) tt

pub puts_names : {M : Type 0} → (hello : M) (a b : End M) (la lb : List (Packet M)) (stamp : ℕ) → LeftMet (pair_of a b la lb) → Each (Names a b) (tick_packets hello a stamp)
puts_names hello a b la lb stamp is = tick_names hello a b stamp is.known.left is.met (known_ticking hello a stamp (some_left (pair_of a b la lb) is.known))

sends_names : {M : Type 0} → (a b : End M) (x : M) (stamp : ℕ) → a.known ≡ b.mine → Each (Names a b) (option_to_list (sent_packet a x stamp))
sends_names a b x stamp known = sends_each (Names a b) a x stamp (λ some. (refl, known, grind arith))

-- ---- the right end owes nothing and all that stands on the link to it names it, or it is met

abbrev pub Calm : {M : Type 0} → Pair M → Type 0
Calm pair = ((pair.right.end.owed ≡ false) × Each (Names pair.left.end pair.right.end) pair.left.link) ⊎ (pair.right.end.met ≡ true)

calm_left : {M : Type 0} → (a b c : End M) (la more lb lc : List (Packet M)) → c.mine ≡ a.mine → Each (Names a b) more → Calm (pair_of a b la lb) → Calm (pair_of c b (la ++ more) lc)
calm_left a b c la more lb lc mine goes (inl h) = inl (h.0, each_same a b c b (la ++ more) mine refl (each_both (Names a b) la more h.1 goes))
calm_left a b c la more lb lc mine goes (inr on) = inr on

calm_takes : {M : Type 0} → (a b : End M) (la ps : List (Packet M)) (p : Packet M) → Known (pair_of a b la (p ∷ ps)) → Calm (pair_of a b la (p ∷ ps)) → Calm (pair_of (received a p) b la ps)
calm_takes a b la ps p k (inl h) = inl (h.0, each_same a b (received a p) b la (advances a p (to_left a b la ps p k)).mine refl h.1)
calm_takes a b la ps p k (inr on) = inr on

calm_right : {M : Type 0} → (a b d : End M) (la lb lc : List (Packet M)) → d.mine ≡ b.mine → d.met ≡ b.met → d.owed ≡ false → Calm (pair_of a b la lb) → Calm (pair_of a d la lc)
calm_right a b d la lb lc mine met owed (inl h) = inl (owed, each_same a b a d la refl mine h.1)
calm_right a b d la lb lc mine met owed (inr on) = inr (grind (arith, on, met))

calm_next : {M : Type 0} → (a b : End M) (ps lb : List (Packet M)) (p : Packet M) → Known (pair_of a b (p ∷ ps) lb) → Calm (pair_of a b (p ∷ ps) lb) → Calm (pair_of a (received b p) ps lb)
calm_next a b ps lb p k (inl h) = inr (hears_named 0 b a p k.right (to_right a b ps lb p k) h.1.0 (grind arith)).0
calm_next a b ps lb p k (inr on) = inr ((advances b p (to_right a b ps lb p k)).met on)

pub calm_keeps : {M : Type 0} → (hello : M) (quiet : Bool) → Keeps hello quiet LeftMet Calm
calm_keeps hello quiet = record {
  bears = record {
    left_takes = λ a b la ps p is h. calm_takes a b la ps p is.known h;
    left_sends = λ on a b la lb x stamp is h. calm_left a b (sent a x) la (option_to_list (sent_packet a x stamp)) lb lb (sending a x stamp).mine (sends_names a b x stamp is.known.left) h;
    left_ticks = λ a b la lb stamp is h. calm_left a b (ticked a) la (tick_packets hello a stamp) lb lb refl (puts_names hello a b la lb stamp is) h;
    right_sends = λ on a b la lb x stamp is h. let s = sending b x stamp in calm_right a b (sent b x) la lb (lb ++ option_to_list (sent_packet b x stamp)) s.mine s.met (s.owed (some_right (pair_of a b la lb) is.known)) h;
    right_ticks = λ a b la lb stamp is h. calm_right a b (ticked b) la lb (lb ++ tick_packets hello b stamp) refl refl refl h;
  };
  right_takes = λ a b ps lb p is h. calm_next a b ps lb p is.known h;
}

-- with n packets to be taken, those behind them name it
abbrev pub NamingBehind : {M : Type 0} → ℕ → Pair M → Type 0
NamingBehind n pair = Behind (Names pair.left.end pair.right.end) n pair.left.link

behind_empty : {M : Type 0} → (Q : Packet M → Type 0) (n : ℕ) → Behind Q n []
behind_empty Q n = tt

-- the right end takes all that may not name it, and ticks
pub calming : {M : Type 0} → (hello : M) (quiet : Bool) → Stage hello quiet LeftMet NamingBehind Calm
calming hello quiet = record {
  bears = λ n. record {
    left_takes = λ a b la ps p is h. behind_same n a b (received a p) b la (advances a p (to_left a b la ps p is.known)).mine refl h;
    left_sends = λ on a b la lb x stamp is h. behind_same n a b (sent a x) b (la ++ option_to_list (sent_packet a x stamp)) (sending a x stamp).mine refl (behind_more (Names a b) n la (option_to_list (sent_packet a x stamp)) h (sends_names a b x stamp is.known.left));
    left_ticks = λ a b la lb stamp is h. behind_more (Names a b) n la (tick_packets hello a stamp) h (puts_names hello a b la lb stamp is);
    right_sends = λ on a b la lb x stamp is h. behind_same n a b a (sent b x) la refl (sending b x stamp).mine h;
    right_ticks = λ a b la lb stamp is h. h;
  };
  takes = λ n a b ps lb p is h. behind_same n a b a (received b p) ps refl (advances b p (to_right a b ps lb p is.known)).mine h;
  finds_none = λ n a b lb is h. behind_empty (Names a b) n;
  takes_more = λ a b ps lb p is h. behind_same 0 a b a (received b p) ps refl (advances b p (to_right a b ps lb p is.known)).mine h.1;
  ticks = λ a b la lb stamp is h. inl (refl, behind_none (Names a b) la h);
  keeps = calm_keeps hello quiet;
}

-- ---- and then it asks in its next tick, or is met

calm_asks : {M : Type 0} → (hello : M) (a b : End M) (la lb : List (Packet M)) (stamp : ℕ) → Known (pair_of a b la lb) → KnownTicking hello b stamp → Calm (pair_of a b la lb) → AllOwing 0 (swapped (pair_of a (ticked b) la (lb ++ tick_packets hello b stamp)))
calm_asks hello a b la lb stamp k x (inr on) = inr (inr (inr (on, grind arith)))
calm_asks hello a b la lb stamp k (inl x) (inl h) = asks hello 0 a b la lb stamp (repeats_ask hello b.mine a.mine b stamp refl x.some x.puts)
calm_asks hello a b la lb stamp k (inr (inl x)) (inl h) = absurd (grind (arith, h.0, x.owed))
calm_asks hello a b la lb stamp k (inr (inr (inl x))) (inl h) = asks hello 0 a b la lb stamp (greeting_asks hello b.mine a.mine b stamp refl k.is.left.some x.puts)
calm_asks hello a b la lb stamp k (inr (inr (inr x))) (inl h) = inr (inr (inr (x.met, grind arith)))

pub asking : {M : Type 0} → (hello : M) (quiet : Bool) → Stage hello quiet LeftMet (λ n. Calm) (λ pair. AllOwing 0 (swapped pair))
asking hello quiet =
    steady hello quiet LeftMet Calm (λ pair. AllOwing 0 (swapped pair)) (calm_keeps hello quiet)
    (λ a b la lb stamp is h. calm_asks hello a b la lb stamp is.known (known_ticking hello b stamp (some_right (pair_of a b la lb) is.known)) h)
    (keeps_for hello quiet Known LeftMet (λ pair. AllOwing 0 (swapped pair)) (λ pair is. is.known) (all_owing_swapped hello quiet))
