-- Two ends that have met and keep nothing put acknowledgements alone: these make nobody owe one, so soon none is put.
use Rattle.std.proofs.Common.{◌≡◌, ℕ, ◌≤◌, true, false, refl, sym, subst, arith, List, [], ◌∷◌, ◌++◌, length, length-append, inl, inr}
use Rattle.qs_session_channels.specs.End.{End, Packet, received, tick_packets}
use Rattle.qs_session_settling.specs.Pairs.{Pair, Step, swapped, stepped}
use Rattle.qs_session_settling.proofs.Ticking.{Each, each_both, each_map}
use Rattle.qs_session_settling.proofs.Staying.{pair_of}
use Rattle.qs_session_settling.proofs.Stages.{IsOf, Bears, Keeps, Stage, Stays, keeps_each}
use Rattle.qs_session_settling.proofs.Behind.{Behind, behind_more, behind_map, behind_none}
use Rattle.qs_session_settling.proofs.Known.{Known, known_on, known_swapped, KnownTaking, known_taking, advances, to_left, to_right, some_left, KnownTicking, known_ticking}
use Rattle.qs_session_settling.proofs.Calming.{IsMet, is_met_on}
use Rattle.qs_session_settling.proofs.Keeping.{keeps_swapped}

-- both have met and keep nothing
pub record Still {M : Type 0} (pair : Pair M) : Type 0 where
  pub known : Known pair
  pub left_met : pair.left.end.met ≡ true
  pub right_met : pair.right.end.met ≡ true
  pub left_none : length pair.left.end.kept ≡ 0
  pub right_none : length pair.right.end.kept ≡ 0

pub still_swapped : {M : Type 0} → (pair : Pair M) → Still pair → Still (swapped pair)
still_swapped pair is = record { known = known_swapped pair is.known; left_met = is.right_met; right_met = is.left_met; left_none = is.right_none; right_none = is.left_none }

abbrev pub KeepsNone : {M : Type 0} → Pair M → Type 0
KeepsNone pair = length pair.left.end.kept ≡ 0

pub keeps_none_on : {M : Type 0} → (hello : M) → Keeps hello true Known KeepsNone
keeps_none_on hello = record {
  bears = record {
    left_takes = λ a b la ps p k h. grind (arith, h, (advances a p (to_left a b la ps p k)).less);
    left_sends = λ on a b la lb x stamp k h. absurd (grind (arith, on));
    left_ticks = λ a b la lb stamp k h. h;
    right_sends = λ on a b la lb x stamp k h. h;
    right_ticks = λ a b la lb stamp k h. h;
  };
  right_takes = λ a b ps lb p k h. h;
}

-- a fact of the left end stays so of the right one
right_keeps : {M : Type 0} → (hello : M) (P : Pair M → Type 0) → Keeps hello true Known P → (step : Step M) → IsOf true (step ∷ []) → (pair : Pair M) → Known pair → P (swapped pair) → P (swapped (stepped hello step pair))
right_keeps hello P k step of pair is h = keeps_each hello true (λ x. Known (swapped x)) (λ x. P (swapped x)) (keeps_swapped hello true Known P k) step of pair (known_swapped pair is) h

pub still_on : {M : Type 0} → (hello : M) → Stays hello true Still
still_on hello step of pair is = record {
  known = known_on hello true step of pair is.known;
  left_met = keeps_each hello true Known IsMet (is_met_on hello true) step of pair is.known is.left_met;
  right_met = right_keeps hello IsMet (is_met_on hello true) step of pair is.known is.right_met;
  left_none = keeps_each hello true Known KeepsNone (keeps_none_on hello) step of pair is.known is.left_none;
  right_none = right_keeps hello KeepsNone (keeps_none_on hello) step of pair is.known is.right_none;
}

-- ---- an acknowledgement alone, from the one end to the other

abbrev pub Bare : {M : Type 0} → End M → End M → Packet M → Type 0
Bare a b p = (p.inc ≡ a.mine) × (p.to_inc ≡ b.mine) × (p.number ≡ 0)

bare_same : {M : Type 0} → (a b c d : End M) → c.mine ≡ a.mine → d.mine ≡ b.mine → (p : Packet M) → Bare a b p → Bare c d p
bare_same a b c d mine other p is = (grind (arith, is.0, mine), grind (arith, is.1, other), is.2)

each_same : {M : Type 0} → (a b c d : End M) (ps : List (Packet M)) → c.mine ≡ a.mine → d.mine ≡ b.mine → Each (Bare a b) ps → Each (Bare c d) ps
each_same a b c d ps mine other is = each_map (Bare a b) (Bare c d) (bare_same a b c d mine other) ps is

behind_same : {M : Type 0} → (n : ℕ) (a b c d : End M) (ps : List (Packet M)) → c.mine ≡ a.mine → d.mine ≡ b.mine → Behind (Bare a b) n ps → Behind (Bare c d) n ps
behind_same n a b c d ps mine other is = behind_map (Bare a b) (Bare c d) (bare_same a b c d mine other) n ps is

tick_bare : {M : Type 0} → (hello : M) (a b : End M) (stamp : ℕ) → a.known ≡ b.mine → a.met ≡ true → length a.kept ≡ 0 → KnownTicking hello a stamp → Each (Bare a b) (tick_packets hello a stamp)
tick_bare hello a b stamp known met none (inl x) = absurd (x.some none)
tick_bare hello a b stamp known met none (inr (inl x)) = subst (λ ps. Each (Bare a b) ps) (sym x.puts) ((refl, known, refl), tt)
tick_bare hello a b stamp known met none (inr (inr (inl x))) = absurd (grind (arith, met, x.met))
tick_bare hello a b stamp known met none (inr (inr (inr x))) = subst (λ ps. Each (Bare a b) ps) (sym x.puts) tt

puts_bare : {M : Type 0} → (hello : M) (a b : End M) (la lb : List (Packet M)) (stamp : ℕ) → Still (pair_of a b la lb) → Each (Bare a b) (tick_packets hello a stamp)
puts_bare hello a b la lb stamp is = tick_bare hello a b stamp is.known.left is.left_met is.left_none (known_ticking hello a stamp (some_left (pair_of a b la lb) is.known))

-- it makes nobody owe one
bare_in : {M : Type 0} → (b d : End M) (p : Packet M) → KnownTaking b p d → p.inc ≡ b.known → p.to_inc ≡ b.mine → p.number ≡ 0 → b.owed ≡ false → d.owed ≡ false
bare_in b d p (inl x) by for none off = absurd (grind (arith, x.older, by))
bare_in b d p (inr (inl x)) by for none off = absurd (x.for for)
bare_in b d p (inr (inr x)) by for none off = grind (arith, x.calm none, off)

-- ---- the right end owes none, and nothing on the link to it makes it owe one

abbrev pub Quieted : {M : Type 0} → Pair M → Type 0
Quieted pair = (pair.right.end.owed ≡ false) × Each (Bare pair.left.end pair.right.end) pair.left.link

quieted_next : {M : Type 0} → (a b : End M) (ps lb : List (Packet M)) (p : Packet M) → Known (pair_of a b (p ∷ ps) lb) → Quieted (pair_of a b (p ∷ ps) lb) → Quieted (pair_of a (received b p) ps lb)
quieted_next a b ps lb p k h =
    let old = to_right a b ps lb p k in
    (bare_in b (received b p) p (known_taking b p old) (grind (arith, h.1.0.0, k.right)) h.1.0.1 h.1.0.2 h.0, each_same a b a (received b p) ps refl (advances b p old).mine h.1.1)

pub quieted_keeps : {M : Type 0} → (hello : M) → Keeps hello true Still Quieted
quieted_keeps hello = record {
  bears = record {
    left_takes = λ a b la ps p is h. (h.0, each_same a b (received a p) b la (advances a p (to_left a b la ps p is.known)).mine refl h.1);
    left_sends = λ on a b la lb x stamp is h. absurd (grind (arith, on));
    left_ticks = λ a b la lb stamp is h. (h.0, each_both (Bare a b) la (tick_packets hello a stamp) h.1 (puts_bare hello a b la lb stamp is));
    right_sends = λ on a b la lb x stamp is h. absurd (grind (arith, on));
    right_ticks = λ a b la lb stamp is h. (refl, h.1);
  };
  right_takes = λ a b ps lb p is h. quieted_next a b ps lb p is.known h;
}

abbrev pub BareBehind : {M : Type 0} → ℕ → Pair M → Type 0
BareBehind n pair = Behind (Bare pair.left.end pair.right.end) n pair.left.link

behind_empty : {M : Type 0} → (Q : Packet M → Type 0) (n : ℕ) → Behind Q n []
behind_empty Q n = tt

pub quieting : {M : Type 0} → (hello : M) → Stage hello true Still BareBehind Quieted
quieting hello = record {
  bears = λ n. record {
    left_takes = λ a b la ps p is h. behind_same n a b (received a p) b la (advances a p (to_left a b la ps p is.known)).mine refl h;
    left_sends = λ on a b la lb x stamp is h. absurd (grind (arith, on));
    left_ticks = λ a b la lb stamp is h. behind_more (Bare a b) n la (tick_packets hello a stamp) h (puts_bare hello a b la lb stamp is);
    right_sends = λ on a b la lb x stamp is h. absurd (grind (arith, on));
    right_ticks = λ a b la lb stamp is h. h;
  };
  takes = λ n a b ps lb p is h. behind_same n a b a (received b p) ps refl (advances b p (to_right a b ps lb p is.known)).mine h;
  finds_none = λ n a b lb is h. behind_empty (Bare a b) n;
  takes_more = λ a b ps lb p is h. behind_same 0 a b a (received b p) ps refl (advances b p (to_right a b ps lb p is.known)).mine h.1;
  ticks = λ a b la lb stamp is h. (refl, behind_none (Bare a b) la h);
  keeps = quieted_keeps hello;
}

-- ---- and where neither owes one nothing is put, so the links empty

pub record Silent {M : Type 0} (pair : Pair M) : Type 0 where
  pub still : Still pair
  pub right : Quieted pair
  pub left : Quieted (swapped pair)

pub silent_on : {M : Type 0} → (hello : M) → Stays hello true Silent
silent_on hello step of pair is = record {
  still = still_on hello step of pair is.still;
  right = keeps_each hello true Still Quieted (quieted_keeps hello) step of pair is.still is.right;
  left = keeps_each hello true (λ x. Still (swapped x)) (λ x. Quieted (swapped x)) (keeps_swapped hello true Still Quieted (quieted_keeps hello)) step of pair (still_swapped pair is.still) is.left;
}

tick_none : {M : Type 0} → (hello : M) (a : End M) (stamp : ℕ) → a.met ≡ true → a.owed ≡ false → length a.kept ≡ 0 → KnownTicking hello a stamp → tick_packets hello a stamp ≡ []
tick_none hello a stamp met off none (inl x) = absurd (x.some none)
tick_none hello a stamp met off none (inr (inl x)) = absurd (grind (arith, off, x.owed))
tick_none hello a stamp met off none (inr (inr (inl x))) = absurd (grind (arith, met, x.met))
tick_none hello a stamp met off none (inr (inr (inr x))) = x.puts

pub puts_none : {M : Type 0} → (hello : M) (pair : Pair M) (stamp : ℕ) → Known pair → pair.left.end.met ≡ true → pair.left.end.owed ≡ false → length pair.left.end.kept ≡ 0 → tick_packets hello pair.left.end stamp ≡ []
puts_none hello pair stamp k met off none = tick_none hello pair.left.end stamp met off none (known_ticking hello pair.left.end stamp (some_left pair k))

-- no more than n packets stand on the link to the right end
abbrev pub AtMost : {M : Type 0} → ℕ → Pair M → Type 0
AtMost n pair = length pair.left.link ≤ n

at_most_ticks : {M : Type 0} → (hello : M) (n : ℕ) (a b : End M) (la lb : List (Packet M)) (stamp : ℕ) → Silent (pair_of a b la lb) → length la ≤ n → length (la ++ tick_packets hello a stamp) ≤ n
at_most_ticks hello n a b la lb stamp is h =
    subst (λ ps. length (la ++ ps) ≤ n) (sym (puts_none hello (pair_of a b la lb) stamp is.still.known is.still.left_met is.left.0 is.still.left_none)) (grind (arith, length-append, h))

at_most_bears : {M : Type 0} → (hello : M) (n : ℕ) → Bears hello true Silent (AtMost n)
at_most_bears hello n = record {
  left_takes = λ a b la ps p is h. h;
  left_sends = λ on a b la lb x stamp is h. absurd (grind (arith, on));
  left_ticks = λ a b la lb stamp is h. at_most_ticks hello n a b la lb stamp is h;
  right_sends = λ on a b la lb x stamp is h. absurd (grind (arith, on));
  right_ticks = λ a b la lb stamp is h. h;
}

pub emptying : {M : Type 0} → (hello : M) → Stage hello true Silent AtMost (AtMost 0)
emptying hello = record {
  bears = at_most_bears hello;
  takes = λ n a b ps lb p is h. grind (arith, h);
  finds_none = λ n a b lb is h. grind (arith, h);
  takes_more = λ a b ps lb p is h. absurd (grind (arith, h));
  ticks = λ a b la lb stamp is h. h;
  keeps = record { bears = at_most_bears hello 0; right_takes = λ a b ps lb p is h. absurd (grind (arith, h)) };
}
