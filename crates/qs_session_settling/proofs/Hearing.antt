-- An answer that stands on a link is taken in the next pass: so two passes answer whoever asks.
use Rattle.std.proofs.Common.{◌≡◌, ◌⊎◌, Bool, ℕ, suc, ◌+◌, ◌≤◌, true, false, refl, sym, subst, arith, List, [], ◌∷◌, ◌++◌, length, inl, inr}
use Rattle.std.specs.Prelude.{option_to_list}
use Rattle.qs_session_channels.specs.End.{End, Packet, received, sent, sent_packet, ticked, tick_packets}
use Rattle.qs_session_settling.specs.Pairs.{Pair, swapped}
use Rattle.qs_session_settling.proofs.Ticking.{sending}
use Rattle.qs_session_settling.proofs.Staying.{pair_of}
use Rattle.qs_session_settling.proofs.Stages.{Bears, Keeps, Stage, Stays, keeps_each}
use Rattle.qs_session_settling.proofs.Rows.{Row, parted, stays_row, staged_row, row_mirrored}
use Rattle.qs_session_settling.proofs.Within.{Within, within_more}
use Rattle.qs_session_settling.proofs.Known.{Known, known_on, known_swapped, advances, to_left, to_right}
use Rattle.qs_session_settling.proofs.Answering.{Naming, LeftHeard, Answered, AllOwing, Answerable, answerable_on, answering, hears_named, Owing}

-- the right end has sent t messages
pub record RightSent {M : Type 0} (t : ℕ) (pair : Pair M) : Type 0 where
  pub known : Known pair
  pub sent : t ≤ pair.right.end.acked + length pair.right.end.kept

abbrev HasSent : {M : Type 0} → ℕ → Pair M → Type 0
HasSent t pair = t ≤ pair.right.end.acked + length pair.right.end.kept

has_sent_on : {M : Type 0} → (hello : M) (quiet : Bool) (t : ℕ) → Keeps hello quiet Known (HasSent t)
has_sent_on hello quiet t = record {
  bears = record {
    left_takes = λ a b la ps p k h. h;
    left_sends = λ on a b la lb x stamp k h. h;
    left_ticks = λ a b la lb stamp k h. h;
    right_sends = λ on a b la lb x stamp k h. grind (arith, h, (sending b x stamp).acked, (sending b x stamp).kept);
    right_ticks = λ a b la lb stamp k h. h;
  };
  right_takes = λ a b ps lb p k h. grind (arith, h, (advances b p (to_right a b ps lb p k)).sum);
}

pub right_sent_on : {M : Type 0} → (hello : M) (quiet : Bool) (t : ℕ) → Stays hello quiet (RightSent t)
right_sent_on hello quiet t step of pair is = record {
  known = known_on hello quiet step of pair is.known;
  sent = keeps_each hello quiet Known (HasSent t) (has_sent_on hello quiet t) step of pair is.known is.sent;
}

abbrev pub RightHeard : {M : Type 0} → ℕ → Pair M → Type 0
RightHeard t pair = (pair.right.end.met ≡ true) × (t ≤ pair.right.end.acked)

abbrev pub RightAnswered : {M : Type 0} → ℕ → ℕ → Pair M → Type 0
RightAnswered t n pair = Within (Naming pair.left.end.mine pair.right.end.mine t) n pair.left.link ⊎ RightHeard t pair

pub right_heard_keeps : {M : Type 0} → (hello : M) (quiet : Bool) (t : ℕ) → Keeps hello quiet (RightSent t) (RightHeard t)
right_heard_keeps hello quiet t = record {
  bears = record {
    left_takes = λ a b la ps p is h. h;
    left_sends = λ on a b la lb x stamp is h. h;
    left_ticks = λ a b la lb stamp is h. h;
    right_sends = λ on a b la lb x stamp is h. let s = sending b x stamp in (grind (arith, h.0, s.met), grind (arith, h.1, s.acked));
    right_ticks = λ a b la lb stamp is h. h;
  };
  right_takes = λ a b ps lb p is h. let v = advances b p (to_right a b ps lb p is.known) in (v.met h.0, grind (arith, h.1, v.acked));
}

-- both ends go on, and nothing is taken from the link to the right one
on_by : {M : Type 0} → (t n : ℕ) (a b c d : End M) (la lc lb ld : List (Packet M)) → c.mine ≡ a.mine → d.mine ≡ b.mine → ((Q : Packet M → Type 0) → Within Q n la → Within Q n lc) → (RightHeard t (pair_of a b la lb) → RightHeard t (pair_of c d lc ld))
    → RightAnswered t n (pair_of a b la lb) → RightAnswered t n (pair_of c d lc ld)
on_by t n a b c d la lc lb ld mine other more on (inl h) =
    inl (subst (λ i. Within (Naming i d.mine t) n lc) (sym mine) (subst (λ j. Within (Naming a.mine j t) n lc) (sym other) (more (Naming a.mine b.mine t) h)))
on_by t n a b c d la lc lb ld mine other more on (inr h) = inr (on h)

bears : {M : Type 0} → (hello : M) (quiet : Bool) (t n : ℕ) → Bears hello quiet (RightSent t) (RightAnswered t n)
bears hello quiet t n = let k = (right_heard_keeps hello quiet t).bears in record {
  left_takes = λ a b la ps p is h. on_by t n a b (received a p) b la la (p ∷ ps) ps (advances a p (to_left a b la ps p is.known)).mine refl (λ Q w. w) (k.left_takes a b la ps p is) h;
  left_sends = λ on a b la lb x stamp is h. on_by t n a b (sent a x) b la (la ++ option_to_list (sent_packet a x stamp)) lb lb (sending a x stamp).mine refl (λ Q w. within_more Q n la (option_to_list (sent_packet a x stamp)) w) (k.left_sends on a b la lb x stamp is) h;
  left_ticks = λ a b la lb stamp is h. on_by t n a b (ticked a) b la (la ++ tick_packets hello a stamp) lb lb refl refl (λ Q w. within_more Q n la (tick_packets hello a stamp) w) (k.left_ticks a b la lb stamp is) h;
  right_sends = λ on a b la lb x stamp is h. on_by t n a b a (sent b x) la la lb (lb ++ option_to_list (sent_packet b x stamp)) refl (sending b x stamp).mine (λ Q w. w) (k.right_sends on a b la lb x stamp is) h;
  right_ticks = λ a b la lb stamp is h. on_by t n a b a (ticked b) la la lb (lb ++ tick_packets hello b stamp) refl refl (λ Q w. w) (k.right_ticks a b la lb stamp is) h;
}

next : {M : Type 0} → (hello : M) (t n : ℕ) (a b : End M) (ps lb : List (Packet M)) (p : Packet M) → RightSent t (pair_of a b (p ∷ ps) lb) → RightAnswered t (suc n) (pair_of a b (p ∷ ps) lb) → RightAnswered t n (pair_of a (received b p) ps lb)
next hello t n a b ps lb p is (inl (inl here)) = inr (hears_named t b a p is.known.right (to_right a b ps lb p is.known) here is.sent)
next hello t n a b ps lb p is (inl (inr later)) = inl (subst (λ j. Within (Naming a.mine j t) n ps) (sym (advances b p (to_right a b ps lb p is.known)).mine) later)
next hello t n a b ps lb p is (inr h) = inr ((right_heard_keeps hello false t).right_takes a b ps lb p is h)

none : {M : Type 0} → (t n : ℕ) (a b : End M) (lb : List (Packet M)) → RightAnswered t (suc n) (pair_of a b [] lb) → RightAnswered t n (pair_of a b [] lb)
none t n a b lb (inl h) = absurd h
none t n a b lb (inr h) = inr h

end : {M : Type 0} → (t : ℕ) (pair : Pair M) → RightAnswered t 0 pair → RightHeard t pair
end t pair (inl h) = absurd h
end t pair (inr h) = h

-- the right end takes an answer
pub hearing : {M : Type 0} → (hello : M) (quiet : Bool) (t : ℕ) → Stage hello quiet (RightSent t) (RightAnswered t) (RightHeard t)
hearing hello quiet t = record {
  bears = bears hello quiet t;
  takes = λ n a b ps lb p is h. next hello t n a b ps lb p is h;
  finds_none = λ n a b lb is h. none t n a b lb h;
  takes_more = λ a b ps lb p is h. inr ((right_heard_keeps hello quiet t).right_takes a b ps lb p is (end t (pair_of a b (p ∷ ps) lb) h));
  ticks = λ a b la lb stamp is h. end t (pair_of a b la lb) h;
  keeps = right_heard_keeps hello quiet t;
}

-- ---- two passes answer the left end

pub hears : {M : Type 0} → (hello : M) (quiet : Bool) (t : ℕ) (old new : Pair M) → Answerable t old → AllOwing t old → Row hello quiet 2 old new → LeftHeard t new
hears hello quiet t old new is h row =
    let p = parted hello quiet 1 1 old new row in
    let said = staged_row hello quiet (Answerable t) (Owing t) (Answered t) (answerable_on hello quiet t) (answering hello quiet t) old p.0 p.1 is h in
    let mid = stays_row hello quiet (Answerable t) (answerable_on hello quiet t) 1 old p.0 p.1 is in
    staged_row hello quiet (RightSent t) (RightAnswered t) (RightHeard t) (right_sent_on hello quiet t) (hearing hello quiet t) (swapped p.0) (swapped new) (row_mirrored hello quiet 1 p.0 new p.2)
    (record { known = known_swapped p.0 mid.known; sent = mid.sent }) said
