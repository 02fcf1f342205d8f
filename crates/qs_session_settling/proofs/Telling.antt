-- Whoever takes the last of so many messages owes, and tells that it handed them up.
use Rattle.std.proofs.Common.{◌≡◌, ◌⊎◌, Bool, ℕ, suc, ◌+◌, ◌<◌, ◌≤◌, true, refl, arith, List, [], ◌∷◌, ◌++◌, length, inl, inr}
use Rattle.std.specs.Prelude.{option_to_list}
use Rattle.qs_session_channels.specs.End.{End, Packet, received, sent, sent_packet, ticked, tick_packets}
use Rattle.qs_session_settling.specs.Pairs.{Pair}
use Rattle.qs_session_settling.proofs.Ticking.{sending}
use Rattle.qs_session_settling.proofs.Staying.{pair_of}
use Rattle.qs_session_settling.proofs.Stages.{Bears, Keeps, Stage, Stays, keeps_each}
use Rattle.qs_session_settling.proofs.Known.{Known, known_on, advances, to_right, KnownTaking, known_taking}
use Rattle.qs_session_settling.proofs.Answering.{Answerable, HasTaken, has_taken_on, HasSent, has_sent_on, Answered, answered_keeps, Owing, owing_bears, owing_next, owing_none, owing_more, owing_end}
use Rattle.qs_session_settling.proofs.HandingUp.{Reaches, reaches_bears, reaches_next, reaches_none}

-- the left end has sent t messages
pub record LeftSent {M : Type 0} (t : ℕ) (pair : Pair M) : Type 0 where
  pub known : Known pair
  pub sent : t ≤ pair.left.end.acked + length pair.left.end.kept

pub left_sent_on : {M : Type 0} → (hello : M) (quiet : Bool) (t : ℕ) → Stays hello quiet (LeftSent t)
left_sent_on hello quiet t step of pair is = record {
  known = known_on hello quiet step of pair is.known;
  sent = keeps_each hello quiet Known (HasSent t) (has_sent_on hello quiet t) step of pair is.known is.sent;
}

answerable_by : {M : Type 0} → (t : ℕ) (pair : Pair M) → LeftSent t pair → HasTaken t pair → Answerable t pair
answerable_by t pair is taken = record { known = is.known; taken = taken; sent = is.sent }

-- ---- the right end is to take the last of t messages among the next n packets, or has taken it, and owes its acknowledgement

abbrev pub Coming : {M : Type 0} → ℕ → ℕ → Pair M → Type 0
Coming t n pair = ((pair.right.end.taken < t) × Reaches t n pair) ⊎ (HasTaken t pair × Owing t n pair)

pub coming_on : {M : Type 0} → (t n m : ℕ) (a b c d : End M) (la lc lb ld : List (Packet M)) → LeftSent t (pair_of a b la lb) → d.taken ≡ b.taken → (Reaches t n (pair_of a b la lb) → Reaches t m (pair_of c d lc ld))
    → (Answerable t (pair_of a b la lb) → Owing t n (pair_of a b la lb) → Owing t m (pair_of c d lc ld)) → Coming t n (pair_of a b la lb) → Coming t m (pair_of c d lc ld)
coming_on t n m a b c d la lc lb ld is same up on (inl h) = inl (grind (arith, h.0, same), up h.1)
coming_on t n m a b c d la lc lb ld is same up on (inr h) = inr (grind (arith, h.0, same), on (answerable_by t (pair_of a b la lb) is h.0) h.1)

pub coming_bears : {M : Type 0} → (hello : M) (quiet : Bool) (t n : ℕ) → Bears hello quiet (LeftSent t) (Coming t n)
coming_bears hello quiet t n = let r = reaches_bears hello quiet t n in let o = owing_bears hello quiet t n in record {
  left_takes = λ a b la ps p is h. coming_on t n n a b (received a p) b la la (p ∷ ps) ps is refl (r.left_takes a b la ps p is.known) (o.left_takes a b la ps p) h;
  left_sends = λ on a b la lb x stamp is h. coming_on t n n a b (sent a x) b la (la ++ option_to_list (sent_packet a x stamp)) lb lb is refl (r.left_sends on a b la lb x stamp is.known) (o.left_sends on a b la lb x stamp) h;
  left_ticks = λ a b la lb stamp is h. coming_on t n n a b (ticked a) b la (la ++ tick_packets hello a stamp) lb lb is refl (r.left_ticks a b la lb stamp is.known) (o.left_ticks a b la lb stamp) h;
  right_sends = λ on a b la lb x stamp is h. coming_on t n n a b a (sent b x) la la lb (lb ++ option_to_list (sent_packet b x stamp)) is (sending b x stamp).taken (r.right_sends on a b la lb x stamp is.known) (o.right_sends on a b la lb x stamp) h;
  right_ticks = λ a b la lb stamp is h. coming_on t n n a b a (ticked b) la la lb (lb ++ tick_packets hello b stamp) is refl (r.right_ticks a b la lb stamp is.known) (o.right_ticks a b la lb stamp) h;
}

-- whoever hands up a message owes
taken_owes : {M : Type 0} → (e f : End M) (p : Packet M) → KnownTaking e p f → e.taken < f.taken → f.owed ≡ true
taken_owes e f p (inl x) more = absurd (grind (arith, x.same, more))
taken_owes e f p (inr (inl x)) more = absurd (grind (arith, x.same, more))
taken_owes e f p (inr (inr x)) more = x.asked (λ none. absurd (grind (arith, x.taken, more, none)))

pub coming_next : {M : Type 0} → (t n : ℕ) (a b : End M) (ps lb : List (Packet M)) (p : Packet M) → LeftSent t (pair_of a b (p ∷ ps) lb) → Coming t (suc n) (pair_of a b (p ∷ ps) lb) → Coming t n (pair_of a (received b p) ps lb)
coming_next {M} t n a b ps lb p is (inr h) = inr (grind (arith, h.0, (advances b p (to_right a b ps lb p is.known)).taken), owing_next t n a b ps lb p is.known h.1)
coming_next {M} t n a b ps lb p is (inl h) = by_taken (grind arith)
  where
    by_taken : ((received b p).taken < t) ⊎ (t ≤ (received b p).taken) → Coming t n (pair_of a (received b p) ps lb)
    by_taken (inl before) = inl (before, reaches_next t n a b ps lb p is.known h.1)
    by_taken (inr up) = inr (up, inr (inl (taken_owes b (received b p) p (known_taking b p (to_right a b ps lb p is.known)) (grind (arith, h.0, up)))))

coming_none : {M : Type 0} → (t n : ℕ) (a b : End M) (lb : List (Packet M)) → Coming t (suc n) (pair_of a b [] lb) → Coming t n (pair_of a b [] lb)
coming_none t n a b lb (inl h) = inl (h.0, reaches_none t n a b lb h.1)
coming_none t n a b lb (inr h) = inr (h.0, owing_none t n a b lb h.1)

coming_more : {M : Type 0} → (t : ℕ) (a b : End M) (ps lb : List (Packet M)) (p : Packet M) → LeftSent t (pair_of a b (p ∷ ps) lb) → Coming t 0 (pair_of a b (p ∷ ps) lb) → Coming t 0 (pair_of a (received b p) ps lb)
coming_more t a b ps lb p is (inl h) = absurd (grind (arith, h.0, h.1))
coming_more t a b ps lb p is (inr h) = inr (grind (arith, h.0, (advances b p (to_right a b ps lb p is.known)).taken), owing_more t a b ps lb p is.known h.1)

abbrev pub Told : {M : Type 0} → ℕ → Pair M → Type 0
Told t pair = HasTaken t pair × Answered t pair

coming_end : {M : Type 0} → (hello : M) (t : ℕ) (a b : End M) (la lb : List (Packet M)) (stamp : ℕ) → LeftSent t (pair_of a b la lb) → Coming t 0 (pair_of a b la lb) → Told t (pair_of a (ticked b) la (lb ++ tick_packets hello b stamp))
coming_end hello t a b la lb stamp is (inl h) = absurd (grind (arith, h.0, h.1))
coming_end hello t a b la lb stamp is (inr h) = (h.0, owing_end hello t a b la lb stamp (answerable_by t (pair_of a b la lb) is h.0) h.1)

told_keeps : {M : Type 0} → (hello : M) (quiet : Bool) (t : ℕ) → Keeps hello quiet (LeftSent t) (Told t)
told_keeps hello quiet t = let k = has_taken_on hello quiet t in let s = answered_keeps hello quiet t in record {
  bears = record {
    left_takes = λ a b la ps p is h. (k.bears.left_takes a b la ps p is.known h.0, s.bears.left_takes a b la ps p (answerable_by t (pair_of a b la (p ∷ ps)) is h.0) h.1);
    left_sends = λ on a b la lb x stamp is h. (k.bears.left_sends on a b la lb x stamp is.known h.0, s.bears.left_sends on a b la lb x stamp (answerable_by t (pair_of a b la lb) is h.0) h.1);
    left_ticks = λ a b la lb stamp is h. (k.bears.left_ticks a b la lb stamp is.known h.0, s.bears.left_ticks a b la lb stamp (answerable_by t (pair_of a b la lb) is h.0) h.1);
    right_sends = λ on a b la lb x stamp is h. (k.bears.right_sends on a b la lb x stamp is.known h.0, s.bears.right_sends on a b la lb x stamp (answerable_by t (pair_of a b la lb) is h.0) h.1);
    right_ticks = λ a b la lb stamp is h. (k.bears.right_ticks a b la lb stamp is.known h.0, s.bears.right_ticks a b la lb stamp (answerable_by t (pair_of a b la lb) is h.0) h.1);
  };
  right_takes = λ a b ps lb p is h. (k.right_takes a b ps lb p is.known h.0, s.right_takes a b ps lb p (answerable_by t (pair_of a b (p ∷ ps) lb) is h.0) h.1);
}

-- the right end takes the last of them, and answers
pub telling : {M : Type 0} → (hello : M) (quiet : Bool) (t : ℕ) → Stage hello quiet (LeftSent t) (Coming t) (Told t)
telling hello quiet t = record {
  bears = coming_bears hello quiet t;
  takes = coming_next t;
  finds_none = λ n a b lb is h. coming_none t n a b lb h;
  takes_more = coming_more t;
  ticks = coming_end hello t;
  keeps = told_keeps hello quiet t;
}
