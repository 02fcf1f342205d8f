-- Who asks is answered: behind a packet that asks, the other end owes, and what it puts then names the one that asked.
use Rattle.std.proofs.Common.{◌≡◌, ◌≢◌, ◌⊎◌, Bool, ℕ, suc, ◌+◌, ◌≤◌, true, false, refl, sym, subst, arith, List, [], ◌∷◌, ◌++◌, length, inl, inr}
use Rattle.std.specs.Prelude.{option_to_list}
use Rattle.qs_session_channels.specs.End.{End, Packet, received, sent, sent_packet, ticked, tick_packets, again}
use Rattle.qs_session_settling.specs.Pairs.{Pair}
use Rattle.qs_session_settling.proofs.Ticking.{sending}
use Rattle.qs_session_settling.proofs.Staying.{pair_of}
use Rattle.qs_session_settling.proofs.Stages.{Bears, Keeps, Stage, Stays, keeps_each}
use Rattle.qs_session_settling.proofs.Within.{Within, within_more, within_front, within_behind}
use Rattle.qs_session_settling.proofs.Known.{Known, known_on, KnownTaking, known_taking, advances, to_left, to_right, some_right, KnownTicking, known_ticking}

-- of incarnation i, and a greeting to another than j, or a message
abbrev pub Asking : {M : Type 0} → ℕ → ℕ → Packet M → Type 0
Asking i j p = (p.inc ≡ i) × ((p.to_inc ≢ j) ⊎ (p.number ≢ 0))

-- of incarnation i for j, and acknowledges t messages
abbrev pub Naming : {M : Type 0} → ℕ → ℕ → ℕ → Packet M → Type 0
Naming i j t p = (p.inc ≡ i) × (p.to_inc ≡ j) × (t ≤ p.ack)

-- the left end has met the right one, and is told that t messages were handed up
abbrev pub LeftHeard : {M : Type 0} → ℕ → Pair M → Type 0
LeftHeard t pair = (pair.left.end.met ≡ true) × (t ≤ pair.left.end.acked)

-- or a packet that tells it so stands on the link to it
abbrev pub Answered : {M : Type 0} → ℕ → Pair M → Type 0
Answered t pair = Within (Naming pair.right.end.mine pair.left.end.mine t) (length pair.right.link) pair.right.link ⊎ LeftHeard t pair

-- or the right end owes it, or is to take a packet that asks for it, among the next n
abbrev pub Owing : {M : Type 0} → ℕ → ℕ → Pair M → Type 0
Owing t n pair = Within (Asking pair.left.end.mine pair.right.end.mine) n pair.left.link ⊎ (pair.right.end.owed ≡ true) ⊎ Answered t pair

-- the right end has handed up t messages, and the left one has sent as many
pub record Answerable {M : Type 0} (t : ℕ) (pair : Pair M) : Type 0 where
  pub known : Known pair
  pub taken : t ≤ pair.right.end.taken
  pub sent : t ≤ pair.left.end.acked + length pair.left.end.kept

-- ---- what is handed up and sent only rises

abbrev pub HasTaken : {M : Type 0} → ℕ → Pair M → Type 0
HasTaken t pair = t ≤ pair.right.end.taken

pub has_taken_on : {M : Type 0} → (hello : M) (quiet : Bool) (t : ℕ) → Keeps hello quiet Known (HasTaken t)
has_taken_on hello quiet t = record {
  bears = record {
    left_takes = λ a b la ps p k h. h;
    left_sends = λ on a b la lb x stamp k h. h;
    left_ticks = λ a b la lb stamp k h. h;
    right_sends = λ on a b la lb x stamp k h. grind (arith, h, (sending b x stamp).taken);
    right_ticks = λ a b la lb stamp k h. h;
  };
  right_takes = λ a b ps lb p k h. grind (arith, h, (advances b p (to_right a b ps lb p k)).taken);
}

abbrev pub HasSent : {M : Type 0} → ℕ → Pair M → Type 0
HasSent t pair = t ≤ pair.left.end.acked + length pair.left.end.kept

pub has_sent_on : {M : Type 0} → (hello : M) (quiet : Bool) (t : ℕ) → Keeps hello quiet Known (HasSent t)
has_sent_on hello quiet t = record {
  bears = record {
    left_takes = λ a b la ps p k h. grind (arith, h, (advances a p (to_left a b la ps p k)).sum);
    left_sends = λ on a b la lb x stamp k h. grind (arith, h, (sending a x stamp).acked, (sending a x stamp).kept);
    left_ticks = λ a b la lb stamp k h. h;
    right_sends = λ on a b la lb x stamp k h. h;
    right_ticks = λ a b la lb stamp k h. h;
  };
  right_takes = λ a b ps lb p k h. h;
}

pub answerable_on : {M : Type 0} → (hello : M) (quiet : Bool) (t : ℕ) → Stays hello quiet (Answerable t)
answerable_on hello quiet t step of pair is = record {
  known = known_on hello quiet step of pair is.known;
  taken = keeps_each hello quiet Known (HasTaken t) (has_taken_on hello quiet t) step of pair is.known is.taken;
  sent = keeps_each hello quiet Known (HasSent t) (has_sent_on hello quiet t) step of pair is.known is.sent;
}

-- ---- an answer stands until it is taken

-- the left end and the right one go on, and no packet is taken from the link to the left one
pub answered_on : {M : Type 0} → (t : ℕ) (a b c d : End M) (la lc lb ld : List (Packet M)) → c.mine ≡ a.mine → (a.met ≡ true → c.met ≡ true) → a.acked ≤ c.acked → d.mine ≡ b.mine
    → ((Q : Packet M → Type 0) → Within Q (length lb) lb → Within Q (length ld) ld) → Answered t (pair_of a b la lb) → Answered t (pair_of c d lc ld)
answered_on t a b c d la lc lb ld mine met acked other more (inl h) =
    inl (subst (λ i. Within (Naming i c.mine t) (length ld) ld) (sym other) (subst (λ j. Within (Naming b.mine j t) (length ld) ld) (sym mine) (more (Naming b.mine a.mine t) h)))
answered_on t a b c d la lc lb ld mine met acked other more (inr h) = inr (met h.0, grind (arith, h.1, acked))

named_in : {M : Type 0} → (t : ℕ) (a c : End M) (p : Packet M) → KnownTaking a p c → Naming a.known a.mine t p → t ≤ a.acked + length a.kept → (c.met ≡ true) × (t ≤ c.acked)
named_in t a c p (inl x) is below = absurd (grind (arith, x.older, is.0))
named_in t a c p (inr (inl x)) is below = absurd (x.for is.1)
named_in t a c p (inr (inr x)) is below = (x.met, x.acks t is.2 below)

-- an end that knows who put a packet for it takes it in
pub hears_named : {M : Type 0} → (t : ℕ) (a b : End M) (p : Packet M) → a.known ≡ b.mine → p.inc ≤ a.known → Naming b.mine a.mine t p → t ≤ a.acked + length a.kept → ((received a p).met ≡ true) × (t ≤ (received a p).acked)
hears_named t a b p knows old is below = named_in t a (received a p) p (known_taking a p old) (grind (arith, is.0, knows), is.1, is.2) below

pub answered_left : {M : Type 0} → (t : ℕ) (a b : End M) (la ps : List (Packet M)) (p : Packet M) → Known (pair_of a b la (p ∷ ps)) → t ≤ a.acked + length a.kept → Answered t (pair_of a b la (p ∷ ps)) → Answered t (pair_of (received a p) b la ps)
answered_left t a b la ps p k below (inl (inl here)) = inr (hears_named t a b p k.left (to_left a b la ps p k) here below)
answered_left t a b la ps p k below (inl (inr later)) =
    let v = advances a p (to_left a b la ps p k) in inl (subst (λ j. Within (Naming b.mine j t) (length ps) ps) (sym v.mine) later)
answered_left t a b la ps p k below (inr h) = let v = advances a p (to_left a b la ps p k) in inr (v.met h.0, grind (arith, h.1, v.acked))

pub answered_keeps : {M : Type 0} → (hello : M) (quiet : Bool) (t : ℕ) → Keeps hello quiet (Answerable t) (Answered t)
answered_keeps hello quiet t = record {
  bears = record {
    left_takes = λ a b la ps p is h. answered_left t a b la ps p is.known is.sent h;
    left_sends = λ on a b la lb x stamp is h. let s = sending a x stamp in answered_on t a b (sent a x) b la (la ++ option_to_list (sent_packet a x stamp)) lb lb s.mine (λ met. grind (arith, met, s.met)) (grind (arith, s.acked)) refl (λ Q w. w) h;
    left_ticks = λ a b la lb stamp is h. answered_on t a b (ticked a) b la (la ++ tick_packets hello a stamp) lb lb refl (λ met. met) (grind arith) refl (λ Q w. w) h;
    right_sends = λ on a b la lb x stamp is h. answered_on t a b a (sent b x) la la lb (lb ++ option_to_list (sent_packet b x stamp)) refl (λ met. met) (grind arith) (sending b x stamp).mine (λ Q w. within_front Q lb (option_to_list (sent_packet b x stamp)) w) h;
    right_ticks = λ a b la lb stamp is h. answered_on t a b a (ticked b) la la lb (lb ++ tick_packets hello b stamp) refl (λ met. met) (grind arith) refl (λ Q w. within_front Q lb (tick_packets hello b stamp) w) h;
  };
  right_takes = λ a b ps lb p is h. answered_on t a b a (received b p) (p ∷ ps) ps lb lb refl (λ met. met) (grind arith) (advances b p (to_right a b ps lb p is.known)).mine (λ Q w. w) h;
}

-- ---- what an end that owes puts

first_named : {M : Type 0} → (i j t : ℕ) (e : End M) (stamp : ℕ) → e.mine ≡ i → e.known ≡ j → t ≤ e.taken → (k : ℕ) (xs : List M) → length xs ≢ 0 → Within (Naming i j t) (length (again e stamp k xs)) (again e stamp k xs)
first_named i j t e stamp mine known below k [] some = absurd (some refl)
first_named i j t e stamp mine known below k (x ∷ xs) some = inl (mine, known, below)

owed_puts : {M : Type 0} → (hello : M) (i j t : ℕ) (e : End M) (stamp : ℕ) → e.mine ≡ i → e.known ≡ j → t ≤ e.taken → e.owed ≡ true → KnownTicking hello e stamp → Within (Naming i j t) (length (tick_packets hello e stamp)) (tick_packets hello e stamp)
owed_puts hello i j t e stamp mine known below on (inl x) = subst (λ ps. Within (Naming i j t) (length ps) ps) (sym x.puts) (first_named i j t e stamp mine known below e.acked e.kept x.some)
owed_puts hello i j t e stamp mine known below on (inr (inl x)) = subst (λ ps. Within (Naming i j t) (length ps) ps) (sym x.puts) (inl (mine, known, below))
owed_puts hello i j t e stamp mine known below on (inr (inr (inl x))) = absurd (grind (arith, on, x.owed))
owed_puts hello i j t e stamp mine known below on (inr (inr (inr x))) = absurd (grind (arith, on, x.owed))

pub owed_ticks : {M : Type 0} → (hello : M) (t : ℕ) (a b : End M) (la lb : List (Packet M)) (stamp : ℕ) → Known (pair_of a b la lb) → t ≤ b.taken → b.owed ≡ true → Answered t (pair_of a (ticked b) la (lb ++ tick_packets hello b stamp))
owed_ticks hello t a b la lb stamp k below on =
    inl (within_behind (Naming b.mine a.mine t) lb (tick_packets hello b stamp) (owed_puts hello b.mine a.mine t b stamp refl k.right below on (known_ticking hello b stamp (some_right (pair_of a b la lb) k))))

sent_puts : {M : Type 0} → (t : ℕ) (a b : End M) (la lb : List (Packet M)) (x : M) (stamp : ℕ) → Known (pair_of a b la lb) → t ≤ b.taken → Answered t (pair_of a (sent b x) la (lb ++ option_to_list (sent_packet b x stamp)))
sent_puts {M} t a b la lb x stamp k below =
    let s = sending b x stamp in
    let one : Within (Naming b.mine a.mine t) (length (option_to_list (sent_packet b x stamp))) (option_to_list (sent_packet b x stamp)) =
    subst (λ ps. Within (Naming b.mine a.mine t) (length ps) ps) (sym (s.puts (some_right (pair_of a b la lb) k))) (inl (refl, k.right, below)) in
    let all = within_behind (Naming b.mine a.mine t) lb (option_to_list (sent_packet b x stamp)) one in
    inl (subst (λ i. Within (Naming i a.mine t) (length (lb ++ option_to_list (sent_packet b x stamp))) (lb ++ option_to_list (sent_packet b x stamp))) (sym s.mine) all)

-- ---- the right end takes a packet

asked_in : {M : Type 0} → (b d : End M) (p : Packet M) → KnownTaking b p d → Asking b.known b.mine p → d.owed ≡ true
asked_in b d p (inl x) is = absurd (grind (arith, x.older, is.0))
asked_in b d p (inr (inl x)) is = grind (arith, x.same)
asked_in b d p (inr (inr x)) (is, inl other) = absurd (other x.for)
asked_in b d p (inr (inr x)) (is, inr some) = x.asked some

pub owing_next : {M : Type 0} → (t n : ℕ) (a b : End M) (ps lb : List (Packet M)) (p : Packet M) → Known (pair_of a b (p ∷ ps) lb) → Owing t (suc n) (pair_of a b (p ∷ ps) lb) → Owing t n (pair_of a (received b p) ps lb)
owing_next t n a b ps lb p k (inl (inl here)) = inr (inl (asked_in b (received b p) p (known_taking b p (to_right a b ps lb p k)) (grind (arith, here.0, k.right), here.1)))
owing_next t n a b ps lb p k (inl (inr later)) = let v = advances b p (to_right a b ps lb p k) in inl (subst (λ j. Within (Asking a.mine j) n ps) (sym v.mine) later)
owing_next t n a b ps lb p k (inr (inl on)) = inr (inl ((advances b p (to_right a b ps lb p k)).owed on))
owing_next t n a b ps lb p k (inr (inr h)) = inr (inr (answered_on t a b a (received b p) (p ∷ ps) ps lb lb refl (λ met. met) (grind arith) (advances b p (to_right a b ps lb p k)).mine (λ Q w. w) h))

pub owing_none : {M : Type 0} → (t n : ℕ) (a b : End M) (lb : List (Packet M)) → Owing t (suc n) (pair_of a b [] lb) → Owing t n (pair_of a b [] lb)
owing_none t n a b lb (inl h) = absurd h
owing_none t n a b lb (inr h) = inr h

-- ---- either end does something else

pub owing_on : {M : Type 0} → (t n m : ℕ) (a b c : End M) (la lc lb : List (Packet M)) → c.mine ≡ a.mine → ((Q : Packet M → Type 0) → Within Q n la → Within Q m lc) → (Answered t (pair_of a b la lb) → Answered t (pair_of c b lc lb))
    → Owing t n (pair_of a b la lb) → Owing t m (pair_of c b lc lb)
owing_on t n m a b c la lc lb mine more on (inl h) = inl (subst (λ i. Within (Asking i b.mine) m lc) (sym mine) (more (Asking a.mine b.mine) h))
owing_on t n m a b c la lc lb mine more on (inr (inl owed)) = inr (inl owed)
owing_on t n m a b c la lc lb mine more on (inr (inr h)) = inr (inr (on h))

owing_left : {M : Type 0} → (t n : ℕ) (a b : End M) (la ps : List (Packet M)) (p : Packet M) → Answerable t (pair_of a b la (p ∷ ps)) → Owing t n (pair_of a b la (p ∷ ps)) → Owing t n (pair_of (received a p) b la ps)
owing_left t n a b la ps p is (inl h) = inl (subst (λ i. Within (Asking i b.mine) n la) (sym (advances a p (to_left a b la ps p is.known)).mine) h)
owing_left t n a b la ps p is (inr (inl owed)) = inr (inl owed)
owing_left t n a b la ps p is (inr (inr h)) = inr (inr (answered_left t a b la ps p is.known is.sent h))

owing_sends : {M : Type 0} → (t n : ℕ) (a b : End M) (la lb : List (Packet M)) (x : M) (stamp : ℕ) → Answerable t (pair_of a b la lb) → Owing t n (pair_of a b la lb) → Owing t n (pair_of a (sent b x) la (lb ++ option_to_list (sent_packet b x stamp)))
owing_sends t n a b la lb x stamp is h = inr (inr (sent_puts t a b la lb x stamp is.known is.taken))

owing_ticks : {M : Type 0} → (hello : M) (t n : ℕ) (a b : End M) (la lb : List (Packet M)) (stamp : ℕ) → Answerable t (pair_of a b la lb) → Owing t n (pair_of a b la lb) → Owing t n (pair_of a (ticked b) la (lb ++ tick_packets hello b stamp))
owing_ticks hello t n a b la lb stamp is (inl h) = inl h
owing_ticks hello t n a b la lb stamp is (inr (inl on)) = inr (inr (owed_ticks hello t a b la lb stamp is.known is.taken on))
owing_ticks hello t n a b la lb stamp is (inr (inr h)) = inr (inr (answered_on t a b a (ticked b) la la lb (lb ++ tick_packets hello b stamp) refl (λ met. met) (grind arith) refl (λ Q w. within_front Q lb (tick_packets hello b stamp) w) h))

-- while n are still to be taken, and of all that stand there
pub owing_bears : {M : Type 0} → (hello : M) (quiet : Bool) (t n : ℕ) → Bears hello quiet (Answerable t) (Owing t n)
owing_bears hello quiet t n = record {
  left_takes = λ a b la ps p is h. owing_left t n a b la ps p is h;
  left_sends = λ on a b la lb x stamp is h. owing_on t n n a b (sent a x) la (la ++ option_to_list (sent_packet a x stamp)) lb (sending a x stamp).mine (λ Q w. within_more Q n la (option_to_list (sent_packet a x stamp)) w) ((answered_keeps hello quiet t).bears.left_sends on a b la lb x stamp is) h;
  left_ticks = λ a b la lb stamp is h. owing_on t n n a b (ticked a) la (la ++ tick_packets hello a stamp) lb refl (λ Q w. within_more Q n la (tick_packets hello a stamp) w) ((answered_keeps hello quiet t).bears.left_ticks a b la lb stamp is) h;
  right_sends = λ on a b la lb x stamp is h. owing_sends t n a b la lb x stamp is h;
  right_ticks = λ a b la lb stamp is h. owing_ticks hello t n a b la lb stamp is h;
}

abbrev pub AllOwing : {M : Type 0} → ℕ → Pair M → Type 0
AllOwing t pair = Owing t (length pair.left.link) pair

pub all_owing_keeps : {M : Type 0} → (hello : M) (quiet : Bool) (t : ℕ) → Keeps hello quiet (Answerable t) (AllOwing t)
all_owing_keeps hello quiet t = record {
  bears = record {
    left_takes = λ a b la ps p is h. owing_left t (length la) a b la ps p is h;
    left_sends = λ on a b la lb x stamp is h. owing_on t (length la) (length (la ++ option_to_list (sent_packet a x stamp))) a b (sent a x) la (la ++ option_to_list (sent_packet a x stamp)) lb (sending a x stamp).mine (λ Q w. within_front Q la (option_to_list (sent_packet a x stamp)) w) ((answered_keeps hello quiet t).bears.left_sends on a b la lb x stamp is) h;
    left_ticks = λ a b la lb stamp is h. owing_on t (length la) (length (la ++ tick_packets hello a stamp)) a b (ticked a) la (la ++ tick_packets hello a stamp) lb refl (λ Q w. within_front Q la (tick_packets hello a stamp) w) ((answered_keeps hello quiet t).bears.left_ticks a b la lb stamp is) h;
    right_sends = λ on a b la lb x stamp is h. owing_sends t (length la) a b la lb x stamp is h;
    right_ticks = λ a b la lb stamp is h. owing_ticks hello t (length la) a b la lb stamp is h;
  };
  right_takes = λ a b ps lb p is h. owing_next t (length ps) a b ps lb p is.known h;
}

pub owing_end : {M : Type 0} → (hello : M) (t : ℕ) (a b : End M) (la lb : List (Packet M)) (stamp : ℕ) → Answerable t (pair_of a b la lb) → Owing t 0 (pair_of a b la lb) → Answered t (pair_of a (ticked b) la (lb ++ tick_packets hello b stamp))
owing_end hello t a b la lb stamp is (inl h) = absurd h
owing_end hello t a b la lb stamp is (inr (inl on)) = owed_ticks hello t a b la lb stamp is.known is.taken on
owing_end hello t a b la lb stamp is (inr (inr h)) = (answered_keeps hello false t).bears.right_ticks a b la lb stamp is h

pub owing_more : {M : Type 0} → (t : ℕ) (a b : End M) (ps lb : List (Packet M)) (p : Packet M) → Known (pair_of a b (p ∷ ps) lb) → Owing t 0 (pair_of a b (p ∷ ps) lb) → Owing t 0 (pair_of a (received b p) ps lb)
owing_more t a b ps lb p k (inl h) = absurd h
owing_more t a b ps lb p k (inr h) = owing_next t 0 a b ps lb p k (inr h)

-- the right end takes what asks, and answers
pub answering : {M : Type 0} → (hello : M) (quiet : Bool) (t : ℕ) → Stage hello quiet (Answerable t) (Owing t) (Answered t)
answering hello quiet t = record {
  bears = owing_bears hello quiet t;
  takes = λ n a b ps lb p is h. owing_next t n a b ps lb p is.known h;
  finds_none = λ n a b lb is h. owing_none t n a b lb h;
  takes_more = λ a b ps lb p is h. owing_more t a b ps lb p is.known h;
  ticks = λ a b la lb stamp is h. owing_end hello t a b la lb stamp is h;
  keeps = answered_keeps hello quiet t;
}
