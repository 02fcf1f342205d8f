-- Over two ends that know each other, a tick puts all that is kept in order, and the next pass hands it up.
use Rattle.std.proofs.Common.{◌≡◌, Bool, ℕ, suc, ◌+◌, ◌≤◌, refl, sym, subst, arith, List, [], ◌∷◌, ◌++◌, length, inl, inr}
use Rattle.std.specs.Prelude.{⊤, option_to_list}
use Rattle.std.proofs.lemmas.Bool.Decides.{nat_tests}
use Rattle.qs_session_channels.specs.End.{End, Packet, received, sent, sent_packet, ticked, tick_packets}
use Rattle.qs_session_settling.specs.Pairs.{Pair, swapped}
use Rattle.qs_session_settling.proofs.Ticking.{sending}
use Rattle.qs_session_settling.proofs.Staying.{pair_of}
use Rattle.qs_session_settling.proofs.Stages.{Bears, Keeps, Stage}
use Rattle.qs_session_settling.proofs.Rows.{Row, stays_row, staged_row, row_mirrored}
use Rattle.qs_session_settling.proofs.Known.{Known, known_on, known_swapped, advances, to_left, to_right, some_right, KnownTicking, known_ticking, steady}
use Rattle.qs_session_settling.proofs.Answering.{HasTaken, has_taken_on}
use Rattle.qs_session_settling.proofs.Keeping.{keeps_nothing}
use Rattle.qs_session_settling.proofs.Reaching.{next, reach, reach_least, reach_rises, reach_more, reach_both, reach_again, next_taken}

-- where the left end has taken all that stands on the link to it, it has handed up all that the right one sent
abbrev pub AllPut : {M : Type 0} → Pair M → Type 0
AllPut pair = pair.right.end.acked + length pair.right.end.kept ≤ reach pair.right.end.mine pair.left.end.mine (length pair.right.link) pair.left.end.taken pair.right.link

acked_taken : {M : Type 0} → (pair : Pair M) → Known pair → pair.right.end.acked ≤ pair.left.end.taken
acked_taken pair k = grind (arith, nat_tests, k.is.right.acked, k.left, k.right)

-- ---- a tick puts it all

pub puts_all : {M : Type 0} → (hello : M) (a b : End M) (la lb : List (Packet M)) (stamp : ℕ) → Known (pair_of a b la lb) → KnownTicking hello b stamp → AllPut (pair_of a (ticked b) la (lb ++ tick_packets hello b stamp))
puts_all hello a b la lb stamp k x = grind (arith, reach_both b.mine a.mine a.taken lb (tick_packets hello b stamp), by_kind x)
  where
    before : b.acked ≤ reach b.mine a.mine (length lb) a.taken lb
    before = grind (arith, acked_taken (pair_of a b la lb) k, reach_least b.mine a.mine (length lb) a.taken lb)

    none_kept : length b.kept ≡ 0 → b.acked + length b.kept ≤ reach b.mine a.mine (length (tick_packets hello b stamp)) (reach b.mine a.mine (length lb) a.taken lb) (tick_packets hello b stamp)
    none_kept none = grind (arith, none, before, reach_least b.mine a.mine (length (tick_packets hello b stamp)) (reach b.mine a.mine (length lb) a.taken lb) (tick_packets hello b stamp))

    by_kind : KnownTicking hello b stamp → b.acked + length b.kept ≤ reach b.mine a.mine (length (tick_packets hello b stamp)) (reach b.mine a.mine (length lb) a.taken lb) (tick_packets hello b stamp)
    by_kind (inl t) =
        subst (λ ps. b.acked + length b.kept ≤ reach b.mine a.mine (length ps) (reach b.mine a.mine (length lb) a.taken lb) ps) (sym t.puts) (reach_again b.mine a.mine (reach b.mine a.mine (length lb) a.taken lb) b.acked b stamp b.kept refl k.right before)
    by_kind (inr (inl t)) = none_kept t.none
    by_kind (inr (inr (inl t))) = none_kept t.none
    by_kind (inr (inr (inr t))) = none_kept t.none

-- ---- and it stays put, or is handed up

put_same : {M : Type 0} → (a b c d : End M) (la lc lb ld : List (Packet M)) → c.mine ≡ a.mine → d.mine ≡ b.mine → d.acked + length d.kept ≤ b.acked + length b.kept
    → reach b.mine a.mine (length lb) a.taken lb ≤ reach b.mine a.mine (length ld) c.taken ld → AllPut (pair_of a b la lb) → AllPut (pair_of c d lc ld)
put_same a b c d la lc lb ld mine other sum more h =
    subst (λ i. d.acked + length d.kept ≤ reach i c.mine (length ld) c.taken ld) (sym other)
    (subst (λ j. d.acked + length d.kept ≤ reach b.mine j (length ld) c.taken ld) (sym mine) (grind (arith, sum, more, h)))

put_takes : {M : Type 0} → (a b : End M) (la ps : List (Packet M)) (p : Packet M) → Known (pair_of a b la (p ∷ ps)) → AllPut (pair_of a b la (p ∷ ps)) → AllPut (pair_of (received a p) b la ps)
put_takes a b la ps p k h =
    let up = next_taken b.mine a.mine a p k.left refl (to_left a b la ps p k) in
    put_same a b (received a p) b la la (p ∷ ps) ps (advances a p (to_left a b la ps p k)).mine refl (grind arith) (reach_rises b.mine a.mine (length ps) (next b.mine a.mine a.taken p) (received a p).taken ps up) h

pub reach_front : {M : Type 0} → (i j taken : ℕ) (ps more : List (Packet M)) → reach i j (length ps) taken ps ≤ reach i j (length (ps ++ more)) taken (ps ++ more)
reach_front i j taken ps more = grind (arith, reach_both i j taken ps more, reach_least i j (length more) (reach i j (length ps) taken ps) more)

put_sends : {M : Type 0} → (a b : End M) (la lb : List (Packet M)) (x : M) (stamp : ℕ) → Known (pair_of a b la lb) → AllPut (pair_of a b la lb) → AllPut (pair_of a (sent b x) la (lb ++ option_to_list (sent_packet b x stamp)))
put_sends {M} a b la lb x stamp k h =
    let s = sending b x stamp in
    subst (λ i. (sent b x).acked + length (sent b x).kept ≤ reach i a.mine (length (lb ++ option_to_list (sent_packet b x stamp))) a.taken (lb ++ option_to_list (sent_packet b x stamp))) (sym s.mine)
    (grind (arith, s.acked, s.kept, one, reach_both b.mine a.mine a.taken lb (option_to_list (sent_packet b x stamp))))
  where
    r : ℕ
    r = reach b.mine a.mine (length lb) a.taken lb

    one : b.acked + length b.kept + 1 ≤ reach b.mine a.mine (length (option_to_list (sent_packet b x stamp))) r (option_to_list (sent_packet b x stamp))
    one =
        subst (λ ps. b.acked + length b.kept + 1 ≤ reach b.mine a.mine (length ps) r ps) (sym ((sending b x stamp).puts (some_right (pair_of a b la lb) k)))
        (grind (arith, nat_tests, k.right, h))

all_put_keeps : {M : Type 0} → (hello : M) (quiet : Bool) → Keeps hello quiet Known AllPut
all_put_keeps hello quiet = record {
  bears = record {
    left_takes = put_takes;
    left_sends = λ on a b la lb x stamp k h. let s = sending a x stamp in put_same a b (sent a x) b la (la ++ option_to_list (sent_packet a x stamp)) lb lb s.mine refl (grind arith) (reach_rises b.mine a.mine (length lb) a.taken (sent a x).taken lb (grind (arith, s.taken))) h;
    left_ticks = λ a b la lb stamp k h. h;
    right_sends = λ on a b la lb x stamp k h. put_sends a b la lb x stamp k h;
    right_ticks = λ a b la lb stamp k h. put_same a b a (ticked b) la la lb (lb ++ tick_packets hello b stamp) refl refl (grind arith) (reach_front b.mine a.mine a.taken lb (tick_packets hello b stamp)) h;
  };
  right_takes = λ a b ps lb p k h. let v = advances b p (to_right a b ps lb p k) in put_same a b a (received b p) (p ∷ ps) ps lb lb refl v.mine (grind (arith, v.same)) (grind arith) h;
}

pub putting : {M : Type 0} → (hello : M) (quiet : Bool) → Stage hello quiet Known (λ n pair. ⊤) AllPut
putting hello quiet =
    steady hello quiet Known (λ pair. ⊤) AllPut (keeps_nothing hello quiet Known) (λ a b la lb stamp k h. puts_all hello a b la lb stamp k (known_ticking hello b stamp (some_right (pair_of a b la lb) k))) (all_put_keeps hello quiet)

-- ---- the right end takes t messages, with n packets still to be taken

abbrev pub Reaches : {M : Type 0} → ℕ → ℕ → Pair M → Type 0
Reaches t n pair = t ≤ reach pair.left.end.mine pair.right.end.mine n pair.right.end.taken pair.left.link

pub reaches_same : {M : Type 0} → (t n m : ℕ) (a b c d : End M) (la lc lb ld : List (Packet M)) → c.mine ≡ a.mine → d.mine ≡ b.mine → reach a.mine b.mine n b.taken la ≤ reach a.mine b.mine m d.taken lc
    → Reaches t n (pair_of a b la lb) → Reaches t m (pair_of c d lc ld)
reaches_same t n m a b c d la lc lb ld mine other more h =
    subst (λ i. t ≤ reach i d.mine m d.taken lc) (sym mine) (subst (λ j. t ≤ reach a.mine j m d.taken lc) (sym other) (grind (arith, more, h)))

pub reaches_next : {M : Type 0} → (t n : ℕ) (a b : End M) (ps lb : List (Packet M)) (p : Packet M) → Known (pair_of a b (p ∷ ps) lb) → Reaches t (suc n) (pair_of a b (p ∷ ps) lb) → Reaches t n (pair_of a (received b p) ps lb)
reaches_next t n a b ps lb p k h =
    let up = next_taken a.mine b.mine b p k.right refl (to_right a b ps lb p k) in
    reaches_same t (suc n) n a b a (received b p) (p ∷ ps) ps lb lb refl (advances b p (to_right a b ps lb p k)).mine (reach_rises a.mine b.mine n (next a.mine b.mine b.taken p) (received b p).taken ps up) h

pub reaches_none : {M : Type 0} → (t n : ℕ) (a b : End M) (lb : List (Packet M)) → Reaches t (suc n) (pair_of a b [] lb) → Reaches t n (pair_of a b [] lb)
reaches_none {M} t n a b lb h = grind (arith, h, reach_least {M = M} a.mine b.mine n b.taken [])

pub reaches_bears : {M : Type 0} → (hello : M) (quiet : Bool) (t n : ℕ) → Bears hello quiet Known (Reaches t n)
reaches_bears hello quiet t n = record {
  left_takes = λ a b la ps p k h. reaches_same t n n a b (received a p) b la la (p ∷ ps) ps (advances a p (to_left a b la ps p k)).mine refl (grind arith) h;
  left_sends = λ on a b la lb x stamp k h. reaches_same t n n a b (sent a x) b la (la ++ option_to_list (sent_packet a x stamp)) lb lb (sending a x stamp).mine refl (reach_more a.mine b.mine n b.taken la (option_to_list (sent_packet a x stamp))) h;
  left_ticks = λ a b la lb stamp k h. reaches_same t n n a b (ticked a) b la (la ++ tick_packets hello a stamp) lb lb refl refl (reach_more a.mine b.mine n b.taken la (tick_packets hello a stamp)) h;
  right_sends = λ on a b la lb x stamp k h. let s = sending b x stamp in reaches_same t n n a b a (sent b x) la la lb (lb ++ option_to_list (sent_packet b x stamp)) refl s.mine (reach_rises a.mine b.mine n b.taken (sent b x).taken la (grind (arith, s.taken))) h;
  right_ticks = λ a b la lb stamp k h. h;
}

pub taking_up : {M : Type 0} → (hello : M) (quiet : Bool) (t : ℕ) → Stage hello quiet Known (Reaches t) (HasTaken t)
taking_up hello quiet t = record {
  bears = reaches_bears hello quiet t;
  takes = λ n a b ps lb p k h. reaches_next t n a b ps lb p k h;
  finds_none = λ n a b lb k h. reaches_none t n a b lb h;
  takes_more = λ a b ps lb p k h. grind (arith, h, (advances b p (to_right a b ps lb p k)).taken);
  ticks = λ a b la lb stamp k h. h;
  keeps = has_taken_on hello quiet t;
}

-- ---- one pass puts all that the left end sent, and the next hands it up

pub hands_up_left : {M : Type 0} → (hello : M) (quiet : Bool) (old mid new : Pair M) → Known old → Row hello quiet 1 old mid → Row hello quiet 1 mid new → mid.left.end.acked + length mid.left.end.kept ≤ new.right.end.taken
hands_up_left hello quiet old mid new k first second =
    let put = staged_row hello quiet Known (λ n pair. ⊤) AllPut (known_on hello quiet) (putting hello quiet) (swapped old) (swapped mid) (row_mirrored hello quiet 1 old mid first) (known_swapped old k) tt in
    let t = mid.left.end.acked + length mid.left.end.kept in
    staged_row hello quiet Known (Reaches t) (HasTaken t) (known_on hello quiet) (taking_up hello quiet t) mid new second (stays_row hello quiet Known (known_on hello quiet) 1 old mid first k) put
