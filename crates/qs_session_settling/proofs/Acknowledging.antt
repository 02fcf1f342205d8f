-- What was handed up is acknowledged, so behind passes without a send nothing is kept.
use Rattle.std.proofs.Common.{◌≡◌, ◌⊎◌, Bool, ℕ, ◌+◌, ◌<◌, ◌≤◌, true, refl, arith, List, ◌++◌, length, inl, inr}
use Rattle.std.specs.Prelude.{⊤, option_to_list}
use Rattle.qs_session_channels.specs.End.{End, Packet, sent, sent_packet, ticked, tick_packets}
use Rattle.qs_session_settling.specs.Pairs.{Pair, swapped}
use Rattle.qs_session_settling.proofs.Ticking.{sending}
use Rattle.qs_session_settling.proofs.Staying.{pair_of}
use Rattle.qs_session_settling.proofs.Stages.{Keeps, Stage}
use Rattle.qs_session_settling.proofs.Rows.{Row, parted, stays_row, keeps_row, staged_row, row_mirrored}
use Rattle.qs_session_settling.proofs.Known.{Known, known_on, known_swapped, advances, to_left, to_right, some_right, KnownTicking, known_ticking, steady}
use Rattle.qs_session_settling.proofs.Answering.{AllOwing, all_owing_keeps}
use Rattle.qs_session_settling.proofs.Asking.{asks, repeats_ask}
use Rattle.qs_session_settling.proofs.Keeping.{keeps_for, keeps_swapped, keeps_either, keeps_nothing}
use Rattle.qs_session_settling.proofs.HandingUp.{reaches_same, reach_front, puts_all}
use Rattle.qs_session_settling.proofs.Hearing.{RightSent, right_sent_on, RightAnswered, RightHeard, hearing}
use Rattle.qs_session_settling.proofs.Telling.{LeftSent, left_sent_on, Coming, coming_on, coming_bears, coming_next, Told, telling}

-- t messages of the right end are acknowledged
abbrev RightAcked : {M : Type 0} → ℕ → Pair M → Type 0
RightAcked t pair = t ≤ pair.right.end.acked

right_acked_on : {M : Type 0} → (hello : M) (quiet : Bool) (t : ℕ) → Keeps hello quiet Known (RightAcked t)
right_acked_on hello quiet t = record {
  bears = record {
    left_takes = λ a b la ps p k h. h;
    left_sends = λ on a b la lb x stamp k h. h;
    left_ticks = λ a b la lb stamp k h. h;
    right_sends = λ on a b la lb x stamp k h. grind (arith, h, (sending b x stamp).acked);
    right_ticks = λ a b la lb stamp k h. h;
  };
  right_takes = λ a b ps lb p k h. grind (arith, h, (advances b p (to_right a b ps lb p k)).acked);
}

abbrev RightAsks : {M : Type 0} → ℕ → Pair M → Type 0
RightAsks t pair = AllOwing t (swapped pair) ⊎ RightAcked t pair

-- ---- before that, the left end puts them all

abbrev AllComing : {M : Type 0} → ℕ → Pair M → Type 0
AllComing t pair = Coming t (length pair.left.link) pair

all_coming_keeps : {M : Type 0} → (hello : M) (quiet : Bool) (t : ℕ) → Keeps hello quiet (LeftSent t) (AllComing t)
all_coming_keeps hello quiet t = let k = all_owing_keeps hello quiet t in record {
  bears = record {
    left_takes = λ a b la ps p is h. (coming_bears hello quiet t (length la)).left_takes a b la ps p is h;
    left_sends = λ on a b la lb x stamp is h. let s = sending a x stamp in
        coming_on t (length la) (length (la ++ option_to_list (sent_packet a x stamp))) a b (sent a x) b la (la ++ option_to_list (sent_packet a x stamp)) lb lb is refl
        (reaches_same t (length la) (length (la ++ option_to_list (sent_packet a x stamp))) a b (sent a x) b la (la ++ option_to_list (sent_packet a x stamp)) lb lb s.mine refl (reach_front a.mine b.mine b.taken la (option_to_list (sent_packet a x stamp))))
        (k.bears.left_sends on a b la lb x stamp) h;
    left_ticks = λ a b la lb stamp is h.
        coming_on t (length la) (length (la ++ tick_packets hello a stamp)) a b (ticked a) b la (la ++ tick_packets hello a stamp) lb lb is refl
        (reaches_same t (length la) (length (la ++ tick_packets hello a stamp)) a b (ticked a) b la (la ++ tick_packets hello a stamp) lb lb refl refl (reach_front a.mine b.mine b.taken la (tick_packets hello a stamp)))
        (k.bears.left_ticks a b la lb stamp) h;
    right_sends = λ on a b la lb x stamp is h. (coming_bears hello quiet t (length la)).right_sends on a b la lb x stamp is h;
    right_ticks = λ a b la lb stamp is h. (coming_bears hello quiet t (length la)).right_ticks a b la lb stamp is h;
  };
  right_takes = λ a b ps lb p is h. coming_next t (length ps) a b ps lb p is h;
}

abbrev RightPuts : {M : Type 0} → ℕ → Pair M → Type 0
RightPuts t pair = AllComing t (swapped pair) ⊎ RightAcked t pair

-- what is kept asks for its acknowledgement
tick_asks : {M : Type 0} → (hello : M) (t : ℕ) (a b : End M) (la lb : List (Packet M)) (stamp : ℕ) → t ≤ b.acked + length b.kept → KnownTicking hello b stamp → RightAsks t (pair_of a (ticked b) la (lb ++ tick_packets hello b stamp))
tick_asks hello t a b la lb stamp sent (inl x) = inl (asks hello t a b la lb stamp (repeats_ask hello b.mine a.mine b stamp refl x.some x.puts))
tick_asks hello t a b la lb stamp sent (inr (inl x)) = inr (grind (arith, sent, x.none))
tick_asks hello t a b la lb stamp sent (inr (inr (inl x))) = inr (grind (arith, sent, x.none))
tick_asks hello t a b la lb stamp sent (inr (inr (inr x))) = inr (grind (arith, sent, x.none))

tick_puts : {M : Type 0} → (hello : M) (t : ℕ) (a b : End M) (la lb : List (Packet M)) (stamp : ℕ) → RightSent t (pair_of a b la lb) → KnownTicking hello b stamp → RightPuts t (pair_of a (ticked b) la (lb ++ tick_packets hello b stamp))
tick_puts {M} hello t a b la lb stamp is x = by_taken (grind arith)
  where
    by_asks : t ≤ a.taken → RightAsks t (pair_of a (ticked b) la (lb ++ tick_packets hello b stamp)) → RightPuts t (pair_of a (ticked b) la (lb ++ tick_packets hello b stamp))
    by_asks up (inl h) = inl (inr (up, h))
    by_asks up (inr h) = inr h

    by_taken : (a.taken < t) ⊎ (t ≤ a.taken) → RightPuts t (pair_of a (ticked b) la (lb ++ tick_packets hello b stamp))
    by_taken (inl before) = inl (inl (before, grind (arith, puts_all hello a b la lb stamp is.known x, is.sent)))
    by_taken (inr up) = by_asks up (tick_asks hello t a b la lb stamp is.sent x)

putting : {M : Type 0} → (hello : M) (quiet : Bool) (t : ℕ) → Stage hello quiet (RightSent t) (λ n pair. ⊤) (RightPuts t)
putting hello quiet t =
    steady hello quiet (RightSent t) (λ pair. ⊤) (RightPuts t) (keeps_nothing hello quiet (RightSent t))
    (λ a b la lb stamp is h. tick_puts hello t a b la lb stamp is (known_ticking hello b stamp (some_right (pair_of a b la lb) is.known)))
    (keeps_either hello quiet (RightSent t) (λ pair. AllComing t (swapped pair)) (RightAcked t)
    (keeps_for hello quiet (λ pair. LeftSent t (swapped pair)) (RightSent t) (λ pair. AllComing t (swapped pair)) (λ pair is. record { known = known_swapped pair is.known; sent = is.sent })
    (keeps_swapped hello quiet (LeftSent t) (AllComing t) (all_coming_keeps hello quiet t)))
    (keeps_for hello quiet Known (RightSent t) (RightAcked t) (λ pair is. is.known) (right_acked_on hello quiet t)))

-- ---- three passes acknowledge all that was sent as they began

by_puts : {M : Type 0} → (hello : M) (quiet : Bool) (t : ℕ) (old new : Pair M) → LeftSent t old → RightPuts t (swapped old) → Row hello quiet 2 old new → t ≤ new.left.end.acked
by_puts hello quiet t old new is (inl h) row =
    let p = parted hello quiet 1 1 old new row in
    let told = staged_row hello quiet (LeftSent t) (Coming t) (Told t) (left_sent_on hello quiet t) (telling hello quiet t) old p.0 p.1 is h in
    let mid = stays_row hello quiet (LeftSent t) (left_sent_on hello quiet t) 1 old p.0 p.1 is in
    (staged_row hello quiet (RightSent t) (RightAnswered t) (RightHeard t) (right_sent_on hello quiet t) (hearing hello quiet t) (swapped p.0) (swapped new) (row_mirrored hello quiet 1 p.0 new p.2)
    (record { known = known_swapped p.0 mid.known; sent = mid.sent }) told.1).1
by_puts hello quiet t old new is (inr h) row =
    keeps_row hello quiet Known (RightAcked t) (known_on hello quiet) (right_acked_on hello quiet t) 2 (swapped old) (swapped new) (row_mirrored hello quiet 2 old new row) (known_swapped old is.known) h

pub acknowledged : {M : Type 0} → (hello : M) (quiet : Bool) (old new : Pair M) → Known old → Row hello quiet 3 old new → old.left.end.acked + length old.left.end.kept ≤ new.left.end.acked
acknowledged hello quiet old new k row =
    let t = old.left.end.acked + length old.left.end.kept in
    let p = parted hello quiet 1 2 old new row in
    let put = staged_row hello quiet (RightSent t) (λ n pair. ⊤) (RightPuts t) (right_sent_on hello quiet t) (putting hello quiet t) (swapped old) (swapped p.0) (row_mirrored hello quiet 1 old p.0 p.1)
    (record { known = known_swapped old k; sent = grind arith }) tt in
    by_puts hello quiet t p.0 new (stays_row hello quiet (LeftSent t) (left_sent_on hello quiet t) 1 old p.0 p.1 (record { known = k; sent = grind arith })) put p.2

-- ---- where nothing is sent, then nothing is kept

abbrev Total : {M : Type 0} → ℕ → Pair M → Type 0
Total t pair = pair.left.end.acked + length pair.left.end.kept ≡ t

total_on : {M : Type 0} → (hello : M) (t : ℕ) → Keeps hello true Known (Total t)
total_on hello t = record {
  bears = record {
    left_takes = λ a b la ps p k h. grind (arith, h, (advances a p (to_left a b la ps p k)).same);
    left_sends = λ on a b la lb x stamp k h. absurd (grind (arith, on));
    left_ticks = λ a b la lb stamp k h. h;
    right_sends = λ on a b la lb x stamp k h. h;
    right_ticks = λ a b la lb stamp k h. h;
  };
  right_takes = λ a b ps lb p k h. h;
}

pub none_kept : {M : Type 0} → (hello : M) (old new : Pair M) → Known old → Row hello true 3 old new → length new.left.end.kept ≡ 0
none_kept hello old new k row =
    let t = old.left.end.acked + length old.left.end.kept in
    grind (arith, acknowledged hello true old new k row, keeps_row hello true Known (Total t) (known_on hello true) (total_on hello t) 3 old new row k refl)
