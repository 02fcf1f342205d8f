-- An end that has not met the other asks in its next tick, or answers what it owes.
use Rattle.std.proofs.Common.{◌≡◌, ◌≢◌, ◌⊎◌, Bool, ℕ, ◌≤◌, refl, sym, subst, arith, List, [], ◌∷◌, ◌++◌, length, inl, inr}
use Rattle.std.specs.Prelude.{⊤}
use Rattle.qs_session_channels.specs.End.{End, Packet, ticked, tick_packets, again, packet}
use Rattle.qs_session_settling.specs.Pairs.{Pair, swapped}
use Rattle.qs_session_settling.proofs.Staying.{pair_of}
use Rattle.qs_session_settling.proofs.Stages.{Keeps, Stage}
use Rattle.qs_session_settling.proofs.Within.{Within, within_behind}
use Rattle.qs_session_settling.proofs.Known.{Known, known_swapped, some_right, KnownTicking, known_ticking, steady}
use Rattle.qs_session_settling.proofs.Answering.{Asking, Answered, AllOwing, Answerable, answered_keeps, all_owing_keeps, owed_ticks}
use Rattle.qs_session_settling.proofs.Keeping.{keeps_for, keeps_swapped, keeps_either, keeps_nothing}

pub answerable : {M : Type 0} → (pair : Pair M) → Known pair → Answerable 0 pair
answerable pair k = record { known = k; taken = grind arith; sent = grind arith }

first_asks : {M : Type 0} → (i j : ℕ) (e : End M) (stamp : ℕ) → e.mine ≡ i → (k : ℕ) (xs : List M) → length xs ≢ 0 → Within (Asking i j) (length (again e stamp k xs)) (again e stamp k xs)
first_asks i j e stamp mine k [] some = absurd (some refl)
first_asks i j e stamp mine k (x ∷ xs) some = inl (mine, inr (λ none. absurd (grind (arith, none))))

-- what is repeated asks
pub repeats_ask : {M : Type 0} → (hello : M) (i j : ℕ) (e : End M) (stamp : ℕ) → e.mine ≡ i → length e.kept ≢ 0 → tick_packets hello e stamp ≡ again e stamp e.acked e.kept → Within (Asking i j) (length (tick_packets hello e stamp)) (tick_packets hello e stamp)
repeats_ask hello i j e stamp mine some puts = subst (λ ps. Within (Asking i j) (length ps) ps) (sym puts) (first_asks i j e stamp mine e.acked e.kept some)

pub greeting_asks : {M : Type 0} → (hello : M) (i j : ℕ) (e : End M) (stamp : ℕ) → e.mine ≡ i → 1 ≤ j → tick_packets hello e stamp ≡ packet e 0 0 stamp hello ∷ [] → Within (Asking i j) (length (tick_packets hello e stamp)) (tick_packets hello e stamp)
greeting_asks hello i j e stamp mine some puts = subst (λ ps. Within (Asking i j) (length ps) ps) (sym puts) (inl (mine, inl (λ none. absurd (grind (arith, none, some)))))

-- the right end asks, or the left one is answered
abbrev pub Says : {M : Type 0} → Pair M → Type 0
Says pair = AllOwing 0 (swapped pair) ⊎ Answered 0 pair

-- the packets that it puts stand behind those on its link
pub asks : {M : Type 0} → (hello : M) (t : ℕ) (a b : End M) (la lb : List (Packet M)) (stamp : ℕ) → Within (Asking b.mine a.mine) (length (tick_packets hello b stamp)) (tick_packets hello b stamp) → AllOwing t (swapped (pair_of a (ticked b) la (lb ++ tick_packets hello b stamp)))
asks hello t a b la lb stamp h = inl (within_behind (Asking b.mine a.mine) lb (tick_packets hello b stamp) h)

tick_says : {M : Type 0} → (hello : M) (a b : End M) (la lb : List (Packet M)) (stamp : ℕ) → Known (pair_of a b la lb) → KnownTicking hello b stamp → Says (pair_of a (ticked b) la (lb ++ tick_packets hello b stamp))
tick_says hello a b la lb stamp k (inl x) = inl (asks hello 0 a b la lb stamp (repeats_ask hello b.mine a.mine b stamp refl x.some x.puts))
tick_says hello a b la lb stamp k (inr (inl x)) = inr (owed_ticks hello 0 a b la lb stamp k (grind arith) x.owed)
tick_says hello a b la lb stamp k (inr (inr (inl x))) = inl (asks hello 0 a b la lb stamp (greeting_asks hello b.mine a.mine b stamp refl k.is.left.some x.puts))
tick_says hello a b la lb stamp k (inr (inr (inr x))) = inl (inr (inr (inr (x.met, grind arith))))

pub all_owing_swapped : {M : Type 0} → (hello : M) (quiet : Bool) → Keeps hello quiet Known (λ pair. AllOwing 0 (swapped pair))
all_owing_swapped hello quiet =
    keeps_for hello quiet (λ pair. Answerable 0 (swapped pair)) Known (λ pair. AllOwing 0 (swapped pair)) (λ pair k. answerable (swapped pair) (known_swapped pair k))
    (keeps_swapped hello quiet (Answerable 0) (AllOwing 0) (all_owing_keeps hello quiet 0))

pub saying : {M : Type 0} → (hello : M) (quiet : Bool) → Stage hello quiet Known (λ n pair. ⊤) Says
saying hello quiet =
    steady hello quiet Known (λ pair. ⊤) Says (keeps_nothing hello quiet Known)
    (λ a b la lb stamp k h. tick_says hello a b la lb stamp k (known_ticking hello b stamp (some_right (pair_of a b la lb) k)))
    (keeps_either hello quiet Known (λ pair. AllOwing 0 (swapped pair)) (Answered 0) (all_owing_swapped hello quiet)
    (keeps_for hello quiet (Answerable 0) Known (Answered 0) answerable (answered_keeps hello quiet 0)))
