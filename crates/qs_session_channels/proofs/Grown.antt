-- More is posted, or handed up: packets stay good, and channels ordered.
use Rattle.std.proofs.Common.{◌≡◌, ◌≢◌, ◌⊎◌, Bool, ℕ, ◌+◌, ◌-◌, ◌<◌, ◌≤◌, true, false, refl, sym, subst, ap, ◌∙◌, arith, List, [], ◌∷◌, ◌++◌, length, take, drop, Option, Some, None, inl, inr}
use Rattle.std.specs.Prelude.{slice_get}
use Rattle.std.proofs.lemmas.Bool.Decides.{nat_tests}
use Rattle.std.proofs.lemmas.List.{append_assoc, length-append, drop-append-le}
use Rattle.qs_session_channels.specs.End.{End, Packet}
use Rattle.qs_session_channels.specs.Network.{with_at2, Among, Network}
use Rattle.qs_session_channels.specs.Channels.{with_at4, Channels, Move, May, moved, MovesOn}
use Rattle.qs_session_channels.specs.Shown.{Good, Between, Shows}
use Rattle.qs_session_channels.proofs.Lists.{get_more, next_is}

pub among_append : {A : Type 0} → (ps qs : List A) (p : A) → Among (ps ++ qs) p → Among ps p ⊎ Among qs p
among_append [] qs p h = inr h
among_append (x ∷ ps) qs p (inl h) = inl (inl h)
among_append (x ∷ ps) qs p (inr h) = grind (arith, among_append ps qs p h)

-- a packet among those of n and m was among them before, or is a new one
pub among_at : {A : Type 0} → (put : ℕ → ℕ → List A) (a b : ℕ) (ps : List A) (n m : ℕ) (p : A) → Among (with_at2 put a b (ps ++ put a b) n m) p → ((n ≡ a) × (m ≡ b) × Among ps p) ⊎ Among (put n m) p
among_at put a b ps n m p h = grind (arith, nat_tests, h, among_append ps (put a b) p)

pub handed_within : {M : Type 0} → (inc : ℕ → ℕ) (posted handed : ℕ → ℕ → ℕ → ℕ → List M) (n m i j : ℕ) → Between inc posted handed n m → length (handed n m i j) ≤ length (posted n m i j)
handed_within inc posted handed n m i j b = within (posted n m i j) (handed n m i j) _ (b.prefix i j)
  where
    within : {M : Type 0} → (xs hs ys : List M) → xs ≡ hs ++ ys → length hs ≤ length xs
    within {M} xs hs ys is = grind (arith, is, length-append {A = M} hs ys)

pub good_posted : {M : Type 0} → (inc : ℕ → ℕ) (posted handed : ℕ → ℕ → ℕ → ℕ → List M) (a b i j : ℕ) (ys : List M) (n m : ℕ) (p : Packet M) → Good inc posted handed n m p → Good inc (with_at4 posted a b i j (posted a b i j ++ ys)) handed n m p
good_posted inc posted handed a b i j ys n m p g = record {
  born = g.born;
  from = g.from;
  number = λ k is. grind (arith, nat_tests, g.number k is, get_more (posted a b i j) ys k p.message);
  ack = g.ack;
}

pub between_posted : {M : Type 0} → (inc : ℕ → ℕ) (posted handed : ℕ → ℕ → ℕ → ℕ → List M) (a b i j : ℕ) (ys : List M) (n m : ℕ) → i ≤ inc a → length (handed a b i j) ≤ length (posted a b i j) → Between inc posted handed n m → Between inc (with_at4 posted a b i j (posted a b i j ++ ys)) handed n m
between_posted {M} inc posted handed a b i j ys n m old within g = record {
  prefix = λ i' j'. grind (arith, nat_tests, g.prefix i' j', within, drop-append-le {A = M} (length (handed a b i j)) (posted a b i j) ys within, append_assoc (handed a b i j) (drop (length (handed a b i j)) (posted a b i j)) ys);
  later = λ i' j' lt. grind (arith, nat_tests, g.later i' j' lt, lt, old);
  later_peer = g.later_peer;
}

pub good_handed : {M : Type 0} → (inc : ℕ → ℕ) (posted handed : ℕ → ℕ → ℕ → ℕ → List M) (a b i j : ℕ) (x : M) (n m : ℕ) (p : Packet M) → Good inc posted handed n m p → Good inc posted (with_at4 handed a b i j (handed a b i j ++ x ∷ [])) n m p
good_handed {M} inc posted handed a b i j x n m p g = grind (arith, nat_tests, g, length-append {A = M} (handed a b i j) (x ∷ []))

pub between_handed : {M : Type 0} → (inc : ℕ → ℕ) (posted handed : ℕ → ℕ → ℕ → ℕ → List M) (a b i j : ℕ) (x : M) (n m : ℕ) → j ≤ inc b → posted a b i j ≡ handed a b i j ++ x ∷ drop (length (handed a b i j) + 1) (posted a b i j) → Between inc posted handed n m → Between inc posted (with_at4 handed a b i j (handed a b i j ++ x ∷ [])) n m
between_handed {M} inc posted handed a b i j x n m old next g = record {
  prefix = λ i' j'. grind (arith, nat_tests, next, g.prefix i' j', length-append {A = M} (handed a b i j) (x ∷ []), append_assoc (handed a b i j) (x ∷ []) (drop (length (handed a b i j) + 1) (posted a b i j)));
  later = g.later;
  later_peer = λ i' j' lt. grind (arith, nat_tests, g.later_peer i' j' lt, lt, old);
}

-- one move
pub one_move : {M : Type 0} → (v : Network M) (c : Channels M) (move same : Move M) → same ≡ move → May move c → Shows v (moved move c) → (d : Channels M) × MovesOn c (same ∷ []) d × Shows v d
one_move {M} v c move same is may r = (moved move c, (subst (λ (x : Move M). May x c) (sym is) may, ap (λ (x : Move M). moved x c) (sym is)), r)
