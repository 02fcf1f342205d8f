-- Two ends that know each other: they go on to, and take packets and tick in fewer ways.
use Rattle.std.proofs.Common.{◌≡◌, ◌≢◌, ◌⊎◌, Bool, ℕ, ◌+◌, ◌≤◌, true, arith, List, [], ◌∷◌, ◌++◌, length, inl, inr}
use Rattle.qs_session_channels.specs.End.{End, Packet, received, ticked, tick_packets}
use Rattle.qs_session_settling.specs.Pairs.{Pair, Step, Left, Right, swapped, stepped}
use Rattle.qs_session_settling.specs.Consistent.{IsConsistent}
use Rattle.qs_session_settling.proofs.Receiving.{Taking, Ignores, IsAsked, TakesIn, taking}
use Rattle.qs_session_settling.proofs.Ticking.{Repeats, Acknowledges, Greets, Rests, Ticking, ticking}
use Rattle.qs_session_settling.proofs.Staying.{pair_of, stays, other_way}
use Rattle.qs_session_settling.proofs.Stages.{IsOf, Keeps, Stage, Stays, keeps_each, of_mirrored}
use Rattle.qs_session_settling.proofs.Learning.{KnowsLeft, knows_on}

pub record Known {M : Type 0} (pair : Pair M) : Type 0 where
  pub is : IsConsistent pair
  pub left : pair.left.end.known ≡ pair.right.end.mine
  pub right : pair.right.end.known ≡ pair.left.end.mine

pub known_swapped : {M : Type 0} → (pair : Pair M) → Known pair → Known (swapped pair)
known_swapped pair k = record { is = other_way pair k.is; left = k.right; right = k.left }

right_knows : {M : Type 0} → (hello : M) (quiet : Bool) (step : Step M) → IsOf quiet (step ∷ []) → (pair : Pair M) → IsConsistent pair → KnowsLeft pair → KnowsLeft (stepped hello step pair)
right_knows hello quiet step of pair is k = keeps_each hello quiet IsConsistent KnowsLeft (knows_on hello quiet) step of pair is k

left_knows : {M : Type 0} → (hello : M) (quiet : Bool) (step : Step M) → IsOf quiet (step ∷ []) → (pair : Pair M) → IsConsistent pair → KnowsLeft (swapped pair) → KnowsLeft (swapped (stepped hello step pair))
left_knows hello quiet (Left action) of pair is k = right_knows hello quiet (Right action) (of_mirrored quiet (Left action ∷ []) of) (swapped pair) (other_way pair is) k
left_knows hello quiet (Right action) of pair is k = right_knows hello quiet (Left action) (of_mirrored quiet (Right action ∷ []) of) (swapped pair) (other_way pair is) k

pub known_on : {M : Type 0} → (hello : M) (quiet : Bool) → Stays hello quiet Known
known_on hello quiet step of pair k = record { is = stays hello step pair k.is; left = left_knows hello quiet step of pair k.is k.left; right = right_knows hello quiet step of pair k.is k.right }

-- ---- how an end that knows the other takes a packet of it

abbrev pub KnownTaking : {M : Type 0} → End M → Packet M → End M → Type 0
KnownTaking e p f = Ignores e p f ⊎ IsAsked e p f ⊎ TakesIn e p f

but_learns : {M : Type 0} → (e f : End M) (p : Packet M) → p.inc ≤ e.known → Taking e p f → KnownTaking e p f
but_learns e f p is (inl t) = inl t
but_learns e f p is (inr (inl t)) = absurd (grind (arith, t.newer, is))
but_learns e f p is (inr (inr (inl t))) = inr (inl t)
but_learns e f p is (inr (inr (inr t))) = inr (inr t)

pub known_taking : {M : Type 0} → (e : End M) (p : Packet M) → p.inc ≤ e.known → KnownTaking e p (received e p)
known_taking e p is = but_learns e (received e p) p is (taking e p)

-- it goes on
pub record Advances {M : Type 0} (e f : End M) : Type 0 where
  pub mine : f.mine ≡ e.mine
  pub known : f.known ≡ e.known
  pub met : e.met ≡ true → f.met ≡ true
  pub taken : e.taken ≤ f.taken
  pub acked : e.acked ≤ f.acked
  pub sum : e.acked + length e.kept ≤ f.acked + length f.kept
  pub less : length f.kept ≤ length e.kept
  pub same : f.acked + length f.kept ≡ e.acked + length e.kept
  pub owed : e.owed ≡ true → f.owed ≡ true

by_taking : {M : Type 0} → (e f : End M) (p : Packet M) → KnownTaking e p f → Advances e f
by_taking e f p (inl t) = record {
  mine = grind (arith, t.same);
  known = grind (arith, t.same);
  met = λ on. grind (arith, t.same, on);
  taken = grind (arith, t.same);
  acked = grind (arith, t.same);
  sum = grind (arith, t.same);
  less = grind (arith, t.same);
  same = grind (arith, t.same);
  owed = λ on. grind (arith, t.same, on);
}
by_taking e f p (inr (inl t)) = record {
  mine = grind (arith, t.same);
  known = grind (arith, t.same);
  met = λ on. grind (arith, t.same, on);
  taken = grind (arith, t.same);
  acked = grind (arith, t.same);
  sum = grind (arith, t.same);
  less = grind (arith, t.same);
  same = grind (arith, t.same);
  owed = λ on. grind (arith, t.same, on);
}
by_taking e f p (inr (inr t)) = record { mine = t.mine; known = t.known; met = λ on. t.met; taken = grind (arith, t.taken); acked = t.rises; sum = grind (arith, t.sum); less = grind (arith, t.sum, t.rises); same = t.sum; owed = t.owed }

pub advances : {M : Type 0} → (e : End M) (p : Packet M) → p.inc ≤ e.known → Advances e (received e p)
advances e p is = by_taking e (received e p) p (known_taking e p is)

-- what stands first on the link to the left end is of no later incarnation than it knows, and so on the link to the right one
pub to_left : {M : Type 0} → (a b : End M) (la ps : List (Packet M)) (p : Packet M) → Known (pair_of a b la (p ∷ ps)) → p.inc ≤ a.known
to_left a b la ps p k = grind (arith, k.is.right.old.0.by, k.left)

pub to_right : {M : Type 0} → (a b : End M) (ps lb : List (Packet M)) (p : Packet M) → Known (pair_of a b (p ∷ ps) lb) → p.inc ≤ b.known
to_right a b ps lb p k = grind (arith, k.is.left.old.0.by, k.right)

-- ---- and how it ticks

abbrev pub KnownTicking : {M : Type 0} → M → End M → ℕ → Type 0
KnownTicking hello e stamp = Repeats hello e stamp ⊎ Acknowledges hello e stamp ⊎ Greets hello e stamp ⊎ Rests hello e stamp

but_strange : {M : Type 0} → (hello : M) (e : End M) (stamp : ℕ) → e.known ≢ 0 → Ticking hello e stamp → KnownTicking hello e stamp
but_strange hello e stamp some (inl t) = absurd (some t.known)
but_strange hello e stamp some (inr t) = t

pub some_left : {M : Type 0} → (pair : Pair M) → Known pair → pair.left.end.known ≢ 0
some_left pair k none = absurd (grind (arith, none, k.left, k.is.right.some))

pub some_right : {M : Type 0} → (pair : Pair M) → Known pair → pair.right.end.known ≢ 0
some_right pair k none = absurd (grind (arith, none, k.right, k.is.left.some))

pub known_ticking : {M : Type 0} → (hello : M) (e : End M) (stamp : ℕ) → e.known ≢ 0 → KnownTicking hello e stamp
known_ticking hello e stamp some = but_strange hello e stamp some (ticking hello e stamp)

-- ---- a stage in which it does not matter how many packets are still to be taken

pub steady : {M : Type 0} → (hello : M) (quiet : Bool) (I P D : Pair M → Type 0) → Keeps hello quiet I P
    → ((a b : End M) (la lb : List (Packet M)) (stamp : ℕ) → I (pair_of a b la lb) → P (pair_of a b la lb) → D (pair_of a (ticked b) la (lb ++ tick_packets hello b stamp)))
    → Keeps hello quiet I D → Stage hello quiet I (λ n. P) D
steady hello quiet I P D k ticks keeps = record { bears = λ n. k.bears; takes = λ n. k.right_takes; finds_none = λ n a b lb is h. h; takes_more = k.right_takes; ticks = ticks; keeps = keeps }
