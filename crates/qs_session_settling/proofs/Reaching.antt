-- How far an end will have handed up what the other sent, once it has taken the first packets of a link.
use Rattle.std.proofs.Common.{◌≡◌, ℕ, zero, suc, ◌+◌, ◌==◌, ◌≤◌, arith, List, [], ◌∷◌, ◌++◌, length, inl, inr, if◌then◌else◌}
use Rattle.std.proofs.lemmas.Bool.Decides.{nat_tests}
use Rattle.qs_session_channels.specs.End.{End, Packet, received, again, packet}
use Rattle.qs_session_settling.proofs.Known.{KnownTaking, known_taking}

-- one more where the packet is the next of incarnation i for j
abbrev pub next : {M : Type 0} → ℕ → ℕ → ℕ → Packet M → ℕ
next i j taken p = if p.inc == i then (if p.to_inc == j then (if p.number == taken + 1 then taken + 1 else taken) else taken) else taken

abbrev pub reach : {M : Type 0} → ℕ → ℕ → ℕ → ℕ → List (Packet M) → ℕ
reach i j zero taken ps = taken
reach i j (suc n) taken [] = taken
reach i j (suc n) taken (p ∷ ps) = reach i j n (next i j taken p) ps

next_least : {M : Type 0} → (i j taken : ℕ) (p : Packet M) → taken ≤ next i j taken p
next_least i j taken p = grind (arith, nat_tests)

next_rises : {M : Type 0} → (i j s t : ℕ) (p : Packet M) → s ≤ t → next i j s p ≤ next i j t p
next_rises i j s t p is = grind (arith, nat_tests, is)

pub reach_least : {M : Type 0} → (i j n taken : ℕ) (ps : List (Packet M)) → taken ≤ reach i j n taken ps
reach_least i j zero taken ps = grind arith
reach_least i j (suc n) taken [] = grind arith
reach_least i j (suc n) taken (p ∷ ps) = grind (arith, next_least i j taken p, reach_least i j n (next i j taken p) ps)

pub reach_rises : {M : Type 0} → (i j n s t : ℕ) (ps : List (Packet M)) → s ≤ t → reach i j n s ps ≤ reach i j n t ps
reach_rises i j zero s t ps is = is
reach_rises i j (suc n) s t [] is = is
reach_rises i j (suc n) s t (p ∷ ps) is = reach_rises i j n (next i j s p) (next i j t p) ps (next_rises i j s t p is)

pub reach_more : {M : Type 0} → (i j n taken : ℕ) (ps more : List (Packet M)) → reach i j n taken ps ≤ reach i j n taken (ps ++ more)
reach_more i j zero taken ps more = grind arith
reach_more i j (suc n) taken [] more = reach_least i j (suc n) taken more
reach_more i j (suc n) taken (p ∷ ps) more = reach_more i j n (next i j taken p) ps more

-- all of two rows, one behind the other
pub reach_both : {M : Type 0} → (i j taken : ℕ) (ps qs : List (Packet M)) → reach i j (length qs) (reach i j (length ps) taken ps) qs ≤ reach i j (length (ps ++ qs)) taken (ps ++ qs)
reach_both i j taken [] qs = grind arith
reach_both i j taken (p ∷ ps) qs = reach_both i j (next i j taken p) ps qs

-- what is repeated from behind k on brings it up to the last
pub reach_again : {M : Type 0} → (i j r k : ℕ) (e : End M) (stamp : ℕ) (xs : List M) → e.mine ≡ i → e.known ≡ j → k ≤ r → k + length xs ≤ reach i j (length (again e stamp k xs)) r (again e stamp k xs)
reach_again i j r k e stamp [] mine known is = grind (arith, is)
reach_again i j r k e stamp (x ∷ xs) mine known is =
    let below : k + 1 ≤ next i j r (packet e e.known (k + 1) stamp x) = grind (arith, nat_tests, mine, known, is) in
    grind (arith, reach_again i j (next i j r (packet e e.known (k + 1) stamp x)) (k + 1) e stamp xs mine known below)

next_by : {M : Type 0} → (i j : ℕ) (e f : End M) (p : Packet M) → e.known ≡ i → e.mine ≡ j → KnownTaking e p f → next i j e.taken p ≤ f.taken
next_by i j e f p known mine (inl t) = grind (arith, nat_tests, t.older, t.same, known)
next_by i j e f p known mine (inr (inl t)) = grind (arith, nat_tests, t.for, t.same, mine)
next_by i j e f p known mine (inr (inr t)) = grind (arith, nat_tests, t.taken)

pub next_taken : {M : Type 0} → (i j : ℕ) (e : End M) (p : Packet M) → e.known ≡ i → e.mine ≡ j → p.inc ≤ e.known → next i j e.taken p ≤ (received e p).taken
next_taken i j e p known mine is = next_by i j e (received e p) p known mine (known_taking e p is)
