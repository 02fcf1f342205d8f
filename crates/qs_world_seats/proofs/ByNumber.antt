-- Clients that stand by number have numbers of their own.
use Rattle.std.proofs.Common.{◌≡◌, ◌⊎◌, ◌<◌, inl, inr, refl, subst, sym, ℕ, ◌==◌, zero, suc, Bool, true, false, List, [], ◌∷◌, ◌++◌, append-nil, arith, if◌then◌else◌, map}
use Rattle.std.proofs.lemmas.Bool.Decides.{nat_tests}
use Rattle.qs_base.specs.declared.identifiers.ClientNo.{ClientNo}
use Rattle.qs_client.specs.declared.cell.ClientCell.{ClientCell}
use Rattle.qs_session_channels.proofs.Grown.{among_append}
use Rattle.qs_session_channels.specs.Network.{Among}
use Rattle.qs_world_merge.proofs.Members.{map_among}
use Rattle.qs_world_rounds.specs.Seats.{number_of}
use Rattle.qs_world_seats.proofs.Apart.{NumbersApart, of_numbers}
use Rattle.qs_world_seats.specs.Sites.{ByNumber, numbers_below}

-- one more, which is above all others
apart_more : (ns : List ClientNo) (k : ClientNo) → NumbersApart ns → ((m : ClientNo) → Among ns m → m.0 < k.0) → NumbersApart (ns ++ k ∷ [])
apart_more [] k apart less = ((λ m there. absurd there), tt)
apart_more (n ∷ ns) k apart less = ((λ m there. by m (among_append ns (k ∷ []) m there)), apart_more ns k apart.1 (λ m there. less m (inr there)))
  where
    above : (a b : ℕ) → a < b → (b == a) ≡ false
    above a b lt = grind (arith, nat_tests)

    by : (m : ClientNo) → Among ns m ⊎ Among (k ∷ []) m → (m.0 == n.0) ≡ false
    by m (inl front) = apart.0 m front
    by m (inr (inl is)) = subst (λ (c : ClientNo). (c.0 == n.0) ≡ false) is (above n.0 k.0 (less n (inl refl)))
    by m (inr (inr there)) = absurd there

record AreSo (limit : ℕ) (numbers : List ClientNo) : Type 0 where
  apart : NumbersApart numbers
  below : (k : ClientNo) → Among numbers k → k.0 < limit

one_more : (is : Bool) (n : ℕ) (numbers : List ClientNo) → AreSo n numbers → AreSo (suc n) (numbers ++ (if is then record { 0 = n } ∷ [] else []))
one_more false n numbers so = subst (AreSo (suc n)) (sym (append-nil numbers)) (record { apart = so.apart; below = λ k there. up k.0 n (so.below k there) })
  where
    up : (a b : ℕ) → a < b → a < suc b
    up a b less = omega arith
one_more true n numbers so = record { apart = apart_more numbers last so.apart so.below; below = λ k there. by k (among_append numbers (last ∷ []) k there) }
  where
    last : ClientNo
    last = record { 0 = n }

    up : (a b : ℕ) → a < b → a < suc b
    up a b less = omega arith

    at_last : (a : ℕ) → a < suc a
    at_last a = omega arith

    by : (k : ClientNo) → Among numbers k ⊎ Among (last ∷ []) k → k.0 < suc n
    by k (inl front) = up k.0 n (so.below k front)
    by k (inr (inl is)) = subst (λ (c : ClientNo). c.0 < suc n) is (at_last n)
    by k (inr (inr there)) = absurd there

all_so : (is : ClientNo → Bool) (limit : ℕ) → AreSo limit (numbers_below is limit)
all_so is zero = record { apart = tt; below = λ k there. absurd there }
all_so is (suc n) = one_more (is (record { 0 = n })) n (numbers_below is n) (all_so is n)

pub each_by_number : (is : ClientNo → Bool) (limit : ℕ) (clients : List ClientCell) → ByNumber is limit clients
each_by_number is limit clients numbers = record {
  apart = of_numbers clients so.apart;
  below = λ client there. so.below client.client (map_among number_of clients client client.client there refl);
}
  where
    so : AreSo limit (map number_of clients)
    so = subst (AreSo limit) (sym numbers) (all_so is limit)
