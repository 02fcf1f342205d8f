-- Packets among the first ones of a link.
use Rattle.std.proofs.Common.{◌⊎◌, ℕ, zero, suc, List, [], ◌∷◌, ◌++◌, length, inl, inr}
use Rattle.qs_session_channels.specs.End.{Packet}

-- one of the first n is so
abbrev pub Within : {M : Type 0} → (Packet M → Type 0) → ℕ → List (Packet M) → Type 0
Within Q zero ps = ⊥
Within Q (suc n) [] = ⊥
Within Q (suc n) (p ∷ ps) = Q p ⊎ Within Q n ps

pub within_more : {M : Type 0} → (Q : Packet M → Type 0) (n : ℕ) (ps more : List (Packet M)) → Within Q n ps → Within Q n (ps ++ more)
within_more Q zero ps more h = absurd h
within_more Q (suc n) [] more h = absurd h
within_more Q (suc n) (p ∷ ps) more (inl h) = inl h
within_more Q (suc n) (p ∷ ps) more (inr h) = inr (within_more Q n ps more h)

-- one of all is so
pub within_front : {M : Type 0} → (Q : Packet M → Type 0) (ps more : List (Packet M)) → Within Q (length ps) ps → Within Q (length (ps ++ more)) (ps ++ more)
within_front Q [] more h = absurd h
within_front Q (p ∷ ps) more (inl h) = inl h
within_front Q (p ∷ ps) more (inr h) = inr (within_front Q ps more h)

pub within_behind : {M : Type 0} → (Q : Packet M → Type 0) (ps qs : List (Packet M)) → Within Q (length qs) qs → Within Q (length (ps ++ qs)) (ps ++ qs)
within_behind Q [] qs h = h
within_behind Q (p ∷ ps) qs h = inr (within_behind Q ps qs h)
