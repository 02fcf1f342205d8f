-- Packets behind the first ones of a link.
use Rattle.std.proofs.Common.{ℕ, zero, suc, List, [], ◌∷◌, ◌++◌, length}
use Rattle.std.specs.Prelude.{⊤}
use Rattle.qs_session_channels.specs.End.{Packet}
use Rattle.qs_session_settling.proofs.Ticking.{Each}

-- each behind the first n is so
abbrev pub Behind : {M : Type 0} → (Packet M → Type 0) → ℕ → List (Packet M) → Type 0
Behind Q n [] = ⊤
Behind Q zero (p ∷ ps) = Q p × Behind Q zero ps
Behind Q (suc n) (p ∷ ps) = Behind Q n ps

of_each : {M : Type 0} → (Q : Packet M → Type 0) (n : ℕ) (ps : List (Packet M)) → Each Q ps → Behind Q n ps
of_each Q n [] is = tt
of_each Q zero (p ∷ ps) is = (is.0, of_each Q zero ps is.1)
of_each Q (suc n) (p ∷ ps) is = of_each Q n ps is.1

pub behind_more : {M : Type 0} → (Q : Packet M → Type 0) (n : ℕ) (ps more : List (Packet M)) → Behind Q n ps → Each Q more → Behind Q n (ps ++ more)
behind_more Q n [] more is goes = of_each Q n more goes
behind_more Q zero (p ∷ ps) more is goes = (is.0, behind_more Q zero ps more is.1 goes)
behind_more Q (suc n) (p ∷ ps) more is goes = behind_more Q n ps more is goes

pub behind_map : {M : Type 0} → (Q R : Packet M → Type 0) → ((p : Packet M) → Q p → R p) → (n : ℕ) (ps : List (Packet M)) → Behind Q n ps → Behind R n ps
behind_map Q R so n [] is = tt
behind_map Q R so zero (p ∷ ps) is = (so p is.0, behind_map Q R so zero ps is.1)
behind_map Q R so (suc n) (p ∷ ps) is = behind_map Q R so n ps is

pub behind_none : {M : Type 0} → (Q : Packet M → Type 0) (ps : List (Packet M)) → Behind Q 0 ps → Each Q ps
behind_none Q [] is = tt
behind_none Q (p ∷ ps) is = (is.0, behind_none Q ps is.1)

pub behind_all : {M : Type 0} → (Q : Packet M → Type 0) (ps : List (Packet M)) → Behind Q (length ps) ps
behind_all Q [] = tt
behind_all Q (p ∷ ps) = behind_all Q ps
