-- Two nodes of a run of the network, with any packets on the links between them that the run sent.
use Rattle.std.specs.Prelude.{◌≡◌, ℕ, true, List, [], ◌∷◌, ⊤}
use Rattle.qs_session_channels.specs.End.{Packet}
use Rattle.qs_session_channels.specs.Network.{Network, Event, Among, Run, start}
use Rattle.qs_session_settling.specs.Pairs.{Pair}
use Rattle.qs_session_settling.specs.Passes.{QuietPasses}
use Rattle.qs_session_settling.specs.Consistent.{IsConsistent, OneRoseLast}
use Rattle.qs_session_settling.specs.Settled.{IsSettled}

-- each of a list was sent
abbrev pub AreAmong : {A : Type 0} → List A → List A → Type 0
AreAmong sent [] = ⊤
AreAmong sent (p ∷ ps) = Among sent p × AreAmong sent ps

-- n on the left and m on the right, with those packets on the links
abbrev pub between : {M : Type 0} → Network M → ℕ → ℕ → List (Packet M) → List (Packet M) → Pair M
between w n m there back = record { left = record { end = w.end n m; link = there }; right = record { end = w.end m n; link = back } }

-- two nodes that run, and what stands on the links between them
pub record AreUp {M : Type 0} (w : Network M) (n m : ℕ) (there back : List (Packet M)) : Type 0 where
  pub left : w.up n ≡ true
  pub right : w.up m ≡ true
  pub sent_there : AreAmong (w.packets n m) there
  pub sent_back : AreAmong (w.packets m n) back

-- a run leaves them so
abbrev pub EachRunLeaves : (M : Type 0) → Type 0
EachRunLeaves M = (hello : M) (inc : ℕ → ℕ) (es : List (Event M)) (w : Network M) → Run hello (start inc) es w → (n m : ℕ) (there back : List (Packet M)) → AreUp w n m there back
    → IsConsistent (between w n m there back) × OneRoseLast (between w n m there back)

-- so passes settle them, whatever the run has lost, repeated and held before, and whoever crashed in it
abbrev pub EachRunSettles : (M : Type 0) → Type 0
EachRunSettles M = (hello : M) (inc : ℕ → ℕ) (es : List (Event M)) (w : Network M) → Run hello (start inc) es w → (n m : ℕ) (there back : List (Packet M)) → AreUp w n m there back
    → (new : Pair M) → QuietPasses hello 11 (between w n m there back) new → IsSettled (between w n m there back) new
